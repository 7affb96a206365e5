-- When a state of abstract evaluation goes with one of checked evaluation, and when an outcome does.
use Rattle.std.specs.Prelude.{◌≡◌, ℕ, ◌+◌, ◌≤◌, List, [], ◌∷◌, map, length, true, false, Option, Some, None}
use Rattle.model_symbols.specs.Symbols.{QualifiedName}
use Rattle.model_symbols.specs.Growth.{Extends}
use Rattle.model_symbols.specs.Tables.{IsTable}
use Rattle.model_prims.specs.Kinds.{by_number, by_name}
use Rattle.model_prims.specs.Laws.{NamesTruth}
use Rattle.model_lists.specs.Lists.{StobjList, as_object}
use Rattle.model_lists.specs.Layouts.{recognizes}
use Rattle.model_lists.specs.LiveLists.{HasFields}
use Rattle.model_terms.specs.Worlds.{World, AbstractDescriptor}
use Rattle.model_eval.specs.Outcomes.{Shown, Stop, Origin, Stobjs, State, Outcome, Gives, Stops, Unknown}
use Rattle.model_eval.specs.Variables.{Variables}
use Rattle.model_logic.specs.Logic.{Theory}
use Rattle.model_abstract.specs.Corresponding.{named_list}
use Rattle.model_abstract_books.specs.Answers.{shown_named, stop_named, is_excepted_stop}
use Rattle.model_eval_laws.specs.Scope.{names}
use Rattle.model_accepted.specs.Threaded.{layout_of}
use Rattle.model_follows.specs.FollowedWorlds.{KnowsList}
use Rattle.model_follows.specs.Follows.{thing_of_list, KnowsShown, KnowsAll, table_of}
use Rattle.model_follows.specs.Held.{Ground, ground_book, IsViewed}

-- ---- variables

abbrev pub named_variables : List QualifiedName → Variables ℕ → Variables QualifiedName
named_variables symbols variables = map (λ v. (v.0, shown_named symbols v.1)) variables

abbrev pub KnowsVariables : ℕ → Variables ℕ → Type 0
KnowsVariables n [] = Unit {0}
KnowsVariables n (v ∷ vs) = KnowsShown n v.1 × KnowsVariables n vs

-- ---- lists of stobjs

-- a list of checked evaluation and one of abstract evaluation, of a stobj that is seen as it is, or through an abstraction
abbrev pub AlikeBy : Theory → Option AbstractDescriptor → List QualifiedName → StobjList ℕ → StobjList QualifiedName → Type 0
AlikeBy b None symbols c a = named_list symbols c ≡ a
AlikeBy b (Some d) symbols c a = IsViewed b d (thing_of_list symbols c) (as_object by_name a)

module _ (w : World) (g : Ground) where
  pub record GoesWith (symbols : List QualifiedName) (x : ℕ) (c : StobjList ℕ) (a : StobjList QualifiedName) : Type 0 where
    pub fits : HasFields (layout_of w x) c
    pub recognized : recognizes by_number (layout_of w x) (as_object by_number c) ≡ true
    pub known : KnowsList (length symbols) c
    pub alike : AlikeBy (ground_book w g) (g.view x) symbols c a

  -- the lists of the same stobjs, one after another
  abbrev pub AreBeside : List QualifiedName → Stobjs ℕ → Stobjs QualifiedName → Type 0
  AreBeside symbols [] [] = Unit {0}
  AreBeside symbols [] (m ∷ ms) = ⊥
  AreBeside symbols (c ∷ cs) [] = ⊥
  AreBeside symbols (c ∷ cs) (m ∷ ms) = (c.0 ≡ m.0) × GoesWith symbols c.0 c.1 m.1 × AreBeside symbols cs ms

  -- ---- states

  -- `offset` calls were counted before the evaluation; since then abstract evaluation has counted the outer calls
  pub record AreTogether (offset : ℕ) (s : State ℕ) (a : State QualifiedName) : Type 0 where
    pub table : IsTable (table_of g.table.packages s.symbols)
    pub truth : NamesTruth (table_of g.table.packages s.symbols)
    pub grown : Extends g.table (table_of g.table.packages s.symbols)
    pub lists : AreBeside s.symbols s.stobjs a.stobjs
    pub outer : a.outer ≡ s.outer
    pub calls : a.calls ≡ offset + s.outer

  -- ---- outcomes

  -- abstract evaluation, by its budget and its limit of calls
  abbrev pub Run : Type 0
  Run = ℕ → ℕ → Outcome QualifiedName

  -- within any budget that suffices, and any limit that is not met, abstract evaluation gives the same values. Here `old`, `names`
  -- and `low` are the symbols, the names of stobjs and the calls of abstract evaluation at the start
  pub record GivesAs (offset : ℕ) (old : List QualifiedName) (there : List ℕ) (low : ℕ) (given : List (Shown ℕ)) (u : State ℕ) (run : Run) : Type 0 where
    pub after : State QualifiedName
    pub together : AreTogether offset u after
    pub more_symbols : Extends (table_of g.table.packages old) (table_of g.table.packages u.symbols)
    pub same_names : names u.stobjs ≡ there
    pub more : low ≤ after.calls
    pub knows : KnowsAll (length u.symbols) given
    pub budget : ℕ
    pub runs : (m k : ℕ) → budget ≤ m → after.calls ≤ k → run m k ≡ Gives (map (shown_named u.symbols) given) after

  -- the same of a stop
  pub record StopsAs (offset : ℕ) (old : List QualifiedName) (there : List ℕ) (low : ℕ) (stop : Stop ℕ) (origin : Origin) (u : State ℕ) (run : Run) : Type 0 where
    pub after : State QualifiedName
    pub together : AreTogether offset u after
    pub more_symbols : Extends (table_of g.table.packages old) (table_of g.table.packages u.symbols)
    pub same_names : names u.stobjs ≡ there
    pub more : low ≤ after.calls
    pub budget : ℕ
    pub runs : (m k : ℕ) → budget ≤ m → after.calls ≤ k → run m k ≡ Stops (stop_named u.symbols stop) origin after

  -- what checked evaluation ends with, unless it stopped at a limit or inside an export, abstract evaluation ends with
  abbrev pub AnswersAs : ℕ → List QualifiedName → List ℕ → ℕ → Outcome ℕ → Run → Type 0
  AnswersAs offset old there low (Gives given u) run = GivesAs offset old there low given u run
  AnswersAs offset old there low (Stops stop origin u) run = is_excepted_stop stop origin.inside ≡ false → StopsAs offset old there low stop origin u run
  AnswersAs offset old there low Unknown run = Unit {0}
