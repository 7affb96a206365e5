-- Where a form is evaluated in both ways, and how that goes from one form to the next.
use Rattle.std.proofs.Common.{◌≡◌, ℕ, ◌<◌, List, [], ◌∷◌, map, length, Bool, true, false, Option, Some, None, refl, sym, ap, ◌∙◌}
use Rattle.std.specs.Prelude.{nat_eq, if◌then◌else◌}
use Rattle.model_terms.specs.Worlds.{AbstractDescriptor, Out, Scope, World}
use Rattle.model_answers.specs.Beside.{AlikeBy, AnswersAs, AreTogether, GivesAs, GoesWith, KnowsVariables, Run, named_variables}
use Rattle.model_follows.proofs.HeldThings.{AreKin, Ground, Held, Kin, KinBy, ground_book, held, itself}
use Rattle.model_accepted.specs.StobjScopes.{AreOutputs, AreVariables}
use Rattle.model_in_place.specs.Standing.{AreSame, Stands}
use Rattle.model_terms.specs.Cores.{Core, Var}
use Rattle.model_follows.specs.Costs.{Counted}
use Rattle.model_follows.proofs.Following.{Did, Form, Stage, sound_less}
use Rattle.model_eval.specs.Evaluated.{Evaluator}
use Rattle.model_eval.specs.Outcomes.{Gives, Shown, State, StateOf, Stobjs}
use Rattle.model_prims.proofs.ByName.{IsNaming}
use Rattle.model_follows.specs.Follows.{IsSound, KnowsAll, table_of, thing_of_list}
use Rattle.model_in_place.proofs.CallMeeting.{May}
use Rattle.model_terms.specs.declared.rule.Mode.{Mode}
use Rattle.model_symbols.specs.Symbols.{QualifiedName, symbol_at}
use Rattle.model_lists.specs.Lists.{StobjList, as_object}
use Rattle.model_eval.specs.PlacesKeeping.{Store}
use Rattle.model_logic.specs.Logic.{Values, value_in}
use Rattle.model_eval.specs.Variables.{Variables, bound, list_of, variable_in}
use Rattle.model_answers.proofs.Lists.{beside_at}
use Rattle.model_terms.specs.Scopes.{binding, name_kinds}
use Rattle.model_answers.proofs.Naming.{bound_named, known_bound, known_variable, knows_variables_stay, variables_stay}
use Rattle.model_accepted.proofs.ScopeLemmas.{bound_objects, bound_variables}
use Rattle.model_prims.specs.Kinds.{by_name, by_number}
use Rattle.model_prims.proofs.FollowLemmas.{is_naming}
use Rattle.model_follows.proofs.ThingLemmas.{knows_nil}
use Rattle.model_follows.proofs.ListLemmas.{list_named}
use Rattle.model_symbols.specs.Opening.{nil, nil_name}
use Rattle.model_prims.proofs.NamingLemmas.{none_named}
use Rattle.model_terms.specs.Outputs.{outputs}
use Rattle.model_in_place.proofs.WriteLemmas.{stands_less, stands_moved}
use Rattle.model_terms.specs.Classes.{stobjs}
use Rattle.model_symbols.proofs.NameLemmas.{symbol_at-is}
use Rattle.model_eval_laws.specs.Scope.{names}
use Rattle.model_abstract_books.specs.Answers.{shown_named}

-- the lists of abstract evaluation, as the logic has them
abbrev pub things : Stobjs QualifiedName → Held
things stobjs = λ x. as_object by_name (list_of stobjs x)

abbrev pub values_of : List QualifiedName → Held → Variables ℕ → Values
values_of symbols lists variables = map (λ (v : ℕ × Shown ℕ). (v.0, held symbols lists v.1)) variables

value_is : (symbols : List QualifiedName) (lists : Held) → IsNaming (symbol_at symbols) (λ s. s < length symbols) → (variables : Variables ℕ) (x : ℕ)
    → value_in (values_of symbols lists variables) x ≡ held symbols lists (variable_in by_number variables x)
value_is symbols lists n [] x = none_named (symbol_at symbols) (λ s. s < length symbols) n
value_is symbols lists n (v ∷ vs) x = go (nat_eq x v.0) (value_is symbols lists n vs x)
  where
    go : (b : Bool) → value_in (values_of symbols lists vs) x ≡ held symbols lists (variable_in by_number vs x) → (if b then held symbols lists v.1 else value_in (values_of symbols lists vs) x) ≡ held symbols lists (if b then v.1 else variable_in by_number vs x)
    go true later = refl
    go false later = later

module _ (w : World) (base : Ground) where
  pub alike_kin : (symbols : List QualifiedName) → symbol_at symbols nil ≡ nil_name → (x : ℕ) (c : StobjList ℕ) (a : StobjList QualifiedName) → GoesWith w base symbols x c a → Kin w base symbols x c (as_object by_name a)
  alike_kin symbols at_nil x c a h = record { kin = go (base.view x) h.alike }
    where
      go : (v : Option AbstractDescriptor) → AlikeBy (ground_book w base) v symbols c a → KinBy (ground_book w base) v (thing_of_list symbols c) (as_object by_name a)
      go None e = ap (as_object by_name) (sym e) ∙ list_named symbols at_nil c
      go (Some d) e = e

  module _ (offset : ℕ) where
    pub naming : (s : State ℕ) (a : State QualifiedName) → AreTogether w base offset s a → IsNaming (symbol_at s.symbols) (λ n. n < length s.symbols)
    naming s a h = is_naming (table_of base.table.packages s.symbols) h.table h.truth

    pub nils : (s : State ℕ) (a : State QualifiedName) → AreTogether w base offset s a → nil < length s.symbols
    nils s a h = knows_nil (table_of base.table.packages s.symbols) h.truth

    pub kin_of : (scope : Scope) (s : State ℕ) (t : StateOf (Store ℕ)) (a : State QualifiedName) → Stands w scope s.stobjs t.stobjs → AreTogether w base offset s a → AreKin w base itself scope s.symbols s.stobjs (things a.stobjs)
    kin_of scope s t a stands h = record {
      each = λ x i.
          alike_kin s.symbols (symbol_at-is s.symbols nil nil_name h.truth.at_nil) x (list_of s.stobjs x) (list_of a.stobjs x)
          (beside_at w base s.symbols s.stobjs a.stobjs x h.lists (stands.known x i));
    }

    -- where a form is evaluated
    pub record Staged (scope : Scope) (variables : Variables ℕ) (s : State ℕ) (t : StateOf (Store ℕ)) (shown : Variables QualifiedName) (a : State QualifiedName) : Type 0 where
      pub are : AreVariables scope variables
      pub stands : Stands w scope s.stobjs t.stobjs
      pub same : AreSame s t
      pub sound : IsSound w base.table scope s.symbols s.stobjs
      pub together : AreTogether w base offset s a
      pub shown_are : shown ≡ named_variables s.symbols variables
      pub knows : KnowsVariables (length s.symbols) variables

    pub stage_of : (scope : Scope) (variables : Variables ℕ) (s : State ℕ) (t : StateOf (Store ℕ)) (shown : Variables QualifiedName) (a : State QualifiedName)
        → Staged scope variables s t shown a → Stage w base scope variables s t (values_of s.symbols (things a.stobjs) variables)
    stage_of scope variables s t shown a h = record {
      are = h.are;
      stands = h.stands;
      same = h.same;
      sound = h.sound;
      lists = things a.stobjs;
      kin = kin_of scope s t a h.stands h.together;
      named = record {
        known = λ x k i. known_variable (length s.symbols) variables x (nils s a h.together) h.knows;
        same = λ x k i. value_is s.symbols (things a.stobjs) (naming s a h.together) variables x;
      };
    }

    -- after a form
    pub staged_after : (scope : Scope) (expected : List Out) (variables : Variables ℕ) (s : State ℕ) (t : StateOf (Store ℕ)) (shown : Variables QualifiedName) (a : State QualifiedName) (logic : Counted) (given : List (Shown ℕ)) (u : State ℕ) (run : Run w base)
        → Staged scope variables s t shown a → (d : Did w base scope expected s t logic given u) → (h : GivesAs w base offset s.symbols (names s.stobjs) a.calls given u run) → Staged scope variables u d.to shown h.after
    staged_after scope expected variables s t shown a logic given u run st d h = record {
      are = st.are;
      stands = stands_moved w scope (May scope expected) s t u d.to (λ x i. i.1) st.stands d.moves;
      same = d.moves.same;
      sound = d.mine.sound;
      together = h.together;
      shown_are = st.shown_are ∙ sym (variables_stay (table_of base.table.packages s.symbols) (table_of base.table.packages u.symbols) h.more_symbols variables st.knows);
      knows = knows_variables_stay (table_of base.table.packages s.symbols) (table_of base.table.packages u.symbols) h.more_symbols variables st.knows;
    }

    -- with names that are bound
    pub staged_bound : (c : World) (scope : Scope) (xs : List ℕ) (vs : List (Shown ℕ)) (variables : Variables ℕ) (u : State ℕ) (v : StateOf (Store ℕ)) (shown : Variables QualifiedName) (a : State QualifiedName)
        → Staged scope variables u v shown a → AreOutputs scope (name_kinds c xs) vs → KnowsAll (length u.symbols) vs
        → Staged (binding c scope xs) (bound xs vs variables) u v (bound xs (map (shown_named u.symbols) vs) shown) a
    staged_bound c scope xs vs variables u v shown a st outputs known = record {
      are = bound_variables c scope xs vs variables outputs st.are;
      stands = stands_less w (binding c scope xs) scope u.stobjs v.stobjs (bound_objects c scope xs vs variables outputs) st.stands;
      same = st.same;
      sound = sound_less w base (binding c scope xs) scope u.symbols u.stobjs (bound_objects c scope xs vs variables outputs) st.sound;
      together = st.together;
      shown_are = ap (bound xs (map (shown_named u.symbols) vs)) st.shown_are ∙ bound_named u.symbols xs vs variables;
      knows = known_bound (length u.symbols) xs vs variables known st.knows;
    }

    -- ---- evaluators

    pub record Answers (ev : Evaluator ℕ) (av : ℕ → ℕ → Evaluator QualifiedName) : Type 0 where
      pub answers : (c : World) (mode : Mode) (scope : Scope) (form : Core) (formal : Option ℕ) (expected : List Out) → Form w base c mode scope form formal expected
          → (variables : Variables ℕ) (s : State ℕ) (t : StateOf (Store ℕ)) (shown : Variables QualifiedName) (a : State QualifiedName) → Staged scope variables s t shown a
          → AnswersAs w base offset s.symbols (names s.stobjs) a.calls (ev form variables s) (λ m k. av m k form shown a)
      pub leaves : (m k x : ℕ) (shown : Variables QualifiedName) (a : State QualifiedName) → av m k (Var x) shown a ≡ Gives (variable_in by_name shown x ∷ []) a
