-- What L gives beside what C gives, where no stobj is abstract: states and values of C as the logic has them.
use Rattle.std.specs.Prelude.{◌≡◌, ◌≢◌, ℕ, List, [], ◌∷◌, map, length, true, false, Some, None}
use Rattle.model_objects.specs.Named.{Knows}
use Rattle.model_symbols.specs.Symbols.{QualifiedName, Package, Table, form_of}
use Rattle.model_symbols.specs.Growth.{Extends}
use Rattle.model_symbols.specs.Tables.{IsTable}
use Rattle.model_prims.specs.Kinds.{by_number, by_name}
use Rattle.model_prims.specs.Laws.{NamesTruth}
use Rattle.model_lists.specs.Lists.{StobjList, as_object}
use Rattle.model_lists.specs.Layouts.{recognizes}
use Rattle.model_lists.specs.LiveLists.{HasFields}
use Rattle.model_terms.specs.declared.rule.Mode.{Mode}
use Rattle.model_terms.specs.declared.rule.Mode.TheVariants.{Logic}
use Rattle.model_terms.specs.Cores.{Core}
use Rattle.model_terms.specs.Worlds.{World, Out, Scope}
use Rattle.model_terms.specs.Scopes.{kind_in}
use Rattle.model_terms.specs.Faults.{first_fault}
use Rattle.model_terms.specs.Classes as classes
use Rattle.model_terms.specs.Classes.{has}
use Rattle.model_eval.specs.Outcomes.{Shown, Plain, StobjNamed, Stobjs, State, Outcome, Gives, Stops, Unknown}
use Rattle.model_eval.specs.Variables.{Variables, variable_in, list_of}
use Rattle.model_eval.specs.Checked.{checked}
use Rattle.model_logic.specs.Logic.{Theory, Thing, Values, value_in, EndsWith}
use Rattle.model_logic.specs.LogicFunctions.{as_list}
use Rattle.model_eval_laws.specs.Scope.{names, is_among}
use Rattle.model_accepted.specs.Threaded.{layout_of, IsFormed, Suits, IsThreaded}
use Rattle.model_accepted.specs.StobjScopes.{IsStobj, AreVariables, AreOutputs}
use Rattle.model_follows.specs.FollowedWorlds.{KnowsList, IsSuited, IsFollowed}

-- ---- values of C as the logic has them

-- the list of an object, as an object of the logic
abbrev pub thing_of_list : List QualifiedName → StobjList ℕ → Thing
thing_of_list symbols l = form_of symbols (as_object by_number l)

abbrev pub thing_of : List QualifiedName → Stobjs ℕ → Shown ℕ → Thing
thing_of symbols stobjs (Plain o) = form_of symbols o
thing_of symbols stobjs (StobjNamed x) = thing_of_list symbols (list_of stobjs x)

abbrev pub things_of : List QualifiedName → Stobjs ℕ → List (Shown ℕ) → List Thing
things_of symbols stobjs vs = map (thing_of symbols stobjs) vs

-- one value is itself, several are their list
abbrev pub one_thing : List Thing → Thing
one_thing [] = as_list by_name []
one_thing (v ∷ []) = v
one_thing (v ∷ (u ∷ us)) = as_list by_name (v ∷ (u ∷ us))

-- ---- states

abbrev pub KnowsShown : ℕ → Shown ℕ → Type 0
KnowsShown n (Plain o) = Knows n o
KnowsShown n (StobjNamed x) = Unit {0}

abbrev pub KnowsAll : ℕ → List (Shown ℕ) → Type 0
KnowsAll n [] = Unit {0}
KnowsAll n (v ∷ vs) = KnowsShown n v × KnowsAll n vs

abbrev pub table_of : List Package → List QualifiedName → Table
table_of packages symbols = record { packages = packages; symbols = symbols }

-- the symbols are those of a table that has grown from the book's, and the list of each stobj in scope has known symbols
-- and is what its recognizer wants
pub record IsSound (w : World) (base : Table) (scope : Scope) (symbols : List QualifiedName) (stobjs : Stobjs ℕ) : Type 0 where
  pub table : IsTable (table_of base.packages symbols)
  pub truth : NamesTruth (table_of base.packages symbols)
  pub grown : Extends base (table_of base.packages symbols)
  pub known : (x : ℕ) → IsStobj scope x → KnowsList (length symbols) (list_of stobjs x)
  pub recognized : (x : ℕ) → IsStobj scope x → recognizes by_number (layout_of w x) (as_object by_number (list_of stobjs x)) ≡ true

-- each variable in scope has known symbols, and in the logic its value
pub record AreNamed (scope : Scope) (variables : Variables ℕ) (symbols : List QualifiedName) (stobjs : Stobjs ℕ) (values : Values) : Type 0 where
  pub known : (x : ℕ) (k : Out) → kind_in scope x ≡ Some k → KnowsShown (length symbols) (variable_in by_number variables x)
  pub same : (x : ℕ) (k : Out) → kind_in scope x ≡ Some k → value_in values x ≡ thing_of symbols stobjs (variable_in by_number variables x)

-- ---- outcomes

-- a stobj that is not among the outputs has the list that it had
abbrev pub LeavesUnreturned : Scope → List Out → State ℕ → State ℕ → Type 0
LeavesUnreturned scope expected s u = (x : ℕ) → IsStobj scope x → has (classes.stobjs expected) x ≡ false → list_of u.stobjs x ≡ list_of s.stobjs x

pub record Followed (w : World) (base : Table) (b : Theory) (scope : Scope) (expected : List Out) (form : Core) (values : Values) (s : State ℕ) (given : List (Shown ℕ)) (u : State ℕ) : Type 0 where
  pub outputs : AreOutputs scope expected given
  pub unreturned : LeavesUnreturned scope expected s u
  pub same_names : names u.stobjs ≡ names s.stobjs
  pub grown : Extends (table_of base.packages s.symbols) (table_of base.packages u.symbols)
  pub sound : IsSound w base scope u.symbols u.stobjs
  pub fits : (x : ℕ) → IsStobj scope x → HasFields (layout_of w x) (list_of u.stobjs x)
  pub known : KnowsAll (length u.symbols) given
  pub ends : EndsWith b form values (one_thing (things_of u.symbols u.stobjs given))

abbrev pub IfGives : (List (Shown ℕ) → State ℕ → Type 0) → Outcome ℕ → Type 0
IfGives P (Gives values u) = P values u
IfGives P (Stops stop origin u) = Unit {0}
IfGives P Unknown = ⊥

-- each stobj in scope has a list, which has the fields of its layout
pub record AreFitting (w : World) (scope : Scope) (stobjs : Stobjs ℕ) : Type 0 where
  pub known : (x : ℕ) → IsStobj scope x → is_among x (names stobjs) ≡ true
  pub fits : (x : ℕ) → IsStobj scope x → HasFields (layout_of w x) (list_of stobjs x)

-- where checked evaluation of a form that was accepted ends with values, the logic's value of the form ends, and is those
-- values with their symbols by name; the lists of stobjs that are not returned stay
pub record LogicFollows : Type 0 where
  pub follows : (w : World) (base : Table) → IsThreaded w → IsFollowed w (length base.symbols)
      → (symbols : List QualifiedName) → Extends base (record { packages = base.packages; symbols = symbols })
      → (c : World) (mode : Mode) (scope : Scope) (form : Core) (expected : List Out) → Suits c w → mode ≢ Logic → first_fault c mode scope form expected ≡ None → IsFormed c form → IsSuited w (length base.symbols) form
      → (k d : ℕ) (variables : Variables ℕ) (s : State ℕ) (values : Values)
      → AreVariables scope variables → AreFitting w scope s.stobjs → IsSound w base scope s.symbols s.stobjs → AreNamed scope variables s.symbols s.stobjs values
      → IfGives (Followed w base (record { world = w; packages = base.packages; symbols = symbols }) scope expected form values s) (checked w base.packages k d form variables s)
