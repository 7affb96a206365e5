-- The logic follows checked evaluation, in the words of lists that correspond: where no stobj is abstract.
use Rattle.std.specs.Prelude.{◌≡◌, ◌≢◌, ℕ, List, map, length, true, false, Some, None}
use Rattle.model_symbols.specs.Symbols.{QualifiedName, Table, form_of}
use Rattle.model_symbols.specs.Growth.{Extends}
use Rattle.model_symbols.specs.Tables.{IsTable}
use Rattle.model_prims.specs.Kinds.{by_number, by_name}
use Rattle.model_prims.specs.Laws.{NamesTruth}
use Rattle.model_lists.specs.Lists.{as_object}
use Rattle.model_terms.specs.declared.rule.Mode.{Mode}
use Rattle.model_terms.specs.declared.rule.Mode.TheVariants.{Logic}
use Rattle.model_terms.specs.Cores.{Core}
use Rattle.model_terms.specs.Worlds.{World, Descriptor, Concrete, definition, Out, Scope}
use Rattle.model_terms.specs.Scopes.{kind_in}
use Rattle.model_terms.specs.Faults.{first_fault}
use Rattle.model_terms.specs.Classes as classes
use Rattle.model_terms.specs.Classes.{has, repeats}
use Rattle.model_eval.specs.Outcomes.{Shown, Plain, StobjNamed, Stobjs, State}
use Rattle.model_eval.specs.Variables.{Variables, variable_in, list_of}
use Rattle.model_eval.specs.Checked.{checked}
use Rattle.model_logic.specs.Logic.{Theory, Thing, Values, value_in, EndsWith}
use Rattle.model_abstract.specs.Corresponding.{Correspond}
use Rattle.model_eval_laws.specs.Scope.{names, is_among}
use Rattle.model_accepted.specs.Threaded.{IsFormed, Suits, IsThreaded}
use Rattle.model_accepted.specs.StobjScopes.{IsStobj, AreVariables}
use Rattle.model_follows.specs.FollowedWorlds.{IsSuited, IsFollowed}
use Rattle.model_follows.specs.Follows.{one_thing, KnowsShown, table_of, IfGives}

-- the lists of stobjs with symbols by name
abbrev pub Lists : Type 0
Lists = Stobjs QualifiedName

-- a value of C in the logic, where the stobjs have these lists
abbrev pub as_thing : List QualifiedName → Lists → Shown ℕ → Thing
as_thing symbols lists (Plain o) = form_of symbols o
as_thing symbols lists (StobjNamed x) = as_object by_name (list_of lists x)

abbrev pub theory_with : World → Table → List QualifiedName → Theory
theory_with w base symbols = record { world = w; packages = base.packages; symbols = symbols }

-- the stobjs are those of the scope, each once, and concrete ones of the world
pub record AreInScope (w : World) (scope : Scope) (stobjs : Stobjs ℕ) : Type 0 where
  pub there : (x : ℕ) → IsStobj scope x → is_among x (names stobjs) ≡ true
  pub only : (x : ℕ) → is_among x (names stobjs) ≡ true → IsStobj scope x
  pub once : repeats (names stobjs) ≡ false
  pub concrete : (x : ℕ) → is_among x (names stobjs) ≡ true → (d : Descriptor) × (class : ℕ) × (definition w x ≡ Some (Concrete d class))

-- each variable in scope has in the logic its value on these lists
pub record AreValues (scope : Scope) (variables : Variables ℕ) (symbols : List QualifiedName) (lists : Lists) (values : Values) : Type 0 where
  pub known : (x : ℕ) (k : Out) → kind_in scope x ≡ Some k → KnowsShown (length symbols) (variable_in by_number variables x)
  pub same : (x : ℕ) (k : Out) → kind_in scope x ≡ Some k → value_in values x ≡ as_thing symbols lists (variable_in by_number variables x)

-- a stobj that is not returned has the list that it had
abbrev pub Leaves : Scope → List Out → Lists → Lists → Type 0
Leaves scope expected lists last = (x : ℕ) → IsStobj scope x → has (classes.stobjs expected) x ≡ false → as_object by_name (list_of last x) ≡ as_object by_name (list_of lists x)

pub record Follow (w : World) (base : Table) (b : Theory) (scope : Scope) (expected : List Out) (form : Core) (values : Values) (lists : Lists) (given : List (Shown ℕ)) (u : State ℕ) : Type 0 where
  pub last : Lists
  pub correspond : Correspond (theory_with w base u.symbols) u.stobjs last
  pub leaves : Leaves scope expected lists last
  pub ends : EndsWith b form values (one_thing (map (as_thing u.symbols last) given))

pub record LogicFollowsOnLists : Type 0 where
  pub follows : (w : World) (base : Table) → IsThreaded w → IsFollowed w (length base.symbols)
      → (symbols : List QualifiedName) → Extends base (table_of base.packages symbols)
      → (c : World) (mode : Mode) (scope : Scope) (form : Core) (expected : List Out) → Suits c w → mode ≢ Logic → first_fault c mode scope form expected ≡ None → IsFormed c form → IsSuited w (length base.symbols) form
      → (k d : ℕ) (variables : Variables ℕ) (s : State ℕ) (lists : Lists) (values : Values)
      → IsTable (table_of base.packages s.symbols) → NamesTruth (table_of base.packages s.symbols) → Extends base (table_of base.packages s.symbols)
      → AreVariables scope variables → AreInScope w scope s.stobjs → Correspond (theory_with w base s.symbols) s.stobjs lists → AreValues scope variables s.symbols lists values
      → IfGives (Follow w base (theory_with w base symbols) scope expected form values lists) (checked w base.packages k d form variables s)
