-- The lists of stobjs in L: of a stobj that is seen as it is, C's list by name; of one that is seen through an abstraction,
-- an abstract list that corresponds to C's.
use Rattle.std.specs.Prelude.{◌≡◌, ℕ, List, [], ◌∷◌, map, length, ◌<◌, true, false, Option, Some, None}
use Rattle.model_objects.specs.Object.{Symbol}
use Rattle.model_objects.specs.Named.{Symbols}
use Rattle.model_symbols.specs.Symbols.{QualifiedName, Table, form_of}
use Rattle.model_symbols.specs.Opening.{truth_name}
use Rattle.model_lists.specs.Lists.{StobjList}
use Rattle.model_terms.specs.Worlds.{World, AbstractDescriptor, Out, Scope, Function, GeneratedFunction, Defined, Generated, definition}
use Rattle.model_terms.specs.Scopes.{kind_in}
use Rattle.model_eval.specs.Outcomes.{Shown, Plain, StobjNamed, Stobjs}
use Rattle.model_eval.specs.Variables.{Variables, variable_in, list_of}
use Rattle.model_logic.specs.Logic.{Theory, Thing, Values, value_in, CallEndsWith}
use Rattle.model_abstract.specs.Corresponding.{CallHolds, HasPackage}
use Rattle.model_accepted.specs.StobjScopes.{IsStobj}
use Rattle.model_prims.specs.Kinds.{by_number}
use Rattle.model_lists_laws.specs.Laws.{HasInitials}
use Rattle.model_terms.specs.Classes.{congruent}
use Rattle.model_terms.specs.Nested.{child_stobj}
use Rattle.model_terms.specs.Accessors.{ChildAccessor, child_accessor, is_internal}
use Rattle.model_accepted.specs.Threaded.{layout_of, IsThreaded}
use Rattle.model_follows.specs.FollowedWorlds.{LayoutSymbols, IsMadeFor, IsSuited}
use Rattle.model_follows.specs.Follows.{thing_of_list, KnowsShown}

-- the table of the constants, the symbols that the book has, and which stobjs are seen through an abstraction
pub record Ground : Type 0 where
  pub table : Table
  pub written : List QualifiedName
  pub view : ℕ → Option AbstractDescriptor

-- the list of each stobj in L
abbrev pub Held : Type 0
Held = ℕ → Thing

abbrev pub held : List QualifiedName → Held → Shown ℕ → Thing
held symbols lists (Plain o) = form_of symbols o
held symbols lists (StobjNamed x) = lists x

abbrev pub all_held : List QualifiedName → Held → List (Shown ℕ) → List Thing
all_held symbols lists vs = map (held symbols lists) vs

-- ---- how the lists of C and L belong together

abbrev pub ground_book : World → Ground → Theory
ground_book w g = record { world = w; packages = g.table.packages; symbols = g.written }

-- a foundation's list and an abstract one
pub record IsViewed (b : Theory) (d : AbstractDescriptor) (c a : Thing) : Type 0 where
  pub corresponding : CallHolds b d.corr (c ∷ a ∷ [])
  pub well_formed : CallEndsWith b d.recognizer.logic (a ∷ []) (Symbol truth_name)
  pub homes : Symbols (HasPackage b) a

abbrev pub KinBy : Theory → Option AbstractDescriptor → Thing → Thing → Type 0
KinBy b None c a = a ≡ c
KinBy b (Some d) c a = IsViewed b d c a

-- the list of C, and that of L, of a stobj that counts as the stobj of this name
pub record Kin (w : World) (g : Ground) (symbols : List QualifiedName) (x : ℕ) (l : StobjList ℕ) (a : Thing) : Type 0 where
  pub kin : KinBy (ground_book w g) (g.view x) (thing_of_list symbols l) a

-- the same of each stobj in scope; `as` says as which stobj a variable counts
pub record AreKin (w : World) (g : Ground) (seen_as : ℕ → ℕ) (scope : Scope) (symbols : List QualifiedName) (stobjs : Stobjs ℕ) (lists : Held) : Type 0 where
  pub each : (x : ℕ) → IsStobj scope x → Kin w g symbols (seen_as x) (list_of stobjs x) (lists x)

-- a variable counts as the stobj of its name
abbrev pub itself : ℕ → ℕ
itself x = x

-- each variable in scope has known symbols, and in L its value
pub record AreHeld (scope : Scope) (variables : Variables ℕ) (symbols : List QualifiedName) (lists : Held) (values : Values) : Type 0 where
  pub known : (x : ℕ) (k : Out) → kind_in scope x ≡ Some k → KnowsShown (length symbols) (variable_in by_number variables x)
  pub same : (x : ℕ) (k : Out) → kind_in scope x ≡ Some k → value_in values x ≡ held symbols lists (variable_in by_number variables x)

-- ---- worlds

-- what was found in the world of the check is seen alike
pub record AreSeenIn (w : World) (base : Ground) (c : World) : Type 0 where
  pub alike : (x y : ℕ) → congruent c x y ≡ true → base.view x ≡ base.view y
  pub plain : (f : ℕ) (a : ChildAccessor) → child_accessor c f ≡ Some a → (base.view a.stobj ≡ None) × (base.view (child_stobj a.holds) ≡ None)

-- what is asked of the world, beside what evaluation in place asks
pub record Lawful (w : World) (base : Ground) (threaded : IsThreaded w) : Type 0 where
  pub functions : (x : ℕ) (f : Function) → definition w x ≡ Some (Defined f) → f.executable ≡ true → IsSuited w (length base.table.symbols) f.guard × IsSuited w (length base.table.symbols) f.body
  pub worlds : (x : ℕ) (f : Function) (there : definition w x ≡ Some (Defined f)) (runs : f.executable ≡ true)
      → AreSeenIn w base (threaded.functions x f there runs).guard.world × AreSeenIn w base (threaded.functions x f there runs).body.world
  pub made : (x : ℕ) (g : GeneratedFunction) → definition w x ≡ Some (Generated g) → is_internal w (Generated g) ≡ false → IsMadeFor w g
  pub plain : (x : ℕ) (g : GeneratedFunction) → definition w x ≡ Some (Generated g) → base.view g.stobj ≡ None
  pub layouts : (x : ℕ) → LayoutSymbols (λ s. s < length base.table.symbols) (layout_of w x)
  pub initials : (x : ℕ) → HasInitials by_number (layout_of w x)
