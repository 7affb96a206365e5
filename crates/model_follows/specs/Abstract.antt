-- The logic follows checked evaluation where stobjs may be abstract. What the admission of abstract stobjs proved is said of
-- values of the logic.
use Rattle.std.specs.Prelude.{◌≡◌, ◌≢◌, ℕ, List, [], ◌∷◌, length, false, Option, Some, None}
use Rattle.model_symbols.specs.Symbols.{QualifiedName, Table}
use Rattle.model_symbols.specs.Growth.{Extends}
use Rattle.model_symbols.specs.Opening.{truth_name}
use Rattle.model_objects.specs.Object.{Symbol}
use Rattle.model_objects.specs.Named.{Symbols}
use Rattle.model_prims.specs.Kinds.{by_name, is_nil}
use Rattle.model_lists.specs.Lists.{as_object}
use Rattle.model_lists.specs.Layouts.{initial}
use Rattle.model_lists.specs.LiveLists.{HasFields}
use Rattle.model_terms.specs.declared.rule.Mode.{Mode}
use Rattle.model_terms.specs.declared.rule.Mode.TheVariants.{Logic}
use Rattle.model_terms.specs.declared.role.AbstractRole.TheVariants as abstract_role
use Rattle.model_terms.specs.Cores.{Core}
use Rattle.model_terms.specs.Worlds.{World, Definition, AbstractDescriptor, FunctionOfAbstract, Primitive, Defined, Macro, Constant, Concrete, Generated, Abstract, OfAbstract, Named, Signed, Out, Ordinary, Stobj, definition, Scope}
use Rattle.model_terms.specs.Classes as classes
use Rattle.model_terms.specs.Classes.{has, repeats}
use Rattle.model_terms.specs.Faults.{first_fault}
use Rattle.model_eval.specs.Outcomes.{Shown, State}
use Rattle.model_eval.specs.Variables.{Variables, list_of}
use Rattle.model_eval.specs.StobjLayouts.{stobj_layout}
use Rattle.model_eval.specs.Checked.{checked}
use Rattle.model_logic.specs.Logic.{Theory, Thing, Values, bind, seen, EndsWith, CallEndsWith}
use Rattle.model_abstract.specs.Rules.{out_parts}
use Rattle.model_abstract.specs.Corresponding.{CallHolds, HasPackage}
use Rattle.model_eval_laws.specs.Scope.{names}
use Rattle.model_accepted.specs.Threaded.{layout_of, IsFormed, Suits, IsExport, IsThreaded}
use Rattle.model_accepted.specs.StobjScopes.{IsStobj, AreVariables, AreOutputs}
use Rattle.model_follows.specs.FollowedWorlds.{IsSuited}
use Rattle.model_follows.specs.Follows.{KnowsAll, table_of, IsSound, AreFitting, LeavesUnreturned, IfGives}
use Rattle.model_follows.specs.Held.{Ground, Held, all_held, ground_book, AreKin, itself, AreHeld, AreSeenIn, Lawful}

-- ---- obligations over values

-- the arguments of a function with these inputs: ordinary ones in their order, and the stobj
abbrev pub arguments_with : List Out → List Thing → Thing → List Thing
arguments_with [] os a = []
arguments_with (Ordinary ∷ ks) [] a = []
arguments_with (Ordinary ∷ ks) (o ∷ os) a = o ∷ arguments_with ks os a
arguments_with (Stobj x ∷ ks) os a = a ∷ arguments_with ks os a

-- an abstract list that its recognizer wants
abbrev pub IsWellFormed : Theory → AbstractDescriptor → Thing → Type 0
IsWellFormed b d a = CallEndsWith b d.recognizer.logic (a ∷ []) (Symbol truth_name)

-- ordinary outputs are equal, and the stobjs correspond
abbrev pub OutputsCorrespond : Theory → AbstractDescriptor → List Out → List Thing → List Thing → Type 0
OutputsCorrespond b d [] [] [] = Unit {0}
OutputsCorrespond b d [] [] (l ∷ ls) = ⊥
OutputsCorrespond b d [] (e ∷ es) ls = ⊥
OutputsCorrespond b d (k ∷ ks) [] ls = ⊥
OutputsCorrespond b d (k ∷ ks) (e ∷ es) [] = ⊥
OutputsCorrespond b d (Ordinary ∷ ks) (e ∷ es) (l ∷ ls) = (e ≡ l) × OutputsCorrespond b d ks es ls
OutputsCorrespond b d (Stobj x ∷ ks) (e ∷ es) (l ∷ ls) = CallHolds b d.corr (e ∷ l ∷ []) × IsWellFormed b d l × Symbols (HasPackage b) l × OutputsCorrespond b d ks es ls

-- the symbols of each are of known packages
abbrev pub HaveHomes : Theory → List Thing → Type 0
HaveHomes b [] = Unit {0}
HaveHomes b (o ∷ os) = Symbols (HasPackage b) o × HaveHomes b os

-- {CORRESPONDENCE} and {PRESERVED} of an export, for as many arguments as it has: where the lists correspond and the guard holds of the abstract one, both
-- functions end, with outputs that correspond; of several outputs the values have them as their first elements
pub record ExportHolds (b : Theory) (d : AbstractDescriptor) (f : FunctionOfAbstract) : Type 0 where
  pub holds : (os : List Thing) (c a g : Thing) → length (arguments_with f.signature.ins os a) ≡ length f.signature.ins → HaveHomes b os → Symbols (HasPackage b) a → CallHolds b d.corr (c ∷ a ∷ []) → IsWellFormed b d a
      → EndsWith b f.guard (bind f.formals (arguments_with f.signature.ins os a) []) g → is_nil by_name g ≡ false
      → (e : Thing) × (l : Thing) × CallEndsWith b f.exec (arguments_with f.signature.ins os c) e × CallEndsWith b f.logic (arguments_with f.signature.ins os a) l
      × OutputsCorrespond b d f.signature.outs (out_parts b 0 f.signature.outs e) (out_parts b 0 f.signature.outs l)

-- the same of a new stobj
pub record CreatorHolds (b : Theory) (x : ℕ) (d : AbstractDescriptor) : Type 0 where
  pub made : Thing
  pub ends : CallEndsWith b d.creator.logic [] made
  pub corresponds : CallHolds b d.corr (as_object by_name (initial (stobj_layout (seen b) b.world x)) ∷ made ∷ [])
  pub well_formed : IsWellFormed b d made
  pub homes : Symbols (HasPackage b) made

pub record ObligationsInLogic (b : Theory) : Type 0 where
  pub creators : (x : ℕ) (d : AbstractDescriptor) → definition b.world x ≡ Some (Abstract d) → CreatorHolds b x d
  pub exports : (x : ℕ) (d : AbstractDescriptor) (f : FunctionOfAbstract) → definition b.world x ≡ Some (OfAbstract f) → f.role ≡ abstract_role.Export → definition b.world f.stobj ≡ Some (Abstract d) → ExportHolds b d f

-- ---- worlds

abbrev pub abstract_of : Option Definition → Option AbstractDescriptor
abstract_of None = None
abstract_of (Some (Primitive name row)) = None
abstract_of (Some (Defined f)) = None
abstract_of (Some (Macro name formals body)) = None
abstract_of (Some (Constant name value)) = None
abstract_of (Some (Concrete d class)) = None
abstract_of (Some (Generated g)) = None
abstract_of (Some (Abstract d)) = Some d
abstract_of (Some (OfAbstract f)) = None
abstract_of (Some (Named name formals)) = None
abstract_of (Some (Signed name formals signature executable)) = None

-- an abstract stobj is seen through its descriptor
abbrev pub abstract_ground : World → Table → List QualifiedName → Ground
abstract_ground w base symbols = record { table = base; written = symbols; view = λ x. abstract_of (definition w x) }

-- a function of an abstract stobj has a logic function, which is of none itself
pub record IsOfAbstract (w : World) (f : FunctionOfAbstract) : Type 0 where
  pub descriptor : AbstractDescriptor
  pub stobj : definition w f.stobj ≡ Some (Abstract descriptor)
  pub logic : (g : FunctionOfAbstract) → definition w f.logic ≡ Some (OfAbstract g) → ⊥
  pub recognizer : f.role ≡ abstract_role.Recognizer → (f.logic ≡ descriptor.recognizer.logic) × (f.signature.ins ≡ Stobj f.stobj ∷ [])

-- the exec function of an export is one of the foundation, which is concrete, and the stobj is returned once at most
pub record IsExportOf (w : World) (base : Ground) (f : FunctionOfAbstract) (x : IsExport w f) (d : AbstractDescriptor) : Type 0 where
  pub suited : IsSuited w (length base.table.symbols) f.guard
  pub seen_in : AreSeenIn w base x.guard.world
  pub foundation : x.foundation ≡ d.foundation
  pub concrete : base.view d.foundation ≡ None
  pub once : repeats (classes.stobjs x.signature.outs) ≡ false

pub record IsFollowedBeside (w : World) (base : Ground) (threaded : IsThreaded w) : Type 0 where
  pub lawful : Lawful w base threaded
  pub abstracts : (x : ℕ) (f : FunctionOfAbstract) → definition w x ≡ Some (OfAbstract f) → IsOfAbstract w f
  pub exports : (x : ℕ) (f : FunctionOfAbstract) (there : definition w x ≡ Some (OfAbstract f)) (is : f.role ≡ abstract_role.Export) → IsExportOf w base f (threaded.exports x f there is) (abstracts x f there).descriptor

-- ---- the law

-- the lists of L after a form, of which that of a stobj that is not returned stays; and L's value, which has the outputs as
-- its parts
pub record FollowedWith (w : World) (base : Ground) (scope : Scope) (expected : List Out) (form : Core) (values : Values) (s : State ℕ) (lists : Held) (given : List (Shown ℕ)) (u : State ℕ) : Type 0 where
  pub outputs : AreOutputs scope expected given
  pub unreturned : LeavesUnreturned scope expected s u
  pub same_names : names u.stobjs ≡ names s.stobjs
  pub grown : Extends (table_of base.table.packages s.symbols) (table_of base.table.packages u.symbols)
  pub sound : IsSound w base.table scope u.symbols u.stobjs
  pub fits : (x : ℕ) → IsStobj scope x → HasFields (layout_of w x) (list_of u.stobjs x)
  pub known : KnowsAll (length u.symbols) given
  pub last : Held
  pub kin : AreKin w base itself scope u.symbols u.stobjs last
  pub leaves : (x : ℕ) → has (classes.stobjs expected) x ≡ false → last x ≡ lists x
  pub value : Thing
  pub ends : EndsWith (ground_book w base) form values value
  pub parts : out_parts (ground_book w base) 0 expected value ≡ all_held u.symbols last given

pub record LogicFollowsAbstract : Type 0 where
  pub follows : (w : World) (base : Table) (symbols : List QualifiedName) (threaded : IsThreaded w) → IsFollowedBeside w (abstract_ground w base symbols) threaded
      → Extends base (table_of base.packages symbols) → ObligationsInLogic (ground_book w (abstract_ground w base symbols))
      → (c : World) (mode : Mode) (scope : Scope) (form : Core) (expected : List Out) → Suits c w → AreSeenIn w (abstract_ground w base symbols) c → mode ≢ Logic → first_fault c mode scope form expected ≡ None → IsFormed c form
      → IsSuited w (length base.symbols) form
      → (k d : ℕ) (variables : Variables ℕ) (s : State ℕ) (lists : Held) (values : Values)
      → AreVariables scope variables → AreFitting w scope s.stobjs → IsSound w base scope s.symbols s.stobjs → AreKin w (abstract_ground w base symbols) itself scope s.symbols s.stobjs lists → AreHeld scope variables s.symbols lists values
      → IfGives (FollowedWith w (abstract_ground w base symbols) scope expected form values s lists) (checked w base.packages k d form variables s)
