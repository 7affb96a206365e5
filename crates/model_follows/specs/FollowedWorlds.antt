-- What is asked of a world beside what evaluation in place asks: what holds of each that events make.
use Rattle.std.specs.Prelude.{◌≡◌, ◌⊎◌, ℕ, zero, suc, ◌<◌, ◌≤◌, List, [], ◌∷◌, length, true, false, Some, unwrap_or}
use Rattle.model_objects.specs.Named.{Symbols, Knows}
use Rattle.model_prims.specs.Kinds.{by_number}
use Rattle.model_lists.specs.Types.{ValueType, Anything, Nothing, Integers, Recognized, OneOf, Either, Both, Other}
use Rattle.model_lists.specs.Lists.{StobjList}
pub use Rattle.model_lists.specs.LiveLists.{PairSymbols, ListSymbols}
use Rattle.model_lists.specs.Layouts.{Layout, Scalar, Array, Hash, Children, NoField, Field, field_layout}
use Rattle.model_lists_laws.specs.Laws.{HasInitials}
use Rattle.model_terms.specs.declared.role.Role.{Role}
use Rattle.model_terms.specs.declared.role.Role.TheVariants as role
use Rattle.model_terms.specs.Cores.{Core, Cores, Var, Const, If, Let, Mv, MvLet, StobjLet, WithLocal, MustBeEqual, Call, none, more, count}
use Rattle.model_terms.specs.Worlds.{World, Defined, Generated, OfAbstract, Function, GeneratedFunction, FunctionOfAbstract, AbstractDescriptor, Abstract, Out, Ordinary, Stobj, definition}
use Rattle.model_terms.specs.Accessors.{is_internal}
use Rattle.model_logic.specs.Logic.{creator_of}
use Rattle.model_accepted.specs.Threaded.{layout_of}

-- ---- symbols

-- a type, a layout, and a list whose symbols have the property
abbrev pub TypeSymbols : {S : Type 0} → (S → Type 0) → ValueType S → Type 0
TypeSymbols P Anything = Unit {0}
TypeSymbols P Nothing = Unit {0}
TypeSymbols P (Integers low high) = Unit {0}
TypeSymbols P (Recognized r) = Unit {0}
TypeSymbols P (OneOf l) = Symbols P l
TypeSymbols P (Either a b) = TypeSymbols P a × TypeSymbols P b
TypeSymbols P (Both a b) = TypeSymbols P a × TypeSymbols P b
TypeSymbols P (Other a) = TypeSymbols P a

abbrev pub LayoutSymbols : {S : Type 0} → (S → Type 0) → Layout S → Type 0
LayoutSymbols P (Scalar t o) = TypeSymbols P t × Symbols P o
LayoutSymbols P (Array t o n resizable) = TypeSymbols P t × Symbols P o
LayoutSymbols P (Hash test) = Unit {0}
LayoutSymbols P (Children n child) = LayoutSymbols P child
LayoutSymbols P NoField = Unit {0}
LayoutSymbols P (Field first others) = LayoutSymbols P first × LayoutSymbols P others

abbrev pub KnowsList : ℕ → StobjList ℕ → Type 0
KnowsList n l = ListSymbols (λ s. s < n) l

-- ---- functions of stobjs

-- the field is as the function wants it, where its guard does not see to it
abbrev pub IsRow : {S : Type 0} → Layout S → Type 0
IsRow (Scalar t o) = ⊥
IsRow (Array t o n resizable) = Unit {0}
IsRow (Hash test) = ⊥
IsRow (Children n child) = Unit {0}
IsRow NoField = ⊥
IsRow (Field first others) = ⊥

abbrev pub IsHashed : {S : Type 0} → Layout S → Type 0
IsHashed (Scalar t o) = ⊥
IsHashed (Array t o n resizable) = ⊥
IsHashed (Hash test) = Unit {0}
IsHashed (Children n child) = ⊥
IsHashed NoField = ⊥
IsHashed (Field first others) = ⊥

abbrev pub SuitsLogic : {S : Type 0} → Role → Layout S → Type 0
SuitsLogic role.Recognizer layout = Unit {0}
SuitsLogic role.Creator layout = Unit {0}
SuitsLogic role.FieldRecognizer layout = Unit {0}
SuitsLogic role.Access layout = Unit {0}
SuitsLogic role.Update layout = Unit {0}
SuitsLogic role.Length layout = IsRow layout
SuitsLogic role.Resize layout = Unit {0}
SuitsLogic role.HashGet layout = Unit {0}
SuitsLogic role.HashBoundp layout = Unit {0}
SuitsLogic role.HashGetBound layout = Unit {0}
SuitsLogic role.HashPut layout = Unit {0}
SuitsLogic role.HashRem layout = Unit {0}
SuitsLogic role.HashCount layout = IsHashed layout
SuitsLogic role.HashClear layout = IsHashed layout

-- how many ordinary arguments stand before the stobj; a recognizer of a field has no stobj
abbrev pub before_stobj : {S : Type 0} → Role → Layout S → ℕ
before_stobj role.Recognizer layout = 0
before_stobj role.Creator layout = 0
before_stobj role.FieldRecognizer layout = 1
before_stobj role.Access (Scalar t o) = 0
before_stobj role.Access (Array t o n resizable) = 1
before_stobj role.Access (Hash test) = 0
before_stobj role.Access (Children n child) = 1
before_stobj role.Access NoField = 0
before_stobj role.Access (Field first others) = 0
before_stobj role.Update (Scalar t o) = 1
before_stobj role.Update (Array t o n resizable) = 2
before_stobj role.Update (Hash test) = 1
before_stobj role.Update (Children n child) = 2
before_stobj role.Update NoField = 1
before_stobj role.Update (Field first others) = 1
before_stobj role.Length layout = 0
before_stobj role.Resize layout = 1
before_stobj role.HashGet layout = 1
before_stobj role.HashBoundp layout = 1
before_stobj role.HashGetBound layout = 1
before_stobj role.HashPut layout = 2
before_stobj role.HashRem layout = 1
before_stobj role.HashCount layout = 0
before_stobj role.HashClear layout = 0

abbrev pub ordinary_before : ℕ → List Out → List Out
ordinary_before zero outs = outs
ordinary_before (suc n) outs = Ordinary ∷ ordinary_before n outs

abbrev pub stobj_argument : Role → ℕ → List Out
stobj_argument role.Recognizer x = Stobj x ∷ []
stobj_argument role.Creator x = []
stobj_argument role.FieldRecognizer x = []
stobj_argument role.Access x = Stobj x ∷ []
stobj_argument role.Update x = Stobj x ∷ []
stobj_argument role.Length x = Stobj x ∷ []
stobj_argument role.Resize x = Stobj x ∷ []
stobj_argument role.HashGet x = Stobj x ∷ []
stobj_argument role.HashBoundp x = Stobj x ∷ []
stobj_argument role.HashGetBound x = Stobj x ∷ []
stobj_argument role.HashPut x = Stobj x ∷ []
stobj_argument role.HashRem x = Stobj x ∷ []
stobj_argument role.HashCount x = Stobj x ∷ []
stobj_argument role.HashClear x = Stobj x ∷ []

pub record IsMadeFor (w : World) (g : GeneratedFunction) : Type 0 where
  pub ins : g.signature.ins ≡ ordinary_before (before_stobj g.role (field_layout (unwrap_or g.field 0) (layout_of w g.stobj))) (stobj_argument g.role g.stobj)
  pub suits : SuitsLogic g.role (field_layout (unwrap_or g.field 0) (layout_of w g.stobj))

-- ---- forms

-- what makes a stobj of this name in the logic
pub record HasCreator (w : World) (x : ℕ) : Type 0 where
  pub creator : GeneratedFunction
  pub there : definition w (creator_of (definition w x)) ≡ Some (Generated creator)
  pub makes : creator.role ≡ role.Creator
  pub made_of : creator.stobj ≡ x

-- what makes an abstract one: its creator, whose logic function is that of the stobj, and is of no abstract stobj itself
pub record HasAbstractCreator (w : World) (x : ℕ) : Type 0 where
  pub descriptor : AbstractDescriptor
  pub stobj : definition w x ≡ Some (Abstract descriptor)
  pub creator : FunctionOfAbstract
  pub there : definition w (creator_of (definition w x)) ≡ Some (OfAbstract creator)
  pub makes : creator.logic ≡ descriptor.creator.logic
  pub logic : (f : FunctionOfAbstract) → definition w creator.logic ≡ Some (OfAbstract f) → ⊥

-- several values are two at least, the symbols of constants are known, and local stobjs can be made
unfoldable mutual
  pub IsSuited : World → ℕ → Core → Type 0
  IsSuited w n (Var x) = Unit {0}
  IsSuited w n (Const o) = Knows n o
  IsSuited w n (If test then other) = IsSuited w n test × IsSuited w n then × IsSuited w n other
  IsSuited w n (Let names bound body) = AreSuited w n bound × IsSuited w n body
  IsSuited w n (Mv parts) = (2 ≤ count parts) × AreSuited w n parts
  IsSuited w n (MvLet names bound body) = (2 ≤ length names) × IsSuited w n bound × IsSuited w n body
  IsSuited w n (StobjLet names bound vars producer consumer) = IsSuited w n producer × IsSuited w n consumer
  IsSuited w n (WithLocal stobj names producer body) = (2 ≤ length names) × (HasCreator w stobj ⊎ HasAbstractCreator w stobj) × IsSuited w n producer × IsSuited w n body
  IsSuited w n (MustBeEqual logic exec) = IsSuited w n logic
  IsSuited w n (Call f actuals) = AreSuited w n actuals

  pub AreSuited : World → ℕ → Cores → Type 0
  AreSuited w n none = Unit {0}
  AreSuited w n (more form forms) = IsSuited w n form × AreSuited w n forms

-- ---- worlds

-- no function of an abstract stobj, symbols of constants, types and initial values known, and signatures that fit
pub record IsFollowed (w : World) (n : ℕ) : Type 0 where
  pub functions : (x : ℕ) (f : Function) → definition w x ≡ Some (Defined f) → f.executable ≡ true → IsSuited w n f.guard × IsSuited w n f.body
  pub made : (x : ℕ) (g : GeneratedFunction) → definition w x ≡ Some (Generated g) → is_internal w (Generated g) ≡ false → IsMadeFor w g
  pub layouts : (x : ℕ) → LayoutSymbols (λ s. s < n) (layout_of w x)
  pub initials : (x : ℕ) → HasInitials by_number (layout_of w x)
  pub concrete : (x : ℕ) (f : FunctionOfAbstract) → definition w x ≡ Some (OfAbstract f) → ⊥
