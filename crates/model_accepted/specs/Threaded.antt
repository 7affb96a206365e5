-- What is asked of a world, and of the world in which a form was checked: what holds of each that events make.
use Rattle.std.specs.Prelude.{◌≡◌, ℕ, zero, suc, List, [], ◌∷◌, map, length, true, false, Some, None, unwrap_or}
use Rattle.model_objects.specs.Object.{Object}
use Rattle.model_lists.specs.Lists.{StobjList}
use Rattle.model_lists.specs.Layouts.{Layout, Scalar, Array, Hash, Children, NoField, Field, field_layout}
use Rattle.model_lists.specs.LiveLists.{HasFields}
use Rattle.model_terms.specs.declared.rule.Mode.TheVariants.{Executable}
use Rattle.model_terms.specs.declared.role.Role.{Role}
use Rattle.model_terms.specs.declared.role.Role.TheVariants as role
use Rattle.model_terms.specs.declared.role.AbstractRole.TheVariants as abstract_role
use Rattle.model_terms.specs.Cores.{Core, Cores, Var, Const, If, Let, Mv, MvLet, StobjLet, WithLocal, MustBeEqual, Call, none, more, count}
use Rattle.model_terms.specs.Worlds.{World, Definition, Defined, Generated, OfAbstract, Function, GeneratedFunction, FunctionOfAbstract, Out, Ordinary, Stobj, Signature, Scope, definition}
use Rattle.model_terms.specs.Classes as classes
use Rattle.model_terms.specs.Classes.{congruent, repeats}
use Rattle.model_terms.specs.Outputs.{signature_in, signature_of}
use Rattle.model_terms.specs.Accessors.{HeldStobjs, One, Many, ChildAccessor, child_accessor, is_internal, is_executable}
use Rattle.model_terms.specs.Sites.{one_ordinary}
use Rattle.model_terms.specs.Faults.{first_fault}
use Rattle.model_eval.specs.StobjLayouts.{stobj_layout}
use Rattle.model_eval.specs.Lending.{field_number}
use Rattle.model_eval_alike.specs.FunctionLaws.{SuitsRole}

-- ---- forms

abbrev pub HasArity : World → ℕ → ℕ → Type 0
HasArity c f n = (s : Signature) × (signature_of c [] f ≡ Some s) × (length s.ins ≡ n)

-- each call is of a function with as many formals as it has actuals, and a `LET` binds as many forms as names
unfoldable mutual
  pub IsFormed : World → Core → Type 0
  IsFormed c (Var x) = Unit {0}
  IsFormed c (Const o) = Unit {0}
  IsFormed c (If test then other) = IsFormed c test × IsFormed c then × IsFormed c other
  IsFormed c (Let names bound body) = (count bound ≡ length names) × AreFormed c bound × IsFormed c body
  IsFormed c (Mv parts) = AreFormed c parts
  IsFormed c (MvLet names bound body) = IsFormed c bound × IsFormed c body
  IsFormed c (StobjLet names bound vars producer consumer) = IsFormed c producer × IsFormed c consumer
  IsFormed c (WithLocal stobj names producer body) = IsFormed c producer × IsFormed c body
  IsFormed c (MustBeEqual logic exec) = IsFormed c logic × IsFormed c exec
  IsFormed c (Call f actuals) = HasArity c f (count actuals) × AreFormed c actuals

  pub AreFormed : World → Cores → Type 0
  AreFormed c none = Unit {0}
  AreFormed c (more form forms) = IsFormed c form × AreFormed c forms

-- ---- layouts

-- the layout of a stobj, symbols by number
abbrev pub layout_of : World → ℕ → Layout ℕ
layout_of w x = stobj_layout (λ (o : Object ℕ). o) w x

-- a list that the stobj may have
abbrev pub Fits : World → ℕ → StobjList ℕ → Type 0
Fits w x l = HasFields (layout_of w x) l

-- the field of this number is there and has this layout
abbrev pub IsField : ℕ → Layout ℕ → Layout ℕ → Type 0
IsField n (Scalar t o) field = ⊥
IsField n (Array t o m resizable) field = ⊥
IsField n (Hash test) field = ⊥
IsField n (Children m child) field = ⊥
IsField n NoField field = ⊥
IsField zero (Field first others) field = first ≡ field
IsField (suc n) (Field first others) field = IsField n others field

-- a field that holds a stobj, or an array of stobjs
abbrev pub IsHeld : World → HeldStobjs → Layout ℕ → Type 0
IsHeld w (One x) field = field ≡ layout_of w x
IsHeld w (Many x) field = (n : ℕ) × (field ≡ Children n (layout_of w x))

-- ---- a world in which forms were checked, and the world in which they run

-- a name has a function with this signature that may be called
pub record Runs (w : World) (f : ℕ) (s : Signature) : Type 0 where
  pub there : Definition
  pub stands : definition w f ≡ Some there
  pub signed : signature_in there ≡ Some s
  pub callable : is_internal w there ≡ false
  pub executable : is_executable there ≡ true

-- the accessor of a child of a field
pub record Reaches (w : World) (f : ℕ) (a : ChildAccessor) : Type 0 where
  pub number : field_number (definition w f) ≡ a.field
  pub field : Layout ℕ
  pub there : IsField a.field (layout_of w a.stobj) field
  pub held : IsHeld w a.holds field

-- what was found in the world of the check still stands
pub record Suits (c w : World) : Type 0 where
  pub called : (f : ℕ) (d : Definition) (s : Signature) → definition c f ≡ Some d → signature_in d ≡ Some s → is_internal c d ≡ false → is_executable d ≡ true → Runs w f s
  pub layouts : (x y : ℕ) → congruent c x y ≡ true → layout_of w x ≡ layout_of w y
  pub accessors : (f : ℕ) (a : ChildAccessor) → child_accessor c f ≡ Some a → Reaches w f a

-- ---- definitions

-- each formal is ordinary, or it is the stobj of its name
abbrev pub AreFormals : List ℕ → List Out → Type 0
AreFormals [] [] = Unit {0}
AreFormals [] (k ∷ ks) = ⊥
AreFormals (x ∷ xs) [] = ⊥
AreFormals (x ∷ xs) (Ordinary ∷ ks) = AreFormals xs ks
AreFormals (x ∷ xs) (Stobj y ∷ ks) = (y ≡ x) × AreFormals xs ks

abbrev pub formal_entries : List ℕ → List Out → Scope
formal_entries [] kinds = []
formal_entries (x ∷ xs) [] = []
formal_entries (x ∷ xs) (k ∷ ks) = record { name = x; kind = k } ∷ formal_entries xs ks

-- a guard or a body over formals, which was accepted in some world
pub record IsChecked (w : World) (formals : List ℕ) (ins : List Out) (form : Core) (expected : List Out) : Type 0 where
  pub world : World
  pub suits : Suits world w
  pub accepted : first_fault world Executable (formal_entries formals ins) form expected ≡ None
  pub formed : IsFormed world form

pub record IsAdmitted (w : World) (f : Function) : Type 0 where
  pub formals : AreFormals f.formals f.signature.ins
  pub distinct : repeats f.formals ≡ false
  pub guard : IsChecked w f.formals f.signature.ins f.guard one_ordinary
  pub body : IsChecked w f.formals f.signature.ins f.body f.signature.outs

-- the outputs of a function that a stobj comes with, but of the creator
abbrev pub role_outs : Role → ℕ → List Out
role_outs role.Recognizer stobj = one_ordinary
role_outs role.Creator stobj = Stobj stobj ∷ []
role_outs role.FieldRecognizer stobj = one_ordinary
role_outs role.Access stobj = one_ordinary
role_outs role.Update stobj = Stobj stobj ∷ []
role_outs role.Length stobj = one_ordinary
role_outs role.Resize stobj = Stobj stobj ∷ []
role_outs role.HashGet stobj = one_ordinary
role_outs role.HashBoundp stobj = one_ordinary
role_outs role.HashGetBound stobj = Ordinary ∷ Ordinary ∷ []
role_outs role.HashPut stobj = Stobj stobj ∷ []
role_outs role.HashRem stobj = Stobj stobj ∷ []
role_outs role.HashCount stobj = one_ordinary
role_outs role.HashClear stobj = Stobj stobj ∷ []

-- what a function writes is its only stobj
pub record IsMade (w : World) (g : GeneratedFunction) : Type 0 where
  pub outs : g.signature.outs ≡ role_outs g.role g.stobj
  pub only : g.signature.outs ≡ Stobj g.stobj ∷ [] → classes.stobjs g.signature.ins ≡ g.stobj ∷ []
  pub suits : SuitsRole g.role (field_layout (unwrap_or g.field 0) (layout_of w g.stobj))

-- every stobj is the foundation in the exec function and the abstract stobj in the export
abbrev pub abstracted : ℕ → Out → Out
abstracted stobj Ordinary = Ordinary
abstracted stobj (Stobj x) = Stobj stobj

-- each stobj is this one
abbrev pub AreOnly : ℕ → List Out → Type 0
AreOnly x [] = Unit {0}
AreOnly x (Ordinary ∷ ks) = AreOnly x ks
AreOnly x (Stobj y ∷ ks) = (y ≡ x) × AreOnly x ks

-- a definition that is of no abstract stobj
abbrev pub IsConcrete : Definition → Type 0
IsConcrete (OfAbstract f) = ⊥
IsConcrete d = Unit {0}

pub record IsExport (w : World) (f : FunctionOfAbstract) : Type 0 where
  pub formals : AreFormals f.formals f.signature.ins
  pub distinct : repeats f.formals ≡ false
  pub guard : IsChecked w f.formals f.signature.ins f.guard one_ordinary
  pub foundation : ℕ
  pub alike : layout_of w f.stobj ≡ layout_of w foundation
  pub signature : Signature
  pub runs : Runs w f.exec signature
  pub concrete : IsConcrete runs.there
  pub ins : f.signature.ins ≡ map (abstracted f.stobj) signature.ins
  pub outs : f.signature.outs ≡ map (abstracted f.stobj) signature.outs
  pub only : classes.stobjs signature.ins ≡ foundation ∷ []
  pub only_outs : AreOnly foundation signature.outs

pub record IsRecognizer (f : FunctionOfAbstract) : Type 0 where
  pub outs : f.signature.outs ≡ one_ordinary

-- each definition of the world is as the events make it
pub record IsThreaded (w : World) : Type 0 where
  pub functions : (x : ℕ) (f : Function) → definition w x ≡ Some (Defined f) → f.executable ≡ true → IsAdmitted w f
  pub made : (x : ℕ) (g : GeneratedFunction) → definition w x ≡ Some (Generated g) → is_internal w (Generated g) ≡ false → IsMade w g
  pub exports : (x : ℕ) (f : FunctionOfAbstract) → definition w x ≡ Some (OfAbstract f) → f.role ≡ abstract_role.Export → IsExport w f
  pub recognizers : (x : ℕ) (f : FunctionOfAbstract) → definition w x ≡ Some (OfAbstract f) → f.role ≡ abstract_role.Recognizer → IsRecognizer f
