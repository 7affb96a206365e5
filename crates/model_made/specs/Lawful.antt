-- What holds of each world and of each session that commands make, and stays as they go on.
use Rattle.std.specs.Prelude.{◌≡◌, ◌≢◌, ◌⊎◌, ℕ, ◌<◌, ◌≤◌, List, [], ◌∷◌, length, false, Option, Some, None}
use Rattle.std.specs.List.{filter_map}
use Rattle.model_terms.specs.Worlds.{World, Out, Definition, Descriptor, AbstractDescriptor, Field, definition, Primitive, Defined, Macro, Constant, Concrete, Generated, Abstract, OfAbstract, Named, Signed}
use Rattle.model_terms.specs.Classes.{class_of, stobjs, repeats}
use Rattle.model_terms.specs.Accessors.{descriptor_of}
use Rattle.model_stobjs.specs.Descriptors.{held_stobj, nesting_within}
use Rattle.model_eval_laws.specs.Scope.{names}
use Rattle.model_eval_laws.specs.Agreement.{StandsIn}
use Rattle.model_accepted.specs.Threaded.{layout_of, AreOnly}
use Rattle.model_lawful.specs.Lawful.{IsLawful}
use Rattle.model_in_place.specs.Commands.{AreFitting}
use Rattle.model_expansion_forms.specs.Nodes.{EachNode, IsOwnCall, HasForms}
use Rattle.model_expansion_forms.specs.Rows.{HasRowFunctions}
use Rattle.model_books.specs.Opening.{Session}
use Rattle.model_eval.specs.StobjLayouts.{most_nested}

-- ---- definitions

-- the descriptor of an abstract stobj stands under this name
abbrev pub IsAbstractStobj : World → ℕ → Type 0
IsAbstractStobj w x = (d : AbstractDescriptor) × (definition w x ≡ Some (Abstract d))

-- one input at most, or a stobj among them
abbrev pub HasStobjOrFew : List Out → Type 0
HasStobjOrFew ins = (length ins ≤ 1) ⊎ (stobjs ins ≢ [])

-- a function has as many inputs as formals; one that is defined has different ones, and its guard is closed and formed; and
-- the stobjs of a function of an abstract stobj are that stobj
abbrev pub IsWellMade : World → Definition → Type 0
IsWellMade w (Primitive name row) = Unit {0}
IsWellMade w (Defined f) = (length f.signature.ins ≡ length f.formals) × (repeats f.formals ≡ false) × EachNode (IsOwnCall w) f.guard × EachNode HasForms f.guard
IsWellMade w (Macro name formals body) = Unit {0}
IsWellMade w (Constant name value) = Unit {0}
IsWellMade w (Concrete d class) = Unit {0}
IsWellMade w (Generated g) = HasStobjOrFew g.signature.ins
IsWellMade w (Abstract d) = Unit {0}
IsWellMade w (OfAbstract f) = (length f.signature.ins ≡ length f.formals) × AreOnly f.stobj f.signature.ins × IsAbstractStobj w f.stobj × HasStobjOrFew f.signature.ins
IsWellMade w (Named name formals) = ⊥
IsWellMade w (Signed name formals signature executable) = length signature.ins ≡ length formals

-- no function is being admitted
abbrev pub IsAdmitted : Definition → Type 0
IsAdmitted (Named name formals) = ⊥
IsAdmitted (Signed name formals signature executable) = ⊥
IsAdmitted d = Unit {0}

-- ---- stobjs

-- a stobj has the layout of the stobj that its class is named after
pub record HasClasses (w : World) : Type 0 where
  pub alike : (x k : ℕ) → class_of w x ≡ Some k → layout_of w x ≡ layout_of w k
  pub there : (x k : ℕ) → class_of w x ≡ Some k → StandsIn w k

-- a concrete stobj stands under this name
abbrev pub IsConcreteStobj : World → ℕ → Type 0
IsConcreteStobj w x = (d : Descriptor) × (descriptor_of w x ≡ Some d)

abbrev pub IsConcreteIfAny : World → Option ℕ → Type 0
IsConcreteIfAny w None = Unit {0}
IsConcreteIfAny w (Some x) = IsConcreteStobj w x

-- each field that holds stobjs holds concrete ones
abbrev pub FieldsAreConcrete : World → List Field → Type 0
FieldsAreConcrete w [] = Unit {0}
FieldsAreConcrete w (f ∷ fs) = IsConcreteIfAny w (held_stobj f.shape) × FieldsAreConcrete w fs

-- each stobj that a field holds nests fewer than so many, itself counted
abbrev pub NestsIfAny : World → Option ℕ → Type 0
NestsIfAny w None = Unit {0}
NestsIfAny w (Some x) = nesting_within w most_nested x < most_nested

abbrev pub FieldsNest : World → List Field → Type 0
FieldsNest w [] = Unit {0}
FieldsNest w (f ∷ fs) = NestsIfAny w (held_stobj f.shape) × FieldsNest w fs

-- the names of the stobjs that are defined, in order
abbrev pub stobj_in : Definition → Option ℕ
stobj_in (Concrete d class) = Some d.name
stobj_in (Abstract d) = Some d.name
stobj_in d = None

abbrev pub stobj_names : World → List ℕ
stobj_names w = filter_map stobj_in w

-- ---- worlds and sessions

pub record IsLawfulWorld (w : World) : Type 0 where
  pub lawful : IsLawful w
  pub classes : HasClasses w
  pub children : (x class : ℕ) (d : Descriptor) → definition w x ≡ Some (Concrete d class) → FieldsAreConcrete w d.fields
  pub nested : (x class : ℕ) (d : Descriptor) → definition w x ≡ Some (Concrete d class) → FieldsNest w d.fields
  pub functions : HasRowFunctions w
  pub made : (x : ℕ) (d : Definition) → definition w x ≡ Some d → IsWellMade w d
  pub admitted : (x : ℕ) (d : Definition) → definition w x ≡ Some d → IsAdmitted d

-- the live stobjs are those of the world in order, and each has a list with the fields of its layout
pub record IsLawfulSession (s : Session) : Type 0 where
  pub world : IsLawfulWorld s.environment.world
  pub live : names s.stobjs ≡ stobj_names s.environment.world
  pub fits : AreFitting s.environment.world s.stobjs
