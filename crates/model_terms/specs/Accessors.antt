-- The functions of stobjs that are called in their own ways: accessors and updaters of children, creators (ACL2's manual,
-- topic NESTED-STOBJS).
use Rattle.std.specs.Prelude.{ℕ, Bool, true, false, Option, Some, None, slice_get, option_and_then}
use Rattle.std.specs.Option.{option_map_or}
use Rattle.model_terms.specs.Worlds.{World, Definition, Defined, Concrete, Generated, OfAbstract, Signed, Descriptor, Field, Shape, Child, Children, GeneratedFunction, definition}
use Rattle.model_terms.specs.declared.role.Role.{Role}
use Rattle.model_terms.specs.declared.role.Role.TheVariants as role
use Rattle.model_terms.specs.declared.role.AbstractRole.{AbstractRole}
use Rattle.model_terms.specs.declared.role.AbstractRole.TheVariants as abstract_role

abbrev pub descriptor_in : Definition → Option Descriptor
descriptor_in (Concrete d class) = Some d
descriptor_in d = None

-- the descriptor of a concrete stobj
abbrev pub descriptor_of : World → ℕ → Option Descriptor
descriptor_of w x = option_and_then descriptor_in (definition w x)

-- the field of a function that is one of a field
abbrev pub field_of : World → GeneratedFunction → Option Field
field_of w f = option_and_then (λ i. option_and_then (λ (d : Descriptor). slice_get d.fields i) (descriptor_of w f.stobj)) f.field

-- what a field that holds stobjs holds
pub data HeldStobjs : Type 0 where
  One : ℕ → HeldStobjs  -- a stobj, congruent to this one
  Many : ℕ → HeldStobjs  -- an array of stobjs, each congruent to this one

abbrev pub held_by : Shape → Option HeldStobjs
held_by (Child x) = Some (One x)
held_by (Children x n) = Some (Many x)
held_by s = None

abbrev pub held_in : World → GeneratedFunction → Option HeldStobjs
held_in w f = option_and_then (λ (e : Field). held_by e.shape) (field_of w f)

-- the accessor of a child: the stobj, the number of its field, and what the field holds
pub record ChildAccessor : Type 0 where
  pub stobj : ℕ
  pub field : ℕ
  pub holds : HeldStobjs

abbrev pub accessor_to : GeneratedFunction → Role → Option ℕ → Option HeldStobjs → Option ChildAccessor
accessor_to f role.Access (Some i) (Some h) = Some (record { stobj = f.stobj; field = i; holds = h })
accessor_to f r i h = None

abbrev pub accessor_in : World → Definition → Option ChildAccessor
accessor_in w (Generated f) = accessor_to f f.role f.field (held_in w f)
accessor_in w d = None

abbrev pub child_accessor : World → ℕ → Option ChildAccessor
child_accessor w f = option_and_then (accessor_in w) (definition w f)

-- ---- what no form may call

abbrev pub is_kept_back : Role → Option HeldStobjs → Bool
is_kept_back role.Creator h = true
is_kept_back role.Access (Some h) = true
is_kept_back role.Update (Some h) = true
is_kept_back r h = false

abbrev pub is_creator : AbstractRole → Bool
is_creator abstract_role.Recognizer = false
is_creator abstract_role.Creator = true
is_creator abstract_role.Export = false

-- a creator, or the accessor or updater of a child
abbrev pub is_internal : World → Definition → Bool
is_internal w (Generated f) = is_kept_back f.role (held_in w f)
is_internal w (OfAbstract f) = is_creator f.role
is_internal w d = false

abbrev pub is_executable : Definition → Bool
is_executable (Defined f) = f.executable
is_executable (Signed name formals signature executable) = executable
is_executable d = true

-- whether a function runs
abbrev pub runs : World → ℕ → Bool
runs w f = option_map_or is_executable (definition w f) true
