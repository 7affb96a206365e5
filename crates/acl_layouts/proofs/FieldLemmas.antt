-- The fields of an object.
use Rattle.std.specs.Prelude.{◌≡◌, ℕ, zero, suc, ◌<◌, ◌≤◌, List, [], ◌∷◌, length, map, Some, None, slice_get, refl}
use Rattle.std.proofs.Common.{sym, ap, ◌∙◌, subst, arith}
use Rattle.acl_heap.specs.Objects.{Objects}
use Rattle.acl_terms.specs.declared.stobj.Shape.{Shape}
use Rattle.acl_terms.specs.declared.stobj.FieldDescriptor.{FieldDescriptor}
use Rattle.acl_terms.specs.Definitions.{seen_shape, seen_field, shape_reach}
use Rattle.model_terms.specs.Worlds as worlds
use Rattle.model_terms.specs.Accessors.{descriptor_in}
use Rattle.acl_new_lists.specs.Begun.{FieldsLie}
use Rattle.acl_new_lists.proofs.FindLemmas.{field_lies}
use Rattle.acl_layouts.specs.Typed.{IsTyped, AreTyped, AcceptsTypes}

pub shape_there : (h : Objects) (fs : List FieldDescriptor) (at : ℕ) (f : FieldDescriptor) (s : Shape) → slice_get fs at ≡ Some f → s ≡ f.shape
    → slice_get (map (λ (g : worlds.Field). g.shape) (map (seen_field h) fs)) at ≡ Some (seen_shape h s)
shape_there h [] at f s e g = cc
shape_there h (x ∷ fs) zero f s e g = let q : x ≡ f = cc in ap (λ (y : FieldDescriptor). Some (seen_shape h y.shape)) q ∙ ap (λ t. Some (seen_shape h t)) (sym g)
shape_there h (x ∷ fs) (suc at) f s e g = shape_there h fs at f s e g

pub shape_lies : (h : Objects) (fs : List FieldDescriptor) (at : ℕ) (f : FieldDescriptor) (s : Shape) → FieldsLie h fs → slice_get fs at ≡ Some f → s ≡ f.shape → shape_reach s ≤ length h
shape_lies h fs at f s l e g = subst (λ t. shape_reach t ≤ length h) (sym g) (field_lies h fs at f l e)

pub shape_typed : (h : Objects) (fs : List FieldDescriptor) (at : ℕ) (f : FieldDescriptor) (s : Shape) → AreTyped (map (seen_field h) fs) → slice_get fs at ≡ Some f → s ≡ f.shape → IsTyped (seen_shape h s)
shape_typed h [] at f s t e g = cc
shape_typed h (x ∷ fs) zero f s t e g =
    let q : x ≡ f = cc in subst (λ u. IsTyped (seen_shape h u)) (sym g) (subst (λ (y : FieldDescriptor). IsTyped (seen_shape h y.shape)) q t.0)
shape_typed h (x ∷ fs) (suc at) f s t e g = shape_typed h fs at f s t.1 e g

pub fields_typed : (w : worlds.World) (x : ℕ) (e : worlds.Definition) (c : worlds.Descriptor) → AcceptsTypes w → Some e ≡ worlds.definition w x → Some c ≡ descriptor_in e → AreTyped c.fields
fields_typed w x (worlds.Primitive name row) c a h g = cc
fields_typed w x (worlds.Defined f) c a h g = cc
fields_typed w x (worlds.Macro name formals body) c a h g = cc
fields_typed w x (worlds.Constant name value) c a h g = cc
fields_typed w x (worlds.Concrete b class) c a h g = let q : b ≡ c = cc in subst (λ (y : worlds.Descriptor). AreTyped y.fields) q (a.each x b class (sym h))
fields_typed w x (worlds.Generated f) c a h g = cc
fields_typed w x (worlds.Abstract d) c a h g = cc
fields_typed w x (worlds.OfAbstract f) c a h g = cc
fields_typed w x (worlds.Named name formals) c a h g = cc
fields_typed w x (worlds.Signed name formals signature executable) c a h g = cc
