-- Initial values.
use Rattle.std.specs.Prelude.{◌≡◌, ℕ, ◌≤◌, List, [], ◌∷◌, length, map, max, Bool, true, false, Option, Some, None, is_some, option_and_then, nat_le, if◌then◌else◌, refl}
use Rattle.std.proofs.Common.{sym, ap, ◌∙◌, arith}
use Rattle.model_objects.specs.Object.{Object}
use Rattle.model_prims.specs.Kinds.{by_number}
use Rattle.model_lists.specs.Types.{ValueType, meets, type_of}
use Rattle.model_terms.specs.Worlds as worlds
use Rattle.model_eval.specs.StobjLayouts.{field_type}
use Rattle.model_expansion.specs.TypeTerms.{accepted_type, not_too_deep}
use Rattle.model_expansion.specs.Faults.{BadInitial}
use Rattle.model_stobjs.specs.Answers.{first_given}
use Rattle.model_stobjs.specs.Descriptors as written
use Rattle.acl_heap.specs.Objects.{Objects}
use Rattle.acl_terms.specs.Definitions.{seen_shape, shape_reach}
use Rattle.acl_stobj_read.specs.Written.{seen_written, seen_fields}
use Rattle.acl_stobj_written.specs.declared.shaped.ShapedField.{ShapedField}
use Rattle.acl_stobj_written.specs.Fields.{written_of, shapes_reach, AreShaped}
use Rattle.acl_stobj_written.specs.Initials.{meets_accepted}

-- ---- types

accepted_is : (t : ValueType ℕ) (x : Option (ValueType ℕ)) → not_too_deep t ≡ x → is_some x ≡ true → x ≡ Some t
accepted_is t None e s = cc
accepted_is t (Some v) e s = by (nat_le _ _) e
  where
    by : (b : Bool) → (if b then Some t else None) ≡ Some v → Some v ≡ Some t
    by true e = sym e
    by false e = cc

pub met : (t o : Object ℕ) (b : Bool) → is_some (accepted_type t) ≡ true → b ≡ meets by_number (field_type (λ (x : Object ℕ). x) t) o → b ≡ meets_accepted t o
met t o b s e = by (type_of (λ (x : Object ℕ). x) t) refl
  where
    by : (v : Option (ValueType ℕ)) → type_of (λ (x : Object ℕ). x) t ≡ v → b ≡ meets_accepted t o
    by None f = let n : false ≡ true = rw f at s in cc
    by (Some v) f =
        let g : is_some (not_too_deep v) ≡ true = rw f at s in
        let k : not_too_deep v ≡ Some v = accepted_is v (not_too_deep v) refl g in
        rw (f, k) (rw f at e)

pub no_type : (t o : Object ℕ) → is_some (accepted_type t) ≡ false → false ≡ meets_accepted t o
no_type t o e = by (accepted_type t) refl e
  where
    by : (v : Option (ValueType ℕ)) → accepted_type t ≡ v → is_some v ≡ false → false ≡ meets_accepted t o
    by None f e = rw f refl
    by (Some v) f e = cc

-- ---- the first that is bad

module _ (w : worlds.World) (h : Objects) where
  first_is : {A : Type 0} (x y : A) (xs ys : List A) → x ∷ xs ≡ y ∷ ys → (x ≡ y) × (xs ≡ ys)
  first_is x y xs ys e = (cc, cc)

  split : (f : ShapedField) (rest others : List ShapedField) → AreShaped w h rest → rest ≡ f ∷ others
      → (written.shape_of w (seen_written h f.written) ≡ Some (seen_shape h f.shape)) × AreShaped w h others
  split f rest others a e = let b : AreShaped w h (f ∷ others) = rw e at a in first_is _ _ _ _ b

  pub others_shaped : (f : ShapedField) (rest others : List ShapedField) → AreShaped w h rest → rest ≡ f ∷ others → AreShaped w h others
  others_shaped f rest others a e = (split f rest others a e).1

  pub good : (f : ShapedField) (rest others : List ShapedField) → AreShaped w h rest → rest ≡ f ∷ others → true ≡ written.has_good_initial w (seen_written h f.written) (seen_shape h f.shape)
      → first_given (written.bad_initial w) (seen_fields h (written_of rest)) ≡ first_given (written.bad_initial w) (seen_fields h (written_of others))
  good f rest others a e g = rw (e, (split f rest others a e).0, sym g) refl

  pub bad : (f : ShapedField) (rest others : List ShapedField) → AreShaped w h rest → rest ≡ f ∷ others → false ≡ written.has_good_initial w (seen_written h f.written) (seen_shape h f.shape)
      → first_given (written.bad_initial w) (seen_fields h (written_of rest)) ≡ Some (BadInitial f.written.name.0)
  bad f rest others a e g = rw (e, (split f rest others a e).0, sym g) refl

  pub ended : (rest : List ShapedField) → rest ≡ [] → first_given (written.bad_initial w) (seen_fields h (written_of rest)) ≡ None
  ended rest e = rw e refl

pub first_lies : (f : ShapedField) (rest others : List ShapedField) (n : ℕ) → shapes_reach rest ≤ n → rest ≡ f ∷ others → shape_reach f.shape ≤ n
first_lies f rest others n l e = let k : shapes_reach (f ∷ others) ≤ n = rw e at l in omega (arith, k)

pub others_lie : (f : ShapedField) (rest others : List ShapedField) (n : ℕ) → shapes_reach rest ≤ n → rest ≡ f ∷ others → shapes_reach others ≤ n
others_lie f rest others n l e = let k : shapes_reach (f ∷ others) ≤ n = rw e at l in omega (arith, k)
