-- A macro as it is written, by its shape.
use Rattle.std.specs.Prelude.{◌≡◌, ℕ, List, [], ◌∷◌, Bool, true, false, Option, Some, None, option_map, option_and_then, refl}
use Rattle.std.proofs.Common.{sym, ap, ◌∙◌, subst}
use Rattle.model_objects.specs.Object.{Object, Pair}
use Rattle.model_prims.specs.Kinds.{by_number}
use Rattle.model_prims.specs.Lists.{is_true_list}
use Rattle.model_expansion.specs.Forms.{elements}
use Rattle.model_events.specs.Declarations.{items_and_body}
use Rattle.model_events.specs.Macros as written
use Rattle.model_events.specs.Macros.{written_formals, written_in, written_macro}
use Rattle.acl_heap.specs.Objects.{Objects}
use Rattle.acl_layers.specs.Lists.{items_along}
use Rattle.acl_layers.proofs.ListLemmas.{elements_are}
use Rattle.acl_macros.specs.declared.written.WrittenMacro.{WrittenMacro}
use Rattle.acl_macros.specs.Written.{SeenMacro}

module _ (name : Object ℕ) where
  abbrev from : Option written.WrittenFormals → Option (List (Object ℕ) × Object ℕ) → Option written.WrittenMacro
  from fs body = option_and_then (λ fs. option_map (λ (p : List (Object ℕ) × Object ℕ). record { name = name; formals = fs; items = p.0; body = p.1 }) body) fs

  pub no_list : (formals : Object ℕ) (os : List (Object ℕ)) → is_true_list by_number formals ≡ false → written_in (name ∷ (formals ∷ os)) ≡ None
  no_list formals os e = ap (λ xs. from (option_and_then written_formals xs) (items_and_body os)) (elements_are formals) ∙ rw e refl

  listed : (formals : Object ℕ) (os : List (Object ℕ)) → is_true_list by_number formals ≡ true → written_in (name ∷ (formals ∷ os)) ≡ from (written_formals (items_along formals)) (items_and_body os)
  listed formals os e = ap (λ xs. from (option_and_then written_formals xs) (items_and_body os)) (elements_are formals) ∙ rw e refl

  pub no_formals : (formals : Object ℕ) (os : List (Object ℕ)) → is_true_list by_number formals ≡ true → written_formals (items_along formals) ≡ None → written_in (name ∷ (formals ∷ os)) ≡ None
  no_formals formals os e f = listed formals os e ∙ ap (λ fs. from fs (items_and_body os)) f

  pub no_body : (formals : Object ℕ) (os : List (Object ℕ)) (fs : written.WrittenFormals) → is_true_list by_number formals ≡ true → written_formals (items_along formals) ≡ Some fs → items_and_body os ≡ None
      → written_in (name ∷ (formals ∷ os)) ≡ None
  no_body formals os fs e f g = listed formals os e ∙ (ap (λ fs. from fs (items_and_body os)) f ∙ ap (from (Some fs)) g)

  pub macro_is : (formals body : Object ℕ) (os items : List (Object ℕ)) (fs : written.WrittenFormals) → is_true_list by_number formals ≡ true → written_formals (items_along formals) ≡ Some fs → items_and_body os ≡ Some (items, body)
      → written_in (name ∷ (formals ∷ os)) ≡ Some (record { name = name; formals = fs; items = items; body = body })
  macro_is formals body os items fs e f g = listed formals os e ∙ (ap (λ fs. from fs (items_and_body os)) f ∙ ap (from (Some fs)) g)

  pub named_more : (h : Objects) (r : Option WrittenMacro) (o formals d : Object ℕ) → o ≡ Pair formals d → SeenMacro h r (written_in (name ∷ (formals ∷ items_along d))) → SeenMacro h r (written_in (name ∷ items_along o))
  named_more h r o formals d e s = subst (λ x. SeenMacro h r (written_in (name ∷ items_along x))) (sym e) s

  pub named_end : (os : List (Object ℕ)) → os ≡ [] → written_in (name ∷ os) ≡ None
  named_end os e = rw e refl

pub macro_bad : (d : Object ℕ) → is_true_list by_number d ≡ false → written_macro d ≡ None
unfolding written_macro
macro_bad d e = ap (option_and_then written_in) (elements_are d) ∙ rw e refl

whole : (d : Object ℕ) → is_true_list by_number d ≡ true → written_macro d ≡ written_in (items_along d)
unfolding written_macro
whole d e = ap (option_and_then written_in) (elements_are d) ∙ rw e refl

pub macro_more : (h : Objects) (r : Option WrittenMacro) (d name rest : Object ℕ) → is_true_list by_number d ≡ true → d ≡ Pair name rest → SeenMacro h r (written_in (name ∷ items_along rest)) → SeenMacro h r (written_macro d)
macro_more h r d name rest e f s = subst (SeenMacro h r) (sym (whole d e ∙ ap (λ x. written_in (items_along x)) f)) s

pub macro_end : (d : Object ℕ) → is_true_list by_number d ≡ true → items_along d ≡ [] → written_macro d ≡ None
macro_end d e f = whole d e ∙ ap written_in f
