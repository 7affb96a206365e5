-- The ordinary values that a call is made on.
use Rattle.std.specs.Prelude.{◌≡◌, ◌≢◌, ℕ, zero, suc, ◌-◌, List, [], ◌∷◌, Option, None, slice_get, unwrap_or, refl}
use Rattle.std.proofs.Common.{sym, ap, ◌∙◌, subst, arith}
use Rattle.acl_base.specs.declared.SymId.{SymId}
use Rattle.acl_base.specs.declared.Word.{Word}
use Rattle.model_objects.specs.Object.{Object, Symbol}
use Rattle.model_prims.specs.Kinds.{by_number, nil_of}
use Rattle.model_prims.specs.Applied.{argument}
use Rattle.model_eval.specs.Variables.{ordinary}
use Rattle.acl_heap.specs.Objects.{Objects, object_of, Lies}
use Rattle.acl_terms.specs.declared.outcome.Shown.{Shown}
use Rattle.acl_terms.specs.declared.outcome.Shown.TheVariants as shown
use Rattle.acl_keep.specs.Seen.{all_seen}
use Rattle.acl_list_calls.specs.Results.{ValuesLie}

pub no_argument : (h : Objects) (vs : List Shown) (n : ℕ) → vs ≡ [] → Symbol 1 ≡ argument by_number (ordinary (all_seen h vs)) n
no_argument h vs zero e = ap (λ ws. argument by_number (ordinary (all_seen h ws)) 0) (sym e)
no_argument h vs (suc n) e = ap (λ ws. argument by_number (ordinary (all_seen h ws)) (suc n)) (sym e)

module _ (h : Objects) (vs others : List Shown) (v : Shown) (n : ℕ) where
  pub first_argument : (w : Word) → vs ≡ v ∷ others → v ≡ shown.Value w → n ≡ 0 → object_of h w ≡ argument by_number (ordinary (all_seen h vs)) n
  first_argument w e i z = sym (ap (λ ws. argument by_number (ordinary (all_seen h ws)) n) e ∙ (ap (λ u. argument by_number (ordinary (all_seen h (u ∷ others))) n) i ∙ ap (argument by_number (ordinary (all_seen h (shown.Value w ∷ others)))) z))

  pub next_argument : (o : Object ℕ) (w : Word) → vs ≡ v ∷ others → v ≡ shown.Value w → n ≢ 0 → o ≡ argument by_number (ordinary (all_seen h others)) (n - 1) → o ≡ argument by_number (ordinary (all_seen h vs)) n
  next_argument o w e i p j = j ∙ (one_more (ordinary (all_seen h others)) (object_of h w) n p
      ∙ sym (ap (λ ws. argument by_number (ordinary (all_seen h ws)) n) e ∙ ap (λ u. argument by_number (ordinary (all_seen h (u ∷ others))) n) i)) where
        one_more : (os : List (Object ℕ)) (o : Object ℕ) (n : ℕ) → n ≢ 0 → argument by_number os (n - 1) ≡ argument by_number (o ∷ os) n
        one_more os o zero p = absurd (p refl)
        one_more os o (suc n) p = let z : suc n - 1 ≡ n = omega arith in ap (argument by_number os) z

  pub other_argument : (o : Object ℕ) (x : SymId) → vs ≡ v ∷ others → v ≡ shown.Object x → o ≡ argument by_number (ordinary (all_seen h others)) n → o ≡ argument by_number (ordinary (all_seen h vs)) n
  other_argument o x e i j = j ∙ sym (ap (λ ws. argument by_number (ordinary (all_seen h ws)) n) e ∙ ap (λ u. argument by_number (ordinary (all_seen h (u ∷ others))) n) i)

  pub first_lies : (w : Word) → vs ≡ v ∷ others → v ≡ shown.Value w → ValuesLie h vs → Lies h w
  first_lies w e i l = let m : ValuesLie h (shown.Value w ∷ others) = subst (λ u. ValuesLie h (u ∷ others)) i (subst (ValuesLie h) e l) in m.0

  pub next_lie : (w : Word) → vs ≡ v ∷ others → v ≡ shown.Value w → ValuesLie h vs → ValuesLie h others
  next_lie w e i l = let m : ValuesLie h (shown.Value w ∷ others) = subst (λ u. ValuesLie h (u ∷ others)) i (subst (ValuesLie h) e l) in m.1

  pub other_lie : (x : SymId) → vs ≡ v ∷ others → v ≡ shown.Object x → ValuesLie h vs → ValuesLie h others
  other_lie x e i l = subst (λ u. ValuesLie h (u ∷ others)) i (subst (ValuesLie h) e l)
