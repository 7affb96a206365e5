-- The values of words, one behind the other.
use Rattle.std.proofs.Common.{◌≡◌, ℕ, zero, suc, ◌+◌, ◌<◌, ◌≤◌, List, [], ◌∷◌, ◌++◌, length, drop, get_or, refl, sym, ap, ◌∙◌, arith}
use Rattle.std.proofs.lemmas.List.{append-nil, append_assoc}
use Rattle.acl_base.specs.declared.Word.{Word}
use Rattle.acl_terms.specs.declared.outcome.Shown.{Shown}
use Rattle.acl_terms.specs.declared.outcome.Shown.TheVariants as shown
use Rattle.acl_evaluate.specs.Begun.{all_values}

values_more : (ws : List Word) (i : ℕ) (d : Word) → i < length ws → all_values (drop i ws) ≡ shown.Value (get_or ws i d) ∷ all_values (drop (i + 1) ws)
values_more [] i d h = absurd (omega arith)
values_more (w ∷ ws) zero d h = refl
values_more (w ∷ ws) (suc i) d h =
    let e : suc (i + 1) ≡ suc i + 1 = omega arith in
    values_more ws i d (omega arith) ∙ ap (λ n. shown.Value (get_or ws i d) ∷ all_values (drop n (w ∷ ws))) e

pub values_step : (all vs new : List Shown) (ws : List Word) (i : ℕ) (d : Word) → i < length ws → new ≡ vs ++ shown.Value (get_or ws i d) ∷ [] → vs ++ all_values (drop i ws) ≡ all → new ++ all_values (drop (i + 1) ws) ≡ all
values_step all vs new ws i d h e f =
    ap (λ l. l ++ all_values (drop (i + 1) ws)) e ∙ append_assoc vs (shown.Value (get_or ws i d) ∷ []) (all_values (drop (i + 1) ws)) ∙ ap (λ l. vs ++ l) (sym (values_more ws i d h)) ∙ f

values_past : (ws : List Word) (i : ℕ) → length ws ≤ i → drop i ws ≡ []
values_past [] zero h = refl
values_past [] (suc i) h = refl
values_past (w ∷ ws) zero h = absurd (omega arith)
values_past (w ∷ ws) (suc i) h = values_past ws i (omega arith)

pub values_ended : (all vs : List Shown) (ws : List Word) (i : ℕ) → length ws ≤ i → vs ++ all_values (drop i ws) ≡ all → vs ≡ all
values_ended all vs ws i h f = sym (append-nil vs) ∙ ap (λ l. vs ++ all_values l) (sym (values_past ws i h)) ∙ f
