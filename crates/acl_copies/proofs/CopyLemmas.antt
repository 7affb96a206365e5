-- Items that are copied one after another.
use Rattle.std.specs.Prelude.{◌≡◌, ℕ, ◌+◌, ◌<◌, ◌≤◌, List, [], ◌∷◌, ◌++◌, length, drop, get_or}
use Rattle.std.proofs.Common.{sym, ap, ◌∙◌, add-one, drop-cons, append_assoc}
use Rattle.std.proofs.Math.ListN.{drop_of_length-le}
use Rattle.std.proofs.lemmas.List.{append-nil}

module _ {A : Type 0} (all : List A) (i : ℕ) where
  pub one_more : (done now : List A) (d x : A) → done ++ drop i all ≡ all → i < length all → d ≡ get_or all i d → x ≡ d → now ≡ done ++ x ∷ [] → now ++ drop (i + 1) all ≡ all
  one_more done now d x e l g s n =
      rw n (append_assoc done (x ∷ []) (drop (i + 1) all) ∙ (ap (λ y. done ++ y ∷ drop (i + 1) all) (s ∙ g) ∙ (ap (λ ys. done ++ ys) (sym (rw (add-one i) (drop-cons all i d l))) ∙ e)))

  pub all_done : (done : List A) → done ++ drop i all ≡ all → length all ≤ i → done ≡ all
  all_done done e l = sym (append-nil done) ∙ (ap (λ ys. done ++ ys) (sym (drop_of_length-le all l)) ∙ e)
