-- Places from the root inwards, by the numbers outwards.
use Rattle.std.specs.Prelude.{◌≡◌, ℕ, ◌+◌, ◌-◌, ◌<◌, ◌≤◌, List, [], ◌∷◌, ◌++◌, length, reverse, drop, take, Option, Some, option_map, refl}
use Rattle.std.proofs.Common.{sym, ap, ◌∙◌, arith, get_or, append_assoc}
use Rattle.std.proofs.lemmas.List.{reverse-append, append-nil, take_more, take_all}
use Rattle.model_terms.specs.declared.rule.Rule.{Rule}
use Rattle.model_terms.specs.Faults as faults
use Rattle.model_terms_laws.specs.Parts.{fault_down}

pub further_out : (rule : Rule) (outward : List ℕ) (k : ℕ)
    → ◌≡◌ {A = Option faults.Fault} (Some (record { rule = rule; place = reverse (outward ++ k ∷ []) })) (fault_down k (Some (record { rule = rule; place = reverse outward })))
further_out rule outward k = ap (λ p. Some (record { rule = rule; place = p })) (reverse-append outward (k ∷ []))

-- the numbers put so far, and those left, in the opposite order
pub turned_step : (xs place : List ℕ) (i : ℕ) (d : ℕ) → i < length xs
    → place ++ reverse (take (length xs - i) xs) ≡ (place ++ get_or xs (length xs - 1 - i) d ∷ []) ++ reverse (take (length xs - (i + 1)) xs)
turned_step xs place i d l =
    let k : length xs - i ≡ (length xs - 1 - i) + 1 = omega (arith, l) in
    let m : length xs - (i + 1) ≡ length xs - 1 - i = omega (arith, l) in
    let n : length xs - 1 - i < length xs = omega (arith, l) in
    rw (k, m) (ap (λ ys. place ++ reverse ys) (take_more xs (length xs - 1 - i) d n)
    ∙ (ap (λ ys. place ++ ys) (reverse-append (take (length xs - 1 - i) xs) (get_or xs (length xs - 1 - i) d ∷ []))
    ∙ sym (append_assoc place (get_or xs (length xs - 1 - i) d ∷ []) (reverse (take (length xs - 1 - i) xs)))))

pub turned_end : (xs place : List ℕ) (i : ℕ) → length xs ≤ i → place ++ reverse (take (length xs - i) xs) ≡ place
turned_end xs place i l = let k : length xs - i ≡ 0 = omega (arith, l) in rw k (append-nil place)

pub turned_start : (xs : List ℕ) → reverse xs ≡ reverse (take (length xs - 0) xs)
turned_start xs = let k : length xs - 0 ≡ length xs = omega arith in rw k (ap reverse (sym (take_all (length xs) xs (omega arith))))
