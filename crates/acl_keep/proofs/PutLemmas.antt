-- Children that are put into their parents one after the other.
use Rattle.std.specs.Prelude.{◌≡◌, ℕ, zero, suc, ◌+◌, ◌<◌, ◌≤◌, List, [], ◌∷◌, length, take, get_or, Option, Some, None, refl}
use Rattle.std.specs.List.{cons_option}
use Rattle.std.proofs.Common.{sym, ap, arith, subst, add-one}
use Rattle.std.proofs.lemmas.List.{length-map}
use Rattle.acl_heap.specs.Objects.{Objects}
use Rattle.model_eval.specs.Keeping.{Keeping, put_all}
use Rattle.acl_keep.specs.declared.effect.Loan.{Loan}
use Rattle.acl_base.specs.declared.Word.{Word}
use Rattle.model_symbols.specs.Symbols.{Table}
use Rattle.acl_forms.specs.Forms.{AreWhole}
use Rattle.acl_keep.specs.Seen.{seen_loan, seen_loans, index_words, loan_words}
use Rattle.acl_keep.specs.Calls.{ArePut}

take_all : {X : Type 0} (n : ℕ) (xs : List X) → length xs ≤ n → take n xs ≡ xs
take_all zero [] l = refl
take_all zero (x ∷ xs) l = absurd (omega arith)
take_all (suc n) [] l = refl
take_all (suc n) (x ∷ xs) l = ap (λ ys. x ∷ ys) (take_all n xs (omega arith))

module _ {O B : Type 0} (keeping : Keeping ℕ O B) (h : Objects) where
  one_more : (loans : List Loan) (i : ℕ) (d : Loan) (k : O) → i < length loans
      → put_all keeping (take (suc i) (seen_loans h loans)) k ≡ keeping.put (seen_loan h (get_or loans i d)) (put_all keeping (take i (seen_loans h loans)) k)
  one_more [] i d k l = absurd (omega arith)
  one_more (x ∷ xs) zero d k l = refl
  one_more (x ∷ xs) (suc i) d k l = one_more xs i d (keeping.put (seen_loan h x) k) (omega arith)

  module _ (loans : List Loan) where
    pub started : (Keeps : O → List B → Type 0) (k : O) (ls : List B) → Keeps k ls → ArePut keeping Keeps 0 (seen_loans h loans) k ls
    started Keeps k ls keeps = record { keeps = keeps }

    pub stepped : (Before After : O → List B → Type 0) (i : ℕ) (d : Loan) (k : O) (ls : List B) → i < length loans
        → ((k : O) (ls : List B) → Before k ls → After (keeping.put (seen_loan h (get_or loans i d)) k) ls)
        → ArePut keeping Before i (seen_loans h loans) k ls → ArePut keeping After (i + 1) (seen_loans h loans) k ls
    stepped Before After i d k ls l puts w =
        rw (add-one i) (record { keeps = subst (λ (now : O). After now ls) (sym (one_more loans i d k l)) (puts (put_all keeping (take i (seen_loans h loans)) k) ls w.keeps) })

    pub kept : (Before After : O → List B → Type 0) (i : ℕ) (k : O) (ls : List B) → ((k : O) (ls : List B) → Before k ls → After k ls)
        → ArePut keeping Before i (seen_loans h loans) k ls → ArePut keeping After i (seen_loans h loans) k ls
    kept Before After i k ls same w = record { keeps = same (put_all keeping (take i (seen_loans h loans)) k) ls w.keeps }

    pub ended : (Keeps : O → List B → Type 0) (i : ℕ) (k : O) (ls : List B) → length loans ≤ i → ArePut keeping Keeps i (seen_loans h loans) k ls → Keeps (put_all keeping (seen_loans h loans) k) ls
    ended Keeps i k ls l w =
        subst (λ (left : _). Keeps (put_all keeping left k) ls) (take_all i (seen_loans h loans) (omega (arith, l, length-map loans (seen_loan h)))) w.keeps

-- ---- the words of the indices

own_words : (t : Table) (h : Objects) (x : Option Word) (ws : List Word) → AreWhole t h (cons_option x ws) → AreWhole t h (index_words x)
own_words t h None ws a = tt
own_words t h (Some w) ws a = (a.0, tt)

other_words : (t : Table) (h : Objects) (x : Option Word) (ws : List Word) → AreWhole t h (cons_option x ws) → AreWhole t h ws
other_words t h None ws a = a
other_words t h (Some w) ws a = a.1

pub whole_index : (t : Table) (h : Objects) (loans : List Loan) (i : ℕ) (d : Loan) → i < length loans → AreWhole t h (loan_words loans)
    → AreWhole t h (index_words (get_or loans i d).index)
whole_index t h [] i d l a = absurd (omega arith)
whole_index t h (x ∷ xs) zero d l a = own_words t h x.index (loan_words xs) a
whole_index t h (x ∷ xs) (suc i) d l a = whole_index t h xs i d (omega arith) (other_words t h x.index (loan_words xs) a)
