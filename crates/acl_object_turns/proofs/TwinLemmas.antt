-- Loans, one after the other.
use Rattle.std.proofs.Common.{◌≡◌, ℕ, zero, suc, ◌+◌, ◌<◌, ◌≤◌, List, [], ◌∷◌, ◌++◌, length, map, drop, get_or, refl, sym, ap, ◌∙◌, arith, subst}
use Rattle.std.specs.Prelude.{Option, Some, None, Bool, true, false, nat_eq, ◌&&◌, ◌||◌, option_map, IsTrue, ◌↔◌}
use Rattle.std.specs.List.{list_any}
use Rattle.std.proofs.lemmas.List.{append-nil, append_assoc}
use Rattle.model_symbols.specs.Symbols.{Table}
use Rattle.model_prims.specs.Kinds.{by_number}
use Rattle.model_prims.proofs.Same.{same_objects}
use Rattle.model_eval.specs.Keeping as keepings
use Rattle.model_eval.specs.Lending.{same_index, are_twins}
use Rattle.acl_base.specs.declared.Word.{Word}
use Rattle.acl_heap.specs.Objects.{Objects, object_of}
use Rattle.acl_forms.specs.Forms.{AreWhole}
use Rattle.acl_terms.specs.declared.outcome.Shown.{Shown}
use Rattle.acl_terms.specs.declared.outcome.Shown.TheVariants as shown
use Rattle.acl_keep.specs.declared.effect.Loan.{Loan}
use Rattle.acl_keep.specs.Seen.{seen_loan, seen_loans, index_words, loan_words}
use Rattle.acl_machine.specs.declared.frame.Borrowed.{Borrowed}
use Rattle.acl_object_turns.specs.Children.{loans_in, children_in, index_cells, all_indices}

-- whether one of these is of the element of a loan
abbrev pub any_twin : Objects → Loan → List Loan → Bool
any_twin h loan others = list_any (λ (m : keepings.Loan ℕ). nat_eq loan.field m.field && same_index by_number (option_map (object_of h) loan.index) m.index) (seen_loans h others)

abbrev pub one_twin : Objects → Loan → Loan → Bool
one_twin h loan other = nat_eq loan.field other.field && same_index by_number (option_map (object_of h) loan.index) (option_map (object_of h) other.index)

pub same_by : (h : Objects) (i j : Option Word) (x y : Word) (b : Bool) → i ≡ Some x → j ≡ Some y → (IsTrue b ↔ (object_of h x ≡ object_of h y)) → b ≡ same_index by_number (option_map (object_of h) i) (option_map (object_of h) j)
same_by h i j x y b e f q =
    same_objects (object_of h x) (object_of h y) b q
    ∙ sym (ap (λ k. same_index by_number (option_map (object_of h) k) (option_map (object_of h) j)) e ∙ ap (λ k. same_index by_number (Some (object_of h x)) (option_map (object_of h) k)) f)

any_by : (h : Objects) (loan : Loan) (rest later : List Loan) (other : Loan) → rest ≡ other ∷ later → any_twin h loan rest ≡ (one_twin h loan other || any_twin h loan later)
any_by h loan rest later other e = ap (any_twin h loan) e

pub twin_first : (h : Objects) (loan : Loan) (rest later : List Loan) (other : Loan) (b : Bool) → rest ≡ other ∷ later → b ≡ one_twin h loan other → b ≡ true → true ≡ any_twin h loan rest
twin_first h loan rest later other b e q holds = sym (any_by h loan rest later other e ∙ ap (λ x. x || any_twin h loan later) (sym q ∙ holds))

pub twin_later : (h : Objects) (loan : Loan) (rest later : List Loan) (other : Loan) (b : Bool) → rest ≡ other ∷ later → b ≡ one_twin h loan other → b ≡ false → any_twin h loan rest ≡ any_twin h loan later
twin_later h loan rest later other b e q no_twin = any_by h loan rest later other e ∙ ap (λ x. x || any_twin h loan later) (sym q ∙ no_twin)

pub twin_none : (h : Objects) (loan : Loan) (rest : List Loan) → length rest ≡ 0 → false ≡ any_twin h loan rest
twin_none h loan [] e = refl
twin_none h loan (x ∷ xs) e = absurd (omega arith)

twins_by : (h : Objects) (rest later : List Loan) (loan : Loan) → rest ≡ loan ∷ later → are_twins by_number (seen_loans h rest) ≡ (any_twin h loan later || are_twins by_number (seen_loans h later))
twins_by h rest later loan e = ap (λ l. are_twins by_number (seen_loans h l)) e

pub twins_first : (h : Objects) (rest later : List Loan) (loan : Loan) (b : Bool) → rest ≡ loan ∷ later → b ≡ any_twin h loan later → b ≡ true → true ≡ are_twins by_number (seen_loans h rest)
twins_first h rest later loan b e q holds = sym (twins_by h rest later loan e ∙ ap (λ x. x || are_twins by_number (seen_loans h later)) (sym q ∙ holds))

pub twins_later : (h : Objects) (rest later : List Loan) (loan : Loan) (b : Bool) → rest ≡ loan ∷ later → b ≡ any_twin h loan later → b ≡ false → are_twins by_number (seen_loans h rest) ≡ are_twins by_number (seen_loans h later)
twins_later h rest later loan b e q no_twin = twins_by h rest later loan e ∙ ap (λ x. x || are_twins by_number (seen_loans h later)) (sym q ∙ no_twin)

pub twins_none : (h : Objects) (rest : List Loan) → length rest ≡ 0 → false ≡ are_twins by_number (seen_loans h rest)
twins_none h [] e = refl
twins_none h (x ∷ xs) e = absurd (omega arith)

-- ---- words

own_words : (t : Table) (h : Objects) (x : Loan) (xs : List Loan) → AreWhole t h (loan_words (x ∷ xs)) → AreWhole t h (index_words x.index) × AreWhole t h (loan_words xs)
own_words t h x xs a = by_index x.index a
  where
    by_index : (i : Option Word) → AreWhole t h (loan_words (record x { index = i } ∷ xs)) → AreWhole t h (index_words i) × AreWhole t h (loan_words xs)
    by_index None a = (tt, a)
    by_index (Some w) a = ((a.0, tt), a.1)

pub first_whole : (t : Table) (h : Objects) (rest later : List Loan) (loan : Loan) → rest ≡ loan ∷ later → AreWhole t h (loan_words rest) → AreWhole t h (index_words loan.index)
first_whole t h rest later loan e a = (own_words t h loan later (subst (λ l. AreWhole t h (loan_words l)) e a)).0

pub later_whole : (t : Table) (h : Objects) (rest later : List Loan) (loan : Loan) → rest ≡ loan ∷ later → AreWhole t h (loan_words rest) → AreWhole t h (loan_words later)
later_whole t h rest later loan e a = (own_words t h loan later (subst (λ l. AreWhole t h (loan_words l)) e a)).1

-- ---- lists that are made from the left

module _ {X Y : Type 0} (f : X → Y) where
  from_start : (all : List X) → [] ++ map f (drop 0 all) ≡ map f all
  from_start [] = refl
  from_start (x ∷ xs) = refl

  one_more : (all : List X) (i : ℕ) (d : X) → i < length all → map f (drop i all) ≡ f (get_or all i d) ∷ map f (drop (i + 1) all)
  one_more [] i d l = absurd (omega arith)
  one_more (x ∷ xs) zero d l = refl
  one_more (x ∷ xs) (suc i) d l = let e : suc (i + 1) ≡ suc i + 1 = omega arith in one_more xs i d (omega arith) ∙ ap (λ n. f (get_or xs i d) ∷ map f (drop n (x ∷ xs))) e

  from_step : (done : List Y) (all : List X) (i : ℕ) (d : X) → i < length all → done ++ map f (drop i all) ≡ map f all → (done ++ f (get_or all i d) ∷ []) ++ map f (drop (i + 1) all) ≡ map f all
  from_step done all i d l e = append_assoc done (f (get_or all i d) ∷ []) (map f (drop (i + 1) all)) ∙ ap (λ ys. done ++ ys) (sym (one_more all i d l)) ∙ e

  none_left : (all : List X) (i : ℕ) → length all ≤ i → map f (drop i all) ≡ []
  none_left [] zero l = refl
  none_left [] (suc i) l = refl
  none_left (x ∷ xs) zero l = absurd (omega arith)
  none_left (x ∷ xs) (suc i) l = none_left xs i (omega arith)

  from_end : (done : List Y) (all : List X) (i : ℕ) → length all ≤ i → done ++ map f (drop i all) ≡ map f all → done ≡ map f all
  from_end done all i l e = sym (append-nil done) ∙ ap (λ ys. done ++ ys) (sym (none_left all i l)) ∙ e

pub loans_start : (all : List Borrowed) → [] ++ loans_in (drop 0 all) ≡ loans_in all
loans_start all = from_start (λ (b : Borrowed). b.loan) all

pub loans_step : (done : List Loan) (all : List Borrowed) (i : ℕ) (d : Borrowed) → i < length all → done ++ loans_in (drop i all) ≡ loans_in all → (done ++ (get_or all i d).loan ∷ []) ++ loans_in (drop (i + 1) all) ≡ loans_in all
loans_step done all i d l e = from_step (λ (b : Borrowed). b.loan) done all i d l e

pub loans_end : (done : List Loan) (all : List Borrowed) (i : ℕ) → length all ≤ i → done ++ loans_in (drop i all) ≡ loans_in all → done ≡ loans_in all
loans_end done all i l e = from_end (λ (b : Borrowed). b.loan) done all i l e

pub children_start : (all : List Loan) → [] ++ children_in (drop 0 all) ≡ children_in all
children_start all = from_start (λ (l : Loan). shown.Object l.child) all

pub children_step : (done : List Shown) (all : List Loan) (i : ℕ) (d : Loan) → i < length all → done ++ children_in (drop i all) ≡ children_in all → (done ++ shown.Object (get_or all i d).child ∷ []) ++ children_in (drop (i + 1) all) ≡ children_in all
children_step done all i d l e = from_step (λ (l : Loan). shown.Object l.child) done all i d l e

pub children_end : (done : List Shown) (all : List Loan) (i : ℕ) → length all ≤ i → done ++ children_in (drop i all) ≡ children_in all → done ≡ children_in all
children_end done all i l e = from_end (λ (l : Loan). shown.Object l.child) done all i l e

-- ---- indices

pub indices_step : (done more : List Shown) (rest later all : List Loan) (loan : Loan) → rest ≡ loan ∷ later → more ≡ done ++ index_cells loan.index → done ++ all_indices rest ≡ all_indices all → more ++ all_indices later ≡ all_indices all
indices_step done more rest later all loan e q h =
    ap (λ m. m ++ all_indices later) q
    ∙ append_assoc done (index_cells loan.index) (all_indices later)
    ∙ sym (ap (λ r. done ++ all_indices r) e)
    ∙ h

pub indices_end : (done : List Shown) (rest all : List Loan) → length rest ≡ 0 → done ++ all_indices rest ≡ all_indices all → done ≡ all_indices all
indices_end done [] all l h = sym (append-nil done) ∙ h
indices_end done (x ∷ xs) all l h = absurd (omega arith)
