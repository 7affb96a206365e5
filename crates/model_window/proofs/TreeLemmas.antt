-- What stands where a tree was made, and the numbers of functions.
use Rattle.std.specs.Prelude.{◌≡◌, ℕ, zero, suc, ◌+◌, ◌≤◌, List, [], ◌∷◌, ◌++◌, map, length, Bool, true, false, Option, Some, None, nat_eq, refl, cond, option_map}
use Rattle.std.specs.List.{find, position_from, list_any}
use Rattle.std.specs.Option.{option_map_or}
use Rattle.std.proofs.Common.{sym, ap, ◌∙◌, arith, subst}
use Rattle.std.proofs.lemmas.Iterator.Adapters.{position_from-zero}
use Rattle.std.proofs.lemmas.Bool.Decides.{nat_tests}
use Rattle.model_terms.specs.Worlds.{World, Definition, definition_name}
use Rattle.model_eval.specs.Outcomes.{Shown}
use Rattle.model_eval.specs.Keeping.{Loan}
use Rattle.model_slots.specs.Environments.{Environment, LiesBelow}
use Rattle.model_slots.specs.Resolved.{both, all_three, number_in}
use Rattle.model_slots.proofs.WorldLemmas.{keeps_numbers}
use Rattle.model_window.specs.Turns.{called_name, loans_of}
use Rattle.model_window.specs.Stands.{marked, children_of}

-- ---- options that are there

pub some_given : {A : Type 0} (x y : A) → Some x ≡ Some y → (R : A → Type 0) → R x → R y
some_given x y e R h = let d : x ≡ y = cc in subst R d h

pub mapped_given : {A B : Type 0} (f : A → B) (x : Option A) (y : B) → option_map f x ≡ Some y → (R : B → Type 0) → ((a : A) → x ≡ Some a → R (f a)) → R y
mapped_given f None y e R h = absurd cc
mapped_given f (Some a) y e R h = some_given (f a) y e R (h a refl)

pub both_given : {A B C : Type 0} (f : A → B → C) (x : Option A) (y : Option B) (z : C) → both f x y ≡ Some z → (R : C → Type 0) → ((a : A) (b : B) → x ≡ Some a → y ≡ Some b → R (f a b)) → R z
both_given f None y z e R h = absurd cc
both_given f (Some a) None z e R h = absurd cc
both_given f (Some a) (Some b) z e R h = some_given (f a b) z e R (h a b refl refl)

pub three_given : {A B C D : Type 0} (f : A → B → C → D) (x : Option A) (y : Option B) (z : Option C) (t : D) → all_three f x y z ≡ Some t → (R : D → Type 0)
    → ((a : A) (b : B) (c : C) → x ≡ Some a → y ≡ Some b → z ≡ Some c → R (f a b c)) → R t
three_given f None y z t e R h = absurd cc
three_given f (Some a) None z t e R h = absurd cc
three_given f (Some a) (Some b) None t e R h = absurd cc
three_given f (Some a) (Some b) (Some c) t e R h = some_given (f a b c) t e R (h a b c refl refl refl)

-- ---- functions by number

named_from : (x i n : ℕ) (ds : List Definition) → position_from (nat_eq x) i (map definition_name ds) ≡ Some n → option_map_or definition_name (find (λ d. nat_eq x (definition_name d)) ds) 0 ≡ x
named_from x i n [] e = absurd cc
named_from x i n (d ∷ ds) e = go (nat_eq x (definition_name d)) refl e (named_from x (i + 1) n ds)
  where
    go : (b : Bool) → nat_eq x (definition_name d) ≡ b → cond b (Some i) (position_from (nat_eq x) (i + 1) (map definition_name ds)) ≡ Some n
        → (position_from (nat_eq x) (i + 1) (map definition_name ds) ≡ Some n → option_map_or definition_name (find (λ e. nat_eq x (definition_name e)) ds) 0 ≡ x)
        → option_map_or definition_name (cond b (Some d) (find (λ e. nat_eq x (definition_name e)) ds)) 0 ≡ x
    go true same h rest = grind (arith, nat_tests)
    go false same h rest = rest h

-- the function with this number has the name that has this number
pub name_of_number : (w : World) (f n : ℕ) → number_in w f ≡ Some n → called_name w n ≡ f
name_of_number w f n e =
    ap (λ d. option_map_or definition_name d 0) (sym (keeps_numbers.finds w f n e))
    ∙ named_from f 0 n w (sym (position_from-zero (nat_eq f) (map definition_name w)) ∙ e)

-- ---- slots

pub lies_wider : (m n : ℕ) (env : Environment) → m ≤ n → LiesBelow m env → LiesBelow n env
lies_wider m n [] h l = tt
lies_wider m n (e ∷ es) h l = (omega (arith, l.0), lies_wider m n es h l.1)

-- ---- loans

module _ {S : Type 0} where
  pub loans_marked : (vars : List ℕ) (loans : List (Loan S)) → loans_of (marked vars loans) ≡ loans
  loans_marked vars [] = refl
  loans_marked vars (l ∷ ls) = ap (λ ks. l ∷ ks) (loans_marked vars ls)

  pub marked_length : (vars : List ℕ) (loans : List (Loan S)) → length (marked vars loans) ≡ length loans
  marked_length vars [] = refl
  marked_length vars (l ∷ ls) = ap suc (marked_length vars ls)

  pub marked_more : (vars : List ℕ) (loans : List (Loan S)) (l : Loan S) → marked vars loans ++ record { loan = l; returns = list_any (nat_eq l.child) vars } ∷ [] ≡ marked vars (loans ++ l ∷ [])
  marked_more vars [] l = refl
  marked_more vars (k ∷ ks) l = ap (λ bs. record { loan = k; returns = list_any (nat_eq k.child) vars } ∷ bs) (marked_more vars ks l)

  pub children_more : (loans : List (Loan S)) (l : Loan S) (xs : List ℕ) → children_of loans ++ l.child ∷ xs ≡ children_of (loans ++ l ∷ []) ++ xs
  children_more [] l xs = refl
  children_more (k ∷ ks) l xs = ap (λ ys. k.child ∷ ys) (children_more ks l xs)

  pub children_all : (loans : List (Loan S)) → children_of loans ++ [] ≡ children_of loans
  children_all [] = refl
  children_all (k ∷ ks) = ap (λ ys. k.child ∷ ys) (children_all ks)

  pub length_more : (vs : List (Shown S)) (v : Shown S) (count : ℕ) → length vs ≡ count → length (vs ++ v ∷ []) ≡ count + 1
  length_more [] v count e = omega arith
  length_more (w ∷ vs) v zero e = absurd (omega arith)
  length_more (w ∷ vs) v (suc count) e = let d : length (vs ++ v ∷ []) ≡ count + 1 = length_more vs v count (omega arith) in omega arith
