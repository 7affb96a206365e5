-- What is computed in 64 bits is what 128 bits give.
use Rattle.std.specs.Prelude.{◌≡◌, ◌≢◌, ℕ, List, ℤ, pos, negsuc, neg_ℤ, int_lt, true, false, FitsSigned, Option, Some, None, IfSome, refl}
use Rattle.std.proofs.Common.{arith, true≢false, sym, subst, ap, ◌∙◌}
use Rattle.std.proofs.lemmas.Bool.Decides.{nat_tests}
use Rattle.std.proofs.lemmas.Int.{to_z-of_z}
use Rattle.std.specs.Option.{SomeIff}
use Rattle.std.specs.Int.{w64}
use Rattle.model_objects.specs.Object.{Integer}
use Rattle.model_symbols.specs.Symbols.{QualifiedName, Table}
use Rattle.model_prims.specs.Kinds.{by_number}
use Rattle.model_prims.specs.Numbers.{in_range}
use Rattle.model_prims.specs.Values.{computed, without_sign}
use Rattle.model_prims.specs.Applied.{Gives, number_or, bounded}
use Rattle.model_prims.specs.declared.prim.Arithmetic.{Arithmetic}
use Rattle.acl_base.specs.declared.Word.{Word}
use Rattle.acl_base.specs.declared.Word.TheVariants.{Small}
use Rattle.acl_heap.specs.Objects.{Objects, object_of}
use Rattle.acl_numbers.specs.Narrow.{in_64}
use Rattle.acl_numbers.specs.Answers.{IsGiven}
use Rattle.acl_numbers.proofs.Divided.{floor_above, floor_exact, floor_between}

pub narrow_ranged : (r : Option ℤ) (z : ℤ) → SomeIff r (FitsSigned w64 z) z → r ≡ in_64 z
narrow_ranged None z h = grind arith
narrow_ranged (Some x) z h = grind arith

pub in_64-fits : (z : ℤ) → FitsSigned w64 z → in_64 z ≡ Some z
in_64-fits (pos n) f = grind (arith, f.sfits)
in_64-fits (negsuc n) f = grind (arith, f.sfits)

-- an integer of 64 bits has 128
pub narrow-in_range : (z : ℤ) → FitsSigned w64 z → in_range z ≡ Some z
narrow-in_range (pos n) f = grind (arith, f.sfits)
narrow-in_range (negsuc n) f = grind (arith, f.sfits)

-- what was computed in 64 bits is given
pub given_as : (ss : List QualifiedName) (n z : ℤ) → FitsSigned w64 n → n ≡ z → number_or ss (in_range z) ≡ Gives (Integer n) ss
given_as ss n z f e = ap (λ m. number_or ss (in_range m)) (sym e) ∙ ap (number_or ss) (narrow-in_range n f)

pub given_where : (ss : List QualifiedName) (r : Option ℤ) (z : ℤ) → SomeIff r (FitsSigned w64 z) z → IfSome r (λ n. number_or ss (in_range z) ≡ Gives (Integer n) ss)
given_where ss None z h = tt
given_where ss (Some n) z h = given_as ss n z (subst (FitsSigned w64) (sym h.1) h.0) h.1

some_there : (ss : List QualifiedName) (z : ℤ) (o : Option ℤ) → in_64 z ≡ o → IfSome o (λ n. number_or ss (in_range z) ≡ Gives (Integer n) ss)
some_there ss (pos n) None e = tt
some_there ss (negsuc n) None e = tt
some_there ss (pos n) (Some x) e = grind arith
some_there ss (negsuc n) (Some x) e = grind arith

pub given_narrowed : (ss : List QualifiedName) (r : Option ℤ) (z : ℤ) → r ≡ in_64 z → IfSome r (λ n. number_or ss (in_range z) ≡ Gives (Integer n) ss)
given_narrowed ss r z e = some_there ss z r (sym e)

-- an integer without its sign
pub sign_left : (t : Table) (i : ℤ) → int_lt i (pos 0) ≢ true → bounded t (without_sign by_number (Integer i)) ≡ Gives (Integer i) t.symbols
unfolding bounded
sign_left t (pos n) l = refl
sign_left t (negsuc n) l = absurd (l refl)

not_below : (n : ℕ) → int_lt (pos n) (pos 0) ≡ false
not_below n = grind (arith, nat_tests)

pub sign_taken : (t : Table) (i : ℤ) (r : Option ℤ) → int_lt i (pos 0) ≡ true → SomeIff r (FitsSigned w64 (neg_ℤ i)) (neg_ℤ i) → IfSome r (λ n. bounded t (without_sign by_number (Integer i)) ≡ Gives (Integer n) t.symbols)
unfolding bounded
sign_taken t (pos n) r l s = absurd (true≢false (sym l ∙ not_below n))
sign_taken t (negsuc n) r l s = given_where t.symbols r (neg_ℤ (negsuc n)) s

-- the operands of a word each
pub given_one : (h : Objects) (t : Table) (prim : Arithmetic) (x y : Word) (i n : ℤ) → x ≡ Small i
    → bounded t (computed by_number prim (Integer i) (object_of h y)) ≡ Gives (Integer n) t.symbols
    → IsGiven h t.symbols (bounded t (computed by_number prim (object_of h x) (object_of h y))) (Small n)
given_one h t prim x y i n e g = record { lies = grind arith; gives = subst (λ (w : Word). bounded t (computed by_number prim (object_of h w) (object_of h y)) ≡ Gives (Integer n) t.symbols) (sym e) g }

pub given_two : (h : Objects) (t : Table) (prim : Arithmetic) (x y : Word) (i j n : ℤ) → x ≡ Small i → y ≡ Small j
    → bounded t (computed by_number prim (Integer i) (Integer j)) ≡ Gives (Integer n) t.symbols
    → IsGiven h t.symbols (bounded t (computed by_number prim (object_of h x) (object_of h y))) (Small n)
given_two h t prim x y i j n e f g =
    given_one h t prim x y i n e (subst (λ (w : Word). bounded t (computed by_number prim (Integer i) (object_of h w)) ≡ Gives (Integer n) t.symbols) (sym f) g)

pub ruleset floors = (to_z-of_z, floor_above, floor_exact, floor_between, narrow_ranged, in_64-fits)

pub ruleset narrow = (given_as, given_where, given_narrowed)

pub ruleset signs = (sign_left, sign_taken)

pub ruleset operands = (given_one, given_two)
