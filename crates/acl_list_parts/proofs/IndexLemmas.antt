-- What tests of integers say of indices.
use Rattle.std.specs.Prelude.{◌≡◌, ℕ, ◌&&◌, Bool, not, ℤ, pos, negsuc, int_lt, nat_lt, nat_le, refl}
use Rattle.std.proofs.Common.{arith}
use Rattle.std.proofs.lemmas.Bool.Decides.{nat_tests}
use Rattle.model_objects.specs.Object.{Object, Integer}
use Rattle.model_lists.specs.Effects.{is_index, is_up_to}

abbrev number : ℤ → Object ℕ
number n = Integer n

pub index_tells : (o : Object ℕ) (n : ℤ) (count : ℕ) → o ≡ Integer n → (not (int_lt n (pos 0)) && int_lt n (pos count)) ≡ is_index o count
index_tells o n count e = rw e (tells n count) where
  tells : (n : ℤ) (count : ℕ) → (not (int_lt n (pos 0)) && int_lt n (pos count)) ≡ is_index (number n) count
  tells (pos m) count = grind (arith, nat_tests)
  tells (negsuc m) count = refl

pub bound_tells : (o : Object ℕ) (n : ℤ) (most : ℕ) → o ≡ Integer n → (not (int_lt n (pos 0)) && not (int_lt (pos most) n)) ≡ is_up_to most o
bound_tells o n most e = rw e (tells n most) where
  tells : (n : ℤ) (most : ℕ) → (not (int_lt n (pos 0)) && not (int_lt (pos most) n)) ≡ is_up_to most (number n)
  tells (pos m) most = grind (arith, nat_tests)
  tells (negsuc m) most = refl
