-- Lists of two or three, by what is taken from them.
use Rattle.std.specs.Prelude.{◌≡◌, ℕ, List, [], ◌∷◌, true, false, Option, Some, None, option_and_then, refl}
use Rattle.std.proofs.Common.{◌∙◌}
use Rattle.model_objects.specs.Object.{Object}
use Rattle.model_expansion.specs.Layers.{is_none}
use Rattle.acl_stobj_read.specs.Lists.{two_or_three}

pub no_list : (es : Option (List (Object ℕ))) → es ≡ None → option_and_then two_or_three es ≡ None
no_list es e = rw e refl

pub empty : (es : Option (List (Object ℕ))) (os : List (Object ℕ)) → es ≡ Some os → os ≡ [] → option_and_then two_or_three es ≡ None
empty es os e f = rw (e, f) refl

pub one : (es : Option (List (Object ℕ))) (os rest : List (Object ℕ)) (a : Object ℕ) → es ≡ Some os → os ≡ a ∷ rest → rest ≡ [] → option_and_then two_or_three es ≡ None
one es os rest a e f g = rw (e, f, g) refl

pub two : (es : Option (List (Object ℕ))) (os rest more : List (Object ℕ)) (a b : Object ℕ) → es ≡ Some os → os ≡ a ∷ rest → rest ≡ b ∷ more → more ≡ []
    → es ≡ Some (a ∷ (b ∷ []))
two es os rest more a b e f g k = e ∙ rw (f, g, k) refl

none_left : (os : List (Object ℕ)) → is_none [] os ≡ true → os ≡ []
none_left [] e = refl
none_left (o ∷ os) e = cc

pub three : (es : Option (List (Object ℕ))) (os rest more last : List (Object ℕ)) (a b c : Object ℕ) → es ≡ Some os → os ≡ a ∷ rest → rest ≡ b ∷ more → more ≡ c ∷ last → is_none [] last ≡ true
    → es ≡ Some (a ∷ (b ∷ (c ∷ [])))
three es os rest more last a b c e f g k n = e ∙ rw (f, g, k, none_left last n) refl

pub more : (es : Option (List (Object ℕ))) (os rest later last : List (Object ℕ)) (a b c : Object ℕ) → es ≡ Some os → os ≡ a ∷ rest → rest ≡ b ∷ later → later ≡ c ∷ last → is_none [] last ≡ false
    → option_and_then two_or_three es ≡ None
more es os rest later last a b c e f g k n = rw (e, f, g, k) (by last n)
  where
    by : (xs : List (Object ℕ)) → is_none [] xs ≡ false → two_or_three (a ∷ (b ∷ (c ∷ xs))) ≡ None
    by [] n = cc
    by (x ∷ xs) n = refl
