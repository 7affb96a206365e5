-- Pairs of symbols.
use Rattle.std.specs.Prelude.{◌≡◌, ℕ, List, [], ◌∷◌, ◌++◌, map, Option, Some, None, option_map, option_and_then, refl}
use Rattle.std.proofs.lemmas.List.{map-append}
use Rattle.model_objects.specs.Object.{Object}
use Rattle.model_expansion.specs.Forms.{symbol}
use Rattle.model_stobjs.specs.Descriptors.{two_symbols}
use Rattle.acl_base.specs.declared.SymId.{SymId}
use Rattle.acl_stobj_read.specs.Lists.{two_or_three}
use Rattle.acl_stobj_read.specs.Written.{seen_pair, seen_renaming}

not_two : (os : List (Object ℕ)) → two_or_three os ≡ None → two_symbols os ≡ None
not_two [] e = refl
not_two (a ∷ []) e = refl
not_two (a ∷ (b ∷ [])) e = cc
not_two (a ∷ (b ∷ (c ∷ []))) e = refl
not_two (a ∷ (b ∷ (c ∷ (d ∷ os)))) e = refl

pub not_listed : (es : Option (List (Object ℕ))) → option_and_then two_or_three es ≡ None → option_and_then two_symbols es ≡ None
not_listed None e = refl
not_listed (Some os) e = not_two os e

pub three_listed : (es : Option (List (Object ℕ))) (a b c : Object ℕ) → es ≡ Some (a ∷ (b ∷ (c ∷ []))) → option_and_then two_symbols es ≡ None
three_listed es a b c e = rw e refl

pub two_listed : (es : Option (List (Object ℕ))) (a b : Object ℕ) → es ≡ Some (a ∷ (b ∷ [])) → option_and_then two_symbols es ≡ option_and_then (λ x. option_map (λ y. (x, y)) (symbol b)) (symbol a)
two_listed es a b e = rw e refl

pub pair_pushed : (ps : List (SymId × SymId)) (p : SymId × SymId) → seen_renaming (ps ++ p ∷ []) ≡ seen_renaming ps ++ seen_pair p ∷ []
pair_pushed ps p = map-append seen_pair ps (p ∷ [])
