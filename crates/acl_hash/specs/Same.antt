-- Two keys are equal where their objects are, and are then hashed alike.
use Rattle.std.specs.Prelude.{◌≡◌, ℕ, Bool, IsTrue, List, [], ◌∷◌}
use Rattle.std.proofs.Common.{ap, sym, ◌∙◌}
use Rattle.std.specs.Cmp.{IsEquivalence, IsPartialEquivalence, partial_equiv_from_equiv, decided}
use Rattle.model_objects.specs.Object.{Object}
use Rattle.model_prims.specs.Kinds.{by_number, same_object}
use Rattle.model_prims.proofs.Same.{same_itself, same_tells}
use Rattle.acl_hash.specs.Bytes.{key_bytes}

-- whether two keys are equal
abbrev pub same_key : Object ℕ → Object ℕ → Bool
same_key a b = same_object by_number a b

pub same_equiv : IsEquivalence same_key
same_equiv = decided same_key (λ x y. (same_tells x y, λ e. ap (same_key x) (sym e) ∙ same_itself x))

pub same_per : IsPartialEquivalence same_key
same_per = partial_equiv_from_equiv same_equiv

-- what a key gives to a hasher, in one write
abbrev pub writes_of : Object ℕ → List (List ℕ)
writes_of k = key_bytes k ∷ []

pub same_writes : (x y : Object ℕ) → IsTrue (same_key x y) → writes_of x ≡ writes_of y
same_writes x y e = ap writes_of (same_tells x y e)
