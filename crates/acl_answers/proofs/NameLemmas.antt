-- Names in lists.
use Rattle.std.specs.Prelude.{◌≡◌, List, [], ◌∷◌, map, Bool, ◌||◌, refl}
use Rattle.std.proofs.Common.{ap}
use Rattle.std.specs.List.{list_any}

-- a test of what is seen of the elements
pub any_named : {X Y : Type 0} (see : X → Y) (test : Y → Bool) (xs : List X) → list_any test (map see xs) ≡ list_any (λ x. test (see x)) xs
any_named see test [] = refl
any_named see test (x ∷ xs) = ap (λ b. test (see x) || b) (any_named see test xs)
