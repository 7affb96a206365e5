-- The last place of a name.
use Rattle.std.specs.Prelude.{ℕ, suc, List, [], ◌∷◌, Option, Some, None, nat_eq, option_map, if◌then◌else◌}
use Rattle.std.specs.Option.{option_or}

-- the last place, from 0 on, at which a name stands among some names
abbrev pub last_place : ℕ → List ℕ → Option ℕ
last_place x [] = None
last_place x (y ∷ ys) = option_or (option_map suc (last_place x ys)) (if nat_eq x y then Some 0 else None)
