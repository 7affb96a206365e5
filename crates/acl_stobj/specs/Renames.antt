-- Names that are to be put for others, found by the numbers of those.
use Rattle.std.specs.Prelude.{◌≡◌, ℕ, ◌<◌, List, [], ◌∷◌, nat_eq, Option, option_map}
use Rattle.std.specs.List.{find}
use Rattle.std.specs.HashMap.{HashMap, get}
use Rattle.std.specs.Option.{option_or}
use Rattle.acl_base.specs.declared.SymId.{SymId}
use Rattle.acl_stobj_read.specs.Written.{seen_pair}

-- the first that is put for a name
abbrev pub renamed : List (ℕ × ℕ) → ℕ → Option ℕ
renamed ren x = option_map (λ (p : ℕ × ℕ). p.1) (find (λ (p : ℕ × ℕ). nat_eq x p.0) ren)

-- those that others are put for have numbers below this one
abbrev pub AreOld : ℕ → List (ℕ × ℕ) → Type 0
AreOld n [] = Unit {0}
AreOld n (p ∷ ps) = (p.0 < n) × AreOld n ps

-- the map has for each name the first that is put for it
pub record Renames {S : Type 0} (n : ℕ) (ren : List (ℕ × ℕ)) (first : HashMap ℕ ℕ S) : Type 0 where
  pub each : (x : ℕ) → get nat_eq first x ≡ renamed ren x
  pub old : AreOld n ren

-- one more pair is entered, unless something is put for its name already
pub record Enters {S : Type 0} (old new : HashMap ℕ ℕ S) (p : SymId × SymId) : Type 0 where
  pub each : (x : ℕ) → get nat_eq new x ≡ option_or (get nat_eq old x) (renamed (seen_pair p ∷ []) x)
