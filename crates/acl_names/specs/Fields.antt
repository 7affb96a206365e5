-- Names with their last places, as the fields have them.
use Rattle.std.specs.Prelude.{◌≡◌, ℕ, List, map, take, Option, Some, nat_eq, slice_get, if◌then◌else◌}
use Rattle.std.specs.Option.{option_flatten}
use Rattle.std.specs.Map.{lookup}
use Rattle.acl_names.specs.declared.named.Named.{Named}
use Rattle.acl_names.specs.Places.{last_place}

abbrev pub names_of : List Named → List ℕ
names_of ns = map (λ (n : Named). n.name) ns

-- a name has this place now, and every other what it had
abbrev pub Sets : List (ℕ × Option ℕ) → List (ℕ × Option ℕ) → ℕ → Option ℕ → Type 0
Sets old new x place = (q : ℕ) → lookup (nat_eq q) new ≡ (if nat_eq x q then Some place else lookup (nat_eq q) old)

-- the table has each name's last place, and each name the last place that it had before
pub record AreFields (named : List Named) (latest : List (ℕ × Option ℕ)) : Type 0 where
  pub found : (x : ℕ) → option_flatten (lookup (nat_eq x) latest) ≡ last_place x (names_of named)
  pub earlier : (i : ℕ) (n : Named) → slice_get named i ≡ Some n → n.earlier ≡ last_place n.name (names_of (take i named))
