-- That the test of a type says of each object what the type does.
use Rattle.std.specs.Prelude.{◌≡◌, ℕ, Option, Some, None}
use Rattle.model_objects.specs.Object.{Object}
use Rattle.model_prims.specs.Kinds.{by_number}
use Rattle.model_lists.specs.Types.{ValueType, Reading, meets}
use Rattle.model_terms.specs.Cores.{Var}
use Rattle.model_expansion.specs.TypeTerms.{test_of}
use Rattle.acl_meets.specs.Tests.{holds}

abbrev pub Shows : ValueType ℕ → Type 0
Shows t = (x : Object ℕ) → holds (test_of (Var 0) t) x ≡ meets by_number t x

-- where there is a type
abbrev pub IsShown : Option (ValueType ℕ) → Type 0
IsShown None = Unit {0}
IsShown (Some t) = Shows t

pub record ShowsAll (r : Reading ℕ) : Type 0 where
  pub one : IsShown r.one
  pub any : IsShown r.any
  pub all : IsShown r.all
