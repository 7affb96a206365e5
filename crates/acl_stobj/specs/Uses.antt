-- Names that come later in a list, and the first that is in use.
use Rattle.std.specs.Prelude.{◌≡◌, ℕ, List, ◌++◌, nat_eq, Option, option_map}
use Rattle.std.specs.HashSet.{HashSet, contains}
use Rattle.model_terms.specs.Worlds.{World}
use Rattle.model_terms.specs.Classes.{has}
use Rattle.model_expansion.specs.Faults.{NameInUse}
use Rattle.model_stobjs.specs.Heads.{name_in_use}
use Rattle.acl_base.specs.declared.SymId.{SymId}
use Rattle.acl_terms.specs.Forms.{numbers}

-- the set has these names
pub record HasNames {S : Type 0} (names : HashSet ℕ S) (others : List ℕ) : Type 0 where
  pub each : (x : ℕ) → contains nat_eq names x ≡ has others x

-- those behind the rest were looked at
pub record IsLooked {S : Type 0} (w : World) (all rest : List SymId) (later : HashSet ℕ S) (found : Option SymId) : Type 0 where
  pub done : List ℕ
  pub whole : numbers rest ++ done ≡ numbers all
  pub names : HasNames later done
  pub is : name_in_use w done ≡ option_map (λ s. NameInUse s.0) found
