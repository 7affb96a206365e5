-- Which package is to be the current one.
use Rattle.std.specs.Prelude.{◌≡◌, ℕ, ◌≤◌, List, length, Option, Some, None}
use Rattle.model_objects.specs.Object.{Object}
use Rattle.model_symbols.specs.Symbols.{Package}
use Rattle.model_expansion.specs.Words.{in_package_word}
use Rattle.model_expansion.specs.Faults as faults
use Rattle.model_expansion.specs.Faults.{Refusal}
use Rattle.model_expansion.specs.Expansion.{Progress}
use Rattle.model_stobjs.specs.Answers as answer
use Rattle.model_events.specs.Constants.{current_read}
use Rattle.acl_base.specs.declared.Word.{Word}
use Rattle.acl_heap.specs.Objects.{Objects, object_of, reach, Lies, IsText}
use Rattle.acl_packages.specs.declared.fault.CurrentFault.{CurrentFault}
use Rattle.acl_packages.specs.declared.fault.CurrentFault.TheVariants as fault
use Rattle.acl_packages.specs.Packages.{bytes_in}

abbrev pub SeenText : Objects → Option Word → Option (List ℕ) → Type 0
SeenText h None o = o ≡ None
SeenText h (Some w) o = (o ≡ Some (bytes_in (object_of h w))) × IsText (object_of h w) × Lies h w

module _ (packages : List Package) (d : Object ℕ) where
  -- the package of this number
  pub record GrantsCurrent (n : ℕ) : Type 0 where
    pub is : (p : Progress) → current_read packages d p ≡ answer.Grants n p

  pub record RefusesCurrent (r : Refusal) : Type 0 where
    pub is : (p : Progress) → current_read packages d p ≡ answer.Refuses r p

-- what is said of the refusal that was answered
abbrev pub ToldCurrent : Objects → (Refusal → Type 0) → CurrentFault → Type 0
ToldCurrent h P fault.BadShape = P (faults.Expand (faults.BadShape in_package_word))
ToldCurrent h P (fault.UnknownPackage w) = P (faults.UnknownPackage (object_of h w))

abbrev pub current_reach : CurrentFault → ℕ
current_reach fault.BadShape = 0
current_reach (fault.UnknownPackage w) = reach w
