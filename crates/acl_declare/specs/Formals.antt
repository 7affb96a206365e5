-- What is wrong with formals, and which names are in use.
use Rattle.std.specs.Prelude.{◌≡◌, ℕ, ◌≤◌, length, Option, Some, None, option_map}
use Rattle.model_expansion.specs.Faults as faults
use Rattle.model_expansion.specs.Faults.{Refusal}
use Rattle.acl_heap.specs.Objects.{Objects, object_of, reach}
use Rattle.acl_declare.specs.declared.formals.FormalFault.{FormalFault}
use Rattle.acl_declare.specs.declared.formals.FormalFault.TheVariants as fault

abbrev pub seen_fault : Objects → FormalFault → Refusal
seen_fault h (fault.BadName w) = faults.BadName (object_of h w)
seen_fault h (fault.DuplicateFormal s) = faults.DuplicateFormal s.0

abbrev pub fault_reach : FormalFault → ℕ
fault_reach (fault.BadName w) = reach w
fault_reach (fault.DuplicateFormal s) = 0

-- the fault, whose word lies in the heap
abbrev pub SeenFault : Objects → Option FormalFault → Option Refusal → Type 0
SeenFault h None o = o ≡ None
SeenFault h (Some f) o = (o ≡ Some (seen_fault h f)) × (fault_reach f ≤ length h)
