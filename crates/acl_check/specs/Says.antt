-- What a check answers, by the first fault.
use Rattle.std.specs.Prelude.{◌≡◌, Option, Some, ⊤}
use Rattle.model_terms.specs.Faults as faults
use Rattle.acl_terms.specs.declared.fault.ThreadFault.{ThreadFault}
use Rattle.acl_terms.specs.declared.fault.ThreadFault.TheVariants as fault

-- a refusal names the first fault; want of memory says nothing
abbrev pub Says : Option faults.Fault → ThreadFault → Type 0
Says first (fault.Rule rule place) = first ≡ Some (record { rule = rule; place = place })
Says first fault.Memory = ⊤
