-- Want of memory, and the faults of stops.
use Rattle.std.specs.Prelude.{◌≡◌}
use Rattle.acl_terms.specs.declared.fault.ExpandFault.TheVariants as fault
use Rattle.acl_terms.specs.declared.fault.ExpandFault.{ExpandFault}
use Rattle.acl_terms.specs.declared.outcome.Stop.{Stop}
use Rattle.acl_terms.specs.declared.outcome.Stop.TheVariants as stop
use Rattle.acl_expand.specs.declared.progress.Refused.{Refused}

abbrev pub is_memory : Refused → Type 0
is_memory r = r.fault ≡ fault.Memory

-- a stop that is no want of memory
abbrev pub IsToldStop : Stop → Type 0
IsToldStop (stop.Guard f args) = Unit {0}
IsToldStop stop.Steps = Unit {0}
IsToldStop stop.Depth = Unit {0}
IsToldStop (stop.Range f) = Unit {0}
IsToldStop (stop.Large f) = Unit {0}
IsToldStop (stop.Symbols f) = Unit {0}
IsToldStop stop.Memory = ⊥

-- want of memory is told as itself, and not as the stop of a macro
abbrev pub IsToldFault : ExpandFault → Type 0
IsToldFault (fault.MacroArgs s) = Unit {0}
IsToldFault (fault.BadShape s) = Unit {0}
IsToldFault (fault.MacroStopped s) = IsToldStop s
IsToldFault (fault.UnknownFunction s) = Unit {0}
IsToldFault (fault.Arity s) = Unit {0}
IsToldFault fault.TooNested = Unit {0}
IsToldFault fault.Memory = Unit {0}

abbrev pub IsTold : Refused → Type 0
IsTold r = IsToldFault r.fault

-- the fault of a stop
abbrev pub stop_fault : Stop → ExpandFault
stop_fault stop.Memory = fault.Memory
stop_fault (stop.Guard f args) = fault.MacroStopped (stop.Guard f args)
stop_fault stop.Steps = fault.MacroStopped stop.Steps
stop_fault stop.Depth = fault.MacroStopped stop.Depth
stop_fault (stop.Range f) = fault.MacroStopped (stop.Range f)
stop_fault (stop.Large f) = fault.MacroStopped (stop.Large f)
stop_fault (stop.Symbols f) = fault.MacroStopped (stop.Symbols f)
