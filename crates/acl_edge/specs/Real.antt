-- How many errors a real end has counted.
use Rattle.std.specs.Prelude.{ℕ}
use Rattle.acl_edge.specs.declared.real.StdSource.{StdSource}
use Rattle.acl_edge.specs.declared.real.StdSink.{StdSink}

abbrev pub source_faults : {R : Type 0} → StdSource R → ℕ
source_faults s = s.faults

abbrev pub sink_faults : {W : Type 0} → StdSink W → ℕ
sink_faults s = s.faults
