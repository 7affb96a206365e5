use Rattle.std.proofs.Common.{◌≡◌, ◌≤◌, ◌-◌, vec_len, ◌<◌}
use Rattle.acl_edge.specs.Outside.{Gives}
use Rattle.acl_session.proofs.reading.read_input.Given as goal

abbrev pub invariant-loop-source : goal.invariant-loop-source
invariant-loop-source g l = record {
  gives : Gives (g.S.Source.left l.fn.source) (g.S.Source.left l.source) l.input.items;
  counts : g.S.Source.faults l.fn.source ≤ g.S.Source.faults l.source;
  quiet : g.S.Source.faults l.source ≡ g.S.Source.faults l.fn.source;
  room : 0 < vec_len l.piece;
}

abbrev pub decreases-loop-source : goal.decreases-loop-source
decreases-loop-source g l = 1048577 - vec_len l.input
