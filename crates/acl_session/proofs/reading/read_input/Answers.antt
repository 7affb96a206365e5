use Rattle.std.proofs.Common.{◌≤◌, ◌∙◌, refl, arith}
use Rattle.acl_edge.proofs.EndLemmas.{Gives-nothing, Gives-then}
use Rattle.acl_session.proofs.RunLemmas.{in_vector, input_long, input_whole}
use Rattle.acl_session.proofs.reading.read_input.Goals as goal
use Rattle.acl_session.proofs.reading.read_input.Goals.{else-loop-source-test, then-loop-source-test+in_ok-count+then-count-eq0}

pub loop-source-init : goal.loop-source-init
loop-source-init g c = record {
  gives = rw c.new-input.ensures.items (Gives-nothing (g.S.Source.left c.args.source.now));
  counts = omega arith;
  quiet = refl;
  room = omega (arith, c.in_ok-piece.ensures.len);
}

pub loop-source-preserved : goal.loop-source-preserved
loop-source-preserved g c =
    let within : c.in_ok-count.count ≤ c.loop-source.piece.len = omega (arith, c.in_ok-count.ensures.count, c.as_mut_slice.ensures.len) in
    record {
      gives = rw c.in_ok-extend_from_slice.ensures.items
          (Gives-then (g.S.Source.left c.args.source.now) (g.S.Source.left c.loop-source.source) (g.S.Source.left c.read.new.self) c.loop-source.input.items _ c.loop-source.invariant.gives
          (rw (c.deref.ensures.value, in_vector c.in_ok-count.count c.loop-source.piece.len c.read.new.buf _ c.in_ok-count.ensures.count within) c.in_ok-count.ensures.gives));
      counts = omega (arith, c.loop-source.invariant.counts, c.read.ensures.counts);
      quiet = c.in_ok-count.ensures.quiet ∙ c.loop-source.invariant.quiet;
      room = c.loop-source.invariant.room;
    }

pub returns-clause-input : goal.returns-clause-input
returns-clause-input g c = elim c.loop-source-test.branch [
  | else-loop-source-test w ↦ input_long _ _ _ c.loop-source.invariant.gives (omega (arith, c.len.ensures, w.loop-source-test.false))
  | then-loop-source-test+in_ok-count+then-count-eq0 w ↦ input_whole _ _ _ c.loop-source.invariant.gives (w.in_ok-count.ensures.end w.if-count-eq0.true (omega (arith, c.loop-source.invariant.room, w.as_mut_slice.ensures.len, w.as_mut_slice.ensures.value)))
]

pub returns-clause-quiet : goal.returns-clause-quiet
returns-clause-quiet g c = elim c.loop-source-test.branch [
  | else-loop-source-test w ↦ rw w.source-is c.loop-source.invariant.quiet
  | then-loop-source-test+in_ok-count+then-count-eq0 w ↦ rw w.source-is (w.in_ok-count.ensures.quiet ∙ c.loop-source.invariant.quiet)
]

pub returns-clause-counts : goal.returns-clause-counts
returns-clause-counts g c = elim c.loop-source-test.branch [
  | else-loop-source-test w ↦ rw w.source-is c.loop-source.invariant.counts
  | then-loop-source-test+in_ok-count+then-count-eq0 w ↦ rw w.source-is (omega (arith, c.loop-source.invariant.counts, w.read.ensures.counts))
]
