use Rattle.std.proofs.Common.{◌≡◌, ◌∙◌, ◌+◌, ◌-◌, ◌≤◌, arith, drop, rules}
use Rattle.std.proofs.lemmas.List.{length-take}
use Rattle.acl_edge.proofs.EndLemmas.{Takes-more, stopped_part}
use Rattle.acl_edge.proofs.writing.write_all.Goals as goal

pub returns-in_err-at-clause-part : goal.returns-in_err-at-clause-part
returns-in_err-at-clause-part g c =
    let h = c.in_err-at.ensures.err in
    let part = stopped_part (g.K.Sink.written c.args.sink.now) (g.K.Sink.written c.loop-at.sink) (g.K.Sink.written c.write.new.self) c.args.bytes.now c.loop-at.at c.loop-at.invariant.takes h in
    search rules

pub loop-at-preserved : goal.loop-at-preserved
loop-at-preserved g c =
    let h = c.in_ok-at.ensures.count in
    let k : (c.loop-at.at + c.min-count.result) - c.loop-at.at ≡ c.min-count.result = omega arith in
    let n : c.in_ok-at.field-0 ≤ c.min-count.result = omega (arith, h, length-take ((c.loop-at.at + c.min-count.result) - c.loop-at.at) (drop c.loop-at.at c.args.bytes.now)) in
    record {
      within = omega (arith, c.min-count.ensures);
      takes = Takes-more (g.K.Sink.written c.args.sink.now) (g.K.Sink.written c.loop-at.sink) (g.K.Sink.written c.write.new.self) c.args.bytes.now c.loop-at.at c.in_ok-at.field-0 _ c.min-count.result k n
          c.loop-at.invariant.takes c.in_ok-at.ensures.takes;
      counts = omega (arith, c.loop-at.invariant.counts, c.write.ensures.counts);
      quiet = c.in_ok-at.ensures.quiet ∙ c.loop-at.invariant.quiet;
    }
