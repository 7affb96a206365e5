use Rattle.std.specs.Prelude.{length}
use Rattle.std.proofs.Common.{◌≤◌, arith, refl}
use Rattle.acl_code.proofs.PartLemmas.{parts_step, parts_are, parts_end}
use Rattle.acl_code.proofs.parts.put_parts.Goals as goal

pub loop-part-preserved : goal.loop-part-preserved
loop-part-preserved c =
    parts_step c.args.heap.now c.args.terms.now c.loop-part.terms c.put_part.new.terms c.args.parts.now c.loop-part.part-index _ c.loop-part-test.true c.loop-part.invariant
    c.in_ok-put_part.ensures.is c.in_ok-put_part.ensures.grows c.in_ok-put_part.ensures.words c.in_ok-put_part.ensures.known

pub returns-clause-are : goal.returns-clause-are
returns-clause-are c =
    let past : length c.args.parts.now ≤ c.loop-part.part-index = omega arith in
    parts_are c.args.heap.now c.args.terms.now c.loop-part.terms c.args.parts.now c.loop-part.part-index _ past c.loop-part.invariant c.len.ensures refl

pub returns-clause-end : goal.returns-clause-end
returns-clause-end c =
    let past : length c.args.parts.now ≤ c.loop-part.part-index = omega arith in
    rw c.len.ensures (parts_end c.args.heap.now c.args.terms.now c.loop-part.terms c.args.parts.now c.loop-part.part-index past c.loop-part.invariant)
