use Rattle.std.specs.Prelude.{◌<◌, length}
use Rattle.std.proofs.Common.{rules}
use Rattle.acl_terms.specs.Signatures.{seen_out}
use Rattle.acl_thread.proofs.PartLemmas.{wrong_next}
use Rattle.acl_thread.proofs.parts.any_wrong_part.Goals as goal

pub loop-i-preserved : goal.loop-i-preserved
loop-i-preserved c =
    wrong_next c.args.heap.now c.args.kinds.now c.args.parts.now c.loop-i.i c.index-parts-i.result (seen_out c.kind_at-kind.result) _ _ c.loop-i.invariant c.loop-i-test.true c.index-parts-i.is c.kind_at-kind.ensures
    c.is_wrong_part.ensures c.if-is_wrong_part.false
