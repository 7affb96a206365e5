use Rattle.std.specs.Prelude.{refl}
use Rattle.model_events.specs.Functions.{signed}
use Rattle.acl_outputs.specs.Known.{seen_known}
use Rattle.acl_signatures.proofs.RunningLemmas.{each_next, each_end}
use Rattle.acl_signatures.proofs.entries.entries_signed.Goals as goal

pub loop-n-preserved : goal.loop-n-preserved
loop-n-preserved c =
    each_next c.args.heap.now (signed (seen_known c.args.known.now)) _ _ _ _ c.args.members.now c.args.executable.now c.loop-n.n c.index-members-n.result _ _ c.loop-n.invariant c.loop-n-test.true c.requires c.index-members-n.is refl c.in_ok-entry.ensures c.in_ok-add_entry.ensures

pub returns : goal.returns
returns c = each_end c.args.heap.now (signed (seen_known c.args.known.now)) _ _ c.args.members.now c.args.executable.now c.loop-n.n c.loop-n.invariant c.loop-n-test.false
