use Rattle.std.proofs.Common.{ap, ◌∙◌}
use Rattle.acl_outputs.specs.Known.{seen_known}
use Rattle.acl_worlds.specs.Contents.{seen_world}
use Rattle.acl_signatures.specs.Candidates.{seen_candidates}
use Rattle.acl_signatures.proofs.RunningLemmas.{signatures_are}
use Rattle.acl_signatures.proofs.running.signatures.Goals as goal

pub returns : goal.returns
returns c =
    signatures_are (seen_world c.args.heap.now c.args.world.now) _ _ (seen_candidates c.args.heap.now c.args.members.now c.args.executable.now) c.in_ok-found.ensures
    (ap seen_known c.as_slice.ensures ∙ c.in_ok-known.ensures)
