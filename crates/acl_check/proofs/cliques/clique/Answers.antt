use Rattle.std.specs.Prelude.{map}
use Rattle.std.proofs.Common.{ap, ◌∙◌}
use Rattle.model_terms.specs.Outputs.{Known}
use Rattle.acl_worlds.specs.Contents.{seen_world}
use Rattle.acl_outputs.specs.Known.{seen_known}
use Rattle.acl_check.specs.Members.{seen_members, member_signature}
use Rattle.acl_check.proofs.cliques.clique.Goals as goal

pub returns : goal.returns
returns c =
    c.in_ok-found.ensures
    ∙ ap (λ (ks : Known). map (member_signature (seen_world c.args.heap.now c.args.world.now) ks) (seen_members c.args.heap.now c.args.members.now)) (ap seen_known c.as_slice.ensures ∙ c.in_ok-known.ensures)
