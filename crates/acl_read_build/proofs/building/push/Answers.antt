use Rattle.acl_read_build.proofs.SlotLemmas.{put_on}
use Rattle.acl_read_build.proofs.building.push.Goals as goal

pub returns-clause-ok : goal.returns-clause-ok
returns-clause-ok c = put_on _ _ _ _ c.args.slot c.in_ok-push.ensures.items c.requires.slots c.requires.slot
