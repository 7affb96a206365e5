use Rattle.acl_worlds.specs.Contents.{seen_world}
use Rattle.acl_form_times.proofs.RoundLemmas.{may_be_checked}
use Rattle.acl_form_times.proofs.rounds.checked.Goals as goal

pub check_form-requires : goal.check_form-requires
check_form-requires c = may_be_checked c.args.heap.now (seen_world c.args.heap.now c.args.world.now) c.args.core.now c.requires.narrow c.requires.simple
