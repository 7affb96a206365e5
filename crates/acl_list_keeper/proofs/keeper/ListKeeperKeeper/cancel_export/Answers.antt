use Rattle.acl_list_keeper.proofs.SoundLemmas.{sound_kept}
use Rattle.acl_list_keeper.proofs.keeper.ListKeeperKeeper.cancel_export.Goals as goal

pub returns-clause-sound : goal.returns-clause-sound
returns-clause-sound c h w n i = sound_kept c.args.self.now.scoped c.cancel_export.new.self c.args.self.now.ready h w n c.cancel_export.ensures i
