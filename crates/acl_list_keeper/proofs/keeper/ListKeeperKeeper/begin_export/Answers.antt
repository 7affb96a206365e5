use Rattle.acl_list_keeper.proofs.SoundLemmas.{sound_kept}
use Rattle.acl_list_keeper.proofs.keeper.ListKeeperKeeper.begin_export.Goals as goal

pub returns-clause-keeps : goal.returns-clause-keeps
returns-clause-keeps c k ls i l = c.begin_export.ensures k ls i

pub returns-clause-sound : goal.returns-clause-sound
returns-clause-sound c h w n i = sound_kept c.args.self.now.scoped c.begin_export.new.self c.args.self.now.ready h w n c.begin_export.ensures i
