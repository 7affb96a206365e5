use Rattle.acl_list_keeper.proofs.SoundLemmas.{sound_new}
use Rattle.acl_list_keeper.proofs.keeper.ListKeeper.new.Goals as goal

pub returns-clause-sound : goal.returns-clause-sound
returns-clause-sound c h w n f = sound_new c.new.result h w n c.new.ensures f
