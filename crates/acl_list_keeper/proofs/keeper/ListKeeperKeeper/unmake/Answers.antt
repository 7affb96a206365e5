use Rattle.model_known.proofs.KeepingLemmas.{keeping_knows}
use Rattle.acl_list_keeper.proofs.SoundLemmas.{sound_by}
use Rattle.acl_list_keeper.proofs.keeper.ListKeeperKeeper.unmake.Goals as goal

pub returns-clause-sound : goal.returns-clause-sound
returns-clause-sound c h w n i = sound_by c.args.self.now.scoped c.unmake.new.self c.args.self.now.ready h w n _ _ i (c.unmake.ensures i.kept i.lefts i.keeps) (keeping_knows.unmake n i.kept i.known) i.known_lefts
