use Rattle.model_known.proofs.KeepingLemmas.{keeping_knows}
use Rattle.acl_keep.specs.Seen.{seen_loan}
use Rattle.acl_list_keeper.proofs.SoundLemmas.{sound_by, sound_kept}
use Rattle.acl_list_keeper.proofs.keeper.ListKeeperKeeper.put.Goals as goal

pub returns-in-Ok-clause-sound : goal.returns-in-Ok-clause-sound
returns-in-Ok-clause-sound c h w n i =
    sound_by c.args.self.now.scoped c.put.new.self c.args.self.now.ready h w n _ _ i (c.in-Ok.ensures.ok i.kept i.lefts i.keeps) (keeping_knows.put n (seen_loan c.args.heap.now c.args.loan) i.kept i.known) i.known_lefts

pub returns-in-Err-clause-sound : goal.returns-in-Err-clause-sound
returns-in-Err-clause-sound c h w n i = sound_kept c.args.self.now.scoped c.put.new.self c.args.self.now.ready h w n c.in-Err.ensures.err i
