use Rattle.model_known.proofs.KeepingLemmas.{keeping_knows}
use Rattle.acl_keep.specs.Seen.{seen_loans}
use Rattle.acl_list_keeper.proofs.SoundLemmas.{sound_by, sound_kept}
use Rattle.acl_list_keeper.proofs.keeper.ListKeeperKeeper.lend.Goals as goal

pub lend-requires-clause-within : goal.lend-requires-clause-within
lend-requires-clause-within c = c.requires.may.keeps.within

pub returns-in-Ok-clause-sound : goal.returns-in-Ok-clause-sound
returns-in-Ok-clause-sound c h w n i =
    sound_by c.args.self.now.scoped c.lend.new.self c.args.self.now.ready h w n _ _ i (c.in-Ok.ensures.ok i.kept i.lefts i.keeps) (keeping_knows.lend n (seen_loans c.args.heap.now c.args.loans.now) i.kept i.known) i.known_lefts

pub returns-in-Err-clause-sound : goal.returns-in-Err-clause-sound
returns-in-Err-clause-sound c h w n i = sound_kept c.args.self.now.scoped c.lend.new.self c.args.self.now.ready h w n c.in-Err.ensures.err i
