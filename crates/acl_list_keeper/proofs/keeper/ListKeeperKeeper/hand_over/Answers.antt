use Rattle.model_known.proofs.KeepingLemmas.{keeping_knows}
use Rattle.acl_terms.specs.Forms.{numbers}
use Rattle.acl_keep.specs.Seen.{all_seen}
use Rattle.acl_list_keeper.proofs.SoundLemmas.{sound_by, sound_kept}
use Rattle.acl_list_keeper.proofs.keeper.ListKeeperKeeper.hand_over.Goals as goal

pub returns-in-Ok-clause-sound : goal.returns-in-Ok-clause-sound
returns-in-Ok-clause-sound c h w n i =
    sound_by c.args.self.now.scoped c.hand_over.new.self c.args.self.now.ready h w n _ _ i (c.in-Ok.ensures.ok i.kept i.lefts i.keeps)
    (keeping_knows.hand_over n (numbers c.args.formals.now) (all_seen c.args.heap.now c.args.actuals.now) i.kept i.known) (i.known, i.known_lefts)

pub returns-in-Err-clause-sound : goal.returns-in-Err-clause-sound
returns-in-Err-clause-sound c h w n i = sound_kept c.args.self.now.scoped c.hand_over.new.self c.args.self.now.ready h w n c.in-Err.ensures.err i
