use Rattle.model_eval.specs.Variables.{handed_back}
use Rattle.model_known.proofs.KeepingLemmas.{keeping_knows}
use Rattle.acl_terms.specs.Forms.{numbers}
use Rattle.acl_keep.specs.Seen.{all_seen}
use Rattle.acl_list_keeper.proofs.SoundLemmas.{sound_taken}
use Rattle.acl_list_keeper.proofs.keeper.ListKeeperKeeper.hand_back.Goals as goal

pub returns-clause-sound : goal.returns-clause-sound
returns-clause-sound c h w n i =
    sound_taken c.args.self.now.scoped c.hand_back.new.self c.args.self.now.ready h w n (λ k l. handed_back (numbers c.args.formals.now) (all_seen c.args.heap.now c.args.actuals.now) k l)
    c.hand_back.ensures.keeps c.hand_back.ensures.none (λ k l a b. keeping_knows.hand_back n (numbers c.args.formals.now) (all_seen c.args.heap.now c.args.actuals.now) k l a b) i
