use Rattle.model_eval.specs.Variables.{first_stobj}
use Rattle.model_eval.specs.ListsKeeping.{list_restored}
use Rattle.model_known.proofs.KeepingLemmas.{keeping_knows}
use Rattle.acl_keep.specs.Seen.{all_seen}
use Rattle.acl_list_keeper.proofs.SoundLemmas.{sound_taken}
use Rattle.acl_list_keeper.proofs.keeper.ListKeeperKeeper.abandon.Goals as goal

pub returns-clause-sound : goal.returns-clause-sound
returns-clause-sound c h w n i =
    sound_taken c.args.self.now.scoped c.abandon.new.self c.args.self.now.ready h w n (λ k l. list_restored (first_stobj (all_seen c.args.heap.now c.args.actuals.now)) l k)
    c.abandon.ensures.keeps c.abandon.ensures.none (λ k l a b. keeping_knows.abandon n (all_seen c.args.heap.now c.args.actuals.now) l k b a) i
