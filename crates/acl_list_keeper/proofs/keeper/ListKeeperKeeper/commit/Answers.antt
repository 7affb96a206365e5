use Rattle.acl_list_keeper.proofs.SoundLemmas.{sound_taken}
use Rattle.acl_list_keeper.proofs.keeper.ListKeeperKeeper.commit.Goals as goal

pub returns-clause-sound : goal.returns-clause-sound
returns-clause-sound c h w n i = sound_taken c.args.self.now.scoped c.commit.new.self c.args.self.now.ready h w n (λ k l. k) c.commit.ensures.keeps c.commit.ensures.none (λ k l a b. a) i
