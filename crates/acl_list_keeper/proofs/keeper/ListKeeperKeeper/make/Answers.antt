use Rattle.std.proofs.Common.{length}
use Rattle.model_known.proofs.WorldLemmas.{worlds_know}
use Rattle.acl_worlds.specs.Contents.{seen_world}
use Rattle.acl_list_keeper.proofs.SoundLemmas.{sound_by, sound_kept}
use Rattle.acl_list_keeper.proofs.keeper.ListKeeperKeeper.make.Goals as goal

pub returns-in-Ok-clause-sound : goal.returns-in-Ok-clause-sound
returns-in-Ok-clause-sound c =
    sound_by c.args.self.now.scoped c.make.new.self c.args.self.now.ready c.args.heap.now c.args.world.now (length c.args.syms.now.symbols) _ _ c.requires.sound
    (c.in-Ok.ensures.ok c.requires.sound.kept c.requires.sound.lefts c.requires.sound.keeps)
    (worlds_know.list (length c.args.syms.now.symbols) (seen_world c.args.heap.now c.args.world.now) c.args.stobj.0 c.requires.sound.world.knows, c.requires.sound.known) c.requires.sound.known_lefts

pub returns-in-Err-clause-sound : goal.returns-in-Err-clause-sound
returns-in-Err-clause-sound c = sound_kept c.args.self.now.scoped c.make.new.self c.args.self.now.ready c.args.heap.now c.args.world.now (length c.args.syms.now.symbols) c.in-Err.ensures.err c.requires.sound
