use Rattle.acl_export_turns.proofs.SoundLemmas.{many_sound}
use Rattle.acl_exec_turns.proofs.RunLemmas.{exec_many}
use Rattle.acl_exec_turns.proofs.stopping.exec_too_many.Goals as goal

pub returns-clause-turns : goal.returns-clause-turns
returns-clause-turns g c =
    exec_many g.K.Keeper.keeping _ c.args.machine.now c.args.frame c.args._function c.args.names c.args.number (g.K.Keeper.Keeps c.args.keeper.now) (g.K.Keeper.Keeps c.forget.new.self) _
    c.requires.given c.requires.first c.requires.step c.requires.none c.forget.ensures.keeps c.stop_before.ensures

pub returns-clause-sound : goal.returns-clause-sound
returns-clause-sound g c = many_sound _ _ c.args.machine.now _ c.args.names c.args.number c.args.frame.base c.requires.sound c.stop_before.ensures
