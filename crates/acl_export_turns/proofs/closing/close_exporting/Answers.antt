use Rattle.acl_export_turns.proofs.AllowLemmas.{closes_exporting}
use Rattle.acl_export_turns.proofs.SoundLemmas.{shut_sound}
use Rattle.acl_export_turns.proofs.closing.close_exporting.Goals as goal

pub returns-clause-turns : goal.returns-clause-turns
returns-clause-turns g c =
    closes_exporting g.K.Keeper.keeping (g.K.Keeper.Keeps c.args.keeper.now) (g.K.Keeper.Keeps c.forget.new.self) _ c.args.machine.now c.args._frame c.args._function c.args.names c.args.number c.args.machine.now.actuals _
    c.args._why c.requires.stopped c.requires.first c.requires.step c.forget.ensures.keeps c.in_ok-close.ensures

pub returns-clause-sound : goal.returns-clause-sound
returns-clause-sound g c = shut_sound _ _ c.args.machine.now _ c.args.machine.now.actuals c.args.names c.args.number c.requires.sound c.in_ok-close.ensures

pub returns-clause-keeper_sound : goal.returns-clause-keeper_sound
returns-clause-keeper_sound g c = c.forget.ensures.sound _ _ _ c.requires.keeper
