use Rattle.std.proofs.Common.{rules, ◌≡◌}
use Rattle.acl_forms.specs.Growth.{Grown-self}
use Rattle.acl_machine.specs.declared.frame.Halt.TheVariants as halt
use Rattle.acl_export_turns.specs.Steps.{inside_of, stopped_inside}
use Rattle.acl_exec_turns.specs.Steps.{called}
use Rattle.acl_exec_turns.proofs.RunLemmas.{exec_refuses}
use Rattle.acl_exec_turns.proofs.SoundLemmas.{stopped_sound}
use Rattle.acl_exec_turns.proofs.stopping.exec_refused.Goals as goal

pub returns-clause-turns : goal.returns-clause-turns
returns-clause-turns g c =
    let after : c.stop_inside.new.machine ≡ stopped_inside (inside_of c.args.export.name c.args.export.count c.args.names c.args.number c.args.machine.now) (halt.Guard c.args.export.exec) c.args.frame.base (called c.args.frame.base c.args.export.count c.args.names c.args.machine.now) = search rules in
    exec_refuses g.K.Keeper.keeping _ c.args.machine.now c.args.frame c.args._function c.args.names c.args.number (g.K.Keeper.Keeps c.args.keeper.now) (g.K.Keeper.Keeps c.begin_export.new.self) _
    c.args.export.name c.args.export.exec c.args.export.count c.requires.given c.requires.first c.requires.step c.requires.left c.requires.few c.requires.export c.requires.refused c.begin_export.ensures.keeps after

pub returns-clause-sound : goal.returns-clause-sound
returns-clause-sound g c =
    let after : c.stop_inside.new.machine ≡ stopped_inside (inside_of c.args.export.name c.args.export.count c.args.names c.args.number c.args.machine.now) (halt.Guard c.args.export.exec) c.args.frame.base (called c.args.frame.base c.args.export.count c.args.names c.args.machine.now) = search rules in
    stopped_sound _ _ _ _ c.args.machine.now _ (Grown-self _ _) c.requires.sound (inside_of c.args.export.name c.args.export.count c.args.names c.args.number c.args.machine.now) (halt.Guard c.args.export.exec) c.args.frame.base c.args.export.count c.args.names after
