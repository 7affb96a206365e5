use Rattle.std.proofs.Common.{rules, ◌≡◌, Some, subst}
use Rattle.acl_terms.specs.Forms.{numbers}
use Rattle.acl_keep.specs.Seen.{all_seen}
use Rattle.acl_machine.specs.Cells.{WritesAll}
use Rattle.acl_machine.specs.Actuals.{under_formals, actuals_in}
use Rattle.acl_call_turns.specs.Calls.{entered, HandsOver}
use Rattle.acl_export_turns.specs.Steps.{inside_of}
use Rattle.acl_exec_turns.specs.Steps.{called}
use Rattle.acl_exec_turns.proofs.RunLemmas.{exec_enters}
use Rattle.acl_exec_turns.proofs.KeepLemmas.{cancels}
use Rattle.acl_exec_turns.proofs.SoundLemmas.{entered_sound}
use Rattle.acl_exec_turns.proofs.function.exec_function.Goals as goal

pub returns-in-Ok-clause-turns : goal.returns-in-Ok-clause-turns
returns-in-Ok-clause-turns g c =
    let actuals : c.call.new.machine.actuals ≡ actuals_in c.args.machine.now c.args.frame.base c.args.export.count c.args.names = search rules in
    let writes : WritesAll c.args.frame.base (under_formals c.args.written.now.formals (actuals_in c.args.machine.now c.args.frame.base c.args.export.count c.args.names)) c.args.machine.now.values c.enter_function.new.machine.values = search rules in
    let after : c.enter_function.new.machine ≡ entered (Some (inside_of c.args.export.name c.args.export.count c.args.names c.args.number c.args.machine.now)) c.args.exec c.args.frame.base c.args.written.now.guard_term c.enter_function.new.machine.values (called c.args.frame.base c.args.export.count c.args.names c.args.machine.now) = search rules in
    exec_enters g.K.Keeper.keeping _ c.args.machine.now c.args.frame c.args._function c.args.names c.args.number
    (g.K.Keeper.Keeps c.args.keeper.now) (g.K.Keeper.Keeps c.begin_export.new.self) (g.K.Keeper.Keeps c.enter_function.new.keeper) _
    c.args.export.name c.args.export.exec c.args.export.count c.args.exec c.args.written.now c.enter_function.new.machine.values
    c.requires.given c.requires.first c.requires.step c.requires.left c.requires.few c.requires.export c.requires.number c.requires.is writes c.begin_export.ensures.keeps
    (subst (λ xs. HandsOver g.K.Keeper.keeping (g.K.Keeper.Keeps c.begin_export.new.self) (g.K.Keeper.Keeps c.enter_function.new.keeper) (numbers c.args.written.now.formals) (all_seen c.args.heap.now xs)) actuals c.in-Ok.ensures.keeps)
    after

pub returns-in-Ok-clause-sound : goal.returns-in-Ok-clause-sound
returns-in-Ok-clause-sound g c =
    let writes : WritesAll c.args.frame.base (under_formals c.args.written.now.formals (actuals_in c.args.machine.now c.args.frame.base c.args.export.count c.args.names)) c.args.machine.now.values c.enter_function.new.machine.values = search rules in
    let after : c.enter_function.new.machine ≡ entered (Some (inside_of c.args.export.name c.args.export.count c.args.names c.args.number c.args.machine.now)) c.args.exec c.args.frame.base c.args.written.now.guard_term c.enter_function.new.machine.values (called c.args.frame.base c.args.export.count c.args.names c.args.machine.now) = search rules in
    entered_sound _ _ c.args.machine.now _ (inside_of c.args.export.name c.args.export.count c.args.names c.args.number c.args.machine.now) c.args.exec c.args.frame.base c.args.export.count c.args.names c.args.written.now.guard_term c.args.written.now.formals c.enter_function.new.machine.values
    c.requires.sound writes after

pub returns-in-Err-clause-err : goal.returns-in-Err-clause-err
returns-in-Err-clause-err g c =
    cancels g.K.Keeper.keeping (g.K.Keeper.Keeps c.args.keeper.now) (g.K.Keeper.Keeps c.begin_export.new.self) (g.K.Keeper.Keeps c.enter_function.new.keeper) (g.K.Keeper.Keeps c.cancel_export.new.self) c.args.machine.now
    c.requires.few c.begin_export.ensures.keeps c.in-Err.ensures.err c.cancel_export.ensures.keeps
