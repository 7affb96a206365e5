use Rattle.std.proofs.Common.{rules, ◌≡◌, ◌+◌, None, subst}
use Rattle.acl_terms.specs.Forms.{numbers}
use Rattle.acl_keep.specs.Seen.{all_seen}
use Rattle.acl_machine.specs.Cells.{cells_from, WritesAll}
use Rattle.acl_machine.specs.Actuals.{under_formals}
use Rattle.acl_machine.specs.Steps.{counted}
use Rattle.acl_call_turns.specs.Calls.{entered, HandsOver}
use Rattle.acl_call_turns.proofs.EnterLemmas.{calls_function}
use Rattle.acl_call_turns.proofs.SoundLemmas.{entered_sound}
use Rattle.acl_call_turns.proofs.enter.call_function.Goals as goal

pub returns-clause-turns : goal.returns-clause-turns
returns-clause-turns g c =
    let copied : c.copy.new.self ≡ cells_from c.args.machine.now.values (c.args.frame.base + c.args.at) c.args.count = search rules in
    let writes : WritesAll (c.args.frame.base + c.args.at) (under_formals c.args.written.now.formals (cells_from c.args.machine.now.values (c.args.frame.base + c.args.at) c.args.count)) c.args.machine.now.values c.enter_function.new.machine.values = search rules in
    calls_function g.K.Keeper.keeping (g.K.Keeper.Keeps c.args.keeper.now) (g.K.Keeper.Keeps c.enter_function.new.keeper) _ _ _ _ _ _ c.args.written.now c.enter_function.new.machine.values
    c.requires.given c.requires.first c.requires.step c.requires.left c.requires.is writes
    (subst (λ xs. HandsOver g.K.Keeper.keeping (g.K.Keeper.Keeps c.args.keeper.now) (g.K.Keeper.Keeps c.enter_function.new.keeper) (numbers c.args.written.now.formals) (all_seen c.args.heap.now xs)) copied c.in_ok-enter_function.ensures.keeps)
    _ (search rules)

pub returns-clause-sound : goal.returns-clause-sound
returns-clause-sound g c =
    let writes : WritesAll (c.args.frame.base + c.args.at) (under_formals c.args.written.now.formals (cells_from c.args.machine.now.values (c.args.frame.base + c.args.at) c.args.count)) c.args.machine.now.values c.enter_function.new.machine.values = search rules in
    entered_sound _ _ c.args.machine.now None c.args.function (c.args.frame.base + c.args.at) c.args.count c.args.written.now.guard_term c.args.written.now.formals c.enter_function.new.machine.values c.requires.sound writes _ (search rules)
