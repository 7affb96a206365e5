use Rattle.std.proofs.Common.{rules, ◌≡◌, ◌+◌, ◌∷◌, ◌++◌, length, refl, subst}
use Rattle.acl_terms.specs.Forms.{numbers}
use Rattle.acl_keep.specs.Seen.{all_seen}
use Rattle.acl_machine.specs.Cells.{cells_from, WritesAll}
use Rattle.acl_machine.specs.Actuals.{names_of, under_formals}
use Rattle.acl_machine.specs.Steps.{counted}
use Rattle.acl_call_turns.specs.Calls.{HandsOver}
use Rattle.acl_machine.proofs.SoundLemmas.{copied_whole}
use Rattle.acl_export_turns.specs.Steps.{guarded}
use Rattle.acl_export_turns.proofs.EnterLemmas.{enters_export}
use Rattle.acl_export_turns.proofs.ReadLemmas.{written_read, names_read, others_read}
use Rattle.acl_export_turns.proofs.SoundLemmas.{guarded_sound}
use Rattle.acl_exec_turns.proofs.KeepLemmas.{forgets}
use Rattle.acl_exec_turns.proofs.calling.call_export.Goals as goal

pub returns-in-Ok-clause-turns : goal.returns-in-Ok-clause-turns
returns-in-Ok-clause-turns g c =
    let copied : c.copy.new.self ≡ cells_from c.args.machine.now.values (c.args.frame.base + c.args.at) c.args.count = search rules in
    let writes : WritesAll (c.args.frame.base + c.args.at) (under_formals c.args.of.now.formals (cells_from c.args.machine.now.values (c.args.frame.base + c.args.at) c.args.count)) c.args.machine.now.values c.hand_actuals_over.new.machine.values = search rules in
    let many : c.in-Ok.names ≡ length (names_of (cells_from c.args.machine.now.values (c.args.frame.base + c.args.at) c.args.count)) = search rules in
    let after : c.begin_guard.new.machine ≡ guarded c.args.function c.in-Ok.names c.args.of.now.guard_term (c.args.frame.base + c.args.at) (counted (record c.args.machine.now { values = c.hand_actuals_over.new.machine.values; names = c.args.machine.now.names ++ names_of (cells_from c.args.machine.now.values (c.args.frame.base + c.args.at) c.args.count); actuals = cells_from c.args.machine.now.values (c.args.frame.base + c.args.at) c.args.count })) = search rules in
    let listed : c.as_slice.result.now ≡ c.args.of.now.formals = search rules in
    let hands : HandsOver g.K.Keeper.keeping (g.K.Keeper.Keeps c.remember.new.self) (g.K.Keeper.Keeps c.hand_actuals_over.new.keeper) (numbers c.args.of.now.formals) (all_seen c.args.heap.now (cells_from c.args.machine.now.values (c.args.frame.base + c.args.at) c.args.count)) =
    subst (λ fs. HandsOver g.K.Keeper.keeping (g.K.Keeper.Keeps c.remember.new.self) (g.K.Keeper.Keeps c.hand_actuals_over.new.keeper) (numbers fs) (all_seen c.args.heap.now (cells_from c.args.machine.now.values (c.args.frame.base + c.args.at) c.args.count))) listed
    (subst (λ xs. HandsOver g.K.Keeper.keeping (g.K.Keeper.Keeps c.remember.new.self) (g.K.Keeper.Keeps c.hand_actuals_over.new.keeper) (numbers c.as_slice.result.now) (all_seen c.args.heap.now xs)) copied c.in-Ok.ensures.keeps) in
    enters_export g.K.Keeper.keeping _ c.args.machine.now c.args.frame c.args.at c.args.function c.args.count c.args.of.now _
    (g.K.Keeper.Keeps c.args.keeper.now) (g.K.Keeper.Keeps c.hand_actuals_over.new.keeper) (all_seen c.args.heap.now (cells_from c.args.machine.now.values (c.args.frame.base + c.args.at) c.args.count))
    c.hand_actuals_over.new.machine.values (cells_from c.args.machine.now.values (c.args.frame.base + c.args.at) c.args.count) c.in-Ok.names (c.args.machine.now.names ++ names_of (cells_from c.args.machine.now.values (c.args.frame.base + c.args.at) c.args.count))
    c.requires.given c.requires.first c.requires.step c.requires.left c.requires.is c.requires.role refl
    (written_read c.args.heap.now (c.args.frame.base + c.args.at) c.args.of.now.formals (cells_from c.args.machine.now.values (c.args.frame.base + c.args.at) c.args.count) c.args.machine.now.values c.hand_actuals_over.new.machine.values writes)
    (names_read c.args.heap.now c.args.machine.now.names (cells_from c.args.machine.now.values (c.args.frame.base + c.args.at) c.args.count) c.in-Ok.names many)
    (others_read c.args.machine.now.names (cells_from c.args.machine.now.values (c.args.frame.base + c.args.at) c.args.count) c.in-Ok.names many)
    (λ k ls b. hands k (g.K.Keeper.keeping.behind k ∷ ls) (c.in_ok-remember.ensures.ok k ls b))
    after

pub returns-in-Ok-clause-sound : goal.returns-in-Ok-clause-sound
returns-in-Ok-clause-sound g c =
    let writes : WritesAll (c.args.frame.base + c.args.at) (under_formals c.args.of.now.formals (cells_from c.args.machine.now.values (c.args.frame.base + c.args.at) c.args.count)) c.args.machine.now.values c.hand_actuals_over.new.machine.values = search rules in
    let after : c.begin_guard.new.machine ≡ guarded c.args.function c.in-Ok.names c.args.of.now.guard_term (c.args.frame.base + c.args.at) (counted (record c.args.machine.now { values = c.hand_actuals_over.new.machine.values; names = c.args.machine.now.names ++ names_of (cells_from c.args.machine.now.values (c.args.frame.base + c.args.at) c.args.count); actuals = cells_from c.args.machine.now.values (c.args.frame.base + c.args.at) c.args.count })) = search rules in
    guarded_sound _ _ c.args.machine.now _ (cells_from c.args.machine.now.values (c.args.frame.base + c.args.at) c.args.count) c.args.function c.in-Ok.names c.args.of.now.guard_term (c.args.frame.base + c.args.at) c.args.of.now.formals c.hand_actuals_over.new.machine.values
    (c.args.machine.now.names ++ names_of (cells_from c.args.machine.now.values (c.args.frame.base + c.args.at) c.args.count)) c.requires.sound
    (copied_whole _ _ c.args.machine.now.values (c.args.frame.base + c.args.at) c.args.count c.requires.sound.values) writes after

pub returns-in-Err-clause-err : goal.returns-in-Err-clause-err
returns-in-Err-clause-err g c =
    forgets g.K.Keeper.keeping (g.K.Keeper.Keeps c.args.keeper.now) (g.K.Keeper.Keeps c.remember.new.self) (g.K.Keeper.Keeps c.hand_actuals_over.new.keeper) (g.K.Keeper.Keeps c.forget.new.self)
    c.in_ok-remember.ensures.ok c.in-Err.ensures.err c.forget.ensures.keeps
