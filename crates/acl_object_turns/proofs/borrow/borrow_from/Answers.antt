use Rattle.std.proofs.Common.{rules, ◌+◌, None}
use Rattle.acl_machine.specs.declared.frame.Halt.TheVariants as halt
use Rattle.acl_machine.specs.declared.frame.Step.TheVariants as step
use Rattle.acl_object_turns.proofs.BorrowLemmas.{stops_at_limit, binds_child, refuses_child}
use Rattle.acl_object_turns.proofs.ChildWholeLemmas.{child_index_whole, sound_stopped_borrowing, sound_bound, sound_refused}
use Rattle.acl_object_turns.proofs.borrow.borrow_from.Goals as goal

pub returns-then-machine-limit-clause-turns : goal.returns-then-machine-limit-clause-turns
returns-then-machine-limit-clause-turns g c = stops_at_limit g.K.Keeper.keeping _ _ _ _ _ _ _ _ c.args.child c.args.parent c.requires.given c.requires.first c.requires.step c.requires.next c.requires.parent (search rules) (search rules)

pub returns-then-machine-limit-clause-sound : goal.returns-then-machine-limit-clause-sound
returns-then-machine-limit-clause-sound g c = sound_stopped_borrowing _ _ c.args.machine.now _ halt.Steps (step.Last None) c.args.bound c.requires.sound (search rules)

pub returns-in_ok-bind_child-clause-turns : goal.returns-in_ok-bind_child-clause-turns
returns-in_ok-bind_child-clause-turns g c =
    binds_child g.K.Keeper.keeping _ _ _ _ _ _ _ _ c.args.child c.args.parent c.loan_of-loan.result c.is_reached-reached.result c.requires.given c.requires.first c.requires.step c.requires.next c.requires.parent c.loan_of-loan.ensures (search rules)
    c.is_reached-reached.ensures c.if-reached.true (search rules)

pub returns-in_ok-bind_child-clause-sound : goal.returns-in_ok-bind_child-clause-sound
returns-in_ok-bind_child-clause-sound g c =
    sound_bound _ _ c.args.machine.now _ (step.Borrowing c.args.at c.args.term (c.args.bound + 1)) _ c.args.frame.base c.args.parent c.args.child c.loan_of-loan.result (record { loan = c.loan_of-loan.result; returns = c.args.child.returns }) c.requires.sound c.requires.whole c.loan_of-loan.ensures (search rules) (search rules)

pub returns-in_ok-refuse_child-clause-turns : goal.returns-in_ok-refuse_child-clause-turns
returns-in_ok-refuse_child-clause-turns g c =
    refuses_child g.K.Keeper.keeping _ _ _ _ _ _ _ _ c.args.child c.args.parent c.loan_of-loan.result c.name_of-accessor.result c.is_reached-reached.result c.requires.given c.requires.first c.requires.step c.requires.next c.requires.parent c.loan_of-loan.ensures c.name_of-accessor.ensures (search rules)
    c.is_reached-reached.ensures c.if-reached.false (search rules)

pub returns-in_ok-refuse_child-clause-sound : goal.returns-in_ok-refuse_child-clause-sound
returns-in_ok-refuse_child-clause-sound g c =
    sound_refused _ _ c.args.machine.now _ (halt.Guard c.name_of-accessor.result) (step.Last None) c.args.bound _ c.args.frame.base c.args.parent c.args.child c.loan_of-loan.result c.requires.sound c.requires.whole c.loan_of-loan.ensures (search rules)

pub is_reached-reached-requires-clause-whole : goal.is_reached-reached-requires-clause-whole
is_reached-reached-requires-clause-whole g c = child_index_whole _ _ _ c.args.machine.now.values c.args.frame.base c.args.parent c.args.child c.loan_of-loan.result c.requires.sound.values c.requires.whole c.loan_of-loan.ensures
