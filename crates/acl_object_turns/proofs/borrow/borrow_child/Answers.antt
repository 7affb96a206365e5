use Rattle.std.proofs.Common.{rules, None, ◌∙◌, sym}
use Rattle.acl_machine.specs.declared.frame.Halt.TheVariants as halt
use Rattle.acl_machine.specs.declared.frame.Step.TheVariants as step
use Rattle.acl_object_turns.proofs.BorrowLemmas.{stops_at_parent}
use Rattle.acl_object_turns.proofs.ChildWholeLemmas.{sound_stopped_borrowing}
use Rattle.acl_object_turns.proofs.borrow.borrow_child.Goals as goal

pub returns-in_ok-stop_borrowing-in-Value-clause-turns : goal.returns-in_ok-stop_borrowing-in-Value-clause-turns
returns-in_ok-stop_borrowing-in-Value-clause-turns g c = stops_at_parent g.K.Keeper.keeping _ _ _ _ _ _ _ _ c.args.child c.in-Value.field-0 c.requires.given c.requires.first c.requires.step c.requires.next (sym c.value_of.ensures ∙ c.in-Value.is) (search rules)

pub returns-in_ok-stop_borrowing-in-Value-clause-sound : goal.returns-in_ok-stop_borrowing-in-Value-clause-sound
returns-in_ok-stop_borrowing-in-Value-clause-sound g c = sound_stopped_borrowing _ _ c.args.machine.now _ halt.Depth (step.Last None) c.args.bound c.requires.sound (search rules)
