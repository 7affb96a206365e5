use Rattle.std.proofs.Common.{rules, ◌≡◌, None, refl}
use Rattle.model_eval.specs.Evaluated.{stobj_let_word}
use Rattle.acl_machine.specs.Cells.{top}
use Rattle.acl_machine.specs.declared.frame.Halt.TheVariants as halt
use Rattle.acl_machine.specs.declared.frame.Step.TheVariants as step
use Rattle.acl_object_turns.specs.Children.{loans_in}
use Rattle.acl_object_turns.proofs.LendLemmas.{stops_twins, lends_children}
use Rattle.acl_object_turns.proofs.ChildWholeLemmas.{sound_twins, sound_lent}
use Rattle.acl_object_turns.proofs.lend.lend_children.Goals as goal

pub returns-then-twins-clause-turns : goal.returns-then-twins-clause-turns
returns-then-twins-clause-turns g c =
    stops_twins g.K.Keeper.keeping _ _ _ _ _ _ _ _ (loans_in (top c.args.bound c.args.machine.now.loans)) c.in_ok-twins.twins c.requires.given c.requires.first c.requires.step c.requires.next refl (search rules) c.if-twins.true (search rules)

pub returns-then-twins-clause-sound : goal.returns-then-twins-clause-sound
returns-then-twins-clause-sound g c = sound_twins _ _ c.args.machine.now _ (halt.Guard (record { 0 = stobj_let_word })) (step.Last None) c.args.bound (loans_in (top c.args.bound c.args.machine.now.loans)) c.requires.sound refl (search rules)

pub returns-clause-turns : goal.returns-clause-turns
returns-clause-turns g c =
    lends_children g.K.Keeper.keeping _ _ _ _ _ _ _ _ _ (loans_in (top c.args.bound c.args.machine.now.loans)) c.in_ok-twins.twins c.read_ends-ends.result.producer c.read_ends-ends.result.consumer c.requires.given c.requires.first c.requires.step c.requires.next refl (search rules) c.if-twins.false
    c.read_ends-ends.ensures.producer c.read_ends-ends.ensures.consumer (search rules) (search rules)

pub returns-clause-sound : goal.returns-clause-sound
returns-clause-sound g c = sound_lent _ _ c.args.machine.now _ c.args.frame.base c.args.at c.args.bound (loans_in (top c.args.bound c.args.machine.now.loans)) c.read_ends-ends.result.producer c.read_ends-ends.result.consumer c.requires.sound (search rules)
