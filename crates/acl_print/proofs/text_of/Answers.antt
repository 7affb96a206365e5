use Rattle.std.proofs.Common.{◌∙◌}
use Rattle.acl_print.proofs.TaskLemmas.{popped, stepped_text, stepped_work}
use Rattle.acl_print.proofs.text_of.Goals as goal

pub step-requires-clause-whole : goal.step-requires-clause-whole
step-requires-clause-whole c = (popped c.args.syms.now c.args.current.0 c.args.heap.now c.loop-task.tasks.items c.pop.new.self.items c.in-Some.task c.in-Some.ensures.items c.loop-task.invariant.ready).1

pub step-requires-clause-ready : goal.step-requires-clause-ready
step-requires-clause-ready c = (popped c.args.syms.now c.args.current.0 c.args.heap.now c.loop-task.tasks.items c.pop.new.self.items c.in-Some.task c.in-Some.ensures.items c.loop-task.invariant.ready).0

pub loop-task-smaller : goal.loop-task-smaller
loop-task-smaller c =
    stepped_work c.args.syms.now c.args.current.0 c.args.heap.now c.loop-task.out.items c.step.new.out.items c.loop-task.tasks.items c.pop.new.self.items c.step.new.tasks.items c.in-Some.task c.in-Some.ensures.items
    c.in_ok-step.ensures

pub loop-task-preserved : goal.loop-task-preserved
loop-task-preserved c =
    let s = c.args.syms.now in
    let p = c.args.current.0 in
    let h = c.args.heap.now in
    let same = stepped_text s p h c.loop-task.out.items c.step.new.out.items c.loop-task.tasks.items c.pop.new.self.items c.step.new.tasks.items c.in-Some.task c.in-Some.ensures.items c.in_ok-step.ensures in
    record { ready = c.in_ok-step.ensures.ready; same = same ∙ c.loop-task.invariant.same }
