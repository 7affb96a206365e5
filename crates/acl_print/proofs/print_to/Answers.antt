use Rattle.std.specs.Prelude.{refl, ◌++◌}
use Rattle.std.proofs.Common.{arith, rules, ◌∙◌}
use Rattle.acl_print.specs.Views.{printed}
use Rattle.acl_print.specs.Tasks.{tasks_text}
use Rattle.acl_print.proofs.TaskLemmas.{popped, stepped_text, stepped_work}
use Rattle.acl_print.proofs.WriteLemmas.{Follows-then, Follows-part}
use Rattle.acl_print.proofs.print_to.Goals as goal

pub step-requires-clause-whole : goal.step-requires-clause-whole
step-requires-clause-whole g c = (popped c.args.syms.now c.args.current.0 c.args.heap.now c.loop-task.tasks.items c.pop.new.self.items c.in-Some.task c.in-Some.ensures.items c.loop-task.invariant.ready).1

pub step-requires-clause-ready : goal.step-requires-clause-ready
step-requires-clause-ready g c = (popped c.args.syms.now c.args.current.0 c.args.heap.now c.loop-task.tasks.items c.pop.new.self.items c.in-Some.task c.in-Some.ensures.items c.loop-task.invariant.ready).0

pub loop-task-smaller : goal.loop-task-smaller
loop-task-smaller g c =
    stepped_work c.args.syms.now c.args.current.0 c.args.heap.now c.loop-task.out.items c.step.new.out.items c.loop-task.tasks.items c.pop.new.self.items c.step.new.tasks.items c.in-Some.task c.in-Some.ensures.items
    c.in_ok-step.ensures

pub loop-task-preserved : goal.loop-task-preserved
loop-task-preserved g c =
    let s = c.args.syms.now in
    let p = c.args.current.0 in
    let h = c.args.heap.now in
    let left = c.loop-task.out.items ++ tasks_text s p h c.loop-task.tasks.items in
    let same = stepped_text s p h c.loop-task.out.items c.step.new.out.items c.loop-task.tasks.items c.pop.new.self.items c.step.new.tasks.items c.in-Some.task c.in-Some.ensures.items c.in_ok-step.ensures in
    record {
      ready = c.in_ok-step.ensures.ready;
      follows = Follows-then (g.K.Sink.written c.args.sink.now) (g.K.Sink.written c.loop-task.sink) (g.K.Sink.written c.flush_full.new.sink) (printed s p h c.args.w) c.step.new.out.items c.flush_full.new.out.items left
          (tasks_text s p h c.step.new.tasks.items) c.loop-task.invariant.follows same c.in_ok-flush_full.ensures.ok;
      counts = omega (arith, c.loop-task.invariant.counts, c.flush_full.ensures.counts);
      quiet = c.in_ok-flush_full.ensures.quiet ∙ c.loop-task.invariant.quiet;
    }

pub returns-in_err-flush_full-clause-part : goal.returns-in_err-flush_full-clause-part
returns-in_err-flush_full-clause-part g c =
    let s = c.args.syms.now in
    let p = c.args.current.0 in
    let h = c.args.heap.now in
    let left = c.loop-task.out.items ++ tasks_text s p h c.loop-task.tasks.items in
    let same = stepped_text s p h c.loop-task.out.items c.step.new.out.items c.loop-task.tasks.items c.pop.new.self.items c.step.new.tasks.items c.in-Some.task c.in-Some.ensures.items c.in_ok-step.ensures in
    let part =
    Follows-part (g.K.Sink.written c.args.sink.now) (g.K.Sink.written c.loop-task.sink) (g.K.Sink.written c.flush_full.new.sink) (printed s p h c.args.w) c.step.new.out.items left (tasks_text s p h c.step.new.tasks.items)
    c.loop-task.invariant.follows same c.in_err-flush_full.ensures.part in
    search rules

pub returns-in_err-flush-clause-part : goal.returns-in_err-flush-clause-part
returns-in_err-flush-clause-part g c =
    let s = c.args.syms.now in
    let p = c.args.current.0 in
    let h = c.args.heap.now in
    let left = c.loop-task.out.items ++ tasks_text s p h c.loop-task.tasks.items in
    let part =
    Follows-part (g.K.Sink.written c.args.sink.now) (g.K.Sink.written c.loop-task.sink) (g.K.Sink.written c.flush.new.sink) (printed s p h c.args.w) c.loop-task.out.items left (tasks_text s p h c.loop-task.tasks.items)
    c.loop-task.invariant.follows refl c.in_err-flush.ensures.part in
    search rules
