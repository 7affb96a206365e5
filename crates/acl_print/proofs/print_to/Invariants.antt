use Rattle.std.specs.Prelude.{◌≡◌, ◌≤◌, ◌++◌}
use Rattle.acl_print.specs.Views.{printed}
use Rattle.acl_print.specs.Tasks.{AreReady, tasks_text, tasks_work}
use Rattle.acl_print.specs.Writing.{Follows}
use Rattle.acl_print.proofs.print_to.Given as goal

abbrev pub invariant-loop-task : goal.invariant-loop-task
invariant-loop-task g l = record {
  ready : AreReady l.syms l.heap l.tasks.items;
  follows : Follows (g.K.Sink.written l.fn.sink) (g.K.Sink.written l.sink) (printed l.syms l.current.0 l.heap l.fn.w) (l.out.items ++ tasks_text l.syms l.current.0 l.heap l.tasks.items);
  counts : g.K.Sink.faults l.fn.sink ≤ g.K.Sink.faults l.sink;
  quiet : g.K.Sink.faults l.sink ≡ g.K.Sink.faults l.fn.sink;
}

abbrev pub decreases-loop-task : goal.decreases-loop-task
decreases-loop-task g l = tasks_work l.heap l.tasks.items
