use Rattle.std.specs.Prelude.{◌≡◌, ◌++◌}
use Rattle.acl_print.specs.Views.{printed}
use Rattle.acl_print.specs.Tasks.{AreReady, tasks_text, tasks_work}
use Rattle.acl_print.proofs.text_of.Given as goal

abbrev pub invariant-loop-task : goal.invariant-loop-task
invariant-loop-task l = record {
  ready : AreReady l.syms l.heap l.tasks.items;
  same : l.out.items ++ tasks_text l.syms l.current.0 l.heap l.tasks.items ≡ printed l.syms l.current.0 l.heap l.fn.w;
}

abbrev pub decreases-loop-task : goal.decreases-loop-task
decreases-loop-task l = tasks_work l.heap l.tasks.items
