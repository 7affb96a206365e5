use Rattle.std.specs.Prelude.{◌≡◌, ◌++◌, map, length}
use Rattle.model_stobjs.specs.Entries.{named_tasks}
use Rattle.acl_terms.specs.Definitions.{seen_generated}
use Rattle.acl_terms.specs.Forms.{numbers}
use Rattle.acl_generated.specs.Tasks.{seen_task}
use Rattle.acl_generated.proofs.fields.add_named.Given as goal

abbrev pub invariant-tasks : goal.invariant-tasks
invariant-tasks l =
    map seen_generated l.all.items ++ named_tasks l.stobj.0 l.field (numbers l.names_left) (map (seen_task l.stobj.0 l.held.0) l.tasks_left)
    ≡ map seen_generated l.fn.all.items ++ named_tasks l.stobj.0 l.field (numbers l.names) (map (seen_task l.stobj.0 l.held.0) l.tasks)

abbrev pub decreases-tasks : goal.decreases-tasks
decreases-tasks l = length l.tasks_left
