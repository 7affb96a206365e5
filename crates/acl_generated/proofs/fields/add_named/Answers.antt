use Rattle.std.specs.Prelude.{◌≡◌, ◌++◌, length, map}
use Rattle.std.proofs.Common.{rules}
use Rattle.model_stobjs.specs.Entries.{named_tasks}
use Rattle.acl_terms.specs.Definitions.{seen_generated}
use Rattle.acl_terms.specs.Forms.{numbers}
use Rattle.acl_generated.specs.Tasks.{seen_task}
use Rattle.acl_generated.proofs.FunctionLemmas.{named_no_task}
use Rattle.acl_generated.proofs.fields.add_named.Goals as goal

pub returns : goal.returns
returns c =
    let none : length c.tasks.tasks_left.now ≡ 0 = search rules in
    named_no_task c.args.stobj.0 c.args.held.0 c.args.field c.tasks.all.items
    (map seen_generated c.args.all.now.items ++ named_tasks c.args.stobj.0 c.args.field (numbers c.args.names.now) (map (seen_task c.args.stobj.0 c.args.held.0) c.args.tasks.now))
    c.tasks.names_left.now c.tasks.tasks_left.now c.tasks.invariant none
