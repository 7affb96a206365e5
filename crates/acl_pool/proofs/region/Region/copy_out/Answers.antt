use Rattle.std.specs.Prelude.{◌∷◌, ◌++◌, []}
use Rattle.std.proofs.Common.{ap, ◌∙◌, rules}
use Rattle.acl_pool.specs.declared.unpacking.Task.{Task}
use Rattle.acl_pool.specs.Unpacking.{part_object}
use Rattle.acl_pool.proofs.UnpackLemmas.{visit_shown, visit_less, unpacks_visit, join_two, join_less, unpacks_join, end_denotes}
use Rattle.acl_pool.proofs.region.Region.copy_out.Goals as goal

pub visit-requires-clause-shows : goal.visit-requires-clause-shows
visit-requires-clause-shows c =
    let e = c.in-Some.ensures.items ∙ ap (λ (t : Task). c.pop.new.self.items ++ t ∷ []) c.in-Visit.is in
    visit_shown c.args.self.now c.args.heap.now c.loop-task.heap c.loop-task.tasks.items c.pop.new.self.items c.loop-task.made.items (part_object c.args.self.now c.args.part) c.in-Visit.part c.loop-task.invariant e

pub loop-task-smaller-in-Continue-branch-2 : goal.loop-task-smaller-in-Continue-branch-2
loop-task-smaller-in-Continue-branch-2 c =
    let e = c.in-Some.ensures.items ∙ ap (λ (t : Task). c.pop.new.self.items ++ t ∷ []) c.in-Visit.is in
    visit_less c.args.self.now c.in-Visit.part c.loop-task.heap c.visit.new.heap c.loop-task.tasks.items c.pop.new.self.items c.visit.new.tasks.items c.loop-task.made.items c.visit.new.made.items e c.in_ok-visit-in-Visit.ensures.ok

pub loop-task-preserved-in-Continue-branch-2 : goal.loop-task-preserved-in-Continue-branch-2
loop-task-preserved-in-Continue-branch-2 c =
    let e = c.in-Some.ensures.items ∙ ap (λ (t : Task). c.pop.new.self.items ++ t ∷ []) c.in-Visit.is in
    unpacks_visit c.args.self.now c.args.heap.now c.loop-task.heap c.visit.new.heap c.loop-task.tasks.items c.pop.new.self.items c.visit.new.tasks.items c.loop-task.made.items c.visit.new.made.items (part_object c.args.self.now c.args.part) c.in-Visit.part c.loop-task.invariant e c.in_ok-visit-in-Visit.ensures.grows c.in_ok-visit-in-Visit.ensures.ok

pub join-requires-clause-two : goal.join-requires-clause-two
join-requires-clause-two c =
    let e = c.in-Some.ensures.items ∙ ap (λ (t : Task). c.pop.new.self.items ++ t ∷ []) c.in-Join.is in
    join_two c.args.self.now c.args.heap.now c.loop-task.heap c.loop-task.tasks.items c.pop.new.self.items c.loop-task.made.items (part_object c.args.self.now c.args.part) c.loop-task.invariant e

pub loop-task-smaller : goal.loop-task-smaller
loop-task-smaller c =
    let e = c.in-Some.ensures.items ∙ ap (λ (t : Task). c.pop.new.self.items ++ t ∷ []) c.in-Join.is in
    join_less c.args.self.now c.loop-task.tasks.items c.pop.new.self.items e

pub loop-task-preserved : goal.loop-task-preserved
loop-task-preserved c =
    let e = c.in-Some.ensures.items ∙ ap (λ (t : Task). c.pop.new.self.items ++ t ∷ []) c.in-Join.is in
    unpacks_join c.args.self.now c.args.heap.now c.loop-task.heap c.join.new.heap c.loop-task.tasks.items c.pop.new.self.items c.loop-task.made.items c.join.new.made.items (part_object c.args.self.now c.args.part) c.loop-task.invariant e c.in_ok-join-in-Join.ensures.grows c.in_ok-join-in-Join.ensures.ok

pub returns-clause-ok : goal.returns-clause-ok
returns-clause-ok c =
    end_denotes c.args.self.now c.args.heap.now c.loop-task.heap c.loop-task.tasks.items c.loop-task.made.items c.top.new.made.items c.top.result (part_object c.args.self.now c.args.part) c.loop-task.invariant (search rules) c.top.ensures
