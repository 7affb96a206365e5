use Rattle.std.specs.Prelude.{◌∷◌, ◌++◌, [], List}
use Rattle.std.proofs.Common.{ap, ◌∙◌}
use Rattle.acl_pool.specs.declared.unpacking.Task.{Task}
use Rattle.acl_pool.specs.declared.unpacking.Task.TheVariants.{Visit}
use Rattle.acl_pool.proofs.UnpackLemmas.{pair_parts, left_of, right_of, visits_pair, visits_leaf}
use Rattle.acl_pool.proofs.region.Region.visit.Goals as goal

pub returns-in_ok-push-3-clause-ok : goal.returns-in_ok-push-3-clause-ok
returns-in_ok-push-3-clause-ok c =
    let p = pair_parts c.args.self.now c.args.part c.requires.shows (c.is_pair.ensures.0 c.if-is_pair.true) in
    let all = c.in_ok-push-3.ensures.items ∙ ap (λ (ts : List Task). ts ++ Visit c.left.result ∷ []) (c.in_ok-push-2.ensures.items ∙ ap (λ (ts : List Task). ts ++ Visit c.right.result ∷ []) c.in_ok-push.ensures.items) in
    visits_pair c.args.self.now c.args.part c.left.result c.right.result c.args.heap.now c.args.tasks.now.items c.push-then-is_pair-2.new.self.items c.args.made.now.items p (c.left.ensures ∙ ap left_of c.read-cell.ensures) (c.right.ensures ∙ ap right_of c.read-cell.ensures) c.requires.lies all

pub returns-in_ok-push-4-clause-ok : goal.returns-in_ok-push-4-clause-ok
returns-in_ok-push-4-clause-ok c =
    visits_leaf c.args.self.now c.args.part c.args.heap.now c.leaf.new.heap c.args.tasks.now.items c.args.made.now.items c.push-else-is_pair.new.self.items c.in_ok-w.w c.in_ok-w.ensures.grows c.requires.lies c.in_ok-w.ensures.ok c.in_ok-push-4.ensures.items
