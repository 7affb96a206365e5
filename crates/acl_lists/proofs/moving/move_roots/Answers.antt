use Rattle.std.proofs.Common.{◌∙◌, ap, set, get_or}
use Rattle.acl_lists.specs.declared.cell.ListId.{ListId}
use Rattle.acl_lists.specs.Compacting.{new_number}
use Rattle.acl_lists.proofs.MoveLemmas.{placed, unplaced}
use Rattle.acl_lists.proofs.moving.move_roots.Goals as goal

pub loop-i-preserved : goal.loop-i-preserved
loop-i-preserved c =
    let none : ListId = record { 0 = 0 } in
    ap (λ rs. set rs c.loop-i.i c.moved.result) c.loop-i.invariant
    ∙ placed (new_number c.args.marks.now.items) c.args.roots.now c.loop-i.i none c.moved.result c.loop-i-test.true
    (c.moved.ensures ∙ ap (new_number c.args.marks.now.items) (ap (λ rs. get_or rs c.loop-i.i none) c.loop-i.invariant ∙ unplaced (new_number c.args.marks.now.items) c.args.roots.now c.loop-i.i none c.loop-i-test.true))
