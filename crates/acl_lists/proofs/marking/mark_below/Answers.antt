use Rattle.std.proofs.Common.{◌≡◌, ◌+◌, ◌-◌, ◌≤◌, length, Some, get_or, rules, arith}
use Rattle.std.proofs.lemmas.List.{get_or_read}
use Rattle.acl_lists.specs.Compacting.{IsMarked}
use Rattle.std.specs.Prelude.{slice_get, slice_index}
use Rattle.acl_lists.proofs.MarkLemmas.{over_more, closed_marked, closed_unmarked, cell_got}
use Rattle.acl_lists.proofs.marking.mark_below.Goals as goal
use Rattle.acl_lists.proofs.marking.mark_below.Goals.{then-index-gt0, else-index-gt0}

pub mark_parts-requires : goal.mark_parts-requires
mark_parts-requires c =
    let at : slice_get c.args.cells.now (length c.args.cells.now - 1 - c.loop-done.done) ≡ Some c.index-cells-at.result =
    cell_got c.args.cells.now _ c.index-cells-at.result c.index-cells-at.result (omega (arith, c.loop-done-test.true)) c.index-cells-at.is in
    let low : length c.args.cells.now - 1 - c.loop-done.done ≤ length c.loop-done.marks.items = omega (arith, c.loop-done.invariant.more.long, c.requires.long) in
    over_more (length c.args.cells.now - 1 - c.loop-done.done) (length c.loop-done.marks.items) c.index-cells-at.result low (c.requires.table.over _ c.index-cells-at.result at)

pub loop-done-preserved : goal.loop-done-preserved
loop-done-preserved c =
    let from : length c.args.cells.now - c.loop-done.done ≡ (length c.args.cells.now - 1 - c.loop-done.done) + 1 = omega (arith, c.loop-done-test.true) in
    let next : length c.args.cells.now - (c.loop-done.done + 1) ≡ length c.args.cells.now - 1 - c.loop-done.done = omega arith in
    elim c.if-index-gt0.branch [
      | then-index-gt0 w ↦
          let at : slice_get c.args.cells.now (length c.args.cells.now - 1 - c.loop-done.done) ≡ Some w.index-cells-at.result =
          cell_got c.args.cells.now _ w.index-cells-at.result w.index-cells-at.result (omega (arith, c.loop-done-test.true)) w.index-cells-at.is in
          let is : c.index.result.now ≡ get_or c.loop-done.marks.items (length c.args.cells.now - 1 - c.loop-done.done) 0 =
          get_or_read c.loop-done.marks.items _ _ (omega (arith, c.loop-done-test.true, c.loop-done.invariant.more.long, c.requires.long)) c.index.ensures 0 in
          let marked : IsMarked c.loop-done.marks.items (length c.args.cells.now - 1 - c.loop-done.done) = omega (arith, is, w.if-index-gt0.true) in
          rw w.marks-is (closed_marked c.args.cells.now c.args.marks.now.items c.loop-done.marks.items w.mark_parts.new.marks.items _ _ _ w.index-cells-at.result c.loop-done.invariant from next c.requires.table at marked
          w.mark_parts.ensures.more w.mark_parts.ensures.marked w.mark_parts.ensures.only)
      | else-index-gt0 w ↦
          let is : slice_index c.loop-done.marks.items (length c.args.cells.now - 1 - c.loop-done.done) ≡ c.index.result.now = search rules in
          rw w.marks-is (closed_unmarked c.args.cells.now c.args.marks.now.items c.loop-done.marks.items _ _ _ c.loop-done.invariant from next (λ m. absurd (omega (arith, m, is, w.if-index-gt0.false))))
    ]
