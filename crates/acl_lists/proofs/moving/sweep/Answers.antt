use Rattle.std.proofs.Common.{◌≡◌, ◌+◌, ◌<◌, length, arith, ap, get_or, set}
use Rattle.std.proofs.lemmas.List.{get_or_read}
use Rattle.acl_lists.specs.Compacting.{IsMarked}
use Rattle.acl_lists.proofs.SweepLemmas.{sweep_move, sweep_skip, sweep_whole, parts_numbered}
use Rattle.acl_lists.proofs.moving.sweep.Goals as goal
use Rattle.acl_lists.proofs.moving.sweep.Goals.{then-index-gt0, else-index-gt0}

pub move_down-requires-clause-marked : goal.move_down-requires-clause-marked
move_down-requires-clause-marked c =
    λ d e.
    let l : c.loop-i.i < length c.loop-i.marks.items = omega (arith, c.loop-i-test.true, c.loop-i.invariant.numbers_long) in
    let is : c.index.result.now ≡ get_or c.loop-i.marks.items c.loop-i.i 0 = get_or_read c.loop-i.marks.items _ _ l c.index.ensures 0 in
    let marked : IsMarked c.loop-i.marks.items c.loop-i.i = omega (arith, is, c.if-index-gt0.true) in
    parts_numbered c.args.cells.now.items c.args.marks.now.items c.loop-i.cells.items c.loop-i.marks.items c.loop-i.kept c.loop-i.i d c.loop-i.invariant c.requires.table c.requires.closed marked e

pub loop-i-preserved : goal.loop-i-preserved
loop-i-preserved c =
    let l : c.loop-i.i < length c.loop-i.marks.items = omega (arith, c.loop-i-test.true, c.loop-i.invariant.numbers_long) in
    let is : c.index.result.now ≡ get_or c.loop-i.marks.items c.loop-i.i 0 = get_or_read c.loop-i.marks.items _ _ l c.index.ensures 0 in
    let fits : c.loop-i.i < length c.args.cells.now.items = omega (arith, l, c.loop-i.invariant.numbers_long) in
    elim c.if-index-gt0.branch [
      | then-index-gt0 w ↦
          let marked : IsMarked c.loop-i.marks.items c.loop-i.i = omega (arith, is, w.if-index-gt0.true) in
          let written : c.if-index-gt0.marks.items ≡ set c.loop-i.marks.items c.loop-i.i (c.loop-i.kept + 1) = ap (λ v. v.items) w.marks-is in
          rw (w.cells-is, w.kept-is) (sweep_move c.args.cells.now.items c.args.marks.now.items c.loop-i.cells.items w.move_down.new.cells.items c.loop-i.marks.items c.if-index-gt0.marks.items c.loop-i.kept c.loop-i.i
          c.loop-i.invariant c.requires.table c.requires.closed fits marked w.move_down.ensures.long w.move_down.ensures.moved w.move_down.ensures.left written)
      | else-index-gt0 w ↦
          rw (w.cells-is, w.marks-is, w.kept-is) (sweep_skip c.args.cells.now.items c.args.marks.now.items c.loop-i.cells.items c.loop-i.marks.items c.loop-i.kept c.loop-i.i c.loop-i.invariant
          (λ m. absurd (omega (arith, m, is, w.if-index-gt0.false))))
    ]

pub returns-clause-swept : goal.returns-clause-swept
returns-clause-swept c =
    let end : c.loop-i.i ≡ length c.args.cells.now.items = omega (arith, c.loop-i-test.false, c.loop-i.auto.i-end, c.len-i-end.ensures, c.args.cells.now.ok.0) in
    sweep_whole c.args.cells.now.items c.args.marks.now.items c.loop-i.cells.items c.loop-i.marks.items c.loop-i.kept c.loop-i.i c.loop-i.invariant end
