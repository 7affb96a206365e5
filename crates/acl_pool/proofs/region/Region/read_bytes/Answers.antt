use Rattle.std.specs.Prelude.{◌+◌, ◌/◌, ◌++◌, List, ℕ, take}
use Rattle.std.specs.Int.{w64, to_le_bytes}
use Rattle.std.proofs.Common.{sym, ap, subst, ◌∙◌, arith}
use Rattle.acl_pool.specs.declared.cell.Part.{Part}
use Rattle.acl_pool.specs.declared.cell.Cell.{Cell}
use Rattle.acl_pool.specs.Cells.{cell_at}
use Rattle.acl_pool.proofs.UnpackLemmas.{Reading, reading_first, reading_more, reading_end, right_of}
use Rattle.acl_pool.proofs.region.Region.read_bytes.Goals as goal

pub loop-done-init : goal.loop-done-init
loop-done-init c = subst (λ (bs : List ℕ). Reading c.args.self.now c.args.rest c.args.rest 0 ((c.args.len + 7) / 8) bs) (sym c.new-bytes.ensures.items) (reading_first c.args.self.now c.args.rest c.args.len c.requires)

pub read-cell-requires : goal.read-cell-requires
read-cell-requires c = (reading_more c.loop-done.invariant c.loop-done-test.true).0

pub loop-done-preserved : goal.loop-done-preserved
loop-done-preserved c =
    let e = ap right_of c.read-cell.ensures in
    let b = ap (λ (d : Cell). c.loop-done.bytes.items ++ to_le_bytes w64 d.left) c.read-cell.ensures in
    subst (λ (p : Part). Reading c.args.self.now c.args.rest p (c.loop-done._done + 1) ((c.args.len + 7) / 8) c.extend_from_slice.new.self.items) (sym (c.right-rest.ensures ∙ e))
    (subst (λ (bs : List ℕ). Reading c.args.self.now c.args.rest (right_of (cell_at c.args.self.now.cells c.loop-done.rest.bits)) (c.loop-done._done + 1) ((c.args.len + 7) / 8) bs) (sym (c.in_ok-extend_from_slice.ensures.items ∙ (ap (λ (xs : List ℕ). c.loop-done.bytes.items ++ xs) c.to_le_bytes.ensures ∙ b)))
    (reading_more c.loop-done.invariant c.loop-done-test.true).1)

pub returns : goal.returns
returns c = c.truncate.ensures.items ∙ ap (take c.args.len) (reading_end c.loop-done.invariant (omega (arith, c.loop-done-test.false, c.loop-done.auto._done-end)))
