use Rattle.std.specs.Prelude.{◌≡◌}
use Rattle.std.proofs.Common.{sym, ap, subst, ◌∙◌, arith, get_or}
use Rattle.acl_heap.specs.Objects.{nothing, IsPair, object_of}
use Rattle.acl_pool.specs.declared.cell.Part.{Part}
use Rattle.acl_pool.specs.declared.cell.Cell.{Cell}
use Rattle.acl_pool.specs.Cells.{cell_at}
use Rattle.acl_pool.proofs.CopyLemmas.{heads, head_below, head_waits, left_roomy}
use Rattle.acl_pool.proofs.PairLemmas.{right_count, right_roomy, write_below, goes_less, goes}
use Rattle.acl_pool.proofs.region.Region.copy_pair.Goals as goal

pub read-cell-requires : goal.read-cell-requires
read-cell-requires c = head_below (heads c.requires.copying c.requires.some)

pub look-requires : goal.look-requires
look-requires c =
    let e : c.left.result.bits ≡ (cell_at c.args.self.now.cells c.args.waiting.now.first).left = ap (λ (p : Part). p.bits) c.left.ensures ∙ ap (λ (d : Cell). d.left) c.read-cell.ensures in
    let l = (head_waits (heads c.requires.copying c.requires.some)).0 in
    omega (arith, e, l)

pub begin-left-requires-clause-room : goal.begin-left-requires-clause-room
begin-left-requires-clause-room c =
    let e : c.left.result.bits ≡ (cell_at c.args.self.now.cells c.args.waiting.now.first).left = ap (λ (p : Part). p.bits) c.left.ensures ∙ ap (λ (d : Cell). d.left) c.read-cell.ensures in
    left_roomy (heads c.requires.copying c.requires.some) (ap (λ k. get_or c.args.heap.now k nothing) (sym e) ∙ c.in-Pair.ensures.sees.0)

pub begin-right-requires-clause-count : goal.begin-right-requires-clause-count
begin-right-requires-clause-count c =
    let h = c.args.heap.now in
    let e : c.left.result.bits ≡ (cell_at c.args.self.now.cells c.args.waiting.now.first).left = ap (λ (p : Part). p.bits) c.left.ensures ∙ ap (λ (d : Cell). d.left) c.read-cell.ensures in
    right_count h c.args.self.now c.begin-left.new.self c.args.waiting.now c.begin-left.new.waiting c.begin-left.result (object_of h c.in-Pair.a) (object_of h c.in-Pair.d) c.read-cell.result.link (heads c.requires.copying c.requires.some)
    (ap (λ k. get_or h k nothing) (sym e) ∙ c.in-Pair.ensures.sees.0) c.begin-left.ensures

pub begin-right-requires-clause-room : goal.begin-right-requires-clause-room
begin-right-requires-clause-room c =
    let h = c.args.heap.now in
    let e : c.left.result.bits ≡ (cell_at c.args.self.now.cells c.args.waiting.now.first).left = ap (λ (p : Part). p.bits) c.left.ensures ∙ ap (λ (d : Cell). d.left) c.read-cell.ensures in
    right_roomy h c.args.self.now c.begin-left.new.self c.args.waiting.now c.begin-left.new.waiting c.begin-left.result (object_of h c.in-Pair.a) (object_of h c.in-Pair.d) c.read-cell.result.link (heads c.requires.copying c.requires.some)
    (ap (λ k. get_or h k nothing) (sym e) ∙ c.in-Pair.ensures.sees.0) c.begin-left.ensures

pub write-requires : goal.write-requires
write-requires c =
    let h = c.args.heap.now in
    let e : c.left.result.bits ≡ (cell_at c.args.self.now.cells c.args.waiting.now.first).left = ap (λ (p : Part). p.bits) c.left.ensures ∙ ap (λ (d : Cell). d.left) c.read-cell.ensures in
    write_below h c.args.self.now c.begin-left.new.self c.args.waiting.now c.begin-left.new.waiting c.begin-left.result (object_of h c.in-Pair.a) (object_of h c.in-Pair.d) c.read-cell.result.link (heads c.requires.copying c.requires.some)
    (ap (λ k. get_or h k nothing) (sym e) ∙ c.in-Pair.ensures.sees.0) c.begin-left.ensures c.begin-right.new.self c.begin-right.new.waiting c.begin-right.result c.begin-right.ensures

pub unreachable-requires : goal.unreachable-requires
unreachable-requires c =
    let e : c.left.result.bits ≡ (cell_at c.args.self.now.cells c.args.waiting.now.first).left = ap (λ (p : Part). p.bits) c.left.ensures ∙ ap (λ (d : Cell). d.left) c.read-cell.ensures in
    subst IsPair (ap (λ k. get_or c.args.heap.now k nothing) (sym e) ∙ c.in-Integer.ensures.sees) (head_waits (heads c.requires.copying c.requires.some)).1

pub unreachable-requires-in-Symbol : goal.unreachable-requires-in-Symbol
unreachable-requires-in-Symbol c =
    let e : c.left.result.bits ≡ (cell_at c.args.self.now.cells c.args.waiting.now.first).left = ap (λ (p : Part). p.bits) c.left.ensures ∙ ap (λ (d : Cell). d.left) c.read-cell.ensures in
    subst IsPair (ap (λ k. get_or c.args.heap.now k nothing) (sym e) ∙ c.in-Symbol.ensures.sees) (head_waits (heads c.requires.copying c.requires.some)).1

pub unreachable-requires-in-Text : goal.unreachable-requires-in-Text
unreachable-requires-in-Text c =
    let e : c.left.result.bits ≡ (cell_at c.args.self.now.cells c.args.waiting.now.first).left = ap (λ (p : Part). p.bits) c.left.ensures ∙ ap (λ (d : Cell). d.left) c.read-cell.ensures in
    subst IsPair (ap (λ k. get_or c.args.heap.now k nothing) (sym e) ∙ c.in-Text.ensures.sees) (head_waits (heads c.requires.copying c.requires.some)).1

pub returns-clause-goes : goal.returns-clause-goes
returns-clause-goes c =
    let h = c.args.heap.now in
    let e : c.left.result.bits ≡ (cell_at c.args.self.now.cells c.args.waiting.now.first).left = ap (λ (p : Part). p.bits) c.left.ensures ∙ ap (λ (d : Cell). d.left) c.read-cell.ensures in
    goes h c.args.self.now c.begin-left.new.self c.begin-right.new.self c.write.new.self c.args.waiting.now c.begin-left.new.waiting c.begin-right.new.waiting c.begin-left.result c.begin-right.result (object_of h c.in-Pair.a) (object_of h c.in-Pair.d) c.read-cell.result.link c.of.result
    (ap (λ k. get_or h k nothing) (sym e) ∙ c.in-Pair.ensures.sees.0) (ap (λ (d : Cell). d.link) c.read-cell.ensures) c.requires.some c.begin-left.ensures c.begin-right.ensures c.of.ensures c.write.ensures

pub returns-clause-less : goal.returns-clause-less
returns-clause-less c =
    let h = c.args.heap.now in
    let e : c.left.result.bits ≡ (cell_at c.args.self.now.cells c.args.waiting.now.first).left = ap (λ (p : Part). p.bits) c.left.ensures ∙ ap (λ (d : Cell). d.left) c.read-cell.ensures in
    goes_less h c.args.self.now c.begin-left.new.self c.args.waiting.now c.begin-left.new.waiting c.begin-left.result (object_of h c.in-Pair.a) (object_of h c.in-Pair.d) c.read-cell.result.link (heads c.requires.copying c.requires.some)
    (ap (λ k. get_or h k nothing) (sym e) ∙ c.in-Pair.ensures.sees.0) c.begin-left.ensures c.begin-right.new.self c.begin-right.new.waiting c.begin-right.result c.begin-right.ensures c.args.waiting.now.first c.of.result c.write.new.self c.requires.some c.write.ensures
