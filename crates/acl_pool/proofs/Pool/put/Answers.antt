use Rattle.std.specs.Prelude.{◌≡◌, ◌+◌, ◌≤◌, length, ℕ}
use Rattle.std.proofs.Common.{sym, ap₂, subst}
use Rattle.acl_heap.specs.Objects.{object_of}
use Rattle.model_objects.specs.Object.{cells}
use Rattle.acl_base.specs.declared.Word.{Word}
use Rattle.acl_pool.specs.declared.Root.{Root}
use Rattle.acl_pool.specs.Roots.{Held, PutsIn}
use Rattle.acl_pool.specs.Cells.{held_of, Sound}
use Rattle.acl_pool.specs.Trees.{word_of}
use Rattle.acl_pool.proofs.BackLemmas.{is_within}
use Rattle.acl_pool.proofs.PutLemmas.{IsLonger, has_room}
use Rattle.acl_pool.proofs.PutsLemmas.{put_all, part_below}
use Rattle.acl_pool.proofs.Pool.put.Goals as goal

pub copy-part-requires-clause-room : goal.copy-part-requires-clause-room
copy-part-requires-clause-room c =
    let e = c.in_ok-reserve.ensures in
    let longer : IsLonger c.self.inside.region c.reserve.new.self = record { top = e.same.0; given = e.same.1; spare = e.same.2; more = _; cells = e.longer; most = e.most } in
    has_room longer c.self.invariant.1 (cells (object_of c.args.heap.now c.args.w)) (subst (λ k. c.self.inside.region.top + k ≤ length c.reserve.new.self.cells + c.self.inside.region.spare) c.cells-count.ensures.is e.room)

pub name-requires : goal.name-requires
name-requires c =
    let e = c.in_ok-reserve.ensures in
    let longer : IsLonger c.self.inside.region c.reserve.new.self = record { top = e.same.0; given = e.same.1; spare = e.same.2; more = _; cells = e.longer; most = e.most } in
    is_within c.copy-part.new.self c.copy-part.result.kind c.copy-part.result.bits (part_below c.args.heap.now c.self.inside.region c.reserve.new.self c.copy-part.new.self c.self.inside.used c.copy-part.result (object_of c.args.heap.now c.args.w) longer c.self.invariant c.copy-part.ensures)

pub invariant_of-self-2 : goal.invariant_of-self-2
invariant_of-self-2 c =
    let e = c.in_ok-reserve.ensures in
    let longer : IsLonger c.self.inside.region c.reserve.new.self = record { top = e.same.0; given = e.same.1; spare = e.same.2; more = _; cells = e.longer; most = e.most } in
    let p = put_all c.args.heap.now c.self.inside.region c.reserve.new.self c.copy-part.new.self c.name.new.self c.self.inside.used c.copy-part.result c.args.w c.cells-count.result longer c.self.invariant c.copy-part.ensures c.name.ensures c.cells-count.ensures.is c.is_heap.ensures c.requires in
    (p.marks, subst (λ k. Sound c.name.new.self (c.self.inside.used + k) p.marks) (sym c.cells-count.ensures.is) p.sound)

pub returns-clause-ok : goal.returns-clause-ok
returns-clause-ok c =
    let e = c.in_ok-reserve.ensures in
    let o = object_of c.args.heap.now c.args.w in
    let longer : IsLonger c.self.inside.region c.reserve.new.self = record { top = e.same.0; given = e.same.1; spare = e.same.2; more = _; cells = e.longer; most = e.most } in
    let p = put_all c.args.heap.now c.self.inside.region c.reserve.new.self c.copy-part.new.self c.name.new.self c.self.inside.used c.copy-part.result c.args.w c.cells-count.result longer c.self.invariant c.copy-part.ensures c.name.ensures c.cells-count.ensures.is c.is_heap.ensures c.requires in
    let same : record { word = word_of c.copy-part.result; cells = cells o } ≡ record { word = c.word.result; cells = c.cells-count.result } = ap₂ (λ (w : Word) (k : ℕ). let x : Root = record { word = w; cells = k } in x) (sym c.word.ensures) (sym c.cells-count.ensures.is) in
    subst (λ (x : Held). PutsIn x (held_of c.name.new.self) (record { word = c.word.result; cells = c.cells-count.result }) o) c.self.view_is
    (subst (λ (x : Root). PutsIn (held_of c.self.inside.region) (held_of c.name.new.self) x o) same p.puts)
