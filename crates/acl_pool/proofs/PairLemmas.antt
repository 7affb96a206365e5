-- The pair that waits first is copied, in a region.
use Rattle.std.specs.Prelude.{◌≡◌, ℕ, ◌+◌, ◌<◌, ◌≤◌, List, ◌∷◌, ◌++◌, length}
use Rattle.std.proofs.Common.{sym, ap, subst, ◌∙◌, arith, length-set}
use Rattle.model_objects.specs.Object.{Object, Pair, cells, max_weight}
use Rattle.acl_heap.specs.Objects.{Objects}
use Rattle.acl_pool.specs.declared.cell.Part.{Part}
use Rattle.acl_pool.specs.declared.cell.Cell.{Cell}
use Rattle.acl_pool.specs.declared.copying.Waiting.{Waiting}
use Rattle.acl_pool.specs.declared.region.Region.{Region}
use Rattle.acl_pool.specs.Trees.{size}
use Rattle.acl_pool.specs.Cells.{Halves, Marks, cell_at}
use Rattle.acl_pool.specs.Building.{room, IsRoomy}
use Rattle.acl_pool.specs.Copying.{needs, waiting_at, Begins, Starts, Copying, Continues}
use Rattle.acl_pool.specs.Steps.{with_cell}
use Rattle.acl_pool.proofs.FitsLemmas.{marks_written}
use Rattle.acl_pool.proofs.PlaceLemmas.{size_tree}
use Rattle.acl_pool.proofs.CopyLemmas.{popped, pair_cell, pair_copied, at_first, Heads, head_shown, head_below, room_left}

pub needs_head : {h : Objects} {r : Region} {w : Waiting} {a d : Object ℕ} (p : Heads h r w) → waiting_at h r w.first ≡ Pair a d → needs p.now.shown (w.first ∷ p.rest) ≡ (cells a + cells d) + needs p.now.shown p.rest
needs_head {h} {r} {w} {a} {d} p is =
    let l : size (p.now.shown w.first).0 ≡ cells a = ap (λ (x : Halves). size x.0) (head_shown p is) ∙ size_tree a in
    let g : size (p.now.shown w.first).1 ≡ cells d = ap (λ (x : Halves). size x.1) (head_shown p is) ∙ size_tree d in
    omega (arith, l, g)

module _ {h : Objects} {r r1 : Region} {w w1 : Waiting} {left : Part} {a d : Object ℕ} {link : ℕ} (p : Heads h r w) (is : waiting_at h r w.first ≡ Pair a d) {m1 : Marks} {more1 : List ℕ} {t1 : ℕ} (b : Begins h r r1 p.now m1 (popped w link) w1 left a more1 t1) where
  count_of : w1.count ≤ max_weight
  count_of =
      let cp = p.copying in
      omega (arith, b.counts, b.few, b.sizes, size_tree a, needs_head p is, cp.counts, cp.few, cp.sizes, cp.light)

  roomy_of : IsRoomy r1 (cells d)
  roomy_of =
      let fits : r.top ≤ length r.cells = p.copying.built.fits.room in
      record { heap = h; marks = m1; built = b.built; enough = omega (arith, b.spare, b.top, b.same_length, b.sizes, size_tree a, needs_head p is, room_left p, fits) }

  module _ {r2 : Region} {w2 : Waiting} {right : Part} {m2 : Marks} {more2 : List ℕ} {t2 : ℕ} (b2 : Begins h r1 r2 m1 m2 w1 w2 right d more2 t2) where
    below_of : w.first < length r2.cells
    below_of = let l = head_below p in omega (arith, l, b.same_length, b2.same_length)

    less_of : (n : ℕ) (c : Cell) (r4 : Region) → 0 < w.count → r4 ≡ with_cell r2 n c → room r4 + w2.count < room r + w.count
    less_of n c r4 some e =
        let long : length r4.cells ≡ length r2.cells = ap (λ (x : Region). length x.cells) e ∙ length-set r2.cells n c in
        let spare : r4.spare ≡ r2.spare = ap (λ (x : Region). x.spare) e in
        let top : r4.top ≡ r2.top = ap (λ (x : Region). x.top) e in
        let fits : r.top ≤ length r.cells = p.copying.built.fits.room in
        let enough : cells a + cells d ≤ room r = omega (arith, needs_head p is, room_left p) in
        omega (arith, long, spare, top, some, fits, enough, b.counts, b.few, b.spare, b.top, b.same_length, b.sizes, size_tree a, b2.counts, b2.few, b2.spare, b2.top, b2.same_length, b2.sizes, size_tree d)

module _ (h : Objects) (r r1 : Region) (w w1 : Waiting) (left : Part) (a d : Object ℕ) (link : ℕ) (p : Heads h r w) (is : waiting_at h r w.first ≡ Pair a d) (sl : Starts h r r1 (popped w link) w1 left a) where
  pub right_count : w1.count ≤ max_weight
  unfolding Starts
  right_count = let b = sl p.now p.copying.built in count_of p is b.1.1.1

  pub right_roomy : IsRoomy r1 (cells d)
  unfolding Starts
  right_roomy = let b = sl p.now p.copying.built in roomy_of p is b.1.1.1

  module _ (r2 : Region) (w2 : Waiting) (right : Part) (sr : Starts h r1 r2 w1 w2 right d) where
    pub write_below : w.first < length r2.cells
    unfolding Starts
    write_below = let b = sl p.now p.copying.built in let b2 = sr b.0 b.1.1.1.built in below_of p is b.1.1.1 b2.1.1.1

    pub goes_less : (n : ℕ) (c : Cell) (r4 : Region) → 0 < w.count → r4 ≡ with_cell r2 n c → room r4 + w2.count < room r + w.count
    unfolding Starts
    goes_less n c r4 some e = let b = sl p.now p.copying.built in let b2 = sr b.0 b.1.1.1.built in less_of p is b.1.1.1 b2.1.1.1 n c r4 some e

pub goes : (h : Objects) (r r1 r2 r4 : Region) (w w1 w2 : Waiting) (left right : Part) (a d : Object ℕ) (link : ℕ) (c : Cell) → waiting_at h r w.first ≡ Pair a d → link ≡ (cell_at r.cells w.first).link → 0 < w.count → Starts h r r1 (popped w link) w1 left a → Starts h r1 r2 w1 w2 right d
    → c ≡ pair_cell left right → r4 ≡ with_cell r2 w.first c → Continues h r r4 w w2
unfolding Starts Continues
goes h r r1 r2 r4 w w1 w2 left right a d link c is linked some sl sr e f start m now part o work taken cp =
    let k = at_first work cp some in
    let b1 = sl now k.1.1.built in
    let b2 = sr b1.0 b1.1.1.1.built in
    let all = pair_copied k.1.1 is linked b1.1.1.1 b2.1.1.1 in
    let same : with_cell r2 w.first (pair_cell left right) ≡ r4 = ap (with_cell r2 w.first) (sym e) ∙ sym f in
    (marks_written h b2.0 w.first (pair_cell left right), (b2.1.0 ++ (b1.1.0 ++ k.0), (taken + (b1.1.1.0 + b2.1.1.0), subst (λ (x : Region). Copying h start x m (marks_written h b2.0 w.first (pair_cell left right)) w2 part o (b2.1.0 ++ (b1.1.0 ++ k.0)) (taken + (b1.1.1.0 + b2.1.1.0))) same all)))
