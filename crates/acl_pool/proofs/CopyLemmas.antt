-- A pair that waited, once its parts are begun and it is written.
use Rattle.std.specs.Prelude.{◌≡◌, ◌≢◌, ℕ, ◌+◌, ◌-◌, ◌<◌, ◌≤◌, List, [], ◌∷◌, ◌++◌, length, Bool, true, false, Some, ◌⊎◌}
use Rattle.std.proofs.Common.{get_or, refl, sym, ap, ap₂, subst, ◌∙◌, arith, inl, inr, length-set, length-append}
use Rattle.model_objects.specs.Object.{Object, Pair, cells, max_weight}
use Rattle.acl_heap.specs.Objects.{Objects, nothing, IsPair}
use Rattle.acl_pool.specs.declared.cell.Kind.{Kind}
use Rattle.acl_pool.specs.declared.cell.Kind.TheVariants.{Heap}
use Rattle.acl_pool.specs.declared.cell.Role.TheVariants as role
use Rattle.acl_pool.specs.declared.cell.Part.{Part}
use Rattle.acl_pool.specs.declared.cell.Cell.{Cell}
use Rattle.acl_pool.specs.declared.copying.Waiting.{Waiting}
use Rattle.acl_pool.specs.declared.region.Region.{Region}
use Rattle.acl_pool.specs.Trees.{Tree, IsNarrow, size, tree_of}
use Rattle.acl_pool.specs.Cells.{Halves, size_of, halves, halves_with, halves_of, target_at, Marks, Alone, Fits, cell_at, In, IsChain}
use Rattle.acl_pool.specs.Building.{Building, room, IsKept, IsRoomy}
use Rattle.acl_pool.specs.Copying.{needs, waiting_at, AreFresh, Begins, Copying, IsCopying}
use Rattle.acl_pool.specs.Steps.{with_cell}
use Rattle.acl_pool.proofs.MarkLemmas.{nat_or, with_same, with_other, tree_same, cell_same, cell_other, chain_set, owner_kept}
use Rattle.acl_pool.proofs.FitsLemmas.{MayWrite, marks_written, written}
use Rattle.acl_pool.proofs.TakeLemmas.{sum_same}
use Rattle.acl_pool.proofs.PlaceLemmas.{halves_both, size_tree}

pub in_left : (j : ℕ) (xs ys : List ℕ) → In j xs → In j (xs ++ ys)
in_left j [] ys b = absurd b
in_left j (x ∷ xs) ys b = elim b as (λ b. (j ≡ x) ⊎ In j (xs ++ ys)) [ inl e ↦ inl e | inr b ↦ inr (in_left j xs ys b) ]

pub in_right : (j : ℕ) (xs ys : List ℕ) → In j ys → In j (xs ++ ys)
in_right j [] ys b = b
in_right j (x ∷ xs) ys b = inr (in_right j xs ys b)

pub in_either : (j : ℕ) (xs ys : List ℕ) → In j (xs ++ ys) → In j xs ⊎ In j ys
in_either j [] ys b = inr b
in_either j (x ∷ xs) ys b = elim b as (λ b. ((j ≡ x) ⊎ In j xs) ⊎ In j ys) [
  | inl e ↦ inl (inl e)
  | inr b ↦ elim (in_either j xs ys b) as (λ b. ((j ≡ x) ⊎ In j xs) ⊎ In j ys) [ inl k ↦ inl (inr k) | inr k ↦ inr k ]
]

pub needs_same : (f g : ℕ → Halves) (ns : List ℕ) → ((j : ℕ) → In j ns → f j ≡ g j) → needs f ns ≡ needs g ns
needs_same f g [] e = refl
needs_same f g (n ∷ ns) e = ap₂ (λ a b. a + b) (ap (λ (x : Halves). size x.0 + size x.1) (e n (inl refl))) (needs_same f g ns (λ j b. e j (inr b)))

pub needs_both : (f : ℕ → Halves) (xs ys : List ℕ) → needs f (xs ++ ys) ≡ needs f xs + needs f ys
needs_both f [] ys = omega arith
needs_both f (x ∷ xs) ys = omega (arith, needs_both f xs ys)

abbrev pub popped : Waiting → ℕ → Waiting
popped w link = record { first = link; count = w.count - 1 }

abbrev pub pair_cell : Part → Part → Cell
pair_cell left right = record { left = left.bits; right = right.bits; link = 0; left_kind = left.kind; right_kind = right.kind; role = role.Inside }

module _ {h : Objects} {start later r1 r2 : Region} {m0 m m1 m2 : Marks} {w w1 w2 : Waiting} {part left right : Part} {o a d : Object ℕ} {at link : ℕ} {rest more1 more2 : List ℕ} {taken t1 t2 : ℕ}
    (cp : Copying h start later m0 m w part o (at ∷ rest) taken) (is : waiting_at h later at ≡ Pair a d) (linked : link ≡ (cell_at later.cells at).link) (b1 : Begins h later r1 m m1 (popped w link) w1 left a more1 t1) (b2 : Begins h r1 r2 m1 m2 w1 w2 right d more2 t2) where
  abbrev c : Cell
  c = pair_cell left right

  abbrev m3 : Marks
  m3 = marks_written h m2 at c

  abbrev r3 : Region
  r3 = with_cell r2 at c

  abbrev work : List ℕ
  work = more2 ++ (more1 ++ rest)

  here : (at < later.top) × (m.fresh at ≡ true) × ((cell_at later.cells at).left_kind ≡ Heap)
  here = cp.waits at (inl refl)

  below_1 : (j : ℕ) → j < later.top → j < r1.top
  below_1 j l = omega (arith, l, b1.top)

  below_2 : (j : ℕ) → j < r1.top → j < r2.top
  below_2 j l = omega (arith, l, b2.top)

  kept_1 : (j : ℕ) → j < later.top → IsKept m j → IsKept m1 j
  kept_1 j l k = elim k as (λ x. IsKept m1 j) [ inl e ↦ inl ((b1.kept j l k).2 ∙ e) | inr f ↦ inr (b1.fresh_more j f) ]

  kept_2 : (j : ℕ) → j < later.top → IsKept m j → (cell_at r2.cells j ≡ cell_at later.cells j) × (m2.shown j ≡ m.shown j) × (m2.owner j ≡ m.owner j)
  kept_2 j l k =
      let p = b1.kept j l k in
      let q = b2.kept j (below_1 j l) (kept_1 j l k) in
      (q.0 ∙ p.0, q.1 ∙ p.1, q.2 ∙ p.2)

  fresh_2 : (j : ℕ) → m.fresh j ≡ true → m2.fresh j ≡ true
  fresh_2 j f = b2.fresh_more j (b1.fresh_more j f)

  not_target : (j : ℕ) → j < later.top → IsKept m j → (s : Bool) → target_at s c ≡ Some j → ⊥
  not_target j l k true t = b1.new j t j l k refl
  not_target j l k false t = b2.new j t j (below_1 j l) (kept_1 j l k) refl

  alone : (s : Bool) (n : ℕ) → target_at s c ≡ Some n → (n < r2.top) × (m2.owner n ≡ Alone) × ((cell_at r2.cells n).role ≡ role.Inside) × (n ≢ at)
  alone true n t =
      let f = b1.free n t in
      let k = b2.kept n f.0 (inl f.1) in
      (below_2 n f.0, k.2 ∙ f.1, ap (λ (x : Cell). x.role) k.0 ∙ f.2, λ e. b1.new n t at here.0 (inr here.1) (sym e))
  alone false n t =
      let f = b2.free n t in
      (f.0, f.1, f.2, λ e. b2.new n t at (below_1 at here.0) (inr (b1.fresh_more at here.1)) (sym e))

  shown_at : m.shown at ≡ (tree_of a, tree_of d)
  shown_at =
      let first : m.shown at ≡ halves h m.shown (cell_at later.cells at) = cp.built.fits.shows at here.0 in
      first ∙ (ap (λ (k : Kind). halves_with h m.shown k (cell_at later.cells at)) here.2 ∙ ap (λ (x : Object ℕ). halves_of (tree_of x)) is)

  still : halves h m2.shown c ≡ m2.shown at
  still = halves_both h m2.shown c left.kind b1.plain
      ∙ (ap₂ (λ (x y : Tree). let t : Halves = (x, y) in t) (tree_same m1.shown m2.shown left.kind left.bits (λ x t. let f = b1.free x t in (b2.kept x f.0 (inl f.1)).1) ∙ b1.shows) b2.shows
      ∙ sym ((kept_2 at here.0 (inr here.1)).1 ∙ shown_at))

  may : MayWrite h r2.cells r2.top m2 at c
  may = record {
    alone = alone;
    apart = λ n t u. let f = b1.free n t in b2.new n u n f.0 (inl f.1) refl;
    inside = refl;
    here = below_2 at (below_1 at here.0);
    unlisted = (b2.built.fits.fresh_owned at (fresh_2 at here.1)).0;
    same = λ p s e. sym still;
    fresh = fresh_2 at here.1;
    waits = λ g. absurd (b1.plain g);
  }

  shown_3 : (j : ℕ) → m3.shown j ≡ m2.shown j
  shown_3 j = elim (nat_or j at) as (λ x. m3.shown j ≡ m2.shown j)
      [ inl e ↦ subst (λ k. m3.shown k ≡ m2.shown k) (sym e) (with_same at (halves h m2.shown c) m2.shown ∙ still) | inr n ↦ with_other at (halves h m2.shown c) m2.shown j n ]

  fits : Fits h r3.cells r3.top r3.given m3
  fits = written b2.built.fits may

  built : Building h r3 m3
  built = record {
    fits = fits;
    spares = b2.built.spares ∙ sum_same (λ k. size_of (m2.shown k)) (λ k. size_of (m3.shown k)) m2.given (λ k i. ap size_of (sym (shown_3 k)));
    bounded = omega (arith, b2.built.bounded, length-set r2.cells at c);
  }

  cell_here : cell_at r3.cells at ≡ c
  cell_here = let l = below_2 at (below_1 at here.0) in cell_same r2.cells at c (omega (arith, b2.built.fits.room, l))

  cell_there : (j : ℕ) → j ≢ at → cell_at r3.cells j ≡ cell_at r2.cells j
  cell_there j n = cell_other r2.cells at c j n

  apart_1 : (j : ℕ) → In j more1 → j ≢ at
  apart_1 j b e = b1.apart j b at here.0 (inr here.1) (sym e)

  apart_2 : (j : ℕ) → In j more2 → j ≢ at
  apart_2 j b e = b2.apart j b at (below_1 at here.0) (inr (b1.fresh_more at here.1)) (sym e)

  apart_rest : (j : ℕ) → In j rest → j ≢ at
  apart_rest j b e = cp.chained.1 (subst (λ x. In x rest) e b)

  cell_1 : (j : ℕ) → In j more1 → cell_at r3.cells j ≡ cell_at r1.cells j
  cell_1 j b = let f = b1.waits j b in cell_there j (apart_1 j b) ∙ (b2.kept j f.0 (inr f.1)).0

  cell_rest : (j : ℕ) → In j rest → cell_at r3.cells j ≡ cell_at later.cells j
  cell_rest j b = let f = cp.waits j (inr b) in cell_there j (apart_rest j b) ∙ (kept_2 j f.0 (inr f.1)).0

  waits : (j : ℕ) → In j work → (j < r3.top) × (m3.fresh j ≡ true) × ((cell_at r3.cells j).left_kind ≡ Heap)
  waits j b = elim (in_either j more2 (more1 ++ rest) b) as (λ x. (j < r3.top) × (m3.fresh j ≡ true) × ((cell_at r3.cells j).left_kind ≡ Heap)) [
    | inl b2' ↦ (let f = b2.waits j b2' in (f.0, f.1, ap (λ (x : Cell). x.left_kind) (cell_there j (apart_2 j b2')) ∙ f.2))
    | inr b' ↦ elim (in_either j more1 rest b') as (λ x. (j < r3.top) × (m3.fresh j ≡ true) × ((cell_at r3.cells j).left_kind ≡ Heap)) [
      | inl b1' ↦ (let f = b1.waits j b1' in (below_2 j f.0, b2.fresh_more j f.1, ap (λ (x : Cell). x.left_kind) (cell_1 j b1') ∙ f.2))
      | inr b0 ↦ (let f = cp.waits j (inr b0) in (below_2 j (below_1 j f.0), fresh_2 j f.1, ap (λ (x : Cell). x.left_kind) (cell_rest j b0) ∙ f.2))
    ]
  ]

  heaps : (j : ℕ) → j < r3.top → (cell_at r3.cells j).left_kind ≡ Heap → In j work
  heaps j l g = elim (nat_or j at) as (λ x. In j work) [
    | inl e ↦ absurd (b1.plain (sym (ap (λ (x : Cell). x.left_kind) cell_here) ∙ subst (λ x. (cell_at r3.cells x).left_kind ≡ Heap) e g))
    | inr n ↦ elim (b2.heaps j l (sym (ap (λ (x : Cell). x.left_kind) (cell_there j n)) ∙ g)) as (λ x. In j work) [
      | inl b ↦ in_left j more2 (more1 ++ rest) b
      | inr p ↦ in_right j more2 (more1 ++ rest) (from_1 j n p.0 p.1 (sym (ap (λ (x : Cell). x.left_kind) (cell_there j n ∙ (b2.kept j p.0 (inr p.1)).0)) ∙ g))
    ]
  ]
    where
      from_0 : (j : ℕ) → j ≢ at → In j (at ∷ rest) → In j (more1 ++ rest)
      from_0 j n b = elim b as (λ x. In j (more1 ++ rest)) [ inl e ↦ absurd (n e) | inr k ↦ in_right j more1 rest k ]

      from_1 : (j : ℕ) → j ≢ at → j < r1.top → m1.fresh j ≡ true → (cell_at r1.cells j).left_kind ≡ Heap → In j (more1 ++ rest)
      from_1 j n l f k = elim (b1.heaps j l k) as (λ x. In j (more1 ++ rest)) [
        | inl b ↦ in_left j more1 rest b
        | inr p ↦ from_0 j n (cp.heaps j p.0 (sym (ap (λ (x : Cell). x.left_kind) (b1.kept j p.0 (inr p.1)).0) ∙ k))
      ]

  sizes : (taken + (t1 + t2)) + needs m3.shown work ≡ size (tree_of o)
  sizes =
      let all : needs m3.shown work ≡ needs m3.shown more2 + (needs m3.shown more1 + needs m3.shown rest) = needs_both m3.shown more2 (more1 ++ rest) ∙ ap (λ k. needs m3.shown more2 + k) (needs_both m3.shown more1 rest) in
      let e2 : needs m3.shown more2 ≡ needs m2.shown more2 = needs_same m3.shown m2.shown more2 (λ j b. shown_3 j) in
      let e1 : needs m3.shown more1 ≡ needs m1.shown more1 = needs_same m3.shown m1.shown more1 (λ j b. let f = b1.waits j b in shown_3 j ∙ (b2.kept j f.0 (inr f.1)).1) in
      let e0 : needs m3.shown rest ≡ needs m.shown rest = needs_same m3.shown m.shown rest (λ j b. let f = cp.waits j (inr b) in shown_3 j ∙ (kept_2 j f.0 (inr f.1)).1) in
      let l : size (m.shown at).0 ≡ size (tree_of a) = ap (λ (x : Halves). size x.0) shown_at in
      let r : size (m.shown at).1 ≡ size (tree_of d) = ap (λ (x : Halves). size x.1) shown_at in
      omega (arith, all, e2, e1, e0, l, r, cp.sizes, b1.sizes, b2.sizes)

  length_work : length work ≡ length more2 + (length more1 + length rest)
  length_work = omega (arith, length-append more2 (more1 ++ rest), length-append more1 rest)

  chained : IsChain r3.cells w2.first work
  chained = chain_set r2.cells at c w2.first work out (b2.chained (more1 ++ rest) fresh_1 (b1.chained rest (λ j b. let f = cp.waits j (inr b) in (f.0, f.1)) (subst (λ x. IsChain later.cells x rest) (sym linked) cp.chained.2)))
    where
      out : In at work → ⊥
      out b = elim (in_either at more2 (more1 ++ rest) b) as (λ x. ⊥)
          [ inl k ↦ apart_2 at k refl | inr k ↦ elim (in_either at more1 rest k) as (λ x. ⊥) [ inl p ↦ apart_1 at p refl | inr p ↦ apart_rest at p refl ] ]

      fresh_1 : AreFresh r1 m1 (more1 ++ rest)
      fresh_1 j b = elim (in_either j more1 rest b) as (λ x. (j < r1.top) × (m1.fresh j ≡ true))
          [ inl k ↦ (let f = b1.waits j k in (f.0, f.1)) | inr k ↦ (let f = cp.waits j (inr k) in (below_1 j f.0, b1.fresh_more j f.1)) ]

  narrow : ((j : ℕ) → In j work → IsNarrow (waiting_at h r3 j)) → IsNarrow o
  narrow f = cp.narrow (λ j b. elim b as (λ x. IsNarrow (waiting_at h later j)) [
    | inl e ↦ subst (λ x. IsNarrow (waiting_at h later x)) (sym e) (subst IsNarrow (sym is) (left_narrow, right_narrow))
    | inr k ↦ subst (λ (x : Cell). IsNarrow (get_or h x.left nothing)) (cell_rest j k) (f j (in_right j more2 (more1 ++ rest) (in_right j more1 rest k)))
  ])
    where
      left_narrow : IsNarrow a
      left_narrow = b1.narrow (λ j k. subst (λ (x : Cell). IsNarrow (get_or h x.left nothing)) (cell_1 j k) (f j (in_right j more2 (more1 ++ rest) (in_left j more1 rest k))))

      right_narrow : IsNarrow d
      right_narrow = b2.narrow (λ j k. subst (λ (x : Cell). IsNarrow (get_or h x.left nothing)) (cell_there j (apart_2 j k)) (f j (in_left j more2 (more1 ++ rest) k)))

  pub pair_copied : Copying h start r3 m0 m3 w2 part o work (taken + (t1 + t2))
  pair_copied = record {
    built = built;
    shows = tree_same m.shown m3.shown part.kind part.bits (λ x t. let f = cp.free x t in shown_3 x ∙ (kept_2 x f.0 (inl f.1)).1) ∙ cp.shows;
    free = λ x t.
        let f = cp.free x t in
        let k = kept_2 x f.0 (inl f.1) in (
          below_2 x (below_1 x f.0),
          owner_kept c at m2.owner x (not_target x f.0 (inl f.1)) ∙ (k.2 ∙ f.1),
          elim (nat_or x at) as (λ y. (cell_at r3.cells x).role ≡ role.Inside) [
            | inl e ↦ subst (λ y. (cell_at r3.cells y).role ≡ role.Inside) (sym e) (ap (λ (y : Cell). y.role) cell_here)
            | inr n ↦ ap (λ (y : Cell). y.role) (cell_there x n ∙ k.0) ∙ f.2
          ],
          fresh_2 x f.3,
        );
    new = cp.new;
    plain = cp.plain;
    kept = λ j l e.
        let p = cp.kept j l e in
        let lower : j < later.top = omega (arith, l, cp.top) in
        let n : j ≢ at = λ g. cp.calm j l (ap (λ (x : Cell). x.left_kind) (sym p.0 ∙ ap (cell_at later.cells) g) ∙ here.2) in
        let k = kept_2 j lower (inl p.2) in
        (cell_there j n ∙ (k.0 ∙ p.0), shown_3 j ∙ (k.1 ∙ p.1), owner_kept c at m2.owner j (not_target j lower (inl p.2)) ∙ (k.2 ∙ p.2));
    calm = cp.calm;
    roots = λ j l e. elim (nat_or j at) as (λ x. (j < start.top) × ((cell_at start.cells j).role ≢ role.Inside)) [
      | inl g ↦ absurd (e (subst (λ y. (cell_at r3.cells y).role ≡ role.Inside) (sym g) (ap (λ (y : Cell). y.role) cell_here)))
      | inr n ↦ (let p = b2.roots j l (λ g. e (ap (λ (x : Cell). x.role) (cell_there j n) ∙ g)) in let q = b1.roots j p.0 p.1 in cp.roots j q.0 q.1)
    ];
    heaps = heaps;
    spare = omega (arith, cp.spare, b1.spare, b2.spare);
    top = omega (arith, cp.top, b1.top, b2.top, cp.spare, b1.spare);
    same_length = length-set r2.cells at c ∙ (b2.same_length ∙ (b1.same_length ∙ cp.same_length));
    sizes = sizes;
    few = omega (arith, length_work, cp.few, b1.few, b2.few);
    waits = waits;
    chained = chained;
    counts = omega (arith, length_work, cp.counts, b1.counts, b2.counts);
    narrow = narrow;
    enough = cp.enough;
    light = cp.light;
  }

-- the cells that are left, in a copy
pub record Rooms (r : Region) (w : Waiting) (least : ℕ) : Type 0 where
  pub cells : least ≤ room r
  pub count : w.count + least ≤ max_weight

-- the pair that waits first
pub record Heads (h : Objects) (r : Region) (w : Waiting) : Type 0 where
  pub start : Region
  pub marks : Marks
  pub now : Marks
  pub part : Part
  pub object : Object ℕ
  pub rest : List ℕ
  pub taken : ℕ
  pub copying : Copying h start r marks now w part object (w.first ∷ rest) taken

pub at_first : {h : Objects} {start r : Region} {m now : Marks} {w : Waiting} {part : Part} {o : Object ℕ} (work : List ℕ) {taken : ℕ} → Copying h start r m now w part o work taken → 0 < w.count
    → (rest : List ℕ) × ((work ≡ w.first ∷ rest) × Copying h start r m now w part o (w.first ∷ rest) taken)
at_first [] cp l = absurd (omega (arith, cp.counts, l))
at_first {h} {start} {r} {m} {now} {w} {part} {o} (n ∷ ns) {taken} cp l = (ns, (ap (λ (x : ℕ). let xs : List ℕ = x ∷ ns in xs) (sym cp.chained.0), subst (λ x. Copying h start r m now w part o (x ∷ ns) taken) (sym cp.chained.0) cp))

pub heads : {h : Objects} {r : Region} {w : Waiting} → IsCopying h r w → 0 < w.count → Heads h r w
heads {h} {r} {w} c l =
    let p = at_first c.work c.copying l in
    record { start = c.start; marks = c.marks; now = c.now; part = c.part; object = c.object; rest = p.0; taken = c.taken; copying = p.1.1 }

module _ {h : Objects} {r : Region} {w : Waiting} (p : Heads h r w) where
  pub head_below : w.first < length r.cells
  head_below = let f = p.copying.waits w.first (inl refl) in let l : w.first < r.top = f.0 in omega (arith, l, p.copying.built.fits.room)

  pub head_waits : ((cell_at r.cells w.first).left < length h) × IsPair (waiting_at h r w.first)
  head_waits = let f = p.copying.waits w.first (inl refl) in let k = p.copying.built.fits.waits w.first f.0 f.2 in (k.1, k.2)

  pub room_left : needs p.now.shown (w.first ∷ p.rest) ≤ room r
  room_left =
      let cp = p.copying in
      let fits : r.top ≤ length r.cells = cp.built.fits.room in
      omega (arith, cp.spare, cp.top, cp.same_length, cp.sizes, cp.enough, fits)

  module _ {a d : Object ℕ} (is : waiting_at h r w.first ≡ Pair a d) where
    pub head_shown : p.now.shown w.first ≡ (tree_of a, tree_of d)
    head_shown =
        let f = p.copying.waits w.first (inl refl) in
        let first : p.now.shown w.first ≡ halves h p.now.shown (cell_at r.cells w.first) = p.copying.built.fits.shows w.first f.0 in
        first ∙ (ap (λ (k : Kind). halves_with h p.now.shown k (cell_at r.cells w.first)) f.2 ∙ ap (λ (x : Object ℕ). halves_of (tree_of x)) is)

    pub parts_room : cells a + cells d ≤ room r
    parts_room =
        let l : size (p.now.shown w.first).0 ≡ cells a = ap (λ (x : Halves). size x.0) head_shown ∙ size_tree a in
        let g : size (p.now.shown w.first).1 ≡ cells d = ap (λ (x : Halves). size x.1) head_shown ∙ size_tree d in
        omega (arith, room_left, l, g)

    pub left_roomy : IsRoomy r (cells a)
    left_roomy = record { heap = h; marks = p.now; built = p.copying.built; enough = omega (arith, parts_room) }
