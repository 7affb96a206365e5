-- A tree that is begun: a leaf at once, a pair by a cell that waits.
use Rattle.std.specs.Prelude.{◌≡◌, ◌≢◌, ℕ, ◌+◌, ◌/◌, ◌%◌, ◌^◌, ◌<◌, List, [], ◌∷◌, length, Bool, true, false, Some, ◌⊎◌, ℤ, if◌then◌else◌, FitsSigned}
use Rattle.std.specs.Int.{w128, cast_unsigned}
use Rattle.std.proofs.Common.{get_or, refl, sym, ap, subst, ◌∙◌, arith, inl, inr}
use Rattle.model_objects.specs.Object.{Object, Integer, Symbol, Text, Pair, cells, fits_64}
use Rattle.acl_base.specs.declared.Word.{Word}
use Rattle.acl_base.specs.declared.Word.TheVariants as word
use Rattle.acl_base.specs.declared.SymId.{SymId}
use Rattle.acl_heap.specs.Objects.{Objects, nothing, IsPair}
use Rattle.acl_pool.specs.declared.cell.Kind.TheVariants.{Bits, Big, Cons, Heap}
use Rattle.acl_pool.specs.declared.cell.Role.TheVariants as role
use Rattle.acl_pool.specs.declared.cell.Part.{Part}
use Rattle.acl_pool.specs.declared.cell.Cell.{Cell}
use Rattle.acl_pool.specs.declared.copying.Waiting.{Waiting}
use Rattle.acl_pool.specs.declared.region.Region.{Region}
use Rattle.acl_pool.specs.Trees.{Atom, Bare, Node, IsNarrow, size, tree_of, part_of, word_of}
use Rattle.acl_pool.specs.Cells.{Halves, halves_of, tree_with, target, target_at, Marks, Alone, cell_at, In, IsChain}
use Rattle.acl_pool.specs.Building.{IsNewCell, Placed, Builds, Gives, IsRoomy}
use Rattle.acl_pool.specs.Copying.{Begins, Starts}
use Rattle.acl_pool.specs.Steps.{Places}
use Rattle.acl_pool.proofs.BuildLemmas.{builds_none}
use Rattle.acl_pool.proofs.NewLemmas.{placed}
use Rattle.acl_pool.proofs.PlaceLemmas.{size_tree}

-- cells that are linked stay so where they are the same
pub chain_kept : (cs ds : List Cell) (first : ℕ) (ns : List ℕ) → ((j : ℕ) → In j ns → cell_at ds j ≡ cell_at cs j) → IsChain cs first ns → IsChain ds first ns
chain_kept cs ds first [] same ch = tt
chain_kept cs ds first (n ∷ ns) same ch = (
  ch.0,
  ch.1,
  subst (λ (d : Cell). IsChain ds d.link ns) (sym (same n (inl refl))) (chain_kept cs ds (cell_at cs n).link ns (λ j b. same j (inr b)) ch.2),
)

-- a tree that was built whole
begins_leaf : {h : Objects} {r later : Region} {m after : Marks} {part : Part} {k : ℕ} (w : Waiting) (o : Object ℕ) → Builds h r later m after part (tree_of o) k → size (tree_of o) ≡ k → IsNarrow o → Begins h r later m after w w part o [] k
begins_leaf {h} {r} {later} {m} {after} {part} {k} w o b e narrow = record {
  built = b.built;
  shows = b.shows;
  free = b.free;
  new = b.new;
  plain = b.plain;
  kept = b.kept;
  fresh_more = b.fresh_more;
  roots = b.roots;
  heaps = λ j l g. inr (b.heaps j l g);
  spare = b.spare;
  top = b.top;
  same_length = b.same_length;
  sizes = omega (arith, e);
  few = omega arith;
  waits = λ j g. absurd g;
  apart = λ j g. absurd g;
  chained = λ work f ch. chain_kept r.cells later.cells w.first work (λ j g. (b.kept j (f j g).0 (inr (f j g).1)).0) ch;
  counts = omega arith;
  narrow = λ f. narrow;
}

pub starts_gives : (h : Objects) (r later : Region) (w : Waiting) (part : Part) (o : Object ℕ) (k : ℕ) → Gives r later part (tree_of o) k → cells o ≡ k → IsNarrow o → Starts h r later w w part o
unfolding Gives Starts
starts_gives h r later w part o k g e narrow m b = let d = g h m b in (d.0, ([], (k, begins_leaf w o d.1 (size_tree o ∙ e) narrow)))

pub starts_wide : (h : Objects) (r later : Region) (w : Waiting) (part : Part) (n : ℤ) → Gives r later part (tree_of (Integer n)) 1 → fits_64 n ≡ false → IsNarrow (Integer n) → Starts h r later w w part (Integer n)
starts_wide h r later w part n g e narrow = starts_gives h r later w part (Integer n) 1 g (ap (λ (b : Bool). if b then 0 else 1) e) narrow

-- a value of no cells
starts_atom : (h : Objects) (r : Region) (w : Waiting) (x : Word) (o : Object ℕ) → tree_of o ≡ Atom x → ((shown : ℕ → Halves) → tree_with shown (part_of x).kind (part_of x).bits ≡ Atom (word_of (part_of x))) → ((n : ℕ) → target (part_of x).kind (part_of x).bits ≡ Some n → ⊥) → (part_of x).kind ≢ Heap → (part : Part) → part ≡ part_of x → word_of part ≡ x
    → IsNarrow o → Starts h r r w w part o
unfolding Starts
starts_atom h r w x o e atom out plain part is back narrow m b =
    let whole : tree_with m.shown (part_of x).kind (part_of x).bits ≡ tree_of o = atom m.shown ∙ (ap (λ p. Atom (word_of p)) (sym is) ∙ (ap Atom back ∙ sym e)) in
    let d : Builds h r r m m (part_of x) (tree_of o) 0 = builds_none b (part_of x) (tree_of o) whole out plain in
    (m, ([], (0, begins_leaf w o (subst (λ (p : Part). Builds h r r m m p (tree_of o) 0) (sym is) d) (ap size e) narrow)))

pub starts_small : (h : Objects) (r : Region) (w : Waiting) (n : ℤ) (part : Part) → fits_64 n ≡ true → part ≡ part_of (word.Small n) → word_of part ≡ word.Small n → FitsSigned w128 n → Starts h r r w w part (Integer n)
starts_small h r w n part fits is back narrow =
    starts_atom h r w (word.Small n) (Integer n) (ap (λ (b : Bool). if b then Atom (word.Small n) else Node Big (Bare (cast_unsigned w128 n % 2 ^ 64)) (Bare (cast_unsigned w128 n / 2 ^ 64))) fits) (λ shown. refl) (λ x e. cc) (λ e. cc) part is back narrow

pub starts_symbol : (h : Objects) (r : Region) (w : Waiting) (s : SymId) (part : Part) → part ≡ part_of (word.Sym s) → word_of part ≡ word.Sym s → Starts h r r w w part (Symbol s.0)
starts_symbol h r w s part is back = starts_atom h r w (word.Sym s) (Symbol s.0) refl (λ shown. refl) (λ x e. cc) (λ e. cc) part is back tt

-- the cell of a pair that waits
abbrev pub wait_cell : ℕ → ℕ → Cell
wait_cell n link = record { left = n; right = 0; link = link; left_kind = Heap; right_kind = Bits; role = role.Inside }

wait_target : (n link : ℕ) (s : Bool) (x : ℕ) → target_at s (wait_cell n link) ≡ Some x → ⊥
wait_target n link true x e = cc
wait_target n link false x e = cc

pair_node : (o : Object ℕ) → IsPair o → Node Cons (halves_of (tree_of o)).0 (halves_of (tree_of o)).1 ≡ tree_of o
pair_node (Integer n) p = absurd p
pair_node (Symbol s) p = absurd p
pair_node (Text bytes) p = absurd p
pair_node (Pair a d) p = refl

wait_new : {h : Objects} {r : Region} {m : Marks} (n link : ℕ) → n < length h → IsPair (get_or h n nothing) → IsNewCell h r m (wait_cell n link)
wait_new n link l p = record {
  alone = λ s x e. absurd (wait_target n link s x e);
  apart = λ x e. absurd (wait_target n link true x e);
  inside = refl;
  waits = λ g. (l, p);
}

begins_wait : {h : Objects} {r later : Region} {m after : Marks} (w : Waiting) (n at : ℕ) → IsPair (get_or h n nothing) → Placed h r later m after (wait_cell n w.first) at
    → Begins h r later m after w (record { first = at; count = w.count + 1 }) (record { kind = Cons; bits = at }) (get_or h n nothing) (at ∷ []) 1
begins_wait {h} {r} {later} {m} {after} w n at pair p =
    let o = get_or h n nothing in
    let whole : Node Cons (after.shown at).0 (after.shown at).1 ≡ tree_of o = ap (λ (x : Halves). Node Cons x.0 x.1) p.shown ∙ pair_node o pair in
    let kind : (cell_at later.cells at).left_kind ≡ Heap = ap (λ (d : Cell). d.left_kind) p.cell in
    record {
      built = p.built;
      shows = whole;
      free = λ x g. let e : at ≡ x = cc in subst (λ y. (y < later.top) × (after.owner y ≡ Alone) × ((cell_at later.cells y).role ≡ role.Inside) × (after.fresh y ≡ true)) e (p.below, p.owner, ap (λ (d : Cell). d.role) p.cell, p.fresh);
      new = λ x g j l k. let e : at ≡ x = cc in subst (λ y. j ≢ y) e (p.kept j l k).0;
      plain = λ g. cc;
      kept = λ j l k. let a = p.kept j l k in (a.1, a.2, p.owners j l k (λ s. wait_target n w.first s j));
      fresh_more = p.fresh_more;
      roots = p.roots;
      heaps = λ j l g. elim (p.older j l) as (λ x. In j (at ∷ []) ⊎ ((j < r.top) × (m.fresh j ≡ true))) [
        | inl e ↦ inl (inl e)
        | inr k ↦ elim (p.fresh_less j (p.built.fits.waits j l g).0) as (λ x. In j (at ∷ []) ⊎ ((j < r.top) × (m.fresh j ≡ true))) [ inl e ↦ inl (inl e) | inr f ↦ inr (k, f) ]
      ];
      spare = p.spare;
      top = p.top;
      same_length = p.same_length;
      sizes = omega (arith, ap size whole);
      few = omega arith;
      waits = λ j g. elim g as (λ x. (j < later.top) × (after.fresh j ≡ true) × ((cell_at later.cells j).left_kind ≡ Heap)) [
        | inl e ↦ subst (λ y. (y < later.top) × (after.fresh y ≡ true) × ((cell_at later.cells y).left_kind ≡ Heap)) (sym e) (p.below, p.fresh, kind)
        | inr b ↦ absurd b
      ];
      apart = λ j g k l e. elim g as (λ x. k ≢ j) [ inl same ↦ subst (λ y. k ≢ y) (sym same) (p.kept k l e).0 | inr b ↦ absurd b ];
      chained = λ work f ch. (
        refl,
        λ b. (p.kept at (f at b).0 (inr (f at b).1)).0 refl,
        subst (λ (d : Cell). IsChain later.cells d.link work) (sym p.cell) (chain_kept r.cells later.cells w.first work (λ j b. (p.kept j (f j b).0 (inr (f j b).1)).1) ch),
      );
      counts = omega arith;
      narrow = λ f. subst (λ (d : Cell). IsNarrow (get_or h d.left nothing)) p.cell (f at (inl refl));
    }

pub starts_wait : (h : Objects) (r later : Region) (before behind : Waiting) (n at : ℕ) (cell : Cell) → n < length h → IsPair (get_or h n nothing) → IsRoomy r 1 → Places r later cell at → cell ≡ wait_cell n before.first → behind ≡ record { first = at; count = before.count + 1 }
    → Starts h r later before behind (record { kind = Cons; bits = at }) (get_or h n nothing)
unfolding Starts
starts_wait h r later before behind n at cell l pair roomy p e f m b =
    let q = placed b (wait_cell n before.first) (wait_new n before.first l pair) (omega (arith, roomy.enough)) later at (subst (λ (d : Cell). Places r later d at) e p) in
    (q.0, (at ∷ [], (1, subst (λ (w : Waiting). Begins h r later m q.0 before w (record { kind = Cons; bits = at }) (get_or h n nothing) (at ∷ []) 1) (sym f) (begins_wait before n at pair q.1))))
