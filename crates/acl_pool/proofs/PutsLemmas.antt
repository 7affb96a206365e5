-- An object put in: what the region holds then.
use Rattle.std.specs.Prelude.{◌≡◌, ◌≢◌, ℕ, ◌+◌, ◌<◌, ◌≤◌, [], length, true, Option, Some, None, ◌⊎◌}
use Rattle.std.specs.List.{sum_by}
use Rattle.std.proofs.Common.{get_or, refl, sym, ap, subst, ◌∙◌, arith, inl, inr, length-set}
use Rattle.model_objects.specs.Object.{Object, cells}
use Rattle.acl_base.specs.declared.Word.{Word}
use Rattle.acl_base.specs.declared.Word.TheVariants as word
use Rattle.acl_heap.specs.Objects.{Objects, object_of, Lies, IsHeap, IsCellObject}
use Rattle.acl_pool.specs.declared.cell.Kind.{Kind}
use Rattle.acl_pool.specs.declared.cell.Role.{Role}
use Rattle.acl_pool.specs.declared.cell.Role.TheVariants as role
use Rattle.acl_pool.specs.declared.cell.Part.{Part}
use Rattle.acl_pool.specs.declared.cell.Cell.{Cell}
use Rattle.acl_pool.specs.declared.copying.Waiting.{Waiting}
use Rattle.acl_pool.specs.declared.region.Region.{Region}
use Rattle.acl_pool.specs.declared.Root.{Root}
use Rattle.acl_pool.specs.Roots.{Held, standing, IsLive, cells_at, used, PutsIn}
use Rattle.acl_pool.specs.Trees.{Tree, Node, IsNarrow, size, seen, tree_of, word_of}
use Rattle.acl_pool.specs.Cells.{Halves, cell_at, rooted, held_of, Marks, Fits, Alone, Readable, Sound, IsSound, IsRootCell, target, kind_of_role}
use Rattle.acl_pool.specs.Copying.{Copying, Copied}
use Rattle.acl_pool.specs.Steps.{with_cell, name_with, root_cell}
use Rattle.acl_pool.proofs.MarkLemmas.{nat_or, cell_same, cell_other}
use Rattle.acl_pool.proofs.TextLemmas.{seen_tree}
use Rattle.acl_pool.proofs.GivenLemmas.{named}
use Rattle.acl_pool.proofs.PlaceLemmas.{size_tree, place_is, place_past, stays_by, points, points_at, same_root}
use Rattle.acl_pool.proofs.PutLemmas.{IsLonger, sound_longer, held_longer, calm_of, heap_object, calmed, calmed_fits, same_place, sum_same_places, sum_one_more, NamedAs, named_as, ValueAs, value_as}

points_or : (w : Word) → ((k : ℕ) → points w k → ⊥) ⊎ ((i : ℕ) × (points w i × ((k : ℕ) → points w k → i ≡ k)))
unfolding points
points_or (word.Small n) = inl (λ k g. g)
points_or (word.Big n) = inr (n, (refl, λ k g. g))
points_or (word.Sym s) = inl (λ k g. g)
points_or (word.Str n) = inr (n, (refl, λ k g. g))
points_or (word.Cons n) = inr (n, (refl, λ k g. g))

target_or : (o : Option ℕ) → ((x : ℕ) → o ≡ Some x → ⊥) ⊎ ((x : ℕ) × (o ≡ Some x))
target_or None = inl (λ x e. cc)
target_or (Some x) = inr (x, refl)

-- what is to be shown of a region where the root was named
pub record Put (r last : Region) (used : ℕ) (part : Part) (o : Object ℕ) : Type 0 where
  pub marks : Marks
  pub sound : Sound last (used + cells o) marks
  pub puts : PutsIn (held_of r) (held_of last) (record { word = word_of part; cells = cells o }) o

module _ {h : Objects} {r later : Region} {m after : Marks} {w : Waiting} {part : Part} {o : Object ℕ} {taken used : ℕ} (s : Sound r used m) (cp : Copying h r later m after w part o [] taken) where
  abbrev root : Root
  root = record { word = word_of part; cells = cells o }

  is_narrow : IsNarrow o
  is_narrow = cp.narrow (λ j b. absurd b)

  all_taken : taken ≡ cells o
  all_taken = omega (arith, cp.sizes, size_tree o)

  longer : r.top ≤ later.top
  longer = omega (arith, cp.top)

  kept_root : (k : ℕ) → k < r.top → (cell_at r.cells k).role ≢ role.Inside → (cell_at later.cells k ≡ cell_at r.cells k) × (after.shown k ≡ m.shown k)
  kept_root k l n = let p = cp.kept k l (s.reads.fits.roots k l n) in (p.0, p.1)

  fits : Fits [] later.cells later.top later.given (calmed after)
  fits = calmed_fits cp.built.fits (λ j l g. cp.heaps j l g)

  counts_after : (used + cells o) + later.spare ≡ later.top
  counts_after =
      let below : r.top ≤ length r.cells = s.reads.fits.room in
      let enough = cp.enough in
      omega (arith, s.counts, cp.spare, cp.top, all_taken)

  -- where the object takes no cell
  module _ (v : ValueAs later part (cells o) o) where
    reads_value : Readable later (calmed after)
    reads_value = record {
      fits = fits;
      calm = λ n. refl;
      roots = λ i l e.
          let b = cp.roots i l e in
          let k = kept_root i b.0 b.1 in
          subst (λ (c : Cell). IsRootCell c (after.shown i)) (sym k.0) (subst (IsRootCell (cell_at r.cells i)) (sym k.1) (s.reads.roots i b.0 b.1));
    }

    same_value : (k : ℕ) → get_or (held_of later).places k None ≡ get_or (held_of r).places k None
    same_value k = same_place s.reads reads_value k longer (λ l e. cp.roots k l e) (kept_root k)

    pub put_value : Put r later used part o
    put_value =
        let sums : sum_by cells_at (held_of later).places ≡ sum_by cells_at (held_of r).places = sum_same_places (held_of r).places (held_of later).places same_value in
        let none = v.none in
        let stands = v.stands (held_of later) in
        record {
          marks = calmed after;
          sound = record {
            reads = reads_value;
            spares = cp.built.spares;
            uses = omega (arith, sums, none, s.uses);
            counts = counts_after;
            bounded = cp.built.bounded;
          };
          puts = record {
            live = record { stands = stands.0; takes = none ∙ sym stands.2 };
            is = stands.1;
            takes = refl;
            fresh = λ l live. absurd (omega (arith, l, none));
            stays = λ q live. stays_by (held_of r) (held_of later) q live (λ k pk. same_value k);
            no_more = λ q live. inl (stays_by (held_of later) (held_of r) q live (λ k pk. sym (same_value k))).live;
            uses = omega (arith, sums, none);
            spares = omega (arith, cp.spare, all_taken);
          };
        }

  -- where it takes a cell or more
  module _ (x : ℕ) (t : target part.kind part.bits ≡ Some x) (n : NamedAs later part (cells o) x o) (object : IsCellObject o) where
    abbrev cell : Cell
    cell = root_cell (cell_at later.cells x) (cells o) n.role

    abbrev last : Region
    last = with_cell later x cell

    free : (x < later.top) × (after.owner x ≡ Alone) × ((cell_at later.cells x).role ≡ role.Inside) × (after.fresh x ≡ true)
    free = cp.free x t

    cell_here : cell_at last.cells x ≡ cell
    cell_here = let l : x < later.top = free.0 in cell_same later.cells x cell (omega (arith, l, cp.built.fits.room))

    cell_there : (k : ℕ) → k ≢ x → cell_at last.cells k ≡ cell_at later.cells k
    cell_there k e = cell_other later.cells x cell k e

    tree_here : Node (kind_of_role n.role) (after.shown x).0 (after.shown x).1 ≡ tree_of o
    tree_here = sym (n.tree after.shown) ∙ cp.shows

    seen_here : seen (Node (kind_of_role n.role) (after.shown x).0 (after.shown x).1) ≡ o
    seen_here = ap seen tree_here ∙ seen_tree o is_narrow

    root_here : IsRootCell cell (after.shown x)
    root_here = record {
      counts = sym (size_tree o) ∙ ap size (sym tree_here);
      tree = tree_here ∙ ap tree_of (sym seen_here);
      object = subst IsCellObject (sym seen_here) object;
    }

    not_x : (k : ℕ) → k < r.top → (cell_at r.cells k).role ≢ role.Inside → k ≢ x
    not_x k l e = cp.new x t k l (s.reads.fits.roots k l e)

    back : (k : ℕ) → k ≢ x → k < last.top → (cell_at last.cells k).role ≢ role.Inside → (k < r.top) × ((cell_at r.cells k).role ≢ role.Inside)
    back k d l e = cp.roots k l (λ g. e (ap (λ (c : Cell). c.role) (cell_there k d) ∙ g))

    kept_last : (k : ℕ) → k < r.top → (cell_at r.cells k).role ≢ role.Inside → (cell_at last.cells k ≡ cell_at r.cells k) × (after.shown k ≡ m.shown k)
    kept_last k l e = let p = kept_root k l e in (cell_there k (not_x k l e) ∙ p.0, p.1)

    reads_named : Readable last (calmed after)
    reads_named = record {
      fits = named fits x (cells o) n.role free.0 free.1;
      calm = λ k. refl;
      roots = λ i l e. elim (nat_or i x) as (λ b. IsRootCell (cell_at last.cells i) (after.shown i)) [
        | inl g ↦ subst (λ k. IsRootCell (cell_at last.cells k) (after.shown k)) (sym g) (subst (λ (c : Cell). IsRootCell c (after.shown x)) (sym cell_here) root_here)
        | inr d ↦ (let b = back i d l e in
            let k = kept_last i b.0 b.1 in
            subst (λ (c : Cell). IsRootCell c (after.shown i)) (sym k.0) (subst (IsRootCell (cell_at r.cells i)) (sym k.1) (s.reads.roots i b.0 b.1)))
      ];
    }

    there : (k : ℕ) → k ≢ x → get_or (held_of last).places k None ≡ get_or (held_of r).places k None
    there k d = same_place s.reads reads_named k longer (back k d) (kept_last k)

    rooted_some : (r : Role) (t : Halves) → r ≢ role.Inside → rooted r t ≡ Some (seen (Node (kind_of_role r) t.0 t.1))
    rooted_some role.Inside t d = absurd (d refl)
    rooted_some role.Wide t d = refl
    rooted_some role.Text t d = refl
    rooted_some role.Pair t d = refl

    here : get_or (held_of last).places x None ≡ Some o
    here = place_is reads_named x free.0 ∙ (ap (λ (c : Cell). rooted c.role (after.shown x)) cell_here ∙ (rooted_some n.role (after.shown x) n.root ∙ ap Some seen_here))

    was : get_or (held_of r).places x None ≡ None
    was = elim (below_or x r.top) as (λ b. get_or (held_of r).places x None ≡ None) [
      | inr p ↦ place_past s.reads x p
      | inl l ↦ elim (inside_or (cell_at r.cells x).role) as (λ b. get_or (held_of r).places x None ≡ None) [
        | inl e ↦ place_is s.reads x l ∙ ap (λ (y : Role). rooted y (m.shown x)) e
        | inr e ↦ absurd (not_x x l e refl)
      ]
    ]
      where
        below_or : (j k : ℕ) → (j < k) ⊎ (k ≤ j)
        below_or j k = grind arith

        inside_or : (y : Role) → (y ≡ role.Inside) ⊎ (y ≢ role.Inside)
        inside_or role.Inside = inl refl
        inside_or role.Wide = inr (λ e. cc)
        inside_or role.Text = inr (λ e. cc)
        inside_or role.Pair = inr (λ e. cc)

    apart : (q : Root) → IsLive (held_of r) q → (k : ℕ) → points q.word k → k ≢ x
    apart q live k pk e =
        let a : None ≡ Some (standing (held_of r) x) = sym was ∙ (points_at (held_of r) q.word x live.stands (subst (points q.word) e pk)).stands in cc

    live_last : IsLive (held_of last) root
    live_last = let a = n.stands (held_of last) here in record { stands = a.0; takes = sym a.2 }

    no_more : (q : Root) → IsLive (held_of last) q → IsLive (held_of r) q ⊎ (q ≡ root)
    no_more q live = elim (points_or q.word) as (λ b. IsLive (held_of r) q ⊎ (q ≡ root)) [
      | inl off ↦ inl (stays_by (held_of last) (held_of r) q live (λ k pk. absurd (off k pk))).live
      | inr p ↦ elim (nat_or p.0 x) as (λ b. IsLive (held_of r) q ⊎ (q ≡ root)) [
        | inl e ↦ inr (same_root (held_of last) q root x live live_last (subst (points q.word) e p.1.0) n.at)
        | inr d ↦ inl (stays_by (held_of last) (held_of r) q live (λ k pk. sym (there k (λ e. d (p.1.1 k pk ∙ e))))).live
      ]
    ]

    pub put_root : Put r last used part o
    put_root =
        let sums : sum_by cells_at (held_of last).places ≡ sum_by cells_at (held_of r).places + cells o = sum_one_more x (held_of r).places (held_of last).places o here was there in
        record {
          marks = calmed after;
          sound = record {
            reads = reads_named;
            spares = cp.built.spares;
            uses = omega (arith, sums, s.uses);
            counts = counts_after;
            bounded = omega (arith, cp.built.bounded, length-set later.cells x cell);
          };
          puts = record {
            live = live_last;
            is = (n.stands (held_of last) here).1;
            takes = refl;
            fresh = λ l live. apart root live x n.at refl;
            stays = λ q live. stays_by (held_of r) (held_of last) q live (λ k pk. there k (apart q live k pk));
            no_more = no_more;
            uses = sums;
            spares = omega (arith, cp.spare, all_taken);
          };
        }

  pub put_in : (last : Region) → last ≡ name_with later part.kind part.bits (cells o) → ((k : Kind) (l u : Tree) → Node k l u ≡ tree_of o → IsCellObject o) → Put r last used part o
  put_in last e object = elim (target_or (target part.kind part.bits)) as (λ b. Put r last used part o) [
    | inl off ↦ (let v = value_as later after.shown part (cells o) o off cp.plain is_narrow cp.shows in subst (λ (x : Region). Put r x used part o) (sym (e ∙ v.region)) (put_value v))
    | inr p ↦ (let n = named_as later after.shown part (cells o) p.0 o p.1 cp.shows in
        let c = object (kind_of_role n.role) (after.shown p.0).0 (after.shown p.0).1 (sym (n.tree after.shown) ∙ cp.shows) in
        subst (λ (x : Region). Put r x used part o) (sym (e ∙ n.region)) (put_root p.0 p.1 n c))
  ]

pub part_below : (h : Objects) (r longer later : Region) (used : ℕ) (part : Part) (o : Object ℕ) → IsLonger r longer → IsSound r used → Copied h longer later part o → (x : ℕ) → target part.kind part.bits ≡ Some x → x < length later.cells
unfolding Copied
part_below h r longer later used part o g s copied x t =
    let cp = (copied s.0 (calm_of (sound_longer g s.1))).1.1.1 in
    let l : x < later.top = (cp.free x t).0 in
    omega (arith, l, cp.built.fits.room)

pub put_all : (h : Objects) (r longer later last : Region) (used : ℕ) (part : Part) (w : Word) (n : ℕ) → IsLonger r longer → IsSound r used → Copied h longer later part (object_of h w) → last ≡ name_with later part.kind part.bits n → n ≡ cells (object_of h w) → IsHeap h → Lies h w
    → Put r last used part (object_of h w)
unfolding Copied
put_all h r longer later last used part w n g s copied e f is lies =
    let t = sound_longer g s.1 in
    let cp = (copied s.0 (calm_of t)).1.1.1 in
    let narrow : IsNarrow (object_of h w) = cp.narrow (λ j b. absurd b) in
    let p = put_in t cp last (e ∙ ap (name_with later part.kind part.bits) f) (λ k l u eq. heap_object h w k l u is lies narrow eq) in
    record { marks = p.marks; sound = p.sound; puts = subst (λ (x : Held). PutsIn x (held_of last) (record { word = word_of part; cells = cells (object_of h w) }) (object_of h w)) (held_longer g s.1) p.puts }
