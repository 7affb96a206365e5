-- A tree that was copied becomes that of a root.
use Rattle.std.specs.Prelude.{◌≡◌, ◌≢◌, ℕ, ◌+◌, ◌/◌, ◌%◌, ◌^◌, ◌<◌, ◌≤◌, List, [], ◌∷◌, ◌++◌, length, replicate, true, false, Option, Some, None, zero, suc, ◌⊎◌, ℤ, pos, negsuc, FitsSigned, if◌then◌else◌}
use Rattle.std.specs.List.{sum_by}
use Rattle.std.specs.Int.{w128, cast_unsigned}
use Rattle.std.specs.Option.{unwrap_or}
use Rattle.std.proofs.Common.{get_or, refl, sym, ap, ap₂, subst, ◌∙◌, arith, inl, inr, length-append, ext_get_or}
use Rattle.std.proofs.lemmas.List.{get_or_append_left}
use Rattle.std.proofs.lemmas.List.Sums.{sum_by-cons}
use Rattle.std.proofs.lemmas.Bool.Decides.{nat_tests}
use Rattle.model_objects.specs.Object.{Object, Integer, Symbol, Text, Pair, cells, fits_64, fits_128}
use Rattle.acl_base.specs.declared.Word.{Word}
use Rattle.acl_base.specs.declared.Word.TheVariants as word
use Rattle.acl_heap.specs.Objects.{Objects, nothing, object_of, Lies, IsHeap, IsInteger, IsText, IsPair, IsCellObject}
use Rattle.acl_pool.specs.declared.cell.Kind.{Kind}
use Rattle.acl_pool.specs.declared.cell.Kind.TheVariants.{Small, Sym, Bits, Big, Str, Cons, Heap}
use Rattle.acl_pool.specs.declared.cell.Role.{Role}
use Rattle.acl_pool.specs.declared.cell.Role.TheVariants as role
use Rattle.acl_pool.specs.declared.cell.Part.{Part}
use Rattle.acl_pool.specs.declared.cell.Cell.{Cell}
use Rattle.acl_pool.specs.declared.region.Region.{Region}
use Rattle.acl_pool.specs.Roots.{Held, standing, Stands, IsStanding, cells_in, object_of_word, cells_at}
use Rattle.acl_pool.specs.Trees.{Tree, Atom, Bare, Node, IsNarrow, size, seen, tree_of, word_of}
use Rattle.acl_pool.specs.Cells.{Halves, tree_with, halves, cell_at, blank, rooted, held_of, Marks, Fits, Readable, Sound, IsRootCell, target, target_at, kind_of_role, most_cells}
use Rattle.acl_pool.specs.Copying.{IsCalm, HasRoom}
use Rattle.acl_pool.specs.Steps.{with_cell, name_with, root_cell}
use Rattle.acl_pool.proofs.MarkLemmas.{calm_halves}
use Rattle.acl_pool.proofs.TextLemmas.{seen_tree}
use Rattle.acl_pool.proofs.BeginLemmas.{chain_kept}
use Rattle.acl_pool.proofs.PlaceLemmas.{size_tree, place_is, place_past, length_places, points}

below_or : (j k : ℕ) → (j < k) ⊎ (k ≤ j)
below_or j k = grind arith

inside_or : (r : Role) → (r ≡ role.Inside) ⊎ (r ≢ role.Inside)
inside_or role.Inside = inl refl
inside_or role.Wide = inr (λ e. cc)
inside_or role.Text = inr (λ e. cc)
inside_or role.Pair = inr (λ e. cc)

-- sums over places
get_none : {X : Type 0} (k : ℕ) (d : X) → get_or [] k d ≡ d
get_none zero d = refl
get_none (suc k) d = refl

pub sum_same_places : (xs ys : List (Option (Object ℕ))) → ((k : ℕ) → get_or ys k None ≡ get_or xs k None) → sum_by cells_at ys ≡ sum_by cells_at xs
sum_same_places [] [] e = refl
sum_same_places [] (y ∷ ys) e =
    let here : cells_at y ≡ 0 = ap cells_at (e 0) in
    let rest : sum_by cells_at ys ≡ 0 = sum_same_places [] ys (λ k. e (suc k) ∙ sym (get_none k None)) in
    omega (arith, sum_by-cons cells_at y ys, here, rest)
sum_same_places (x ∷ xs) [] e =
    let here : 0 ≡ cells_at x = ap cells_at (e 0) in
    let rest : 0 ≡ sum_by cells_at xs = sum_same_places xs [] (λ k. get_none k None ∙ e (suc k)) in
    omega (arith, sum_by-cons cells_at x xs, here, rest)
sum_same_places (x ∷ xs) (y ∷ ys) e =
    let here : cells_at y ≡ cells_at x = ap cells_at (e 0) in
    let rest : sum_by cells_at ys ≡ sum_by cells_at xs = sum_same_places xs ys (λ k. e (suc k)) in
    omega (arith, sum_by-cons cells_at x xs, sum_by-cons cells_at y ys, here, rest)

pub sum_one_more : (n : ℕ) (xs ys : List (Option (Object ℕ))) (o : Object ℕ) → get_or ys n None ≡ Some o → get_or xs n None ≡ None → ((k : ℕ) → k ≢ n → get_or ys k None ≡ get_or xs k None) → sum_by cells_at ys ≡ sum_by cells_at xs + cells o
sum_one_more n xs [] o at none e = let a : None ≡ Some o = sym (get_none n None) ∙ at in cc
sum_one_more zero [] (y ∷ ys) o at none e =
    let here : cells_at y ≡ cells o = ap cells_at at in
    let rest : sum_by cells_at ys ≡ 0 = sum_same_places [] ys (λ k. e (suc k) (omega arith) ∙ sym (get_none k None)) in
    omega (arith, sum_by-cons cells_at y ys, here, rest)
sum_one_more zero (x ∷ xs) (y ∷ ys) o at none e =
    let here : cells_at y ≡ cells o = ap cells_at at in
    let was : cells_at x ≡ 0 = ap cells_at none in
    let rest : sum_by cells_at ys ≡ sum_by cells_at xs = sum_same_places xs ys (λ k. e (suc k) (omega arith)) in
    omega (arith, sum_by-cons cells_at x xs, sum_by-cons cells_at y ys, here, was, rest)
sum_one_more (suc n) [] (y ∷ ys) o at none e =
    let here : cells_at y ≡ 0 = ap cells_at (e 0 (omega arith)) in
    let rest : sum_by cells_at ys ≡ 0 + cells o = sum_one_more n [] ys o at (get_none n None) (λ k d. e (suc k) (λ g. d (omega (arith, g))) ∙ sym (get_none k None)) in
    omega (arith, sum_by-cons cells_at y ys, here, rest)
sum_one_more (suc n) (x ∷ xs) (y ∷ ys) o at none e =
    let here : cells_at y ≡ cells_at x = ap cells_at (e 0 (omega arith)) in
    let rest : sum_by cells_at ys ≡ sum_by cells_at xs + cells o = sum_one_more n xs ys o at none (λ k d. e (suc k) (λ g. d (omega (arith, g)))) in
    omega (arith, sum_by-cons cells_at x xs, sum_by-cons cells_at y ys, here, rest)

-- what stands in two regions at a place that both know alike
pub same_place : {r later : Region} {m after : Marks} (s : Readable r m) (t : Readable later after) (k : ℕ) → r.top ≤ later.top
    → (k < later.top → (cell_at later.cells k).role ≢ role.Inside → (k < r.top) × ((cell_at r.cells k).role ≢ role.Inside)) → (k < r.top → (cell_at r.cells k).role ≢ role.Inside → (cell_at later.cells k ≡ cell_at r.cells k) × (after.shown k ≡ m.shown k))
    → get_or (held_of later).places k None ≡ get_or (held_of r).places k None
same_place {r} {later} {m} {after} s t k longer back kept = elim (below_or k later.top) as (λ b. get_or (held_of later).places k None ≡ get_or (held_of r).places k None) [
  | inr p ↦ place_past t k p ∙ sym (place_past s k (omega (arith, p, longer)))
  | inl l ↦ elim (inside_or (cell_at later.cells k).role) as (λ b. get_or (held_of later).places k None ≡ get_or (held_of r).places k None) [
    | inl e ↦ (let gone : get_or (held_of later).places k None ≡ None = place_is t k l ∙ ap (λ (x : Role). rooted x (after.shown k)) e in
        elim (below_or k r.top) as (λ b. get_or (held_of later).places k None ≡ get_or (held_of r).places k None) [
          | inr p ↦ gone ∙ sym (place_past s k p)
          | inl q ↦ elim (inside_or (cell_at r.cells k).role) as (λ b. get_or (held_of later).places k None ≡ get_or (held_of r).places k None) [
            | inl i ↦ gone ∙ sym (place_is s k q ∙ ap (λ (x : Role). rooted x (m.shown k)) i)
            | inr n ↦ absurd (n (sym (ap (λ (c : Cell). c.role) (kept q n).0) ∙ e))
          ]
        ])
    | inr n ↦ (let b = back l n in let c = kept b.0 b.1 in place_is t k l ∙ (ap₂ (λ (x : Cell) (u : Halves). rooted x.role u) c.0 c.1 ∙ sym (place_is s k b.0)))
  ]
]

-- a region made longer
pub record IsLonger (r longer : Region) : Type 0 where
  pub top : longer.top ≡ r.top
  pub given : longer.given ≡ r.given
  pub spare : longer.spare ≡ r.spare
  pub more : ℕ
  pub cells : longer.cells ≡ r.cells ++ replicate more blank
  pub most : length longer.cells ≤ most_cells

module _ {r longer : Region} (g : IsLonger r longer) {used : ℕ} {m : Marks} (s : Sound r used m) where
  f : Fits [] r.cells r.top r.given m
  f = s.reads.fits

  cell_kept : (j : ℕ) → j < r.top → cell_at longer.cells j ≡ cell_at r.cells j
  cell_kept j l = ap (λ (cs : List Cell). cell_at cs j) g.cells ∙ get_or_append_left r.cells (replicate g.more blank) blank j (omega (arith, l, f.room))

  fits_longer : Fits [] longer.cells r.top r.given m
  fits_longer = record {
    room = omega (arith, f.room, ap length g.cells, length-append r.cells (replicate g.more blank));
    shows = λ i l. f.shows i l ∙ ap (halves [] m.shown) (sym (cell_kept i l));
    owned = λ i t k l e. f.owned i t k l (subst (λ (c : Cell). target_at t c ≡ Some k) (cell_kept i l) e);
    roots = λ i l e. f.roots i l (λ z. e (ap (λ (c : Cell). c.role) (cell_kept i l) ∙ z));
    chained = chain_kept r.cells longer.cells r.given m.given (λ j i. cell_kept j (f.listed j i).0) f.chained;
    listed = f.listed;
    fresh_owned = f.fresh_owned;
    waits = λ i l k. absurd (let a : true ≡ false = sym (f.waits i l (sym (ap (λ (c : Cell). c.left_kind) (cell_kept i l)) ∙ k)).0 ∙ s.reads.calm i in cc);
  }

  fits_there : Fits [] longer.cells longer.top longer.given m
  fits_there = subst (λ k. Fits [] longer.cells k longer.given m) (sym g.top) (subst (λ k. Fits [] longer.cells r.top k m) (sym g.given) fits_longer)

  pub reads_longer : Readable longer m
  reads_longer = record {
    fits = fits_there;
    calm = s.reads.calm;
    roots = λ i l e.
        let b : i < r.top = omega (arith, l, g.top) in
        subst (λ (c : Cell). IsRootCell c (m.shown i)) (sym (cell_kept i b)) (s.reads.roots i b (λ z. e (ap (λ (c : Cell). c.role) (cell_kept i b) ∙ z)));
  }

  places_longer : (held_of longer).places ≡ (held_of r).places
  places_longer = ext_get_or None (held_of longer).places (held_of r).places (length_places reads_longer ∙ (g.top ∙ sym (length_places s.reads))) (λ k l.
      same_place s.reads reads_longer k (omega (arith, g.top)) (λ b e. let a : k < r.top = omega (arith, b, g.top) in (a, λ z. e (ap (λ (c : Cell). c.role) (cell_kept k a) ∙ z))) (λ b e. (cell_kept k b, refl)))

  pub held_longer : held_of longer ≡ held_of r
  held_longer = ap₂ (λ (ps : List (Option (Object ℕ))) (k : ℕ). let p : Held = record { places = ps; spare = k } in p) places_longer g.spare

  pub sound_longer : Sound longer used m
  sound_longer = record {
    reads = reads_longer;
    spares = g.spare ∙ s.spares;
    uses = s.uses ∙ ap (λ (ps : List (Option (Object ℕ))). sum_by cells_at ps) (sym places_longer);
    counts = omega (arith, s.counts, g.top, g.spare);
    bounded = g.most;
  }

pub calm_of : {r : Region} {used : ℕ} {m : Marks} → Sound r used m → IsCalm r m
calm_of s = record { built = record { fits = s.reads.fits; spares = s.spares; bounded = s.bounded }; calm = s.reads.calm }

pub has_room : {r longer : Region} (g : IsLonger r longer) {used : ℕ} {m : Marks} (s : Sound r used m) (n : ℕ) → r.top + n ≤ length longer.cells + r.spare → HasRoom longer n
has_room {r} {longer} g {used} {m} s n l =
    let t = sound_longer g s in
    record { marks = m; calm = calm_of t; enough = omega (arith, l, g.top, g.spare, t.reads.fits.room) }

-- no copy is begun any more
abbrev pub calmed : Marks → Marks
calmed m = record { shown = m.shown; owner = m.owner; given = m.given; fresh = λ n. false }

pub calmed_fits : {h : Objects} {cs : List Cell} {top first : ℕ} {m : Marks} → Fits h cs top first m → ((j : ℕ) → j < top → (cell_at cs j).left_kind ≢ Heap) → Fits [] cs top first (calmed m)
calmed_fits {h} {cs} {top} {first} {m} f calm = record {
  room = f.room;
  shows = λ i l. f.shows i l ∙ calm_halves h [] m.shown (cell_at cs i) (cell_at cs i).left_kind (calm i l);
  owned = f.owned;
  roots = f.roots;
  chained = f.chained;
  listed = f.listed;
  fresh_owned = λ n e. absurd (let a : false ≡ true = e in cc);
  waits = λ i l k. absurd (calm i l k);
}

-- what the tree of an object says of the object
node_integer : (o : Object ℕ) (l r : Tree) → Node Big l r ≡ tree_of o → IsInteger o
node_integer (Integer n) l r e = tt
node_integer (Symbol s) l r e = cc
node_integer (Text bytes) l r e = cc
node_integer (Pair a d) l r e = cc

node_text : (o : Object ℕ) (l r : Tree) → Node Str l r ≡ tree_of o → IsText o
node_text (Integer n) l r e = elim (fits_64 n) as (λ b. Node Str l r ≡ (if b then Atom (word.Small n) else Node Big (Bare (cast_unsigned w128 n % 2 ^ 64)) (Bare (cast_unsigned w128 n / 2 ^ 64))) → IsText (Integer n)) [ true ↦ (λ e. cc) | false ↦ (λ e. cc) ] e
node_text (Symbol s) l r e = cc
node_text (Text bytes) l r e = tt
node_text (Pair a d) l r e = cc

node_pair : (o : Object ℕ) (l r : Tree) → Node Cons l r ≡ tree_of o → IsPair o
node_pair (Integer n) l r e = elim (fits_64 n) as (λ b. Node Cons l r ≡ (if b then Atom (word.Small n) else Node Big (Bare (cast_unsigned w128 n % 2 ^ 64)) (Bare (cast_unsigned w128 n / 2 ^ 64))) → IsPair (Integer n)) [ true ↦ (λ e. cc) | false ↦ (λ e. cc) ] e
node_pair (Symbol s) l r e = cc
node_pair (Text bytes) l r e = cc
node_pair (Pair a d) l r e = tt

pub bare_none : (o : Object ℕ) (n : ℕ) → Bare n ≡ tree_of o → ⊥
bare_none (Integer z) n e = elim (fits_64 z) as (λ b. Bare n ≡ (if b then Atom (word.Small z) else Node Big (Bare (cast_unsigned w128 z % 2 ^ 64)) (Bare (cast_unsigned w128 z / 2 ^ 64))) → ⊥) [ true ↦ (λ e. cc) | false ↦ (λ e. cc) ] e
bare_none (Symbol s) n e = cc
bare_none (Text bytes) n e = cc
bare_none (Pair a d) n e = cc

node_wide : (n : ℤ) (k : Kind) (l r : Tree) → Node k l r ≡ tree_of (Integer n) → fits_64 n ≡ false
node_wide n k l r e = elim (fits_64 n) as (λ b. Node k l r ≡ (if b then Atom (word.Small n) else Node Big (Bare (cast_unsigned w128 n % 2 ^ 64)) (Bare (cast_unsigned w128 n / 2 ^ 64))) → b ≡ false) [ true ↦ (λ e. cc) | false ↦ (λ e. refl) ] e

in_128 : (n : ℤ) → FitsSigned w128 n → fits_128 n ≡ true
in_128 (pos n) f = grind (arith, nat_tests)
in_128 (negsuc n) f = grind (arith, nat_tests)

-- a heap's object that takes cells is one that a cell may hold
pub heap_object : (h : Objects) (w : Word) (k : Kind) (l r : Tree) → IsHeap h → Lies h w → IsNarrow (object_of h w) → Node k l r ≡ tree_of (object_of h w) → IsCellObject (object_of h w)
heap_object h (word.Small n) k l r is lies narrow e = (node_wide n k l r e, in_128 n narrow)
heap_object h (word.Big n) k l r is lies narrow e = is.cell n (omega (arith, lies))
heap_object h (word.Sym s) k l r is lies narrow e = cc
heap_object h (word.Str n) k l r is lies narrow e = is.cell n (omega (arith, lies))
heap_object h (word.Cons n) k l r is lies narrow e = is.cell n (omega (arith, lies))

standing_is : (p : Held) (n : ℕ) (o : Object ℕ) → get_or p.places n None ≡ Some o → standing p n ≡ o
standing_is p n o e = ap (λ (x : Option (Object ℕ)). unwrap_or x nothing) e

stands_as : (p : Held) (n : ℕ) (o : Object ℕ) (Is : Object ℕ → Type 0) → get_or p.places n None ≡ Some o → Is o → Stands p n × Is (standing p n)
stands_as p n o Is e i = let s = standing_is p n o e in (e ∙ ap Some (sym s), subst Is (sym s) i)

abbrev inside_role : Role
inside_role = role.Inside

-- the word of a part that points to a root
pub record NamedAs (r : Region) (part : Part) (count x : ℕ) (o : Object ℕ) : Type 0 where
  pub role : Role
  pub region : name_with r part.kind part.bits count ≡ with_cell r x (root_cell (cell_at r.cells x) count role)
  pub root : role ≢ inside_role
  pub at : points (word_of part) x
  pub tree : (shown : ℕ → Halves) → tree_with shown part.kind part.bits ≡ Node (kind_of_role role) (shown x).0 (shown x).1
  pub stands : (p : Held) → get_or p.places x None ≡ Some o → IsStanding p (word_of part) × (object_of_word p (word_of part) ≡ o) × (cells_in p (word_of part) ≡ cells o)

named_at : (r : Region) (k : Kind) (n count x : ℕ) (l u : Tree) (o : Object ℕ) → target k n ≡ Some x → Node k l u ≡ tree_of o → NamedAs r (record { kind = k; bits = n }) count x o
unfolding points
named_at r Small n count x l u o t e = cc
named_at r Sym n count x l u o t e = cc
named_at r Bits n count x l u o t e = cc
named_at r Big n count x l u o t e =
    let g : n ≡ x = cc in
    subst (λ y. NamedAs r (record { kind = Big; bits = n }) count y o) g (record {
      role = role.Wide;
      region = refl;
      root = λ d. cc;
      at = refl;
      tree = λ shown. refl;
      stands = λ p s. (stands_as p n o IsInteger s (node_integer o l u e), standing_is p n o s, ap cells (standing_is p n o s));
    })
named_at r Str n count x l u o t e =
    let g : n ≡ x = cc in
    subst (λ y. NamedAs r (record { kind = Str; bits = n }) count y o) g (record {
      role = role.Text;
      region = refl;
      root = λ d. cc;
      at = refl;
      tree = λ shown. refl;
      stands = λ p s. (stands_as p n o IsText s (node_text o l u e), standing_is p n o s, ap cells (standing_is p n o s));
    })
named_at r Cons n count x l u o t e =
    let g : n ≡ x = cc in
    subst (λ y. NamedAs r (record { kind = Cons; bits = n }) count y o) g (record {
      role = role.Pair;
      region = refl;
      root = λ d. cc;
      at = refl;
      tree = λ shown. refl;
      stands = λ p s. (stands_as p n o IsPair s (node_pair o l u e), standing_is p n o s, ap cells (standing_is p n o s));
    })
named_at r Heap n count x l u o t e = cc

node_shown : (shown : ℕ → Halves) (k : Kind) (n x : ℕ) → target k n ≡ Some x → Node k (shown x).0 (shown x).1 ≡ tree_with shown k n
node_shown shown Small n x t = cc
node_shown shown Sym n x t = cc
node_shown shown Bits n x t = cc
node_shown shown Big n x t = let g : n ≡ x = cc in ap (λ y. Node Big (shown y).0 (shown y).1) (sym g)
node_shown shown Str n x t = let g : n ≡ x = cc in ap (λ y. Node Str (shown y).0 (shown y).1) (sym g)
node_shown shown Cons n x t = let g : n ≡ x = cc in ap (λ y. Node Cons (shown y).0 (shown y).1) (sym g)
node_shown shown Heap n x t = cc

pub named_as : (r : Region) (shown : ℕ → Halves) (part : Part) (count x : ℕ) (o : Object ℕ) → target part.kind part.bits ≡ Some x → tree_with shown part.kind part.bits ≡ tree_of o → NamedAs r part count x o
named_as r shown part count x o t e = named_at r part.kind part.bits count x (shown x).0 (shown x).1 o t (node_shown shown part.kind part.bits x t ∙ e)

-- the word of a part that points to no cell
pub record ValueAs (r : Region) (part : Part) (count : ℕ) (o : Object ℕ) : Type 0 where
  pub region : name_with r part.kind part.bits count ≡ r
  pub none : cells o ≡ 0
  pub off : (k : ℕ) → points (word_of part) k → ⊥
  pub stands : (p : Held) → IsStanding p (word_of part) × (object_of_word p (word_of part) ≡ o) × (cells_in p (word_of part) ≡ 0)

value_at : (r : Region) (shown : ℕ → Halves) (k : Kind) (n count : ℕ) (o : Object ℕ) → ((x : ℕ) → target k n ≡ Some x → ⊥) → k ≢ Heap → IsNarrow o → tree_with shown k n ≡ tree_of o → ValueAs r (record { kind = k; bits = n }) count o
unfolding points
value_at r shown Small n count o t plain narrow e = record {
  region = refl;
  none = sym (size_tree o) ∙ ap size (sym e);
  off = λ k g. g;
  stands = λ p. (tt, ap seen e ∙ seen_tree o narrow, refl);
}
value_at r shown Sym n count o t plain narrow e = record {
  region = refl;
  none = sym (size_tree o) ∙ ap size (sym e);
  off = λ k g. g;
  stands = λ p. (tt, ap seen e ∙ seen_tree o narrow, refl);
}
value_at r shown Bits n count o t plain narrow e = absurd (bare_none o n e)
value_at r shown Big n count o t plain narrow e = absurd (t n refl)
value_at r shown Str n count o t plain narrow e = absurd (t n refl)
value_at r shown Cons n count o t plain narrow e = absurd (t n refl)
value_at r shown Heap n count o t plain narrow e = absurd (plain refl)

pub value_as : (r : Region) (shown : ℕ → Halves) (part : Part) (count : ℕ) (o : Object ℕ) → ((x : ℕ) → target part.kind part.bits ≡ Some x → ⊥) → part.kind ≢ Heap → IsNarrow o → tree_with shown part.kind part.bits ≡ tree_of o → ValueAs r part count o
value_as r shown part count o t plain narrow e = value_at r shown part.kind part.bits count o t plain narrow e
