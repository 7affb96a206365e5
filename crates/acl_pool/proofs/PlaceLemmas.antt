-- What a sound region holds at each place.
use Rattle.std.specs.Prelude.{◌≡◌, ◌≢◌, ℕ, ◌+◌, ◌/◌, ◌%◌, ◌^◌, ◌<◌, ◌≤◌, List, [], length, take, drop, true, false, Some, None, zero, suc, pos, ◌⊎◌, if◌then◌else◌}
use Rattle.std.specs.List.{sum_by}
use Rattle.std.specs.Int.{w128, cast_unsigned}
use Rattle.std.specs.Option.{unwrap_or}
use Rattle.std.proofs.Common.{get_or, set, refl, sym, ap, ap₂, subst, ◌∙◌, arith, inl, inr, length-take, get_or-take, ext_get_or, length-set, get_or-set_same, get_or-set_other}
use Rattle.std.proofs.lemmas.List.{get_or-map, get_or_past, length-map}
use Rattle.std.proofs.lemmas.List.Sums.{sum_by-set}
use Rattle.model_objects.specs.Object.{Object, Integer, Symbol, Text, Pair, cells, fits_64}
use Rattle.acl_base.specs.declared.Word.{Word}
use Rattle.acl_base.specs.declared.Word.TheVariants as word
use Rattle.acl_heap.specs.Objects.{nothing, IsInteger, IsText, IsPair, IsCellObject}
use Rattle.acl_pool.specs.declared.cell.Kind.{Kind}
use Rattle.acl_pool.specs.declared.cell.Kind.TheVariants.{Small, Sym, Bits, Big, Str, Cons, Heap}
use Rattle.acl_pool.specs.declared.cell.Role.{Role}
use Rattle.acl_pool.specs.declared.cell.Role.TheVariants as role
use Rattle.acl_pool.specs.declared.cell.Cell.{Cell}
use Rattle.acl_pool.specs.declared.region.Region.{Region}
use Rattle.acl_pool.specs.declared.Root.{Root}
use Rattle.acl_pool.specs.Roots.{Held, standing, object_of_word, Stands, IsStanding, cells_in, IsLive, Stays}
use Rattle.acl_pool.specs.Trees.{Tree, part_of, Atom, Bare, Node, size, seen, tree_of, chain, numbers}
use Rattle.acl_pool.specs.Cells.{Halves, size_of, tree_from, both, halves_with, cell_at, blank, rooted, place_at, held_of, Marks, Readable, IsRootCell, target, kind_of_role}
use Rattle.acl_pool.proofs.MarkLemmas.{nat_or}
use Rattle.acl_pool.proofs.TreeLemmas.{tree_is}

pub size_chain : (k : ℕ) (bs : List ℕ) → size (chain (numbers k bs)) ≡ k
size_chain zero bs = refl
size_chain (suc k) bs = omega (arith, size_chain k (drop 8 bs))

-- the tree of an object has as many cells as the object
pub size_tree : (o : Object ℕ) → size (tree_of o) ≡ cells o
size_tree (Integer n) =
    elim (fits_64 n) as (λ b. size (if b then Atom (word.Small n) else Node Big (Bare (cast_unsigned w128 n % 2 ^ 64)) (Bare (cast_unsigned w128 n / 2 ^ 64))) ≡ (if b then 0 else 1)) [ true ↦ refl | false ↦ refl ]
size_tree (Symbol s) = refl
size_tree (Text bytes) = omega (arith, size_chain ((length bytes + 7) / 8) bytes)
size_tree (Pair a d) = omega (arith, size_tree a, size_tree d)

pub halves_both : (h : List (Object ℕ)) (shown : ℕ → Halves) (c : Cell) (k : Kind) → k ≢ Heap → halves_with h shown k c ≡ both shown c
halves_both h shown c Small n = refl
halves_both h shown c Sym n = refl
halves_both h shown c Bits n = refl
halves_both h shown c Big n = refl
halves_both h shown c Str n = refl
halves_both h shown c Cons n = refl
halves_both h shown c Heap n = absurd (n refl)

pub rooted_same : (r : Role) (t u : Halves) → (r ≢ role.Inside → t ≡ u) → rooted r t ≡ rooted r u
rooted_same role.Inside t u e = refl
rooted_same role.Wide t u e = ap (rooted role.Wide) (e (λ g. cc))
rooted_same role.Text t u e = ap (rooted role.Text) (e (λ g. cc))
rooted_same role.Pair t u e = ap (rooted role.Pair) (e (λ g. cc))

module _ {r : Region} {m : Marks} (s : Readable r m) where
  pub calm_kind : (i : ℕ) → i < r.top → (cell_at r.cells i).left_kind ≢ Heap
  calm_kind i l k = let a : true ≡ false = sym (s.fits.waits i l k).0 ∙ s.calm i in cc

  pub shows_both : (i : ℕ) → i < r.top → m.shown i ≡ both m.shown (cell_at r.cells i)
  shows_both i l = s.fits.shows i l ∙ halves_both [] m.shown (cell_at r.cells i) (cell_at r.cells i).left_kind (calm_kind i l)

  pub read_is : (steps : ℕ) (i : ℕ) → i < r.top → size_of (m.shown i) ≤ steps → (tree_from r.cells steps (cell_at r.cells i).left_kind (cell_at r.cells i).left, tree_from r.cells steps (cell_at r.cells i).right_kind (cell_at r.cells i).right) ≡ m.shown i
  read_is steps i l k =
      let c = cell_at r.cells i in
      let e = ap size_of (shows_both i l) in
      ap₂ (λ (a : Tree) (b : Tree). let t : Halves = (a, b) in t)
      (tree_is r.cells r.top m.shown shows_both (λ j t n l e. (s.fits.owned j t n l e).0) steps c.left_kind c.left (λ x g. (s.fits.owned i true x l g).0) (omega (arith, e, k)))
      (tree_is r.cells r.top m.shown shows_both (λ j t n l e. (s.fits.owned j t n l e).0) steps c.right_kind c.right (λ x g. (s.fits.owned i false x l g).0) (omega (arith, e, k)))
      ∙ sym (shows_both i l)

  pub place_is : (i : ℕ) → i < r.top → get_or (held_of r).places i None ≡ rooted (cell_at r.cells i).role (m.shown i)
  unfolding place_at
  place_is i l =
      let below : i < length (take r.top r.cells) = omega (arith, length-take r.top r.cells, s.fits.room, l) in
      let c = cell_at r.cells i in
      get_or-map (place_at r.cells) (take r.top r.cells) i blank None below
      ∙ (ap (place_at r.cells) (get_or-take r.top r.cells i blank l)
      ∙ rooted_same c.role _ (m.shown i) (λ n. read_is c.link i l (omega (arith, (s.roots i l n).counts))))

  pub length_places : length (held_of r).places ≡ r.top
  length_places = length-map (take r.top r.cells) (place_at r.cells) ∙ omega (arith, length-take r.top r.cells, s.fits.room)

  pub place_past : (i : ℕ) → r.top ≤ i → get_or (held_of r).places i None ≡ None
  place_past i l = get_or_past (held_of r).places i None (omega (arith, length_places))

  -- an object at a place is that of a root's cell
  pub stands_root : (i : ℕ) (o : Object ℕ) → get_or (held_of r).places i None ≡ Some o → (i < r.top) × (rooted (cell_at r.cells i).role (m.shown i) ≡ Some o)
  stands_root i o e = elim (below_or i r.top) as (λ b. (i < r.top) × (rooted (cell_at r.cells i).role (m.shown i) ≡ Some o))
      [ inl l ↦ (l, sym (place_is i l) ∙ e) | inr g ↦ (let a : None ≡ Some o = sym (place_past i g) ∙ e in cc) ]
    where
      below_or : (j k : ℕ) → (j < k) ⊎ (k ≤ j)
      below_or j k = grind arith

-- what a root's cell says of the object
pub rooted_is : (r : Role) (t : Halves) (o : Object ℕ) → rooted r t ≡ Some o → (r ≢ role.Inside) × (o ≡ seen (Node (kind_of_role r) t.0 t.1))
rooted_is role.Inside t o e = cc
rooted_is role.Wide t o e = (λ g. cc, cc)
rooted_is role.Text t o e = (λ g. cc, cc)
rooted_is role.Pair t o e = (λ g. cc, cc)

pub root_cells : (c : Cell) (t : Halves) (o : Object ℕ) → IsRootCell c t → o ≡ seen (Node (kind_of_role c.role) t.0 t.1) → (size_of t ≡ cells o) × IsCellObject o
root_cells c t o is e = (
  ap size (is.tree) ∙ (size_tree (seen (Node (kind_of_role c.role) t.0 t.1)) ∙ ap cells (sym e)),
  subst IsCellObject (sym e) is.object,
)

pub place_in : {r : Region} {m : Marks} (s : Readable r m) (i : ℕ) (o : Object ℕ) → get_or (held_of r).places i None ≡ Some o → (i < r.top) × ((cell_at r.cells i).role ≢ role.Inside) × (size_of (m.shown i) ≡ cells o) × IsCellObject o
place_in {r} {m} s i o e =
    let p = stands_root s i o e in
    let q = rooted_is (cell_at r.cells i).role (m.shown i) o p.1 in
    let c = root_cells (cell_at r.cells i) (m.shown i) o (s.roots i p.0 q.0) q.1 in
    (p.0, q.0, c.0, c.1)

-- lists that differ at one place
pub sum_but : {X : Type 0} (f : X → ℕ) (d : X) (xs ys : List X) (i : ℕ) → length xs ≡ length ys → i < length xs → ((k : ℕ) → k ≢ i → get_or ys k d ≡ get_or xs k d) → sum_by f ys + f (get_or xs i d) ≡ sum_by f xs + f (get_or ys i d)
sum_but f d xs ys i same l other =
    let is : ys ≡ set xs i (get_or ys i d) = ext_get_or d ys (set xs i (get_or ys i d)) (omega (arith, same, length-set xs i (get_or ys i d)))
    (λ k g. elim (nat_or k i) as (λ b. get_or ys k d ≡ get_or (set xs i (get_or ys i d)) k d) [
      | inl e ↦ subst (λ j. get_or ys j d ≡ get_or (set xs i (get_or ys i d)) j d) (sym e) (sym (get_or-set_same xs i (get_or ys i d) d l))
      | inr n ↦ other k n ∙ sym (get_or-set_other xs i k (get_or ys i d) d n)
    ]) in
    ap (λ zs. sum_by f zs + f (get_or xs i d)) is ∙ sum_by-set f xs i (get_or ys i d) d l

-- the place that a word points to
unfoldable pub points : Word → ℕ → Type 0
points (word.Small n) k = ⊥
points (word.Big n) k = n ≡ k
points (word.Sym s) k = ⊥
points (word.Str n) k = n ≡ k
points (word.Cons n) k = n ≡ k

standing_same : (p q : Held) (n : ℕ) → get_or q.places n None ≡ get_or p.places n None → standing q n ≡ standing p n
standing_same p q n e = ap (λ o. unwrap_or o nothing) e

stands_same : (p q : Held) (n : ℕ) (Is : Object ℕ → Type 0) → get_or q.places n None ≡ get_or p.places n None → Stands p n × Is (standing p n) → Stands q n × Is (standing q n)
stands_same p q n Is e s = (e ∙ (s.0 ∙ ap Some (sym (standing_same p q n e))), subst Is (sym (standing_same p q n e)) s.1)

pub word_same : (p q : Held) (w : Word) → ((k : ℕ) → points w k → get_or q.places k None ≡ get_or p.places k None) → IsStanding p w → IsStanding q w × (object_of_word q w ≡ object_of_word p w) × (cells_in q w ≡ cells_in p w)
unfolding points
word_same p q (word.Small n) e s = (tt, refl, refl)
word_same p q (word.Big n) e s = (stands_same p q n IsInteger (e n refl) s, standing_same p q n (e n refl), ap cells (standing_same p q n (e n refl)))
word_same p q (word.Sym n) e s = (tt, refl, refl)
word_same p q (word.Str n) e s = (stands_same p q n IsText (e n refl) s, standing_same p q n (e n refl), ap cells (standing_same p q n (e n refl)))
word_same p q (word.Cons n) e s = (stands_same p q n IsPair (e n refl) s, standing_same p q n (e n refl), ap cells (standing_same p q n (e n refl)))

pub stays_by : (p q : Held) (r : Root) → IsLive p r → ((k : ℕ) → points r.word k → get_or q.places k None ≡ get_or p.places k None) → Stays p q r
stays_by p q r live e =
    let w = word_same p q r.word e live.stands in
    record { live = record { stands = w.0; takes = live.takes ∙ sym w.2 }; same = w.1 }

-- the word of a root, by its object and its place
abbrev pub word_for : Object ℕ → ℕ → Word
word_for (Integer n) i = word.Big i
word_for (Symbol s) i = word.Small (pos 0)
word_for (Text bytes) i = word.Str i
word_for (Pair a d) i = word.Cons i

big_for : (o : Object ℕ) (i : ℕ) → IsInteger o → word.Big i ≡ word_for o i
big_for (Integer n) i u = refl
big_for (Symbol s) i u = absurd u
big_for (Text bytes) i u = absurd u
big_for (Pair a d) i u = absurd u

str_for : (o : Object ℕ) (i : ℕ) → IsText o → word.Str i ≡ word_for o i
str_for (Integer n) i u = absurd u
str_for (Symbol s) i u = absurd u
str_for (Text bytes) i u = refl
str_for (Pair a d) i u = absurd u

cons_for : (o : Object ℕ) (i : ℕ) → IsPair o → word.Cons i ≡ word_for o i
cons_for (Integer n) i u = absurd u
cons_for (Symbol s) i u = absurd u
cons_for (Text bytes) i u = absurd u
cons_for (Pair a d) i u = refl

-- a standing word that points to a place
pub record PointsAt (p : Held) (w : Word) (i : ℕ) : Type 0 where
  pub word : w ≡ word_for (standing p i) i
  pub stands : Stands p i
  pub takes : cells_in p w ≡ cells (standing p i)
  pub target : target (part_of w).kind (part_of w).bits ≡ Some i

pub points_at : (p : Held) (w : Word) (i : ℕ) → IsStanding p w → points w i → PointsAt p w i
unfolding points
points_at p (word.Small n) i s e = absurd e
points_at p (word.Big n) i s e = subst (λ k. PointsAt p (word.Big n) k) e (record { word = big_for (standing p n) n s.1; stands = s.0; takes = refl; target = refl })
points_at p (word.Sym n) i s e = absurd e
points_at p (word.Str n) i s e = subst (λ k. PointsAt p (word.Str n) k) e (record { word = str_for (standing p n) n s.1; stands = s.0; takes = refl; target = refl })
points_at p (word.Cons n) i s e = subst (λ k. PointsAt p (word.Cons n) k) e (record { word = cons_for (standing p n) n s.1; stands = s.0; takes = refl; target = refl })

-- a standing word of one cell or more points to a place
pub points_some : (p : Held) (w : Word) → 0 < cells_in p w → (i : ℕ) × points w i
unfolding points
points_some p (word.Small n) l = absurd (omega arith)
points_some p (word.Big n) l = (n, refl)
points_some p (word.Sym n) l = absurd (omega arith)
points_some p (word.Str n) l = (n, refl)
points_some p (word.Cons n) l = (n, refl)

-- two live roots at one place are the same
pub same_root : (p : Held) (q r : Root) (i : ℕ) → IsLive p q → IsLive p r → points q.word i → points r.word i → q ≡ r
same_root p q r i live other a b =
    let e = (points_at p q.word i live.stands a).word ∙ sym (points_at p r.word i other.stands b).word in
    let n : q.cells ≡ r.cells = live.takes ∙ (ap (cells_in p) e ∙ sym other.takes) in
    ap₂ (λ (w : Word) (k : ℕ). let x : Root = record { word = w; cells = k } in x) e n
