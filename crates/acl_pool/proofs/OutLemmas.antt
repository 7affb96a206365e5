-- The part of a live root.
use Rattle.std.specs.Prelude.{◌≡◌, ℕ, ◌<◌, ◌≤◌, Some, Bool, true, false, if◌then◌else◌, ◌%◌, ◌/◌, ◌^◌}
use Rattle.std.specs.Int.{w128, cast_unsigned}
use Rattle.std.proofs.Common.{refl, sym, ap, subst, ◌∙◌, arith}
use Rattle.model_objects.specs.Object.{Object, Integer, Symbol, Text, Pair, cells, fits_64, weight, max_weight}
use Rattle.acl_base.specs.declared.Word.{Word}
use Rattle.acl_base.specs.declared.Word.TheVariants as word
use Rattle.acl_heap.specs.Objects.{IsInteger, IsText, IsPair, IsCellObject}
use Rattle.acl_pool.specs.declared.cell.Kind.{Kind}
use Rattle.acl_pool.specs.declared.cell.Kind.TheVariants.{Big, Str, Cons}
use Rattle.acl_pool.specs.declared.cell.Part.{Part}
use Rattle.acl_pool.specs.declared.region.Region.{Region}
use Rattle.acl_pool.specs.declared.Root.{Root}
use Rattle.acl_pool.specs.Roots.{Held, Stands, standing, object_of_word, object_at, IsStanding, IsLive}
use Rattle.acl_pool.specs.Trees.{Tree, Atom, Bare, Node, IsFitting, size, seen, tree_of, part_of, word_of}
use Rattle.acl_pool.specs.Cells.{Halves, held_of, tree_with, target, kind_of_role, IsSound, cell_at}
use Rattle.acl_pool.specs.Unpacking.{Shows, part_object}
use Rattle.acl_pool.proofs.PlaceLemmas.{size_tree, place_in, stands_root, rooted_is}
use Rattle.acl_pool.proofs.UnpackLemmas.{object_is}
use Rattle.acl_pool.proofs.BackLemmas.{enough}

light_cell : (o : Object ℕ) → IsCellObject o → weight o ≤ max_weight
light_cell (Integer n) c = omega arith
light_cell (Symbol s) c = absurd c
light_cell (Text bytes) c = omega (arith, c)
light_cell (Pair a d) c = c

kind_integer : (o : Object ℕ) (k : Kind) (l u : Tree) → IsInteger o → Node k l u ≡ tree_of o → k ≡ Big
kind_integer (Integer n) k l u i e = elim (fits_64 n) as (λ b. Node k l u ≡ (if b then Atom (word.Small n) else Node Big (Bare (cast_unsigned w128 n % 2 ^ 64)) (Bare (cast_unsigned w128 n / 2 ^ 64))) → k ≡ Big) [ true ↦ (λ e. cc) | false ↦ (λ e. cc) ] e
kind_integer (Symbol s) k l u i e = absurd i
kind_integer (Text bytes) k l u i e = absurd i
kind_integer (Pair a d) k l u i e = absurd i

kind_text : (o : Object ℕ) (k : Kind) (l u : Tree) → IsText o → Node k l u ≡ tree_of o → k ≡ Str
kind_text (Integer n) k l u i e = absurd i
kind_text (Symbol s) k l u i e = absurd i
kind_text (Text bytes) k l u i e = cc
kind_text (Pair a d) k l u i e = absurd i

kind_pair : (o : Object ℕ) (k : Kind) (l u : Tree) → IsPair o → Node k l u ≡ tree_of o → k ≡ Cons
kind_pair (Integer n) k l u i e = absurd i
kind_pair (Symbol s) k l u i e = absurd i
kind_pair (Text bytes) k l u i e = absurd i
kind_pair (Pair a d) k l u i e = cc

-- the part has the object's tree, and is seen as the object
pub record ShowsAs (r : Region) (p : Part) (o : Object ℕ) : Type 0 where
  pub shows : Shows r p
  pub same : part_object r p ≡ o

module _ (r : Region) (count : ℕ) (s : IsSound r count) where
  abbrev p : Held
  p = held_of r

  -- a root that stands at a place
  stands_shown : (n : ℕ) (k : Kind) → Stands p n → ((j : Kind) (l u : Tree) → Node j l u ≡ tree_of (standing p n) → j ≡ k) → ((x : ℕ) → target k n ≡ Some x → n ≡ x) → ((shown : ℕ → Halves) → tree_with shown k n ≡ Node k (shown n).0 (shown n).1) → ShowsAs r (record { kind = k; bits = n }) (standing p n)
  stands_shown n k here kind at node =
      let m = s.0 in
      let o = standing p n in
      let root = stands_root s.1.reads n o here in
      let is = rooted_is (cell_at r.cells n).role (m.shown n) o root.1 in
      let cell = s.1.reads.roots n root.0 is.0 in
      let place = place_in s.1.reads n o here in
      let j = kind_of_role (cell_at r.cells n).role in
      let tree : Node j (m.shown n).0 (m.shown n).1 ≡ tree_of o = cell.tree ∙ ap tree_of (sym is.1) in
      let same : j ≡ k = kind j (m.shown n).0 (m.shown n).1 tree in
      let most = enough s.1 n (cells o) o here refl in
      let shows : Shows r (record { kind = k; bits = n }) = record {
        marks = m;
        reads = s.1.reads;
        object = o;
        tree = node m.shown ∙ (ap (λ (x : Kind). Node x (m.shown n).0 (m.shown n).1) (sym same) ∙ tree);
        small = omega (arith, size_tree o, most, s.1.counts);
        back = ap seen (sym tree) ∙ sym is.1;
        light = light_cell o place.3;
        low = λ x t. subst (λ y. y < r.top) (at x t) root.0;
      } in
      record { shows = shows; same = object_is shows }

  value_shown : (q : Part) (o : Object ℕ) (w : Word) → ((shown : ℕ → Halves) → tree_with shown q.kind q.bits ≡ Atom w) → Atom w ≡ tree_of o → seen (Atom w) ≡ o → weight o ≡ 1 → ((x : ℕ) → target q.kind q.bits ≡ Some x → x < r.top) → ShowsAs r q o
  value_shown q o w tree is same light low =
      let shows : Shows r q = record {
        marks = s.0;
        reads = s.1.reads;
        object = o;
        tree = tree s.0.shown ∙ is;
        small = omega (arith, ap size is);
        back = ap seen (sym is) ∙ same;
        light = omega (arith, light);
        low = low;
      } in
      record { shows = shows; same = object_is shows }

  word_shown : (w : Word) → IsStanding p w → word_of (part_of w) ≡ w → IsFitting w → ShowsAs r (part_of w) (object_of_word p w)
  word_shown (word.Small n) live back fits =
      value_shown (part_of (word.Small n)) (Integer n) (word.Small n) (λ shown. ap Atom back) (sym (ap (λ (b : Bool). if b then Atom (word.Small n) else Node Big (Bare (cast_unsigned w128 n % 2 ^ 64)) (Bare (cast_unsigned w128 n / 2 ^ 64))) fits.0)) refl refl (λ x t. cc)
  word_shown (word.Sym n) live back fits = value_shown (part_of (word.Sym n)) (Symbol n.0) (word.Sym n) (λ shown. ap Atom back) refl refl refl (λ x t. cc)
  word_shown (word.Big n) live back fits = stands_shown n Big live.0 (λ j l u e. kind_integer (standing p n) j l u live.1 e) (λ x t. cc) (λ shown. refl)
  word_shown (word.Str n) live back fits = stands_shown n Str live.0 (λ j l u e. kind_text (standing p n) j l u live.1 e) (λ x t. cc) (λ shown. refl)
  word_shown (word.Cons n) live back fits = stands_shown n Cons live.0 (λ j l u e. kind_pair (standing p n) j l u live.1 e) (λ x t. cc) (λ shown. refl)

pub root_shown : (r : Region) (count : ℕ) (q : Root) (part : Part) (h : Held) → IsSound r count → held_of r ≡ h → IsLive h q → part ≡ part_of q.word → word_of part ≡ q.word → IsFitting q.word → ShowsAs r part (object_at h q)
root_shown r count q part h s v live e back fits =
    let standing : IsStanding (held_of r) q.word = subst (λ (x : Held). IsStanding x q.word) (sym v) live.stands in
    let is : word_of (part_of q.word) ≡ q.word = ap word_of (sym e) ∙ back in
    subst (λ (x : Held). ShowsAs r part (object_at x q)) v (subst (λ (x : Part). ShowsAs r x (object_of_word (held_of r) q.word)) (sym e) (word_shown r count s q.word standing is fits))
