-- Trees that are copied out.
use Rattle.std.specs.Prelude.{◌≡◌, ℕ, ◌+◌, ◌*◌, ◌/◌, ◌%◌, ◌^◌, ◌<◌, ◌≤◌, List, [], ◌∷◌, ◌++◌, length, take, drop, true, false, Option, Some, None, zero, suc, if◌then◌else◌}
use Rattle.std.specs.Int.{w64, w128, cast_signed, cast_unsigned, to_le_bytes}
use Rattle.std.proofs.Common.{refl, sym, ap, ap₂, subst, ◌∙◌, arith, length-append, append-nil}
use Rattle.std.proofs.lemmas.List.{append_assoc}
use Rattle.model_objects.specs.Object.{Object, Integer, Symbol, Text, Pair, fits_64, weight}
use Rattle.acl_base.specs.declared.Word.{Word}
use Rattle.acl_base.specs.declared.Word.TheVariants as word
use Rattle.acl_heap.specs.Objects.{Objects, object_of, Lies, Denotes, Extends}
use Rattle.acl_pool.specs.declared.cell.Kind.{Kind}
use Rattle.acl_pool.specs.declared.cell.Kind.TheVariants.{Small, Sym, Bits, Big, Str, Cons, Heap}
use Rattle.acl_pool.specs.declared.cell.Part.{Part}
use Rattle.acl_pool.specs.declared.cell.Cell.{Cell}
use Rattle.acl_pool.specs.declared.region.Region.{Region}
use Rattle.acl_pool.specs.declared.unpacking.Task.{Task}
use Rattle.acl_pool.specs.declared.unpacking.Task.TheVariants.{Visit, Join}
use Rattle.acl_pool.specs.Trees.{Tree, Atom, Bare, Node, size, seen, tree_of, word_with, word_of, bytes_of, chain, numbers}
use Rattle.acl_pool.specs.Cells.{Halves, both, tree_with, cell_at, target, Marks, Readable}
use Rattle.acl_pool.specs.Unpacking.{part_tree, part_object, Shows, Lists, HasBytes, AreShown, AreLying, stack, joined, step, finish, task_work, work, Visits, Joins, Unpacks}
use Rattle.acl_pool.proofs.TreeLemmas.{tree_is}
use Rattle.acl_pool.proofs.PlaceLemmas.{shows_both}
use Rattle.acl_pool.proofs.PutLemmas.{bare_none}

tree_small : (r : Region) (p : Part) (m : Marks) → Readable r m → ((x : ℕ) → target p.kind p.bits ≡ Some x → x < r.top) → size (tree_with m.shown p.kind p.bits) ≤ r.top → part_tree r p ≡ tree_with m.shown p.kind p.bits
unfolding part_tree
tree_small r p m s low l = tree_is r.cells r.top m.shown (shows_both s) (λ j t n l e. (s.fits.owned j t n l e).0) (r.top + 1) p.kind p.bits low (omega (arith, l))

pub part_tree_is : {r : Region} {p : Part} (s : Shows r p) → part_tree r p ≡ tree_with s.marks.shown p.kind p.bits
part_tree_is {r} {p} s = tree_small r p s.marks s.reads s.low (omega (arith, ap size s.tree, s.small))

pub object_is : {r : Region} {p : Part} (s : Shows r p) → part_object r p ≡ s.object
object_is s = ap seen (part_tree_is s ∙ s.tree) ∙ s.back

-- a node stands in a cell
pub node_cell : (shown : ℕ → Halves) (k : Kind) (n : ℕ) (a : Kind) (l u : Tree) → tree_with shown k n ≡ Node a l u → (target k n ≡ Some n) × ((shown n).0 ≡ l) × ((shown n).1 ≡ u)
node_cell shown Small n a l u e = cc
node_cell shown Sym n a l u e = cc
node_cell shown Bits n a l u e = cc
node_cell shown Big n a l u e = (refl, cc, cc)
node_cell shown Str n a l u e = (refl, cc, cc)
node_cell shown Cons n a l u e = (refl, cc, cc)
node_cell shown Heap n a l u e = cc

pub bare_bits : (shown : ℕ → Halves) (k : Kind) (n x : ℕ) → tree_with shown k n ≡ Bare x → n ≡ x
bare_bits shown Small n x e = cc
bare_bits shown Sym n x e = cc
bare_bits shown Bits n x e = cc
bare_bits shown Big n x e = cc
bare_bits shown Str n x e = cc
bare_bits shown Cons n x e = cc
bare_bits shown Heap n x e = cc

abbrev pub left_of : Cell → Part
left_of c = record { kind = c.left_kind; bits = c.left }

abbrev pub right_of : Cell → Part
right_of c = record { kind = c.right_kind; bits = c.right }

-- what is known of the cell of a node
pub record Stood (r : Region) (m : Marks) (n : ℕ) (l u : Tree) : Type 0 where
  pub below : n < r.top
  pub left : tree_with m.shown (cell_at r.cells n).left_kind (cell_at r.cells n).left ≡ l
  pub right : tree_with m.shown (cell_at r.cells n).right_kind (cell_at r.cells n).right ≡ u
  pub left_low : (x : ℕ) → target (cell_at r.cells n).left_kind (cell_at r.cells n).left ≡ Some x → x < r.top
  pub right_low : (x : ℕ) → target (cell_at r.cells n).right_kind (cell_at r.cells n).right ≡ Some x → x < r.top

stood : (r : Region) (m : Marks) (k : Kind) (n : ℕ) (a : Kind) (l u : Tree) → Readable r m → ((x : ℕ) → target k n ≡ Some x → x < r.top) → tree_with m.shown k n ≡ Node a l u → Stood r m n l u
stood r m k n a l u s low e =
    let c = node_cell m.shown k n a l u e in
    let below : n < r.top = low n c.0 in
    let b : m.shown n ≡ both m.shown (cell_at r.cells n) = shows_both s n below in
    record {
      below = below;
      left = sym (ap (λ (x : Halves). x.0) b) ∙ c.1;
      right = sym (ap (λ (x : Halves). x.1) b) ∙ c.2;
      left_low = λ x t. (s.fits.owned n true x below t).0;
      right_low = λ x t. (s.fits.owned n false x below t).0;
    }

pub within_of : {r : Region} {m : Marks} {n : ℕ} {l u : Tree} → Readable r m → Stood r m n l u → n < length r.cells
within_of s t = omega (arith, t.below, s.fits.room)

-- a pair
pair_is : (o : Object ℕ) (l u : Tree) → Node Cons l u ≡ tree_of o → (a : Object ℕ) × ((d : Object ℕ) × ((o ≡ Pair a d) × ((l ≡ tree_of a) × (u ≡ tree_of d))))
pair_is (Integer n) l u e = elim (fits_64 n) as (λ b. Node Cons l u ≡ (if b then Atom (word.Small n) else Node Big (Bare (cast_unsigned w128 n % 2 ^ 64)) (Bare (cast_unsigned w128 n / 2 ^ 64))) → (a : Object ℕ) × ((d : Object ℕ) × ((Integer n ≡ Pair a d) × ((l ≡ tree_of a) × (u ≡ tree_of d))))) [ true ↦ (λ e. cc) | false ↦ (λ e. cc) ] e
pair_is (Symbol s) l u e = cc
pair_is (Text bytes) l u e = cc
pair_is (Pair a d) l u e = (a, (d, (refl, (cc, cc))))

pair_left : {x y a d : Object ℕ} → Pair x y ≡ Pair a d → x ≡ a
pair_left e = cc

pair_right : {x y a d : Object ℕ} → Pair x y ≡ Pair a d → y ≡ d
pair_right e = cc

pub record PairParts (r : Region) (p : Part) : Type 0 where
  pub within : p.bits < length r.cells
  pub left : Shows r (left_of (cell_at r.cells p.bits))
  pub right : Shows r (right_of (cell_at r.cells p.bits))
  pub object : part_object r p ≡ Pair (part_object r (left_of (cell_at r.cells p.bits))) (part_object r (right_of (cell_at r.cells p.bits)))
  pub sizes : size (part_tree r p) ≡ 1 + (size (part_tree r (left_of (cell_at r.cells p.bits))) + size (part_tree r (right_of (cell_at r.cells p.bits))))

pub pair_parts : (r : Region) (p : Part) → Shows r p → p.kind ≡ Cons → PairParts r p
pair_parts r p s k =
    let m = s.marks in
    let n = p.bits in
    let node : tree_with m.shown p.kind n ≡ Node Cons (m.shown n).0 (m.shown n).1 = ap (λ (x : Kind). tree_with m.shown x n) k in
    let t = stood r m p.kind n Cons (m.shown n).0 (m.shown n).1 s.reads s.low node in
    let q = pair_is s.object (m.shown n).0 (m.shown n).1 (sym node ∙ s.tree) in
    let whole : size (tree_of s.object) ≡ 1 + (size (tree_of q.0) + size (tree_of q.1.0)) = ap (λ (o : Object ℕ). size (tree_of o)) q.1.1.0 in
    let heavy : weight s.object ≡ 1 + (weight q.0 + weight q.1.0) = ap (λ (o : Object ℕ). weight o) q.1.1.0 in
    let both_back : Pair (seen (tree_of q.0)) (seen (tree_of q.1.0)) ≡ Pair q.0 q.1.0 = subst (λ (o : Object ℕ). seen (tree_of o) ≡ o) q.1.1.0 s.back in
    let l : Shows r (left_of (cell_at r.cells n)) = record { marks = m; reads = s.reads; object = q.0; tree = t.left ∙ q.1.1.1.0; small = omega (arith, whole, s.small); back = pair_left both_back; light = omega (arith, heavy, s.light); low = t.left_low } in
    let u : Shows r (right_of (cell_at r.cells n)) = record { marks = m; reads = s.reads; object = q.1.0; tree = t.right ∙ q.1.1.1.1; small = omega (arith, whole, s.small); back = pair_right both_back; light = omega (arith, heavy, s.light); low = t.right_low } in
    record {
      within = within_of s.reads t;
      left = l;
      right = u;
      object = object_is s ∙ (q.1.1.0 ∙ ap₂ Pair (sym (object_is l)) (sym (object_is u)));
      sizes = omega (arith, whole, ap size (part_tree_is s ∙ s.tree), ap size (part_tree_is l ∙ l.tree), ap size (part_tree_is u ∙ u.tree));
    }

-- a wide integer
wide_is : (o : Object ℕ) (l u : Tree) → Node Big l u ≡ tree_of o → (x : ℕ) × ((y : ℕ) × ((l ≡ Bare x) × (u ≡ Bare y)))
wide_is (Integer n) l u e = elim (fits_64 n) as (λ b. Node Big l u ≡ (if b then Atom (word.Small n) else Node Big (Bare (cast_unsigned w128 n % 2 ^ 64)) (Bare (cast_unsigned w128 n / 2 ^ 64))) → (x : ℕ) × ((y : ℕ) × ((l ≡ Bare x) × (u ≡ Bare y))))
    [ true ↦ (λ e. cc) | false ↦ (λ e. (cast_unsigned w128 n % 2 ^ 64, (cast_unsigned w128 n / 2 ^ 64, (cc, cc)))) ] e
wide_is (Symbol s) l u e = cc
wide_is (Text bytes) l u e = cc
wide_is (Pair a d) l u e = cc

pub wide_value : (r : Region) (p : Part) → Shows r p → p.kind ≡ Big → (p.bits < length r.cells) × (part_object r p ≡ Integer (cast_signed w128 ((cell_at r.cells p.bits).right * 2 ^ 64 + (cell_at r.cells p.bits).left)))
wide_value r p s k =
    let m = s.marks in
    let n = p.bits in
    let node : tree_with m.shown p.kind n ≡ Node Big (m.shown n).0 (m.shown n).1 = ap (λ (x : Kind). tree_with m.shown x n) k in
    let t = stood r m p.kind n Big (m.shown n).0 (m.shown n).1 s.reads s.low node in
    let q = wide_is s.object (m.shown n).0 (m.shown n).1 (sym node ∙ s.tree) in
    let l : (m.shown n).0 ≡ Bare (cell_at r.cells n).left = q.1.1.0 ∙ ap Bare (sym (bare_bits m.shown (cell_at r.cells n).left_kind (cell_at r.cells n).left q.0 (t.left ∙ q.1.1.0))) in
    let u : (m.shown n).1 ≡ Bare (cell_at r.cells n).right = q.1.1.1 ∙ ap Bare (sym (bare_bits m.shown (cell_at r.cells n).right_kind (cell_at r.cells n).right q.1.0 (t.right ∙ q.1.1.1))) in
    (within_of s.reads t, ap seen (part_tree_is s ∙ (node ∙ ap₂ (Node Big) l u)))

-- a string
text_is : (o : Object ℕ) (l u : Tree) → Node Str l u ≡ tree_of o → (bytes : List ℕ) × ((o ≡ Text bytes) × ((l ≡ Bare (length bytes)) × (u ≡ chain (numbers ((length bytes + 7) / 8) bytes))))
text_is (Integer n) l u e = elim (fits_64 n) as (λ b. Node Str l u ≡ (if b then Atom (word.Small n) else Node Big (Bare (cast_unsigned w128 n % 2 ^ 64)) (Bare (cast_unsigned w128 n / 2 ^ 64))) → (bytes : List ℕ) × ((◌≡◌ {A = Object ℕ} (Integer n) (Text bytes)) × ((l ≡ Bare (length bytes)) × (u ≡ chain (numbers ((length bytes + 7) / 8) bytes)))))
    [ true ↦ (λ e. cc) | false ↦ (λ e. cc) ] e
text_is (Symbol s) l u e = cc
text_is (Text bytes) l u e = (bytes, (refl, (cc, cc)))
text_is (Pair a d) l u e = cc

pub length_numbers : (k : ℕ) (bs : List ℕ) → length (numbers k bs) ≡ k
length_numbers zero bs = refl
length_numbers (suc k) bs = omega (arith, length_numbers k (drop 8 bs))

pub size_numbers : (ns : List ℕ) → size (chain ns) ≡ length ns
size_numbers [] = refl
size_numbers (n ∷ ns) = omega (arith, size_numbers ns)

pub record TextParts (r : Region) (p : Part) : Type 0 where
  pub within : p.bits < length r.cells
  pub bytes : HasBytes r (right_of (cell_at r.cells p.bits)) (cell_at r.cells p.bits).left
  pub object : part_object r p ≡ Text (take (cell_at r.cells p.bits).left (bytes_of (part_tree r (right_of (cell_at r.cells p.bits)))))

pub list_tree : {r : Region} {p : Part} {ns : List ℕ} → Lists r p ns → length ns ≤ r.top → part_tree r p ≡ chain ns
list_tree {r} {p} {ns} s l = tree_small r p s.marks s.reads s.low (omega (arith, ap size s.tree, size_numbers ns, l)) ∙ s.tree

pub text_parts : (r : Region) (p : Part) → Shows r p → p.kind ≡ Str → TextParts r p
text_parts r p s k =
    let m = s.marks in
    let n = p.bits in
    let c = cell_at r.cells n in
    let node : tree_with m.shown p.kind n ≡ Node Str (m.shown n).0 (m.shown n).1 = ap (λ (x : Kind). tree_with m.shown x n) k in
    let t = stood r m p.kind n Str (m.shown n).0 (m.shown n).1 s.reads s.low node in
    let q = text_is s.object (m.shown n).0 (m.shown n).1 (sym node ∙ s.tree) in
    let count = (length q.0 + 7) / 8 in
    let len : c.left ≡ length q.0 = bare_bits m.shown c.left_kind c.left (length q.0) (t.left ∙ q.1.1.0) in
    let whole : size (tree_of s.object) ≡ 1 + (0 + size (chain (numbers count q.0))) = ap (λ (o : Object ℕ). size (tree_of o)) q.1.0 in
    let heavy : weight s.object ≡ 1 + length q.0 = ap (λ (o : Object ℕ). weight o) q.1.0 in
    let lists : Lists r (right_of c) (numbers count q.0) = record { marks = m; reads = s.reads; tree = t.right ∙ q.1.1.1; low = t.right_low } in
    let few : length (numbers count q.0) ≤ r.top = omega (arith, whole, s.small, size_numbers (numbers count q.0)) in
    let l : (m.shown n).0 ≡ Bare c.left = q.1.1.0 ∙ ap Bare (sym len) in
    let u : (m.shown n).1 ≡ part_tree r (right_of c) = q.1.1.1 ∙ sym (list_tree lists few) in
    record {
      within = within_of s.reads t;
      bytes = record { numbers = numbers count q.0; lists = lists; count = length_numbers count q.0 ∙ ap (λ x. (x + 7) / 8) (sym len); few = few; short = omega (arith, len, heavy, s.light) };
      object = ap seen (part_tree_is s ∙ (node ∙ ap₂ (Node Str) l u));
    }

pub list_head : (r : Region) (p : Part) (n : ℕ) (ns : List ℕ) → Lists r p (n ∷ ns) → (p.bits < length r.cells) × (((cell_at r.cells p.bits).left ≡ n) × Lists r (right_of (cell_at r.cells p.bits)) ns)
list_head r p n ns s =
    let t = stood r s.marks p.kind p.bits Str (Bare n) (chain ns) s.reads s.low s.tree in
    (within_of s.reads t, (bare_bits s.marks.shown (cell_at r.cells p.bits).left_kind (cell_at r.cells p.bits).left n t.left, record { marks = s.marks; reads = s.reads; tree = t.right; low = t.right_low }))

-- bytes that were read, and those of the cells that are left
pub record Reading (r : Region) (first rest : Part) (done count : ℕ) (bytes : List ℕ) : Type 0 where
  pub numbers : List ℕ
  pub lists : Lists r rest numbers
  pub left : length numbers + done ≡ count
  pub same : bytes ++ bytes_of (chain numbers) ≡ bytes_of (part_tree r first)

pub reading_first : (r : Region) (p : Part) (len : ℕ) → HasBytes r p len → Reading r p p 0 ((len + 7) / 8) []
reading_first r p len s = record { numbers = s.numbers; lists = s.lists; left = omega (arith, s.count); same = ap bytes_of (sym (list_tree s.lists s.few)) }

pub reading_more : {r : Region} {first rest : Part} {done count : ℕ} {bytes : List ℕ} (s : Reading r first rest done count bytes) → done < count → (rest.bits < length r.cells) × Reading r first (right_of (cell_at r.cells rest.bits)) (done + 1) count (bytes ++ to_le_bytes w64 (cell_at r.cells rest.bits).left)
reading_more {r} {first} {rest} {done} {count} {bytes} s l = go s.numbers s.lists s.left s.same
  where
    go : (ns : List ℕ) → Lists r rest ns → length ns + done ≡ count → bytes ++ bytes_of (chain ns) ≡ bytes_of (part_tree r first) → (rest.bits < length r.cells) × Reading r first (right_of (cell_at r.cells rest.bits)) (done + 1) count (bytes ++ to_le_bytes w64 (cell_at r.cells rest.bits).left)
    go [] lists left same = absurd (omega (arith, left, l))
    go (n ∷ ns) lists left same =
        let h = list_head r rest n ns lists in (
          h.0,
          record {
            numbers = ns;
            lists = h.1.1;
            left = omega (arith, left);
            same = ap (λ k. (bytes ++ to_le_bytes w64 k) ++ bytes_of (chain ns)) h.1.0 ∙ (append_assoc bytes (to_le_bytes w64 n) (bytes_of (chain ns)) ∙ same);
          },
        )

pub reading_end : {r : Region} {first rest : Part} {done count : ℕ} {bytes : List ℕ} (s : Reading r first rest done count bytes) → done ≡ count → bytes ≡ bytes_of (part_tree r first)
reading_end {r} {first} {rest} {done} {count} {bytes} s e = go s.numbers s.left s.same
  where
    go : (ns : List ℕ) → length ns + done ≡ count → bytes ++ bytes_of (chain ns) ≡ bytes_of (part_tree r first) → bytes ≡ bytes_of (part_tree r first)
    go [] left same = sym (append-nil bytes) ∙ same
    go (n ∷ ns) left same = absurd (omega (arith, left, e))

-- words that were made
pub stack_push : (h : Objects) (ws : List Word) (w : Word) → stack h (ws ++ w ∷ []) ≡ object_of h w ∷ stack h ws
stack_push h [] w = refl
stack_push h (v ∷ ws) w = ap (λ (os : List (Object ℕ)). os ++ object_of h v ∷ []) (stack_push h ws w)

pub lying_push : (h : Objects) (ws : List Word) (w : Word) → AreLying h ws → Lies h w → AreLying h (ws ++ w ∷ [])
lying_push h [] w l k = (k, tt)
lying_push h (v ∷ ws) w l k = (l.0, lying_push h ws w l.1 k)

pub lying_pop : (h : Objects) (ws : List Word) (w : Word) → AreLying h (ws ++ w ∷ []) → AreLying h ws × Lies h w
lying_pop h [] w l = (tt, l.0)
lying_pop h (v ∷ ws) w l = let q = lying_pop h ws w l.1 in ((l.0, q.0), q.1)

pub lying_grown : (old new : Objects) (ws : List Word) → Extends old new → AreLying old ws → AreLying new ws
lying_grown old new [] g l = tt
lying_grown old new (w ∷ ws) g l = let k = l.0 in (omega (arith, k, g.longer), lying_grown old new ws g l.1)

pub stack_grown : (old new : Objects) (ws : List Word) → Extends old new → AreLying old ws → stack new ws ≡ stack old ws
stack_grown old new [] g l = refl
stack_grown old new (w ∷ ws) g l = ap₂ (λ (os : List (Object ℕ)) (o : Object ℕ). os ++ o ∷ []) (stack_grown old new ws g l.1) (g.same w l.0)

pub length_stack : (h : Objects) (ws : List Word) → length (stack h ws) ≡ length ws
length_stack h [] = refl
length_stack h (w ∷ ws) = omega (arith, length-append (stack h ws) (object_of h w ∷ []), length_stack h ws)

-- tasks
pub finish_push : (r : Region) (ts : List Task) (t : Task) (os : Option (List (Object ℕ))) → finish r (ts ++ t ∷ []) os ≡ finish r ts (step r t os)
finish_push r [] t os = refl
finish_push r (u ∷ ts) t os = ap (step r u) (finish_push r ts t os)

step_none : (r : Region) (t : Task) → step r t None ≡ None
step_none r (Visit p) = refl
step_none r Join = refl

pub finish_none : (r : Region) (ts : List Task) → finish r ts None ≡ None
finish_none r [] = refl
finish_none r (t ∷ ts) = ap (step r t) (finish_none r ts) ∙ step_none r t

pub work_push : (r : Region) (ts : List Task) (t : Task) → work r (ts ++ t ∷ []) ≡ task_work r t + work r ts
work_push r [] t = omega arith
work_push r (u ∷ ts) t = omega (arith, work_push r ts t)

pub shown_push : (r : Region) (ts : List Task) (t : Task) → AreShown r ts → AreShown r (t ∷ []) → AreShown r (ts ++ t ∷ [])
shown_push r [] t l k = k
shown_push r (Visit p ∷ ts) t l k = (l.0, shown_push r ts t l.1 k)
shown_push r (Join ∷ ts) t l k = shown_push r ts t l k

pub shown_pop : (r : Region) (ts : List Task) (t : Task) → AreShown r (ts ++ t ∷ []) → AreShown r ts × AreShown r (t ∷ [])
shown_pop r [] t l = (tt, l)
shown_pop r (Visit p ∷ ts) t l = let q = shown_pop r ts t l.1 in ((l.0, q.0), q.1)
shown_pop r (Join ∷ ts) t l = shown_pop r ts t l

-- parts that are values
pub small_denotes : (h : Objects) (r : Region) (p : Part) → Shows r p → p.kind ≡ Small → Denotes h (word_of p) (part_object r p)
small_denotes h r p s k =
    let z = cast_signed w64 p.bits in
    let w : word.Small z ≡ word_of p = ap (λ (x : Kind). word_with x p.bits) (sym k) in
    let o : part_object r p ≡ Integer z = ap seen (part_tree_is s ∙ ap (λ (x : Kind). tree_with s.marks.shown x p.bits) k) in
    subst (λ (x : Word). Denotes h x (part_object r p)) w (record { lies = omega arith; is = sym o })

pub symbol_denotes : (h : Objects) (r : Region) (p : Part) → Shows r p → p.kind ≡ Sym → Denotes h (word_of p) (part_object r p)
symbol_denotes h r p s k =
    let w : word_with Sym p.bits ≡ word_of p = ap (λ (x : Kind). word_with x p.bits) (sym k) in
    let o : part_object r p ≡ seen (Atom (word_with Sym p.bits)) = ap seen (part_tree_is s ∙ ap (λ (x : Kind). tree_with s.marks.shown x p.bits) k) in
    subst (λ (x : Word). Denotes h x (part_object r p)) w (record { lies = omega arith; is = sym o })

pub no_bits : (r : Region) (p : Part) → Shows r p → p.kind ≡ Bits → ⊥
no_bits r p s k = bare_none s.object p.bits (ap (λ (x : Kind). tree_with s.marks.shown x p.bits) (sym k) ∙ s.tree)

pub no_heap : (r : Region) (p : Part) → Shows r p → p.kind ≡ Heap → ⊥
no_heap r p s k = bare_none s.object p.bits (ap (λ (x : Kind). tree_with s.marks.shown x p.bits) (sym k) ∙ s.tree)

-- a step of each kind
pub visits_pair : (r : Region) (p left right : Part) (h : Objects) (ts later : List Task) (made : List Word) → PairParts r p → left ≡ left_of (cell_at r.cells p.bits) → right ≡ right_of (cell_at r.cells p.bits) → AreLying h made → later ≡ ((ts ++ Join ∷ []) ++ Visit right ∷ []) ++ Visit left ∷ []
    → Visits r p h h ts later made made
visits_pair r p left right h ts later made q el er lies e =
    let l = left_of (cell_at r.cells p.bits) in
    let u = right_of (cell_at r.cells p.bits) in
    let all : later ≡ ((ts ++ Join ∷ []) ++ Visit u ∷ []) ++ Visit l ∷ [] = e ∙ ap₂ (λ (x y : Part). ((ts ++ Join ∷ []) ++ Visit y ∷ []) ++ Visit x ∷ []) el er in
    let a = ts ++ Join ∷ [] in
    let b = a ++ Visit u ∷ [] in
    let s = stack h made in
    record {
      shown = λ k. subst (AreShown r) (sym all) (shown_push r b (Visit l) (shown_push r a (Visit u) (shown_push r ts Join k tt) (q.right, tt)) (q.left, tt));
      lies = lies;
      same = ap (λ (xs : List Task). finish r xs (Some s)) all
          ∙ (finish_push r b (Visit l) (Some s) ∙ (finish_push r a (Visit u) (Some (part_object r l ∷ s)) ∙ (finish_push r ts Join (Some (part_object r u ∷ (part_object r l ∷ s))) ∙ ap (λ (o : Object ℕ). finish r ts (Some (o ∷ s))) (sym q.object))));
      less = omega (arith, ap (work r) all, work_push r b (Visit l), work_push r a (Visit u), work_push r ts Join, q.sizes);
    }

pub visits_leaf : (r : Region) (p : Part) (before behind : Objects) (ts : List Task) (made more : List Word) (w : Word) → Extends before behind → AreLying before made → Denotes behind w (part_object r p) → more ≡ made ++ w ∷ [] → Visits r p before behind ts ts made more
visits_leaf r p before behind ts made more w g lies d e =
    let all : stack behind more ≡ part_object r p ∷ stack before made = ap (stack behind) e ∙ (stack_push behind made w ∙ ap₂ (λ (o : Object ℕ) (os : List (Object ℕ)). o ∷ os) d.is (stack_grown before behind made g lies)) in
    record {
      shown = λ k. k;
      lies = subst (AreLying behind) (sym e) (lying_push behind made w (lying_grown before behind made g lies) d.lies);
      same = ap (λ (os : List (Object ℕ)). finish r ts (Some os)) all;
      less = omega arith;
    }

pub joins_two : (before behind : Objects) (made ms rest more : List Word) (a d w : Word) → Extends before behind → AreLying before made → made ≡ ms ++ d ∷ [] → ms ≡ rest ++ a ∷ [] → Denotes behind w (Pair (object_of before a) (object_of before d)) → more ≡ rest ++ w ∷ [] → Joins before behind made more
joins_two before behind made ms rest more a d w g lies e f n m =
    let l = (lying_pop before rest a (subst (AreLying before) f (lying_pop before ms d (subst (AreLying before) e lies)).0)).0 in
    let two : stack before made ≡ object_of before d ∷ (object_of before a ∷ stack before rest) = ap (stack before) e ∙ (stack_push before ms d ∙ ap (λ (os : List (Object ℕ)). object_of before d ∷ os) (ap (stack before) f ∙ stack_push before rest a)) in
    let one : stack behind more ≡ Pair (object_of before a) (object_of before d) ∷ stack before rest = ap (stack behind) m ∙ (stack_push behind rest w ∙ ap₂ (λ (o : Object ℕ) (os : List (Object ℕ)). o ∷ os) n.is (stack_grown before behind rest g l)) in
    record {
      lies = subst (AreLying behind) (sym m) (lying_push behind rest w (lying_grown before behind rest g l) n.lies);
      same = ap joined two ∙ ap Some (sym one);
    }

pub two_lie : (h : Objects) (made ms rest : List Word) (a d : Word) → AreLying h made → made ≡ ms ++ d ∷ [] → ms ≡ rest ++ a ∷ [] → Lies h a × Lies h d
two_lie h made ms rest a d lies e f =
    let p = lying_pop h ms d (subst (AreLying h) e lies) in
    ((lying_pop h rest a (subst (AreLying h) f p.0)).1, p.1)

-- the loop
pub unpacks_first : (r : Region) (p : Part) (h : Objects) (ts : List Task) (made : List Word) → Shows r p → ts ≡ Visit p ∷ [] → made ≡ [] → Unpacks r h h ts made (part_object r p)
unpacks_first r p h ts made s e f = record {
  grows = record { longer = omega arith; same = λ w l. refl };
  shown = subst (AreShown r) (sym e) (s, tt);
  lies = subst (AreLying h) (sym f) tt;
  whole = ap₂ (λ (xs : List Task) (ws : List Word). finish r xs (Some (stack h ws))) e f;
}

then_grows : {a b c : Objects} → Extends a b → Extends b c → Extends a c
then_grows f g = record { longer = omega (arith, f.longer, g.longer); same = λ w l. g.same w (let k = l in omega (arith, k, f.longer)) ∙ f.same w l }

pub unpacks_visit : (r : Region) (first h later : Objects) (all ts more : List Task) (made words : List Word) (o : Object ℕ) (p : Part) → Unpacks r first h all made o → all ≡ ts ++ Visit p ∷ [] → Extends h later → Visits r p h later ts more made words → Unpacks r first later more words o
unpacks_visit r first h later all ts more made words o p u e g v = record {
  grows = then_grows u.grows g;
  shown = v.shown (shown_pop r ts (Visit p) (subst (AreShown r) e u.shown)).0;
  lies = v.lies;
  whole = v.same ∙ (sym (ap (λ (xs : List Task). finish r xs (Some (stack h made))) e ∙ finish_push r ts (Visit p) (Some (stack h made))) ∙ u.whole);
}

pub visit_shown : (r : Region) (first h : Objects) (all ts : List Task) (made : List Word) (o : Object ℕ) (p : Part) → Unpacks r first h all made o → all ≡ ts ++ Visit p ∷ [] → Shows r p
visit_shown r first h all ts made o p u e = (shown_pop r ts (Visit p) (subst (AreShown r) e u.shown)).1.0

pub visit_less : (r : Region) (p : Part) (h later : Objects) (all ts more : List Task) (made words : List Word) → all ≡ ts ++ Visit p ∷ [] → Visits r p h later ts more made words → work r more < work r all
visit_less r p h later all ts more made words e v = omega (arith, ap (work r) e, work_push r ts (Visit p), v.less)

join_whole : (r : Region) (first h : Objects) (all ts : List Task) (made : List Word) (o : Object ℕ) → Unpacks r first h all made o → all ≡ ts ++ Join ∷ [] → finish r ts (joined (stack h made)) ≡ Some (o ∷ [])
join_whole r first h all ts made o u e = sym (ap (λ (xs : List Task). finish r xs (Some (stack h made))) e ∙ finish_push r ts Join (Some (stack h made))) ∙ u.whole

two_of : (r : Region) (ts : List Task) (os : List (Object ℕ)) (o : Object ℕ) → finish r ts (joined os) ≡ Some (o ∷ []) → 1 < length os
two_of r ts [] o e = let a : None ≡ Some (o ∷ []) = sym (finish_none r ts) ∙ e in cc
two_of r ts (d ∷ []) o e = let a : None ≡ Some (o ∷ []) = sym (finish_none r ts) ∙ e in cc
two_of r ts (d ∷ (a ∷ os)) o e = omega arith

pub join_two : (r : Region) (first h : Objects) (all ts : List Task) (made : List Word) (o : Object ℕ) → Unpacks r first h all made o → all ≡ ts ++ Join ∷ [] → 1 < length made
join_two r first h all ts made o u e = omega (arith, two_of r ts (stack h made) o (join_whole r first h all ts made o u e), length_stack h made)

pub unpacks_join : (r : Region) (first h later : Objects) (all ts : List Task) (made words : List Word) (o : Object ℕ) → Unpacks r first h all made o → all ≡ ts ++ Join ∷ [] → Extends h later → Joins h later made words → Unpacks r first later ts words o
unpacks_join r first h later all ts made words o u e g v = record {
  grows = then_grows u.grows g;
  shown = (shown_pop r ts Join (subst (AreShown r) e u.shown)).0;
  lies = v.lies;
  whole = ap (finish r ts) (sym v.same) ∙ join_whole r first h all ts made o u e;
}

pub join_less : (r : Region) (all ts : List Task) → all ≡ ts ++ Join ∷ [] → work r ts < work r all
join_less r all ts e = omega (arith, ap (work r) e, work_push r ts Join)

some_made : (h : Objects) (made : List Word) (o : Object ℕ) → Some (stack h made) ≡ Some (o ∷ []) → 0 < length made
some_made h made o e = let s : stack h made ≡ o ∷ [] = cc in omega (arith, ap length s, length_stack h made)

pub end_some : (r : Region) (first h : Objects) (all : List Task) (made : List Word) (o : Object ℕ) → Unpacks r first h all made o → all ≡ [] → 0 < length made
end_some r first h all made o u e = some_made h made o (sym (ap (λ (xs : List Task). finish r xs (Some (stack h made))) e) ∙ u.whole)

pub end_denotes : (r : Region) (first h : Objects) (all : List Task) (made rest : List Word) (w : Word) (o : Object ℕ) → Unpacks r first h all made o → all ≡ [] → made ≡ rest ++ w ∷ [] → Denotes h w o
end_denotes r first h all made rest w o u e f =
    let s : Some (stack h made) ≡ Some (o ∷ []) = sym (ap (λ (xs : List Task). finish r xs (Some (stack h made))) e) ∙ u.whole in
    let t : object_of h w ∷ stack h rest ≡ o ∷ [] = sym (ap (stack h) f ∙ stack_push h rest w) ∙ cc in
    record { lies = (lying_pop h rest w (subst (AreLying h) f u.lies)).1; is = cc }
