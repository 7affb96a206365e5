-- Cells that are taken: the tree that was given back last is broken up, or the first cell that was never taken is used.
use Rattle.std.specs.Prelude.{◌≡◌, ◌≢◌, ℕ, ◌+◌, ◌<◌, List, [], ◌∷◌, length, Bool, true, false, Some, ◌⊎◌}
use Rattle.std.specs.List.{sum_by}
use Rattle.std.proofs.Common.{set, refl, sym, ap, ap₂, subst, ◌∙◌, arith, inl, inr, length-set}
use Rattle.std.proofs.lemmas.List.Sums.{sum_by-cons}
use Rattle.acl_heap.specs.Objects.{Objects}
use Rattle.acl_pool.specs.declared.cell.Kind.{Kind}
use Rattle.acl_pool.specs.declared.cell.Kind.TheVariants.{Small, Sym, Bits, Big, Str, Cons, Heap}
use Rattle.acl_pool.specs.declared.cell.Role.TheVariants as role
use Rattle.acl_pool.specs.declared.cell.Cell.{Cell}
use Rattle.acl_pool.specs.declared.region.Region.{Region}
use Rattle.acl_pool.specs.Trees.{size}
use Rattle.acl_pool.specs.Cells.{size_of, tree_with, cell_at, Alone, Under, Listed, Marks, Fits, target, target_at, In}
use Rattle.acl_pool.specs.Steps.{give_with, give_at}
use Rattle.acl_pool.proofs.MarkLemmas.{nat_or, with_at, with_same, with_other, cell_same, cell_other}
use Rattle.acl_pool.proofs.GivenLemmas.{relinked, marks_given, marks_orphaned, given_back, orphaned}

bool_or : (b : Bool) → (b ≡ true) ⊎ (b ≡ false)
bool_or true = inl refl
bool_or false = inr refl

pub stale : {h : Objects} {cs : List Cell} {top first : ℕ} {m : Marks} (f : Fits h cs top first m) (i : ℕ) → m.owner i ≡ Listed → m.fresh i ≡ false
stale {h} {cs} {top} {first} {m} f i listed = elim (bool_or (m.fresh i)) as (λ b. m.fresh i ≡ false) [ inl e ↦ absurd ((f.fresh_owned i e).0 listed) | inr e ↦ e ]

pub stale_child : {h : Objects} {cs : List Cell} {top first : ℕ} {m : Marks} (f : Fits h cs top first m) (i x : ℕ) (s : Bool) → m.owner i ≡ Listed → m.owner x ≡ Under i s → m.fresh x ≡ false
stale_child {h} {cs} {top} {first} {m} f i x s listed under = elim (bool_or (m.fresh x)) as (λ b. m.fresh x ≡ false)
    [ inl e ↦ (let g : true ≡ false = sym ((f.fresh_owned x e).1 i s under) ∙ stale f i listed in cc) | inr e ↦ e ]

-- a part's tree is put into the list
abbrev pub marks_give : Kind → ℕ → Marks → Marks
marks_give Small n m = m
marks_give Sym n m = m
marks_give Bits n m = m
marks_give Big n m = marks_given (marks_orphaned m n) n
marks_give Str n m = marks_given (marks_orphaned m n) n
marks_give Cons n m = marks_given (marks_orphaned m n) n
marks_give Heap n m = m

-- a tree that has lost its owner
pub record IsOrphan (r : Region) (m : Marks) (i : ℕ) (s : Bool) (x : ℕ) : Type 0 where
  pub below : x < r.top
  pub under : m.owner x ≡ Under i s
  pub lost : target_at s (cell_at r.cells i) ≡ Some x → ⊥
  pub fresh : m.fresh x ≡ false

child_at : {h : Objects} {r : Region} {m : Marks} (f : Fits h r.cells r.top r.given m) (i x : ℕ) (s : Bool) → IsOrphan r m i s x → Fits h (give_at r x).cells r.top x (marks_given (marks_orphaned m x) x)
child_at {h} {r} {m} f i x s o = given_back (orphaned f x i s o.under o.lost) x o.below (with_same x Alone m.owner) o.fresh

pub child_fits : {h : Objects} {r : Region} {m : Marks} (f : Fits h r.cells r.top r.given m) (i : ℕ) (s : Bool) (k : Kind) (n : ℕ) → ((x : ℕ) → target k n ≡ Some x → IsOrphan r m i s x)
    → Fits h (give_with r k n).cells (give_with r k n).top (give_with r k n).given (marks_give k n m)
child_fits f i s Small n o = f
child_fits f i s Sym n o = f
child_fits f i s Bits n o = f
child_fits f i s Big n o = child_at f i n s (o n refl)
child_fits f i s Str n o = child_at f i n s (o n refl)
child_fits f i s Cons n o = child_at f i n s (o n refl)
child_fits f i s Heap n o = f

-- what giving a part's tree leaves
pub record Leaves (r later : Region) (m after : Marks) (j : ℕ) : Type 0 where
  pub cell : cell_at later.cells j ≡ cell_at r.cells j
  pub owner : after.owner j ≡ m.owner j

leaves_all : (r : Region) (m : Marks) (j : ℕ) → Leaves r r m m j
leaves_all r m j = record { cell = refl; owner = refl }

leaves_at : (r : Region) (m : Marks) (x j : ℕ) → (Some x ≡ Some j → ⊥) → Leaves r (give_at r x) m (marks_given (marks_orphaned m x) x) j
leaves_at r m x j out =
    let n : j ≢ x = λ e. out (ap Some (sym e)) in
    record { cell = cell_other r.cells x (relinked (cell_at r.cells x) r.given role.Inside) j n; owner = with_other x Listed (with_at x Alone m.owner) j n ∙ with_other x Alone m.owner j n }

pub leaves : (r : Region) (m : Marks) (k : Kind) (n j : ℕ) → (target k n ≡ Some j → ⊥) → Leaves r (give_with r k n) m (marks_give k n m) j
leaves r m Small n j out = leaves_all r m j
leaves r m Sym n j out = leaves_all r m j
leaves r m Bits n j out = leaves_all r m j
leaves r m Big n j out = leaves_at r m n j out
leaves r m Str n j out = leaves_at r m n j out
leaves r m Cons n j out = leaves_at r m n j out
leaves r m Heap n j out = leaves_all r m j

-- what it never changes
pub record Steady (r later : Region) (m after : Marks) : Type 0 where
  pub top : later.top ≡ r.top
  pub spare : later.spare ≡ r.spare
  pub same_length : length later.cells ≡ length r.cells
  pub shown : (j : ℕ) → after.shown j ≡ m.shown j
  pub fresh : (j : ℕ) → after.fresh j ≡ m.fresh j
  pub roots : (j : ℕ) → (cell_at later.cells j).role ≢ role.Inside → (cell_at r.cells j).role ≢ role.Inside

steady_all : (r : Region) (m : Marks) → Steady r r m m
steady_all r m = record { top = refl; spare = refl; same_length = refl; shown = λ j. refl; fresh = λ j. refl; roots = λ j e. e }

steady_at : (r : Region) (m : Marks) (x : ℕ) → x < length r.cells → Steady r (give_at r x) m (marks_given (marks_orphaned m x) x)
steady_at r m x l =
    let c = relinked (cell_at r.cells x) r.given role.Inside in
    record {
      top = refl;
      spare = refl;
      same_length = length-set r.cells x c;
      shown = λ j. refl;
      fresh = λ j. refl;
      roots = λ j e. elim (nat_or j x) as (λ b. (cell_at r.cells j).role ≢ role.Inside) [
        | inl g ↦ absurd (e (subst (λ k. (cell_at (set r.cells x c) k).role ≡ role.Inside) (sym g) (ap (λ (d : Cell). d.role) (cell_same r.cells x c l))))
        | inr g ↦ (λ k. e (ap (λ (d : Cell). d.role) (cell_other r.cells x c j g) ∙ k))
      ];
    }

pub steady : (r : Region) (m : Marks) (k : Kind) (n : ℕ) → ((x : ℕ) → target k n ≡ Some x → x < length r.cells) → Steady r (give_with r k n) m (marks_give k n m)
steady r m Small n l = steady_all r m
steady r m Sym n l = steady_all r m
steady r m Bits n l = steady_all r m
steady r m Big n l = steady_at r m n (l n refl)
steady r m Str n l = steady_at r m n (l n refl)
steady r m Cons n l = steady_at r m n (l n refl)
steady r m Heap n l = steady_all r m

pub size_given : (m : Marks) (k : Kind) (n : ℕ) → sum_by (λ x. size_of ((marks_give k n m).shown x)) (marks_give k n m).given ≡ size (tree_with m.shown k n) + sum_by (λ x. size_of (m.shown x)) m.given
size_given m Small n = omega arith
size_given m Sym n = omega arith
size_given m Bits n = omega arith
size_given m Big n = sum_by-cons (λ x. size_of (m.shown x)) n m.given
size_given m Str n = sum_by-cons (λ x. size_of (m.shown x)) n m.given
size_given m Cons n = sum_by-cons (λ x. size_of (m.shown x)) n m.given
size_given m Heap n = omega arith

pub sum_same : (f g : ℕ → ℕ) (ns : List ℕ) → ((k : ℕ) → In k ns → f k ≡ g k) → sum_by f ns ≡ sum_by g ns
sum_same f g [] e = refl
sum_same f g (n ∷ ns) e = sum_by-cons f n ns ∙ (ap₂ (λ a b. a + b) (e n (inl refl)) (sum_same f g ns (λ k b. e k (inr b))) ∙ sym (sum_by-cons g n ns))

-- where there are spare cells, a tree was given back
pub given_some : (f : ℕ → ℕ) (ns : List ℕ) → 0 < sum_by f ns → (i : ℕ) × ((rest : List ℕ) × (ns ≡ i ∷ rest))
given_some f [] l = absurd (omega arith)
given_some f (n ∷ ns) l = (n, (ns, refl))
