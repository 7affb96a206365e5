-- The trees that are read from cells are those that the cells show.
use Rattle.std.specs.Prelude.{◌≡◌, ℕ, ◌<◌, List, Bool, true, false, Some, zero, suc}
use Rattle.std.proofs.Common.{sym, ap, ap₂, ◌∙◌, arith}
use Rattle.acl_pool.specs.declared.cell.Kind.{Kind}
use Rattle.acl_pool.specs.declared.cell.Kind.TheVariants.{Small, Sym, Bits, Big, Str, Cons, Heap}
use Rattle.acl_pool.specs.declared.cell.Cell.{Cell}
use Rattle.acl_pool.specs.Trees.{Tree, size}
use Rattle.acl_pool.specs.Cells.{Halves, size_of, tree_with, tree_from, target, target_at, both, cell_at}
use Rattle.acl_pool.proofs.MarkLemmas.{tree_same}

pub size_target : (shown : ℕ → Halves) (k : Kind) (n x : ℕ) → target k n ≡ Some x → size (tree_with shown k n) ≡ size_of (shown x)
size_target shown Small n x e = cc
size_target shown Sym n x e = cc
size_target shown Bits n x e = cc
size_target shown Big n x e = let g : n ≡ x = cc in ap (λ y. size_of (shown y)) g
size_target shown Str n x e = let g : n ≡ x = cc in ap (λ y. size_of (shown y)) g
size_target shown Cons n x e = let g : n ≡ x = cc in ap (λ y. size_of (shown y)) g
size_target shown Heap n x e = cc

-- cells that show their halves, as those below the top of a pool
module _ (cs : List Cell) (top : ℕ) (shown : ℕ → Halves) (shows : (i : ℕ) → i < top → shown i ≡ both shown (cell_at cs i)) (owned : (i : ℕ) (s : Bool) (n : ℕ) → i < top → target_at s (cell_at cs i) ≡ Some n → n < top) where
  pub tree_is : (steps : ℕ) (k : Kind) (n : ℕ) → ((x : ℕ) → target k n ≡ Some x → x < top) → size (tree_with shown k n) < steps → tree_from cs steps k n ≡ tree_with shown k n
  tree_is zero k n low l = absurd (omega arith)
  tree_is (suc steps) k n low l = tree_same shown _ k n (λ x e.
      let here : x < top = low x e in
      let c = cell_at cs x in
      let all : size (tree_with shown k n) ≡ size_of (both shown c) = size_target shown k n x e ∙ ap size_of (shows x here) in
      ap₂ (λ (a : Tree) (b : Tree). let t : Halves = (a, b) in t)
      (tree_is steps c.left_kind c.left (λ y g. owned x true y here g) (omega (arith, all, l)))
      (tree_is steps c.right_kind c.right (λ y g. owned x false y here g) (omega (arith, all, l)))
      ∙ sym (shows x here))
