-- Marks changed at one cell, and what a part shows.
use Rattle.std.specs.Prelude.{◌≡◌, ◌≢◌, ℕ, ◌<◌, List, [], ◌∷◌, length, Bool, true, false, Option, Some, None, ◌⊎◌, nat_eq, if◌then◌else◌}
use Rattle.std.proofs.Common.{set, refl, sym, ap, ap₂, subst, arith, inl, inr, get_or-set_same, get_or-set_other}
use Rattle.std.proofs.lemmas.Bool.Decides.{nat_tests}
use Rattle.acl_heap.specs.Objects.{Objects}
use Rattle.acl_pool.specs.declared.cell.Kind.{Kind}
use Rattle.acl_pool.specs.declared.cell.Kind.TheVariants.{Small, Sym, Bits, Big, Str, Cons, Heap}
use Rattle.acl_pool.specs.declared.cell.Cell.{Cell}
use Rattle.acl_pool.specs.Trees.{Tree, Node}
use Rattle.acl_pool.specs.Cells.{Halves, Owner, Under, tree_with, target, target_at, both, halves, halves_with, cell_at, blank, In, IsChain}

pub nat_or : (j k : ℕ) → (j ≡ k) ⊎ (j ≢ k)
nat_or j k = grind arith

-- something else at one number
pub with_at : {A : Type 0} → ℕ → A → (ℕ → A) → ℕ → A
with_at i t f j = if nat_eq j i then t else f j

pub with_same : {A : Type 0} (i : ℕ) (t : A) (f : ℕ → A) → with_at i t f i ≡ t
unfolding with_at
with_same i t f = grind (arith, nat_tests)

pub with_other : {A : Type 0} (i : ℕ) (t : A) (f : ℕ → A) (j : ℕ) → j ≢ i → with_at i t f j ≡ f j
unfolding with_at
with_other i t f j n = grind (arith, nat_tests)

pub tree_same : (shown later : ℕ → Halves) (k : Kind) (n : ℕ) → ((m : ℕ) → target k n ≡ Some m → later m ≡ shown m) → tree_with later k n ≡ tree_with shown k n
tree_same shown later Small n f = refl
tree_same shown later Sym n f = refl
tree_same shown later Bits n f = refl
tree_same shown later Big n f = ap (λ (t : Halves). Node Big t.0 t.1) (f n refl)
tree_same shown later Str n f = ap (λ (t : Halves). Node Str t.0 t.1) (f n refl)
tree_same shown later Cons n f = ap (λ (t : Halves). Node Cons t.0 t.1) (f n refl)
tree_same shown later Heap n f = refl

pub both_same : (shown later : ℕ → Halves) (c : Cell) → ((s : Bool) (m : ℕ) → target_at s c ≡ Some m → later m ≡ shown m) → both later c ≡ both shown c
both_same shown later c f =
    ap₂ (λ (a : Tree) (b : Tree). let t : Halves = (a, b) in t) (tree_same shown later c.left_kind c.left (f true)) (tree_same shown later c.right_kind c.right (f false))

pub halves_with_same : (h : Objects) (shown later : ℕ → Halves) (c : Cell) (k : Kind) → both later c ≡ both shown c → halves_with h later k c ≡ halves_with h shown k c
halves_with_same h shown later c Small e = e
halves_with_same h shown later c Sym e = e
halves_with_same h shown later c Bits e = e
halves_with_same h shown later c Big e = e
halves_with_same h shown later c Str e = e
halves_with_same h shown later c Cons e = e
halves_with_same h shown later c Heap e = refl

pub halves_same : (h : Objects) (shown later : ℕ → Halves) (c : Cell) → ((s : Bool) (m : ℕ) → target_at s c ≡ Some m → later m ≡ shown m) → halves h later c ≡ halves h shown c
halves_same h shown later c f = halves_with_same h shown later c c.left_kind (both_same shown later c f)

-- cells that no copy waits for show the same in every heap
pub calm_halves : (g h : Objects) (shown : ℕ → Halves) (c : Cell) (k : Kind) → k ≢ Heap → halves_with g shown k c ≡ halves_with h shown k c
calm_halves g h shown c Small n = refl
calm_halves g h shown c Sym n = refl
calm_halves g h shown c Bits n = refl
calm_halves g h shown c Big n = refl
calm_halves g h shown c Str n = refl
calm_halves g h shown c Cons n = refl
calm_halves g h shown c Heap n = absurd (n refl)

pub cell_same : (cs : List Cell) (i : ℕ) (c : Cell) → i < length cs → cell_at (set cs i c) i ≡ c
cell_same cs i c l = get_or-set_same cs i c blank l

pub cell_other : (cs : List Cell) (i : ℕ) (c : Cell) (j : ℕ) → j ≢ i → cell_at (set cs i c) j ≡ cell_at cs j
cell_other cs i c j n = get_or-set_other cs i j c blank n

pub chain_set : (cs : List Cell) (i : ℕ) (c : Cell) (first : ℕ) (ns : List ℕ) → (In i ns → ⊥) → IsChain cs first ns → IsChain (set cs i c) first ns
chain_set cs i c first [] out ch = tt
chain_set cs i c first (n ∷ ns) out ch =
    let apart : n ≢ i = λ e. out (inl (sym e)) in (
      ch.0,
      ch.1,
      subst (λ (d : Cell). IsChain (set cs i c) d.link ns) (sym (cell_other cs i c n apart)) (chain_set cs i c (cell_at cs n).link ns (λ k. out (inr k)) ch.2),
    )

pub some_or : (o : Option ℕ) (n : ℕ) → (o ≡ Some n) ⊎ (o ≡ Some n → ⊥)
some_or None n = inr (λ e. cc)
some_or (Some k) n = elim (nat_or k n) as (λ b. (Some k ≡ Some n) ⊎ (Some k ≡ Some n → ⊥)) [ inl e ↦ inl (ap Some e) | inr e ↦ inr (λ f. e (cc)) ]

-- the owners once a cell is written
pub owner_after : Cell → ℕ → (ℕ → Owner) → ℕ → Owner
owner_after c i owner n = elim (some_or (target_at true c) n) as (λ b. Owner) [ inl e ↦ Under i true | inr e ↦ elim (some_or (target_at false c) n) as (λ b. Owner) [ inl f ↦ Under i false | inr f ↦ owner n ] ]

pub owner_left : (c : Cell) (i : ℕ) (owner : ℕ → Owner) (n : ℕ) → target_at true c ≡ Some n → owner_after c i owner n ≡ Under i true
unfolding owner_after
owner_left c i owner n e =
    elim (some_or (target_at true c) n) as (λ b. (elim b as (λ b. Owner) [ inl e ↦ Under i true | inr e ↦ elim (some_or (target_at false c) n) as (λ b. Owner) [ inl f ↦ Under i false | inr f ↦ owner n ] ]) ≡ Under i true)
    [ inl f ↦ refl | inr f ↦ absurd (f e) ]

pub owner_right : (c : Cell) (i : ℕ) (owner : ℕ → Owner) (n : ℕ) → (target_at true c ≡ Some n → ⊥) → target_at false c ≡ Some n → owner_after c i owner n ≡ Under i false
unfolding owner_after
owner_right c i owner n out e =
    elim (some_or (target_at true c) n) as (λ b. (elim b as (λ b. Owner) [ inl e ↦ Under i true | inr e ↦ elim (some_or (target_at false c) n) as (λ b. Owner) [ inl f ↦ Under i false | inr f ↦ owner n ] ]) ≡ Under i false)
    [ inl f ↦ absurd (out f) | inr f ↦ elim (some_or (target_at false c) n) as (λ b. (elim b as (λ b. Owner) [ inl f ↦ Under i false | inr f ↦ owner n ]) ≡ Under i false) [ inl g ↦ refl | inr g ↦ absurd (g e) ] ]

pub owner_kept : (c : Cell) (i : ℕ) (owner : ℕ → Owner) (n : ℕ) → ((s : Bool) → target_at s c ≡ Some n → ⊥) → owner_after c i owner n ≡ owner n
unfolding owner_after
owner_kept c i owner n out =
    elim (some_or (target_at true c) n) as (λ b. (elim b as (λ b. Owner) [ inl e ↦ Under i true | inr e ↦ elim (some_or (target_at false c) n) as (λ b. Owner) [ inl f ↦ Under i false | inr f ↦ owner n ] ]) ≡ owner n)
    [ inl f ↦ absurd (out true f) | inr f ↦ elim (some_or (target_at false c) n) as (λ b. (elim b as (λ b. Owner) [ inl f ↦ Under i false | inr f ↦ owner n ]) ≡ owner n) [ inl g ↦ absurd (out false g) | inr g ↦ refl ] ]
