-- Nodes by their numbers: each has a layout and parts, which are fields of its own, a child, or an array of children.
use Rattle.std.specs.Prelude.{◌≡◌, ◌≢◌, ◌⊎◌, ℕ, zero, suc, List, [], ◌∷◌, length, slice_get, slice_set, Option, Some, None}

pub data Part (O : Type 0) : Type 0 where
  Own : O → Part O
  Child : ℕ → Part O
  Children : List ℕ → Part O

pub record Node (O : Type 0) : Type 0 where
  pub layout : ℕ
  pub parts : List (Part O)

-- a part of a node, both by their numbers
abbrev pub part_at : {O : Type 0} → List (Node O) → ℕ → ℕ → Option (Part O)
part_at [] k f = None
part_at (node ∷ nodes) zero f = slice_get node.parts f
part_at (node ∷ nodes) (suc k) f = part_at nodes k f

-- the number of parts
abbrev pub width : {O : Type 0} → List (Node O) → ℕ → ℕ
width [] k = 0
width (node ∷ nodes) zero = length node.parts
width (node ∷ nodes) (suc k) = width nodes k

-- the number of a node's layout
abbrev pub layout_at : {O : Type 0} → List (Node O) → ℕ → ℕ
layout_at [] k = 0
layout_at (node ∷ nodes) zero = node.layout
layout_at (node ∷ nodes) (suc k) = layout_at nodes k

-- the nodes with another part of a node
abbrev pub with_part : {O : Type 0} → ℕ → ℕ → Part O → List (Node O) → List (Node O)
with_part k f part [] = []
with_part zero f part (node ∷ nodes) = record node { parts = slice_set node.parts f part } ∷ nodes
with_part (suc k) f part (node ∷ nodes) = node ∷ with_part k f part nodes

-- a field of the node's own
abbrev pub IsOwn : {O : Type 0} → Part O → Type 0
IsOwn (Own o) = Unit {0}
IsOwn (Child c) = ⊥
IsOwn (Children cs) = ⊥

-- nodes with one part changed
pub record IsChanged {O : Type 0} (k f : ℕ) (part : Part O) (old new : List (Node O)) : Type 0 where
  pub counted : length new ≡ length old
  pub widths : (j : ℕ) → width new j ≡ width old j
  pub layouts : (j : ℕ) → layout_at new j ≡ layout_at old j
  pub changed : part_at new k f ≡ Some part
  pub others : (j g : ℕ) → (j ≢ k) ⊎ (g ≢ f) → part_at new j g ≡ part_at old j g
