-- What the terms of a table stand for in a heap.
use Rattle.std.specs.Prelude.{◌≡◌, ℕ, ◌+◌, ◌<◌, ◌≤◌, List, [], ◌∷◌, ◌++◌, max, map, length, take, drop, get_or, Option, Some, None, slice_get, option_map}
use Rattle.std.specs.Option.{option_map_or}
use Rattle.std.specs.List.{AllByRecursion}
use Rattle.acl_base.specs.declared.TermId.{TermId}
use Rattle.acl_heap.specs.Objects.{Objects, object_of, reach}
use Rattle.model_slots.specs.Trees as trees
use Rattle.model_slots.specs.Trees.{Tree}
use Rattle.acl_terms.specs.Forms.{most}
use Rattle.acl_code.specs.declared.term.Operand.{Operand}
use Rattle.acl_code.specs.declared.term.Operand.TheVariants as operand
use Rattle.acl_code.specs.declared.term.Child.{Child}
use Rattle.acl_code.specs.declared.term.Parts.{Parts}
use Rattle.acl_code.specs.declared.term.Term.{Term}
use Rattle.acl_code.specs.declared.term.Term.TheVariants as term

abbrev pub seen_operand : Objects → Operand → trees.Operand
seen_operand h (operand.Slot s) = trees.Slot s
seen_operand h (operand.Const w) = trees.Const (object_of h w)

abbrev pub seen_child : Objects → Child → trees.Child
seen_child h c = record { name = c.name.0; accessor = c.accessor.0; index = option_map (seen_operand h) c.index; parent = seen_operand h c.parent; returns = c.returns }

-- what is read past the end
abbrev pub no_tree : Tree
no_tree = trees.Leaf (trees.Slot 0)

abbrev pub tree_in : List Tree → TermId → Tree
tree_in done t = get_or done t.0 no_tree

abbrev pub trees_in : List Tree → Parts → List Tree
trees_in done p = take p.count (drop p.first.0 done)

-- the tree of a term over those of the terms before it
abbrev pub tree_over : Objects → List Tree → Term → Tree
tree_over h done (term.Slot s) = trees.Leaf (trees.Slot s)
tree_over h done (term.Const w) = trees.Leaf (trees.Const (object_of h w))
tree_over h done (term.Part t) = tree_in done t
tree_over h done (term.If at test then other) = trees.If at (tree_in done test) (tree_in done then) (tree_in done other)
tree_over h done (term.Let at bound body) = trees.Let at (trees.trees (trees_in done bound)) (tree_in done body)
tree_over h done (term.Mv at parts) = trees.Mv at (trees.trees (trees_in done parts))
tree_over h done (term.MvLet at bound body) = trees.MvLet at (tree_in done bound) (tree_in done body)
tree_over h done (term.StobjLet at children producer consumer) = trees.StobjLet at (map (seen_child h) children) (tree_in done producer) (tree_in done consumer)
tree_over h done (term.WithLocal at stobj producer body) = trees.WithLocal at stobj.0 (tree_in done producer) (tree_in done body)
tree_over h done (term.MustBeEqual logic) = trees.MustBeEqual (tree_in done logic)
tree_over h done (term.Call at function actuals) = trees.Call at function.0 (trees.trees (trees_in done actuals))

-- the trees of some terms, the oldest first, after those of earlier terms
abbrev pub trees_after : Objects → List Tree → List Term → List Tree
trees_after h done [] = done
trees_after h done (t ∷ ts) = trees_after h (done ++ tree_over h done t ∷ []) ts

-- the trees of all terms of a table, in order
unfoldable pub forest : Objects → List Term → List Tree
forest h ts = trees_after h [] ts

-- the tree that a number of the table stands for
abbrev pub tree_at : Objects → List Term → TermId → Tree
tree_at h ts t = tree_in (forest h ts) t

-- ---- what holds of every table

abbrev pub EndBelow : ℕ → Parts → Type 0
EndBelow n p = p.first.0 + p.count < n + 1

-- the parts of a term stand below this number
abbrev pub StandsOver : ℕ → Term → Type 0
StandsOver n (term.Slot s) = Unit {0}
StandsOver n (term.Const w) = Unit {0}
StandsOver n (term.Part t) = t.0 < n
StandsOver n (term.If at test then other) = (test.0 < n) × (then.0 < n) × (other.0 < n)
StandsOver n (term.Let at bound body) = EndBelow n bound × (body.0 < n)
StandsOver n (term.Mv at parts) = EndBelow n parts
StandsOver n (term.MvLet at bound body) = (bound.0 < n) × (body.0 < n)
StandsOver n (term.StobjLet at children producer consumer) = (producer.0 < n) × (consumer.0 < n)
StandsOver n (term.WithLocal at stobj producer body) = (producer.0 < n) × (body.0 < n)
StandsOver n (term.MustBeEqual logic) = logic.0 < n
StandsOver n (term.Call at function actuals) = EndBelow n actuals

-- each term stands over its parts
pub record IsTable (ts : List Term) : Type 0 where
  pub over : (i : ℕ) (t : Term) → slice_get ts i ≡ Some t → StandsOver i t

-- ---- words

-- how many cells a heap has at least in which the words of a term lie
abbrev pub operand_reach : Operand → ℕ
operand_reach (operand.Slot s) = 0
operand_reach (operand.Const w) = reach w

abbrev pub child_reach : Child → ℕ
child_reach c = max (option_map_or operand_reach c.index 0) (operand_reach c.parent)

abbrev pub term_reach : Term → ℕ
term_reach (term.Slot s) = 0
term_reach (term.Const w) = reach w
term_reach (term.Part t) = 0
term_reach (term.If at test then other) = 0
term_reach (term.Let at bound body) = 0
term_reach (term.Mv at parts) = 0
term_reach (term.MvLet at bound body) = 0
term_reach (term.StobjLet at children producer consumer) = most (map child_reach children)
term_reach (term.WithLocal at stobj producer body) = 0
term_reach (term.MustBeEqual logic) = 0
term_reach (term.Call at function actuals) = 0

-- the words of a term lie in the heap
abbrev pub TermLies : Objects → Term → Type 0
TermLies h t = term_reach t ≤ length h

-- the words of all terms of a table do
pub record TermsLie (h : Objects) (ts : List Term) : Type 0 where
  pub all : most (map term_reach ts) ≤ length h

-- the words of an index, of a child and of children do, where there are any
abbrev pub IndexLies : Objects → Option Operand → Type 0
IndexLies h index = option_map_or operand_reach index 0 ≤ length h

abbrev pub ChildrenLie : Objects → Option (List Child) → Type 0
ChildrenLie h None = Unit {0}
ChildrenLie h (Some cs) = most (map child_reach cs) ≤ length h

-- ---- growth

-- more terms behind those that were there
pub record Grown (old new : List Term) : Type 0 where
  pub longer : length old ≤ length new
  pub same : take (length old) new ≡ old

-- a number of the table, where there is one
abbrev pub Within : List Term → Option TermId → Type 0
Within ts None = Unit {0}
Within ts (Some t) = t.0 < length ts

-- numbers of the table
abbrev pub AllIn : List Term → List TermId → Type 0
AllIn ts parts = AllByRecursion (λ (t : TermId). t.0 < length ts) parts

-- the same of parts, where there are any
abbrev pub AllWithin : List Term → Option (List TermId) → Type 0
AllWithin ts None = Unit {0}
AllWithin ts (Some parts) = AllIn ts parts

-- what parts stand for, where there are any
abbrev pub seen_parts : Objects → List Term → Option (List TermId) → Option trees.Trees
seen_parts h ts parts = option_map (λ ps. trees.trees (map (tree_at h ts) ps)) parts

-- what a number stands for, where there is one
abbrev pub seen_term : Objects → List Term → Option TermId → Option Tree
seen_term h ts t = option_map (tree_at h ts) t

-- a number of the table that stands for this tree, or no number where there is no tree
pub record IsBuilt (h : Objects) (ts : List Term) (t : Option TermId) (tree : Option Tree) : Type 0 where
  pub within : Within ts t
  pub is : seen_term h ts t ≡ tree

-- numbers of the table that stand for these trees, or none where there are no trees
pub record AreBuilt (h : Objects) (ts : List Term) (parts : Option (List TermId)) (all : Option trees.Trees) : Type 0 where
  pub within : AllWithin ts parts
  pub are : seen_parts h ts parts ≡ all

-- a fact where there is nothing
abbrev pub IfNone : {A : Type 0} → Option A → Type 0 → Type 0
IfNone None fact = fact
IfNone (Some a) fact = Unit {0}
