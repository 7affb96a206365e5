-- What is said of tables, as laws.
use Rattle.std.specs.Prelude.{◌≡◌, ℕ, ◌*◌, ◌^◌, ◌<◌, ◌≤◌, List, [], ◌∷◌, ◌++◌, length, take, Some, slice_get}
use Rattle.acl_base.specs.declared.TermId.{TermId}
use Rattle.acl_heap.specs.Objects.{Objects, Extends}
use Rattle.acl_code.specs.declared.term.Term.{Term}
use Rattle.model_terms.specs.Cores as cores
use Rattle.acl_terms.specs.Depths.{depth_of}
use Rattle.acl_terms.specs.declared.form.Core.{Core}
use Rattle.acl_terms.specs.Forms.{seen_core, CoreLies}
use Rattle.acl_code.specs.Constants.{TermHas, StandsKnown, TermIsKnown, ConstantsAreKnown}
use Rattle.acl_code.specs.Sizes.{slots_of, longest_of, Fits}
use Rattle.acl_code.specs.Tables.{tree_at, tree_over, forest, IsTable, Grown, TermsLie}

pub record TablesGrow : Type 0 where
  -- as a table grows, a number goes on to stand for its tree
  pub tree : (h : Objects) (old new : List Term) (t : TermId) → Grown old new → t.0 < length old → tree_at h new t ≡ tree_at h old t
  -- a number stands for its term over the trees of the table
  pub over : (h : Objects) (ts : List Term) (term : Term) (t : TermId) → IsTable ts → slice_get ts t.0 ≡ Some term → tree_at h ts t ≡ tree_over h (forest h ts) term

-- as a heap grows in which the words of a table lie, its numbers go on to stand for their trees; a table that is cut lies too
pub record HeapsGrow : Type 0 where
  pub trees : (h h' : Objects) (ts : List Term) → Extends h h' → TermsLie h ts → forest h' ts ≡ forest h ts
  pub words : (h h' : Objects) (ts : List Term) → Extends h h' → TermsLie h ts → TermsLie h' ts
  pub cut : (h : Objects) (n : ℕ) (ts : List Term) → TermsLie h ts → TermsLie h (take n ts)

-- the constants of a table stay known as it grows or is cut, as such a heap grows, and among more symbols
pub record ConstantsStayKnown : Type 0 where
  pub none : (n : ℕ) (h : Objects) → ConstantsAreKnown n h []
  pub put : (n : ℕ) (h : Objects) (ts : List Term) (t : Term) → TermIsKnown n h t → ConstantsAreKnown n h ts → ConstantsAreKnown n h (ts ++ t ∷ [])
  pub cut : (n : ℕ) (h : Objects) (k : ℕ) (ts : List Term) → ConstantsAreKnown n h ts → ConstantsAreKnown n h (take k ts)
  pub heap : (n : ℕ) (h h' : Objects) (ts : List Term) → Extends h h' → TermsLie h ts → ConstantsAreKnown n h ts → ConstantsAreKnown n h' ts
  pub symbols : (m n : ℕ) (h : Objects) (ts : List Term) → m ≤ n → TermsLie h ts → ConstantsAreKnown m h ts → ConstantsAreKnown n h ts
  -- each of them lies in the heap and is known
  pub words : (n : ℕ) (h : Objects) (ts : List Term) → TermsLie h ts → ConstantsAreKnown n h ts → (i : ℕ) (x : Term) → slice_get ts i ≡ Some x → TermHas (StandsKnown n h) x

-- a form with lists of at most 2 ^ 32 names or parts takes at most so many slots a level, so that its term can be made
pub record AreFew : Type 0 where
  pub slots : (f : cores.Core) → longest_of f ≤ 2 ^ 32 → slots_of f ≤ depth_of f * 2 ^ 32
  pub fit : (h : Objects) (at : ℕ) (f : Core) → at ≤ 2 ^ 32 → depth_of (seen_core h f) ≤ 2048 → longest_of (seen_core h f) ≤ 2 ^ 32 → CoreLies h f → Fits h at f
