-- What bindings stand for in a table of lists.
use Rattle.std.specs.Prelude.{◌≡◌, ◌≢◌, ℕ, ◌≤◌, ◌⊎◌, List, [], ◌∷◌, ◌++◌, length, drop, Option, Some, None, slice_get}
use Rattle.model_lists.specs.Lists.{StobjList}
use Rattle.model_eval.specs.Outcomes.{Stobjs}
use Rattle.model_eval.specs.Variables.{inner_stobjs, handed_back}
use Rattle.acl_base.specs.declared.SymId.{SymId}
use Rattle.acl_heap.specs.Objects.{Objects}
use Rattle.acl_terms.specs.Forms.{numbers}
use Rattle.acl_terms.specs.declared.outcome.Shown.{Shown}
use Rattle.acl_keep.specs.Seen.{all_seen}
use Rattle.acl_lists.specs.declared.cell.ListId.{ListId}
use Rattle.acl_lists.specs.declared.cell.Cell.{Cell}
use Rattle.acl_lists.specs.Pairs.{Within}
use Rattle.acl_list_parts.specs.Parts.{list_given}
use Rattle.acl_list_scope.specs.declared.binding.Binding.{Binding}

-- what things stand for, the last first, before others
abbrev pub last_first : {X Y : Type 0} → (X → Y) → List Y → List X → List Y
last_first f others [] = others
last_first f others (x ∷ xs) = last_first f (f x ∷ others) xs

abbrev pub named : List Cell → Binding → ℕ × StobjList ℕ
named cs b = (b.variable.0, list_given cs b.list)

-- the last one is the innermost
unfoldable pub scope : List Cell → List Binding → Stobjs ℕ
scope cs bs = last_first (named cs) [] bs

-- numbers of the table
pub record AreWithin (cs : List Cell) (bs : List Binding) : Type 0 where
  pub each : (i : ℕ) (b : Binding) → slice_get bs i ≡ Some b → Within cs b.list

-- none has this variable
abbrev pub Lacks : ℕ → List Binding → Type 0
Lacks x [] = Unit {0}
Lacks x (b ∷ bs) = (x ≢ b.variable.0) × Lacks x bs

-- the last binding of a variable
pub record IsLast (x : ℕ) (bs : List Binding) (i : ℕ) : Type 0 where
  pub before : List Binding
  pub binding : Binding
  pub after : List Binding
  pub whole : bs ≡ before ++ binding ∷ after
  pub at : i ≡ length before
  pub same : x ≡ binding.variable.0
  pub lacks : Lacks x after

abbrev pub number_of : SymId → ℕ
number_of x = x.0

-- ---- calls, under way

-- the least of two lengths
pub record IsShort (m n least : ℕ) : Type 0 where
  pub first : least ≤ m
  pub second : least ≤ n
  pub one : (m ≤ least) ⊎ (n ≤ least)

-- the actuals from a place on are handed over, and what is lent to them stands in the table
pub record IsOver (outer : List Binding) (formals : List SymId) (actuals : List Shown) (made : List Binding) (at : ℕ) : Type 0 where
  pub is : (cs : List Cell) (h : Objects) → scope cs made ≡ inner_stobjs (numbers (drop at formals)) (all_seen h (drop at actuals)) (scope cs outer)
  pub within : (cs : List Cell) → AreWithin cs outer → AreWithin cs made

-- the actuals before a place are handed back
pub record IsBack (old now inner : List Binding) (formals : List SymId) (actuals : List Shown) (at : ℕ) : Type 0 where
  pub is : (cs : List Cell) (h : Objects) → handed_back (numbers (drop at formals)) (all_seen h (drop at actuals)) (scope cs inner) (scope cs now) ≡ handed_back (numbers formals) (all_seen h actuals) (scope cs inner) (scope cs old)
  pub within : (cs : List Cell) → AreWithin cs inner → AreWithin cs old → AreWithin cs now
