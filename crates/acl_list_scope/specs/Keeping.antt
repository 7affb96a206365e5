-- What is kept as lists in scope, and what open calls have left behind.
use Rattle.std.specs.Prelude.{◌≡◌, ℕ, List, [], Some, slice_get}
use Rattle.model_eval.specs.Outcomes.{Stobjs}
use Rattle.acl_lists.specs.declared.cell.Cell.{Cell}
use Rattle.acl_list_scope.specs.declared.binding.Binding.{Binding}
use Rattle.acl_list_scope.specs.declared.binding.Scope.{Scope}
use Rattle.acl_list_scope.specs.Scopes.{last_first, scope, AreWithin}

-- the scopes that calls have left behind, the innermost first
unfoldable pub lefts : List Cell → List Scope → List (Stobjs ℕ)
lefts cs ss = last_first (λ (s : Scope). scope cs s.bindings.items) [] ss

-- the bindings in scope stand for what is kept, and those behind for what was left
pub record IsKept (cs : List Cell) (bindings : List Binding) (behind : List Scope) (kept : Stobjs ℕ) (left : List (Stobjs ℕ)) : Type 0 where
  pub within : AreWithin cs bindings
  pub all : (i : ℕ) (s : Scope) → slice_get behind i ≡ Some s → AreWithin cs s.bindings.items
  pub is : scope cs bindings ≡ kept
  pub lefts : lefts cs behind ≡ left
