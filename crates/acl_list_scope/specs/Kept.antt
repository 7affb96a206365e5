-- What is kept as lists in scope, and what open calls have left behind.
use Rattle.std.specs.Prelude.{ℕ, List}
use Rattle.model_eval.specs.Outcomes.{Stobjs}
use Rattle.acl_list_scope.specs.declared.scoped.ScopedLists.{ScopedLists}
use Rattle.acl_list_scope.specs.Keeping.{IsKept}

abbrev pub Keeps : ScopedLists → Stobjs ℕ → List (Stobjs ℕ) → Type 0
Keeps s kept left = IsKept s.lists s.bindings.items s.behind.items kept left
