-- A form over live stobjs, and its tree.
use Rattle.std.specs.Prelude.{◌≡◌, ℕ, List, map, length, Some, None}
use Rattle.model_terms.specs.Cores.{Core}
use Rattle.model_terms.specs.Worlds.{World}
use Rattle.model_terms.specs.Faults.{expression_fault}
use Rattle.model_eval.specs.Outcomes.{Shown, StobjNamed, Stobjs}
use Rattle.model_eval_laws.specs.Scope.{names}
use Rattle.model_accepted.specs.Threaded.{IsFormed, Suits}
use Rattle.model_in_place.specs.Commands.{live_scope}
use Rattle.model_slots.specs.Trees.{Tree}
use Rattle.model_slots.specs.Environments.{formal_environment}
use Rattle.model_slots.specs.Resolved.{resolved}

-- each live stobj, in the order of the slots
abbrev pub live_values : Stobjs ℕ → List (Shown ℕ)
live_values stobjs = map (λ (o : _). StobjNamed o.0) stobjs

-- no rule fails at the form, whose calls have as many actuals as their functions have formals, and this is its tree, the live stobjs
-- lying in the first slots
pub record HasLiveTree (w : World) (stobjs : Stobjs ℕ) (form : Core) (tree : Tree) : Type 0 where
  pub suits : Suits w w
  pub formed : IsFormed w form
  pub accepted : expression_fault w (live_scope stobjs) form ≡ None
  pub is : resolved w (formal_environment (names stobjs)) (length (names stobjs)) form ≡ Some tree
