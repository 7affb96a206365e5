-- Live objects as the lists that a keeper has in scope.
use Rattle.std.specs.Prelude.{ℕ, List, []}
use Rattle.model_eval.specs.Outcomes.{Stobjs}
use Rattle.acl_heap.specs.Objects.{Objects}
use Rattle.acl_terms.specs.declared.outcome.Shown.{Shown}
use Rattle.acl_terms.specs.declared.outcome.Shown.TheVariants as shown
use Rattle.acl_worlds.specs.Contents.{Content}
use Rattle.acl_list_scope.specs.declared.binding.Binding.{Binding}
use Rattle.acl_list_scope.specs.Scopes.{last_first}
use Rattle.acl_list_keeper.specs.declared.keeper.ListKeeper.{ListKeeper}
use Rattle.acl_list_keeper.specs.Sound.{IsSound}
use Rattle.acl_evaluate.specs.Evaluating.{lists_in, IsAtRest}

-- the list of each live object under its name, in the order in which they became live
abbrev pub live_lists : ListKeeper → Stobjs ℕ
live_lists k = lists_in k.scoped

-- no call is open, and the keeper goes with the world, with symbols below n
pub record AreLive (k : ListKeeper) (h : Objects) (w : Content) (n : ℕ) : Type 0 where
  pub sound : IsSound k.scoped k.ready h w n
  pub rests : IsAtRest k.scoped

abbrev pub object_bound : Binding → Shown
object_bound b = shown.Object b.variable

-- the objects in scope, the innermost first
abbrev pub objects_bound : List Binding → List Shown
objects_bound bs = last_first object_bound [] bs
