-- What a call that was prepared will do.
use Rattle.std.specs.Prelude.{◌≡◌, ℕ, List, Option, Some, None}
use Rattle.model_eval.specs.Outcomes.{Stobjs, State}
use Rattle.model_eval.specs.ListsKeeping.{lists_keeping}
use Rattle.model_eval.specs.Variables.{with_list}
use Rattle.acl_base.specs.declared.SymId.{SymId}
use Rattle.acl_heap.specs.Objects.{Objects}
use Rattle.acl_terms.specs.declared.outcome.Shown.TheVariants as shown
use Rattle.acl_keep.specs.declared.effect.Effect.TheVariants as effect
use Rattle.acl_keep.specs.Calls.{Called, called_from, answered}
use Rattle.acl_lists.specs.declared.cell.Cell.{Cell}
use Rattle.acl_lists.specs.Pairs.{Within}
use Rattle.acl_list_parts.specs.Parts.{list_given}
use Rattle.acl_list_calls.specs.declared.done.Done.{Done}
use Rattle.acl_list_calls.specs.declared.done.Done.TheVariants as done
use Rattle.acl_list_scope.specs.declared.scoped.ScopedLists.{ScopedLists}
use Rattle.acl_list_scope.specs.Scopes.{scope}
use Rattle.acl_list_keeper.specs.declared.ready.Change.{Change}
use Rattle.acl_list_keeper.specs.declared.ready.Ready.{Ready}

abbrev pub ready_of : Done → Option SymId → Ready
ready_of done.Refuses x = record { effect = effect.Refuses; change = None }
ready_of (done.Reads w) x = record { effect = effect.Gives (shown.Value w); change = None }
ready_of (done.ReadsBoth v w) x = record { effect = effect.GivesBoth (shown.Value v) (shown.Value w); change = None }
ready_of (done.Writes n) None = record { effect = effect.Refuses; change = None }
ready_of (done.Writes n) (Some x) = record { effect = effect.Gives (shown.Object x); change = Some (record { variable = x; list = n }) }

-- the list is one of the table
abbrev pub ChangeWithin : List Cell → Option Change → Type 0
ChangeWithin cs None = Unit {0}
ChangeWithin cs (Some c) = Within cs c.list

-- what is kept then
abbrev pub changed : List Cell → Option Change → Stobjs ℕ → Stobjs ℕ
changed cs None k = k
changed cs (Some c) k = with_list c.variable.0 (list_given cs c.list) k

-- what is ready is what the definition answers on what is kept
pub record IsReady (s : ScopedLists) (ready : Option Ready) (h : Objects) (c : Called) : Type 0 where
  pub one : Ready
  pub is : ready ≡ Some one
  pub within : ChangeWithin s.lists one.change
  pub answers : (state : State ℕ) → called_from lists_keeping c (record state { stobjs = scope s.lists s.bindings.items })
      ≡ answered h c one.effect (record state { stobjs = changed s.lists one.change (scope s.lists s.bindings.items) })
