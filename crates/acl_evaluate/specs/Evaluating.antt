-- What the evaluation of a term gives, over the lists in scope.
use Rattle.std.specs.Prelude.{ℕ, ◌≤◌, List, [], length}
use Rattle.model_symbols.specs.Symbols.{Table}
use Rattle.model_eval.specs.Outcomes as outcomes
use Rattle.model_eval.specs.Outcomes.{Stobjs}
use Rattle.model_eval.specs.ListsKeeping.{lists_keeping}
use Rattle.model_eval.specs.Checked.{begun}
use Rattle.model_window.specs.Frames as windows
use Rattle.model_window.specs.Turns.{begun_on}
use Rattle.model_window.specs.Laws.{EndsIn}
use Rattle.acl_base.specs.declared.TermId.{TermId}
use Rattle.acl_heap.specs.Objects.{Objects}
use Rattle.acl_forms.specs.Forms.{AreWhole}
use Rattle.acl_terms.specs.declared.outcome.Shown.{Shown}
use Rattle.acl_code.specs.Tables.{tree_in}
use Rattle.acl_engine.specs.declared.outcome.Outcome.{Outcome}
use Rattle.acl_engine.specs.Outcomes.{seen_outcome, ended_reach, outcome_words}
use Rattle.acl_list_scope.specs.declared.scoped.ScopedLists.{ScopedLists}
use Rattle.acl_list_scope.specs.Scopes.{scope}
use Rattle.acl_list_scope.specs.Kept.{Keeps}
use Rattle.acl_machine.specs.Cells.{memory_of}
use Rattle.acl_machine.specs.declared.machine.Machine.{Machine}
use Rattle.acl_machine.specs.Views.{Around, trees_of, code_of, machine_of, seen_control, seen_origin}
use Rattle.acl_machine.specs.Turns.{rules_of, ended_by}
use Rattle.acl_evaluate.specs.Ended.{state_of}

-- the lists in scope
abbrev pub lists_in : ScopedLists → Stobjs ℕ
lists_in s = scope s.lists s.bindings.items

-- they are what is kept, and no call is open
pub record IsAtRest (s : ScopedLists) : Type 0 where
  pub keeps : Keeps s (lists_in s) []

-- the machine over trees that a machine stands for, over these lists in scope, ends with what another machine holds that is over,
-- and with those lists
pub record Reaches (a after : Around) (old new : Machine) (before later : Stobjs ℕ) : Type 0 where
  pub count : ℕ
  pub ends : EndsIn (rules_of lists_keeping a) (code_of a) count (windows.Going (machine_of a [] before [] old))
      (ended_by (seen_control after.heap (trees_of after) new.given (seen_origin new.inside new.cut) new.control) (state_of after.table.symbols later new))

-- the machine over trees that is begun on the term's tree, over these values and lists and with so many calls counted before, ends
-- with this
abbrev pub EndsWith : Around → TermId → List Shown → Stobjs ℕ → ℕ → ℕ → ℕ → outcomes.Outcome ℕ → Type 0
EndsWith a t values before used depth count outcome =
    EndsIn (rules_of lists_keeping a) (code_of a) count (windows.Going (begun_on depth (tree_in (trees_of a) t) (memory_of a.heap values) (begun a.table.symbols before used))) outcome

-- with this outcome, and these lists
pub record Evaluates (a after : Around) (t : TermId) (values : List Shown) (before later : Stobjs ℕ) (used depth : ℕ) (o : Outcome) : Type 0 where
  pub count : ℕ
  pub ends : EndsWith a t values before used depth count (seen_outcome after.heap after.table.symbols later o)

-- the words of the outcome are whole
pub record IsWholeEnd (t : Table) (h : Objects) (o : Outcome) : Type 0 where
  pub whole : AreWhole t h (outcome_words o)
  pub lies : ended_reach o o.stop ≤ length h
