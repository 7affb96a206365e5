-- A command whose expression is evaluated with the live stobjs in place: each is a root whose list is overwritten, and what is
-- told of it afterwards is read off its root (Boyer and Moore, Single-Threaded Objects in ACL2, 2002).
use Rattle.std.specs.Prelude.{ℕ, List, [], ◌∷◌, Option, Some, None}
use Rattle.model_objects.specs.Object.{Object}
use Rattle.model_lists.specs.Lists.{StobjList}
use Rattle.model_terms.specs.Cores.{Core}
use Rattle.model_terms.specs.Faults.{Fault, expression_fault}
use Rattle.model_eval.specs.Outcomes.{Stobjs, StateOf, State, OutcomeOf, Outcome, Gives, Stops, Unknown}
use Rattle.model_eval.specs.PlacesKeeping.{Store}
use Rattle.model_eval.specs.Checked.{live}
use Rattle.model_eval.specs.InPlace.{in_place, begun_in_place}
use Rattle.model_expansion.specs.Faults as refusals
use Rattle.model_expansion.specs.Expansion.{Progress, Expanded, Makes, Fails, at_start, expanded}
use Rattle.model_events.specs.Events.{Limits, setting}
use Rattle.model_books.specs.Opening.{Session}
use Rattle.model_books.specs.Commands.{Answered, Ways, Refused, way_of, ways, live_scope, outcome, with_symbols, evaluated_outcome, core_outcome, expanded_outcome}

-- the lists of the live stobjs, which are the roots in their order
abbrev pub lists_of_roots : Stobjs ℕ → List (StobjList ℕ) → Stobjs ℕ
lists_of_roots [] roots = []
lists_of_roots (o ∷ os) [] = []
lists_of_roots (o ∷ os) (l ∷ ls) = (o.0, l) ∷ lists_of_roots os ls

-- what a state in place tells; `stobjs` has the names
abbrev pub state_read : Stobjs ℕ → StateOf (Store ℕ) → State ℕ
state_read stobjs t = record { stobjs = lists_of_roots stobjs t.stobjs.roots; symbols = t.symbols; calls = t.calls; outer = t.outer }

abbrev pub outcome_read : Stobjs ℕ → OutcomeOf ℕ (Store ℕ) → Outcome ℕ
outcome_read stobjs (Gives values t) = Gives values (state_read stobjs t)
outcome_read stobjs (Stops stop origin t) = Stops stop origin (state_read stobjs t)
outcome_read stobjs Unknown = Unknown

module _ (bounds : Limits) (s : Session) where
  abbrev pub core_in_place : Core → Progress → Option Fault → Answered
  core_in_place f p (Some fault) = core_outcome bounds s f p (Some fault)
  core_in_place f p None =
      evaluated_outcome bounds s p
      (outcome_read s.stobjs (in_place s.environment.world s.environment.packages bounds.steps bounds.depth f (live s.stobjs) (begun_in_place p.symbols s.stobjs p.calls)))

  abbrev pub expanded_in_place : Expanded Core → Answered
  expanded_in_place (Makes f p) = core_in_place f p (expression_fault s.environment.world (live_scope s.stobjs) f)
  expanded_in_place (Fails fault p) = expanded_outcome bounds s (Fails fault p)

  -- as a command on lists is answered, but for expressions; what macros, constants and packages evaluate has no live stobj in
  -- scope, and is evaluated on lists, local stobjs too
  abbrev pub ways_in_place : Ways Answered
  ways_in_place = record (ways bounds s) { expression = λ form. expanded_in_place (expanded (setting s.environment bounds) form (at_start s.symbols)) }

  unfoldable pub command_in_place : Object ℕ → Answered
  command_in_place form = way_of ways_in_place s.symbols form
