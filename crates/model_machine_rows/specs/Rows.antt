-- The rows of checked evaluation, evaluated in place.
use Rattle.std.specs.Prelude.{◌≡◌, ℕ, List, [], map}
use Rattle.model_eval.specs.Outcomes.{Stobjs, StateOf, State, OutcomeOf, Outcome, Gives, Stops, Unknown}
use Rattle.model_eval.specs.PlacesKeeping.{Store, list_at}
use Rattle.model_eval.specs.Checked.{live}
use Rattle.model_eval.specs.InPlace.{in_place, begun_in_place}
use Rattle.model_eval_rows.specs.Books.{Row}

-- the list of each stobj in scope
abbrev pub lists_now : {S : Type 0} → Store S → Stobjs S
lists_now store = map (λ p. (p.0, list_at store.roots p.1)) store.scope

abbrev pub state_now : {S : Type 0} → StateOf (Store S) → State S
state_now state = record { stobjs = lists_now state.stobjs; symbols = state.symbols; calls = state.calls; outer = state.outer }

abbrev pub ended_now : {S : Type 0} → OutcomeOf S (Store S) → Outcome S
ended_now (Gives values state) = Gives values (state_now state)
ended_now (Stops stop inside state) = Stops stop inside (state_now state)
ended_now Unknown = Unknown

abbrev pub outcome_in_place : Row → Outcome ℕ
outcome_in_place r = ended_now (in_place r.world [] r.limit r.depth r.form (live r.stobjs) (begun_in_place [] r.stobjs 0))

pub record AreRightInPlace (rows : List Row) : Type 0 where
  pub all : map outcome_in_place rows ≡ map (λ (r : Row). r.answer) rows
