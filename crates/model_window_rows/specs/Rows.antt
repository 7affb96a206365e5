-- The rows of checked evaluation, by the machine over trees, with stobjs in place.
use Rattle.std.specs.Prelude.{◌≡◌, ℕ, zero, suc, List, [], map, length, Option, Some, None}
use Rattle.model_eval.specs.Outcomes.{Outcome, OutcomeOf, Unknown}
use Rattle.model_eval.specs.Keeping.{Keeping}
use Rattle.model_eval.specs.Variables.{nothing}
use Rattle.model_eval.specs.Evaluated.{RulesOf}
use Rattle.model_eval.specs.Checked.{live}
use Rattle.model_eval.specs.InPlace.{in_place_rules, begun_in_place}
use Rattle.model_prims.specs.Kinds.{by_number}
use Rattle.model_eval_rows.specs.Books.{Row}
use Rattle.model_machine_rows.specs.Rows.{ended_now}
use Rattle.model_slots.specs.Trees.{Tree}
use Rattle.model_slots.specs.Environments.{formal_environment}
use Rattle.model_slots.specs.Resolved.{resolved}
use Rattle.model_window.specs.Windows.{Memory, all_written}
use Rattle.model_window.specs.Frames.{Code, Turned, Going, Over}
use Rattle.model_window.specs.Turns.{turn, begun_on}
use Rattle.model_window.specs.Tables.{code_of}

-- what a machine ends with in so many turns
abbrev pub ended_in : {S O B : Type 0} {keeping : Keeping S O B} → RulesOf keeping → Code → ℕ → Turned S O B → OutcomeOf S O
ended_in r code n (Over outcome) = outcome
ended_in r code zero (Going m) = Unknown
ended_in r code (suc n) (Going m) = ended_in r code n (turn r code m)

-- the stobjs of a row lie in the first slots
abbrev pub first_memory : Row → Memory ℕ
first_memory r = all_written 0 (map (λ v. v.1) (live r.stobjs)) (λ i. nothing by_number)

abbrev pub outcome_of_tree : Row → Option Tree → Outcome ℕ
outcome_of_tree r None = Unknown
outcome_of_tree r (Some tree) =
    ended_now (ended_in (in_place_rules r.world [] r.limit) (code_of r.world) 20000 (Going (begun_on r.depth tree (first_memory r) (begun_in_place [] r.stobjs 0))))

abbrev pub outcome_by_turns : Row → Outcome ℕ
outcome_by_turns r = outcome_of_tree r (resolved r.world (formal_environment (map (λ v. v.0) (live r.stobjs))) (length r.stobjs) r.form)

pub record AreRightByTurns (rows : List Row) : Type 0 where
  pub all : map outcome_by_turns rows ≡ map (λ (r : Row). r.answer) rows
