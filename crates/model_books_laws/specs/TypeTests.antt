-- The test of a type, evaluated, says what the definition of the type says.
use Rattle.std.specs.Prelude.{◌≡◌, ℕ, List, [], map, Bool, not, Option, Some, None}
use Rattle.std.specs.Option.{option_and_then}
use Rattle.model_prims.specs.Kinds.{by_number, is_nil}
use Rattle.model_terms.specs.Cores.{Core, Const}
use Rattle.model_eval.specs.Outcomes.{Outcome, Gives, Stops, Unknown}
use Rattle.model_eval.specs.Variables.{object_of, single}
use Rattle.model_eval.specs.Checked.{checked, begun}
use Rattle.model_eval_rows.specs.Types.{TypeRow}
use Rattle.model_expansion.specs.TypeTerms.{type_term}
use Rattle.model_books.specs.Opening.{opening_world}

-- whether a value other than `NIL` is given; None after a stop
abbrev pub truth_given : Outcome ℕ → Option Bool
truth_given (Gives values state) = Some (not (is_nil by_number (object_of by_number (single by_number values))))
truth_given (Stops stop inside state) = None
truth_given Unknown = None

-- the value of a form without variables, in the world that every session begins with
abbrev pub evaluated_alone : Core → Option Bool
evaluated_alone f = truth_given (checked opening_world [] 100 250 f [] (begun [] [] 0))

-- whether an object meets a type, by its test; None where the type is not accepted
abbrev pub tested : TypeRow → Option Bool
tested r = option_and_then evaluated_alone (type_term r.written (Const r.object))

unfoldable pub all_tested : List TypeRow → List (Option Bool)
all_tested rows = map tested rows

unfoldable pub type_answers : List TypeRow → List (Option Bool)
type_answers rows = map (λ (r : TypeRow). r.answer) rows

pub record TestsAreRight (rows : List TypeRow) : Type 0 where
  pub all : all_tested rows ≡ type_answers rows
