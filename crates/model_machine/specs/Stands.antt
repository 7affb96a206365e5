-- The outcome that a machine stands for.
use Rattle.std.specs.Prelude.{ℕ, suc, List, [], ◌∷◌, ◌++◌, Option, Some, None, if◌then◌else◌}
use Rattle.model_eval.specs.Outcomes.{Shown, Guard, StateOf, OutcomeOf, Gives, Stops, then_with, with_state, stops_here, cut_at}
use Rattle.model_eval.specs.Keeping.{Keeping, handed, taken_back, unmaking}
use Rattle.model_eval.specs.Variables.{Variables, bound, single}
use Rattle.model_eval.specs.Evaluated.{RulesOf, EvaluatorOf, is_false, scoped, exec_called, called, in_order, all_borrowed, put_back, with_loans, evaluated}
use Rattle.model_eval.specs.Checked.{inside_after, checked_export}
use Rattle.model_machine.specs.Frames.{Export, Then, ThenBody, ThenValues, ThenCall, Step, Test, Parts, Several, Calling, Guarding, Running, Allowing, Exporting, Borrowing, Producing, Putting, Local, Last, Frame, Control, Begin, Give, Stopped, Machine, Turned, Going, Over}

-- what an export's exec function gives, seen from outside the export's call
abbrev pub within : {S O B : Type 0} → Keeping S O B → Option (Export S B) → OutcomeOf S O → OutcomeOf S O
within keeping None outcome = outcome
within keeping (Some x) outcome = cut_at x.begun.number (inside_after keeping x.actuals x.begun.before x.name x.outer outcome)

-- rules whose exports call their exec functions
abbrev pub running : {S O B : Type 0} {keeping : Keeping S O B} → RulesOf keeping → RulesOf keeping
running {keeping = keeping} r = record r { export = checked_export keeping r.limit }

module _ {S O B : Type 0} {keeping : Keeping S O B} (r : RulesOf keeping) where
  abbrev pub after_parts : EvaluatorOf S O → Variables S → Then → List (Shown S) → StateOf O → OutcomeOf S O
  after_parts ev variables (ThenBody names body) values state = ev body (bound names values variables) state
  after_parts ev variables ThenValues values state = Gives values state
  after_parts ev variables (ThenCall f) values state = called r ev f values state

  -- the outcome of an open form, from the outcome of what it waits for; `ev` evaluates inside it
  abbrev pub rest_of : EvaluatorOf S O → Variables S → Step S B → OutcomeOf S O → OutcomeOf S O
  rest_of ev variables (Test b c) outcome = then_with outcome (λ test after. ev (if is_false r test then c else b) variables after)
  rest_of ev variables (Parts forms before goal) outcome =
      then_with outcome (λ values after. in_order r ev forms variables (before ++ single r.kind values ∷ []) (after_parts ev variables goal) after)
  rest_of ev variables (Several names body) outcome = then_with outcome (λ values after. ev body (bound names values variables) after)
  rest_of ev variables (Calling f actuals) outcome = then_with outcome (λ values after. called r ev f actuals after)
  rest_of ev variables (Guarding export name formals actuals body behind) outcome =
      within keeping export (then_with (handed keeping formals actuals behind outcome)
      (λ test after. if is_false r test then stops_here (Guard name actuals) after else scoped r ev formals actuals body after))
  rest_of ev variables (Running export formals actuals behind) outcome = within keeping export (handed keeping formals actuals behind outcome)
  rest_of ev variables (Allowing f actuals begun behind) outcome =
      cut_at begun.number (then_with (handed keeping f.formals actuals behind outcome)
      (λ test after. if is_false r test then stops_here (Guard f.name actuals) after else checked_export keeping r.limit f actuals begun.before (exec_called r ev actuals f.exec) after))
  rest_of ev variables (Exporting f actuals begun) outcome =
      cut_at begun.number (then_with outcome (λ values after. checked_export keeping r.limit f actuals begun.before (exec_called r ev actuals f.exec) after))
  rest_of ev variables (Borrowing names forms loans vars producer consumer) outcome =
      then_with outcome (λ values after. all_borrowed r names forms variables loans (with_loans r ev vars producer consumer variables) after)
  rest_of ev variables (Producing vars loans consumer) outcome =
      then_with (taken_back keeping loans (then_with outcome (λ values after. put_back r vars loans (Gives values) after)))
      (λ values after. ev consumer (bound vars values variables) after)
  rest_of ev variables (Putting vars left loans consumer given) outcome =
      then_with (taken_back keeping loans (then_with outcome (λ values after. put_back r vars left (Gives given) after)))
      (λ values after. ev consumer (bound vars values variables) after)
  rest_of ev variables (Local names body) outcome =
      then_with (with_state (unmaking keeping) outcome) (λ values after. ev body (bound names values variables) after)
  rest_of ev variables (Last export) outcome = within keeping export outcome

  -- from the innermost frame outwards; inside it so many more forms may be open
  unfoldable pub unwound : ℕ → List (Frame S B) → OutcomeOf S O → OutcomeOf S O
  unwound room [] outcome = outcome
  unwound room (f ∷ fs) outcome = unwound (suc room) fs (rest_of (evaluated r room) f.variables f.step outcome)

  abbrev pub outcome_now : ℕ → Control S → StateOf O → OutcomeOf S O
  outcome_now room (Begin form variables) state = evaluated r room form variables state
  outcome_now room (Give values) state = Gives values state
  outcome_now room (Stopped stop origin) state = Stops stop origin state

  unfoldable pub outcome_of : Machine S O B → OutcomeOf S O
  outcome_of m = unwound m.room m.frames (outcome_now m.room m.control m.state)

  abbrev pub outcome_after : Turned S O B → OutcomeOf S O
  outcome_after (Going m) = outcome_of m
  outcome_after (Over outcome) = outcome
