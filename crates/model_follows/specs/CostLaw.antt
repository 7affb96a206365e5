-- What a call of the logic costs, as a law.
use Rattle.std.specs.Prelude.{◌≡◌, ℕ, List}
use Rattle.model_terms.specs.Cores.{Core}
use Rattle.model_logic.specs.Logic.{Theory, Thing, Values, found, call_within, EndsWith, CallEndsWith}
use Rattle.model_follows.specs.Costs.{caller, form_counted, Ends}

-- a value that some budget gives is given from any start within any budget that has room for its calls
pub record CallsCost : Type 0 where
  pub costs : (b : Theory) (name : ℕ) (args : List Thing) (v : Thing) → CallEndsWith b name args v → Ends (λ budget nest start. caller b budget nest name args start) v

-- the same of forms
pub record FormsCost : Type 0 where
  pub costs : (b : Theory) (form : Core) (values : Values) (v : Thing) → EndsWith b form values v → Ends (form_counted b form values) v

-- a value that a call has within some evaluation, it has alone
pub record CallsEnd : Type 0 where
  pub anywhere : (b : Theory) (budget nest start name : ℕ) (args : List Thing) (v : Thing) (calls : ℕ) → call_within b budget nest name args start ≡ found v calls → CallEndsWith b name args v
