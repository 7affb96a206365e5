-- What a value of the logic costs: how many calls it takes, from any start and within any budget that has room for them.
use Rattle.std.specs.Prelude.{◌≡◌, ℕ, ◌+◌, ◌≤◌, Option}
use Rattle.model_terms.specs.Cores.{Core}
use Rattle.model_logic.specs.Logic.{Theory, Thing, Values, Found, found, Caller, form_value, call_within}

-- a computation, by its budget, how deep its calls may be nested, and the calls before it
abbrev pub Counted : Type 0
Counted = ℕ → ℕ → ℕ → Option Found

-- the calls that functions are called by
abbrev pub caller : Theory → ℕ → ℕ → Caller
caller b budget nest = call_within b budget nest

-- a form as a computation
abbrev pub form_counted : Theory → Core → Values → Counted
form_counted b form values = λ budget nest start. form_value b budget (caller b budget nest) form values start

pub record Costs (f : Counted) (v : Thing) (n : ℕ) : Type 0 where
  pub gives : (budget nest start : ℕ) → start + n ≤ budget → n ≤ nest → f budget nest start ≡ found v (start + n)

-- the computation ends with the value
abbrev pub Ends : Counted → Thing → Type 0
Ends f v = (n : ℕ) × Costs f v n
