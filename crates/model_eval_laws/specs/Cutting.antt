-- An evaluation that is cut at a limit of calls, and the one that goes on.
use Rattle.std.specs.Prelude.{◌≡◌, ℕ, ◌≤◌, List, ◌⊎◌}
use Rattle.model_symbols.specs.Symbols.{Package}
use Rattle.model_terms.specs.Cores.{Core}
use Rattle.model_terms.specs.Worlds.{World}
use Rattle.model_eval.specs.Outcomes.{State, Outcome, Gives, Stops, Unknown}
use Rattle.model_eval.specs.Variables.{Variables}
use Rattle.model_eval.specs.Checked.{checked}
use Rattle.model_eval_laws.specs.Laws.{IsSteps}
use Rattle.model_eval_laws.specs.Counting.{Counts}

-- the second is the first, or the first stopped at its limit of calls and the second comes later than that: it has counted
-- no fewer calls, and has its symbols and maybe more
abbrev pub Cuts : {S : Type 0} → ℕ → Outcome S → Outcome S → Type 0
Cuts limit (Gives values state) r = r ≡ Gives values state
Cuts limit (Stops stop origin state) r = (IsSteps stop × Counts limit state r) ⊎ (r ≡ Stops stop origin state)
Cuts limit Unknown r = r ≡ Unknown

pub record IsCut : Type 0 where
  pub cut : (w : World) (packages : List Package) (k l d : ℕ) (form : Core) (variables : Variables ℕ) (state : State ℕ) → k ≤ l
      → Cuts l (checked w packages k d form variables state) (checked w packages l d form variables state)
