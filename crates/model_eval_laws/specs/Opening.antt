-- How forms open.
use Rattle.std.specs.Prelude.{◌≡◌, ℕ, ◌+◌, List, [], ◌∷◌, Some, None}
use Rattle.model_symbols.specs.Symbols.{Package}
use Rattle.model_terms.specs.Cores.{Core}
use Rattle.model_terms.specs.Worlds.{World}
use Rattle.model_eval.specs.Outcomes.{Shown, Depth, State, Gives, stops_here}
use Rattle.model_eval.specs.Variables.{Variables}
use Rattle.model_eval.specs.Evaluated.{leaf, opened}
use Rattle.model_eval.specs.Checked.{checked, checked_rules}

-- a variable or a constant opens nothing. Another form stops where no more may be open, and else all that is evaluated
-- inside it may open one less: so no more forms are open at once than the limit
pub record OpensForms : Type 0 where
  pub value : (w : World) (packages : List Package) (k d : ℕ) (form : Core) (variables : Variables ℕ) (state : State ℕ) (v : Shown ℕ)
      → leaf (checked_rules w packages k) form variables ≡ Some v → checked w packages k d form variables state ≡ Gives (v ∷ []) state
  pub stop : (w : World) (packages : List Package) (k : ℕ) (form : Core) (variables : Variables ℕ) (state : State ℕ)
      → leaf (checked_rules w packages k) form variables ≡ None → checked w packages k 0 form variables state ≡ stops_here Depth state
  pub inside : (w : World) (packages : List Package) (k d : ℕ) (form : Core) (variables : Variables ℕ) (state : State ℕ)
      → leaf (checked_rules w packages k) form variables ≡ None
      → checked w packages k (d + 1) form variables state ≡ opened (checked_rules w packages k) (checked w packages k d) form variables state
