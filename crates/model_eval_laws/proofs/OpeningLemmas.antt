-- The equations of evaluation.
use Rattle.std.proofs.Common.{◌≡◌, ℕ, zero, suc, ◌+◌, [], ◌∷◌, Some, None, ap, add-one}
use Rattle.model_terms.specs.Cores.{Core}
use Rattle.model_eval.specs.Outcomes.{Shown, Depth, State, Gives, stops_here}
use Rattle.model_eval.specs.Variables.{Variables}
use Rattle.model_eval.specs.Evaluated.{Rules, leaf, leaf_or, opened, evaluated}
use Rattle.model_eval.specs.Checked.{checked_rules}
use Rattle.model_eval_laws.specs.Opening.{OpensForms}

module _ {S : Type 0} (r : Rules S) (form : Core) (variables : Variables S) (state : State S) where
  pub evaluated_leaf : (d : ℕ) (v : Shown S) → leaf r form variables ≡ Some v → evaluated r d form variables state ≡ Gives (v ∷ []) state
  unfolding evaluated
  evaluated_leaf zero v e = ap (λ l. leaf_or r l state (stops_here Depth state)) e
  evaluated_leaf (suc d) v e = ap (λ l. leaf_or r l state (opened r (evaluated r d) form variables state)) e

  pub evaluated_stop : leaf r form variables ≡ None → evaluated r 0 form variables state ≡ stops_here Depth state
  unfolding evaluated
  evaluated_stop e = ap (λ l. leaf_or r l state (stops_here Depth state)) e

  pub evaluated_inside : (d : ℕ) → leaf r form variables ≡ None → evaluated r (d + 1) form variables state ≡ opened r (evaluated r d) form variables state
  unfolding evaluated
  evaluated_inside d e = rw (add-one d) (ap (λ l. leaf_or r l state (opened r (evaluated r d) form variables state)) e)

pub opens_forms : OpensForms
opens_forms = record {
  value = λ w packages k d form variables state. evaluated_leaf (checked_rules w packages k) form variables state d;
  stop = λ w packages k form variables state. evaluated_stop (checked_rules w packages k) form variables state;
  inside = λ w packages k d form variables state. evaluated_inside (checked_rules w packages k) form variables state d;
}
