-- The rules of abstract evaluation grow with their limits.
use Rattle.std.proofs.Common.{◌≡◌, ℕ, ◌≤◌, false, refl, arith, inl, inr}
use Rattle.std.specs.Prelude.{nat_lt, ◌⊎◌}
use Rattle.model_symbols.specs.Symbols.{QualifiedName}
use Rattle.model_eval.specs.Outcomes.{Stop, Steps}
use Rattle.model_logic.specs.Logic.{Theory}
use Rattle.model_abstract.specs.Rules.{abstract_rules}
use Rattle.model_eval_laws.specs.Laws.{IsSteps, IsDepth}
use Rattle.model_eval_laws.proofs.Agree.{agrees_same, Grows, agrees_evaluated, agrees_deeper}
use Rattle.model_eval_laws.proofs.LimitLemmas.{Always, closed_always, defined_always, below_larger}
use Rattle.model_abstract_laws.specs.Laws.{AbstractAgreesUntilLimit}

abstract_grows : (Excused : Stop QualifiedName → Type 0) (b : Theory) (budget k l : ℕ) → k ≤ l → ((n : ℕ) → nat_lt n k ≡ false → Excused Steps ⊎ (nat_lt n l ≡ false)) → Grows Excused (abstract_rules b budget k) b.world l (abstract_rules b budget l).fresh (abstract_rules b budget l).export Always
abstract_grows Excused b budget k l h u = record {
  definitions = λ x s. refl;
  closed = λ x d s e. defined_always d;
  layouts = λ x s. refl;
  freshly = λ x s. refl;
  exports = λ f values before go to h state. agrees_same Excused ((abstract_rules b budget k).export f values before go state);
  counted = λ n e. below_larger n k l h e;
  uncounted = u;
}

pub abstract_agrees_until_limit : AbstractAgreesUntilLimit
abstract_agrees_until_limit = record {
  steps = λ b budget k l d form variables state h. agrees_evaluated IsSteps (abstract_rules b budget k) b.world l _ _ Always (abstract_grows IsSteps b budget k l h (λ n e. inl tt)) d form variables state (closed_always form);
  depth = λ b budget k d e form variables state h. agrees_deeper IsDepth (abstract_rules b budget k) b.world k _ _ Always (abstract_grows IsDepth b budget k k (omega arith) (λ n e. inr e)) tt d e h form variables state (closed_always form);
}
