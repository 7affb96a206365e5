-- A machine over trees has one end.
use Rattle.std.specs.Prelude.{◌≡◌, ℕ, zero, suc, refl}
use Rattle.std.proofs.Common.{sym, ◌∙◌, ap}
use Rattle.model_eval.specs.Outcomes.{OutcomeOf}
use Rattle.model_eval.specs.Keeping.{Keeping}
use Rattle.model_eval.specs.Evaluated.{RulesOf}
use Rattle.model_eval.specs.Checked.{checked_keeping}
use Rattle.model_slots.specs.Environments.{variables_in}
use Rattle.model_window.specs.Frames.{Code, Turned, Going, Over}
use Rattle.model_window.specs.Turns.{turn}
use Rattle.model_window.specs.Laws.{EndsIn, EvaluatesTrees, ChecksSeeNil}
use Rattle.model_fitting.specs.Laws.{AcceptedFit}
use Rattle.model_window_laws.specs.Laws.{EndsOnce, AcceptedFormsEnd}

module _ {S O B : Type 0} {keeping : Keeping S O B} (r : RulesOf keeping) (code : Code) where
  one_end : (n m : ℕ) (t : Turned S O B) (a b : OutcomeOf S O) → EndsIn r code n t a → EndsIn r code m t b → (n ≡ m) × (a ≡ b)
  one_end zero zero (Over last) a b p q = (refl, sym p ∙ q)
  one_end zero zero (Going x) a b p q = elim p [ ]
  one_end zero (suc m) (Over last) a b p q = elim q [ ]
  one_end zero (suc m) (Going x) a b p q = elim p [ ]
  one_end (suc n) zero (Over last) a b p q = elim p [ ]
  one_end (suc n) zero (Going x) a b p q = elim q [ ]
  one_end (suc n) (suc m) (Over last) a b p q = elim p [ ]
  one_end (suc n) (suc m) (Going x) a b p q =
      let rest = one_end n m (turn r code x) a b p q in
      (ap suc rest.0, rest.1)

pub ends_once : {S O B : Type 0} (keeping : Keeping S O B) → EndsOnce keeping
ends_once keeping = record { once = λ r code n m t a b p q. one_end r code n m t a b p q }

pub accepted_end : {O B : Type 0} (keeping : Keeping ℕ O B) → EvaluatesTrees keeping → ChecksSeeNil keeping → AcceptedFit keeping → AcceptedFormsEnd keeping
accepted_end keeping trees nil fit = record {
  ends = λ w threaded packages limit origins code are holds c suits earlier scope form expected formed accepted env s below tree is memory variables depth state.
      let r = checked_keeping keeping w packages limit in
      let left = trees.left r depth form (variables_in memory env) state in
      let fits = fit.begun w threaded packages limit origins are c suits scope form expected formed accepted (variables_in memory env) variables left depth state in
      (left, trees.ends r origins code holds (nil.sees w packages limit) c depth s env form tree memory state earlier below is fits);
  alone = λ w threaded packages limit origins code are holds c suits earlier scope form expected formed accepted env s below tree is memory variables depth state n outcome p.
      let r = checked_keeping keeping w packages limit in
      let left = trees.left r depth form (variables_in memory env) state in
      let fits = fit.begun w threaded packages limit origins are c suits scope form expected formed accepted (variables_in memory env) variables left depth state in
      let q = trees.ends r origins code holds (nil.sees w packages limit) c depth s env form tree memory state earlier below is fits in
      (one_end r code n left _ outcome _ p q).1;
}
