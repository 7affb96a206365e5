-- The rules of checked evaluation are cut at a limit.
use Rattle.std.proofs.Common.{◌≡◌, ℕ, ◌≤◌, List, Bool, true, false, refl, ap, arith, inl, inr}
use Rattle.std.specs.Prelude.{nat_lt, if◌then◌else◌}
use Rattle.model_terms.specs.Worlds.{FunctionOfAbstract}
use Rattle.model_eval.specs.Outcomes.{Shown, Steps, State, Outcome, Gives, Stops, Unknown, one_more_call, stops_here, Stobjs}
use Rattle.model_eval.specs.Variables.{first_stobj}
use Rattle.model_eval.specs.ListsKeeping.{lists_keeping, list_restored}
use Rattle.model_eval.specs.Checked.{checked_rules, checked_export, inside_after}
use Rattle.model_eval_laws.specs.Counting.{Grown, Counts}
use Rattle.model_eval_laws.specs.Cutting.{Cuts, IsCut}
use Rattle.model_eval_laws.proofs.Counts.{GoCounts}
use Rattle.model_eval_laws.proofs.CountLemmas.{counts_export, checked_count}
use Rattle.model_eval_laws.proofs.Cut.{ToCuts, below_larger, cuts_evaluated}

module _ (limit : ℕ) where
  grown_outer : (a b : State ℕ) (n : ℕ) (os ps : Stobjs ℕ) → Grown limit a b → Grown limit (record a { stobjs = os; outer = n }) (record b { stobjs = ps; outer = n })
  grown_outer a b n os ps g = record { calls = g.calls; within = g.within; outer = omega arith; outer_calls = omega (arith, g.calls); symbols = g.symbols }

  moved_inside : (actuals : List (Shown ℕ)) (before os : Stobjs ℕ) (x outer : ℕ) (a : State ℕ) (r : Outcome ℕ) → Counts limit a r → Counts limit (record a { stobjs = os; outer = outer }) (inside_after lists_keeping actuals before x outer r)
  moved_inside actuals before os x outer a (Gives values s) h = grown_outer a s outer os s.stobjs h
  moved_inside actuals before os x outer a (Stops stop origin s) h = (grown_outer a s outer os _ h.0, h.1)
  moved_inside actuals before os x outer a Unknown h = h

  cuts_inside : (actuals : List (Shown ℕ)) (before : Stobjs ℕ) (x outer : ℕ) (r s : Outcome ℕ) → Cuts limit r s → Cuts limit (inside_after lists_keeping actuals before x outer r) (inside_after lists_keeping actuals before x outer s)
  cuts_inside actuals before x outer (Gives values state) s e = ap (inside_after lists_keeping actuals before x outer) e
  cuts_inside actuals before x outer (Stops stop origin state) s (inl y) =
      inl (y.0, moved_inside actuals before (list_restored (first_stobj actuals) before state.stobjs) x outer state s y.1)
  cuts_inside actuals before x outer (Stops stop origin state) s (inr e) = inr (ap (inside_after lists_keeping actuals before x outer) e)
  cuts_inside actuals before x outer Unknown s e = ap (inside_after lists_keeping actuals before x outer) e

  cuts_export : (k : ℕ) → k ≤ limit → (f : FunctionOfAbstract) (values : List (Shown ℕ)) (before : Stobjs ℕ) (go to : State ℕ → Outcome ℕ) → ToCuts limit go to → GoCounts limit to → ToCuts limit (checked_export lists_keeping k f values before go) (checked_export lists_keeping limit f values before to)
  cuts_export k larger f values before go to h c state = by_test (nat_lt state.calls k) refl
    where
      by_test : (b : Bool) → nat_lt state.calls k ≡ b → Cuts limit (if b then inside_after lists_keeping values before f.name state.outer (go (one_more_call state)) else stops_here Steps state) (checked_export lists_keeping limit f values before to state)
      by_test true e = rw (below_larger state.calls k limit larger e) (cuts_inside values before f.name state.outer _ _ (h (one_more_call state)))
      by_test false e = inl (tt, counts_export limit f values before to c state)

pub is_cut : IsCut
is_cut = record {
  cut = λ w packages k l d form variables state h.
      cuts_evaluated (checked_rules w packages k) l h (checked_export lists_keeping l) (cuts_export l k h) (checked_count w packages l) d form variables state;
}
