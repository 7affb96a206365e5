-- The rules of checked evaluation leave other stobjs.
use Rattle.std.proofs.Common.{◌≡◌, ℕ, List, [], ◌++◌, Bool, true, false, refl, sym, ap, ◌∙◌, subst}
use Rattle.std.specs.Prelude.{nat_lt, if◌then◌else◌}
use Rattle.model_symbols.specs.Symbols.{Package}
use Rattle.model_prims.specs.Applied.{Applied, applied}
use Rattle.model_prims.specs.Applied as prims
use Rattle.model_prims.specs.declared.prim.Prim.{Prim}
use Rattle.model_terms.specs.Cores.{Core}
use Rattle.model_terms.specs.Worlds.{World, FunctionOfAbstract}
use Rattle.model_eval.specs.Outcomes.{Shown, Steps, Stobjs, State, Outcome, Gives, Stops, Unknown, inside_of, one_more_call, stops_here}
use Rattle.model_eval.specs.Variables.{Variables, ordinary, first_stobj}
use Rattle.model_eval.specs.Checked.{checked, checked_rules, checked_export, primitive_ended, inside_after}
use Rattle.model_eval.specs.ListsKeeping.{lists_keeping}
use Rattle.model_eval_laws.specs.Scope.{names, AllInScope, widened, LeavesOthers}
use Rattle.model_eval_laws.proofs.Lists.{ValuesIn, OptionIn, scope_first, restored_widened, names_restored}
use Rattle.model_eval_laws.proofs.Frame.{Framed, ToFramed, GoFramed, RulesFrame, framed_evaluated}

module _ (others : Stobjs ℕ) where
  framed_answer : (ns : List ℕ) (f : ℕ) (values : List (Shown ℕ)) (state : State ℕ) (a : Applied) → names state.stobjs ≡ ns → Framed others ns (primitive_ended f values state a) (primitive_ended f values (widened others state) a)
  framed_answer ns f values state (prims.Gives o symbols) e = record { same = refl; kept = e; values = (tt, tt) }
  framed_answer ns f values state (prims.Stops prims.Guard) e = record { same = refl; kept = e; values = tt }
  framed_answer ns f values state (prims.Stops prims.Range) e = record { same = refl; kept = e; values = tt }
  framed_answer ns f values state (prims.Stops prims.Large) e = record { same = refl; kept = e; values = tt }
  framed_answer ns f values state (prims.Stops prims.Symbols) e = record { same = refl; kept = e; values = tt }

  framed_inside : (ns : List ℕ) (actuals : List (Shown ℕ)) (before : Stobjs ℕ) (x outer : ℕ) (r s : Outcome ℕ) → ValuesIn ns actuals → names before ≡ ns → Framed others ns r s
      → Framed others ns (inside_after lists_keeping actuals before x outer r) (inside_after lists_keeping actuals (before ++ others) x outer s)
  framed_inside ns actuals before x outer (Gives values state) s v e h =
      record { same = ap (inside_after lists_keeping actuals (before ++ others) x outer) h.same; kept = h.kept; values = h.values }
  framed_inside ns actuals before x outer (Stops stop origin state) s v e h =
      let i = scope_first ns actuals v in
      let known : OptionIn (names before) (first_stobj actuals) = subst (λ ms. OptionIn ms (first_stobj actuals)) (sym e) i in
      let still : OptionIn (names state.stobjs) (first_stobj actuals) = subst (λ ms. OptionIn ms (first_stobj actuals)) (sym h.kept) i in
      record {
        same = ap (inside_after lists_keeping actuals (before ++ others) x outer) h.same
            ∙ ap (λ (os : Stobjs ℕ). Stops stop (inside_of x origin) (record state { stobjs = os; outer = outer })) (restored_widened (first_stobj actuals) before state.stobjs others known still);
        kept = names_restored (first_stobj actuals) before state.stobjs ∙ h.kept;
        values = tt;
      }
  framed_inside ns actuals before x outer Unknown s v e h = record { same = ap (inside_after lists_keeping actuals (before ++ others) x outer) h.same; kept = tt; values = tt }

  framed_export : (limit : ℕ) (ns : List ℕ) (f : FunctionOfAbstract) (values : List (Shown ℕ)) (before : Stobjs ℕ) (go : State ℕ → Outcome ℕ) → ValuesIn ns values → names before ≡ ns → GoFramed others ns go
      → ToFramed others ns (checked_export lists_keeping limit f values before go) (checked_export lists_keeping limit f values (before ++ others) go)
  framed_export limit ns f values before go v n h state e = by_test (nat_lt state.calls limit)
    where
      by_test : (b : Bool) → Framed others ns (if b then inside_after lists_keeping values before f.name state.outer (go (one_more_call state)) else stops_here Steps state) (if b then inside_after lists_keeping values (before ++ others) f.name state.outer (go (one_more_call (widened others state))) else stops_here Steps (widened others state))
      by_test true = framed_inside ns values before f.name state.outer _ _ v n (h (one_more_call state) e)
      by_test false = record { same = refl; kept = e; values = tt }

  checked_frame : (w : World) (packages : List Package) (k : ℕ) → RulesFrame others (checked_rules w packages k)
  checked_frame w packages k = record {
    primitives = λ ns f p values state e. framed_answer ns f values state (applied (record { packages = packages; symbols = state.symbols }) p (ordinary values)) e;
    exports = framed_export k;
  }

  framed_checked : (w : World) (packages : List Package) (k d : ℕ) (form : Core) (variables : Variables ℕ) (state : State ℕ) → AllInScope (names state.stobjs) variables
      → Framed others (names state.stobjs) (checked w packages k d form variables state) (checked w packages k d form variables (widened others state))
  framed_checked w packages k d form variables state a =
      framed_evaluated others (checked_rules w packages k) (checked_frame w packages k) d form variables (names state.stobjs) a state refl

pub leaves_others : LeavesOthers
leaves_others = record {
  same = λ w packages k d form variables state others a. (framed_checked others w packages k d form variables state a).same;
  kept = λ w packages k d form variables state a. (framed_checked [] w packages k d form variables state a).kept;
}
