-- What is accepted as the body of a macro is accepted as that of a function that runs.
use Rattle.std.specs.Prelude.{◌≡◌, ℕ, List, [], ◌∷◌, Bool, true, false, ◌&&◌, not, Option, None, refl}
use Rattle.std.specs.List.{AllByRecursion}
use Rattle.model_terms.specs.declared.rule.Rule.{Rule}
use Rattle.model_terms.specs.declared.rule.Rule.TheVariants.{S1, S2, S3, S4, S5, S6, S7, S8, S9, S10, S11, S12, S13, S14, S15, S16}
use Rattle.model_terms.specs.declared.rule.Mode.TheVariants.{Executable, Macro}
use Rattle.model_terms.specs.Cores as cores
use Rattle.model_terms.specs.Cores.{Core}
use Rattle.model_terms.specs.Worlds.{World, Out, Scope}
use Rattle.model_terms.specs.Classes.{is_stobj_name}
use Rattle.model_terms.specs.Scopes.{in_scope}
use Rattle.model_terms.specs.Sites.{Site, Placed, sites}
use Rattle.model_terms.specs.Rules.{fails, s11_fails, s15_fails, s16_fails}
use Rattle.model_terms.specs.Faults.{first_fault}
use Rattle.model_terms_laws.specs.Laws.{AllHold}
use Rattle.model_terms_laws.proofs.FirstLemmas.{finds_first}
use Rattle.model_macro_bodies.specs.Laws.{BodiesAreExecutable}

by_names : (in_it stobj : Bool) → (not in_it && not stobj) ≡ false → stobj ≡ false → not in_it ≡ false
by_names true stobj a b = refl
by_names false true a b = cc
by_names false false a b = cc

in_scope_holds : (w : World) (scope : Scope) (f : Core) → s11_fails w Macro scope f ≡ false → s15_fails w Macro f ≡ false → s11_fails w Executable scope f ≡ false
in_scope_holds w scope (cores.Var x) a b = by_names (in_scope scope x) (is_stobj_name w x) a b
in_scope_holds w scope (cores.Const o) a b = refl
in_scope_holds w scope (cores.If f g h) a b = refl
in_scope_holds w scope (cores.Let xs bound body) a b = refl
in_scope_holds w scope (cores.Mv parts) a b = refl
in_scope_holds w scope (cores.MvLet xs bound body) a b = refl
in_scope_holds w scope (cores.StobjLet xs bound vars producer consumer) a b = refl
in_scope_holds w scope (cores.WithLocal stobj xs producer body) a b = refl
in_scope_holds w scope (cores.MustBeEqual logic exec) a b = refl
in_scope_holds w scope (cores.Call f actuals) a b = refl

no_stobj_rule : (w : World) (f : Core) → s15_fails w Executable f ≡ false
no_stobj_rule w (cores.Var x) = refl
no_stobj_rule w (cores.Const o) = refl
no_stobj_rule w (cores.If f g h) = refl
no_stobj_rule w (cores.Let xs bound body) = refl
no_stobj_rule w (cores.Mv parts) = refl
no_stobj_rule w (cores.MvLet xs bound body) = refl
no_stobj_rule w (cores.StobjLet xs bound vars producer consumer) = refl
no_stobj_rule w (cores.WithLocal stobj xs producer body) = refl
no_stobj_rule w (cores.MustBeEqual logic exec) = refl
no_stobj_rule w (cores.Call f actuals) = refl

runs_holds : (w : World) (f : Core) → s16_fails w Macro f ≡ false → s16_fails w Executable f ≡ false
runs_holds w (cores.Var x) a = refl
runs_holds w (cores.Const o) a = refl
runs_holds w (cores.If f g h) a = refl
runs_holds w (cores.Let xs bound body) a = refl
runs_holds w (cores.Mv parts) a = refl
runs_holds w (cores.MvLet xs bound body) a = refl
runs_holds w (cores.StobjLet xs bound vars producer consumer) a = refl
runs_holds w (cores.WithLocal stobj xs producer body) a = refl
runs_holds w (cores.MustBeEqual logic exec) a = refl
runs_holds w (cores.Call f actuals) a = a

module _ (w : World) (s : Site) (a : (r : Rule) → fails w Macro r s ≡ false) where
  rule_holds : (r : Rule) → fails w Executable r s ≡ false
  rule_holds S1 = a S1
  rule_holds S2 = a S2
  rule_holds S3 = a S3
  rule_holds S4 = a S4
  rule_holds S5 = a S5
  rule_holds S6 = a S6
  rule_holds S7 = a S7
  rule_holds S8 = a S8
  rule_holds S9 = a S9
  rule_holds S10 = a S10
  rule_holds S11 = in_scope_holds w s.scope s.form (a S11) (a S15)
  rule_holds S12 = a S12
  rule_holds S13 = a S13
  rule_holds S14 = a S14
  rule_holds S15 = no_stobj_rule w s.form
  rule_holds S16 = runs_holds w s.form (a S16)

all_rules_hold : (w : World) (ps : List Placed) → AllByRecursion (AllHold w Macro) ps → AllByRecursion (AllHold w Executable) ps
all_rules_hold w [] a = tt
all_rules_hold w (p ∷ ps) a = (rule_holds w p.site a.0, all_rules_hold w ps a.1)

pub executable_form : (c : World) (scope : Scope) (f : Core) (expected : List Out) → first_fault c Macro scope f expected ≡ None → first_fault c Executable scope f expected ≡ None
executable_form c scope f expected n =
    (finds_first.missing c Executable scope f expected).1 (all_rules_hold c (sites c scope f expected) ((finds_first.missing c Macro scope f expected).0 n))

pub bodies_are_executable : BodiesAreExecutable
bodies_are_executable = record { form = executable_form }
