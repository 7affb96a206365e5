-- The rule that fails at each variant of a form itself.
use Rattle.std.specs.Prelude.{◌≡◌, ℕ, List, [], ◌∷◌, length, Bool, true, false, ◌&&◌, ◌||◌, not, Option, Some, None, nat_eq, is_some, refl, if◌then◌else◌}
use Rattle.std.specs.Option.{option_map_or}
use Rattle.std.specs.List.{list_any}
use Rattle.model_objects.specs.Object.{Object}
use Rattle.model_terms.specs.declared.rule.Rule.TheVariants.{S1, S2, S3, S4, S5, S6, S7, S8, S9, S11, S12, S13, S14, S15, S16}
use Rattle.model_terms.specs.declared.rule.Mode.{Mode}
use Rattle.model_terms.specs.declared.rule.Mode.TheVariants.{Executable, Logic, Macro}
use Rattle.model_terms.specs.Cores.{Core, Cores, Var, Const, If, Let, Mv, MvLet, StobjLet, WithLocal, MustBeEqual, Call}
use Rattle.model_terms.specs.Worlds.{World, Out, Scope, definition}
use Rattle.model_terms.specs.Accessors.{is_internal, runs}
use Rattle.model_terms.specs.Classes.{is_stobj_name, repeats}
use Rattle.model_terms.specs.Nested.{same_kinds, stobjs_expected, stobj_let_holds, with_local_holds}
use Rattle.model_terms.specs.Outputs.{outs}
use Rattle.model_terms.specs.Scopes.{name_kinds}
use Rattle.model_terms.specs.Sites.{ins_of, one_ordinary}
use Rattle.model_terms.specs.Rules.{s1_fails, is_misplaced, s8_fails, any_gives_another, mv_fails, s11_fails, s15_fails}
use Rattle.acl_thread.specs.Own.{own_rule, full, when, object_variables}

module _ (w : World) (scope : Scope) (expected : List Out) where
  pub own_var : (mode : Mode) (formal : Option ℕ) (x : ℕ) → own_rule w mode scope (Var x) formal expected
      ≡ when (full mode && s1_fails w scope formal (Var x)) S1 (when (full mode && is_misplaced scope expected x) S3 (when (full mode && s8_fails w scope expected (Var x)) S8 (when (s11_fails w mode scope (Var x)) S11 (when (s15_fails w mode (Var x)) S15 None))))
  unfolding own_rule
  own_var Executable formal x = refl
  own_var Logic formal x = refl
  own_var Macro formal x = refl

  pub own_const : (mode : Mode) (formal : Option ℕ) (o : Object ℕ) → own_rule w mode scope (Const o) formal expected
      ≡ when (full mode && is_some formal) S1 (when (full mode && not (same_kinds one_ordinary expected)) S8 None)
  unfolding own_rule
  own_const Executable None o = refl
  own_const Executable (Some p) o = refl
  own_const Logic None o = refl
  own_const Logic (Some p) o = refl
  own_const Macro None o = refl
  own_const Macro (Some p) o = refl

  pub own_if : (mode : Mode) (formal : Option ℕ) (a b c : Core) → own_rule w mode scope (If a b c) formal expected
      ≡ when (full mode && is_some formal) S1 (when (full mode && not (same_kinds (outs w scope b) (outs w scope c))) S7 None)
  unfolding own_rule
  own_if Executable None a b c = refl
  own_if Executable (Some o) a b c = refl
  own_if Logic None a b c = refl
  own_if Logic (Some o) a b c = refl
  own_if Macro None a b c = refl
  own_if Macro (Some o) a b c = refl

  pub own_let : (mode : Mode) (formal : Option ℕ) (names : List ℕ) (bound : Cores) (body : Core) → own_rule w mode scope (Let names bound body) formal expected
      ≡ when (full mode && is_some formal) S1 (when (full mode && (list_any (is_stobj_name w) names && not (nat_eq (length names) 1))) S4 (when (full mode && any_gives_another w scope names bound) S5 (when (full mode && not (stobjs_expected (name_kinds w names) expected)) S6 None)))
  unfolding own_rule
  own_let Executable None names bound body = refl
  own_let Executable (Some o) names bound body = refl
  own_let Logic None names bound body = refl
  own_let Logic (Some o) names bound body = refl
  own_let Macro None names bound body = refl
  own_let Macro (Some o) names bound body = refl

  pub own_mv : (mode : Mode) (formal : Option ℕ) (parts : Cores) → own_rule w mode scope (Mv parts) formal expected
      ≡ when (full mode && is_some formal) S1 (when (full mode && mv_fails expected parts) S9 None)
  unfolding own_rule
  own_mv Executable None parts = refl
  own_mv Executable (Some o) parts = refl
  own_mv Logic None parts = refl
  own_mv Logic (Some o) parts = refl
  own_mv Macro None parts = refl
  own_mv Macro (Some o) parts = refl

  pub own_mv_let : (mode : Mode) (formal : Option ℕ) (names : List ℕ) (bound body : Core) → own_rule w mode scope (MvLet names bound body) formal expected
      ≡ when (full mode && is_some formal) S1 (when (full mode && not (stobjs_expected (name_kinds w names) expected)) S6 (when (full mode && not (same_kinds (outs w scope bound) (name_kinds w names))) S9 None))
  unfolding own_rule
  own_mv_let Executable None names bound body = refl
  own_mv_let Executable (Some o) names bound body = refl
  own_mv_let Logic None names bound body = refl
  own_mv_let Logic (Some o) names bound body = refl
  own_mv_let Macro None names bound body = refl
  own_mv_let Macro (Some o) names bound body = refl

  pub own_stobj_let : (mode : Mode) (formal : Option ℕ) (names : List ℕ) (bound : Cores) (vars : List ℕ) (producer consumer : Core) → own_rule w mode scope (StobjLet names bound vars producer consumer) formal expected
      ≡ when (full mode && is_some formal) S1 (when (full mode && not (stobj_let_holds w scope expected names bound vars)) S13 (when (not (full mode)) S16 None))
  unfolding own_rule
  own_stobj_let Executable None names bound vars producer consumer = refl
  own_stobj_let Executable (Some o) names bound vars producer consumer = refl
  own_stobj_let Logic None names bound vars producer consumer = refl
  own_stobj_let Logic (Some o) names bound vars producer consumer = refl
  own_stobj_let Macro None names bound vars producer consumer = refl
  own_stobj_let Macro (Some o) names bound vars producer consumer = refl

  pub own_with_local : (mode : Mode) (formal : Option ℕ) (stobj : ℕ) (names : List ℕ) (producer body : Core) → own_rule w mode scope (WithLocal stobj names producer body) formal expected
      ≡ when (full mode && is_some formal) S1 (when (full mode && not (with_local_holds w scope expected stobj names producer)) S14 (when (not (full mode)) S16 None))
  unfolding own_rule
  own_with_local Executable None stobj names producer body = refl
  own_with_local Executable (Some o) stobj names producer body = refl
  own_with_local Logic None stobj names producer body = refl
  own_with_local Logic (Some o) stobj names producer body = refl
  own_with_local Macro None stobj names producer body = refl
  own_with_local Macro (Some o) stobj names producer body = refl

  pub own_must_be_equal : (mode : Mode) (formal : Option ℕ) (logic exec : Core) → own_rule w mode scope (MustBeEqual logic exec) formal expected
      ≡ when (full mode && is_some formal) S1 (when (full mode && not (same_kinds (outs w scope logic) (outs w scope exec))) S7 None)
  unfolding own_rule
  own_must_be_equal Executable None logic exec = refl
  own_must_be_equal Executable (Some o) logic exec = refl
  own_must_be_equal Logic None logic exec = refl
  own_must_be_equal Logic (Some o) logic exec = refl
  own_must_be_equal Macro None logic exec = refl
  own_must_be_equal Macro (Some o) logic exec = refl

  pub own_call : (mode : Mode) (formal : Option ℕ) (f : ℕ) (actuals : Cores) → own_rule w mode scope (Call f actuals) formal expected
      ≡ when (full mode && is_some formal) S1 (when (full mode && repeats (object_variables (ins_of w f) actuals)) S2 (when (full mode && not (same_kinds (outs w scope (Call f actuals)) expected)) S8 (when (full mode && option_map_or (is_internal w) (definition w f) false) S12 (when (full mode && not (runs w f)) S16 None))))
  unfolding own_rule
  own_call Executable None f actuals = refl
  own_call Executable (Some o) f actuals = refl
  own_call Logic None f actuals = refl
  own_call Logic (Some o) f actuals = refl
  own_call Macro None f actuals = refl
  own_call Macro (Some o) f actuals = refl
