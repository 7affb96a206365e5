-- What fails at each variant of a form itself, as laws.
use Rattle.std.specs.Prelude.{◌≡◌, ℕ, List, [], ◌∷◌, length, Bool, true, false, ◌&&◌, ◌||◌, not, Option, Some, None, nat_eq, is_some, refl, if◌then◌else◌}
use Rattle.std.specs.Option.{option_map_or}
use Rattle.std.specs.List.{list_any}
use Rattle.model_objects.specs.Object.{Object}
use Rattle.model_terms.specs.declared.rule.Rule.TheVariants.{S1, S2, S3, S4, S5, S6, S7, S8, S9, S11, S12, S13, S14, S15, S16}
use Rattle.model_terms.specs.declared.rule.Mode.{Mode}
use Rattle.model_terms.specs.declared.rule.Mode.TheVariants.{Executable, Logic, Macro}
use Rattle.model_terms.specs.Cores.{Core, Cores, Var, Const, If, Let, Mv, MvLet, StobjLet, WithLocal, MustBeEqual, Call}
use Rattle.model_terms.specs.Worlds.{World, Out, Scope, definition}
use Rattle.model_terms.specs.Accessors.{is_internal, runs}
use Rattle.model_terms.specs.Classes.{is_stobj_name, repeats}
use Rattle.model_terms.specs.Nested.{same_kinds, stobjs_expected, stobj_let_holds, with_local_holds}
use Rattle.model_terms.specs.Outputs.{outs}
use Rattle.model_terms.specs.Scopes.{name_kinds}
use Rattle.model_terms.specs.Sites.{ins_of, one_ordinary}
use Rattle.model_terms.specs.Rules.{s1_fails, is_misplaced, s8_fails, any_gives_another, mv_fails, s11_fails, s15_fails}
use Rattle.acl_thread.specs.Own.{own_rule, full, when, object_variables}

-- at each variant the rule that fails is the first of those that its conditions say
pub record AreOwn : Type 0 where
  pub var : (w : World) (scope : Scope) (expected : List Out) (mode : Mode) (formal : Option ℕ) (x : ℕ) → own_rule w mode scope (Var x) formal expected
      ≡ when (full mode && s1_fails w scope formal (Var x)) S1 (when (full mode && is_misplaced scope expected x) S3 (when (full mode && s8_fails w scope expected (Var x)) S8 (when (s11_fails w mode scope (Var x)) S11 (when (s15_fails w mode (Var x)) S15 None))))
  pub const : (w : World) (scope : Scope) (expected : List Out) (mode : Mode) (formal : Option ℕ) (o : Object ℕ) → own_rule w mode scope (Const o) formal expected
      ≡ when (full mode && is_some formal) S1 (when (full mode && not (same_kinds one_ordinary expected)) S8 None)
  pub if_ : (w : World) (scope : Scope) (expected : List Out) (mode : Mode) (formal : Option ℕ) (a b c : Core) → own_rule w mode scope (If a b c) formal expected
      ≡ when (full mode && is_some formal) S1 (when (full mode && not (same_kinds (outs w scope b) (outs w scope c))) S7 None)
  pub let_ : (w : World) (scope : Scope) (expected : List Out) (mode : Mode) (formal : Option ℕ) (names : List ℕ) (bound : Cores) (body : Core) → own_rule w mode scope (Let names bound body) formal expected
      ≡ when (full mode && is_some formal) S1 (when (full mode && (list_any (is_stobj_name w) names && not (nat_eq (length names) 1))) S4 (when (full mode && any_gives_another w scope names bound) S5 (when (full mode && not (stobjs_expected (name_kinds w names) expected)) S6 None)))
  pub mv : (w : World) (scope : Scope) (expected : List Out) (mode : Mode) (formal : Option ℕ) (parts : Cores) → own_rule w mode scope (Mv parts) formal expected
      ≡ when (full mode && is_some formal) S1 (when (full mode && mv_fails expected parts) S9 None)
  pub mv_let : (w : World) (scope : Scope) (expected : List Out) (mode : Mode) (formal : Option ℕ) (names : List ℕ) (bound body : Core) → own_rule w mode scope (MvLet names bound body) formal expected
      ≡ when (full mode && is_some formal) S1 (when (full mode && not (stobjs_expected (name_kinds w names) expected)) S6 (when (full mode && not (same_kinds (outs w scope bound) (name_kinds w names))) S9 None))
  pub stobj_let : (w : World) (scope : Scope) (expected : List Out) (mode : Mode) (formal : Option ℕ) (names : List ℕ) (bound : Cores) (vars : List ℕ) (producer consumer : Core) → own_rule w mode scope (StobjLet names bound vars producer consumer) formal expected
      ≡ when (full mode && is_some formal) S1 (when (full mode && not (stobj_let_holds w scope expected names bound vars)) S13 (when (not (full mode)) S16 None))
  pub with_local : (w : World) (scope : Scope) (expected : List Out) (mode : Mode) (formal : Option ℕ) (stobj : ℕ) (names : List ℕ) (producer body : Core) → own_rule w mode scope (WithLocal stobj names producer body) formal expected
      ≡ when (full mode && is_some formal) S1 (when (full mode && not (with_local_holds w scope expected stobj names producer)) S14 (when (not (full mode)) S16 None))
  pub must_be_equal : (w : World) (scope : Scope) (expected : List Out) (mode : Mode) (formal : Option ℕ) (logic exec : Core) → own_rule w mode scope (MustBeEqual logic exec) formal expected
      ≡ when (full mode && is_some formal) S1 (when (full mode && not (same_kinds (outs w scope logic) (outs w scope exec))) S7 None)
  pub call : (w : World) (scope : Scope) (expected : List Out) (mode : Mode) (formal : Option ℕ) (f : ℕ) (actuals : Cores) → own_rule w mode scope (Call f actuals) formal expected
      ≡ when (full mode && is_some formal) S1 (when (full mode && repeats (object_variables (ins_of w f) actuals)) S2 (when (full mode && not (same_kinds (outs w scope (Call f actuals)) expected)) S8 (when (full mode && option_map_or (is_internal w) (definition w f) false) S12 (when (full mode && not (runs w f)) S16 None))))
