-- The conditions on `WITH-LOCAL-STOBJ` at each kind of form.
use Rattle.std.specs.Prelude.{◌≡◌, ℕ, ◌≤◌, List, Bool, true, false, not, refl}
use Rattle.std.proofs.Common.{ap, ◌∙◌, arith}
use Rattle.acl_base.specs.declared.SymId.{SymId}
use Rattle.acl_base.specs.declared.Word.{Word}
use Rattle.acl_heap.specs.Objects.{Objects}
use Rattle.model_terms.specs.Cores as cores
use Rattle.model_terms.specs.Worlds as worlds
use Rattle.model_terms.specs.Classes.{is_stobj_name, has}
use Rattle.model_terms.specs.Nested.{with_local_holds}
use Rattle.model_terms.specs.Rules.{s14_fails}
use Rattle.acl_terms.specs.Depths.{depth_of}
use Rattle.acl_terms.specs.declared.form.Core.{Core}
use Rattle.acl_terms.specs.declared.form.Core.TheViews as views
use Rattle.acl_terms.specs.declared.form.Core.TheVariants as variants
use Rattle.acl_terms.specs.Forms.{numbers, seen_core}
use Rattle.acl_terms.specs.FormLaws.{seen_var, seen_const, seen_if, seen_let, seen_mv, seen_mv_let, seen_stobj_let, seen_with_local, seen_must_be_equal, seen_call}
use Rattle.acl_nest.specs.Local.{names_hold}

module _ (w : worlds.World) (scope : worlds.Scope) (expected : List worlds.Out) (stobj : ℕ) (names : List ℕ) (producer : cores.Core) where
  pub local_apart : is_stobj_name w stobj ≡ false → with_local_holds w scope expected stobj names producer ≡ false
  unfolding with_local_holds
  local_apart h = rw h refl

  pub local_missing : is_stobj_name w stobj ≡ true → has names stobj ≡ false → with_local_holds w scope expected stobj names producer ≡ false
  unfolding with_local_holds
  local_missing h m = rw (h, m) refl

  pub local_there : is_stobj_name w stobj ≡ true → has names stobj ≡ true → with_local_holds w scope expected stobj names producer ≡ names_hold w scope expected stobj names producer
  unfolding with_local_holds
  local_there h m = rw (h, m) refl

not_not : (b : Bool) → not (not b) ≡ b
not_not true = refl
not_not false = refl

module _ (w : worlds.World) (scope : worlds.Scope) (expected : List worlds.Out) (h : Objects) where
  pub fails_var : (x : SymId) → not (s14_fails w scope expected (seen_core h (variants.Var x))) ≡ true
  fails_var x = ap (λ f. not (s14_fails w scope expected f)) (seen_var h x)

  pub fails_const : (v : Word) → not (s14_fails w scope expected (seen_core h (variants.Const v))) ≡ true
  fails_const v = ap (λ f. not (s14_fails w scope expected f)) (seen_const h v)

  pub fails_if : (a b c : Core) → not (s14_fails w scope expected (seen_core h (views.If a b c))) ≡ true
  fails_if a b c = ap (λ f. not (s14_fails w scope expected f)) (seen_if h a b c)

  pub fails_let : (bs : List (SymId × Core)) (b : Core) → not (s14_fails w scope expected (seen_core h (views.Let bs b))) ≡ true
  fails_let bs b = ap (λ f. not (s14_fails w scope expected f)) (seen_let h bs b)

  pub fails_mv : (parts : List Core) → not (s14_fails w scope expected (seen_core h (views.Mv parts))) ≡ true
  fails_mv parts = ap (λ f. not (s14_fails w scope expected f)) (seen_mv h parts)

  pub fails_mv_let : (names : List SymId) (a b : Core) → not (s14_fails w scope expected (seen_core h (views.MvLet names a b))) ≡ true
  fails_mv_let names a b = ap (λ f. not (s14_fails w scope expected f)) (seen_mv_let h names a b)

  pub fails_stobj_let : (bs : List (SymId × Core)) (vars : List SymId) (p c : Core) → not (s14_fails w scope expected (seen_core h (views.StobjLet bs vars p c))) ≡ true
  fails_stobj_let bs vars p c = ap (λ f. not (s14_fails w scope expected f)) (seen_stobj_let h bs vars p c)

  pub fails_must_be_equal : (a b : Core) → not (s14_fails w scope expected (seen_core h (views.MustBeEqual a b))) ≡ true
  fails_must_be_equal a b = ap (λ f. not (s14_fails w scope expected f)) (seen_must_be_equal h a b)

  pub fails_call : (f : SymId) (parts : List Core) → not (s14_fails w scope expected (seen_core h (views.Call f parts))) ≡ true
  fails_call f parts = ap (λ f. not (s14_fails w scope expected f)) (seen_call h f parts)

  pub fails_with_local : (stobj : SymId) (names : List SymId) (a b : Core)
      → not (s14_fails w scope expected (seen_core h (views.WithLocal stobj names a b))) ≡ with_local_holds w scope expected stobj.0 (numbers names) (seen_core h a)
  fails_with_local stobj names a b =
      ap (λ f. not (s14_fails w scope expected f)) (seen_with_local h stobj names a b) ∙ not_not (with_local_holds w scope expected stobj.0 (numbers names) (seen_core h a))

module _ (h : Objects) (n : ℕ) where
  pub producer_depth : (stobj : SymId) (names : List SymId) (a b : Core) → depth_of (seen_core h (views.WithLocal stobj names a b)) ≤ n → depth_of (seen_core h a) ≤ n
  producer_depth stobj names a b l = omega (arith, l, ap depth_of (seen_with_local h stobj names a b))
