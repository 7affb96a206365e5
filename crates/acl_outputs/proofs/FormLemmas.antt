-- The outputs of each variant of a form, and how deep its parts are.
use Rattle.std.specs.Prelude.{◌≡◌, ℕ, ◌≤◌, List, [], ◌∷◌, Option, Some, option_map, refl}
use Rattle.std.specs.Option.{option_or}
use Rattle.std.proofs.Common.{sym, ap, ◌∙◌, arith}
use Rattle.acl_base.specs.declared.SymId.{SymId}
use Rattle.acl_base.specs.declared.Word.{Word}
use Rattle.acl_heap.specs.Objects.{Objects, object_of}
use Rattle.model_terms.specs.Cores as cores
use Rattle.model_terms.specs.Worlds as worlds
use Rattle.model_terms.specs.Scopes.{kind_of, binding, consumer_scope, body_scope}
use Rattle.model_terms.specs.Outputs.{Known, outputs, part_kinds, call_outs, signature_of}
use Rattle.acl_terms.specs.Depths.{depth_of}
use Rattle.acl_terms.specs.declared.form.Core.{Core}
use Rattle.acl_terms.specs.declared.form.Core.TheViews as views
use Rattle.acl_terms.specs.declared.form.Core.TheVariants as variants
use Rattle.acl_terms.specs.Forms.{numbers, bound_names, seen_core, seen_cores, seen_bound}
use Rattle.acl_terms.specs.FormLaws.{seen_var, seen_const, seen_if, seen_let, seen_mv, seen_mv_let, seen_stobj_let, seen_with_local, seen_must_be_equal, seen_call}

module _ (w : worlds.World) (known : Known) (scope : worlds.Scope) (h : Objects) where
  of_var : (x : SymId) → outputs w known scope (cores.Var x.0) ≡ Some (kind_of scope x.0 ∷ [])
  unfolding outputs
  of_var x = refl

  pub out_var : (x : SymId) → outputs w known scope (seen_core h (variants.Var x)) ≡ Some (kind_of scope x.0 ∷ [])
  out_var x = ap (outputs w known scope) (seen_var h x) ∙ of_var x

  of_const : (v : Word) → outputs w known scope (cores.Const (object_of h v)) ≡ Some (worlds.Ordinary ∷ [])
  unfolding outputs
  of_const v = refl

  pub out_const : (v : Word) → outputs w known scope (seen_core h (variants.Const v)) ≡ Some (worlds.Ordinary ∷ [])
  out_const v = ap (outputs w known scope) (seen_const h v) ∙ of_const v

  of_if : (a b c : Core) → outputs w known scope (cores.If (seen_core h a) (seen_core h b) (seen_core h c)) ≡ option_or (outputs w known scope (seen_core h b)) (outputs w known scope (seen_core h c))
  unfolding outputs
  of_if a b c = refl

  pub out_if : (a b c : Core) → outputs w known scope (seen_core h (views.If a b c)) ≡ option_or (outputs w known scope (seen_core h b)) (outputs w known scope (seen_core h c))
  out_if a b c = ap (outputs w known scope) (seen_if h a b c) ∙ of_if a b c

  of_let : (bs : List (SymId × Core)) (b : Core) → outputs w known scope (cores.Let (bound_names bs) (cores.cores (seen_bound h bs)) (seen_core h b)) ≡ outputs w known (binding w scope (bound_names bs)) (seen_core h b)
  unfolding outputs
  of_let bs b = refl

  pub out_let : (bs : List (SymId × Core)) (b : Core) → outputs w known scope (seen_core h (views.Let bs b)) ≡ outputs w known (binding w scope (bound_names bs)) (seen_core h b)
  out_let bs b = ap (outputs w known scope) (seen_let h bs b) ∙ of_let bs b

  of_mv : (parts : List Core) → outputs w known scope (cores.Mv (cores.cores (seen_cores h parts))) ≡ Some (part_kinds scope (cores.cores (seen_cores h parts)))
  unfolding outputs
  of_mv parts = refl

  pub out_mv : (parts : List Core) → outputs w known scope (seen_core h (views.Mv parts)) ≡ Some (part_kinds scope (cores.cores (seen_cores h parts)))
  out_mv parts = ap (outputs w known scope) (seen_mv h parts) ∙ of_mv parts

  of_mv_let : (names : List SymId) (a b : Core) → outputs w known scope (cores.MvLet (numbers names) (seen_core h a) (seen_core h b)) ≡ outputs w known (binding w scope (numbers names)) (seen_core h b)
  unfolding outputs
  of_mv_let names a b = refl

  pub out_mv_let : (names : List SymId) (a b : Core) → outputs w known scope (seen_core h (views.MvLet names a b)) ≡ outputs w known (binding w scope (numbers names)) (seen_core h b)
  out_mv_let names a b = ap (outputs w known scope) (seen_mv_let h names a b) ∙ of_mv_let names a b

  of_stobj_let : (bs : List (SymId × Core)) (vars : List SymId) (p c : Core) → outputs w known scope (cores.StobjLet (bound_names bs) (cores.cores (seen_bound h bs)) (numbers vars) (seen_core h p) (seen_core h c)) ≡ outputs w known (consumer_scope w scope (bound_names bs) (numbers vars)) (seen_core h c)
  unfolding outputs
  of_stobj_let bs vars p c = refl

  pub out_stobj_let : (bs : List (SymId × Core)) (vars : List SymId) (p c : Core) → outputs w known scope (seen_core h (views.StobjLet bs vars p c)) ≡ outputs w known (consumer_scope w scope (bound_names bs) (numbers vars)) (seen_core h c)
  out_stobj_let bs vars p c = ap (outputs w known scope) (seen_stobj_let h bs vars p c) ∙ of_stobj_let bs vars p c

  of_with_local : (stobj : SymId) (names : List SymId) (a b : Core) → outputs w known scope (cores.WithLocal stobj.0 (numbers names) (seen_core h a) (seen_core h b)) ≡ outputs w known (body_scope w scope stobj.0 (numbers names)) (seen_core h b)
  unfolding outputs
  of_with_local stobj names a b = refl

  pub out_with_local : (stobj : SymId) (names : List SymId) (a b : Core) → outputs w known scope (seen_core h (views.WithLocal stobj names a b)) ≡ outputs w known (body_scope w scope stobj.0 (numbers names)) (seen_core h b)
  out_with_local stobj names a b = ap (outputs w known scope) (seen_with_local h stobj names a b) ∙ of_with_local stobj names a b

  of_must_be_equal : (a b : Core) → outputs w known scope (cores.MustBeEqual (seen_core h a) (seen_core h b)) ≡ outputs w known scope (seen_core h a)
  unfolding outputs
  of_must_be_equal a b = refl

  pub out_must_be_equal : (a b : Core) → outputs w known scope (seen_core h (views.MustBeEqual a b)) ≡ outputs w known scope (seen_core h a)
  out_must_be_equal a b = ap (outputs w known scope) (seen_must_be_equal h a b) ∙ of_must_be_equal a b

  of_call : (f : SymId) (parts : List Core) → outputs w known scope (cores.Call f.0 (cores.cores (seen_cores h parts))) ≡ option_map (λ s. call_outs w s (cores.cores (seen_cores h parts))) (signature_of w known f.0)
  unfolding outputs
  of_call f parts = refl

  pub out_call : (f : SymId) (parts : List Core) → outputs w known scope (seen_core h (views.Call f parts)) ≡ option_map (λ s. call_outs w s (cores.cores (seen_cores h parts))) (signature_of w known f.0)
  out_call f parts = ap (outputs w known scope) (seen_call h f parts) ∙ of_call f parts

  -- from a variant to the form that it is
  pub then_seen : (core view : Core) (r o : Option (List worlds.Out)) → core ≡ view → outputs w known scope (seen_core h view) ≡ o → r ≡ o → r ≡ outputs w known scope (seen_core h core)
  then_seen core view r o e v q = q ∙ (sym v ∙ ap (λ f. outputs w known scope (seen_core h f)) (sym e))

-- ---- depth

module _ (h : Objects) (n : ℕ) where
  pub then_depth : (a b c : Core) → depth_of (seen_core h (views.If a b c)) ≤ n → depth_of (seen_core h b) ≤ n
  then_depth a b c l = omega (arith, l, ap depth_of (seen_if h a b c))

  pub else_depth : (a b c : Core) → depth_of (seen_core h (views.If a b c)) ≤ n → depth_of (seen_core h c) ≤ n
  else_depth a b c l = omega (arith, l, ap depth_of (seen_if h a b c))

  pub let_depth : (bs : List (SymId × Core)) (b : Core) → depth_of (seen_core h (views.Let bs b)) ≤ n → depth_of (seen_core h b) ≤ n
  let_depth bs b l = omega (arith, l, ap depth_of (seen_let h bs b))

  pub mv_let_depth : (names : List SymId) (a b : Core) → depth_of (seen_core h (views.MvLet names a b)) ≤ n → depth_of (seen_core h b) ≤ n
  mv_let_depth names a b l = omega (arith, l, ap depth_of (seen_mv_let h names a b))

  pub stobj_let_depth : (bs : List (SymId × Core)) (vars : List SymId) (p c : Core) → depth_of (seen_core h (views.StobjLet bs vars p c)) ≤ n → depth_of (seen_core h c) ≤ n
  stobj_let_depth bs vars p c l = omega (arith, l, ap depth_of (seen_stobj_let h bs vars p c))

  pub with_local_depth : (stobj : SymId) (names : List SymId) (a b : Core) → depth_of (seen_core h (views.WithLocal stobj names a b)) ≤ n → depth_of (seen_core h b) ≤ n
  with_local_depth stobj names a b l = omega (arith, l, ap depth_of (seen_with_local h stobj names a b))

  pub must_be_equal_depth : (a b : Core) → depth_of (seen_core h (views.MustBeEqual a b)) ≤ n → depth_of (seen_core h a) ≤ n
  must_be_equal_depth a b l = omega (arith, l, ap depth_of (seen_must_be_equal h a b))

pub var_shallow : (h : Objects) (x : SymId) → depth_of (seen_core h (variants.Var x)) ≤ 2048
var_shallow h x = omega (arith, ap depth_of (seen_var h x))
