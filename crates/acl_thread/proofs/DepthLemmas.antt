-- The parts of a form are less deep than it.
use Rattle.std.specs.Prelude.{◌≡◌, ℕ, zero, suc, ◌+◌, ◌<◌, ◌≤◌, List, [], ◌∷◌, length, max}
use Rattle.std.proofs.Common.{sym, ap, subst, arith, get_or}
use Rattle.acl_base.specs.declared.SymId.{SymId}
use Rattle.acl_heap.specs.Objects.{Objects}
use Rattle.model_terms.specs.Cores as cores
use Rattle.acl_terms.specs.declared.form.Core.{Core}
use Rattle.acl_terms.specs.declared.form.Core.TheViews as views
use Rattle.acl_terms.specs.Depths.{depth_of, depth_of_all}
use Rattle.acl_terms.specs.Forms.{seen_core, seen_cores, seen_bound}
use Rattle.acl_terms.specs.FormLaws.{seen_if, seen_let, seen_mv, seen_mv_let, seen_stobj_let, seen_with_local, seen_must_be_equal, seen_call}
use Rattle.acl_thread.proofs.SizeLemmas.{deep_at, deep_bound_at}

module _ (h : Objects) where
  abbrev deep : Core → ℕ
  deep f = depth_of (seen_core h f)

  pub child_falls : (core view x a : Core) → core ≡ view → x ≡ a → deep a < deep view → deep x + deep x < deep core + deep core
  child_falls core view x a e s l = let p = ap deep e in let q = ap deep s in omega (arith, p, q, l)

  pub parts_fall : (core view : Core) (xs fs : List Core) → core ≡ view → xs ≡ fs → depth_of_all (cores.cores (seen_cores h fs)) < deep view
      → depth_of_all (cores.cores (seen_cores h xs)) + depth_of_all (cores.cores (seen_cores h xs)) + 1 < deep core + deep core
  parts_fall core view xs fs e s l = let p = ap deep e in let q = ap (λ (ys : List Core). depth_of_all (cores.cores (seen_cores h ys))) s in omega (arith, p, q, l)

  pub bound_falls : (core view : Core) (xs bs : List (SymId × Core)) → core ≡ view → xs ≡ bs → depth_of_all (cores.cores (seen_bound h bs)) < deep view
      → depth_of_all (cores.cores (seen_bound h xs)) + depth_of_all (cores.cores (seen_bound h xs)) + 1 < deep core + deep core
  bound_falls core view xs bs e s l = let p = ap deep e in let q = ap (λ (ys : List (SymId × Core)). depth_of_all (cores.cores (seen_bound h ys))) s in omega (arith, p, q, l)

  pub part_falls : (fs : List Core) (i : ℕ) (x : Core) → i < length fs → x ≡ get_or fs i x → deep x + deep x < depth_of_all (cores.cores (seen_cores h fs)) + depth_of_all (cores.cores (seen_cores h fs)) + 1
  part_falls fs i x l e = let p = ap deep e in let q = deep_at h fs i x l in omega (arith, p, q)

  pub binding_falls : (bs : List (SymId × Core)) (i : ℕ) (x : SymId × Core) → i < length bs → x ≡ get_or bs i x
      → deep x.1 + deep x.1 < depth_of_all (cores.cores (seen_bound h bs)) + depth_of_all (cores.cores (seen_bound h bs)) + 1
  binding_falls bs i x l e = let p = ap (λ (y : SymId × Core). deep y.1) e in let q = deep_bound_at h bs i x l in omega (arith, p, q)

  pub test_falls : (a b c : Core) → deep a < deep (views.If a b c)
  test_falls a b c = omega (arith, ap depth_of (seen_if h a b c))

  pub then_falls : (a b c : Core) → deep b < deep (views.If a b c)
  then_falls a b c = omega (arith, ap depth_of (seen_if h a b c))

  pub other_falls : (a b c : Core) → deep c < deep (views.If a b c)
  other_falls a b c = omega (arith, ap depth_of (seen_if h a b c))

  pub body_falls : (bs : List (SymId × Core)) (b : Core) → deep b < deep (views.Let bs b)
  body_falls bs b = omega (arith, ap depth_of (seen_let h bs b))

  pub let_falls : (bs : List (SymId × Core)) (b : Core) → depth_of_all (cores.cores (seen_bound h bs)) < deep (views.Let bs b)
  let_falls bs b = omega (arith, ap depth_of (seen_let h bs b))

  pub mv_falls : (fs : List Core) → depth_of_all (cores.cores (seen_cores h fs)) < deep (views.Mv fs)
  mv_falls fs = omega (arith, ap depth_of (seen_mv h fs))

  pub given_falls : (names : List SymId) (a b : Core) → deep a < deep (views.MvLet names a b)
  given_falls names a b = omega (arith, ap depth_of (seen_mv_let h names a b))

  pub mv_body_falls : (names : List SymId) (a b : Core) → deep b < deep (views.MvLet names a b)
  mv_body_falls names a b = omega (arith, ap depth_of (seen_mv_let h names a b))

  pub producer_falls : (bs : List (SymId × Core)) (vars : List SymId) (p c : Core) → deep p < deep (views.StobjLet bs vars p c)
  producer_falls bs vars p c = omega (arith, ap depth_of (seen_stobj_let h bs vars p c))

  pub consumer_falls : (bs : List (SymId × Core)) (vars : List SymId) (p c : Core) → deep c < deep (views.StobjLet bs vars p c)
  consumer_falls bs vars p c = omega (arith, ap depth_of (seen_stobj_let h bs vars p c))

  pub local_falls : (stobj : SymId) (names : List SymId) (a b : Core) → deep a < deep (views.WithLocal stobj names a b)
  local_falls stobj names a b = omega (arith, ap depth_of (seen_with_local h stobj names a b))

  pub local_body_falls : (stobj : SymId) (names : List SymId) (a b : Core) → deep b < deep (views.WithLocal stobj names a b)
  local_body_falls stobj names a b = omega (arith, ap depth_of (seen_with_local h stobj names a b))

  pub logic_falls : (a b : Core) → deep a < deep (views.MustBeEqual a b)
  logic_falls a b = omega (arith, ap depth_of (seen_must_be_equal h a b))

  pub exec_falls : (a b : Core) → deep b < deep (views.MustBeEqual a b)
  exec_falls a b = omega (arith, ap depth_of (seen_must_be_equal h a b))

  pub call_falls : (g : SymId) (fs : List Core) → depth_of_all (cores.cores (seen_cores h fs)) < deep (views.Call g fs)
  call_falls g fs = omega (arith, ap depth_of (seen_call h g fs))
