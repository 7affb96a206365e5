-- Parts of a form are no larger than it.
use Rattle.std.specs.Prelude.{◌≡◌, ℕ, zero, suc, ◌+◌, ◌^◌, ◌<◌, ◌≤◌, List, [], ◌∷◌, map, max, length, refl}
use Rattle.std.proofs.Common.{sym, ap, ◌∙◌, arith, get_or}
use Rattle.acl_base.specs.declared.SymId.{SymId}
use Rattle.acl_heap.specs.Objects.{Objects}
use Rattle.model_terms.specs.Cores as cores
use Rattle.model_terms.specs.Cores.{count}
use Rattle.acl_terms.specs.declared.form.Core.{Core}
use Rattle.acl_terms.specs.declared.form.Core.TheOpen as layer
use Rattle.acl_terms.specs.declared.form.Core.TheShapes as shapes
use Rattle.acl_terms.specs.declared.form.Core.TheViews as views
use Rattle.acl_terms.specs.declared.form.Core.TheVariants as variants
use Rattle.acl_terms.specs.declared.form.Core.TheFolds.{fold-roll-Core}
use Rattle.acl_terms.specs.Depths.{depth_of, depth_of_all}
use Rattle.acl_terms.specs.Forms.{numbers, bound_names, bound_parts, most, core_reach, layer_reach, seen_core, seen_cores, seen_bound, CoreLies}
use Rattle.acl_terms.specs.FormLaws.{seen_if, seen_let, seen_mv, seen_mv_let, seen_stobj_let, seen_with_local, seen_must_be_equal, seen_call}
use Rattle.acl_nest.specs.Bindings.{BoundLie}
use Rattle.acl_thread.specs.Sizes.{width_of, width_of_all, Fits, FitParts, FitBound}

-- ---- words

pub if_reach : (a b c : Core) → core_reach (views.If a b c) ≡ max (core_reach a) (max (core_reach b) (core_reach c))
if_reach a b c = ap core_reach (sym (variants.rolls-If a b c)) ∙ fold-roll-Core ℕ layer_reach (layer.If a b c)

pub mv_reach : (parts : List Core) → core_reach (views.Mv parts) ≡ most (map core_reach parts)
mv_reach parts = ap core_reach (sym (variants.rolls-Mv parts)) ∙ fold-roll-Core ℕ layer_reach (layer.Mv parts)

pub mv_let_reach : (names : List SymId) (a b : Core) → core_reach (views.MvLet names a b) ≡ max (core_reach a) (core_reach b)
mv_let_reach names a b = ap core_reach (sym (variants.rolls-MvLet names a b)) ∙ fold-roll-Core ℕ layer_reach (layer.MvLet names a b)

pub with_local_reach : (stobj : SymId) (names : List SymId) (a b : Core) → core_reach (views.WithLocal stobj names a b) ≡ max (core_reach a) (core_reach b)
with_local_reach stobj names a b = ap core_reach (sym (variants.rolls-WithLocal stobj names a b)) ∙ fold-roll-Core ℕ layer_reach (layer.WithLocal stobj names a b)

pub must_be_equal_reach : (a b : Core) → core_reach (views.MustBeEqual a b) ≡ max (core_reach a) (core_reach b)
must_be_equal_reach a b = ap core_reach (sym (variants.rolls-MustBeEqual a b)) ∙ fold-roll-Core ℕ layer_reach (layer.MustBeEqual a b)

pub call_reach : (f : SymId) (parts : List Core) → core_reach (views.Call f parts) ≡ most (map core_reach parts)
call_reach f parts = ap core_reach (sym (variants.rolls-Call f parts)) ∙ fold-roll-Core ℕ layer_reach (layer.Call f parts)

abbrev reaches : List (SymId × Core) → List ℕ
reaches bs = bound_parts (map (shapes.former-Core-Let-0-at-2.map Core ℕ core_reach) bs)

same_reaches : (bs : List (SymId × Core)) → reaches bs ≡ map (λ (b : SymId × Core). core_reach b.1) bs
same_reaches [] = refl
same_reaches (b ∷ bs) = ap (λ ns. core_reach b.1 ∷ ns) (same_reaches bs)

pub let_reach : (bs : List (SymId × Core)) (b : Core) → core_reach (views.Let bs b) ≡ max (most (map (λ (b : SymId × Core). core_reach b.1) bs)) (core_reach b)
let_reach bs b =
    ap core_reach (sym (variants.rolls-Let bs b)) ∙ (fold-roll-Core ℕ layer_reach (layer.Let bs b) ∙ ap (λ ns. max (most ns) (core_reach b)) (same_reaches bs))

pub stobj_let_reach : (bs : List (SymId × Core)) (vars : List SymId) (p c : Core)
    → core_reach (views.StobjLet bs vars p c) ≡ max (most (map (λ (b : SymId × Core). core_reach b.1) bs)) (max (core_reach p) (core_reach c))
stobj_let_reach bs vars p c =
    ap core_reach (sym (variants.rolls-StobjLet bs vars p c)) ∙ (fold-roll-Core ℕ layer_reach (layer.StobjLet bs vars p c)
    ∙ ap (λ ns. max (most ns) (max (core_reach p) (core_reach c))) (same_reaches bs))

-- ---- how many

pub length_seen : (h : Objects) (fs : List Core) → count (cores.cores (seen_cores h fs)) ≡ length fs
length_seen h [] = refl
length_seen h (f ∷ fs) = let e = length_seen h fs in omega (arith, e)

pub length_bound : (h : Objects) (bs : List (SymId × Core)) → count (cores.cores (seen_bound h bs)) ≡ length bs
length_bound h [] = refl
length_bound h (b ∷ bs) = let e = length_bound h bs in omega (arith, e)

-- ---- parts of each variant

module _ (h : Objects) where
  pub if_test : (a b c : Core) → Fits h (views.If a b c) → Fits h a
  if_test a b c f = record {
    deep = omega (arith, f.deep, ap depth_of (seen_if h a b c));
    wide = omega (arith, f.wide, ap width_of (seen_if h a b c));
    lies = omega (arith, f.lies, if_reach a b c);
  }

  pub if_then : (a b c : Core) → Fits h (views.If a b c) → Fits h b
  if_then a b c f = record {
    deep = omega (arith, f.deep, ap depth_of (seen_if h a b c));
    wide = omega (arith, f.wide, ap width_of (seen_if h a b c));
    lies = omega (arith, f.lies, if_reach a b c);
  }

  pub if_other : (a b c : Core) → Fits h (views.If a b c) → Fits h c
  if_other a b c f = record {
    deep = omega (arith, f.deep, ap depth_of (seen_if h a b c));
    wide = omega (arith, f.wide, ap width_of (seen_if h a b c));
    lies = omega (arith, f.lies, if_reach a b c);
  }

  pub let_body : (bs : List (SymId × Core)) (b : Core) → Fits h (views.Let bs b) → Fits h b
  let_body bs b f = record {
    deep = omega (arith, f.deep, ap depth_of (seen_let h bs b));
    wide = omega (arith, f.wide, ap width_of (seen_let h bs b));
    lies = omega (arith, f.lies, let_reach bs b);
  }

  pub let_bound : (bs : List (SymId × Core)) (b : Core) → Fits h (views.Let bs b) → FitBound h bs
  let_bound bs b f = record {
    deep = omega (arith, f.deep, ap depth_of (seen_let h bs b));
    wide = omega (arith, f.wide, ap width_of (seen_let h bs b));
    few = omega (arith, f.wide, ap width_of (seen_let h bs b), length_bound h bs);
    lies = omega (arith, f.lies, let_reach bs b);
  }

  pub mv_parts : (parts : List Core) → Fits h (views.Mv parts) → FitParts h parts
  mv_parts parts f = record {
    deep = omega (arith, f.deep, ap depth_of (seen_mv h parts));
    wide = omega (arith, f.wide, ap width_of (seen_mv h parts));
    few = omega (arith, f.wide, ap width_of (seen_mv h parts), length_seen h parts);
    lies = omega (arith, f.lies, mv_reach parts);
  }

  pub mv_let_given : (names : List SymId) (a b : Core) → Fits h (views.MvLet names a b) → Fits h a
  mv_let_given names a b f = record {
    deep = omega (arith, f.deep, ap depth_of (seen_mv_let h names a b));
    wide = omega (arith, f.wide, ap width_of (seen_mv_let h names a b));
    lies = omega (arith, f.lies, mv_let_reach names a b);
  }

  pub mv_let_body : (names : List SymId) (a b : Core) → Fits h (views.MvLet names a b) → Fits h b
  mv_let_body names a b f = record {
    deep = omega (arith, f.deep, ap depth_of (seen_mv_let h names a b));
    wide = omega (arith, f.wide, ap width_of (seen_mv_let h names a b));
    lies = omega (arith, f.lies, mv_let_reach names a b);
  }

  pub stobj_let_producer : (bs : List (SymId × Core)) (vars : List SymId) (p c : Core) → Fits h (views.StobjLet bs vars p c) → Fits h p
  stobj_let_producer bs vars p c f = record {
    deep = omega (arith, f.deep, ap depth_of (seen_stobj_let h bs vars p c));
    wide = omega (arith, f.wide, ap width_of (seen_stobj_let h bs vars p c));
    lies = omega (arith, f.lies, stobj_let_reach bs vars p c);
  }

  pub stobj_let_consumer : (bs : List (SymId × Core)) (vars : List SymId) (p c : Core) → Fits h (views.StobjLet bs vars p c) → Fits h c
  stobj_let_consumer bs vars p c f = record {
    deep = omega (arith, f.deep, ap depth_of (seen_stobj_let h bs vars p c));
    wide = omega (arith, f.wide, ap width_of (seen_stobj_let h bs vars p c));
    lies = omega (arith, f.lies, stobj_let_reach bs vars p c);
  }

  pub stobj_let_bound : (bs : List (SymId × Core)) (vars : List SymId) (p c : Core) → Fits h (views.StobjLet bs vars p c) → BoundLie h bs
  stobj_let_bound bs vars p c f = omega (arith, f.lies, stobj_let_reach bs vars p c)

  pub with_local_producer : (stobj : SymId) (names : List SymId) (a b : Core) → Fits h (views.WithLocal stobj names a b) → Fits h a
  with_local_producer stobj names a b f = record {
    deep = omega (arith, f.deep, ap depth_of (seen_with_local h stobj names a b));
    wide = omega (arith, f.wide, ap width_of (seen_with_local h stobj names a b));
    lies = omega (arith, f.lies, with_local_reach stobj names a b);
  }

  pub with_local_body : (stobj : SymId) (names : List SymId) (a b : Core) → Fits h (views.WithLocal stobj names a b) → Fits h b
  with_local_body stobj names a b f = record {
    deep = omega (arith, f.deep, ap depth_of (seen_with_local h stobj names a b));
    wide = omega (arith, f.wide, ap width_of (seen_with_local h stobj names a b));
    lies = omega (arith, f.lies, with_local_reach stobj names a b);
  }

  pub must_be_equal_logic : (a b : Core) → Fits h (views.MustBeEqual a b) → Fits h a
  must_be_equal_logic a b f = record {
    deep = omega (arith, f.deep, ap depth_of (seen_must_be_equal h a b));
    wide = omega (arith, f.wide, ap width_of (seen_must_be_equal h a b));
    lies = omega (arith, f.lies, must_be_equal_reach a b);
  }

  pub must_be_equal_exec : (a b : Core) → Fits h (views.MustBeEqual a b) → Fits h b
  must_be_equal_exec a b f = record {
    deep = omega (arith, f.deep, ap depth_of (seen_must_be_equal h a b));
    wide = omega (arith, f.wide, ap width_of (seen_must_be_equal h a b));
    lies = omega (arith, f.lies, must_be_equal_reach a b);
  }

  pub call_actuals : (g : SymId) (parts : List Core) → Fits h (views.Call g parts) → FitParts h parts
  call_actuals g parts f = record {
    deep = omega (arith, f.deep, ap depth_of (seen_call h g parts));
    wide = omega (arith, f.wide, ap width_of (seen_call h g parts));
    few = omega (arith, f.wide, ap width_of (seen_call h g parts), length_seen h parts);
    lies = omega (arith, f.lies, call_reach g parts);
  }

  pub fits_lies : (f : Core) → Fits h f → CoreLies h f
  fits_lies f fits = fits.lies

  pub fits_deep : (f : Core) → Fits h f → depth_of (seen_core h f) ≤ 2048
  fits_deep f fits = fits.deep

  -- ---- one of many

  pub deep_at : (fs : List Core) (i : ℕ) (d : Core) → i < length fs → depth_of (seen_core h (get_or fs i d)) ≤ depth_of_all (cores.cores (seen_cores h fs))
  deep_at [] i d l = absurd (omega (arith, l))
  deep_at (f ∷ fs) zero d l = omega arith
  deep_at (f ∷ fs) (suc i) d l = let e = deep_at fs i d (omega (arith, l)) in omega (arith, e)

  wide_at : (fs : List Core) (i : ℕ) (d : Core) → i < length fs → width_of (seen_core h (get_or fs i d)) ≤ width_of_all (cores.cores (seen_cores h fs))
  wide_at [] i d l = absurd (omega (arith, l))
  wide_at (f ∷ fs) zero d l = omega arith
  wide_at (f ∷ fs) (suc i) d l = let e = wide_at fs i d (omega (arith, l)) in omega (arith, e)

  most_at : {X : Type 0} (reach_of : X → ℕ) (xs : List X) (i : ℕ) (d : X) → i < length xs → reach_of (get_or xs i d) ≤ most (map reach_of xs)
  most_at reach_of [] i d l = absurd (omega (arith, l))
  most_at reach_of (x ∷ xs) zero d l = omega arith
  most_at reach_of (x ∷ xs) (suc i) d l = let e = most_at reach_of xs i d (omega (arith, l)) in omega (arith, e)

  pub part_fits : (fs : List Core) (i : ℕ) (d : Core) → FitParts h fs → i < length fs → Fits h (get_or fs i d)
  part_fits fs i d f l = record {
    deep = omega (arith, f.deep, deep_at fs i d l);
    wide = omega (arith, f.wide, wide_at fs i d l);
    lies = omega (arith, f.lies, most_at core_reach fs i d l);
  }

  pub deep_bound_at : (bs : List (SymId × Core)) (i : ℕ) (d : SymId × Core) → i < length bs → depth_of (seen_core h (get_or bs i d).1) ≤ depth_of_all (cores.cores (seen_bound h bs))
  deep_bound_at [] i d l = absurd (omega (arith, l))
  deep_bound_at (b ∷ bs) zero d l = omega arith
  deep_bound_at (b ∷ bs) (suc i) d l = let e = deep_bound_at bs i d (omega (arith, l)) in omega (arith, e)

  wide_bound_at : (bs : List (SymId × Core)) (i : ℕ) (d : SymId × Core) → i < length bs → width_of (seen_core h (get_or bs i d).1) ≤ width_of_all (cores.cores (seen_bound h bs))
  wide_bound_at [] i d l = absurd (omega (arith, l))
  wide_bound_at (b ∷ bs) zero d l = omega arith
  wide_bound_at (b ∷ bs) (suc i) d l = let e = wide_bound_at bs i d (omega (arith, l)) in omega (arith, e)

  pub bound_fits : (bs : List (SymId × Core)) (i : ℕ) (d : SymId × Core) → FitBound h bs → i < length bs → Fits h (get_or bs i d).1
  bound_fits bs i d f l = record {
    deep = omega (arith, f.deep, deep_bound_at bs i d l);
    wide = omega (arith, f.wide, wide_bound_at bs i d l);
    lies = omega (arith, f.lies, most_at (λ (b : SymId × Core). core_reach b.1) bs i d l);
  }

  pub part_number : (fs : List Core) (i : ℕ) → FitParts h fs → i < length fs → i < 2 ^ 32
  part_number fs i f l = omega (arith, f.few, l)

  pub bound_number : (bs : List (SymId × Core)) (i : ℕ) → FitBound h bs → i < length bs → i < 2 ^ 32
  bound_number bs i f l = omega (arith, f.few, l)

  pub body_number : (bs : List (SymId × Core)) (b : Core) → Fits h (views.Let bs b) → length bs < 2 ^ 32
  body_number bs b f = let g = let_bound bs b f in omega (arith, g.few)
