-- What each variant of a form stands for.
use Rattle.std.specs.Prelude.{◌≡◌, List, [], ◌∷◌, map, refl}
use Rattle.std.proofs.Common.{sym, ap, ◌∙◌}
use Rattle.acl_base.specs.declared.SymId.{SymId}
use Rattle.acl_base.specs.declared.Word.{Word}
use Rattle.acl_heap.specs.Objects.{Objects, object_of}
use Rattle.model_terms.specs.Cores as cores
use Rattle.acl_terms.specs.declared.form.Core.{Core}
use Rattle.acl_terms.specs.declared.form.Core.TheOpen as layer
use Rattle.acl_terms.specs.declared.form.Core.TheShapes as shapes
use Rattle.acl_terms.specs.declared.form.Core.TheViews as views
use Rattle.acl_terms.specs.declared.form.Core.TheVariants as variants
use Rattle.acl_terms.specs.declared.form.Core.TheFolds.{fold-roll-Core}
use Rattle.acl_terms.specs.Forms.{numbers, bound_names, bound_parts, seen_core, seen_cores, seen_bound, layer_core}

module _ (h : Objects) where
  pub seen_var : (x : SymId) → seen_core h (variants.Var x) ≡ cores.Var x.0
  seen_var x = ap (seen_core h) (sym (variants.rolls-Var x)) ∙ fold-roll-Core cores.Core (layer_core h) (layer.Var x)

  pub seen_const : (w : Word) → seen_core h (variants.Const w) ≡ cores.Const (object_of h w)
  seen_const w = ap (seen_core h) (sym (variants.rolls-Const w)) ∙ fold-roll-Core cores.Core (layer_core h) (layer.Const w)

  pub seen_if : (a b c : Core) → seen_core h (views.If a b c) ≡ cores.If (seen_core h a) (seen_core h b) (seen_core h c)
  seen_if a b c = ap (seen_core h) (sym (variants.rolls-If a b c)) ∙ fold-roll-Core cores.Core (layer_core h) (layer.If a b c)

  pub seen_mv : (parts : List Core) → seen_core h (views.Mv parts) ≡ cores.Mv (cores.cores (seen_cores h parts))
  seen_mv parts = ap (seen_core h) (sym (variants.rolls-Mv parts)) ∙ fold-roll-Core cores.Core (layer_core h) (layer.Mv parts)

  pub seen_mv_let : (names : List SymId) (a b : Core) → seen_core h (views.MvLet names a b) ≡ cores.MvLet (numbers names) (seen_core h a) (seen_core h b)
  seen_mv_let names a b = ap (seen_core h) (sym (variants.rolls-MvLet names a b)) ∙ fold-roll-Core cores.Core (layer_core h) (layer.MvLet names a b)

  pub seen_with_local : (stobj : SymId) (names : List SymId) (a b : Core)
      → seen_core h (views.WithLocal stobj names a b) ≡ cores.WithLocal stobj.0 (numbers names) (seen_core h a) (seen_core h b)
  seen_with_local stobj names a b =
      ap (seen_core h) (sym (variants.rolls-WithLocal stobj names a b)) ∙ fold-roll-Core cores.Core (layer_core h) (layer.WithLocal stobj names a b)

  pub seen_must_be_equal : (a b : Core) → seen_core h (views.MustBeEqual a b) ≡ cores.MustBeEqual (seen_core h a) (seen_core h b)
  seen_must_be_equal a b = ap (seen_core h) (sym (variants.rolls-MustBeEqual a b)) ∙ fold-roll-Core cores.Core (layer_core h) (layer.MustBeEqual a b)

  pub seen_call : (f : SymId) (parts : List Core) → seen_core h (views.Call f parts) ≡ cores.Call f.0 (cores.cores (seen_cores h parts))
  seen_call f parts = ap (seen_core h) (sym (variants.rolls-Call f parts)) ∙ fold-roll-Core cores.Core (layer_core h) (layer.Call f parts)

  -- ---- bindings

  abbrev with_parts : List (SymId × Core) → List (SymId × cores.Core)
  with_parts bs = map (shapes.former-Core-Let-0-at-2.map Core cores.Core (seen_core h)) bs

  same_names : (bs : List (SymId × Core)) → bound_names (with_parts bs) ≡ bound_names bs
  same_names [] = refl
  same_names (b ∷ bs) = ap (λ ns. b.0.0 ∷ ns) (same_names bs)

  same_parts : (bs : List (SymId × Core)) → bound_parts (with_parts bs) ≡ seen_bound h bs
  same_parts [] = refl
  same_parts (b ∷ bs) = ap (λ fs. seen_core h b.1 ∷ fs) (same_parts bs)

  pub seen_let : (bs : List (SymId × Core)) (b : Core) → seen_core h (views.Let bs b) ≡ cores.Let (bound_names bs) (cores.cores (seen_bound h bs)) (seen_core h b)
  seen_let bs b =
      ap (seen_core h) (sym (variants.rolls-Let bs b)) ∙ (fold-roll-Core cores.Core (layer_core h) (layer.Let bs b)
      ∙ (ap (λ ns. cores.Let ns (cores.cores (bound_parts (with_parts bs))) (seen_core h b)) (same_names bs)
      ∙ ap (λ fs. cores.Let (bound_names bs) (cores.cores fs) (seen_core h b)) (same_parts bs)))

  pub seen_stobj_let : (bs : List (SymId × Core)) (vars : List SymId) (p c : Core)
      → seen_core h (views.StobjLet bs vars p c) ≡ cores.StobjLet (bound_names bs) (cores.cores (seen_bound h bs)) (numbers vars) (seen_core h p) (seen_core h c)
  seen_stobj_let bs vars p c =
      ap (seen_core h) (sym (variants.rolls-StobjLet bs vars p c)) ∙ (fold-roll-Core cores.Core (layer_core h) (layer.StobjLet bs vars p c)
      ∙ (ap (λ ns. cores.StobjLet ns (cores.cores (bound_parts (with_parts bs))) (numbers vars) (seen_core h p) (seen_core h c)) (same_names bs)
      ∙ ap (λ fs. cores.StobjLet (bound_names bs) (cores.cores fs) (numbers vars) (seen_core h p) (seen_core h c)) (same_parts bs)))
