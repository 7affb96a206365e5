-- Simple forms, by their parts.
use Rattle.std.specs.Prelude.{◌≡◌, ℕ, ◌+◌, ◌<◌, ◌≤◌, List, [], ◌∷◌, map, max, length, drop, Bool, true, false, ◌&&◌, refl}
use Rattle.std.proofs.Common.{sym, ap, ◌∙◌, subst, arith, get_or}
use Rattle.std.proofs.Math.ListN.{drop_of_length-le}
use Rattle.acl_base.specs.declared.SymId.{SymId}
use Rattle.acl_base.specs.declared.Word.{Word}
use Rattle.acl_heap.specs.Objects.{Objects, reach}
use Rattle.model_terms.specs.Worlds as worlds
use Rattle.model_slots_laws.specs.Standing.{stands, functions_stand, all_functions_stand}
use Rattle.acl_terms.specs.declared.form.Core.{Core}
use Rattle.acl_terms.specs.declared.form.Core.TheOpen as layer
use Rattle.acl_terms.specs.declared.form.Core.TheViews as views
use Rattle.acl_terms.specs.declared.form.Core.TheVariants as variants
use Rattle.acl_terms.specs.declared.form.Core.TheFolds.{fold-roll-Core}
use Rattle.acl_terms.specs.Forms.{most, core_reach, layer_reach}
use Rattle.acl_terms.specs.FormLaws.{seen_var, seen_const, seen_if, seen_let, seen_call}
use Rattle.acl_outputs.proofs.ListLemmas.{left_at}
use Rattle.acl_thread.proofs.SizeLemmas.{if_reach, let_reach, call_reach}
use Rattle.acl_form_times.specs.Simple.{IsSimple, AreSimple, BoundAreSimple}

left : (p q : Bool) → (p && q) ≡ true → p ≡ true
left true q e = refl
left false q e = e

right : (p q : Bool) → (p && q) ≡ true → q ≡ true
right true q e = e
right false q e = absurd (cc)

both : (p q : Bool) → p ≡ true → q ≡ true → (p && q) ≡ true
both true q e f = f
both false q e f = e

module _ (w : worlds.World) (h : Objects) where
  pub var_simple : (core : Core) (x : SymId) → core ≡ variants.Var x → IsSimple w h core
  unfolding functions_stand
  var_simple core x e = subst (IsSimple w h) (sym e) (record {
    none = omega (arith, ap core_reach (sym (variants.rolls-Var x)) ∙ fold-roll-Core ℕ layer_reach (layer.Var x));
    stand = ap (functions_stand w) (seen_var h x);
  })

  pub const_simple : (core : Core) (o : Word) → core ≡ variants.Const o → reach o ≡ 0 → IsSimple w h core
  unfolding functions_stand
  const_simple core o e r = subst (IsSimple w h) (sym e) (record {
    none = omega (arith, ap core_reach (sym (variants.rolls-Const o)) ∙ fold-roll-Core ℕ layer_reach (layer.Const o), r);
    stand = ap (functions_stand w) (seen_const h o);
  })

  pub if_simple : (core a b c xa xb xc : Core) (p q r : Bool) → core ≡ views.If a b c → xa ≡ a → xb ≡ b → xc ≡ c
      → (p ≡ true → IsSimple w h xa) → (q ≡ true → IsSimple w h xb) → (r ≡ true → IsSimple w h xc) → (p && (q && r)) ≡ true → IsSimple w h core
  unfolding functions_stand
  if_simple core a b c xa xb xc p q r e ea eb ec f g k y =
      let i : IsSimple w h a = subst (IsSimple w h) ea (f (left p _ y)) in
      let j : IsSimple w h b = subst (IsSimple w h) eb (g (left q r (right p _ y))) in
      let m : IsSimple w h c = subst (IsSimple w h) ec (k (right q r (right p _ y))) in
      subst (IsSimple w h) (sym e) (record {
        none = omega (arith, if_reach a b c, i.none, j.none, m.none);
        stand = ap (functions_stand w) (seen_if h a b c) ∙ both _ _ i.stand (both _ _ j.stand m.stand);
      })

  pub let_simple : (core b xb : Core) (bs xs : List (SymId × Core)) (p q : Bool) → core ≡ views.Let bs b → xb ≡ b → xs ≡ bs
      → (p ≡ true → BoundAreSimple w h xs) → (q ≡ true → IsSimple w h xb) → (p && q) ≡ true → IsSimple w h core
  unfolding functions_stand
  let_simple core b xb bs xs p q e eb es f g y =
      let i : BoundAreSimple w h bs = subst (BoundAreSimple w h) es (f (left p q y)) in
      let j : IsSimple w h b = subst (IsSimple w h) eb (g (right p q y)) in
      subst (IsSimple w h) (sym e) (record {
        none = omega (arith, let_reach bs b, i.none, j.none);
        stand = ap (functions_stand w) (seen_let h bs b) ∙ both _ _ i.stand j.stand;
      })

  pub call_simple : (core : Core) (s : SymId) (fs xs : List Core) (p q : Bool) → core ≡ views.Call s fs → xs ≡ fs
      → p ≡ stands w s.0 → (q ≡ true → AreSimple w h xs) → (p && q) ≡ true → IsSimple w h core
  unfolding functions_stand
  call_simple core s fs xs p q e es there f y =
      let i : AreSimple w h fs = subst (AreSimple w h) es (f (right p q y)) in
      subst (IsSimple w h) (sym e) (record {
        none = omega (arith, call_reach s fs, i.none);
        stand = ap (functions_stand w) (seen_call h s fs) ∙ both _ _ (sym there ∙ left p q y) i.stand;
      })

  pub all_end : (fs : List Core) (i : ℕ) → length fs ≤ i → AreSimple w h (drop i fs)
  unfolding functions_stand
  all_end fs i l = subst (AreSimple w h) (sym (drop_of_length-le fs l)) (record { none = omega arith; stand = refl })

  pub all_next : (fs : List Core) (i : ℕ) (x : Core) → i < length fs → x ≡ get_or fs i x → IsSimple w h x → AreSimple w h (drop (i + 1) fs) → AreSimple w h (drop i fs)
  unfolding functions_stand
  all_next fs i x l e s a = subst (AreSimple w h) (sym (left_at fs i x l ∙ ap (λ (y : Core). y ∷ drop (i + 1) fs) (sym e)))
      (record { none = omega (arith, s.none, a.none); stand = both _ _ s.stand a.stand })

  pub bound_end : (bs : List (SymId × Core)) (i : ℕ) → length bs ≤ i → BoundAreSimple w h (drop i bs)
  unfolding functions_stand
  bound_end bs i l = subst (BoundAreSimple w h) (sym (drop_of_length-le bs l)) (record { none = omega arith; stand = refl })

  pub bound_next : (bs : List (SymId × Core)) (i : ℕ) (x : SymId × Core) → i < length bs → x ≡ get_or bs i x → IsSimple w h x.1 → BoundAreSimple w h (drop (i + 1) bs) → BoundAreSimple w h (drop i bs)
  unfolding functions_stand
  bound_next bs i x l e s a = subst (BoundAreSimple w h) (sym (left_at bs i x l ∙ ap (λ (y : SymId × Core). y ∷ drop (i + 1) bs) (sym e)))
      (record { none = omega (arith, s.none, a.none); stand = both _ _ s.stand a.stand })
