-- Forms of at most some depth, by their parts.
use Rattle.std.specs.Prelude.{◌≡◌, ℕ, zero, suc, ◌+◌, ◌-◌, ◌^◌, ◌<◌, ◌≤◌, List, [], ◌∷◌, map, max, length, drop, Bool, true, false, ◌&&◌, nat_le, refl}
use Rattle.std.proofs.Common.{sym, ap, ◌∙◌, subst, arith, get_or}
use Rattle.std.proofs.Math.ListN.{drop_of_length-le}
use Rattle.std.proofs.lemmas.Bool.Decides.{nat_tests}
use Rattle.acl_base.specs.declared.SymId.{SymId}
use Rattle.acl_base.specs.declared.Word.{Word}
use Rattle.acl_heap.specs.Objects.{Objects, reach}
use Rattle.model_terms.specs.Cores as cores
use Rattle.acl_terms.specs.declared.form.Core.{Core}
use Rattle.acl_terms.specs.declared.form.Core.TheOpen as layer
use Rattle.acl_terms.specs.declared.form.Core.TheViews as views
use Rattle.acl_terms.specs.declared.form.Core.TheVariants as variants
use Rattle.acl_terms.specs.declared.form.Core.TheFolds.{fold-roll-Core}
use Rattle.acl_terms.specs.Depths.{depth_of, depth_of_all}
use Rattle.acl_terms.specs.Forms.{most, core_reach, layer_reach, seen_core, seen_cores, seen_bound}
use Rattle.acl_terms.specs.FormLaws.{seen_var, seen_const, seen_if, seen_let, seen_mv, seen_mv_let, seen_stobj_let, seen_with_local, seen_must_be_equal, seen_call}
use Rattle.acl_outputs.proofs.ListLemmas.{left_at}
use Rattle.acl_thread.specs.Sizes.{width_of, width_of_all, Fits}
use Rattle.acl_thread.proofs.SizeLemmas.{length_seen, length_bound, if_reach, let_reach, mv_reach, mv_let_reach, stobj_let_reach, with_local_reach, must_be_equal_reach, call_reach}
use Rattle.acl_check_rows.specs.Small.{Small, AllSmall, BoundSmall}

left : (p q : Bool) → (p && q) ≡ true → p ≡ true
left true q e = refl
left false q e = e

right : (p q : Bool) → (p && q) ≡ true → q ≡ true
right true q e = e
right false q e = absurd (cc)

module _ (h : Objects) where
  pub small_fits : (d : ℕ) (f : Core) → d ≤ 2048 → Small h d f → Fits h f
  small_fits d f l s = record { deep = omega (arith, l, s.deep); wide = s.wide; lies = s.lies }

  module _ (d : ℕ) where
    pub var_small : (core : Core) (x : SymId) → core ≡ variants.Var x → 0 < d → Small h d core
    var_small core x e l = subst (Small h d) (sym e) (record {
      deep = omega (arith, ap depth_of (seen_var h x), l);
      wide = omega (arith, ap width_of (seen_var h x));
      lies = omega (arith, ap core_reach (sym (variants.rolls-Var x)) ∙ fold-roll-Core ℕ layer_reach (layer.Var x));
    })

    pub const_small : (core : Core) (w : Word) → core ≡ variants.Const w → 0 < d → reach w ≡ 0 → Small h d core
    const_small core w e l r = subst (Small h d) (sym e) (record {
      deep = omega (arith, ap depth_of (seen_const h w), l);
      wide = omega (arith, ap width_of (seen_const h w));
      lies = omega (arith, ap core_reach (sym (variants.rolls-Const w)) ∙ fold-roll-Core ℕ layer_reach (layer.Const w), r);
    })

    pub if_small : (core a b c xa xb xc : Core) (p q r : Bool) → core ≡ views.If a b c → xa ≡ a → xb ≡ b → xc ≡ c → 0 < d
        → (p ≡ true → Small h (d - 1) xa) → (q ≡ true → Small h (d - 1) xb) → (r ≡ true → Small h (d - 1) xc) → (p && (q && r)) ≡ true → Small h d core
    if_small core a b c xa xb xc p q r e ea eb ec l f g k y =
        let i : Small h (d - 1) a = subst (Small h (d - 1)) ea (f (left p _ y)) in
        let j : Small h (d - 1) b = subst (Small h (d - 1)) eb (g (left q r (right p _ y))) in
        let m : Small h (d - 1) c = subst (Small h (d - 1)) ec (k (right q r (right p _ y))) in
        subst (Small h d) (sym e) (record {
          deep = omega (arith, ap depth_of (seen_if h a b c), i.deep, j.deep, m.deep, l);
          wide = omega (arith, ap width_of (seen_if h a b c), i.wide, j.wide, m.wide);
          lies = omega (arith, if_reach a b c, i.lies, j.lies, m.lies);
        })

    pub let_small : (core b xb : Core) (bs xs : List (SymId × Core)) (n : ℕ) (p q r : Bool) → core ≡ views.Let bs b → xb ≡ b → xs ≡ bs → 0 < d
        → (p ≡ true → length bs ≤ 4) → (q ≡ true → BoundSmall h (d - 1) xs) → (r ≡ true → Small h (d - 1) xb) → (p && (q && r)) ≡ true → Small h d core
    let_small core b xb bs xs n p q r e eb es l f g k y =
        let t : length bs ≤ 4 = f (left p _ y) in
        let i : BoundSmall h (d - 1) bs = subst (BoundSmall h (d - 1)) es (g (left q r (right p _ y))) in
        let j : Small h (d - 1) b = subst (Small h (d - 1)) eb (k (right q r (right p _ y))) in
        subst (Small h d) (sym e) (record {
          deep = omega (arith, ap depth_of (seen_let h bs b), i.deep, j.deep, l);
          wide = omega (arith, ap width_of (seen_let h bs b), i.wide, j.wide, length_bound h bs, t);
          lies = omega (arith, let_reach bs b, i.lies, j.lies);
        })

    pub mv_small : (core : Core) (fs xs : List Core) (p q : Bool) → core ≡ views.Mv fs → xs ≡ fs → 0 < d
        → (p ≡ true → length fs ≤ 4) → (q ≡ true → AllSmall h (d - 1) xs) → (p && q) ≡ true → Small h d core
    mv_small core fs xs p q e es l f g y =
        let t : length fs ≤ 4 = f (left p q y) in
        let i : AllSmall h (d - 1) fs = subst (AllSmall h (d - 1)) es (g (right p q y)) in
        subst (Small h d) (sym e) (record {
          deep = omega (arith, ap depth_of (seen_mv h fs), i.deep, l);
          wide = omega (arith, ap width_of (seen_mv h fs), i.wide, length_seen h fs, t);
          lies = omega (arith, mv_reach fs, i.lies);
        })

    pub call_small : (core : Core) (s : SymId) (fs xs : List Core) (p q : Bool) → core ≡ views.Call s fs → xs ≡ fs → 0 < d
        → (p ≡ true → length fs ≤ 4) → (q ≡ true → AllSmall h (d - 1) xs) → (p && q) ≡ true → Small h d core
    call_small core s fs xs p q e es l f g y =
        let t : length fs ≤ 4 = f (left p q y) in
        let i : AllSmall h (d - 1) fs = subst (AllSmall h (d - 1)) es (g (right p q y)) in
        subst (Small h d) (sym e) (record {
          deep = omega (arith, ap depth_of (seen_call h s fs), i.deep, l);
          wide = omega (arith, ap width_of (seen_call h s fs), i.wide, length_seen h fs, t);
          lies = omega (arith, call_reach s fs, i.lies);
        })

    pub mv_let_small : (core a b xa xb : Core) (ns : List SymId) (p q : Bool) → core ≡ views.MvLet ns a b → xa ≡ a → xb ≡ b → 0 < d
        → (p ≡ true → Small h (d - 1) xa) → (q ≡ true → Small h (d - 1) xb) → (p && q) ≡ true → Small h d core
    mv_let_small core a b xa xb ns p q e ea eb l f g y =
        let i : Small h (d - 1) a = subst (Small h (d - 1)) ea (f (left p q y)) in
        let j : Small h (d - 1) b = subst (Small h (d - 1)) eb (g (right p q y)) in
        subst (Small h d) (sym e) (record {
          deep = omega (arith, ap depth_of (seen_mv_let h ns a b), i.deep, j.deep, l);
          wide = omega (arith, ap width_of (seen_mv_let h ns a b), i.wide, j.wide);
          lies = omega (arith, mv_let_reach ns a b, i.lies, j.lies);
        })

    pub with_local_small : (core a b xa xb : Core) (s : SymId) (ns : List SymId) (p q : Bool) → core ≡ views.WithLocal s ns a b → xa ≡ a → xb ≡ b → 0 < d
        → (p ≡ true → Small h (d - 1) xa) → (q ≡ true → Small h (d - 1) xb) → (p && q) ≡ true → Small h d core
    with_local_small core a b xa xb s ns p q e ea eb l f g y =
        let i : Small h (d - 1) a = subst (Small h (d - 1)) ea (f (left p q y)) in
        let j : Small h (d - 1) b = subst (Small h (d - 1)) eb (g (right p q y)) in
        subst (Small h d) (sym e) (record {
          deep = omega (arith, ap depth_of (seen_with_local h s ns a b), i.deep, j.deep, l);
          wide = omega (arith, ap width_of (seen_with_local h s ns a b), i.wide, j.wide);
          lies = omega (arith, with_local_reach s ns a b, i.lies, j.lies);
        })

    pub must_be_equal_small : (core a b xa xb : Core) (p q : Bool) → core ≡ views.MustBeEqual a b → xa ≡ a → xb ≡ b → 0 < d
        → (p ≡ true → Small h (d - 1) xa) → (q ≡ true → Small h (d - 1) xb) → (p && q) ≡ true → Small h d core
    must_be_equal_small core a b xa xb p q e ea eb l f g y =
        let i : Small h (d - 1) a = subst (Small h (d - 1)) ea (f (left p q y)) in
        let j : Small h (d - 1) b = subst (Small h (d - 1)) eb (g (right p q y)) in
        subst (Small h d) (sym e) (record {
          deep = omega (arith, ap depth_of (seen_must_be_equal h a b), i.deep, j.deep, l);
          wide = omega (arith, ap width_of (seen_must_be_equal h a b), i.wide, j.wide);
          lies = omega (arith, must_be_equal_reach a b, i.lies, j.lies);
        })

    pub stobj_let_small : (core a b xa xb : Core) (bs xs : List (SymId × Core)) (vs : List SymId) (p q r : Bool) → core ≡ views.StobjLet bs vs a b → xs ≡ bs → xa ≡ a → xb ≡ b → 0 < d
        → (p ≡ true → BoundSmall h (d - 1) xs) → (q ≡ true → Small h (d - 1) xa) → (r ≡ true → Small h (d - 1) xb) → (p && (q && r)) ≡ true → Small h d core
    stobj_let_small core a b xa xb bs xs vs p q r e es ea eb l f g k y =
        let s : BoundSmall h (d - 1) bs = subst (BoundSmall h (d - 1)) es (f (left p _ y)) in
        let i : Small h (d - 1) a = subst (Small h (d - 1)) ea (g (left q r (right p _ y))) in
        let j : Small h (d - 1) b = subst (Small h (d - 1)) eb (k (right q r (right p _ y))) in
        subst (Small h d) (sym e) (record {
          deep = omega (arith, ap depth_of (seen_stobj_let h bs vs a b), s.deep, i.deep, j.deep, l);
          wide = omega (arith, ap width_of (seen_stobj_let h bs vs a b), i.wide, j.wide);
          lies = omega (arith, stobj_let_reach bs vs a b, s.lies, i.lies, j.lies);
        })

    pub all_end : (fs : List Core) (i : ℕ) → length fs ≤ i → AllSmall h d (drop i fs)
    all_end fs i l = subst (AllSmall h d) (sym (drop_of_length-le fs l)) (record { deep = omega arith; wide = omega arith; lies = omega arith })

    pub all_next : (fs : List Core) (i : ℕ) (x : Core) → i < length fs → x ≡ get_or fs i x → Small h d x → AllSmall h d (drop (i + 1) fs) → AllSmall h d (drop i fs)
    all_next fs i x l e s a = subst (AllSmall h d) (sym (left_at fs i x l ∙ ap (λ (y : Core). y ∷ drop (i + 1) fs) (sym e)))
        (record { deep = omega (arith, s.deep, a.deep); wide = omega (arith, s.wide, a.wide); lies = omega (arith, s.lies, a.lies) })

    pub bound_end : (bs : List (SymId × Core)) (i : ℕ) → length bs ≤ i → BoundSmall h d (drop i bs)
    bound_end bs i l = subst (BoundSmall h d) (sym (drop_of_length-le bs l)) (record { deep = omega arith; wide = omega arith; lies = omega arith })

    pub bound_next : (bs : List (SymId × Core)) (i : ℕ) (x : SymId × Core) → i < length bs → x ≡ get_or bs i x → Small h d x.1 → BoundSmall h d (drop (i + 1) bs) → BoundSmall h d (drop i bs)
    bound_next bs i x l e s a = subst (BoundSmall h d) (sym (left_at bs i x l ∙ ap (λ (y : SymId × Core). y ∷ drop (i + 1) bs) (sym e)))
        (record { deep = omega (arith, s.deep, a.deep); wide = omega (arith, s.wide, a.wide); lies = omega (arith, s.lies, a.lies) })

pub few_is : (n m : ℕ) → n ≡ m → nat_le n 4 ≡ true → m ≤ 4
few_is n m e t = grind (arith, nat_tests)
