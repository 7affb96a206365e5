-- Nodes with their parts.
use Rattle.std.specs.Prelude.{◌≡◌, ℕ, ◌+◌, ◌≤◌, List, [], ◌∷◌, ◌++◌, length, map, max, refl}
use Rattle.std.proofs.Common.{sym, ap, ◌∙◌, subst, arith}
use Rattle.std.proofs.lemmas.List.{length-append}
use Rattle.acl_base.specs.declared.SymId.{SymId}
use Rattle.acl_heap.specs.Objects.{Objects}
use Rattle.model_expansion.specs.Layers as layers
use Rattle.model_expansion.specs.Expansion.{core_of_node}
use Rattle.acl_terms.specs.declared.form.Core.{Core}
use Rattle.acl_terms.specs.declared.form.Core.TheOpen as layer
use Rattle.acl_terms.specs.declared.form.Core.TheViews as views
use Rattle.acl_terms.specs.declared.form.Core.TheVariants as variants
use Rattle.acl_terms.specs.declared.form.Core.TheFolds.{fold-roll-Core}
use Rattle.acl_terms.specs.Forms.{numbers, seen_core, seen_cores, core_reach, layer_reach, most}
use Rattle.acl_terms.specs.FormLaws.{seen_if, seen_mv_let, seen_with_local, seen_must_be_equal}
use Rattle.acl_types.proofs.FormLemmas.{reach_if}

pub front : (fs gs : List Core) (f : Core) (n : ℕ) → fs ≡ gs ++ f ∷ [] → length fs ≡ n + 1 → length gs ≡ n
front fs gs f n e l = let k : length fs ≡ length gs + 1 = ap (λ xs. length xs) e ∙ length-append gs (f ∷ []) in omega (arith, k, l)

none_left : (gs : List Core) → length gs ≡ 0 → gs ≡ []
none_left [] l = refl
none_left (g ∷ gs) l = absurd (omega (arith, l))

pub only : (fs gs : List Core) (f : Core) → fs ≡ gs ++ f ∷ [] → length fs ≡ 1 → fs ≡ f ∷ []
only fs gs f e l = e ∙ ap (λ xs. xs ++ f ∷ []) (none_left gs (front fs gs f 0 e l))

pub reach_mv : (parts : List Core) → core_reach (views.Mv parts) ≡ most (map core_reach parts)
reach_mv parts = ap core_reach (sym (variants.rolls-Mv parts)) ∙ fold-roll-Core ℕ layer_reach (layer.Mv parts)

pub reach_mv_let : (names : List SymId) (a b : Core) → core_reach (views.MvLet names a b) ≡ max (core_reach a) (core_reach b)
reach_mv_let names a b = ap core_reach (sym (variants.rolls-MvLet names a b)) ∙ fold-roll-Core ℕ layer_reach (layer.MvLet names a b)

pub reach_local : (s : SymId) (names : List SymId) (a b : Core) → core_reach (views.WithLocal s names a b) ≡ max (core_reach a) (core_reach b)
reach_local s names a b = ap core_reach (sym (variants.rolls-WithLocal s names a b)) ∙ fold-roll-Core ℕ layer_reach (layer.WithLocal s names a b)

pub reach_equal : (a b : Core) → core_reach (views.MustBeEqual a b) ≡ max (core_reach a) (core_reach b)
reach_equal a b = ap core_reach (sym (variants.rolls-MustBeEqual a b)) ∙ fold-roll-Core ℕ layer_reach (layer.MustBeEqual a b)

module _ (h : Objects) (fs : List Core) (a b : Core) where
  pub if_node : (c : Core) → fs ≡ a ∷ (b ∷ (c ∷ [])) → seen_core h (views.If a b c) ≡ core_of_node layers.IfNode (seen_cores h fs)
  if_node c e = seen_if h a b c ∙ ap (λ xs. core_of_node layers.IfNode (seen_cores h xs)) (sym e)

  pub if_lies : (c : Core) → fs ≡ a ∷ (b ∷ (c ∷ [])) → most (map core_reach fs) ≤ length h → core_reach (views.If a b c) ≤ length h
  if_lies c e l = let k : most (map core_reach (a ∷ (b ∷ (c ∷ [])))) ≤ length h = subst (λ xs. most (map core_reach xs) ≤ length h) e l in omega (arith, reach_if a b c, k)

  module _ (e : fs ≡ a ∷ (b ∷ [])) where
    pub mv_let_node : (names : List SymId) → seen_core h (views.MvLet names a b) ≡ core_of_node (layers.MvLetNode (numbers names)) (seen_cores h fs)
    mv_let_node names = seen_mv_let h names a b ∙ ap (λ xs. core_of_node (layers.MvLetNode (numbers names)) (seen_cores h xs)) (sym e)

    pub local_node : (s : SymId) (names : List SymId) → seen_core h (views.WithLocal s names a b) ≡ core_of_node (layers.WithLocalNode s.0 (numbers names)) (seen_cores h fs)
    local_node s names = seen_with_local h s names a b ∙ ap (λ xs. core_of_node (layers.WithLocalNode s.0 (numbers names)) (seen_cores h xs)) (sym e)

    pub equal_node : seen_core h (views.MustBeEqual a b) ≡ core_of_node layers.MustBeEqualNode (seen_cores h fs)
    equal_node = seen_must_be_equal h a b ∙ ap (λ xs. core_of_node layers.MustBeEqualNode (seen_cores h xs)) (sym e)

    module _ (l : most (map core_reach fs) ≤ length h) where
      both_lie : max (core_reach a) (core_reach b) ≤ length h
      both_lie = let k : most (map core_reach (a ∷ (b ∷ []))) ≤ length h = subst (λ xs. most (map core_reach xs) ≤ length h) e l in omega (arith, k)

      pub mv_let_lies : (names : List SymId) → core_reach (views.MvLet names a b) ≤ length h
      mv_let_lies names = omega (arith, reach_mv_let names a b, both_lie)

      pub local_lies : (s : SymId) (names : List SymId) → core_reach (views.WithLocal s names a b) ≤ length h
      local_lies s names = omega (arith, reach_local s names a b, both_lie)

      pub equal_lies : core_reach (views.MustBeEqual a b) ≤ length h
      equal_lies = omega (arith, reach_equal a b, both_lie)
