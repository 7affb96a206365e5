-- Nodes that bind names to their first parts.
use Rattle.std.specs.Prelude.{◌≡◌, ℕ, ◌+◌, ◌≤◌, List, [], ◌∷◌, length, map, max, refl}
use Rattle.std.proofs.Common.{sym, ap, ◌∙◌, subst, arith}
use Rattle.acl_base.specs.declared.SymId.{SymId}
use Rattle.acl_heap.specs.Objects.{Objects}
use Rattle.model_expansion.specs.Layers as layers
use Rattle.model_expansion.specs.Expansion.{core_of_node}
use Rattle.acl_terms.specs.declared.form.Core.{Core}
use Rattle.acl_terms.specs.declared.form.Core.TheOpen as layer
use Rattle.acl_terms.specs.declared.form.Core.TheShapes as shapes
use Rattle.acl_terms.specs.declared.form.Core.TheViews as views
use Rattle.acl_terms.specs.declared.form.Core.TheVariants as variants
use Rattle.acl_terms.specs.declared.form.Core.TheFolds.{fold-roll-Core}
use Rattle.acl_terms.specs.Forms.{numbers, bound_parts, seen_core, seen_cores, core_reach, layer_reach, most}
use Rattle.acl_terms.specs.FormLaws.{seen_let, seen_stobj_let}
use Rattle.acl_growing.specs.Nodes.{divided}
use Rattle.acl_growing.proofs.DividedLemmas.{names_are, bound_are, part_after, bound_reach, named_reach, left_reach}

same_reach : (bs : List (SymId × Core)) → bound_parts (map (shapes.former-Core-Let-0-at-2.map Core ℕ core_reach) bs) ≡ map (λ b. core_reach b.1) bs
same_reach [] = refl
same_reach (b ∷ bs) = ap (λ ns. core_reach b.1 ∷ ns) (same_reach bs)

reach_let : (bs : List (SymId × Core)) (b : Core) → core_reach (views.Let bs b) ≡ max (bound_reach bs) (core_reach b)
reach_let bs b = ap core_reach (sym (variants.rolls-Let bs b)) ∙ (fold-roll-Core ℕ layer_reach (layer.Let bs b) ∙ ap (λ ns. max (most ns) (core_reach b)) (same_reach bs))

reach_stobj_let : (bs : List (SymId × Core)) (vars : List SymId) (p c : Core) → core_reach (views.StobjLet bs vars p c) ≡ max (bound_reach bs) (max (core_reach p) (core_reach c))
reach_stobj_let bs vars p c =
    ap core_reach (sym (variants.rolls-StobjLet bs vars p c))
    ∙ (fold-roll-Core ℕ layer_reach (layer.StobjLet bs vars p c) ∙ ap (λ ns. max (most ns) (max (core_reach p) (core_reach c))) (same_reach bs))

module _ (h : Objects) (ns : List SymId) (fs : List Core) (bs : List (SymId × Core)) (gs : List Core) (eb : bs ≡ (divided ns fs).0) (eg : gs ≡ (divided ns fs).1) where
  named_lie : most (map core_reach fs) ≤ length h → bound_reach bs ≤ length h
  named_lie l = let r : bound_reach bs ≤ most (map core_reach fs) = subst (λ x. bound_reach x ≤ most (map core_reach fs)) (sym eb) (named_reach ns fs) in omega (arith, r, l)

  left_lie : most (map core_reach fs) ≤ length h → most (map core_reach gs) ≤ length h
  left_lie l = let r : most (map core_reach gs) ≤ most (map core_reach fs) = subst (λ x. most (map core_reach x) ≤ most (map core_reach fs)) (sym eg) (left_reach ns fs) in omega (arith, r, l)

  pub let_node : (b : Core) → gs ≡ b ∷ [] → length fs ≡ length ns + 1 → seen_core h (views.Let bs b) ≡ core_of_node (layers.LetNode (numbers ns)) (seen_cores h fs)
  let_node b e l =
      let left : (divided ns fs).1 ≡ b ∷ [] = sym eg ∙ e in
      ap (λ x. seen_core h (views.Let x b)) eb
      ∙ (seen_let h (divided ns fs).0 b
      ∙ rw (names_are ns fs 1 l, bound_are h ns fs, part_after h ns fs 0 (length (numbers ns)) (omega arith), left) refl)

  pub let_lies : (b : Core) → gs ≡ b ∷ [] → most (map core_reach fs) ≤ length h → core_reach (views.Let bs b) ≤ length h
  let_lies b e l =
      let k : most (map core_reach (b ∷ [])) ≤ length h = subst (λ x. most (map core_reach x) ≤ length h) e (left_lie l) in
      omega (arith, reach_let bs b, named_lie l, k)

  pub stobj_let_node : (vars : List SymId) (p c : Core) → gs ≡ p ∷ (c ∷ []) → length fs ≡ length ns + 2
      → seen_core h (views.StobjLet bs vars p c) ≡ core_of_node (layers.StobjLetNode (numbers ns) (numbers vars)) (seen_cores h fs)
  stobj_let_node vars p c e l =
      let left : (divided ns fs).1 ≡ p ∷ (c ∷ []) = sym eg ∙ e in
      ap (λ x. seen_core h (views.StobjLet x vars p c)) eb
      ∙ (seen_stobj_let h (divided ns fs).0 vars p c
      ∙ rw (names_are ns fs 2 l, bound_are h ns fs, part_after h ns fs 0 (length (numbers ns)) (omega arith), part_after h ns fs 1 (length (numbers ns) + 1) refl, left) refl)

  pub stobj_let_lies : (vars : List SymId) (p c : Core) → gs ≡ p ∷ (c ∷ []) → most (map core_reach fs) ≤ length h → core_reach (views.StobjLet bs vars p c) ≤ length h
  stobj_let_lies vars p c e l =
      let k : most (map core_reach (p ∷ (c ∷ []))) ≤ length h = subst (λ x. most (map core_reach x) ≤ length h) e (left_lie l) in
      omega (arith, reach_stobj_let bs vars p c, named_lie l, k)
