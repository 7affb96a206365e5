-- Core forms that are made, and how far their words reach.
use Rattle.std.specs.Prelude.{◌≡◌, ℕ, ◌≤◌, List, [], ◌∷◌, length, map, max, Option, Some, None, option_map, refl}
use Rattle.std.proofs.Common.{sym, ap, ◌∙◌, arith}
use Rattle.acl_base.specs.declared.SymId.{SymId}
use Rattle.acl_base.specs.declared.Word.{Word}
use Rattle.acl_heap.specs.Objects.{Objects, reach, Extends}
use Rattle.model_terms.specs.Cores as cores
use Rattle.acl_terms.specs.declared.form.Core.{Core}
use Rattle.acl_terms.specs.declared.form.Core.TheOpen as layer
use Rattle.acl_terms.specs.declared.form.Core.TheViews as views
use Rattle.acl_terms.specs.declared.form.Core.TheVariants as variants
use Rattle.acl_terms.specs.declared.form.Core.TheFolds.{fold-Core, fold-roll-Core}
use Rattle.acl_terms.specs.Forms.{seen_core, core_reach, layer_reach, most, CoreLies}
use Rattle.acl_terms.specs.Growth.{seen_core-later}
use Rattle.acl_types.specs.Shapes.{seen_test, test_reach}

pub reach_var : (x : SymId) → core_reach (variants.Var x) ≡ 0
reach_var x = ap core_reach (sym (variants.rolls-Var x)) ∙ fold-roll-Core ℕ layer_reach (layer.Var x)

pub reach_const : (w : Word) → core_reach (variants.Const w) ≡ reach w
reach_const w = ap core_reach (sym (variants.rolls-Const w)) ∙ fold-roll-Core ℕ layer_reach (layer.Const w)

pub reach_if : (a b c : Core) → core_reach (views.If a b c) ≡ max (core_reach a) (max (core_reach b) (core_reach c))
reach_if a b c = ap core_reach (sym (variants.rolls-If a b c)) ∙ fold-roll-Core ℕ layer_reach (layer.If a b c)

pub reach_call : (f : SymId) (parts : List Core) → core_reach (views.Call f parts) ≡ most (map core_reach parts)
reach_call f parts = ap core_reach (sym (variants.rolls-Call f parts)) ∙ fold-roll-Core ℕ layer_reach (layer.Call f parts)

pub test_later : {h h' : Objects} → Extends h h' → (t : Option Core) → test_reach t ≤ length h → seen_test h' t ≡ seen_test h t
test_later e None l = refl
test_later e (Some f) l = ap (λ c. Some c) (seen_core-later e f l)

pub core_later : {h h' : Objects} → Extends h h' → (f : Core) → CoreLies h f → seen_core h' f ≡ seen_core h f
core_later e f l = seen_core-later e f l
