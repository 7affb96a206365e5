-- A world with one more definition.
use Rattle.std.specs.Prelude.{◌≡◌, ℕ, ◌≤◌, List, [], ◌∷◌, ◌++◌, length, Bool, true, false, cond, Option, Some, None, nat_eq, ◌⊎◌}
use Rattle.std.specs.Option.{option_or}
use Rattle.std.specs.List.{find}
use Rattle.std.proofs.Common.{sym, subst, ◌∙◌, arith, inl, inr}
use Rattle.std.proofs.lemmas.List.Folds.{find-append}
use Rattle.model_terms.specs.Worlds.{World, Definition, Macro, Constant, definition, definition_name}
use Rattle.model_expansion_parts.specs.Known.{KnowsSupplies}
use Rattle.acl_heap.specs.Objects.{Objects}
use Rattle.acl_terms.specs.Definitions.{definition_reach, definitions_reach, seen_definition}
use Rattle.acl_terms.specs.declared.definition.Definition as declared
use Rattle.acl_worlds.specs.Contents.{Content, seen_world, with_definition, WorldLies, no_world}
use Rattle.std.proofs.lemmas.List.{map-append}
use Rattle.acl_expand_rows.specs.Supplies.{Supplied}

chosen : (b : Bool) (d e : Definition) → cond b (Some d) None ≡ Some e → d ≡ e
chosen true d e k = cc
chosen false d e k = cc

either : (o : Option Definition) (s : ℕ) (d e : Definition) → option_or o (find (λ x. nat_eq s (definition_name x)) (d ∷ [])) ≡ Some e → (o ≡ Some e) ⊎ (d ≡ e)
either (Some x) s d e k = inl k
either None s d e k = inr (chosen (nat_eq s (definition_name d)) d e k)

stands : (w : World) (d e : Definition) (s : ℕ) → definition (w ++ d ∷ []) s ≡ Some e → (definition w s ≡ Some e) ⊎ (d ≡ e)
stands w d e s k = either (definition w s) s d e (sym (find-append (λ x. nat_eq s (definition_name x)) w (d ∷ [])) ∙ k)

supplied : (n : ℕ) (w : World) (d e : Definition) (s : ℕ) → (definition w s ≡ Some e → Supplied n e) → Supplied n d → (definition w s ≡ Some e) ⊎ (d ≡ e) → Supplied n e
supplied n w d e s old new (inl k) = old k
supplied n w d e s old new (inr k) = subst (λ x. Supplied n x) k new

with_one : (n : ℕ) (w : World) (d : Definition) → KnowsSupplies n w → Supplied n d → KnowsSupplies n (w ++ d ∷ [])
with_one n w d k new = record {
  enough = k.enough;
  constants = λ s name value e. supplied n w d (Constant name value) s (k.constants s name value) new (stands w d (Constant name value) s e);
  macros = λ s name formals body e. supplied n w d (Macro name formals body) s (k.macros s name formals body) new (stands w d (Macro name formals body) s e);
}

pub supplies_with : (n : ℕ) (h : Objects) (w : Content) (d : declared.Definition) → KnowsSupplies n (seen_world h w) → Supplied n (seen_definition h d)
    → KnowsSupplies n (seen_world h (with_definition w d))
supplies_with n h w d k new = subst (λ (v : World). KnowsSupplies n v) (sym (map-append (seen_definition h) w.definitions (d ∷ []))) (with_one n (seen_world h w) (seen_definition h d) k new)

reach_with : (n : ℕ) (ds : List declared.Definition) (d : declared.Definition) → definitions_reach ds ≤ n → definition_reach d ≤ n → definitions_reach (ds ++ d ∷ []) ≤ n
reach_with n [] d all one = omega (arith, all, one)
reach_with n (e ∷ ds) d all one = let rest : definitions_reach ds ≤ n = omega (arith, all) in let k = reach_with n ds d rest one in omega (arith, all, k)

pub lies_with : (h : Objects) (w : Content) (d : declared.Definition) → WorldLies h w → definition_reach d ≤ length h → WorldLies h (with_definition w d)
lies_with h w d all one = reach_with (length h) w.definitions d all one

pub no_supplies : (n : ℕ) (h : Objects) → 2 ≤ n → KnowsSupplies n (seen_world h no_world)
no_supplies n h k = record { enough = k; constants = λ s name value e. cc; macros = λ s name formals body e. cc }
