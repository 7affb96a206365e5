-- Steps at a place, and what they go by.
use Rattle.std.specs.Prelude.{◌≡◌, ℕ, zero, suc, ◌-◌, ◌<◌, ◌≤◌, List, [], ◌∷◌, length, get_or, None, refl}
use Rattle.std.proofs.Common.{subst, arith, sub-one}
use Rattle.model_objects.specs.Object.{Object}
use Rattle.model_symbols.specs.Symbols.{Table}
use Rattle.model_eval.specs.Outcomes.{Steps}
use Rattle.model_expansion.specs.Faults.{ExpandFault, MacroStopped}
use Rattle.model_expansion.specs.Layers as layers
use Rattle.model_expansion.specs.Expansion.{Setting, Progress, Expanded, Makes, Fails, settled, looked, look_at}
use Rattle.acl_heap.specs.Objects.{Objects, Extends}
use Rattle.acl_terms.specs.declared.definition.Definition.{Definition}
use Rattle.acl_terms.specs.declared.definition.Definition.TheVariants as definition
use Rattle.acl_terms.specs.declared.definition.Macro.{Macro}
use Rattle.acl_terms.specs.Definitions.{definition_reach, definitions_reach, formals_reach}
use Rattle.acl_terms.specs.Growth.{seen_definitions-later}
use Rattle.acl_worlds.specs.Contents.{Content, WorldLies}
use Rattle.acl_engine.specs.Outcomes.{IsMacroOf}
use Rattle.acl_expand.specs.Looks.{setting_at}

reach_at : (ds : List Definition) (n : ℕ) (d : Definition) → n < length ds → definition_reach (get_or ds n d) ≤ definitions_reach ds
reach_at [] n d l = omega (arith, l)
reach_at (x ∷ ds) zero d l = omega arith
reach_at (x ∷ ds) (suc n) d l = let k : n < length ds = omega (arith, l) in let r : definition_reach (get_or ds n d) ≤ definitions_reach ds = reach_at ds n d k in omega (arith, r)

pub formals_lie : (h : Objects) (w : Content) (m : Macro) → IsMacroOf w m → WorldLies h w → formals_reach m.formals ≤ length h
formals_lie h w m i l =
    let r : definition_reach (definition.Macro m) ≤ definitions_reach w.definitions
    = subst (λ d. definition_reach d ≤ definitions_reach w.definitions) i.2 (reach_at w.definitions i.0 (definition.Macro m) i.1) in
    omega (arith, r, l)

pub setting_later : {h h' : Objects} → Extends h h' → (w : Content) (t t' : Table) (steps depth : ℕ) → WorldLies h w → t'.packages ≡ t.packages
    → setting_at h' w t' steps depth ≡ setting_at h w t steps depth
setting_later e w t t' steps depth l p = rw (seen_definitions-later e w.definitions l, p) refl

-- what a step makes at a grown heap
pub step_there : {h h' : Objects} → Extends h h' → (w : Content) (t t' : Table) (steps depth : ℕ) → WorldLies h w → t'.packages ≡ t.packages → (o : Object ℕ) (p : Progress) (r : Expanded layers.Made)
    → looked (setting_at h' w t' steps depth) (look_at (setting_at h' w t' steps depth) p.symbols o) p ≡ r → looked (setting_at h w t steps depth) (look_at (setting_at h w t steps depth) p.symbols o) p ≡ r
step_there e w t t' steps depth l k o p r s = subst (λ (y : Setting). looked y (look_at y p.symbols o) p ≡ r) (setting_later e w t t' steps depth l k) s

module _ (x : Setting) where
  pub settled_stays : (left : ℕ) (o : Object ℕ) (p q : Progress) (f : layers.Found) → looked x (look_at x p.symbols o) p ≡ Makes (layers.Stays f) q → settled x left o p ≡ Makes f q
  unfolding settled
  settled_stays zero o p q f e = rw e refl
  settled_stays (suc left) o p q f e = rw e refl

  pub settled_fails : (left : ℕ) (o : Object ℕ) (p q : Progress) (f : ExpandFault) → looked x (look_at x p.symbols o) p ≡ Fails f q → settled x left o p ≡ Fails f q
  unfolding settled
  settled_fails zero o p q f e = rw e refl
  settled_fails (suc left) o p q f e = rw e refl

  pub settled_last : (left : ℕ) (o o' : Object ℕ) (p q : Progress) → left ≡ 0 → looked x (look_at x p.symbols o) p ≡ Makes (layers.Again o') q → settled x left o p ≡ Fails (MacroStopped Steps None) q
  unfolding settled
  settled_last zero o o' p q l e = rw e refl
  settled_last (suc left) o o' p q l e = absurd (omega (arith, l))

  pub settled_again : (left : ℕ) (o o' : Object ℕ) (p q : Progress) → 0 < left → looked x (look_at x p.symbols o) p ≡ Makes (layers.Again o') q → settled x left o p ≡ settled x (left - 1) o' q
  unfolding settled
  settled_again zero o o' p q l e = absurd (omega (arith, l))
  settled_again (suc left) o o' p q l e = rw e (rw sub-one refl)
