-- What is said of classes, instances, outputs by text and the first fault, as laws.
use Rattle.std.specs.Prelude.{◌≡◌, ◌≢◌, ◌↔◌, ℕ, ◌<◌, List, ◌∷◌, ◌++◌, map, true, false, ◌&&◌, not, Some, None}
use Rattle.std.specs.Ordering.{nat_cmp}
use Rattle.std.specs.Cmp.Lexicographic.{slice_cmp}
use Rattle.std.specs.List.{AllByRecursion, Any, zip}
use Rattle.std.specs.List.Sorted.{IsStrictlySortedBy}
use Rattle.std.specs.declared.cmp.Ordering.{Ordering}
use Rattle.model_terms.specs.declared.rule.Rule.{Rule}
use Rattle.model_terms.specs.declared.rule.Rule.TheVariants.{S1, S2, S3, S4, S5, S6, S7, S8, S9, S10, S11, S12, S13, S14, S15, S16}
use Rattle.model_terms.specs.declared.rule.Mode.{Mode}
use Rattle.model_terms.specs.declared.rule.Mode.TheVariants.{Logic}
use Rattle.model_terms.specs.Cores.{Core, Place, form_at}
use Rattle.model_terms.specs.Worlds.{World, Definition, Concrete, Abstract, Descriptor, AbstractDescriptor, Out, Signature, Scope, definition_name, HasDistinctNames, definition}
use Rattle.model_terms.specs.Classes.{is_stobj_name, congruent, stobjs, repeats, all_congruent, renamed_out, instance_of}
use Rattle.model_terms.specs.Outputs.{Known, signature_of, outputs, outs}
use Rattle.model_terms.specs.Rounds.{Member, round, known_at_last}
use Rattle.model_terms.specs.Sites.{Placed, sites}
use Rattle.model_terms.specs.Rules.{fails}
use Rattle.model_terms.specs.Faults.{Fault, first_fault}
use Rattle.model_terms_laws.specs.Names.{Names}

-- ---- worlds

-- a definition is found by its name alone
pub record FindsByName : Type 0 where
  pub named : (w : World) (x : ℕ) (d : Definition) → definition w x ≡ Some d → x ≡ definition_name d
  pub found : (before after : World) (d : Definition) → HasDistinctNames (before ++ d ∷ after) → definition (before ++ d ∷ after) (definition_name d) ≡ Some d

-- ---- congruence

-- congruence is an equivalence on the names of stobjs, and holds of no other name
pub record IsEquivalence : Type 0 where
  pub reflexive : (w : World) (x : ℕ) → is_stobj_name w x ≡ true → congruent w x x ≡ true
  pub symmetric : (w : World) (x y : ℕ) → congruent w x y ≡ congruent w y x
  pub transitive : (w : World) (x y z : ℕ) → congruent w x y ≡ true → congruent w y z ≡ true → congruent w x z ≡ true
  pub of_objects : (w : World) (x y : ℕ) → congruent w x y ≡ true → is_stobj_name w x ≡ true

-- the first stobj of each class is a concrete stobj
abbrev pub HasConcreteClasses : World → Type 0
HasConcreteClasses w = (x class : ℕ) (d : Descriptor) → definition w x ≡ Some (Concrete d class) → (e : Descriptor) × (c : ℕ) × (definition w class ≡ Some (Concrete e c))

-- an abstract stobj is congruent to itself alone
pub record IsAlone : Type 0 where
  pub alone : (w : World) (x y : ℕ) (d : AbstractDescriptor) → HasConcreteClasses w → definition w x ≡ Some (Abstract d) → congruent w x y ≡ true → x ≡ y

-- ---- instances

-- an instance has the actuals in the places of the stobj formals, its outputs are the signature's with each formal renamed
-- to its actual, and it is missing exactly where an actual is not congruent to its formal or is repeated
pub record IsInstance : Type 0 where
  pub missing : (w : World) (s : Signature) (actuals : List ℕ) → (instance_of w s actuals ≡ None) ↔ ((all_congruent w (stobjs s.ins) actuals && not (repeats actuals)) ≡ false)
  pub ins : (w : World) (s i : Signature) (actuals : List ℕ) → repeats (stobjs s.ins) ≡ false → instance_of w s actuals ≡ Some i → stobjs i.ins ≡ actuals
  pub outs : (w : World) (s i : Signature) (actuals : List ℕ) → instance_of w s actuals ≡ Some i → i.outs ≡ map (renamed_out (zip (stobjs s.ins) actuals)) s.outs
  pub itself : (w : World) (s : Signature) → AllByRecursion (λ x. is_stobj_name w x ≡ true) (stobjs s.ins) → repeats (stobjs s.ins) ≡ false → instance_of w s (stobjs s.ins) ≡ Some s

-- ---- the first fault

-- the number of a rule
abbrev pub rule_number : Rule → ℕ
rule_number S1 = 1
rule_number S2 = 2
rule_number S3 = 3
rule_number S4 = 4
rule_number S5 = 5
rule_number S6 = 6
rule_number S7 = 7
rule_number S8 = 8
rule_number S9 = 9
rule_number S10 = 10
rule_number S11 = 11
rule_number S12 = 12
rule_number S13 = 13
rule_number S14 = 14
rule_number S15 = 15
rule_number S16 = 16

-- no rule fails at the place
abbrev pub AllHold : World → Mode → Placed → Type 0
AllHold w mode p = (r : Rule) → fails w mode r p.site ≡ false

-- a rule fails at one of some places, and no smaller one does; no rule fails at an earlier place
pub record IsFirst (w : World) (mode : Mode) (ps : List Placed) (f : Fault) : Type 0 where
  pub earlier : List Placed
  pub at : Placed
  pub later : List Placed
  pub all : ps ≡ earlier ++ at ∷ later
  pub place : at.place ≡ f.place
  pub hold : AllByRecursion (AllHold w mode) earlier
  pub fails_there : fails w mode f.rule at.site ≡ true
  pub smaller : (r : Rule) → rule_number r < rule_number f.rule → fails w mode r at.site ≡ false

-- the first fault is the first, and is missing exactly where no rule fails at any place
pub record FindsFirst : Type 0 where
  pub first : (w : World) (mode : Mode) (scope : Scope) (f : Core) (expected : List Out) (fault : Fault)
      → first_fault w mode scope f expected ≡ Some fault → IsFirst w mode (sites w scope f expected) fault
  pub missing : (w : World) (mode : Mode) (scope : Scope) (f : Core) (expected : List Out)
      → (first_fault w mode scope f expected ≡ None) ↔ AllByRecursion (AllHold w mode) (sites w scope f expected)

-- ---- places

-- places in the order of text: a form comes before its children, and these in the order of their numbers
abbrev pub place_cmp : Placed → Placed → Ordering
place_cmp p q = slice_cmp nat_cmp p.place q.place

-- the sites of a form are its places, each once and in order, with the forms that stand there
pub record ArePlaces : Type 0 where
  pub stand : (w : World) (scope : Scope) (f : Core) (expected : List Out) → AllByRecursion (λ (p : Placed). form_at f p.place ≡ Some p.site.form) (sites w scope f expected)
  pub each : (w : World) (scope : Scope) (f g : Core) (expected : List Out) (place : Place) → form_at f place ≡ Some g → Any (λ (p : Placed). place ≡ p.place) (sites w scope f expected)
  pub order : (w : World) (scope : Scope) (f : Core) (expected : List Out) → IsStrictlySortedBy place_cmp (sites w scope f expected)

-- ---- growth

-- the stobjs that signatures name are stobjs of the world
abbrev pub NamesStobjs : World → Known → Type 0
NamesStobjs w known = (f : ℕ) (s : Signature) → signature_of w known f ≡ Some s → AllByRecursion (λ x. is_stobj_name w x ≡ true) (stobjs s.ins)

-- in a world that has grown a form has the outputs that it had, where no new definition has one of its names
pub record KeepsOutputs : Type 0 where
  pub kept : (w new : World) (known : Known) (scope : Scope) (f : Core) → NamesStobjs w known → Names (λ x. definition new x ≡ None) f
      → outputs (w ++ new) known scope f ≡ outputs w known scope f

-- ---- cliques

-- once there were as many rounds as functions, a further round changes nothing
pub record Settles : Type 0 where
  pub settled : (w : World) (ms : List Member) → round w ms (known_at_last w ms) ≡ known_at_last w ms

-- ---- what the rules are for

-- a form in which no rule fails gives the outputs that are expected of it
pub record GivesExpected : Type 0 where
  pub given : (w : World) (mode : Mode) (scope : Scope) (f : Core) (expected : List Out) → mode ≢ Logic → first_fault w mode scope f expected ≡ None → outs w scope f ≡ expected
