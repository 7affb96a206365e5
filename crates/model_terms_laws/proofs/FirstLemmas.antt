-- The first fault is the first.
use Rattle.std.proofs.Common.{◌≡◌, ℕ, ◌+◌, ◌<◌, List, [], ◌∷◌, refl, ap, sym, ◌∙◌, subst, inl, inr, arith}
use Rattle.std.specs.Prelude.{Option, Some, None, Bool, true, false, ◌⊎◌, slice_index_or}
use Rattle.std.proofs.Math.Nat.{eq-or-lt_of_le}
use Rattle.std.specs.List.{find, AllByRecursion}
use Rattle.model_terms.specs.declared.rule.Rule.{Rule}
use Rattle.model_terms.specs.declared.rule.Rule.TheVariants.{S1}
use Rattle.model_terms.specs.declared.rule.Mode.{Mode}
use Rattle.model_terms.specs.Worlds.{World}
use Rattle.model_terms.specs.Sites.{Site, Placed, sites}
use Rattle.model_terms.specs.Rules.{fails}
use Rattle.model_terms.specs.Faults.{Fault, all_rules, first_rule, first_in, first_fault}
use Rattle.model_terms_laws.specs.Laws.{rule_number, AllHold, IsFirst, FindsFirst}

rule_at : ℕ → Rule
rule_at n = slice_index_or (S1 ∷ all_rules) n S1

at_number : (r : Rule) → rule_at (rule_number r) ≡ r
unfolding rule_at
at_number S1 = refl
at_number r = refl

same_rule : (q r : Rule) → rule_number q ≡ rule_number r → q ≡ r
same_rule q r e = sym (at_number q) ∙ (ap rule_at e ∙ at_number r)

below_all : (r : Rule) → rule_number r < 17
below_all S1 = omega arith
below_all r = omega arith

above_all : (r : Rule) → 0 < rule_number r
above_all S1 = omega arith
above_all r = omega arith

-- the rules from number k on
Numbered : ℕ → List Rule → Type 0
Numbered k [] = (r : Rule) → rule_number r < k
Numbered k (r ∷ rs) = (rule_number r ≡ k) × Numbered (k + 1) rs

numbered : Numbered 1 all_rules
unfolding Numbered
numbered = (refl, (refl, (refl, (refl, (refl, (refl, (refl, (refl, (refl, (refl, (refl, (refl, (refl, (refl, (refl, (refl, below_all))))))))))))))))

-- the test fails at each rule with a number below k
Fail : (Rule → Bool) → ℕ → Type 0
Fail test k = (r : Rule) → rule_number r < k → test r ≡ false

one_more : (test : Rule → Bool) (k : ℕ) (r : Rule) → rule_number r ≡ k → Fail test k → test r ≡ false → Fail test (k + 1)
unfolding Fail
one_more test k r at all h q below = go (eq-or-lt_of_le (omega (arith, below)))
  where
    go : (rule_number q ≡ k) ⊎ (rule_number q < k) → test q ≡ false
    go (inl e) = let same : q ≡ r = same_rule q r (e ∙ sym at) in ap test same ∙ h
    go (inr b) = all q b

record Smallest (test : Rule → Bool) (r : Rule) : Type 0 where
  pub fails_there : test r ≡ true
  pub smaller : (q : Rule) → rule_number q < rule_number r → test q ≡ false

some_same : (q r : Rule) → Some q ≡ Some r → q ≡ r
some_same q r e = cc

none_some : (r : Rule) → ◌≡◌ {A = Option Rule} None (Some r) → ⊥
none_some r e = cc

some_none : (r : Rule) → ◌≡◌ {A = Option Rule} (Some r) None → ⊥
some_none r e = cc

smallest_here : (test : Rule → Bool) (k : ℕ) (q r : Rule) → rule_number q ≡ k → Fail test k → test q ≡ true → q ≡ r → Smallest test r
unfolding Fail
smallest_here test k q r at all h same =
    subst (λ r. Smallest test r) same (record { fails_there = h; smaller = λ p below. all p (omega (arith, at, below)) })

found_in : (test : Rule → Bool) (k : ℕ) (q : Rule) (rs : List Rule) (r : Rule) → Numbered k (q ∷ rs) → Fail test k → find test (q ∷ rs) ≡ Some r
    → (Fail test (k + 1) → find test rs ≡ Some r → Smallest test r) → (b : Bool) → test q ≡ b → Smallest test r
unfolding Numbered
found_in test k q rs r run all e later true h = smallest_here test k q r run.0 all h (some_same q r (rw h at e))
found_in test k q rs r run all e later false h = later (one_more test k q run.0 all h) (rw h at e)

found : (test : Rule → Bool) (k : ℕ) (rs : List Rule) (r : Rule) → Numbered k rs → Fail test k → find test rs ≡ Some r → Smallest test r
unfolding Numbered
found test k [] r run all e = absurd (none_some r e)
found test k (q ∷ rs) r run all e = found_in test k q rs r run all e (λ more f. found test (k + 1) rs r run.1 more f) (test q) refl

none_in : (test : Rule → Bool) (k : ℕ) (q : Rule) (rs : List Rule) → Numbered k (q ∷ rs) → Fail test k → find test (q ∷ rs) ≡ None
    → (Fail test (k + 1) → find test rs ≡ None → (r : Rule) → test r ≡ false) → (b : Bool) → test q ≡ b → (r : Rule) → test r ≡ false
unfolding Numbered
none_in test k q rs run all e later true h = absurd (some_none q (rw h at e))
none_in test k q rs run all e later false h = later (one_more test k q run.0 all h) (rw h at e)

not_found : (test : Rule → Bool) (k : ℕ) (rs : List Rule) → Numbered k rs → Fail test k → find test rs ≡ None → (r : Rule) → test r ≡ false
unfolding Numbered Fail
not_found test k [] run all e = λ r. all r (run r)
not_found test k (q ∷ rs) run all e = none_in test k q rs run all e (λ more f. not_found test (k + 1) rs run.1 more f) (test q) refl

-- where each fails none is found
none_among : (test : Rule → Bool) (rs : List Rule) → ((r : Rule) → test r ≡ false) → find test rs ≡ None
none_among test [] all = refl
none_among test (r ∷ rs) all = rw (all r) (none_among test rs all)

fail_none : (test : Rule → Bool) → Fail test 1
unfolding Fail
fail_none test r below = absurd (omega (arith, below, above_all r))

smallest : (w : World) (mode : Mode) (s : Site) (r : Rule) → first_rule w mode s ≡ Some r → Smallest (λ q. fails w mode q s) r
smallest w mode s r e = found (λ q. fails w mode q s) 1 all_rules r numbered (fail_none (λ q. fails w mode q s)) e

all_hold : (w : World) (mode : Mode) (p : Placed) → first_rule w mode p.site ≡ None → AllHold w mode p
all_hold w mode p e = not_found (λ q. fails w mode q p.site) 1 all_rules numbered (fail_none (λ q. fails w mode q p.site)) e

-- ---- places

fault_same : (f g : Fault) → Some f ≡ Some g → f ≡ g
fault_same f g e = cc

none_fault : (f : Fault) → ◌≡◌ {A = Option Fault} None (Some f) → ⊥
none_fault f e = cc

fault_none : (f : Fault) → ◌≡◌ {A = Option Fault} (Some f) None → ⊥
fault_none f e = cc

further : (w : World) (mode : Mode) (p : Placed) (ps : List Placed) (f : Fault) → AllHold w mode p → IsFirst w mode ps f → IsFirst w mode (p ∷ ps) f
further w mode p ps f here first =
    record {
      earlier = p ∷ first.earlier;
      at = first.at;
      later = first.later;
      all = ap (λ xs. p ∷ xs) first.all;
      place = first.place;
      hold = (here, first.hold);
      fails_there = first.fails_there;
      smaller = first.smaller;
    }

first_here : (w : World) (mode : Mode) (p : Placed) (ps : List Placed) (f : Fault) (r : Rule) → Smallest (λ q. fails w mode q p.site) r → record { rule = r; place = p.place } ≡ f → IsFirst w mode (p ∷ ps) f
first_here w mode p ps f r s same =
    subst (λ x. IsFirst w mode (p ∷ ps) x) same
    (record { earlier = []; at = p; later = ps; all = refl; place = refl; hold = tt; fails_there = s.fails_there; smaller = s.smaller })

first_step : (w : World) (mode : Mode) (p : Placed) (ps : List Placed) (f : Fault) → first_in w mode (p ∷ ps) ≡ Some f → (first_in w mode ps ≡ Some f → IsFirst w mode ps f)
    → (o : Option Rule) → first_rule w mode p.site ≡ o → IsFirst w mode (p ∷ ps) f
unfolding first_in
first_step w mode p ps f e later None h = further w mode p ps f (all_hold w mode p h) (later (rw h at e))
first_step w mode p ps f e later (Some r) h = first_here w mode p ps f r (smallest w mode p.site r h) (fault_same _ f (rw h at e))

pub first_place : (w : World) (mode : Mode) (ps : List Placed) (f : Fault) → first_in w mode ps ≡ Some f → IsFirst w mode ps f
unfolding first_in
first_place w mode [] f e = absurd (none_fault f e)
first_place w mode (p ∷ ps) f e = first_step w mode p ps f e (first_place w mode ps f) (first_rule w mode p.site) refl

missing_step : (w : World) (mode : Mode) (p : Placed) (ps : List Placed) → first_in w mode (p ∷ ps) ≡ None → (first_in w mode ps ≡ None → AllByRecursion (AllHold w mode) ps)
    → (o : Option Rule) → first_rule w mode p.site ≡ o → AllByRecursion (AllHold w mode) (p ∷ ps)
unfolding first_in
missing_step w mode p ps e later None h = (all_hold w mode p h, later (rw h at e))
missing_step w mode p ps e later (Some r) h = absurd (fault_none _ (rw h at e))

no_fault : (w : World) (mode : Mode) (ps : List Placed) → first_in w mode ps ≡ None → AllByRecursion (AllHold w mode) ps
no_fault w mode [] e = tt
no_fault w mode (p ∷ ps) e = missing_step w mode p ps e (no_fault w mode ps) (first_rule w mode p.site) refl

no_first : (w : World) (mode : Mode) (ps : List Placed) → AllByRecursion (AllHold w mode) ps → first_in w mode ps ≡ None
unfolding first_in
no_first w mode [] all = refl
no_first w mode (p ∷ ps) all =
    let none : first_rule w mode p.site ≡ None = none_among (λ r. fails w mode r p.site) all_rules all.0 in
    rw none (no_first w mode ps all.1)

pub finds_first : FindsFirst
unfolding first_fault
finds_first =
    record {
      first = λ w mode scope f expected fault e. first_place w mode (sites w scope f expected) fault e;
      missing = λ w mode scope f expected. (no_fault w mode (sites w scope f expected), no_first w mode (sites w scope f expected));
    }
