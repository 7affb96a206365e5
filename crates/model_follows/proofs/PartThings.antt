-- Several values as one, and as many as there are.
use Rattle.std.proofs.Common.{◌≡◌, ℕ, suc, ◌+◌, ◌-◌, ◌≤◌, List, [], ◌∷◌, length, false, refl, ap, ◌∙◌, arith}
use Rattle.std.specs.Prelude.{nat_eq}
use Rattle.std.proofs.lemmas.Bool.Decides.{nat_tests}
use Rattle.model_objects.specs.Object.{Pair}
use Rattle.model_symbols.specs.Symbols.{QualifiedName}
use Rattle.model_prims.specs.Kinds.{by_name}
use Rattle.model_prims.specs.Lists.{element}
use Rattle.model_terms.specs.Worlds.{Out, Scope}
use Rattle.model_eval.specs.Outcomes.{Shown}
use Rattle.model_logic.specs.Logic.{Thing, element_values}
use Rattle.model_logic.specs.LogicFunctions.{as_list}
use Rattle.model_accepted.specs.StobjScopes.{AreOutputs}
use Rattle.model_follows.specs.Follows.{one_thing}
use Rattle.model_follows.proofs.HeldThings.{Held, all_held}

-- ---- parts of a list

elements_behind : (xs : List ℕ) (n : ℕ) (a d : Thing) → element_values xs (n + 1) (Pair a d) ≡ element_values xs n d
elements_behind [] n a d = refl
elements_behind (x ∷ xs) n a d = rw (not_zero n, back n) (ap (λ (os : List Thing). element by_name n d ∷ os) (elements_behind xs (n + 1) a d))
  where
    not_zero : (n : ℕ) → nat_eq (n + 1) 0 ≡ false
    not_zero n = grind (arith, nat_tests)

    back : (n : ℕ) → n + 1 - 1 ≡ n
    back n = omega arith

pub elements_are : (xs : List ℕ) (os : List Thing) → length xs ≡ length os → element_values xs 0 (as_list by_name os) ≡ os
elements_are [] [] e = refl
elements_are [] (o ∷ os) e = absurd (omega (arith, e))
elements_are (x ∷ xs) [] e = absurd (omega (arith, e))
elements_are (x ∷ xs) (o ∷ os) e =
    let fewer : length xs ≡ length os = omega (arith, e) in
    ap (λ (ps : List Thing). o ∷ ps) (elements_behind xs 0 o (as_list by_name os) ∙ elements_are xs os fewer)

pub one_of_several : (os : List Thing) → 2 ≤ length os → one_thing os ≡ as_list by_name os
one_of_several [] l = refl
one_of_several (o ∷ []) l = absurd (omega arith)
one_of_several (o ∷ (p ∷ os)) l = refl

pub length_things : (symbols : List QualifiedName) (lists : Held) (vs : List (Shown ℕ)) → length (all_held symbols lists vs) ≡ length vs
length_things symbols lists [] = refl
length_things symbols lists (v ∷ vs) = ap (λ (n : ℕ). suc n) (length_things symbols lists vs)

pub length_outputs : (scope : Scope) (kinds : List Out) (vs : List (Shown ℕ)) → AreOutputs scope kinds vs → length vs ≡ length kinds
length_outputs scope [] [] a = refl
length_outputs scope [] (v ∷ vs) a = absurd a
length_outputs scope (k ∷ ks) [] a = absurd a
length_outputs scope (k ∷ ks) (v ∷ vs) a = ap (λ (n : ℕ). suc n) (length_outputs scope ks vs a.1)
