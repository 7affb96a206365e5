-- What a world supplies has known symbols, and goes on to have them.
use Rattle.std.proofs.Common.{◌≡◌, ℕ, ◌≤◌, List, [], ◌∷◌, ◌++◌, map, Bool, true, false, Option, Some, None, refl, sym, ◌∙◌, subst, inl, inr}
use Rattle.std.specs.Prelude.{◌⊎◌, nat_eq, if◌then◌else◌}
use Rattle.std.specs.Option.{option_or}
use Rattle.std.proofs.lemmas.List.Folds.{find-append}
use Rattle.model_objects.specs.Object.{Object}
use Rattle.model_terms.specs.Cores.{Core}
use Rattle.model_terms.specs.Worlds.{World, Definition, MacroFormals, Macro, Constant, Named, Signed, definition, definition_name}
use Rattle.model_expansion_parts.specs.Known.{KnowsSupplies}
use Rattle.model_expansion_parts.proofs.KnownLemmas.{supplies_later}
use Rattle.model_events.specs.Functions.{Draft, Candidate, ordinary_signature, before_rounds, signed}
use Rattle.model_supplies.specs.Laws.{SuppliesAreKnown, KnowsSupply, KnowsEach, SuppliesStay}

pub supplies_are_known : SuppliesAreKnown
supplies_are_known = record {
  known = λ x n s. record {
    enough = s.enough;
    constants = s.constants;
    macros = λ f name formals body e. (s.optional f name formals body e, s.keys f name formals body e);
  };
}

-- ---- definitions by their names

found_supply : (n : ℕ) (w : World) → KnowsEach n w → (x : ℕ) (d : Definition) → definition w x ≡ Some d → KnowsSupply n d
found_supply n [] k x d e = cc
found_supply n (c ∷ w) k x d e = go (nat_eq x (definition_name c)) e (found_supply n w k.1 x d)
  where
    some_is : Some c ≡ Some d → c ≡ d
    some_is f = cc

    go : (b : Bool) → (if b then Some c else definition w x) ≡ Some d → (definition w x ≡ Some d → KnowsSupply n d) → KnowsSupply n d
    go true f later = subst (KnowsSupply n) (some_is f) k.0
    go false f later = later f

each_supplies : (n : ℕ) (w : World) → 2 ≤ n → KnowsEach n w → KnowsSupplies n w
each_supplies n w two k = record {
  enough = two;
  constants = λ s name value e. found_supply n w k s (Constant name value) e;
  macros = λ s name formals body e. found_supply n w k s (Macro name formals body) e;
}

-- ---- more definitions

found_in : (w new : World) (x : ℕ) (d : Definition) → definition (w ++ new) x ≡ Some d → (definition w x ≡ Some d) ⊎ (definition new x ≡ Some d)
found_in w new x d e = go (definition w x) refl (sym (find-append (λ d. nat_eq x (definition_name d)) w new) ∙ e)
  where
    go : (c : Option Definition) → definition w x ≡ c → option_or c (definition new x) ≡ Some d → (definition w x ≡ Some d) ⊎ (definition new x ≡ Some d)
    go None f g = inr g
    go (Some c) f g = inl (f ∙ g)

more_supplies : (n : ℕ) (w new : World) → KnowsSupplies n w → KnowsEach n new → KnowsSupplies n (w ++ new)
more_supplies n w new h k = record {
  enough = h.enough;
  constants = λ s name value e. constant s name value (found_in w new s (Constant name value) e);
  macros = λ s name formals body e. macro s name formals body (found_in w new s (Macro name formals body) e);
}
  where
    constant : (s name : ℕ) (value : Object ℕ) → (definition w s ≡ Some (Constant name value)) ⊎ (definition new s ≡ Some (Constant name value)) → KnowsSupply n (Constant name value)
    constant s name value (inl e) = h.constants s name value e
    constant s name value (inr e) = found_supply n new k s (Constant name value) e

    macro : (s name : ℕ) (formals : MacroFormals) (body : Core) → (definition w s ≡ Some (Macro name formals body)) ⊎ (definition new s ≡ Some (Macro name formals body)) → KnowsSupply n (Macro name formals body)
    macro s name formals body (inl e) = h.macros s name formals body e
    macro s name formals body (inr e) = found_supply n new k s (Macro name formals body) e

-- ---- functions that are being admitted

each_mapped : {A : Type 0} (n : ℕ) (f : A → Definition) → ((a : A) → KnowsSupply n (f a)) → (all : List A) → KnowsEach n (map f all)
each_mapped n f h [] = tt
each_mapped n f h (a ∷ all) = (h a, each_mapped n f h all)

before_supplies : (n : ℕ) (c : Candidate) → KnowsSupply n (before_rounds c)
before_supplies n c = go c.executable
  where
    go : (b : Bool) → KnowsSupply n (if b then Named c.member.name c.member.formals else Signed c.member.name c.member.formals (ordinary_signature c.member.formals) false)
    go true = tt
    go false = tt

pub supplies_stay : SuppliesStay
supplies_stay = record {
  each = each_supplies;
  more = more_supplies;
  symbols = λ m n w l h. supplies_later m n l w h;
  by_names = λ n w ds h. more_supplies n w (map (λ (d : Draft). Named d.name d.formals) ds) h (each_mapped n (λ (d : Draft). Named d.name d.formals) (λ d. tt) ds);
  rounds = λ n w cs h. more_supplies n w (map before_rounds cs) h (each_mapped n before_rounds (before_supplies n) cs);
  by_signatures = λ n w known cs h. more_supplies n w (map (signed known) cs) h (each_mapped n (signed known) (λ c. tt) cs);
}
