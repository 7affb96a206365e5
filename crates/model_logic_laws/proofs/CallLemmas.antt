-- A function of an abstract stobj is called as its logic function.
use Rattle.std.proofs.Common.{◌≡◌, ℕ, zero, suc, ◌+◌, List, Bool, true, false, Option, Some, None, refl, sym, ap, ◌∙◌}
use Rattle.std.specs.Prelude.{nat_le, if◌then◌else◌}
use Rattle.model_terms.specs.Worlds.{Definition, FunctionOfAbstract, definition, Primitive, Defined, Macro, Constant, Concrete, Generated, Abstract, OfAbstract, Named, Signed}
use Rattle.model_logic.specs.Logic.{Theory, Thing, Found, Caller, spending, defined_value, logic_of_abstract, call_within}
use Rattle.model_logic_laws.specs.Guards.{ExportsCallAlike}

module _ (b : Theory) (budget : ℕ) where
  -- a function that is of no abstract stobj does not ask for the value of one
  same_plain : (call : Caller) (one other : ℕ → List Thing → ℕ → Option Found) (d : Option Definition) → ((g : FunctionOfAbstract) → d ≡ Some (OfAbstract g) → ⊥) → (args : List Thing) (n : ℕ)
      → defined_value b budget call one d args n ≡ defined_value b budget call other d args n
  same_plain call one other None h args n = refl
  same_plain call one other (Some (Primitive name row)) h args n = refl
  same_plain call one other (Some (Defined f)) h args n = refl
  same_plain call one other (Some (Macro name formals body)) h args n = refl
  same_plain call one other (Some (Constant name value)) h args n = refl
  same_plain call one other (Some (Concrete d class)) h args n = refl
  same_plain call one other (Some (Generated g)) h args n = refl
  same_plain call one other (Some (Abstract d)) h args n = refl
  same_plain call one other (Some (OfAbstract f)) h args n = absurd (h f refl)
  same_plain call one other (Some (Named name formals)) h args n = refl
  same_plain call one other (Some (Signed name formals signature executable)) h args n = refl

  calls_alike : (x : ℕ) (f : FunctionOfAbstract) → definition b.world x ≡ Some (OfAbstract f) → ((g : FunctionOfAbstract) → definition b.world f.logic ≡ Some (OfAbstract g) → ⊥) → (nest : ℕ) (args : List Thing) (n : ℕ)
      → call_within b budget nest x args n ≡ call_within b budget nest f.logic args n
  unfolding call_within
  calls_alike x f e h zero args n = refl
  calls_alike x f e h (suc m) args n = by_test (nat_le (n + 1) budget)
    where
      same : defined_value b budget (call_within b budget m) (logic_of_abstract b budget (call_within b budget m)) (definition b.world x) args (n + 1)
          ≡ defined_value b budget (call_within b budget m) (logic_of_abstract b budget (call_within b budget m)) (definition b.world f.logic) args (n + 1)
      same =
          ap (λ (d : Option Definition). defined_value b budget (call_within b budget m) (logic_of_abstract b budget (call_within b budget m)) d args (n + 1)) e
          ∙ same_plain (call_within b budget m) (λ logic os z. None) (logic_of_abstract b budget (call_within b budget m)) (definition b.world f.logic) h args (n + 1)

      by_test : (t : Bool)
          → (if t then defined_value b budget (call_within b budget m) (logic_of_abstract b budget (call_within b budget m)) (definition b.world x) args (n + 1) else None)
          ≡ (if t then defined_value b budget (call_within b budget m) (logic_of_abstract b budget (call_within b budget m)) (definition b.world f.logic) args (n + 1) else None)
      by_test true = same
      by_test false = refl

pub exports_call_alike : ExportsCallAlike
exports_call_alike = record { calls = λ b x f e h budget nest args n. calls_alike b budget x f e h nest args n }
