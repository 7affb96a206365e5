-- What a world supplies to an expansion, and that its symbols are known.
use Rattle.std.specs.Prelude.{ℕ, ◌≤◌, List, [], ◌∷◌, ◌++◌, map}
use Rattle.model_objects.specs.Named.{Knows}
use Rattle.model_terms.specs.Worlds.{World, Definition, Signature, Primitive, Defined, Macro, Constant, Concrete, Generated, Abstract, OfAbstract, Named, Signed}
use Rattle.model_expansion.specs.Expansion.{Setting}
use Rattle.model_expansion_forms.specs.Rows.{Supplies}
use Rattle.model_expansion_parts.specs.Known.{KnowsFormals, KnowsSupplies}
use Rattle.model_events.specs.Functions.{Draft, Candidate, with_names, before_rounds, signed}

pub record SuppliesAreKnown : Type 0 where
  pub known : (x : Setting) (n : ℕ) → Supplies x n → KnowsSupplies n x.world

-- the symbols of what a definition supplies: the value of a constant, and what formals of a macro are by default
abbrev pub KnowsSupply : ℕ → Definition → Type 0
KnowsSupply n (Primitive name row) = Unit {0}
KnowsSupply n (Defined f) = Unit {0}
KnowsSupply n (Macro name formals body) = KnowsFormals n formals
KnowsSupply n (Constant name value) = Knows n value
KnowsSupply n (Concrete d class) = Unit {0}
KnowsSupply n (Generated g) = Unit {0}
KnowsSupply n (Abstract d) = Unit {0}
KnowsSupply n (OfAbstract f) = Unit {0}
KnowsSupply n (Named name formals) = Unit {0}
KnowsSupply n (Signed name formals signature executable) = Unit {0}

-- the same of definitions
abbrev pub KnowsEach : ℕ → World → Type 0
KnowsEach n [] = Unit {0}
KnowsEach n (d ∷ w) = KnowsSupply n d × KnowsEach n w

pub record SuppliesStay : Type 0 where
  pub each : (n : ℕ) (w : World) → 2 ≤ n → KnowsEach n w → KnowsSupplies n w
  pub more : (n : ℕ) (w new : World) → KnowsSupplies n w → KnowsEach n new → KnowsSupplies n (w ++ new)
  pub symbols : (m n : ℕ) (w : World) → m ≤ n → KnowsSupplies m w → KnowsSupplies n w
  -- functions that are being admitted supply nothing: by their names, as rounds begin, and by their signatures
  pub by_names : (n : ℕ) (w : World) (ds : List Draft) → KnowsSupplies n w → KnowsSupplies n (with_names w ds)
  pub rounds : (n : ℕ) (w : World) (cs : List Candidate) → KnowsSupplies n w → KnowsSupplies n (w ++ map before_rounds cs)
  pub by_signatures : (n : ℕ) (w : World) (known : List (ℕ × Signature)) (cs : List Candidate) → KnowsSupplies n w → KnowsSupplies n (w ++ map (signed known) cs)
