-- The primitives over numbered symbols and over named ones, for the proofs that compare them.
use Rattle.std.specs.Prelude.{◌≡◌, ℕ, nat_eq}
use Rattle.model_objects.specs.Object.{named}
use Rattle.model_symbols.specs.Symbols.{QualifiedName, same_name}
use Rattle.model_symbols.specs.Opening.{truth, nil, truth_name, nil_name}
use Rattle.model_prims.specs.Values.{Wanted, Old, Number, Made, Power, Shift, Update, Interned}

-- the names tell numbers with a property apart, among them `T` and `NIL`
pub record IsNaming (f : ℕ → QualifiedName) (P : ℕ → Type 0) : Type 0 where
  pub same : (s t : ℕ) → P s → P t → same_name (f s) (f t) ≡ nat_eq s t
  pub at_truth : f truth ≡ truth_name
  pub at_nil : f nil ≡ nil_name
  pub knows_truth : P truth
  pub knows_nil : P nil

-- what is wanted, with each symbol by name
abbrev pub wanted_named : (ℕ → QualifiedName) → Wanted ℕ → Wanted QualifiedName
wanted_named f (Old o) = Old (named f o)
wanted_named f (Number n) = Number n
wanted_named f (Made o) = Made (named f o)
wanted_named f (Power b n) = Power b n
wanted_named f (Shift i c) = Shift i c
wanted_named f (Update n o l) = Update n (named f o) (named f l)
wanted_named f (Interned name s) = Interned name (f s)
