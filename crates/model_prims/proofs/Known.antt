-- Whether the symbols of what a primitive is to give are known.
use Rattle.std.specs.Prelude.{ℕ}
use Rattle.model_objects.specs.Named.{Symbols}
use Rattle.model_prims.specs.Values.{Wanted, Old, Number, Made, Power, Shift, Update, Interned}

-- each symbol of it has the property
abbrev pub WantedSymbols : (ℕ → Type 0) → Wanted ℕ → Type 0
WantedSymbols P (Old o) = Symbols P o
WantedSymbols P (Number n) = Unit {0}
WantedSymbols P (Made o) = Symbols P o
WantedSymbols P (Power b n) = Unit {0}
WantedSymbols P (Shift i c) = Unit {0}
WantedSymbols P (Update n o l) = Symbols P o × Symbols P l
WantedSymbols P (Interned name s) = P s
