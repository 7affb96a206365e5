-- The symbols in an object (ACL2's manual, topic SYMBOLP).
use Rattle.std.specs.Prelude.{ℕ, ◌<◌}
use Rattle.model_objects.specs.Object.{Object, Integer, Symbol, Text, Pair}

-- each symbol in the object has the property
abbrev pub Symbols : {S : Type 0} → (S → Type 0) → Object S → Type 0
Symbols P (Integer n) = Unit {0}
Symbols P (Symbol s) = P s
Symbols P (Text bytes) = Unit {0}
Symbols P (Pair a d) = Symbols P a × Symbols P d

-- each symbol in the object has a number below n
abbrev pub Knows : ℕ → Object ℕ → Type 0
Knows n o = Symbols (λ s. s < n) o
