-- Lists as objects.
use Rattle.std.specs.Prelude.{ℕ, List}
use Rattle.model_objects.specs.Object.{Object, Integer, Symbol, Text, Pair, list_onto}
use Rattle.model_symbols.specs.Opening as symbols

abbrev pub nil : Object ℕ
nil = Symbol symbols.nil

abbrev pub list_of : List (Object ℕ) → Object ℕ
list_of os = list_onto os nil

-- the elements, the last first, in front of an object
abbrev pub reversed_onto : Object ℕ → Object ℕ → Object ℕ
reversed_onto (Integer n) end = end
reversed_onto (Symbol s) end = end
reversed_onto (Text bytes) end = end
reversed_onto (Pair a d) end = reversed_onto d (Pair a end)
