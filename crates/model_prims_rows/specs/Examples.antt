-- A call of a primitive over the symbols that every table begins with, and its answer, worked out by hand.
use Rattle.std.specs.Prelude.{◌≡◌, ℕ, ◌-◌, ◌^◌, List, [], ◌∷◌, length, drop, map, pos, neg_ℤ, unwrap_or}
use Rattle.std.specs.List.{find}
use Rattle.std.specs.Str.{bytes_eq}
use Rattle.model_objects.specs.Object.{Object, Integer, Symbol, Pair, list_onto}
use Rattle.model_symbols.specs.Opening.{opening, truth, nil}
use Rattle.model_prims.specs.Applied.{Applied, Gives, Stops, applied}
use Rattle.model_prims.specs.Rows.{Row, table, no_row}

-- the name of a primitive, the arguments, and the answer: the value with the symbols that are new, or a stop
pub record Example : Type 0 where
  pub name : List ℕ
  pub args : List (Object ℕ)
  pub answer : Applied

abbrev pub with_new_symbols : Applied → Applied
with_new_symbols (Gives o symbols) = Gives o (drop (length opening.symbols) symbols)
with_new_symbols (Stops s) = Stops s

-- the row of a name
abbrev pub row_called : List ℕ → Row
row_called name = unwrap_or (find (λ (r : Row). bytes_eq name r.symbol.name) table) no_row

abbrev pub answer_to : Example → Applied
answer_to e = with_new_symbols (applied opening (row_called e.name).prim e.args)

-- the definitions give each answer
pub record AreRight (examples : List Example) : Type 0 where
  pub all : map answer_to examples ≡ map (λ (e : Example). e.answer) examples

-- ---- to write examples by

abbrev pub call : List ℕ → List (Object ℕ) → Applied → Example
call name args answer = record { name = name; args = args; answer = answer }

-- a value, and no new symbol
abbrev pub value : Object ℕ → Applied
value o = Gives o []

abbrev pub plus : ℕ → Object ℕ
plus n = Integer (pos n)

abbrev pub minus : ℕ → Object ℕ
minus n = Integer (neg_ℤ (pos n))

-- the greatest integer, and the least
abbrev pub greatest : Object ℕ
greatest = plus (2 ^ 127 - 1)

abbrev pub least : Object ℕ
least = minus (2 ^ 127)

abbrev pub yes_value : Applied
yes_value = value (Symbol truth)

abbrev pub no_value : Applied
no_value = value (Symbol nil)

abbrev pub t : Object ℕ
t = Symbol truth

abbrev pub nothing : Object ℕ
nothing = Symbol nil

abbrev pub list : List (Object ℕ) → Object ℕ
list os = list_onto os nothing

abbrev pub one_two : Object ℕ
one_two = list (plus 1 ∷ plus 2 ∷ [])

-- `(1 . 2)`
abbrev pub dotted : Object ℕ
dotted = Pair (plus 1) (plus 2)
