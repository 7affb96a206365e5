-- What is printed for a stobj, and the cells that it holds.
use Rattle.std.specs.Prelude.{◌≡◌, ℕ, ◌-◌, ◌^◌, List, [], ◌∷◌, codes, map}
use Rattle.model_objects.specs.Object.{Object, Symbol, Text, Pair, list_onto}
use Rattle.model_symbols.specs.Symbols.{QualifiedName}
use Rattle.model_symbols.specs.Opening.{nil, truth_name, nil_name}
use Rattle.model_lists.specs.Lists.{StobjList, Value, Pairs, End}
use Rattle.model_lists.specs.Normal.{shown, held_cells}
use Rattle.model_eval_rows.specs.Books.{number, symbol, items, numbers}

-- T, NIL, B::A, A::X and A::Y, in the order of their numbers
abbrev pub symbols : List QualifiedName
symbols =
    truth_name ∷ nil_name ∷ record { home = codes "B"; name = codes "A" } ∷ record { home = codes "A"; name = codes "X" }
    ∷ record { home = codes "A"; name = codes "Y" } ∷ []

pub record ShownRow : Type 0 where
  pub list : StobjList ℕ
  pub shown : Object ℕ
  pub cells : ℕ

pub record ShownAreRight (rows : List ShownRow) : Type 0 where
  pub shown : map (λ (r : ShownRow). shown symbols r.list) rows ≡ map (λ (r : ShownRow). r.shown) rows
  pub cells : map (λ (r : ShownRow). held_cells symbols r.list) rows ≡ map (λ (r : ShownRow). r.cells) rows

abbrev row : StobjList ℕ → Object ℕ → ℕ → ShownRow
row list shown cells = record { list = list; shown = shown; cells = cells }

abbrev list : List (Object ℕ) → Object ℕ
list os = list_onto os (Symbol nil)

abbrev number_list : List ℕ → Object ℕ
number_list ns = list (map number ns)

abbrev b_a : Object ℕ
b_a = symbol 2

abbrev a_x : Object ℕ
a_x = symbol 3

abbrev a_y : Object ℕ
a_y = symbol 4

unfoldable pub shown_rows : List ShownRow
shown_rows =
    row End (Symbol nil) 0
    -- (1 NIL (0 3) ((X . 3) (Y . 4)) NIL): a scalar, an array without elements, one with two, a hash field and one without pairs
    ∷ row (items (Value (number 1) ∷ End ∷ numbers (0 ∷ 3 ∷ []) ∷ Pairs ((a_y, number 4) ∷ (a_x, number 3) ∷ []) ∷ Pairs [] ∷ []))
    (list (number 1 ∷ Symbol nil ∷ number_list (0 ∷ 3 ∷ []) ∷ list (Pair a_x (number 3) ∷ Pair a_y (number 4) ∷ []) ∷ Symbol nil ∷ [])) 0
    -- the first pair of a key counts
    ∷ row (items (Pairs ((a_x, number 2) ∷ (a_y, number 5) ∷ (a_x, number 1) ∷ (a_y, Text (codes "shadowed")) ∷ []) ∷ []))
    (list (list (Pair a_x (number 2) ∷ Pair a_y (number 5) ∷ []) ∷ [])) 0
    -- integers, symbols by package and then name, strings, pairs by car and then cdr
    ∷ row (items (Pairs ((Pair (number 1) (number 2), a_x) ∷ (Text (codes "b"), a_x) ∷ (b_a, a_x) ∷ (number 7, a_x) ∷ (Pair (number 1) (number 1), a_x) ∷ (Text (codes "a"), a_x) ∷ (a_y, a_x)
    ∷ (number 3, a_x) ∷ (a_x, a_x) ∷ (Text (codes "ab"), a_x) ∷ []) ∷ []))
    (list (list (Pair (number 3) a_x ∷ Pair (number 7) a_x ∷ Pair a_x a_x ∷ Pair a_y a_x ∷ Pair b_a a_x ∷ Pair (Text (codes "a")) a_x ∷ Pair (Text (codes "ab")) a_x ∷ Pair (Text (codes "b")) a_x
    ∷ Pair (Pair (number 1) (number 1)) a_x ∷ Pair (Pair (number 1) (number 2)) a_x ∷ []) ∷ []))
    8
    -- a pair whose value is a list is one list
    ∷ row (items (Pairs ((a_x, number_list (1 ∷ 2 ∷ [])) ∷ []) ∷ [])) (list (list (list (a_x ∷ number 1 ∷ number 2 ∷ []) ∷ []) ∷ [])) 2
    -- in a child too
    ∷ row (items (items (Pairs ((a_y, number 4) ∷ (a_x, number 3) ∷ (a_y, number 1) ∷ []) ∷ []) ∷ []))
    (list (list (list (Pair a_x (number 3) ∷ Pair a_y (number 4) ∷ []) ∷ []) ∷ [])) 0
    -- nine bytes, and a pair of an integer beyond 64 bits and of one that is not
    ∷ row (items (Value (Text (codes "abcdefghi")) ∷ [])) (list (Text (codes "abcdefghi") ∷ [])) 3
    ∷ row (items (Value (Pair (number (2 ^ 63)) (number (2 ^ 63 - 1))) ∷ [])) (list (Pair (number (2 ^ 63)) (number (2 ^ 63 - 1)) ∷ [])) 2
    ∷ []
