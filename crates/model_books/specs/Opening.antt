-- The session that every run begins with.
use Rattle.std.specs.Prelude.{◌≡◌, ℕ, List, [], ◌∷◌, ◌++◌, map}
use Rattle.std.specs.List.{range_with_len}
use Rattle.model_objects.specs.Object.{Object, Symbol}
use Rattle.model_symbols.specs.Symbols.{QualifiedName, symbol_at}
use Rattle.model_symbols.specs.Opening.{opening}
use Rattle.model_prims.specs.Rows.{Row, table, exported_symbols, main_symbols}
use Rattle.model_terms.specs.Worlds.{World, Definition, Primitive, Constant}
use Rattle.model_eval.specs.Outcomes.{Stobjs}
use Rattle.model_expansion.specs.Words.{exports_word, main_symbols_word}
use Rattle.model_expansion.specs.Forms.{list}
use Rattle.model_events.specs.Events.{Environment}

-- what commands go by: definitions and packages, the symbols that are known, and the list of each live stobj by its name
pub record Session : Type 0 where
  pub environment : Environment
  pub symbols : List QualifiedName
  pub stobjs : Stobjs ℕ

-- ---- primitives

-- the numbers of the symbols of the primitives, in the order of their table
abbrev pub primitive_numbers : List ℕ
primitive_numbers =
    6 ∷ 7 ∷ 8 ∷ 9 ∷ 10 ∷ 12 ∷ 13 ∷ 17 ∷ 18 ∷ 19 ∷ 136 ∷ 137
    ∷ 140 ∷ 141 ∷ 142 ∷ 11 ∷ 14 ∷ 15 ∷ 16 ∷ 128 ∷ 129 ∷ 130 ∷ 20 ∷ 21
    ∷ 22 ∷ 31 ∷ 134 ∷ 135 ∷ 138 ∷ 139 ∷ 32 ∷ 33 ∷ 34 ∷ 35 ∷ 36 ∷ 38
    ∷ 37 ∷ 39 ∷ 40 ∷ 44 ∷ 131 ∷ 132 ∷ 133 ∷ 143 ∷ 45 ∷ 46 ∷ 145 ∷ 144
    ∷ 47 ∷ 146 ∷ 148 ∷ 150 ∷ 48 ∷ 152 ∷ 153 ∷ 154 ∷ 155 ∷ 156 ∷ 127 ∷ []

abbrev pub primitives_named : List ℕ → List Row → World
primitives_named [] rows = []
primitives_named (n ∷ ns) [] = []
primitives_named (n ∷ ns) (r ∷ rs) = Primitive n r ∷ primitives_named ns rs

-- ---- constants

-- so many symbols, from this number on
abbrev pub symbols_from : ℕ → ℕ → List (Object ℕ)
symbols_from first count = map (λ n. Symbol n) (range_with_len first count)

abbrev pub first_export : ℕ
first_export = 119

abbrev pub opening_constants : World
opening_constants =
    Constant exports_word (list (symbols_from first_export 76)) ∷ Constant main_symbols_word (list (symbols_from 0 first_export)) ∷ []

-- primitives and two constants
unfoldable pub opening_world : World
opening_world = primitives_named primitive_numbers table ++ opening_constants

-- the number of the package that a session begins in
abbrev pub first_package : ℕ
first_package = 2

unfoldable pub opening_session : Session
opening_session = record {
  environment = record { world = opening_world; packages = opening.packages; current = first_package };
  symbols = opening.symbols;
  stobjs = [];
}

-- ---- that the numbers are those of these symbols

abbrev pub symbols_of_numbers : List ℕ → List QualifiedName
symbols_of_numbers ns = map (symbol_at opening.symbols) ns

unfoldable pub named_primitives : List QualifiedName
named_primitives = symbols_of_numbers primitive_numbers

unfoldable pub row_symbols : List QualifiedName
row_symbols = map (λ (r : Row). r.symbol) table

unfoldable pub named_exports : List QualifiedName
named_exports = symbols_of_numbers (range_with_len first_export 76)

unfoldable pub named_main_symbols : List QualifiedName
named_main_symbols = symbols_of_numbers (range_with_len 0 first_export)

pub record IsOpening : Type 0 where
  pub primitives : named_primitives ≡ row_symbols
  pub exports : named_exports ≡ exported_symbols
  pub main_symbols : named_main_symbols ≡ main_symbols
