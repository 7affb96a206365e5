-- The names of the primitives among the symbols, and the values of the two constants.
use Rattle.std.specs.Prelude.{◌≡◌, ℕ, List, [], ◌∷◌, length, map, Bool, true, not, ◌&&◌, unwrap_or}
use Rattle.std.specs.List.{list_all}
use Rattle.model_objects.specs.Object.{Object, is_value}
use Rattle.model_symbols.specs.Symbols.{QualifiedName, is_known, number_of, form_of}
use Rattle.model_symbols.specs.Opening.{opening}
use Rattle.model_prims.specs.Kinds.{by_number, by_name, same_object}
use Rattle.model_prims.specs.Lists.{is_true_list}
use Rattle.model_prims.specs.Rows.{Row, table, list_of_symbols, exported_symbols, main_symbols}

abbrev pub names : List QualifiedName
names = map (λ (r : Row). r.symbol) table

abbrev pub are_different : List QualifiedName → Bool
are_different [] = true
are_different (s ∷ ss) = not (is_known ss s) && are_different ss

pub record IsOfOpening : Type 0 where
  pub known : list_all (is_known opening.symbols) names ≡ true
  pub different : are_different names ≡ true
  pub rows : length table ≡ 59

-- the number of a symbol of the table that every table begins with
abbrev pub opening_number : QualifiedName → ℕ
opening_number s = unwrap_or (number_of opening.symbols s) 0

-- a constant's value by number, and by name
abbrev pub constant : List QualifiedName → Object ℕ
constant = list_of_symbols by_number opening_number

abbrev pub named_constant : List QualifiedName → Object QualifiedName
named_constant = list_of_symbols by_name (λ s. s)

-- a constant's value is a true list, small enough, of symbols of the opening table, and the same by number and by name
pub record IsConstant (symbols : List QualifiedName) : Type 0 where
  pub listed : is_true_list by_number (constant symbols) ≡ true
  pub small : is_value (constant symbols) ≡ true
  pub known : list_all (is_known opening.symbols) symbols ≡ true
  pub alike : same_object by_name (form_of opening.symbols (constant symbols)) (named_constant symbols) ≡ true

-- the two constants, one of the symbols of `ACL2`, one of those of `COMMON-LISP`, with no symbol in both
pub record AreConstants : Type 0 where
  pub exported : IsConstant exported_symbols
  pub main : IsConstant main_symbols
  pub apart : list_all (λ s. not (is_known main_symbols s)) exported_symbols ≡ true
