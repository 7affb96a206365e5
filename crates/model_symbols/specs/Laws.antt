-- What is said of symbols and of naming, as laws.
use Rattle.std.specs.Prelude.{◌≡◌, ℕ, List, [], ◌∷◌, ◌++◌, length, Some, None}
use Rattle.model_objects.specs.Object.{Object}
use Rattle.model_objects.specs.Named.{Knows}
use Rattle.model_symbols.specs.Symbols.{QualifiedName, Package, Table, symbol_at, number_of, form_of, interned, symbol_in}
use Rattle.model_symbols.specs.Growth.{AreDistinct, Extends}
use Rattle.model_symbols.specs.Opening.{opening, acl2_package, truth, nil, quote, truth_name, nil_name, quote_name}

-- Where the symbols are distinct, naming tells known objects apart; and it stays as it is when the table grows.
pub record NamesObjects : Type 0 where
  pub injective : (symbols : List QualifiedName) (x y : Object ℕ) → AreDistinct symbols → Knows (length symbols) x → Knows (length symbols) y → form_of symbols x ≡ form_of symbols y → x ≡ y
  pub stays : (old new : Table) (o : Object ℕ) → Extends old new → Knows (length old.symbols) o → form_of new.symbols o ≡ form_of old.symbols o

-- Interning keeps the symbols distinct and each its number, and makes the symbol known.
pub record Interning : Type 0 where
  pub known : (symbols : List QualifiedName) (s : QualifiedName) (n : ℕ) → number_of symbols s ≡ Some n → interned symbols s ≡ symbols
  pub new : (symbols : List QualifiedName) (s : QualifiedName) → number_of symbols s ≡ None → interned symbols s ≡ symbols ++ s ∷ []
  pub numbered : (symbols : List QualifiedName) (s : QualifiedName) → number_of symbols s ≡ None → number_of (interned symbols s) s ≡ Some (length symbols)
  pub name_stays : (p : Package) (name : List ℕ) → (symbol_in p name).name ≡ name

-- The symbols that definitions number are those that they name, and the session's package has them all under their names.
pub record OpensRight : Type 0 where
  pub truth : symbol_at opening.symbols truth ≡ truth_name
  pub nil : symbol_at opening.symbols nil ≡ nil_name
  pub quote : symbol_at opening.symbols quote ≡ quote_name
  pub imports : length acl2_package.imports ≡ 119
  pub symbols : length opening.symbols ≡ 196
  pub packages : length opening.packages ≡ 4
