-- A primitive applied: in the logic, without guard and bounds; and checked, with its guard and the stops of its value (ACL2's
-- manual, topic GUARD).
use Rattle.std.specs.Prelude.{ℕ, List, Bool, true, false, Option, Some, None, ℤ, nat_le, unwrap_or, slice_get, if◌then◌else◌}
use Rattle.std.specs.Int.{int_pow}
use Rattle.model_objects.specs.Object.{Object, Integer, Symbol, weight, max_weight}
use Rattle.model_symbols.specs.Symbols.{QualifiedName, Package, Table, symbol_at, symbol_in, package_at, package_number, number_of, interned, is_one_too_many}
use Rattle.model_symbols.specs.Opening.{without_imports}
use Rattle.model_prims.specs.Kinds.{SymbolKind, by_number, by_name, nil_of}
use Rattle.model_prims.specs.Numbers.{shifted, in_range, power_in_range, shift_in_range}
use Rattle.model_prims.specs.Lists.{updated}
use Rattle.model_prims.specs.Guards.{guard}
use Rattle.model_prims.specs.Values.{Wanted, Old, Number, Made, Power, Shift, Update, Interned, wanted}
use Rattle.model_prims.specs.declared.prim.Prim.{Prim}

-- the argument of this number; `NIL` where there is none
abbrev pub argument : {S : Type 0} → SymbolKind S → List (Object S) → ℕ → Object S
argument k args n = unwrap_or (slice_get args n) (nil_of k)

abbrev pub package_or : List Package → List ℕ → Option ℕ → Package
package_or packages name (Some n) = package_at packages n
package_or packages name None = without_imports name

-- the package of this name
abbrev pub package_called : List Package → List ℕ → Package
package_called packages name = package_or packages name (package_number packages name)

-- ---- the logic

abbrev pub logic_value : List Package → Wanted QualifiedName → Object QualifiedName
logic_value packages (Old o) = o
logic_value packages (Number n) = Integer n
logic_value packages (Made o) = o
logic_value packages (Power b n) = Integer (int_pow b n)
logic_value packages (Shift i c) = Integer (shifted i c)
logic_value packages (Update n o l) = updated by_name n o l
logic_value packages (Interned name s) = Symbol (symbol_in (package_called packages s.home) name)

-- the value of a primitive at any objects
abbrev pub value_of : List Package → Prim → List (Object QualifiedName) → Object QualifiedName
value_of packages p args = logic_value packages (wanted by_name (λ s. s) p (argument by_name args 0) (argument by_name args 1) (argument by_name args 2))

-- ---- checked

-- why a call of a primitive stops
pub data Stop : Type 0 where
  Guard : Stop
  Range : Stop  -- the result is out of range
  Large : Stop  -- the result is heavier than a value may be
  Symbols : Stop  -- there is no room for one more symbol

pub data Applied : Type 0 where
  Gives : Object ℕ → List QualifiedName → Applied  -- the value, and the symbols that are known then
  Stops : Stop → Applied

abbrev pub number_or : List QualifiedName → Option ℤ → Applied
number_or symbols (Some n) = Gives (Integer n) symbols
number_or symbols None = Stops Range

abbrev pub weighed : List QualifiedName → Object ℕ → Applied
weighed symbols o = if nat_le (weight o) max_weight then Gives o symbols else Stops Large

abbrev pub updated_by : Bool → List QualifiedName → ℕ → Object ℕ → Object ℕ → Applied
updated_by true symbols n o l = weighed symbols (updated by_number n o l)
updated_by false symbols n o l = Stops Large

-- the number of a symbol once it is known
abbrev pub number_then : List QualifiedName → QualifiedName → ℕ
number_then symbols s = unwrap_or (number_of (interned symbols s) s) 0

abbrev pub interned_or : List QualifiedName → QualifiedName → Applied
interned_or symbols s = if is_one_too_many symbols s then Stops Symbols else Gives (Symbol (number_then symbols s)) (interned symbols s)

-- the symbol of this name in the package of that symbol
abbrev pub beside : Table → List ℕ → ℕ → QualifiedName
beside t name s = symbol_in (package_called t.packages (symbol_at t.symbols s).home) name

unfoldable pub bounded : Table → Wanted ℕ → Applied
bounded t (Old o) = Gives o t.symbols
bounded t (Number n) = number_or t.symbols (in_range n)
bounded t (Made o) = weighed t.symbols o
bounded t (Power b n) = number_or t.symbols (power_in_range b n)
bounded t (Shift i c) = number_or t.symbols (shift_in_range i c)
bounded t (Update n o l) = updated_by (nat_le n max_weight) t.symbols n o l
bounded t (Interned name s) = interned_or t.symbols (beside t name s)

abbrev pub guarded : Bool → Table → Wanted ℕ → Applied
guarded true t w = bounded t w
guarded false t w = Stops Guard

-- a primitive applied to three objects, of which it takes as many as it has arguments
unfoldable pub applied_to : Table → Prim → Object ℕ → Object ℕ → Object ℕ → Applied
applied_to t p x y z = guarded (guard by_number p x y z) t (wanted by_number (symbol_at t.symbols) p x y z)

-- a primitive applied to values
abbrev pub applied : Table → Prim → List (Object ℕ) → Applied
applied t p args = applied_to t p (argument by_number args 0) (argument by_number args 1) (argument by_number args 2)
