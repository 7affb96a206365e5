-- What a map of names knows of the imports of a package, as they are gone through.
use Rattle.std.specs.Prelude.{◌≡◌, ◌≢◌, ℕ, ◌<◌, List, length, Option, Some, None, slice_get, ◌⊎◌}
use Rattle.std.specs.HashMap.{HashMap, get_by}
use Rattle.std.specs.Option.{option_and_then}
use Rattle.std.specs.Str.{bytes_eq}
use Rattle.model_symbols.specs.Symbols.{QualifiedName, symbol_at, number_of, import_of, import_clash}
use Rattle.model_symbols.specs.Tables.{symbols_at}
use Rattle.acl_base.specs.declared.SymId.{SymId}
use Rattle.acl_syms.specs.Answers.{numbers}
use Rattle.acl_syms.specs.Fields.{Learns}
use Rattle.acl_syms.specs.declared.SymFault.{SymFault}
use Rattle.acl_syms.specs.declared.SymFault.TheVariants.{UnknownPackage, TooMany, PackageExists, ImportClash, Memory}

-- the number of the import of this name
abbrev pub import_number : List QualifiedName → List QualifiedName → List ℕ → Option ℕ
import_number symbols imports name = option_and_then (number_of symbols) (import_of imports name)

-- the map knows exactly these imports, among which no two different ones have one name
pub record Gathers {K S : Type 0} (items : K → List ℕ) (symbols imports : List QualifiedName) (names : HashMap K ℕ S) : Type 0 where
  pub knows : (name : List ℕ) → get_by (λ k. bytes_eq name (items k)) names ≡ import_number symbols imports name
  pub known : (k : ℕ) (s : QualifiedName) → slice_get imports k ≡ Some s → (n : ℕ) × (number_of symbols s ≡ Some n)
  pub free : (k : ℕ) (s : QualifiedName) → slice_get imports k ≡ Some s → import_of imports s.name ≡ Some s
  pub no_clash : import_clash imports ≡ None

-- the map takes one more name: it has it with this number, or it had no such name
abbrev pub Enters : {K S : Type 0} → (K → List ℕ) → HashMap K ℕ S → HashMap K ℕ S → List ℕ → ℕ → Type 0
Enters items old new name number =
    ((get_by (λ k. bytes_eq name (items k)) old ≡ Some number) × (new ≡ old))
    ⊎ ((get_by (λ k. bytes_eq name (items k)) old ≡ None) × Learns items old new name number)

-- or it has another number there
abbrev pub EnterFault : {K S : Type 0} → (K → List ℕ) → HashMap K ℕ S → List ℕ → SymId → SymFault → Type 0
EnterFault items old name s UnknownPackage = ⊥
EnterFault items old name s TooMany = ⊥
EnterFault items old name s PackageExists = ⊥
EnterFault items old name s (ImportClash first second) = (get_by (λ k. bytes_eq name (items k)) old ≡ Some first.0) × (first.0 ≢ s.0) × (second ≡ s)
EnterFault items old name s Memory = Unit {0}

-- why the imports are not gathered
abbrev pub GatherFault : List QualifiedName → List SymId → SymFault → Type 0
GatherFault symbols imports UnknownPackage = ⊥
GatherFault symbols imports TooMany = ⊥
GatherFault symbols imports PackageExists = ⊥
GatherFault symbols imports (ImportClash first second) =
    (import_clash (symbols_at symbols (numbers imports)) ≡ Some (symbol_at symbols first.0, symbol_at symbols second.0)) × (first.0 < length symbols) × (second.0 < length symbols)
GatherFault symbols imports Memory = Unit {0}
