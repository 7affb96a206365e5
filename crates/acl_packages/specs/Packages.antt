-- The definition of a package: what is written, and what it ends with once its imports are known.
use Rattle.std.specs.Prelude.{◌≡◌, ℕ, ◌≤◌, List, [], length, unwrap_or, Option, Some, None}
use Rattle.model_objects.specs.Object.{Object}
use Rattle.model_symbols.specs.Symbols.{Package, Table}
use Rattle.model_symbols.specs.Tables.{with_package, symbols_at}
use Rattle.model_expansion.specs.Words.{defpkg_word}
use Rattle.model_expansion.specs.Forms.{text}
use Rattle.model_expansion.specs.Faults as faults
use Rattle.model_expansion.specs.Faults.{Refusal}
use Rattle.model_expansion.specs.Expansion.{Progress}
use Rattle.model_stobjs.specs.Answers as answer
use Rattle.model_events.specs.Constants.{package_of, importing}
use Rattle.acl_heap.specs.Objects.{Objects, object_of, Lies, IsText}
use Rattle.acl_packages.specs.declared.written.WrittenPackage.{WrittenPackage}
use Rattle.acl_packages.specs.declared.fault.PackageFault.{PackageFault}
use Rattle.acl_packages.specs.declared.fault.PackageFault.TheVariants as fault

-- the bytes of a string
abbrev pub bytes_in : Object ℕ → List ℕ
bytes_in o = unwrap_or (text o) []

abbrev pub SeenPackage : Objects → Option WrittenPackage → Option (List ℕ × Object ℕ) → Type 0
SeenPackage h None o = o ≡ None
SeenPackage h (Some p) o = (o ≡ Some (bytes_in (object_of h p.name), object_of h p.form)) × IsText (object_of h p.name) × Lies h p.name × Lies h p.form

-- with the symbols of the table
abbrev pub knowing : Table → Progress → Progress
knowing t p = record p { symbols = t.symbols }

module _ (t : Table) (name : List ℕ) where
  -- the package of this name that imports these symbols
  pub record GrantsImports (xs : List ℕ) (new : Table) : Type 0 where
    pub made : Package
    pub is : (p : Progress) → package_of t.packages name (symbols_at t.symbols xs) (knowing t p) ≡ answer.Grants made (knowing t p)
    pub table : new ≡ with_package t made

  pub record RefusesImports (xs : List ℕ) (r : Refusal) : Type 0 where
    pub is : (p : Progress) → package_of t.packages name (symbols_at t.symbols xs) (knowing t p) ≡ answer.Refuses r (knowing t p)

  -- the package of this name that imports the symbols of a value
  pub record GrantsPackage (value : Object ℕ) (new : Table) : Type 0 where
    pub made : Package
    pub is : (p : Progress) → importing t.packages name value (knowing t p) ≡ answer.Grants made (knowing t p)
    pub table : new ≡ with_package t made

  pub record RefusesPackage (value : Object ℕ) (r : Refusal) : Type 0 where
    pub is : (p : Progress) → importing t.packages name value (knowing t p) ≡ answer.Refuses r (knowing t p)

-- what is said of the refusal that was answered; nothing is said where memory was refused
abbrev pub Told : Objects → (Refusal → Type 0) → PackageFault → Type 0
Told h P fault.BadShape = P (faults.Expand (faults.BadShape defpkg_word))
Told h P (fault.PackageExists w) = P (faults.PackageExists (object_of h w))
Told h P (fault.ImportClash first second) = P (faults.ImportClash first.0 second.0)
Told h P fault.Memory = Unit {0}
