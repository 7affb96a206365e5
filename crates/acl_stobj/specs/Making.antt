-- Names that are made one after another: all of them, as many as there was room for, or a first part where memory was refused.
use Rattle.std.specs.Prelude.{◌≡◌, ℕ, List, ◌++◌, true, false}
use Rattle.model_symbols.specs.Symbols.{QualifiedName, Package}
use Rattle.model_stobjs.specs.Descriptors.{Making, MadeNames, names_made}
use Rattle.acl_stobj.specs.declared.making.Unmade.{Unmade}
use Rattle.acl_stobj.specs.declared.making.Unmade.TheVariants as unmade

abbrev pub all_made : List ℕ → List QualifiedName → MadeNames
all_made numbers symbols = record { numbers = numbers; symbols = symbols; have_room = true }

module _ (packages : List Package) (renaming : List (ℕ × ℕ)) (ms : List Making) (old : List QualifiedName) where
  -- all are made, with these numbers
  pub record AreMade (numbers : List ℕ) (new : List QualifiedName) : Type 0 where
    pub is : names_made packages renaming ms old ≡ all_made numbers new

  -- there was no room for one more
  pub record IsFull (new : List QualifiedName) : Type 0 where
    pub room : (names_made packages renaming ms old).have_room ≡ false
    pub symbols : (names_made packages renaming ms old).symbols ≡ new

  -- a first part of the names is made
  pub record IsPart (new : List QualifiedName) : Type 0 where
    pub first : List Making
    pub rest : List Making
    pub whole : first ++ rest ≡ ms
    pub symbols : (names_made packages renaming first old).symbols ≡ new

  abbrev pub UnmadeBy : List QualifiedName → Unmade → Type 0
  UnmadeBy new unmade.Full = IsFull new
  UnmadeBy new unmade.Memory = IsPart new

-- of all names the first are made, with these numbers, and the rest is left
pub record AreMaking (packages : List Package) (renaming : List (ℕ × ℕ)) (all : List Making) (old : List QualifiedName) (numbers : List ℕ) (rest : List Making) (now : List QualifiedName) : Type 0 where
  pub done : List Making
  pub whole : done ++ rest ≡ all
  pub made : AreMade packages renaming done old numbers now
