-- Names that become known, one after another.
use Rattle.std.specs.Prelude.{◌≡◌, List, ◌++◌, map, true}
use Rattle.model_symbols.specs.Symbols.{QualifiedName, Table}
use Rattle.model_symbols.specs.Growth.{Extends}
use Rattle.model_output_so_far.specs.Commands as commands
use Rattle.model_output_so_far.specs.Events.{with_names, new_field}
use Rattle.acl_base.specs.declared.SymId.{SymId}
use Rattle.acl_answers.specs.declared.stobj.Field.{Field}
use Rattle.acl_answers.specs.Views.{names_of, fields_view}
use Rattle.acl_answers.specs.Whole.{AreKnown, AreKnownFields}

-- these names have become known, in this order, and are the symbols of these numbers
pub record Makes (old new : Table) (names : List QualifiedName) (ids : List SymId) : Type 0 where
  pub grows : Extends old new
  pub packages : new.packages ≡ old.packages
  pub room : (rest : List QualifiedName) → with_names old.symbols (names ++ rest) ≡ with_names new.symbols rest
  pub named : names_of new ids ≡ names
  pub known : AreKnown new ids

-- there was no room for one of these names
pub record IsFull (old new : Table) (names : List QualifiedName) : Type 0 where
  pub grows : Extends old new
  pub packages : new.packages ≡ old.packages
  pub room : (rest : List QualifiedName) → with_names old.symbols (names ++ rest) ≡ record { symbols = new.symbols; is_full = true }

-- these are the fields that a definition asks for
pub record HasFields (t : Table) (wanted : List commands.NewField) (fields : List Field) : Type 0 where
  pub are : fields_view t fields ≡ map (new_field t.packages) wanted
  pub known : AreKnownFields t fields
