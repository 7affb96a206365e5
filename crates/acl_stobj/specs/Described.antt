-- The descriptor of a stobj whose names were made.
use Rattle.std.specs.Prelude.{◌≡◌, ℕ, List, Option}
use Rattle.model_symbols.specs.Symbols.{Table}
use Rattle.model_terms.specs.Worlds as worlds
use Rattle.model_stobjs.specs.Descriptors as written
use Rattle.model_stobjs.specs.Descriptors.{fields_with, number_at, stobj_makings}
use Rattle.std.specs.Prelude.{drop}
use Rattle.acl_heap.specs.Objects.{Objects}
use Rattle.acl_terms.specs.declared.stobj.Descriptor.{Descriptor}
use Rattle.acl_terms.specs.Definitions.{seen_descriptor}
use Rattle.acl_stobj.specs.Making.{AreMade}

-- a descriptor by its parts
abbrev pub descriptor_of_parts : ℕ → List written.ShapedField → Option ℕ → List ℕ → worlds.Descriptor
descriptor_of_parts name fields congruent_to numbers = record {
  name = name;
  recognizer = number_at numbers 0;
  creator = number_at numbers 1;
  fields = fields_with fields (drop 2 numbers);
  congruent_to = congruent_to;
}

-- all names are made, and the descriptor has them
pub record Describes (old new : Table) (h : Objects) (ren : List (ℕ × ℕ)) (name : ℕ) (fields : List written.ShapedField) (congruent_to : Option ℕ) (d : Descriptor) : Type 0 where
  pub numbers : List ℕ
  pub made : AreMade old.packages ren (stobj_makings old.symbols name fields) old.symbols numbers new.symbols
  pub is : seen_descriptor h d ≡ descriptor_of_parts name fields congruent_to numbers
