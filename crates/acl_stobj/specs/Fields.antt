-- Fields that get the names of their functions one after another.
use Rattle.std.specs.Prelude.{◌≡◌, ℕ, ◌≤◌, ◌<◌, List, [], ◌∷◌, ◌++◌, length, map}
use Rattle.model_symbols.specs.Symbols.{Table}
use Rattle.model_symbols.specs.Growth.{Extends}
use Rattle.model_stobjs.specs.Descriptors.{field_makings}
use Rattle.acl_heap.specs.Objects.{Objects}
use Rattle.acl_terms.specs.declared.stobj.FieldDescriptor.{FieldDescriptor}
use Rattle.acl_stobj_written.specs.declared.shaped.ShapedField.{ShapedField}
use Rattle.acl_stobj_written.specs.Fields.{seen_shaped, shapes_reach}
use Rattle.acl_stobj.specs.Making.{AreMaking}
use Rattle.acl_stobj.specs.MadeFields.{made_reach, unnamed, names_in, AreCounted}

-- the names of fields are known
abbrev pub AreNamed : ℕ → List ShapedField → Type 0
AreNamed n [] = Unit {0}
AreNamed n (f ∷ fs) = (f.written.name.0 < n) × AreNamed n fs

-- the first of these fields have their names, and the rest is left
pub record IsMaking (h : Objects) (ren : List (ℕ × ℕ)) (old now : Table) (all rest : List ShapedField) (made : List FieldDescriptor) : Type 0 where
  pub grows : Extends old now
  pub packages : now.packages ≡ old.packages
  pub making : AreMaking old.packages ren (field_makings old.symbols (seen_shaped h all)) old.symbols (names_in made) (field_makings old.symbols (seen_shaped h rest)) now.symbols
  pub fields : map (unnamed h) made ++ seen_shaped h rest ≡ seen_shaped h all
  pub counted : AreCounted h made
  pub reach : made_reach made ≤ length h
  pub left : shapes_reach rest ≤ length h
  pub named : AreNamed (length old.symbols) rest
