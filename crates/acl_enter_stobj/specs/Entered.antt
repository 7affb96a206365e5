-- A world with one more stobj.
use Rattle.std.specs.Prelude.{◌≡◌, ℕ, List, [], ◌∷◌, ◌++◌, length, map, nat_eq}
use Rattle.std.specs.List.{IsDistinct}
use Rattle.acl_base.specs.declared.SymId.{SymId}
use Rattle.acl_base.specs.declared.layout.Field.{Field}
use Rattle.acl_terms.specs.declared.definition.Definition.{Definition}
use Rattle.acl_terms.specs.declared.definition.Definition.TheVariants as definition
use Rattle.acl_terms.specs.declared.definition.GeneratedFunction.{GeneratedFunction}
use Rattle.acl_terms.specs.declared.stobj.Descriptor.{Descriptor}
use Rattle.acl_worlds.specs.Contents.{Content, names_in}
use Rattle.acl_enter_stobj.specs.Laid.{fields_laid}

abbrev pub function_names : List GeneratedFunction → List ℕ
function_names fs = map (λ (f : GeneratedFunction). f.name.0) fs

abbrev pub functions : List GeneratedFunction → List Definition
functions fs = map (λ (f : GeneratedFunction). definition.Generated f) fs

abbrev pub with_functions : Content → List GeneratedFunction → Content
with_functions w fs = record { definitions = w.definitions ++ functions fs; layouts = w.layouts }

-- the stobj has the new layout
abbrev pub entered : Content → Descriptor → SymId → List Field → List GeneratedFunction → Content
entered w d class fields fs = record {
  definitions = w.definitions ++ definition.Object d (record { 0 = length w.layouts }) class ∷ functions fs;
  layouts = w.layouts ++ fields ∷ [];
}

-- nothing of the old world has changed
pub record Begins (old new : Content) : Type 0 where
  pub definitions : List Definition
  pub layouts : List (List Field)
  pub with_definitions : new.definitions ≡ old.definitions ++ definitions
  pub with_layouts : new.layouts ≡ old.layouts ++ layouts

-- it has the stobj, its layout by the stobj's fields, and functions
pub record Enters (old new : Content) (d : Descriptor) : Type 0 where
  pub class : SymId
  pub own : List GeneratedFunction
  pub is : new ≡ entered old d class (fields_laid old d.fields) own

-- functions are being added: those that are left, of all
pub record IsAdding (old now : Content) (left all : List GeneratedFunction) : Type 0 where
  pub begins : Begins old now
  pub fresh : IsDistinct nat_eq (names_in now.definitions ++ function_names left)
  pub whole : with_functions now left ≡ with_functions old all
