-- How the fields of a world make its content.
use Rattle.std.specs.Prelude.{◌≡◌, ℕ, List, map}
use Rattle.acl_base.specs.declared.layout.Field.{Field}
use Rattle.acl_base.specs.declared.layout.Layout.{Layout}
use Rattle.acl_terms.specs.declared.definition.Definition.{Definition}
use Rattle.acl_worlds.specs.Contents.{Content, IsWorld, names_in}

abbrev pub fields_of : Layout → List Field
fields_of l = l.fields.items

abbrev pub content_of : List Definition → List Layout → Content
content_of ds ls = record { definitions = ds; layouts = map fields_of ls }

-- the table has the names in order
pub record AreFields (ds : List Definition) (ls : List Layout) (names : List ℕ) : Type 0 where
  pub world : IsWorld (content_of ds ls)
  pub listed : names ≡ names_in ds
