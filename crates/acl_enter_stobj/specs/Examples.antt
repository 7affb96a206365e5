-- A stobj without fields.
use Rattle.std.specs.Prelude.{◌≡◌, []}
use Rattle.acl_terms.specs.declared.stobj.Descriptor.{Descriptor}

pub record IsBare (d : Descriptor) : Type 0 where
  pub name : d.name.0 ≡ 5
  pub recognizer : d.recognizer.0 ≡ 6
  pub creator : d.creator.0 ≡ 7
  pub fields : d.fields ≡ []
