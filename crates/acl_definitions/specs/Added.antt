-- Worlds with more definitions.
use Rattle.std.specs.Prelude.{List, ◌++◌}
use Rattle.acl_terms.specs.declared.definition.Definition.{Definition}
use Rattle.acl_worlds.specs.Contents.{Content}

abbrev pub with_definitions : Content → List Definition → Content
with_definitions w ds = record { definitions = w.definitions ++ ds; layouts = w.layouts }
