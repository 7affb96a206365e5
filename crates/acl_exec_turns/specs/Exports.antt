-- What the call of an export reads of it.
use Rattle.std.specs.Prelude.{◌≡◌, ℕ, length, Option}
use Rattle.acl_base.specs.declared.SymId.{SymId}
use Rattle.acl_terms.specs.declared.definition.Definition.{Definition}
use Rattle.acl_export_turns.specs.Exports.{abstract_in, name_of, exec_of, formals_of}

-- its name, that of its exec function, and how many formals it has; of no function numbers 0 and no formals
pub record Reads (definition : Option Definition) (name exec : SymId) (count : ℕ) : Type 0 where
  pub name_is : name.0 ≡ name_of (abstract_in definition)
  pub exec_is : exec.0 ≡ exec_of (abstract_in definition)
  pub count_is : count ≡ length (formals_of (abstract_in definition))
