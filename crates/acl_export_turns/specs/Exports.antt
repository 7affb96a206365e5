-- The functions of abstract objects, by their numbers.
use Rattle.std.specs.Prelude.{ℕ, List, [], Option, Some, None, slice_get}
use Rattle.acl_base.specs.declared.SymId.{SymId}
use Rattle.model_terms.specs.Worlds.{FunctionOfAbstract}
use Rattle.acl_terms.specs.declared.definition.AbstractFunction.{AbstractFunction}
use Rattle.acl_terms.specs.declared.definition.Definition.{Definition}
use Rattle.acl_terms.specs.declared.definition.Definition.TheVariants as definition
use Rattle.acl_machine.specs.Views.{Around, world_of, export_of}

-- the function of an abstract object, where a definition is one
abbrev pub abstract_in : Option Definition → Option AbstractFunction
abstract_in None = None
abstract_in (Some (definition.Primitive name row arity)) = None
abstract_in (Some (definition.Function f)) = None
abstract_in (Some (definition.Macro m)) = None
abstract_in (Some (definition.Constant name value)) = None
abstract_in (Some (definition.Object descriptor layout class)) = None
abstract_in (Some (definition.Generated f)) = None
abstract_in (Some (definition.Abstract descriptor)) = None
abstract_in (Some (definition.OfAbstract f)) = Some f
abstract_in (Some (definition.Named name formals)) = None
abstract_in (Some (definition.Signed name formals signature executable)) = None

-- what its call reads; of no function numbers 0 and no formals
abbrev pub name_of : Option AbstractFunction → ℕ
name_of None = 0
name_of (Some f) = f.name.0

abbrev pub exec_of : Option AbstractFunction → ℕ
exec_of None = 0
exec_of (Some f) = f.exec.0

abbrev pub formals_of : Option AbstractFunction → List SymId
formals_of None = []
formals_of (Some f) = f.formals

-- the export that a frame has by its number
abbrev pub export_at : Around → ℕ → FunctionOfAbstract
export_at a n = export_of (slice_get (world_of a) n)
