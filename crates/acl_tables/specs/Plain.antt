-- Definitions to whose calls no terms belong.
use Rattle.acl_terms.specs.declared.definition.Definition.{Definition}
use Rattle.acl_terms.specs.declared.definition.Definition.TheVariants as definition

-- it is no function that was written, and no function of an abstract stobj
abbrev pub HasNoCode : Definition → Type 0
HasNoCode (definition.Primitive name row arity) = Unit {0}
HasNoCode (definition.Function f) = ⊥
HasNoCode (definition.Macro m) = Unit {0}
HasNoCode (definition.Constant name value) = Unit {0}
HasNoCode (definition.Object descriptor layout class) = Unit {0}
HasNoCode (definition.Generated f) = Unit {0}
HasNoCode (definition.Abstract descriptor) = Unit {0}
HasNoCode (definition.OfAbstract f) = ⊥
HasNoCode (definition.Named name formals) = Unit {0}
HasNoCode (definition.Signed name formals signature executable) = Unit {0}
