-- What one definition gives to an expansion.
use Rattle.std.specs.Prelude.{ℕ}
use Rattle.model_objects.specs.Named.{Knows}
use Rattle.model_terms.specs.Worlds.{Definition, Primitive, Defined, Macro, Constant, Concrete, Generated, Abstract, OfAbstract, Named, Signed}
use Rattle.model_expansion_parts.specs.Known.{KnowsFormals}

-- the symbols of a constant's value, and those of what a macro's formals are by default, have numbers below n
abbrev pub Supplied : ℕ → Definition → Type 0
Supplied n (Primitive name row) = Unit {0}
Supplied n (Defined f) = Unit {0}
Supplied n (Macro name formals body) = KnowsFormals n formals
Supplied n (Constant name value) = Knows n value
Supplied n (Concrete d class) = Unit {0}
Supplied n (Generated f) = Unit {0}
Supplied n (Abstract d) = Unit {0}
Supplied n (OfAbstract f) = Unit {0}
Supplied n (Named name formals) = Unit {0}
Supplied n (Signed name formals signature executable) = Unit {0}
