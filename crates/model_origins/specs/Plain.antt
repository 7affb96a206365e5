-- Definitions that change nothing that was found in a world.
use Rattle.model_terms.specs.Worlds.{Definition, Primitive, Defined, Macro, Constant, Concrete, Generated, Abstract, OfAbstract, Named, Signed}

-- it is of no stobj, concrete or abstract
abbrev pub IsOfNoStobj : Definition → Type 0
IsOfNoStobj (Primitive name row) = Unit {0}
IsOfNoStobj (Defined f) = Unit {0}
IsOfNoStobj (Macro name formals body) = Unit {0}
IsOfNoStobj (Constant name value) = Unit {0}
IsOfNoStobj (Concrete d class) = ⊥
IsOfNoStobj (Generated g) = ⊥
IsOfNoStobj (Abstract d) = ⊥
IsOfNoStobj (OfAbstract f) = ⊥
IsOfNoStobj (Named name formals) = Unit {0}
IsOfNoStobj (Signed name formals signature executable) = Unit {0}

-- nor is it a function that was written
abbrev pub IsPlain : Definition → Type 0
IsPlain (Primitive name row) = Unit {0}
IsPlain (Defined f) = ⊥
IsPlain (Macro name formals body) = Unit {0}
IsPlain (Constant name value) = Unit {0}
IsPlain (Concrete d class) = ⊥
IsPlain (Generated g) = ⊥
IsPlain (Abstract d) = ⊥
IsPlain (OfAbstract f) = ⊥
IsPlain (Named name formals) = Unit {0}
IsPlain (Signed name formals signature executable) = Unit {0}

-- a primitive or a constant
abbrev pub IsBare : Definition → Type 0
IsBare (Primitive name row) = Unit {0}
IsBare (Defined f) = ⊥
IsBare (Macro name formals body) = ⊥
IsBare (Constant name value) = Unit {0}
IsBare (Concrete d class) = ⊥
IsBare (Generated g) = ⊥
IsBare (Abstract d) = ⊥
IsBare (OfAbstract f) = ⊥
IsBare (Named name formals) = ⊥
IsBare (Signed name formals signature executable) = ⊥
