-- Known symbols: those in what an expansion goes by, and in what it makes, have numbers below n.
use Rattle.std.specs.Prelude.{◌≡◌, ℕ, ◌≤◌, List, [], ◌∷◌, Some, unwrap_or}
use Rattle.model_objects.specs.Object.{Object}
use Rattle.model_objects.specs.Named.{Knows}
use Rattle.model_terms.specs.Cores.{Core}
use Rattle.model_terms.specs.Worlds.{World, MacroFormals, Macro, Constant, definition}
use Rattle.model_expansion.specs.Layers.{MacroRow, Chain, Negated, Part, Form, Ready, Rest, Guard, Found, Leaf, Node, Made, Again, Stays}
use Rattle.model_expansion.specs.Expansion.{Look, Stands, Bad, Use, UserUse}
use Rattle.model_expansion_forms.specs.Nodes.{EachNode, HasConstant, IsBelow}
use Rattle.model_expansion_forms.specs.Rows.{AllKnown, AreKnownItems, AreKnownDefaults}

-- those in the constants of a core form
abbrev pub KnowsForm : ℕ → Core → Type 0
KnowsForm n f = EachNode (HasConstant (IsBelow n)) f

-- those of what a chain of no arguments is
abbrev pub KnowsRow : ℕ → MacroRow → Type 0
KnowsRow n (Chain f unit) = Knows n unit
KnowsRow n (Negated row) = KnowsRow n row
KnowsRow n row = Unit {0}

abbrev pub KnowsPart : ℕ → Part → Type 0
KnowsPart n (Form o) = Knows n o
KnowsPart n (Ready f) = KnowsForm n f
KnowsPart n (Rest row os) = KnowsRow n row × AllKnown n os
KnowsPart n (Guard gs) = AreKnownItems n gs

abbrev pub KnowsParts : ℕ → List Part → Type 0
KnowsParts n [] = Unit {0}
KnowsParts n (p ∷ ps) = KnowsPart n p × KnowsParts n ps

abbrev pub KnowsFound : ℕ → Found → Type 0
KnowsFound n (Leaf f) = KnowsForm n f
KnowsFound n (Node k ps) = KnowsParts n ps

abbrev pub KnowsMade : ℕ → Made → Type 0
KnowsMade n (Again o) = Knows n o
KnowsMade n (Stays f) = KnowsFound n f

-- those of what formals are by default
abbrev pub KnowsFormals : ℕ → MacroFormals → Type 0
KnowsFormals n formals = AreKnownDefaults n formals.optional × AreKnownDefaults n (unwrap_or formals.keys [])

abbrev pub KnowsLook : ℕ → Look → Type 0
KnowsLook n (Stands f) = KnowsFound n f
KnowsLook n (Bad fault) = Unit {0}
KnowsLook n (Use s row d) = KnowsRow n row × Knows n d
KnowsLook n (UserUse s formals body d) = KnowsFormals n formals × Knows n d

-- those of what a world gives to an expansion: values of constants, and what formals of macros are by default
pub record KnowsSupplies (n : ℕ) (w : World) : Type 0 where
  pub enough : 2 ≤ n
  pub constants : (s name : ℕ) (value : Object ℕ) → definition w s ≡ Some (Constant name value) → Knows n value
  pub macros : (s name : ℕ) (formals : MacroFormals) (body : Core) → definition w s ≡ Some (Macro name formals body) → KnowsFormals n formals
