-- What it is for symbols to be known: those of values, of live stobjs, of core forms and of worlds; and how known symbols grow.
use Rattle.std.specs.Prelude.{◌≡◌, ℕ, ◌<◌, ◌≤◌, List, [], ◌∷◌, length, Some, unwrap_or}
use Rattle.model_objects.specs.Named.{Knows}
use Rattle.model_symbols.specs.Symbols.{QualifiedName, Package}
use Rattle.model_symbols.specs.Tables.{IsTable}
use Rattle.model_terms.specs.Cores.{Core}
use Rattle.model_terms.specs.Worlds.{World, Definition, Shape, Scalar, Array, Hash, Child, Children, Field, Function, FunctionOfAbstract, Primitive, Defined, Macro, Constant, Concrete, Generated, Abstract, OfAbstract, Named, Signed, definition}
use Rattle.model_eval.specs.Outcomes.{Stobjs, Outcome, Gives, Stops, Unknown}
use Rattle.model_eval.specs.Variables.{Variables}
use Rattle.model_accepted.specs.Threaded.{layout_of}
use Rattle.model_expansion_forms.specs.Nodes.{EachNode, HasConstant, IsBelow}
use Rattle.model_expansion_forms.specs.Rows.{AreKnownDefaults}
use Rattle.model_books.specs.Opening.{Session}
use Rattle.model_follows.specs.FollowedWorlds.{LayoutSymbols, KnowsList}
use Rattle.model_follows.specs.Follows.{KnowsShown, KnowsAll, table_of}

-- ---- values, stobjs and forms

-- the symbols in the list of each stobj are known
abbrev pub KnowsStobjs : ℕ → Stobjs ℕ → Type 0
KnowsStobjs n [] = Unit {0}
KnowsStobjs n (o ∷ os) = KnowsList n o.1 × KnowsStobjs n os

-- the symbols of what each variable is
abbrev pub KnowsVariables : ℕ → Variables ℕ → Type 0
KnowsVariables n [] = Unit {0}
KnowsVariables n (v ∷ vs) = KnowsShown n v.1 × KnowsVariables n vs

-- the symbols of each constant in a form
abbrev pub KnowsForm : ℕ → Core → Type 0
KnowsForm n f = EachNode (HasConstant (IsBelow n)) f

-- ---- definitions

-- what a field is written with
abbrev pub KnowsShape : ℕ → Shape → Type 0
KnowsShape n (Scalar t o) = Knows n t × Knows n o
KnowsShape n (Array t o size resizable) = Knows n t × Knows n o
KnowsShape n (Hash test) = Unit {0}
KnowsShape n (Child x) = Unit {0}
KnowsShape n (Children x size) = Unit {0}

abbrev pub KnowsFields : ℕ → List Field → Type 0
KnowsFields n [] = Unit {0}
KnowsFields n (f ∷ fs) = KnowsShape n f.shape × KnowsFields n fs

-- the symbols of what stands in a definition, where it is evaluated or looked at; its names are none of them
abbrev pub KnowsDefinition : ℕ → Definition → Type 0
KnowsDefinition n (Primitive name row) = Unit {0}
KnowsDefinition n (Defined f) = KnowsForm n f.guard × KnowsForm n f.body
KnowsDefinition n (Macro name formals body) = AreKnownDefaults n formals.optional × AreKnownDefaults n (unwrap_or formals.keys []) × KnowsForm n body
KnowsDefinition n (Constant name value) = Knows n value
KnowsDefinition n (Concrete d class) = KnowsFields n d.fields
KnowsDefinition n (Generated g) = Unit {0}
KnowsDefinition n (Abstract d) = Unit {0}
KnowsDefinition n (OfAbstract f) = KnowsForm n f.guard
KnowsDefinition n (Named name formals) = Unit {0}
KnowsDefinition n (Signed name formals signature executable) = Unit {0}

pub record KnowsDefinitions (w : World) (n : ℕ) : Type 0 where
  pub each : (x : ℕ) (d : Definition) → definition w x ≡ Some d → KnowsDefinition n d

-- ---- worlds and sessions

-- the symbols are a table, and those of definitions and live stobjs are among them
pub record IsKnownSession (s : Session) : Type 0 where
  pub enough : 2 ≤ length s.symbols
  pub table : IsTable (table_of s.environment.packages s.symbols)
  pub definitions : KnowsDefinitions s.environment.world (length s.symbols)
  pub live : KnowsStobjs (length s.symbols) s.stobjs

-- so many symbols are all that stand in what an evaluation takes from the world
pub record KnowsWorld (w : World) (n : ℕ) : Type 0 where
  pub functions : (x : ℕ) (f : Function) → definition w x ≡ Some (Defined f) → KnowsForm n f.guard × KnowsForm n f.body
  pub exports : (x : ℕ) (f : FunctionOfAbstract) → definition w x ≡ Some (OfAbstract f) → KnowsForm n f.guard
  pub layouts : (x : ℕ) → LayoutSymbols (λ s. s < n) (layout_of w x)

-- ---- growth

-- no fewer symbols are known, and they are a table where they were one
pub record Grows (packages : List Package) (old new : List QualifiedName) : Type 0 where
  pub longer : length old ≤ length new
  pub table : IsTable (table_of packages old) → IsTable (table_of packages new)

-- an evaluation that began with these symbols ends with more: those of its values and of the live stobjs are among them
abbrev pub EndsKnown : List Package → List QualifiedName → Outcome ℕ → Type 0
EndsKnown packages old (Gives values s) = Grows packages old s.symbols × KnowsAll (length s.symbols) values × KnowsStobjs (length s.symbols) s.stobjs
EndsKnown packages old (Stops stop origin s) = Grows packages old s.symbols × KnowsStobjs (length s.symbols) s.stobjs
EndsKnown packages old Unknown = Unit {0}
