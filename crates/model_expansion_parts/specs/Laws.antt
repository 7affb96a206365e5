-- Each node that an expansion finds has as many parts as its kind asks for.
use Rattle.std.specs.Prelude.{◌≡◌, ℕ, ◌+◌, ◌≤◌, List, [], length, Option, Some, option_and_then}
use Rattle.model_objects.specs.Object.{Object}
use Rattle.model_objects.specs.Named.{Knows}
use Rattle.model_symbols.specs.Symbols.{QualifiedName}
use Rattle.model_terms.specs.Cores.{Core, cores}
use Rattle.model_terms.specs.Worlds.{MacroFormals}
use Rattle.model_expansion.specs.Layers.{MacroRow, Kind, Part, Node, Made, Stays, made_of}
use Rattle.model_expansion.specs.Expansion.{Setting, Progress, Makes, Stands, Grow, macro_values, core_look, call_look, look_at, built, looked, settled, settle, row_found, part_found, grown_all, core_of_node}
use Rattle.model_expansion_forms.specs.Nodes.{AllNodes, HasConstant, IsBelow}
use Rattle.model_expansion_forms.specs.Rows.{AllKnown}
use Rattle.model_expansion_parts.specs.Parts.{HasParts}
use Rattle.model_expansion_parts.specs.Known.{KnowsForm, KnowsRow, KnowsMade, KnowsFormals, KnowsLook, KnowsSupplies}

-- what a row makes
pub record RowsHaveParts : Type 0 where
  pub made : (symbols : List QualifiedName) (row : MacroRow) (os : List (Object ℕ)) (k : Kind) (ps : List Part)
      → made_of symbols row os ≡ Some (Stays (Node k ps)) → HasParts k (length ps)
  pub built : (x : Setting) (s : ℕ) (row : MacroRow) (d : Object ℕ) (p q : Progress) (k : Kind) (ps : List Part)
      → built x s row d p ≡ Makes (Stays (Node k ps)) q → HasParts k (length ps)

-- what is seen at a place
pub record LooksHaveParts : Type 0 where
  pub core : (symbols : List QualifiedName) (s : ℕ) (row : MacroRow) (os : Option (List (Object ℕ))) (k : Kind) (ps : List Part)
      → core_look s (option_and_then (made_of symbols row) os) ≡ Stands (Node k ps) → HasParts k (length ps)
  pub call : (s arity : ℕ) (os : Option (List (Object ℕ))) (k : Kind) (ps : List Part) → call_look s arity os ≡ Stands (Node k ps) → HasParts k (length ps)
  pub place : (x : Setting) (symbols : List QualifiedName) (o : Object ℕ) (k : Kind) (ps : List Part) → look_at x symbols o ≡ Stands (Node k ps) → HasParts k (length ps)

-- what stands at a place after one use, and in the end
pub record PlacesHaveParts : Type 0 where
  pub looked : (x : Setting) (symbols : List QualifiedName) (o : Object ℕ) (p q : Progress) (k : Kind) (ps : List Part)
      → looked x (look_at x symbols o) p ≡ Makes (Stays (Node k ps)) q → HasParts k (length ps)
  pub settled : (x : Setting) (left : ℕ) (o : Object ℕ) (p q : Progress) (k : Kind) (ps : List Part) → settled x left o p ≡ Makes (Node k ps) q → HasParts k (length ps)
  pub settle : (x : Setting) (o : Object ℕ) (p q : Progress) (k : Kind) (ps : List Part) → settle x o p ≡ Makes (Node k ps) q → HasParts k (length ps)
  pub row : (x : Setting) (row : MacroRow) (os : List (Object ℕ)) (p q : Progress) (k : Kind) (ps : List Part)
      → row_found x (made_of p.symbols row os) p ≡ Makes (Node k ps) q → HasParts k (length ps)
  pub part : (x : Setting) (left : ℕ) (a : Part) (p q : Progress) (k : Kind) (ps : List Part) → part_found x left a p ≡ Makes (Node k ps) q → HasParts k (length ps)

-- the core forms that a node is made of
pub record NodesHaveParts : Type 0 where
  pub all : (grow : Grow) (ps : List Part) (done : List Core) (p q : Progress) (fs : List Core) → grown_all grow ps done p ≡ Makes fs q → length fs ≡ length done + length ps
  pub node : (x : Setting) (left : ℕ) (a : Part) (p before after : Progress) (k : Kind) (ps : List Part) (grow : Grow) (fs : List Core)
      → part_found x left a p ≡ Makes (Node k ps) before → grown_all grow ps [] before ≡ Makes fs after → HasParts k (length fs)

-- known symbols: what a row makes of known forms, what is seen of one, values of formals, and nodes over known parts
pub record PartsAreKnown : Type 0 where
  pub made : (n : ℕ) (symbols : List QualifiedName) (row : MacroRow) (os : List (Object ℕ)) (m : Made)
      → 2 ≤ n → KnowsRow n row → AllKnown n os → made_of symbols row os ≡ Some m → KnowsMade n m
  pub look : (n : ℕ) (x : Setting) (symbols : List QualifiedName) (o : Object ℕ) → KnowsSupplies n x.world → Knows n o → KnowsLook n (look_at x symbols o)
  pub values : (n : ℕ) (symbols : List QualifiedName) (formals : MacroFormals) (os vs : List (Object ℕ))
      → 2 ≤ n → KnowsFormals n formals → AllKnown n os → macro_values symbols formals os ≡ Some vs → AllKnown n vs
  pub node : (n : ℕ) (k : Kind) (fs : List Core) → 2 ≤ n → AllNodes (HasConstant (IsBelow n)) (cores fs) → KnowsForm n (core_of_node k fs)
