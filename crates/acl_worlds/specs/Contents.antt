-- What a world holds, and the world of the definitions that it stands for in a heap.
use Rattle.std.specs.Prelude.{◌≡◌, ℕ, ◌+◌, ◌≤◌, List, [], ◌∷◌, ◌++◌, length, map, Option, Some, slice_get, position, nat_eq, set, take}
use Rattle.std.specs.List.{All, IsDistinct}
use Rattle.acl_base.specs.declared.SymId.{SymId}
use Rattle.acl_base.specs.declared.layout.Field.{Field}
use Rattle.acl_heap.specs.Objects.{Objects}
use Rattle.model_prims.specs.Rows.{table, arity_of}
use Rattle.model_terms.specs.Worlds as worlds
use Rattle.acl_terms.specs.declared.definition.Definition.{Definition}
use Rattle.acl_terms.specs.declared.definition.Definition.TheVariants as definition
use Rattle.acl_terms.specs.Definitions.{seen_definitions, name_in, FitsTable, DefinitionsLie}

-- definitions by their numbers, and layouts by theirs
pub record Content : Type 0 where
  pub definitions : List Definition
  pub layouts : List (List Field)

abbrev pub with_layouts : List Definition → List (List Field) → Content
with_layouts ds ls = record { definitions = ds; layouts = ls }

-- the world that stands in a heap
abbrev pub seen_world : Objects → Content → worlds.World
seen_world h w = seen_definitions h w.definitions

-- each word of the world lies below the top of the heap
abbrev pub WorldLies : Objects → Content → Type 0
WorldLies h w = DefinitionsLie h w.definitions

-- the names of the definitions, in order
abbrev pub names_in : List Definition → List ℕ
names_in ds = map name_in ds

-- the number of the definition of a name
abbrev pub number_of : Content → ℕ → Option ℕ
number_of w x = position (nat_eq x) (names_in w.definitions)

-- no two definitions have one name, and primitives have their rows' numbers of arguments
pub record IsWorld (w : Content) : Type 0 where
  pub distinct : IsDistinct nat_eq (names_in w.definitions)
  pub fit : All FitsTable w.definitions

-- ---- what the calls make

-- with one more definition
abbrev pub with_definition : Content → Definition → Content
with_definition w d = record { definitions = w.definitions ++ d ∷ []; layouts = w.layouts }

-- with one more layout
abbrev pub with_layout : Content → List Field → Content
with_layout w l = record { definitions = w.definitions; layouts = w.layouts ++ l ∷ [] }

-- with another definition at a number
abbrev pub settled : Content → ℕ → Definition → Content
settled w n d = record { definitions = set w.definitions n d; layouts = w.layouts }

-- the first definitions and layouts alone
abbrev pub cut : Content → ℕ → ℕ → Content
cut w definitions layouts = record { definitions = take definitions w.definitions; layouts = take layouts w.layouts }

-- primitives by their names, from this row on
abbrev pub primitives_from : ℕ → List (SymId × ℕ) → List Definition
primitives_from n [] = []
primitives_from n (p ∷ ps) = definition.Primitive p.0 n p.1 ∷ primitives_from (n + 1) ps

abbrev pub no_world : Content
no_world = record { definitions = []; layouts = [] }

-- the world of primitives
abbrev pub primitives_world : List (SymId × ℕ) → Content
primitives_world ps = record { definitions = primitives_from 0 ps; layouts = [] }

-- the names are different, and stand for rows of the table with these numbers of arguments
pub record ArePrimitives (ps : List (SymId × ℕ)) : Type 0 where
  pub distinct : IsDistinct nat_eq (map (λ p. p.0.0) ps)
  pub rows : length ps ≤ length table
  pub arities : (n : ℕ) (p : SymId × ℕ) → slice_get ps n ≡ Some p → p.1 ≡ arity_of n
