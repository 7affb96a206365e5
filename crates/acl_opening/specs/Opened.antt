-- What the table of primitives says, and a list of symbols that is being made.
use Rattle.std.specs.Prelude.{◌≡◌, ℕ, ◌-◌, List}
use Rattle.acl_base.specs.declared.SymId.{SymId}
use Rattle.acl_base.specs.declared.Word.{Word}
use Rattle.model_prims.specs.Rows.{table}
use Rattle.model_expansion.specs.Forms.{list}
use Rattle.model_books.specs.Opening.{primitive_numbers, primitives_named, symbols_from}
use Rattle.acl_heap.specs.Objects.{Objects, Denotes}
use Rattle.acl_terms.specs.Definitions.{seen_definitions, definitions_reach}
use Rattle.acl_worlds.specs.Contents.{ArePrimitives, primitives_from, names_in}

-- they are the primitives of the opening world, under its numbers
pub record AreOpening (ps : List (SymId × ℕ)) : Type 0 where
  pub primitives : ArePrimitives ps
  pub seen : (h : Objects) → seen_definitions h (primitives_from 0 ps) ≡ primitives_named primitive_numbers table
  pub names : names_in (primitives_from 0 ps) ≡ primitive_numbers
  pub reach : definitions_reach (primitives_from 0 ps) ≡ 0

-- the list of the last so many symbols before a number
abbrev pub Listed : Objects → Word → ℕ → ℕ → Type 0
Listed h w end done = Denotes h w (list (symbols_from (end - done) done))
