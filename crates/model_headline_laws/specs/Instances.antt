-- Sessions and books that meet the statements, so that none of them is empty.
use Rattle.model_headline.specs.Logic.{IsAsked}
use Rattle.std.specs.Prelude.{◌≡◌, ℕ, List, [], ◌∷◌, pos}
use Rattle.acl_base.specs.declared.status.Status.TheVariants.{Done}
use Rattle.model_objects.specs.Object.{Object, Integer}
use Rattle.model_symbols.specs.Symbols.{QualifiedName}
use Rattle.model_symbols.specs.Growth.{AreDistinct}
use Rattle.model_lists_laws.specs.Canonical.{IsKnownList}
use Rattle.model_eval.specs.Outcomes.{Stobjs}
use Rattle.model_events.specs.Events.{Limits}
use Rattle.model_books.specs.Opening.{Session, opening_session}
use Rattle.model_books.specs.Commands.{all_cells}
use Rattle.model_books_rows.specs.Rows.{three_commands_input, three_commands_written}
use Rattle.model_made.specs.Made.{IsMade}
use Rattle.model_headline.specs.Written.{Writes, StandFor, LeavesLive, StandsAfterMemory, cells_of, HoldsCells}

abbrev pub usual : Limits
usual = record { steps = 1000000; depth = 200000 }

abbrev pub five : Object ℕ
five = Integer (pos 5)

pub record AreMet : Type 0 where
  -- a book of three commands, with no words
  pub writes : Writes [] three_commands_input three_commands_written Done
  -- where a session begins
  pub made : IsMade opening_session
  pub leaves : LeavesLive usual opening_session five [] []
  pub begins : StandFor [] opening_session
  pub memory : StandsAfterMemory usual opening_session five 0 [] opening_session
  pub cells : HoldsCells opening_session 0
  pub asked : IsAsked usual opening_session five []

-- each list is known
abbrev pub AreKnownLists : List QualifiedName → Stobjs ℕ → Type 0
AreKnownLists symbols [] = Unit {0}
AreKnownLists symbols (o ∷ os) = IsKnownList symbols o.1 × AreKnownLists symbols os

pub record HeldCellsArePrinted : Type 0 where
  pub same : (k : Limits) (s : Session) → AreDistinct s.symbols → AreKnownLists s.symbols s.stobjs → cells_of s.stobjs ≡ all_cells k s s.stobjs
