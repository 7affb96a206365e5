-- In place equals applicative, of every session that commands have made.
use Rattle.std.specs.Prelude.{◌≡◌, ℕ, List, None}
use Rattle.model_objects.specs.Object.{Object}
use Rattle.model_symbols.specs.Symbols.{QualifiedName}
use Rattle.model_terms.specs.Cores.{Core}
use Rattle.model_terms.specs.Outputs.{outs}
use Rattle.model_terms.specs.Faults.{expression_fault}
use Rattle.model_eval.specs.Checked.{checked, begun, live}
use Rattle.model_eval.specs.InPlace.{in_place, begun_in_place}
use Rattle.model_in_place.specs.Commands.{live_scope}
use Rattle.model_in_place.specs.Agreement.{Agrees}
use Rattle.model_expansion.specs.Expansion.{Progress, at_start, Makes, expanded}
use Rattle.model_events.specs.Events.{Limits, setting}
use Rattle.model_books.specs.Opening.{Session}
use Rattle.model_books.specs.Commands.{command}
use Rattle.model_books.specs.Lines.{Bytes}
use Rattle.model_books.specs.Output.{output}
use Rattle.model_in_place_books.specs.Commands.{command_in_place}
use Rattle.model_in_place_books.specs.Output.{output_in_place}
use Rattle.model_made.specs.Made.{IsMade}

-- *In place equals applicative.* In a session that commands have made, whichever symbols are known, the core form of an expression that the rules accept
-- evaluates in place, each live stobj a root that is overwritten, to the values or the stop of checked evaluation on lists, with
-- as many calls, outer calls and symbols; afterwards each live stobj has the list of checked evaluation at its place, and nothing
-- else has changed.
pub record InPlaceEqualsApplicative : Type 0 where
  pub agrees : (k : Limits) (s : Session) (symbols : List QualifiedName) (form : Object ℕ) (f : Core) (p : Progress) → IsMade s
      → expanded (setting s.environment k) form (at_start symbols) ≡ Makes f p → expression_fault s.environment.world (live_scope s.stobjs) f ≡ None
      → Agrees s.environment.world (live_scope s.stobjs) (outs s.environment.world (live_scope s.stobjs) f) (begun p.symbols s.stobjs p.calls) (begun_in_place p.symbols s.stobjs p.calls)
      (checked s.environment.world s.environment.packages k.steps k.depth f (live s.stobjs) (begun p.symbols s.stobjs p.calls))
      (in_place s.environment.world s.environment.packages k.steps k.depth f (live s.stobjs) (begun_in_place p.symbols s.stobjs p.calls))

-- *Of whole commands.* In a session that commands have made, whichever symbols are known, a command whose expression is evaluated
-- in place has the answer of the command on lists, its calls, its outer calls and its cut, and leaves the same session:
-- definitions, packages, symbols, and the list of each live stobj, read off its root. That no other root is left and that the
-- journal is closed again is in the statement above. What macros, constants and packages evaluate is evaluated on lists in both;
-- no live stobj is in scope there.
pub record CommandsInPlace : Type 0 where
  pub same : (bounds : Limits) (s : Session) (symbols : List QualifiedName) (form : Object ℕ) → IsMade s
      → command_in_place bounds (record s { symbols = symbols }) form ≡ command bounds (record s { symbols = symbols }) form

-- *Of whole books.* For all words and every input, a book in which each expression is evaluated in place, from roots that hold the
-- lists of the live stobjs, has the output of checked evaluation on lists: the same bytes and the same status.
pub record BooksInPlace : Type 0 where
  pub same : (words : List Bytes) (input : Bytes) → output_in_place words input ≡ output words input
