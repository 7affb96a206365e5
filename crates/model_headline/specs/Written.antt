-- What a run writes, what each command leaves in the live stobjs, what stands after want of memory, and what cells are held.
use Rattle.std.specs.Prelude.{◌≡◌, ℕ, ◌+◌, ◌≤◌, List, [], ◌∷◌, ◌++◌, true}
use Rattle.acl_base.specs.declared.status.Status.{Status}
use Rattle.model_objects.specs.Object.{Object}
use Rattle.model_symbols.specs.Symbols.{QualifiedName}
use Rattle.model_lists.specs.Normal.{canonical, list_cells}
use Rattle.model_eval.specs.Outcomes.{Stobjs}
use Rattle.model_eval.specs.Variables.{list_of}
use Rattle.model_eval_laws.specs.Scope.{names, is_among}
use Rattle.model_eval_alike.specs.Alike.{canonical_stobjs}
use Rattle.model_events.specs.Events.{Limits}
use Rattle.model_books.specs.Opening.{Session}
use Rattle.model_books.specs.Commands.{command}
use Rattle.model_books.specs.Lines.{Bytes}
use Rattle.model_books.specs.Output.{output}

-- *What is written.* For all words and every input, the bytes that a run writes and its status are those that checked evaluation
-- of the book on lists prints, command by command, with as many calls.
pub record Writes (words : List Bytes) (input written : Bytes) (status : Status) : Type 0 where
  pub is : output words input ≡ record { bytes = written; status = status }

-- *What each command leaves.* The live stobjs, by their names and in order, stand for the lists of the session: each shows the
-- canonical list of its own.
pub record StandFor (live : Stobjs ℕ) (s : Session) : Type 0 where
  pub same : live ≡ canonical_stobjs s.stobjs

-- Where they stood for the lists of the session, they stand after the command for the lists that it leaves, whether it ends with
-- values, is refused or stops. A run begins with no live stobjs, which stand for the session that it begins with.
pub record LeavesLive (k : Limits) (s : Session) (form : Object ℕ) (before after : Stobjs ℕ) : Type 0 where
  pub stands : StandFor before s → StandFor after (command k s form).session

-- *What stands after want of memory.* A command that met it after so many calls leaves each stobj at the list that the command
-- leaves with some smaller limit of calls, and the live stobjs, here `shown`, stand for these lists; the definitions, the packages
-- and the set of live stobjs are as before, and of the symbols that the command adds the first are known.
pub record StandsAfterMemory (k : Limits) (s : Session) (form : Object ℕ) (calls : ℕ) (shown : Stobjs ℕ) (after : Session) : Type 0 where
  pub stands : StandFor shown after
  pub fewer : calls ≤ (command k s form).calls
  pub limit : ℕ
  pub within : limit ≤ calls
  pub lists : (x : ℕ) → is_among x (names s.stobjs) ≡ true → canonical (list_of after.stobjs x) ≡ canonical (list_of (command (record k { steps = limit }) s form).session.stobjs x)
  pub live : names after.stobjs ≡ names s.stobjs
  pub environment : after.environment ≡ s.environment
  pub symbols : (known : List QualifiedName) × (unknown : List QualifiedName) × (after.symbols ≡ s.symbols ++ known) × ((command k s form).session.symbols ≡ after.symbols ++ unknown)

-- *Held cells.* Between commands as many cells are held as the values and the keys in the lists of the live stobjs take. This says
-- which number it is; that it is what memory holds is a clause of the code that answers it.
abbrev pub cells_of : Stobjs ℕ → ℕ
cells_of [] = 0
cells_of (o ∷ os) = list_cells (canonical o.1) + cells_of os

pub record HoldsCells (s : Session) (held : ℕ) : Type 0 where
  pub are : held ≡ cells_of s.stobjs
