-- What the logic asks of a world with abstract stobjs holds of each that commands have made, as a law.
use Rattle.std.specs.Prelude.{length}
use Rattle.model_symbols.specs.Symbols.{Table}
use Rattle.model_terms.specs.Worlds.{World}
use Rattle.model_accepted.specs.Threaded.{Suits, IsThreaded}
use Rattle.model_books.specs.Opening.{Session}
use Rattle.model_follows.specs.Abstract.{abstract_ground, IsFollowedBeside}
use Rattle.model_follows.specs.AbstractLists.{AreLaidOut}
use Rattle.model_follows.specs.Follows.{table_of}
use Rattle.model_follows.specs.Held.{AreSeenIn}
use Rattle.model_follows.specs.SymbolLaw.{IsWritten}
use Rattle.model_made.specs.Made.{IsMade}

-- all that the law of the logic asks of a world, and of the world in which a form is checked, where they are one
pub record IsFollowedHere (w : World) (table : Table) : Type 0 where
  pub threaded : IsThreaded w
  pub followed : IsFollowedBeside w (abstract_ground w table table.symbols) threaded
  pub written : IsWritten w (length table.symbols)
  pub laid_out : AreLaidOut w
  pub suits : Suits w w
  pub seen : AreSeenIn w (abstract_ground w table table.symbols) w

pub record MadeWorldsAreFollowedHere : Type 0 where
  pub followed : (s : Session) → IsMade s → IsFollowedHere s.environment.world (table_of s.environment.packages s.symbols)
