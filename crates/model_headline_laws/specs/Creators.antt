-- What the printed obligations of the creator of an abstract stobj say of values, in every session that commands have made.
use Rattle.std.specs.Prelude.{◌≡◌, ℕ, Some}
use Rattle.model_terms.specs.Worlds.{AbstractDescriptor, Abstract, definition}
use Rattle.model_follows.specs.Abstract.{CreatorHolds, ObligationsInLogic}
use Rattle.model_books.specs.Opening.{Session}
use Rattle.model_abstract_books.specs.Commands.{theory_of}
use Rattle.model_abstract_books.specs.Holding.{ObligationsHold}
use Rattle.model_made.specs.Made.{IsMade}

-- a new one corresponds to a new one of the foundation, and is well formed, with symbols of known packages
pub record ObligationsTellCreators : Type 0 where
  pub creators : (s : Session) → IsMade s → ObligationsHold (theory_of s.environment s.symbols)
      → (x : ℕ) (d : AbstractDescriptor) → definition s.environment.world x ≡ Some (Abstract d) → CreatorHolds (theory_of s.environment s.symbols) x d

-- the same of exports: all that the law of the logic asks of values
pub record ObligationsTellValues : Type 0 where
  pub tell : (s : Session) → IsMade s → ObligationsHold (theory_of s.environment s.symbols) → ObligationsInLogic (theory_of s.environment s.symbols)
