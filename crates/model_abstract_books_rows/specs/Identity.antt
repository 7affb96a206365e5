-- A book whose abstract stobj is its foundation as a list of the logic, and its obligations.
use Rattle.model_abstract_books.specs.Commands.{theory_of}
use Rattle.std.specs.Prelude.{◌≡◌, ℕ, List, [], ◌∷◌, length, codes, Some}
use Rattle.model_symbols.specs.Symbols.{QualifiedName, number_of}
use Rattle.model_symbols.specs.Opening.{acl2}
use Rattle.model_terms.specs.Worlds.{AbstractDescriptor, Abstract, definition}
use Rattle.model_stobjs.specs.Obligations.{obligations}
use Rattle.model_books.specs.Opening.{Session}
use Rattle.model_books.specs.Output.{lines}
use Rattle.model_abstract_books_rows.specs.Books.{book_played}
use Rattle.model_abstract_books_rows.specs.Rows.{usual}
use Rattle.model_abstract_books.specs.Holding.{ObligationsHold}

unfoldable pub identity_book : List ℕ
identity_book = lines (codes "(defstobj st$c (val$c :type integer :initially 0))" ∷ codes "(defun st$ap (x) (and (true-listp x) (equal (len x) 1) (integerp (car x))))" ∷ codes "(defun create-st$a () (list 0))" ∷ codes "(defun val$a (x) (declare (xargs :guard (st$ap x))) (car x))" ∷ codes "(defun update-val$a (v x) (declare (xargs :guard (and (integerp v) (st$ap x)))) (update-nth 0 v x))" ∷ codes "(defun-nx st$corr (st$c x) (equal st$c x))" ∷ codes "(defabsstobj st :exports (val update-val))" ∷ [])

-- the session at its end
unfoldable pub identity_session : Session
identity_session = (book_played 50 usual identity_book).session

abbrev pub stobj_name : QualifiedName
stobj_name = record { home = acl2; name = codes "ST" }

-- there is a stobj of this name
pub record IsStobj (x : ℕ) (d : AbstractDescriptor) : Type 0 where
  pub named : number_of identity_session.symbols stobj_name ≡ Some x
  pub stands : definition identity_session.environment.world x ≡ Some (Abstract d)

-- the stobj has six obligations, and they hold
pub record IdentityHolds : Type 0 where
  pub count : (x : ℕ) × (d : AbstractDescriptor) × IsStobj x d × (length (obligations identity_session.environment.world identity_session.symbols d) ≡ 6)
  pub hold : ObligationsHold (theory_of identity_session.environment identity_session.symbols)
