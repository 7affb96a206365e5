-- Books with abstract stobjs whose lists differ from those of their foundations, each command answered in both ways.
use Rattle.std.specs.Prelude.{◌≡◌, ℕ, List, [], ◌∷◌, codes, pos}
use Rattle.acl_base.specs.declared.status.Status.TheVariants.{Errors}
use Rattle.model_objects.specs.Object.{Integer, Symbol, list_onto}
use Rattle.model_symbols.specs.Symbols.{QualifiedName}
use Rattle.model_symbols.specs.Opening.{nil_name}
use Rattle.model_lists.specs.Lists.{StobjList, Value, Item, End}
use Rattle.model_events.specs.Events.{Limits}
use Rattle.model_books.specs.Output.{output, lines}
use Rattle.model_abstract_books_rows.specs.Books.{Played, FollowsTheLogic, book_played}

abbrev pub usual : Limits
usual = record { steps = 1000000; depth = 2048 }

-- the list of a concrete stobj of one integer, and an abstract list of one
abbrev pub concrete : ℕ → StobjList QualifiedName
concrete n = Item (Value (Integer (pos n))) End

abbrev pub abstract : ℕ → StobjList QualifiedName
abstract n = Value (list_onto (Integer (pos n) ∷ []) (Symbol nil_name))

-- a stobj that holds a number, and a foundation that holds its double
unfoldable pub doubled_book : List ℕ
doubled_book = lines (codes "(defstobj st$c (val$c :type integer :initially 0))" ∷ codes "(defun st$ap (x) (and (true-listp x) (equal (len x) 1) (integerp (car x))))" ∷ codes "(defun create-st$a () (list 0))" ∷ codes "(defun val$a (x) (declare (xargs :guard (st$ap x))) (car x))" ∷ codes "(defun update-val$a (v x) (declare (xargs :guard (and (integerp v) (st$ap x)))) (update-nth 0 v x))" ∷ codes "(defun half$c (st$c) (declare (xargs :stobjs st$c)) (floor (val$c st$c) 2))" ∷ codes "(defun double$c (v st$c) (declare (xargs :stobjs st$c :guard (integerp v))) (update-val$c (* 2 v) st$c))" ∷ codes "(defun-nx st$corr (st$c x) (equal (* 2 (car x)) (val$c st$c)))" ∷ codes "(defabsstobj st :exports ((val :exec half$c) (update-val :exec double$c)))" ∷ codes "(defstobj ct (n :type integer :initially 0))" ∷ codes "(update-val 5 st)" ∷ codes "(val st)" ∷ codes "(:show st)" ∷ codes "(:cells)" ∷ codes "(update-val 'a st)" ∷ codes "(update-n (val st) ct)" ∷ codes "(defun both (st ct) (declare (xargs :stobjs (st ct))) (let ((st (update-val (+ 1 (val st)) st))) (let ((ct (update-n (val st) ct))) (mv st ct (val st)))))" ∷ codes "(both st ct)" ∷ codes "(n ct)" ∷ codes "(list 'a (val st))" ∷ codes "(undefined st)" ∷ codes "(defun fresh () (with-local-stobj st (mv-let (st v) (let ((st (update-val 3 st))) (mv st (val st))) v)))" ∷ codes "(fresh)" ∷ codes "(val st)" ∷ codes "(defconst *c* (fresh))" ∷ codes "*c*" ∷ [])

unfoldable pub doubled_written : List ℕ
doubled_written = lines (codes "ST$C" ∷ codes "ST$AP" ∷ codes "CREATE-ST$A" ∷ codes "VAL$A" ∷ codes "UPDATE-VAL$A" ∷ codes "HALF$C" ∷ codes "DOUBLE$C" ∷ codes "ST$CORR" ∷ codes "ST" ∷ codes "CREATE-ST{CORRESPONDENCE}: (ST$CORR (CREATE-ST$C) (CREATE-ST$A))" ∷ codes "CREATE-ST{PRESERVED}: (ST$AP (CREATE-ST$A))" ∷ codes "VAL{CORRESPONDENCE}: (IMPLIES (AND (ST$CORR ST$C ST) (ST$AP ST)) (EQUAL (VAL$A ST) (HALF$C ST$C)))" ∷ codes "UPDATE-VAL{CORRESPONDENCE}: (IMPLIES (AND (ST$CORR ST$C ST) (IF (INTEGERP V) (ST$AP ST) (QUOTE NIL))) (ST$CORR (DOUBLE$C V ST$C) (UPDATE-VAL$A V ST)))" ∷ codes "UPDATE-VAL{GUARD-THM}: (IMPLIES (AND (ST$CORR ST$C ST) (IF (INTEGERP V) (ST$AP ST) (QUOTE NIL))) (INTEGERP V))" ∷ codes "UPDATE-VAL{PRESERVED}: (IMPLIES (AND (ST$AP ST) (IF (INTEGERP V) (ST$AP ST) (QUOTE NIL))) (ST$AP (UPDATE-VAL$A V ST)))" ∷ codes "CT" ∷ codes "<st>" ∷ codes "5" ∷ codes "(10)" ∷ codes "0" ∷ codes "Guard violation: (UPDATE-VAL A <st>)" ∷ codes "<ct>" ∷ codes "BOTH" ∷ codes "(<st> <ct> 6)" ∷ codes "6" ∷ codes "(A 6)" ∷ codes "Refused: UnknownFunction UNDEFINED" ∷ codes "FRESH" ∷ codes "3" ∷ codes "6" ∷ codes "*C*" ∷ codes "3" ∷ codes "; 26 commands, 93 calls, 2 errors" ∷ [])

-- an export that stops inside: what stands before it follows the logic
unfoldable pub stopping_book : List ℕ
stopping_book = lines (codes "(defstobj st$c (val$c :type integer :initially 0))" ∷ codes "(defun st$ap (x) (and (true-listp x) (equal (len x) 1) (integerp (car x))))" ∷ codes "(defun create-st$a () (list 0))" ∷ codes "(defun val$a (x) (declare (xargs :guard (st$ap x))) (car x))" ∷ codes "(defun update-val$a (v x) (declare (xargs :guard (and (integerp v) (st$ap x)))) (update-nth 0 v x))" ∷ codes "(defun half$c (st$c) (declare (xargs :stobjs st$c)) (floor (val$c st$c) 2))" ∷ codes "(defun double$c (v st$c) (declare (xargs :stobjs st$c :guard (integerp v))) (update-val$c (* 2 v) st$c))" ∷ codes "(defun-nx st$corr (st$c x) (equal (* 2 (car x)) (val$c st$c)))" ∷ codes "(defun head$a (x) (declare (xargs :guard (st$ap x))) (car x))" ∷ codes "(defun head$c (st$c) (declare (xargs :stobjs st$c)) (car (val$c st$c)))" ∷ codes "(defabsstobj st :exports ((val :exec half$c) (update-val :exec double$c) head))" ∷ codes "(update-val 2 st)" ∷ codes "(head st)" ∷ codes "(val st)" ∷ [])

unfoldable pub stopping_written : List ℕ
stopping_written = lines (codes "ST$C" ∷ codes "ST$AP" ∷ codes "CREATE-ST$A" ∷ codes "VAL$A" ∷ codes "UPDATE-VAL$A" ∷ codes "HALF$C" ∷ codes "DOUBLE$C" ∷ codes "ST$CORR" ∷ codes "HEAD$A" ∷ codes "HEAD$C" ∷ codes "ST" ∷ codes "CREATE-ST{CORRESPONDENCE}: (ST$CORR (CREATE-ST$C) (CREATE-ST$A))" ∷ codes "CREATE-ST{PRESERVED}: (ST$AP (CREATE-ST$A))" ∷ codes "VAL{CORRESPONDENCE}: (IMPLIES (AND (ST$CORR ST$C ST) (ST$AP ST)) (EQUAL (VAL$A ST) (HALF$C ST$C)))" ∷ codes "UPDATE-VAL{CORRESPONDENCE}: (IMPLIES (AND (ST$CORR ST$C ST) (IF (INTEGERP V) (ST$AP ST) (QUOTE NIL))) (ST$CORR (DOUBLE$C V ST$C) (UPDATE-VAL$A V ST)))" ∷ codes "UPDATE-VAL{GUARD-THM}: (IMPLIES (AND (ST$CORR ST$C ST) (IF (INTEGERP V) (ST$AP ST) (QUOTE NIL))) (INTEGERP V))" ∷ codes "UPDATE-VAL{PRESERVED}: (IMPLIES (AND (ST$AP ST) (IF (INTEGERP V) (ST$AP ST) (QUOTE NIL))) (ST$AP (UPDATE-VAL$A V ST)))" ∷ codes "HEAD{CORRESPONDENCE}: (IMPLIES (AND (ST$CORR ST$C ST) (ST$AP ST)) (EQUAL (HEAD$A ST) (HEAD$C ST$C)))" ∷ codes "<st>" ∷ codes "Guard violation: (CAR 4) inside HEAD" ∷ codes "2" ∷ codes "; 14 commands, 22 calls, 1 errors" ∷ [])

unfoldable pub doubled_played : Played
doubled_played = book_played 100 usual doubled_book

unfoldable pub stopping_played : Played
stopping_played = book_played 100 usual stopping_book

pub record Doubled : Type 0 where
  pub is_written : output [] doubled_book ≡ record { bytes = doubled_written; status = Errors }
  pub follows : FollowsTheLogic doubled_played 24 ((concrete 0, concrete 0) ∷ (concrete 12, abstract 6) ∷ (concrete 6, concrete 6) ∷ [])

pub record Stopping : Type 0 where
  pub is_written : output [] stopping_book ≡ record { bytes = stopping_written; status = Errors }
  pub follows : FollowsTheLogic stopping_played 12 ((concrete 0, concrete 0) ∷ (concrete 4, abstract 2) ∷ [])
