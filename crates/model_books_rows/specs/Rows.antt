-- Whole books: the program's words, an input, what is written, and the status. Written by tools/rows.py.
use Rattle.std.specs.Prelude.{◌≡◌, ℕ, List, [], ◌∷◌, ◌++◌, codes}
use Rattle.acl_base.specs.declared.status.Status.TheVariants.{Done, Errors, Words, Text}
use Rattle.model_books.specs.Output.{output, lines}

-- abstract caller
abbrev pub abstract_caller_input : List ℕ
abstract_caller_input = lines (codes "(defstobj st$c (val$c :type integer :initially 0))" ∷ codes "(defun st$ap (x) (and (true-listp x) (equal (len x) 1) (integerp (car x))))" ∷ codes "(defun create-st$a () (list 0))" ∷ codes "(defun val$a (x) (declare (xargs :guard (st$ap x))) (car x))" ∷ codes "(defun update-val$a (v x) (declare (xargs :guard (and (integerp v) (st$ap x)))) (update-nth 0 v x))" ∷ codes "(defun-nx st$corr (st$c x) (equal st$c x))" ∷ codes "(defabsstobj st :exports (val update-val))" ∷ codes "(update-val 5 st)" ∷ codes "(val st)" ∷ codes "(update-val 'a st)" ∷ codes "(:cells)" ∷ codes "(defun peekval (st) (declare (xargs :stobjs st)) (val st))" ∷ codes "(peekval st)" ∷ codes "(defabsstobj s2 :foundation st)" ∷ [])

abbrev pub abstract_caller_written : List ℕ
abstract_caller_written = lines (codes "ST$C" ∷ codes "ST$AP" ∷ codes "CREATE-ST$A" ∷ codes "VAL$A" ∷ codes "UPDATE-VAL$A" ∷ codes "ST$CORR" ∷ codes "ST" ∷ codes "CREATE-ST{CORRESPONDENCE}: (ST$CORR (CREATE-ST$C) (CREATE-ST$A))" ∷ codes "CREATE-ST{PRESERVED}: (ST$AP (CREATE-ST$A))" ∷ codes "VAL{CORRESPONDENCE}: (IMPLIES (AND (ST$CORR ST$C ST) (ST$AP ST)) (EQUAL (VAL$A ST) (VAL$C ST$C)))" ∷ codes "UPDATE-VAL{CORRESPONDENCE}: (IMPLIES (AND (ST$CORR ST$C ST) (IF (INTEGERP V) (ST$AP ST) (QUOTE NIL))) (ST$CORR (UPDATE-VAL$C V ST$C) (UPDATE-VAL$A V ST)))" ∷ codes "UPDATE-VAL{GUARD-THM}: (IMPLIES (AND (ST$CORR ST$C ST) (IF (INTEGERP V) (ST$AP ST) (QUOTE NIL))) (INTEGERP V))" ∷ codes "UPDATE-VAL{PRESERVED}: (IMPLIES (AND (ST$AP ST) (IF (INTEGERP V) (ST$AP ST) (QUOTE NIL))) (ST$AP (UPDATE-VAL$A V ST)))" ∷ codes "<st>" ∷ codes "5" ∷ codes "Guard violation: (UPDATE-VAL A <st>)" ∷ codes "0" ∷ codes "PEEKVAL" ∷ codes "5" ∷ codes "Refused: FoundationNotConcrete ST" ∷ codes "; 14 commands, 16 calls, 2 errors" ∷ [])

pub record AbstractCaller : Type 0 where
  pub is_written : output ([]) abstract_caller_input ≡ record { bytes = abstract_caller_written; status = Errors }

-- bad byte
abbrev pub bad_byte_input : List ℕ
bad_byte_input = (200 ∷ [])

abbrev pub bad_byte_written : List ℕ
bad_byte_written = lines (codes "Text fault: BadByte at 0" ∷ codes "; 0 commands, 0 calls, 0 errors" ∷ [])

pub record BadByte : Type 0 where
  pub is_written : output ([]) bad_byte_input ≡ record { bytes = bad_byte_written; status = Text }

-- bad dot
abbrev pub bad_dot_input : List ℕ
bad_dot_input = codes "(1 . 2 3)"

abbrev pub bad_dot_written : List ℕ
bad_dot_written = lines (codes "Text fault: BadDot at 3" ∷ codes "; 0 commands, 0 calls, 0 errors" ∷ [])

pub record BadDot : Type 0 where
  pub is_written : output ([]) bad_dot_input ≡ record { bytes = bad_dot_written; status = Text }

-- bad words
abbrev pub bad_words_input : List ℕ
bad_words_input = lines (codes "(car 5)" ∷ [])

abbrev pub bad_words_written : List ℕ
bad_words_written = []

pub record BadWords : Type 0 where
  pub is_written : output (codes "--steps" ∷ codes "0" ∷ []) bad_words_input ≡ record { bytes = bad_words_written; status = Words }

-- cells given back
abbrev pub cells_given_back_input : List ℕ
cells_given_back_input = lines (codes "(defstobj st (x))" ∷ codes "(update-x \"abcdefghi\" st)" ∷ codes "(:cells)" ∷ codes "(update-x '(9223372036854775808 . 9223372036854775807) st)" ∷ codes "(:cells)" ∷ codes "(update-x 0 st)" ∷ codes "(:cells)" ∷ [])

abbrev pub cells_given_back_written : List ℕ
cells_given_back_written = lines (codes "ST" ∷ codes "<st>" ∷ codes "3" ∷ codes "<st>" ∷ codes "2" ∷ codes "<st>" ∷ codes "0" ∷ codes "; 7 commands, 3 calls, 0 errors" ∷ [])

pub record CellsGivenBack : Type 0 where
  pub is_written : output ([]) cells_given_back_input ≡ record { bytes = cells_given_back_written; status = Done }

-- comma outside
abbrev pub comma_outside_input : List ℕ
comma_outside_input = codes ",a"

abbrev pub comma_outside_written : List ℕ
comma_outside_written = lines (codes "Text fault: CommaOutside at 0" ∷ codes "; 0 commands, 0 calls, 0 errors" ∷ [])

pub record CommaOutside : Type 0 where
  pub is_written : output ([]) comma_outside_input ≡ record { bytes = comma_outside_written; status = Text }

-- empty input
abbrev pub empty_input_input : List ℕ
empty_input_input = []

abbrev pub empty_input_written : List ℕ
empty_input_written = lines (codes "; 0 commands, 0 calls, 0 errors" ∷ [])

pub record EmptyInput : Type 0 where
  pub is_written : output ([]) empty_input_input ≡ record { bytes = empty_input_written; status = Done }

-- export undone
abbrev pub export_undone_input : List ℕ
export_undone_input = lines (codes "(defstobj st$c (val$c :type integer :initially 0))" ∷ codes "(defun st$ap (x) (if (true-listp x) (if (equal (len x) 1) (integerp (car x)) 'nil) 'nil))" ∷ codes "(defun create-st$a () '(0))" ∷ codes "(defun val$a (x) (declare (xargs :guard (st$ap x))) (car x))" ∷ codes "(defun jump$a (v x) (declare (xargs :guard (st$ap x))) (update-nth 0 (ifix (car v)) x))" ∷ codes "(defun jump$c (v st$c) (declare (xargs :stobjs st$c)) (let ((st$c (update-val$c 7 st$c))) (update-val$c (ifix (car v)) st$c)))" ∷ codes "(defun-nx st$corr (st$c x) (equal st$c x))" ∷ codes "(defabsstobj st :exports (val jump))" ∷ codes "(jump '(5) st)" ∷ codes "(val st)" ∷ codes "(jump 6 st)" ∷ codes "(val st)" ∷ [])

abbrev pub export_undone_written : List ℕ
export_undone_written = lines (codes "ST$C" ∷ codes "ST$AP" ∷ codes "CREATE-ST$A" ∷ codes "VAL$A" ∷ codes "JUMP$A" ∷ codes "JUMP$C" ∷ codes "ST$CORR" ∷ codes "ST" ∷ codes "CREATE-ST{CORRESPONDENCE}: (ST$CORR (CREATE-ST$C) (CREATE-ST$A))" ∷ codes "CREATE-ST{PRESERVED}: (ST$AP (CREATE-ST$A))" ∷ codes "VAL{CORRESPONDENCE}: (IMPLIES (AND (ST$CORR ST$C ST) (ST$AP ST)) (EQUAL (VAL$A ST) (VAL$C ST$C)))" ∷ codes "JUMP{CORRESPONDENCE}: (IMPLIES (AND (ST$CORR ST$C ST) (ST$AP ST)) (ST$CORR (JUMP$C V ST$C) (JUMP$A V ST)))" ∷ codes "JUMP{PRESERVED}: (IMPLIES (AND (ST$AP ST) (ST$AP ST)) (ST$AP (JUMP$A V ST)))" ∷ codes "<st>" ∷ codes "5" ∷ codes "Guard violation: (CAR 6) inside JUMP" ∷ codes "5" ∷ codes "; 12 commands, 18 calls, 1 errors" ∷ [])

pub record ExportUndone : Type 0 where
  pub is_written : output ([]) export_undone_input ≡ record { bytes = export_undone_written; status = Errors }

-- first rules
abbrev pub first_rules_input : List ℕ
first_rules_input = lines (codes "(defstobj st (pc :type integer :initially 0))" ∷ codes "(update-pc 5 st)" ∷ codes "(pc st)" ∷ codes "(mv st st)" ∷ codes "(update-pc 1 (update-pc 2 st))" ∷ codes "(foo 1)" ∷ [])

abbrev pub first_rules_written : List ℕ
first_rules_written = lines (codes "ST" ∷ codes "<st>" ∷ codes "5" ∷ codes "Refused: S9 at ()" ∷ codes "Refused: S1 at (1)" ∷ codes "Refused: UnknownFunction FOO" ∷ codes "; 6 commands, 2 calls, 3 errors" ∷ [])

pub record FirstRules : Type 0 where
  pub is_written : output ([]) first_rules_input ≡ record { bytes = first_rules_written; status = Errors }

-- guard violation
abbrev pub guard_violation_input : List ℕ
guard_violation_input = lines (codes "(defstobj st (pc :type integer :initially 0))" ∷ codes "(update-pc 5 st)" ∷ codes "(pc st)" ∷ codes "(update-pc 'a st)" ∷ codes "(pc st)" ∷ [])

abbrev pub guard_violation_written : List ℕ
guard_violation_written = lines (codes "ST" ∷ codes "<st>" ∷ codes "5" ∷ codes "Guard violation: (UPDATE-PC A <st>)" ∷ codes "5" ∷ codes "; 5 commands, 4 calls, 1 errors" ∷ [])

pub record GuardViolation : Type 0 where
  pub is_written : output ([]) guard_violation_input ≡ record { bytes = guard_violation_written; status = Errors }

-- held cells
abbrev pub held_cells_input : List ℕ
held_cells_input = lines (codes "(defstobj st (x))" ∷ codes "(update-x \"abcdefghi\" st)" ∷ codes "(:cells)" ∷ codes "(update-x '(9223372036854775808 . 9223372036854775807) st)" ∷ codes "(:cells)" ∷ [])

abbrev pub held_cells_written : List ℕ
held_cells_written = lines (codes "ST" ∷ codes "<st>" ∷ codes "3" ∷ codes "<st>" ∷ codes "2" ∷ codes "; 5 commands, 2 calls, 0 errors" ∷ [])

pub record HeldCells : Type 0 where
  pub is_written : output ([]) held_cells_input ≡ record { bytes = held_cells_written; status = Done }

-- hexadecimal
abbrev pub hexadecimal_input : List ℕ
hexadecimal_input = lines (codes "(defstobj st (pc :type integer :initially 0))" ∷ codes "(update-pc #xff st)" ∷ codes "(pc st)" ∷ [])

abbrev pub hexadecimal_written : List ℕ
hexadecimal_written = lines (codes "ST" ∷ codes "<st>" ∷ codes "255" ∷ codes "; 3 commands, 2 calls, 0 errors" ∷ [])

pub record Hexadecimal : Type 0 where
  pub is_written : output ([]) hexadecimal_input ≡ record { bytes = hexadecimal_written; status = Done }

-- identity abstraction
abbrev pub identity_abstraction_input : List ℕ
identity_abstraction_input = lines (codes "(defstobj st$c (val$c :type integer :initially 0))" ∷ codes "(defun st$ap (x) (and (true-listp x) (equal (len x) 1) (integerp (car x))))" ∷ codes "(defun create-st$a () (list 0))" ∷ codes "(defun val$a (x) (declare (xargs :guard (st$ap x))) (car x))" ∷ codes "(defun update-val$a (v x) (declare (xargs :guard (and (integerp v) (st$ap x)))) (update-nth 0 v x))" ∷ codes "(defun-nx st$corr (st$c x) (equal st$c x))" ∷ codes "(defabsstobj st :exports (val update-val))" ∷ codes "(update-val 5 st)" ∷ codes "(val st)" ∷ codes "(update-val 'a st)" ∷ codes "(:cells)" ∷ [])

abbrev pub identity_abstraction_written : List ℕ
identity_abstraction_written = lines (codes "ST$C" ∷ codes "ST$AP" ∷ codes "CREATE-ST$A" ∷ codes "VAL$A" ∷ codes "UPDATE-VAL$A" ∷ codes "ST$CORR" ∷ codes "ST" ∷ codes "CREATE-ST{CORRESPONDENCE}: (ST$CORR (CREATE-ST$C) (CREATE-ST$A))" ∷ codes "CREATE-ST{PRESERVED}: (ST$AP (CREATE-ST$A))" ∷ codes "VAL{CORRESPONDENCE}: (IMPLIES (AND (ST$CORR ST$C ST) (ST$AP ST)) (EQUAL (VAL$A ST) (VAL$C ST$C)))" ∷ codes "UPDATE-VAL{CORRESPONDENCE}: (IMPLIES (AND (ST$CORR ST$C ST) (IF (INTEGERP V) (ST$AP ST) (QUOTE NIL))) (ST$CORR (UPDATE-VAL$C V ST$C) (UPDATE-VAL$A V ST)))" ∷ codes "UPDATE-VAL{GUARD-THM}: (IMPLIES (AND (ST$CORR ST$C ST) (IF (INTEGERP V) (ST$AP ST) (QUOTE NIL))) (INTEGERP V))" ∷ codes "UPDATE-VAL{PRESERVED}: (IMPLIES (AND (ST$AP ST) (IF (INTEGERP V) (ST$AP ST) (QUOTE NIL))) (ST$AP (UPDATE-VAL$A V ST)))" ∷ codes "<st>" ∷ codes "5" ∷ codes "Guard violation: (UPDATE-VAL A <st>)" ∷ codes "0" ∷ codes "; 11 commands, 12 calls, 1 errors" ∷ [])

pub record IdentityAbstraction : Type 0 where
  pub is_written : output ([]) identity_abstraction_input ≡ record { bytes = identity_abstraction_written; status = Errors }

-- in package
abbrev pub in_package_input : List ℕ
in_package_input = lines (codes "(in-package \"Q\")" ∷ codes "(in-package \"KEYWORD\")" ∷ [])

abbrev pub in_package_written : List ℕ
in_package_written = lines (codes "Refused: UnknownPackage \"Q\"" ∷ codes "\"KEYWORD\"" ∷ codes "; 2 commands, 0 calls, 1 errors" ∷ [])

pub record InPackage : Type 0 where
  pub is_written : output ([]) in_package_input ≡ record { bytes = in_package_written; status = Errors }

-- literal too wide
abbrev pub literal_too_wide_input : List ℕ
literal_too_wide_input = lines (codes "170141183460469231731687303715884105728" ∷ [])

abbrev pub literal_too_wide_written : List ℕ
literal_too_wide_written = lines (codes "Text fault: IntegerTooWide at 0" ∷ codes "; 0 commands, 0 calls, 0 errors" ∷ [])

pub record LiteralTooWide : Type 0 where
  pub is_written : output ([]) literal_too_wide_input ≡ record { bytes = literal_too_wide_written; status = Text }

-- narrowest literal
abbrev pub narrowest_literal_input : List ℕ
narrowest_literal_input = lines (codes "-170141183460469231731687303715884105728" ∷ [])

abbrev pub narrowest_literal_written : List ℕ
narrowest_literal_written = lines (codes "-170141183460469231731687303715884105728" ∷ codes "; 1 commands, 0 calls, 0 errors" ∷ [])

pub record NarrowestLiteral : Type 0 where
  pub is_written : output ([]) narrowest_literal_input ≡ record { bytes = narrowest_literal_written; status = Done }

-- nesting limit
abbrev pub nesting_limit_input : List ℕ
nesting_limit_input = lines (codes "(defstobj st (pc :type integer :initially 0))" ∷ codes "(defun up (n st) (declare (xargs :stobjs st :guard (natp n))) (if (not (zp n)) (let ((st (update-pc (+ 1 (pc st)) st))) (up (- n 1) st)) st))" ∷ codes "(up 3 st)" ∷ codes "(pc st)" ∷ codes "(defun spin (x) (spin x))" ∷ codes "(spin 1)" ∷ [])

abbrev pub nesting_limit_written : List ℕ
nesting_limit_written = lines (codes "ST" ∷ codes "UP" ∷ codes "<st>" ∷ codes "3" ∷ codes "SPIN" ∷ codes "Nesting limit" ∷ codes "; 6 commands, 134 calls, 1 errors" ∷ [])

pub record NestingLimit : Type 0 where
  pub is_written : output (codes "--depth" ∷ codes "100" ∷ []) nesting_limit_input ≡ record { bytes = nesting_limit_written; status = Errors }

-- nesting limit alone
abbrev pub nesting_limit_alone_input : List ℕ
nesting_limit_alone_input = lines (codes "(defun spin (x) (spin x))" ∷ codes "(spin 1)" ∷ [])

abbrev pub nesting_limit_alone_written : List ℕ
nesting_limit_alone_written = lines (codes "SPIN" ∷ codes "Nesting limit" ∷ codes "; 2 commands, 100 calls, 1 errors" ∷ [])

pub record NestingLimitAlone : Type 0 where
  pub is_written : output (codes "--depth" ∷ codes "100" ∷ []) nesting_limit_alone_input ≡ record { bytes = nesting_limit_alone_written; status = Errors }

-- one step short
abbrev pub one_step_short_input : List ℕ
one_step_short_input = lines (codes "(defstobj st (pc :type integer :initially 0))" ∷ codes "(defun up (n st) (declare (xargs :stobjs st :guard (natp n))) (if (not (zp n)) (let ((st (update-pc (+ 1 (pc st)) st))) (up (- n 1) st)) st))" ∷ codes "(up 3 st)" ∷ codes "(pc st)" ∷ [])

abbrev pub one_step_short_written : List ℕ
one_step_short_written = lines (codes "ST" ∷ codes "UP" ∷ codes "Step limit" ∷ codes "3" ∷ codes "; 4 commands, 33 calls, 1 errors" ∷ [])

pub record OneStepShort : Type 0 where
  pub is_written : output (codes "--steps" ∷ codes "30" ∷ []) one_step_short_input ≡ record { bytes = one_step_short_written; status = Errors }

-- open string
abbrev pub open_string_input : List ℕ
open_string_input = codes "\"ab"

abbrev pub open_string_written : List ℕ
open_string_written = lines (codes "Text fault: Unfinished at 0" ∷ codes "; 0 commands, 0 calls, 0 errors" ∷ [])

pub record OpenString : Type 0 where
  pub is_written : output ([]) open_string_input ≡ record { bytes = open_string_written; status = Text }

-- package of its own
abbrev pub package_of_its_own_input : List ℕ
package_of_its_own_input = lines (codes "(defpkg \"P\" '(car cons))" ∷ codes "(in-package \"P\")" ∷ codes "(cons 'x 'acl2::y)" ∷ [])

abbrev pub package_of_its_own_written : List ℕ
package_of_its_own_written = lines (codes "\"P\"" ∷ codes "\"P\"" ∷ codes "(X . ACL2::Y)" ∷ codes "; 3 commands, 1 calls, 0 errors" ∷ [])

pub record PackageOfItsOwn : Type 0 where
  pub is_written : output ([]) package_of_its_own_input ≡ record { bytes = package_of_its_own_written; status = Done }

-- primitives
abbrev pub primitives_input : List ℕ
primitives_input = lines (codes "(binary-+ 170141183460469231731687303715884105727 1)" ∷ codes "(cons 1 '(2))" ∷ codes "(car 5)" ∷ [])

abbrev pub primitives_written : List ℕ
primitives_written = lines (codes "Out of range: BINARY-+" ∷ codes "(1 2)" ∷ codes "Guard violation: (CAR 5)" ∷ codes "; 3 commands, 3 calls, 2 errors" ∷ [])

pub record Primitives : Type 0 where
  pub is_written : output ([]) primitives_input ≡ record { bytes = primitives_written; status = Errors }

-- ratio
abbrev pub ratio_input : List ℕ
ratio_input = codes "1/2"

abbrev pub ratio_written : List ℕ
ratio_written = lines (codes "Text fault: BadToken at 0" ∷ codes "; 0 commands, 0 calls, 0 errors" ∷ [])

pub record Ratio : Type 0 where
  pub is_written : output ([]) ratio_input ≡ record { bytes = ratio_written; status = Text }

-- refusals
abbrev pub refusals_input : List ℕ
refusals_input = lines (codes "(defstobj st (a :type integer :initially 1))" ∷ codes "(defstobj st2 (b :type integer :initially 1) :congruent-to st)" ∷ codes "(update-a 5 st2)" ∷ codes "(defun both (st st2) (declare (xargs :stobjs (st st2))) (let ((st (update-a 7 st))) (let ((st2 (update-b 8 st2))) (mv st st2))))" ∷ codes "(both st2 st)" ∷ codes "(:show st)" ∷ codes "(:show st2)" ∷ codes "(both st st)" ∷ codes "(mv st st)" ∷ codes "(update-a 1 (update-a 2 st))" ∷ codes "(foo 1)" ∷ codes "(include-book \"x\")" ∷ [])

abbrev pub refusals_written : List ℕ
refusals_written = lines (codes "ST" ∷ codes "ST2" ∷ codes "<st2>" ∷ codes "BOTH" ∷ codes "(<st2> <st>)" ∷ codes "(8)" ∷ codes "(7)" ∷ codes "Refused: S2 at ()" ∷ codes "Refused: S9 at ()" ∷ codes "Refused: S1 at (1)" ∷ codes "Refused: UnknownFunction FOO" ∷ codes "Refused: NotSupported INCLUDE-BOOK" ∷ codes "; 12 commands, 4 calls, 5 errors" ∷ [])

pub record Refusals : Type 0 where
  pub is_written : output ([]) refusals_input ≡ record { bytes = refusals_written; status = Errors }

-- stack machine
abbrev pub stack_machine_input : List ℕ
stack_machine_input = lines (codes "; A small stack machine." ∷ codes "(in-package \"ACL2\")" ∷ codes "(defpkg \"SM\" (union-eq *acl2-exports* *common-lisp-symbols-from-main-lisp-package*))" ∷ codes "(in-package \"SM\")" ∷ codes "(defconst *mem-size* 16)" ∷ codes "(defstobj sm" ∷ codes "  (pc :type (integer 0 1000) :initially 0)" ∷ codes "  (stk :type t :initially nil)" ∷ codes "  (mem :type (array (signed-byte 32) (*mem-size*)) :initially 0)" ∷ codes "  (names :type (hash-table eq))" ∷ codes "  (code :type t :initially nil)" ∷ codes "  :inline t)" ∷ codes "(defmacro op (i) `(car ,i))" ∷ codes "(defmacro arg (i) `(cadr ,i))" ∷ codes "(defun push-val (v sm)" ∷ codes "  (declare (xargs :stobjs sm))" ∷ codes "  (update-stk (cons v (stk sm)) sm))" ∷ codes "(defun pop-val (sm)" ∷ codes "  (declare (xargs :stobjs sm :guard (consp (stk sm))))" ∷ codes "  (let* ((v (car (stk sm))) (sm (update-stk (cdr (stk sm)) sm)))" ∷ codes "    (mv v sm)))" ∷ codes "(defun addr (x sm)" ∷ codes "  (declare (xargs :stobjs sm :guard (symbolp x)))" ∷ codes "  (names-get x sm))" ∷ codes "(defun step1 (ins sm)" ∷ codes "  (declare (xargs :stobjs sm :guard (and (true-listp ins) (consp ins))))" ∷ codes "  (case (op ins)" ∷ codes "    (push (push-val (arg ins) sm))" ∷ codes "    (load (push-val (memi (addr (arg ins) sm) sm) sm))" ∷ codes "    (store (mv-let (v sm) (pop-val sm)" ∷ codes "             (update-memi (addr (arg ins) sm) v sm)))" ∷ codes "    (add (mv-let (a sm) (pop-val sm)" ∷ codes "           (mv-let (b sm) (pop-val sm)" ∷ codes "             (push-val (+ a b) sm))))" ∷ codes "    (otherwise sm)))" ∷ codes "(defun run-code (code sm)" ∷ codes "  (declare (xargs :stobjs sm :guard (true-listp code) :measure (len code)))" ∷ codes "  (if (endp code) sm" ∷ codes "    (let ((sm (step1 (car code) sm)))" ∷ codes "      (run-code (cdr code) sm))))" ∷ codes "(defthm run-code-sm (implies (smp sm) (smp (run-code code sm))))" ∷ codes "(names-put 'x 3 sm)" ∷ codes "(names-put 'y 4 sm)" ∷ codes "(run-code '((push 20) (push 22) (add) (store x)) sm)" ∷ codes "(memi 3 sm)" ∷ codes "(run-code '((load x) (load x) (add) (store y)) sm)" ∷ codes "(memi 4 sm)" ∷ codes "(stk sm)" ∷ codes "(run-code '((push 1) (add)) sm)" ∷ codes "(stk sm)" ∷ codes "(names-count sm)" ∷ codes "(:show sm)" ∷ codes "(mv (stk sm) (pc sm))" ∷ [])

abbrev pub stack_machine_written : List ℕ
stack_machine_written = lines (codes "\"ACL2\"" ∷ codes "\"SM\"" ∷ codes "\"SM\"" ∷ codes "*MEM-SIZE*" ∷ codes "SM" ∷ codes "OP" ∷ codes "ARG" ∷ codes "PUSH-VAL" ∷ codes "POP-VAL" ∷ codes "ADDR" ∷ codes "STEP1" ∷ codes "RUN-CODE" ∷ codes "Skipped" ∷ codes "<sm>" ∷ codes "<sm>" ∷ codes "<sm>" ∷ codes "42" ∷ codes "<sm>" ∷ codes "84" ∷ codes "NIL" ∷ codes "Guard violation: (POP-VAL <sm>)" ∷ codes "NIL" ∷ codes "2" ∷ codes "(0 NIL (0 0 0 42 84 0 0 0 0 0 0 0 0 0 0 0) ((X . 3) (Y . 4)) NIL)" ∷ codes "(NIL 0)" ∷ codes "; 25 commands, 269 calls, 1 errors" ∷ [])

pub record StackMachine : Type 0 where
  pub is_written : output ([]) stack_machine_input ≡ record { bytes = stack_machine_written; status = Errors }

-- steps exactly
abbrev pub steps_exactly_input : List ℕ
steps_exactly_input = lines (codes "(defstobj st (pc :type integer :initially 0))" ∷ codes "(defun up (n st) (declare (xargs :stobjs st :guard (natp n))) (if (not (zp n)) (let ((st (update-pc (+ 1 (pc st)) st))) (up (- n 1) st)) st))" ∷ codes "(up 3 st)" ∷ codes "(pc st)" ∷ [])

abbrev pub steps_exactly_written : List ℕ
steps_exactly_written = lines (codes "ST" ∷ codes "UP" ∷ codes "<st>" ∷ codes "3" ∷ codes "; 4 commands, 34 calls, 0 errors" ∷ [])

pub record StepsExactly : Type 0 where
  pub is_written : output (codes "--steps" ∷ codes "31" ∷ []) steps_exactly_input ≡ record { bytes = steps_exactly_written; status = Done }

-- stobj bound beside a value
abbrev pub stobj_bound_beside_a_value_input : List ℕ
stobj_bound_beside_a_value_input = lines (codes "(defstobj st (pc :type integer :initially 0))" ∷ codes "(update-pc 5 st)" ∷ codes "(pc st)" ∷ codes "(let ((x (pc st)) (st (update-pc 1 st))) (mv x st))" ∷ [])

abbrev pub stobj_bound_beside_a_value_written : List ℕ
stobj_bound_beside_a_value_written = lines (codes "ST" ∷ codes "<st>" ∷ codes "5" ∷ codes "Refused: S4 at ()" ∷ codes "; 4 commands, 2 calls, 1 errors" ∷ [])

pub record StobjBoundBesideAValue : Type 0 where
  pub is_written : output ([]) stobj_bound_beside_a_value_input ≡ record { bytes = stobj_bound_beside_a_value_written; status = Errors }

-- stopped between updates
abbrev pub stopped_between_updates_input : List ℕ
stopped_between_updates_input = lines (codes "(defstobj st (a :type (array integer (4)) :initially 0))" ∷ codes "(defun w (st) (declare (xargs :stobjs st)) (let* ((st (update-ai 0 1 st)) (st (update-ai 1 2 st)) (st (update-ai 2 3 st))) (update-ai 3 'x st)))" ∷ codes "(w st)" ∷ codes "(:show st)" ∷ [])

abbrev pub stopped_between_updates_written : List ℕ
stopped_between_updates_written = lines (codes "ST" ∷ codes "W" ∷ codes "Guard violation: (UPDATE-AI 3 X <st>)" ∷ codes "((1 2 3 0))" ∷ codes "; 4 commands, 6 calls, 1 errors" ∷ [])

pub record StoppedBetweenUpdates : Type 0 where
  pub is_written : output ([]) stopped_between_updates_input ≡ record { bytes = stopped_between_updates_written; status = Errors }

-- stray close
abbrev pub stray_close_input : List ℕ
stray_close_input = codes ")"

abbrev pub stray_close_written : List ℕ
stray_close_written = lines (codes "Text fault: StrayClose at 0" ∷ codes "; 0 commands, 0 calls, 0 errors" ∷ [])

pub record StrayClose : Type 0 where
  pub is_written : output ([]) stray_close_input ≡ record { bytes = stray_close_written; status = Text }

-- three commands
abbrev pub three_commands_input : List ℕ
three_commands_input = lines (codes "(defstobj st (pc :type integer :initially 0))" ∷ codes "(update-pc 5 st)" ∷ codes "(pc st)" ∷ [])

abbrev pub three_commands_written : List ℕ
three_commands_written = lines (codes "ST" ∷ codes "<st>" ∷ codes "5" ∷ codes "; 3 commands, 2 calls, 0 errors" ∷ [])

pub record ThreeCommands : Type 0 where
  pub is_written : output ([]) three_commands_input ≡ record { bytes = three_commands_written; status = Done }

-- too deep
abbrev pub too_deep_input : List ℕ
too_deep_input = codes "((((((((((((((((((((((((((((((((((((((((((((((((((((((((((((((((((((((((((((((((((((((((((((((((((((((((((((((((((((((((((((((((((((((((((((((((((((((((((((((((((((((((((((((((((((((((((((((((((((((((("

abbrev pub too_deep_written : List ℕ
too_deep_written = lines (codes "Text fault: TooDeep at 200" ∷ codes "; 0 commands, 0 calls, 0 errors" ∷ [])

pub record TooDeep : Type 0 where
  pub is_written : output ([]) too_deep_input ≡ record { bytes = too_deep_written; status = Text }

-- unfinished
abbrev pub unfinished_input : List ℕ
unfinished_input = codes "5 (car"

abbrev pub unfinished_written : List ℕ
unfinished_written = lines (codes "5" ∷ codes "Text fault: Unfinished at 2" ∷ codes "; 1 commands, 0 calls, 0 errors" ∷ [])

pub record Unfinished : Type 0 where
  pub is_written : output ([]) unfinished_input ≡ record { bytes = unfinished_written; status = Text }

-- unknown package
abbrev pub unknown_package_input : List ℕ
unknown_package_input = codes "q::x"

abbrev pub unknown_package_written : List ℕ
unknown_package_written = lines (codes "Text fault: UnknownPackage at 0" ∷ codes "; 0 commands, 0 calls, 0 errors" ∷ [])

pub record UnknownPackage : Type 0 where
  pub is_written : output ([]) unknown_package_input ≡ record { bytes = unknown_package_written; status = Text }

-- user macro
abbrev pub user_macro_input : List ℕ
user_macro_input = lines (codes "(defmacro sq (x) `(* ,x ,x))" ∷ codes "(sq 5)" ∷ [])

abbrev pub user_macro_written : List ℕ
user_macro_written = lines (codes "SQ" ∷ codes "25" ∷ codes "; 2 commands, 6 calls, 0 errors" ∷ [])

pub record UserMacro : Type 0 where
  pub is_written : output ([]) user_macro_input ≡ record { bytes = user_macro_written; status = Done }

-- value and stobj
abbrev pub value_and_stobj_input : List ℕ
value_and_stobj_input = lines (codes "(defstobj st (pc :type integer :initially 0))" ∷ codes "(update-pc 5 st)" ∷ codes "(pc st)" ∷ codes "(mv (pc st) st)" ∷ [])

abbrev pub value_and_stobj_written : List ℕ
value_and_stobj_written = lines (codes "ST" ∷ codes "<st>" ∷ codes "5" ∷ codes "(5 <st>)" ∷ codes "; 4 commands, 3 calls, 0 errors" ∷ [])

pub record ValueAndStobj : Type 0 where
  pub is_written : output ([]) value_and_stobj_input ≡ record { bytes = value_and_stobj_written; status = Done }

-- weight limit
abbrev pub weight_limit_input : List ℕ
weight_limit_input = lines (codes "(defun dbl (n) (declare (xargs :guard (natp n))) (if (zp n) 0 (let ((x (dbl (- n 1)))) (cons x x))))" ∷ codes "(consp (dbl 19))" ∷ codes "(dbl 20)" ∷ [])

abbrev pub weight_limit_written : List ℕ
weight_limit_written = lines (codes "DBL" ∷ codes "T" ∷ codes "Too large: CONS" ∷ codes "; 3 commands, 242 calls, 1 errors" ∷ [])

pub record WeightLimit : Type 0 where
  pub is_written : output ([]) weight_limit_input ≡ record { bytes = weight_limit_written; status = Errors }

-- widest integer
abbrev pub widest_integer_input : List ℕ
widest_integer_input = lines (codes "(* 170141183460469231731687303715884105727 1)" ∷ codes "(+ 170141183460469231731687303715884105727 1)" ∷ [])

abbrev pub widest_integer_written : List ℕ
widest_integer_written = lines (codes "170141183460469231731687303715884105727" ∷ codes "Out of range: BINARY-+" ∷ codes "; 2 commands, 4 calls, 1 errors" ∷ [])

pub record WidestInteger : Type 0 where
  pub is_written : output ([]) widest_integer_input ≡ record { bytes = widest_integer_written; status = Errors }
