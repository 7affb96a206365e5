-- Whole books: the program's words, an input, what is written, and the status. Written by tools/rows.py.
use Rattle.std.specs.Prelude.{◌≡◌, ℕ, List, [], ◌∷◌, ◌++◌, codes}
use Rattle.acl_base.specs.declared.status.Status.TheVariants.{Done, Errors}
use Rattle.model_books.specs.Output.{output, lines}

-- constants
abbrev pub constants_input : List ℕ
constants_input = lines (codes "(defconst *c* 5)" ∷ codes "*c*" ∷ codes "(defconst *c* 6)" ∷ codes "(defconst c 5)" ∷ codes "(defconst 5 5)" ∷ codes "(defconst ** 1)" ∷ codes "(defconst *d*)" ∷ codes "(defconst *d* 1 2)" ∷ codes "(defconst *d* 1 \"text\" \"more\")" ∷ codes "(defconst *d* 1 \"text\")" ∷ codes "(defconst *e* (car 5))" ∷ codes "(defconst *e* x)" ∷ codes "(defconst *e* (foo))" ∷ codes "(defconst *e* (mv 1 2))" ∷ codes "(defconst :*a* '(b c))" ∷ codes "(defconst *e* (+ *c* 1))" ∷ codes "*e*" ∷ codes "(defun f (x) (cons x *e*))" ∷ codes "(f *d*)" ∷ codes "(let ((*c* 1)) *c*)" ∷ codes "*unknown*" ∷ codes "(car *common-lisp-symbols-from-main-lisp-package*)" ∷ codes "(car *acl2-exports*)" ∷ [])

abbrev pub constants_written : List ℕ
constants_written = lines (codes "*C*" ∷ codes "5" ∷ codes "Refused: NameInUse *C*" ∷ codes "Refused: BadName C" ∷ codes "Refused: BadName 5" ∷ codes "Refused: BadName **" ∷ codes "Refused: BadShape DEFCONST" ∷ codes "Refused: BadShape DEFCONST" ∷ codes "Refused: BadShape DEFCONST" ∷ codes "*D*" ∷ codes "Guard violation: (CAR 5)" ∷ codes "Refused: S11 at ()" ∷ codes "Refused: UnknownFunction FOO" ∷ codes "Refused: S9 at ()" ∷ codes ":*A*" ∷ codes "*E*" ∷ codes "6" ∷ codes "F" ∷ codes "(1 . 6)" ∷ codes "Refused: BadShape LET" ∷ codes "Refused: S11 at ()" ∷ codes "T" ∷ codes "MV" ∷ codes "; 23 commands, 7 calls, 13 errors" ∷ [])

pub record Constants : Type 0 where
  pub is_written : output ([]) constants_input ≡ record { bytes = constants_written; status = Errors }

-- counts at refusals
abbrev pub counts_at_refusals_input : List ℕ
counts_at_refusals_input = lines (codes "(cons (foo) (and 1 2))" ∷ codes "(cons (and 1 2) (foo))" ∷ codes "(cons (and 1 2))" ∷ codes "(> (and 1 2) (foo))" ∷ codes "(<= (foo) (or 1 2))" ∷ codes "(1+ (list 1 (foo)))" ∷ codes "(mbe :exec (and) :logic (foo))" ∷ codes "(case (and) (1 (foo)))" ∷ [])

abbrev pub counts_at_refusals_written : List ℕ
counts_at_refusals_written = lines (codes "Refused: UnknownFunction FOO" ∷ codes "Refused: UnknownFunction FOO" ∷ codes "Refused: Arity CONS" ∷ codes "Refused: UnknownFunction FOO" ∷ codes "Refused: UnknownFunction FOO" ∷ codes "Refused: UnknownFunction FOO" ∷ codes "Refused: UnknownFunction FOO" ∷ codes "Refused: UnknownFunction FOO" ∷ codes "; 8 commands, 9 calls, 8 errors" ∷ [])

pub record CountsAtRefusals : Type 0 where
  pub is_written : output ([]) counts_at_refusals_input ≡ record { bytes = counts_at_refusals_written; status = Errors }

-- declarations
abbrev pub declarations_input : List ℕ
declarations_input = lines (codes "(defun f (x) (declare 5) x)" ∷ codes "(defun f (x) (declare (foo x)) x)" ∷ codes "(defun f (x) (declare (xargs :guard)) x)" ∷ codes "(defun f (x) (declare (xargs guard t)) x)" ∷ codes "(defun f (x) (declare (xargs . 5)) x)" ∷ codes "(defun f (x) (declare (xargs :stobjs 5)) x)" ∷ codes "(defun f (x) (declare (xargs :stobjs (x 5))) x)" ∷ codes "(defun f (x) (declare (type foo x)) x)" ∷ codes "(defun f (x) (declare (type)) x)" ∷ codes "(defun f (x) (declare (type integer y)) x)" ∷ codes "(defun f (x) (declare (type integer 5)) x)" ∷ codes "(defun f (x) (declare (type (integer 0) x)) x)" ∷ codes "(mutual-recursion (defun f (x) (foo)) (defun g (x) (declare 5) x))" ∷ codes "(defun f (x) (declare (type integer)) x)" ∷ codes "(defun g (x) (declare (type integer x) (xargs :guard (< 0 x) :mode :logic) (ignorable x) (optimize speed)) (declare (xargs :guard (< x 10))) x)" ∷ codes "(g 5)" ∷ codes "(g 10)" ∷ codes "(g 'a)" ∷ codes "(defun h (x) (declare (xargs :stobjs x)) x)" ∷ codes "(defun h (x) (declare (xargs :stobjs nil)) x)" ∷ [])

abbrev pub declarations_written : List ℕ
declarations_written = lines (codes "Refused: BadDeclare F" ∷ codes "Refused: BadDeclare F" ∷ codes "Refused: BadDeclare F" ∷ codes "Refused: BadDeclare F" ∷ codes "Refused: BadDeclare F" ∷ codes "Refused: BadDeclare F" ∷ codes "Refused: BadDeclare F" ∷ codes "Refused: BadDeclare F" ∷ codes "Refused: BadDeclare F" ∷ codes "Refused: BadDeclare F" ∷ codes "Refused: BadDeclare F" ∷ codes "Refused: BadDeclare F" ∷ codes "Refused: BadDeclare G" ∷ codes "F" ∷ codes "G" ∷ codes "5" ∷ codes "Guard violation: (G 10)" ∷ codes "Guard violation: (G A)" ∷ codes "Refused: S10 at (0)" ∷ codes "H" ∷ codes "; 20 commands, 10 calls, 16 errors" ∷ [])

pub record Declarations : Type 0 where
  pub is_written : output ([]) declarations_input ≡ record { bytes = declarations_written; status = Errors }

-- function names
abbrev pub function_names_input : List ℕ
function_names_input = lines (codes "(defun 5 (x) x)" ∷ codes "(defun \"f\" (x) x)" ∷ codes "(defun car (x) x)" ∷ codes "(defun :f (x) x)" ∷ codes "(defun *f* (x) x)" ∷ codes "(defun nil (x) x)" ∷ codes "(defun (f) (x) x)" ∷ codes "(defun natp (x) x)" ∷ codes "(defun mbe (x) x)" ∷ codes "(defun mv-let (x) x)" ∷ codes "(defun defthm (x) x)" ∷ codes "(defun cw (x) x)" ∷ codes "(defun defstobj (x) x)" ∷ codes "(defun member-eq (x) x)" ∷ codes "(defun xargs (x) x)" ∷ codes "(xargs 3)" ∷ codes "(defun xargs (x) x)" ∷ codes "(mutual-recursion (defun f (x) x) (defun f (y) y))" ∷ codes "(mutual-recursion (defun natp (x) x) (defun 5 (y) y))" ∷ codes "(mutual-recursion (defun f (5) x) (defun natp (y) y))" ∷ [])

abbrev pub function_names_written : List ℕ
function_names_written = lines (codes "Refused: BadName 5" ∷ codes "Refused: BadName \"f\"" ∷ codes "Refused: BadName CAR" ∷ codes "Refused: BadName :F" ∷ codes "Refused: BadName *F*" ∷ codes "Refused: BadName NIL" ∷ codes "Refused: BadName (F)" ∷ codes "Refused: NameInUse NATP" ∷ codes "Refused: NameInUse MBE" ∷ codes "Refused: NameInUse MV-LET" ∷ codes "Refused: NameInUse DEFTHM" ∷ codes "Refused: NameInUse CW" ∷ codes "Refused: NameInUse DEFSTOBJ" ∷ codes "Refused: NameInUse MEMBER-EQ" ∷ codes "XARGS" ∷ codes "3" ∷ codes "Refused: NameInUse XARGS" ∷ codes "Refused: NameInUse F" ∷ codes "Refused: BadName 5" ∷ codes "Refused: NameInUse NATP" ∷ codes "; 20 commands, 1 calls, 18 errors" ∷ [])

pub record FunctionNames : Type 0 where
  pub is_written : output ([]) function_names_input ≡ record { bytes = function_names_written; status = Errors }

-- function shapes
abbrev pub function_shapes_input : List ℕ
function_shapes_input = lines (codes "(defun)" ∷ codes "(defun f)" ∷ codes "(defun f (x))" ∷ codes "(defun f x x)" ∷ codes "(defun f (x) 5 x)" ∷ codes "(defun f (x) (declare . 5) x)" ∷ codes "(defun f (x . y) x)" ∷ codes "(defun f (x) . x)" ∷ codes "(defund f (x))" ∷ codes "(defun-nx f)" ∷ codes "(mutual-recursion)" ∷ codes "(mutual-recursion (defun f (x) x) (defmacro g (x) x))" ∷ codes "(mutual-recursion (defun f (x) x) 5)" ∷ codes "(defun f (x) (declare (ignore x)))" ∷ codes "(defun f (x) \"text\")" ∷ codes "(f 1)" ∷ codes "(defund g (x) \"text\" (declare (ignore x)) \"more\" (declare) 7)" ∷ codes "(g 1)" ∷ [])

abbrev pub function_shapes_written : List ℕ
function_shapes_written = lines (codes "Refused: BadShape DEFUN" ∷ codes "Refused: BadShape DEFUN" ∷ codes "Refused: BadShape DEFUN" ∷ codes "Refused: BadShape DEFUN" ∷ codes "Refused: BadShape DEFUN" ∷ codes "Refused: BadShape DEFUN" ∷ codes "Refused: BadShape DEFUN" ∷ codes "Refused: BadShape DEFUN" ∷ codes "Refused: BadShape DEFUND" ∷ codes "Refused: BadShape DEFUN-NX" ∷ codes "Refused: BadShape MUTUAL-RECURSION" ∷ codes "Refused: BadShape MUTUAL-RECURSION" ∷ codes "Refused: BadShape MUTUAL-RECURSION" ∷ codes "Refused: UnknownFunction DECLARE" ∷ codes "F" ∷ codes "\"text\"" ∷ codes "G" ∷ codes "7" ∷ codes "; 18 commands, 2 calls, 14 errors" ∷ [])

pub record FunctionShapes : Type 0 where
  pub is_written : output ([]) function_shapes_input ≡ record { bytes = function_shapes_written; status = Errors }

-- heads
abbrev pub heads_input : List ℕ
heads_input = lines (codes "(:show)" ∷ codes "(:show nope)" ∷ codes "(:show . 5)" ∷ codes "(:show 5)" ∷ codes "(:cells 1)" ∷ codes "(:cells)" ∷ codes "(:foo)" ∷ codes "(:foo . 5)" ∷ codes "(defthm . 5)" ∷ codes "(local (defun f))" ∷ codes "(set-bogus-mutual-recursion-ok t)" ∷ codes "(logic)" ∷ codes "(progn)" ∷ codes "(include-book . \"x\")" ∷ codes "(cw \"x\")" ∷ codes "(er)" ∷ codes "(car (cw \"x\"))" ∷ codes "(if (defun f (x) x) 1 2)" ∷ codes "(xargs 5)" ∷ [])

abbrev pub heads_written : List ℕ
heads_written = lines (codes "Refused: BadShape :SHOW" ∷ codes "Refused: BadShape :SHOW" ∷ codes "Refused: BadShape :SHOW" ∷ codes "Refused: BadShape :SHOW" ∷ codes "Refused: BadShape :CELLS" ∷ codes "0" ∷ codes "Refused: NotSupported :FOO" ∷ codes "Refused: NotSupported :FOO" ∷ codes "Skipped" ∷ codes "Skipped" ∷ codes "Skipped" ∷ codes "Skipped" ∷ codes "Refused: NotSupported PROGN" ∷ codes "Refused: NotSupported INCLUDE-BOOK" ∷ codes "Refused: NotSupported CW" ∷ codes "Refused: NotSupported ER" ∷ codes "Refused: UnknownFunction CW" ∷ codes "Refused: UnknownFunction DEFUN" ∷ codes "Refused: UnknownFunction XARGS" ∷ codes "; 19 commands, 0 calls, 14 errors" ∷ [])

pub record Heads : Type 0 where
  pub is_written : output ([]) heads_input ≡ record { bytes = heads_written; status = Errors }

-- improper events
abbrev pub improper_events_input : List ℕ
improper_events_input = lines (codes "(mutual-recursion (defun f (x) x) . 5)" ∷ codes "(mutual-recursion . 5)" ∷ codes "(defun . 5)" ∷ codes "(defconst . 5)" ∷ codes "(defpkg . 5)" ∷ codes "(in-package . \"ACL2\")" ∷ codes "(in-package \"ACL2\" \"x\")" ∷ codes "(defpkg \"P\" nil \"a\" \"b\")" ∷ codes "(defconst *a* 1 'x)" ∷ codes "(defmacro . 5)" ∷ codes "(defmacro m (x . y) x)" ∷ codes "(defmacro m (&optional (x . 5)) x)" ∷ codes "(defmacro m (x) (declare (type (satisfies nope) x)) x)" ∷ codes "(defun f (x) (declare (type integer x) . 5) x)" ∷ codes "(defun f (&optional x) x)" ∷ codes "(defmacro m2 (&key x &allow-other-keys) x)" ∷ codes "(defstobj st (a))" ∷ codes "(car (st 1))" ∷ codes "(car (:foo))" ∷ codes "(defconst *c* 5)" ∷ codes "(*c* 1)" ∷ codes "(defpkg \"P\" (st))" ∷ codes "(defpkg \"P\" (list (a st)))" ∷ codes "(defpkg \"P\" '(a . b))" ∷ codes "(defpkg \"ACL2\" '(a 5))" ∷ codes "(defpkg \"ACL2\" '(a :a))" ∷ codes "(in-package \"KEYWORD\")" ∷ codes "foo" ∷ codes "(car 5)" ∷ codes "(acl2::car 5)" ∷ codes "(acl2::defun f (x) x)" ∷ codes "(acl2::defconst *a* 1)" ∷ codes "(show st)" ∷ codes "(show acl2::st)" ∷ codes "(cells)" ∷ codes "(5)" ∷ codes "(acl2::defabsstobj)" ∷ codes "(acl2::let ((x 1)) x)" ∷ codes "(acl2::update-a 'x acl2::st)" ∷ codes "acl2::st" ∷ [])

abbrev pub improper_events_written : List ℕ
improper_events_written = lines (codes "Refused: BadShape MUTUAL-RECURSION" ∷ codes "Refused: BadShape MUTUAL-RECURSION" ∷ codes "Refused: BadShape DEFUN" ∷ codes "Refused: BadShape DEFCONST" ∷ codes "Refused: BadShape DEFPKG" ∷ codes "Refused: BadShape IN-PACKAGE" ∷ codes "Refused: BadShape IN-PACKAGE" ∷ codes "Refused: BadShape DEFPKG" ∷ codes "Refused: BadShape DEFCONST" ∷ codes "Refused: BadShape DEFMACRO" ∷ codes "Refused: BadShape DEFMACRO" ∷ codes "Refused: BadShape DEFMACRO" ∷ codes "M" ∷ codes "Refused: BadShape DEFUN" ∷ codes "Refused: BadName &OPTIONAL" ∷ codes "Refused: BadName &ALLOW-OTHER-KEYS" ∷ codes "ST" ∷ codes "Refused: UnknownFunction ST" ∷ codes "Refused: UnknownFunction :FOO" ∷ codes "*C*" ∷ codes "Refused: UnknownFunction *C*" ∷ codes "Refused: UnknownFunction ST" ∷ codes "Refused: S1 at (0 0)" ∷ codes "Refused: BadShape DEFPKG" ∷ codes "Refused: BadShape DEFPKG" ∷ codes "Refused: PackageExists \"ACL2\"" ∷ codes "\"KEYWORD\"" ∷ codes ":FOO" ∷ codes "Refused: NotSupported :CAR" ∷ codes "Guard violation: (COMMON-LISP::CAR 5)" ∷ codes "Refused: BadName :F" ∷ codes ":*A*" ∷ codes "Refused: BadShape :SHOW" ∷ codes "(COMMON-LISP::NIL)" ∷ codes "0" ∷ codes "Refused: BadShape COMMON-LISP::NIL" ∷ codes "Refused: BadShape ACL2::DEFABSSTOBJ" ∷ codes "Refused: BadShape COMMON-LISP::LET" ∷ codes "<st>" ∷ codes "<st>" ∷ codes "; 40 commands, 3 calls, 30 errors" ∷ [])

pub record ImproperEvents : Type 0 where
  pub is_written : output ([]) improper_events_input ≡ record { bytes = improper_events_written; status = Errors }

-- keys in order
abbrev pub keys_in_order_input : List ℕ
keys_in_order_input = lines (codes "(defstobj st (h :type (hash-table equal)))" ∷ codes "(h-put 'b 1 st)" ∷ codes "(h-put 'a 2 st)" ∷ codes "(h-put 'b 3 st)" ∷ codes "(h-put 5 4 st)" ∷ codes "(h-put \"s\" 5 st)" ∷ codes "(h-put '(1) 6 st)" ∷ codes "(h-put -5 7 st)" ∷ codes "(:show st)" ∷ codes "(h-count st)" ∷ codes "(:cells)" ∷ codes "(h-rem 'b st)" ∷ codes "(h-get 'b st)" ∷ codes "(h-boundp 'b st)" ∷ codes "(h-count st)" ∷ codes "(intern-in-package-of-symbol \"New\" 'st)" ∷ [])

abbrev pub keys_in_order_written : List ℕ
keys_in_order_written = lines (codes "ST" ∷ codes "<st>" ∷ codes "<st>" ∷ codes "<st>" ∷ codes "<st>" ∷ codes "<st>" ∷ codes "<st>" ∷ codes "<st>" ∷ codes "(((-5 . 7) (5 . 4) (A . 2) (B . 3) (\"s\" . 5) ((1) . 6)))" ∷ codes "6" ∷ codes "3" ∷ codes "<st>" ∷ codes "NIL" ∷ codes "NIL" ∷ codes "5" ∷ codes "|New|" ∷ codes "; 16 commands, 13 calls, 0 errors" ∷ [])

pub record KeysInOrder : Type 0 where
  pub is_written : output ([]) keys_in_order_input ≡ record { bytes = keys_in_order_written; status = Done }

-- packages
abbrev pub packages_input : List ℕ
packages_input = lines (codes "(defpkg \"P\" 5)" ∷ codes "(defpkg p nil)" ∷ codes "(defpkg \"P\")" ∷ codes "(defpkg \"P\" '(a 5))" ∷ codes "(defpkg \"P\" (car 5))" ∷ codes "(defpkg \"P\" (list x))" ∷ codes "(defpkg \"ACL2\" nil)" ∷ codes "(defpkg \"%\" nil)" ∷ codes "(defpkg \"P\" '(a :a))" ∷ codes "(defpkg \"P\" '(b a b :a))" ∷ codes "(defpkg \"P\" '(a b) \"text\")" ∷ codes "(in-package \"Q\")" ∷ codes "(in-package \"%\")" ∷ codes "(in-package p)" ∷ codes "(in-package)" ∷ codes "(in-package \"P\")" ∷ codes "'(a c)" ∷ codes "(quote a)" ∷ codes "nil" ∷ codes "'nil" ∷ codes "'acl2::nil" ∷ codes "(acl2::if acl2::nil 1 'acl2::car)" ∷ codes "(5)" ∷ codes "(acl2::and . 5)" ∷ codes "(acl2::defun f (x) (acl2::cons x 'y))" ∷ codes "(f 1)" ∷ codes "(defun g (x) x)" ∷ codes "(acl2::mv (f a) 1)" ∷ codes "(acl2::in-package \"ACL2\")" ∷ codes "(p::f 'p::a)" ∷ [])

abbrev pub packages_written : List ℕ
packages_written = lines (codes "Refused: BadShape DEFPKG" ∷ codes "Refused: BadShape DEFPKG" ∷ codes "Refused: BadShape DEFPKG" ∷ codes "Refused: BadShape DEFPKG" ∷ codes "Guard violation: (CAR 5)" ∷ codes "Refused: S11 at (0)" ∷ codes "Refused: PackageExists \"ACL2\"" ∷ codes "Refused: PackageExists \"%\"" ∷ codes "Refused: ImportClash A :A" ∷ codes "Refused: ImportClash A :A" ∷ codes "\"P\"" ∷ codes "Refused: UnknownPackage \"Q\"" ∷ codes "Refused: UnknownPackage \"%\"" ∷ codes "Refused: BadShape IN-PACKAGE" ∷ codes "Refused: BadShape IN-PACKAGE" ∷ codes "\"P\"" ∷ codes "(A C)" ∷ codes "Refused: UnknownFunction QUOTE" ∷ codes "Refused: S11 at ()" ∷ codes "NIL" ∷ codes "COMMON-LISP::NIL" ∷ codes "COMMON-LISP::CAR" ∷ codes "Refused: BadShape COMMON-LISP::NIL" ∷ codes "Refused: BadShape COMMON-LISP::AND" ∷ codes "F" ∷ codes "(1 . Y)" ∷ codes "Refused: UnknownFunction DEFUN" ∷ codes "Refused: S11 at (0 0)" ∷ codes "\"ACL2\"" ∷ codes "(A . P::Y)" ∷ codes "; 30 commands, 7 calls, 20 errors" ∷ [])

pub record Packages : Type 0 where
  pub is_written : output ([]) packages_input ≡ record { bytes = packages_written; status = Errors }

-- steps in events
abbrev pub steps_in_events_input : List ℕ
steps_in_events_input = lines (codes "(defconst *a* (cons (cons 1 2) (cons 3 4)))" ∷ codes "(defconst *a* (list 1 2 3))" ∷ codes "(defpkg \"P\" (list 'a 'b))" ∷ codes "(and (and (and 1 2) 3) 4)" ∷ codes "(defun f (x) (list (list (list x))))" ∷ codes "(defun g (x) (declare (xargs :guard (and x x))) (list (list x)))" ∷ codes "(defmacro m (x) (list 'quote x))" ∷ codes "(m 1)" ∷ codes "(and (and (1+ 1 2) 3) 4)" ∷ codes "(1+ 1 2)" ∷ [])

abbrev pub steps_in_events_written : List ℕ
steps_in_events_written = lines (codes "Step limit" ∷ codes "Step limit" ∷ codes "Step limit" ∷ codes "Refused: MacroStopped: Step limit" ∷ codes "Refused: MacroStopped: Step limit" ∷ codes "Refused: MacroStopped: Step limit" ∷ codes "M" ∷ codes "Refused: MacroStopped: Step limit" ∷ codes "Refused: MacroStopped: Step limit" ∷ codes "Refused: BadShape 1+" ∷ codes "; 10 commands, 18 calls, 9 errors" ∷ [])

pub record StepsInEvents : Type 0 where
  pub is_written : output (codes "--steps" ∷ codes "2" ∷ []) steps_in_events_input ≡ record { bytes = steps_in_events_written; status = Errors }

-- thread rules
abbrev pub thread_rules_input : List ℕ
thread_rules_input = lines (codes "(defstobj st (pc :type integer :initially 0))" ∷ codes "(defstobj st2 (pc2 :type integer :initially 0) :congruent-to st)" ∷ codes "(defstobj other (o))" ∷ codes "(pc other)" ∷ codes "(update-pc 1 (update-pc 2 st))" ∷ codes "(pc 5)" ∷ codes "(defun both (st st2) (declare (xargs :stobjs (st st2))) (mv (pc st) (pc2 st2)))" ∷ codes "(both st st)" ∷ codes "(both x x)" ∷ codes "(cons st 1)" ∷ codes "(if st 1 2)" ∷ codes "(let ((st (update-pc 1 st)) (x 1)) st)" ∷ codes "(let ((st (pc st))) st)" ∷ codes "(let ((st (update-pc 1 st2))) st)" ∷ codes "(let ((st (update-pc 1 st))) 5)" ∷ codes "(mv-let (x st) (mv 1 st) x)" ∷ codes "(if 1 st 2)" ∷ codes "(must-be-equal st 1)" ∷ codes "(cons (both st st2) 1)" ∷ codes "(let ((x (update-pc 1 st))) x)" ∷ codes "(mv st st)" ∷ codes "(cons (mv 1 2) 3)" ∷ codes "(mv-let (x y) (pc st) x)" ∷ codes "(mv st2 st)" ∷ codes "(defun g (st) st)" ∷ codes "(defun g (x) (declare (xargs :stobjs st)) x)" ∷ codes "(mutual-recursion (defun g1 (x) (g2 x)) (defun g2 (st) 1))" ∷ codes "(cons y 1)" ∷ codes "(defun g (x) (declare (xargs :guard y)) x)" ∷ codes "(defun g (x) y)" ∷ codes "(defun g () st)" ∷ codes "(mutual-recursion (defun g1 (x) (g2 x)) (defun g2 (x) (cons x y)))" ∷ codes "(create-st)" ∷ codes "(defmacro m (st) 1)" ∷ codes "(defmacro m (x) st)" ∷ codes "(defconst *c* st)" ∷ codes "(defmacro m (x) (pc st))" ∷ codes "(defun-nx nx (x) (mv x st))" ∷ codes "(defun-nx nx (x) (nth 0 x))" ∷ codes "(nx 5)" ∷ codes "(defun g (x) (cons (nx x) 1))" ∷ codes "(defun-nx ny (x) (with-local-stobj st (mv-let (y st) (mv 1 st) y)))" ∷ [])

abbrev pub thread_rules_written : List ℕ
thread_rules_written = lines (codes "ST" ∷ codes "ST2" ∷ codes "OTHER" ∷ codes "Refused: S1 at (0)" ∷ codes "Refused: S1 at (1)" ∷ codes "Refused: S1 at (0)" ∷ codes "BOTH" ∷ codes "Refused: S2 at ()" ∷ codes "Refused: S2 at ()" ∷ codes "Refused: S3 at (0)" ∷ codes "Refused: S3 at (0)" ∷ codes "Refused: S4 at ()" ∷ codes "Refused: S5 at ()" ∷ codes "Refused: S5 at ()" ∷ codes "Refused: S6 at ()" ∷ codes "Refused: S6 at ()" ∷ codes "Refused: S7 at ()" ∷ codes "Refused: S7 at ()" ∷ codes "Refused: S8 at (0)" ∷ codes "Refused: S8 at (0)" ∷ codes "Refused: S9 at ()" ∷ codes "Refused: S9 at (0)" ∷ codes "Refused: S9 at ()" ∷ codes "(<st2> <st>)" ∷ codes "Refused: S10 at (0)" ∷ codes "Refused: S10 at (0)" ∷ codes "Refused: S10 at (1)" ∷ codes "Refused: S11 at (0)" ∷ codes "Refused: S11 at (0 0)" ∷ codes "Refused: S11 at (0 1)" ∷ codes "Refused: S11 at (0 1)" ∷ codes "Refused: S11 at (1 1 1)" ∷ codes "Refused: S12 at ()" ∷ codes "Refused: S15 at (0)" ∷ codes "Refused: S15 at (0 1)" ∷ codes "Refused: S15 at ()" ∷ codes "Refused: S1 at (0 1 0)" ∷ codes "Refused: S11 at (0 1 1)" ∷ codes "NX" ∷ codes "Refused: S16 at ()" ∷ codes "Refused: S16 at (0 1 0)" ∷ codes "Refused: S16 at (0 1)" ∷ codes "; 42 commands, 0 calls, 36 errors" ∷ [])

pub record ThreadRules : Type 0 where
  pub is_written : output ([]) thread_rules_input ≡ record { bytes = thread_rules_written; status = Errors }
