-- Whole books: the program's words, an input, what is written, and the status. Written by tools/rows.py.
use Rattle.std.specs.Prelude.{◌≡◌, ℕ, List, [], ◌∷◌, ◌++◌, codes}
use Rattle.acl_base.specs.declared.status.Status.TheVariants.{Done, Errors}
use Rattle.model_books.specs.Output.{output, lines}

-- arithmetic macros
abbrev pub arithmetic_macros_input : List ℕ
arithmetic_macros_input = lines (codes "(+)" ∷ codes "(+ 5)" ∷ codes "(+ 1 2 3)" ∷ codes "(*)" ∷ codes "(* 2 3 4)" ∷ codes "(- 5)" ∷ codes "(- 5 3)" ∷ codes "(-)" ∷ codes "(- 1 2 3)" ∷ codes "(1+ 5)" ∷ codes "(1- 5)" ∷ codes "(1+ 1 2)" ∷ codes "(> 1 2)" ∷ codes "(<= 1 2)" ∷ codes "(>= 2 3)" ∷ codes "(> 1)" ∷ codes "(logand)" ∷ codes "(logior)" ∷ codes "(logxor 5 1)" ∷ codes "(logand 12 10 9)" ∷ [])

abbrev pub arithmetic_macros_written : List ℕ
arithmetic_macros_written = lines (codes "0" ∷ codes "5" ∷ codes "6" ∷ codes "1" ∷ codes "24" ∷ codes "-5" ∷ codes "2" ∷ codes "Refused: BadShape -" ∷ codes "Refused: BadShape -" ∷ codes "6" ∷ codes "4" ∷ codes "Refused: BadShape 1+" ∷ codes "NIL" ∷ codes "T" ∷ codes "NIL" ∷ codes "Refused: BadShape >" ∷ codes "-1" ∷ codes "0" ∷ codes "4" ∷ codes "8" ∷ codes "; 20 commands, 37 calls, 4 errors" ∷ [])

pub record ArithmeticMacros : Type 0 where
  pub is_written : output ([]) arithmetic_macros_input ≡ record { bytes = arithmetic_macros_written; status = Errors }

-- bare package
abbrev pub bare_package_input : List ℕ
bare_package_input = lines (codes "(defpkg \"B\" nil)" ∷ codes "(in-package \"B\")" ∷ codes "(acl2::defstobj c (v :type acl2::integer :initially 0))" ∷ codes "(acl2::defun lap (x) (acl2::equal x x))" ∷ codes "(acl2::defun mk () 'nil)" ∷ codes "(acl2::defun l2 (n x) (acl2::declare (acl2::xargs :guard (acl2::and (acl2::integerp n) (lap x)))) (acl2::cons n x))" ∷ codes "(acl2::defabsstobj s :foundation c :recognizer (sp :logic lap) :creator (create-s :logic mk) :corr-fn acl2::equal :exports ((up :logic l2 :exec update-v)))" ∷ codes "(up 'a s)" ∷ codes "(sp s)" ∷ codes "(:show s)" ∷ codes "(acl2::defthm . 5)" ∷ codes "(acl2::progn)" ∷ codes "(acl2::defun f (x) (foo))" ∷ codes "(acl2::mutual-recursion)" ∷ [])

abbrev pub bare_package_written : List ℕ
bare_package_written = lines (codes "\"B\"" ∷ codes "\"B\"" ∷ codes "C" ∷ codes "LAP" ∷ codes "MK" ∷ codes "L2" ∷ codes "S" ∷ codes "CREATE-S{CORRESPONDENCE}: (COMMON-LISP::EQUAL (CREATE-C) (MK))" ∷ codes "CREATE-S{PRESERVED}: (LAP (MK))" ∷ codes "UP{CORRESPONDENCE}: (ACL2::IMPLIES (COMMON-LISP::AND (COMMON-LISP::EQUAL C S) (COMMON-LISP::IF (COMMON-LISP::INTEGERP N) (LAP S) (COMMON-LISP::QUOTE COMMON-LISP::NIL))) (COMMON-LISP::EQUAL (UPDATE-V N C) (L2 N S)))" ∷ codes "UP{GUARD-THM}: (ACL2::IMPLIES (COMMON-LISP::AND (COMMON-LISP::EQUAL C S) (COMMON-LISP::IF (COMMON-LISP::INTEGERP N) (LAP S) (COMMON-LISP::QUOTE COMMON-LISP::NIL))) (COMMON-LISP::INTEGERP N))" ∷ codes "UP{PRESERVED}: (ACL2::IMPLIES (COMMON-LISP::AND (LAP S) (COMMON-LISP::IF (COMMON-LISP::INTEGERP N) (LAP S) (COMMON-LISP::QUOTE COMMON-LISP::NIL))) (LAP (L2 N S)))" ∷ codes "Guard violation: (UP A <s>)" ∷ codes "COMMON-LISP::T" ∷ codes "(0)" ∷ codes "Skipped" ∷ codes "Refused: NotSupported COMMON-LISP::PROGN" ∷ codes "Refused: UnknownFunction FOO" ∷ codes "Refused: BadShape ACL2::MUTUAL-RECURSION" ∷ codes "; 14 commands, 4 calls, 4 errors" ∷ [])

pub record BarePackage : Type 0 where
  pub is_written : output ([]) bare_package_input ≡ record { bytes = bare_package_written; status = Errors }

-- binding forms
abbrev pub binding_forms_input : List ℕ
binding_forms_input = lines (codes "(let ((x 1) (y 2)) (cons y x))" ∷ codes "(let () 5)" ∷ codes "(let ((x 1)) (declare (ignore x)) (declare . 5) 7)" ∷ codes "(let ((x 1)) (declare))" ∷ codes "(let ((x 1) (x 2)) x)" ∷ codes "(let ((5 1)) 1)" ∷ codes "(let ((x)) 1)" ∷ codes "(let ((nil 1)) 1)" ∷ codes "(let ((:k 1)) 1)" ∷ codes "(let ((*x* 1)) 1)" ∷ codes "(let ((&x 1)) 1)" ∷ codes "(let x 1)" ∷ codes "(let ((x 1)))" ∷ codes "(let ((x 1)) 2 3)" ∷ codes "(let* ((x 1) (x (cons x x))) x)" ∷ codes "(let* () 5)" ∷ codes "(let* ((x 1)) 2 3)" ∷ codes "(let* ((x 1) . 5) 2)" ∷ codes "(mv-let (a b) (mv 1 2) (cons a b))" ∷ codes "(mv 1 2)" ∷ codes "(mv 1)" ∷ codes "(mv-let (a) (mv 1 2) a)" ∷ codes "(mv-let (a a) (mv 1 2) a)" ∷ codes "(mv-let (a b) 5 a)" ∷ codes "(let ((x 1)) (let ((y x) (x 2)) (cons x y)))" ∷ [])

abbrev pub binding_forms_written : List ℕ
binding_forms_written = lines (codes "(2 . 1)" ∷ codes "5" ∷ codes "7" ∷ codes "Refused: UnknownFunction DECLARE" ∷ codes "Refused: BadShape LET" ∷ codes "Refused: BadShape LET" ∷ codes "Refused: BadShape LET" ∷ codes "Refused: BadShape LET" ∷ codes "Refused: BadShape LET" ∷ codes "Refused: BadShape LET" ∷ codes "Refused: BadShape LET" ∷ codes "Refused: BadShape LET" ∷ codes "Refused: BadShape LET" ∷ codes "Refused: BadShape LET" ∷ codes "(1 . 1)" ∷ codes "5" ∷ codes "Refused: BadShape LET*" ∷ codes "Refused: BadShape LET*" ∷ codes "(1 . 2)" ∷ codes "(1 2)" ∷ codes "Refused: BadShape MV" ∷ codes "Refused: BadShape MV-LET" ∷ codes "Refused: BadShape MV-LET" ∷ codes "Refused: S9 at ()" ∷ codes "(2 . 1)" ∷ codes "; 25 commands, 8 calls, 17 errors" ∷ [])

pub record BindingForms : Type 0 where
  pub is_written : output ([]) binding_forms_input ≡ record { bytes = binding_forms_written; status = Errors }

-- core shapes
abbrev pub core_shapes_input : List ℕ
core_shapes_input = lines (codes "5" ∷ codes "\"a\"" ∷ codes "t" ∷ codes ":k" ∷ codes "x" ∷ codes "(if nil 1 2)" ∷ codes "(if 1 2)" ∷ codes "(quote)" ∷ codes "(quote 1 2)" ∷ codes "(must-be-equal 1 2)" ∷ codes "(must-be-equal 1)" ∷ codes "(stobj-let () (v) 1 2)" ∷ codes "(stobj-let ((k (f p) 5)) (v) 1 2)" ∷ codes "(with-local-stobj st 5)" ∷ codes "(with-local-stobj st (mv-let (x) 1 2))" ∷ codes "(foo)" ∷ codes "(foo . 1)" ∷ codes "(cons . 1)" ∷ codes "(cons 1)" ∷ codes "((a) 1)" ∷ codes "(5)" ∷ codes "(\"a\" 1)" ∷ codes "(nil)" ∷ [])

abbrev pub core_shapes_written : List ℕ
core_shapes_written = lines (codes "5" ∷ codes "\"a\"" ∷ codes "T" ∷ codes ":K" ∷ codes "Refused: S11 at ()" ∷ codes "2" ∷ codes "Refused: BadShape IF" ∷ codes "Refused: BadShape QUOTE" ∷ codes "Refused: BadShape QUOTE" ∷ codes "1" ∷ codes "Refused: BadShape MUST-BE-EQUAL" ∷ codes "Refused: BadShape STOBJ-LET" ∷ codes "Refused: BadShape STOBJ-LET" ∷ codes "Refused: BadShape WITH-LOCAL-STOBJ" ∷ codes "Refused: BadShape WITH-LOCAL-STOBJ" ∷ codes "Refused: UnknownFunction FOO" ∷ codes "Refused: UnknownFunction FOO" ∷ codes "Refused: BadShape CONS" ∷ codes "Refused: Arity CONS" ∷ codes "Refused: BadShape NIL" ∷ codes "Refused: BadShape NIL" ∷ codes "Refused: BadShape NIL" ∷ codes "Refused: UnknownFunction NIL" ∷ codes "; 23 commands, 0 calls, 17 errors" ∷ [])

pub record CoreShapes : Type 0 where
  pub is_written : output ([]) core_shapes_input ≡ record { bytes = core_shapes_written; status = Errors }

-- declared types
abbrev pub declared_types_input : List ℕ
declared_types_input = lines (codes "(defun h (x y) (declare (type (or integer (satisfies symbolp)) x y)) 1)" ∷ codes "(h 1 'a)" ∷ codes "(h \"s\" 1)" ∷ codes "(defun k (x) (declare (type (satisfies nope) x)) x)" ∷ codes "(defun k (x) (declare (type (satisfies cons) x)) x)" ∷ codes "(defun k (x) (declare (type (satisfies and) x)) x)" ∷ codes "(defun k (x) (declare (type (satisfies if) x)) x)" ∷ codes "(defun k (x) (declare (type (satisfies 5) x)) x)" ∷ codes "(defun k (x) (declare (type (satisfies natp posp) x)) x)" ∷ codes "(defun k (x) (declare (type t x)) x)" ∷ codes "(k 'a)" ∷ codes "(defun l (x) (declare (type (not (satisfies k)) x)) x)" ∷ codes "(l nil)" ∷ codes "(l 1)" ∷ codes "(defun m (x) (declare (type (and) x)) x)" ∷ codes "(m 1)" ∷ codes "(defun n (x) (declare (type (or) x)) x)" ∷ codes "(n 1)" ∷ [])

abbrev pub declared_types_written : List ℕ
declared_types_written = lines (codes "H" ∷ codes "1" ∷ codes "Guard violation: (H \"s\" 1)" ∷ codes "Refused: UnknownFunction NOPE" ∷ codes "Refused: Arity CONS" ∷ codes "Refused: UnknownFunction AND" ∷ codes "Refused: UnknownFunction IF" ∷ codes "Refused: BadDeclare K" ∷ codes "Refused: BadDeclare K" ∷ codes "K" ∷ codes "A" ∷ codes "L" ∷ codes "NIL" ∷ codes "Guard violation: (L 1)" ∷ codes "M" ∷ codes "1" ∷ codes "N" ∷ codes "Guard violation: (N 1)" ∷ codes "; 18 commands, 16 calls, 9 errors" ∷ [])

pub record DeclaredTypes : Type 0 where
  pub is_written : output ([]) declared_types_input ≡ record { bytes = declared_types_written; status = Errors }

-- deep refused
abbrev pub deep_refused_input : List ℕ
deep_refused_input = lines (codes "(the (or null null null null null null null null null null null null null null null null null null null null null null null null null null null null null null null null null null null null null null null null null null null null null null null null null null null null null null null null null null null null null null null null null null null null null null null null null null null null null null null null null null null null null null null null null null null null null null null null null null null null null null null null null null null null null null null null null null null null null null null null null null null null null null null null null null null null null null null null null null null null null null null null null null null null null null null null null null null null null null null null null null null null null null null null null null null null null null null null null null null null null null null null null null null null null null null null null null null null null null null null) nil)" ∷ [])

abbrev pub deep_refused_written : List ℕ
deep_refused_written = lines (codes "Refused: BadShape THE" ∷ codes "; 1 commands, 1 calls, 1 errors" ∷ [])

pub record DeepRefused : Type 0 where
  pub is_written : output ([]) deep_refused_input ≡ record { bytes = deep_refused_written; status = Errors }

-- deep taken
abbrev pub deep_taken_input : List ℕ
deep_taken_input = lines (codes "(the (or null null null null null null null null null null null null null null null null null null null null null null null null null null null null null null null null null null null null null null null null null null null null null null null null null null null null null null null null null null null null null null null null null null null null null null null null null null null null null null null null null null null null null null null null null null null null null null null null null null null null null null null null null null null null null null null null null null null null null null null null null null null null null null null null null null null null null null null null null null null null null null null null null null null null null null null null null null null null null null null null null null null null null null null null null null null null null null null null null null null null null null null null null null null null null null null null null null null null null null null) nil)" ∷ [])

abbrev pub deep_taken_written : List ℕ
deep_taken_written = lines (codes "NIL" ∷ codes "; 1 commands, 3 calls, 0 errors" ∷ [])

pub record DeepTaken : Type 0 where
  pub is_written : output ([]) deep_taken_input ≡ record { bytes = deep_taken_written; status = Done }

-- formals
abbrev pub formals_input : List ℕ
formals_input = lines (codes "(defun f (x 5) x)" ∷ codes "(defun f (nil) 1)" ∷ codes "(defun f (t) 1)" ∷ codes "(defun f (:x) 1)" ∷ codes "(defun f (&rest) 1)" ∷ codes "(defun f (*x*) 1)" ∷ codes "(defun f (**) 1)" ∷ codes "(f 2)" ∷ codes "(defun g (x y x) 1)" ∷ codes "(defun g (x y y x) 1)" ∷ codes "(defun g (x x 5) 1)" ∷ codes "(mutual-recursion (defun g (x x) 1) (defun h (5) 1))" ∷ codes "(defun g (x x) (declare 5) 1)" ∷ [])

abbrev pub formals_written : List ℕ
formals_written = lines (codes "Refused: BadName 5" ∷ codes "Refused: BadName NIL" ∷ codes "Refused: BadName T" ∷ codes "Refused: BadName :X" ∷ codes "Refused: BadName &REST" ∷ codes "Refused: BadName *X*" ∷ codes "F" ∷ codes "1" ∷ codes "Refused: DuplicateFormal X" ∷ codes "Refused: DuplicateFormal Y" ∷ codes "Refused: BadName 5" ∷ codes "Refused: DuplicateFormal X" ∷ codes "Refused: DuplicateFormal X" ∷ codes "; 13 commands, 1 calls, 11 errors" ∷ [])

pub record Formals : Type 0 where
  pub is_written : output ([]) formals_input ≡ record { bytes = formals_written; status = Errors }

-- limits
abbrev pub limits_input : List ℕ
limits_input = lines (codes "(car (cdr '(1 2)))" ∷ codes "(car (cdr (cdr '(1 2 3))))" ∷ codes "(car (cdr (cdr (cdr '(1 2 3 4)))))" ∷ codes "(cons 1 (car (cdr (cdr '(1 2 3)))))" ∷ codes "(if (car '(nil)) 1 (cons 1 2))" ∷ codes "(defun f (x) (cons x x))" ∷ codes "(cons 1 (f 2))" ∷ codes "(cons 1 (cons 1 (f 2)))" ∷ codes "(defmacro m (x) (car (cdr (cdr x))))" ∷ codes "(list 1 (m (1 2 3)))" ∷ [])

abbrev pub limits_written : List ℕ
limits_written = lines (codes "2" ∷ codes "3" ∷ codes "Nesting limit" ∷ codes "Nesting limit" ∷ codes "(1 . 2)" ∷ codes "F" ∷ codes "(1 2 . 2)" ∷ codes "Nesting limit" ∷ codes "M" ∷ codes "(1 3)" ∷ codes "; 10 commands, 18 calls, 3 errors" ∷ [])

pub record Limits : Type 0 where
  pub is_written : output (codes "--depth" ∷ codes "3" ∷ codes "--pure" ∷ []) limits_input ≡ record { bytes = limits_written; status = Errors }

-- list macros
abbrev pub list_macros_input : List ℕ
list_macros_input = lines (codes "(list)" ∷ codes "(list 1 2)" ∷ codes "(list* 1 2)" ∷ codes "(list* 1)" ∷ codes "(list*)" ∷ codes "(append)" ∷ codes "(append '(1))" ∷ codes "(append '(1) '(2) 3)" ∷ codes "(member 2 '(1 2 3))" ∷ codes "(member-eq 'b '(a b))" ∷ codes "(member 1)" ∷ codes "(assoc 'a '((a . 1)))" ∷ codes "(assoc-eq 'a '((b . 1)))" ∷ codes "(union-eq '(a) '(a b))" ∷ codes "(caddr '(1 2 3))" ∷ codes "(cadar '((1 2)))" ∷ codes "(cddddr '(1 2 3 4 5))" ∷ codes "(cdaar '((1 2)))" ∷ codes "(first '(1))" ∷ codes "(fifth '(1 2 3 4 5))" ∷ codes "(rest '(1 2))" ∷ codes "(cadr)" ∷ [])

abbrev pub list_macros_written : List ℕ
list_macros_written = lines (codes "NIL" ∷ codes "(1 2)" ∷ codes "(1 . 2)" ∷ codes "1" ∷ codes "Refused: BadShape LIST*" ∷ codes "NIL" ∷ codes "(1)" ∷ codes "(1 2 . 3)" ∷ codes "(2 3)" ∷ codes "(B)" ∷ codes "Refused: BadShape MEMBER" ∷ codes "(A . 1)" ∷ codes "NIL" ∷ codes "(A B)" ∷ codes "3" ∷ codes "2" ∷ codes "(5)" ∷ codes "Guard violation: (CDR 1)" ∷ codes "1" ∷ codes "5" ∷ codes "(2)" ∷ codes "Refused: BadShape CADR" ∷ codes "; 22 commands, 52 calls, 4 errors" ∷ [])

pub record ListMacros : Type 0 where
  pub is_written : output ([]) list_macros_input ≡ record { bytes = list_macros_written; status = Errors }

-- logical macros
abbrev pub logical_macros_input : List ℕ
logical_macros_input = lines (codes "(and)" ∷ codes "(and 1)" ∷ codes "(and 1 nil 2)" ∷ codes "(and . 1)" ∷ codes "(or)" ∷ codes "(or nil 2)" ∷ codes "(or . 1)" ∷ codes "(cond)" ∷ codes "(cond (nil 1) (t 2))" ∷ codes "(cond (5))" ∷ codes "(cond (nil) (6))" ∷ codes "(cond (t))" ∷ codes "(cond (nil 1))" ∷ codes "(cond (t 1) (nil 2))" ∷ codes "(cond 5)" ∷ codes "(cond ())" ∷ codes "(cond (1 2 3))" ∷ codes "(case 1 (1 'a) (otherwise 'b))" ∷ codes "(case 2 (1 'a) (otherwise 'b))" ∷ codes "(case 'x ((x y) 1))" ∷ codes "(case nil (nil 'a))" ∷ codes "(case 5 (1 'a))" ∷ codes "(case 1)" ∷ codes "(case)" ∷ codes "(case 1 (t 2) (1 3))" ∷ codes "(case 1 (1))" ∷ codes "(case 1 (t 2))" ∷ [])

abbrev pub logical_macros_written : List ℕ
logical_macros_written = lines (codes "T" ∷ codes "1" ∷ codes "NIL" ∷ codes "Refused: BadShape AND" ∷ codes "NIL" ∷ codes "2" ∷ codes "Refused: BadShape OR" ∷ codes "NIL" ∷ codes "2" ∷ codes "5" ∷ codes "6" ∷ codes "T" ∷ codes "NIL" ∷ codes "Refused: BadShape COND" ∷ codes "Refused: BadShape COND" ∷ codes "Refused: BadShape COND" ∷ codes "Refused: BadShape COND" ∷ codes "A" ∷ codes "B" ∷ codes "1" ∷ codes "A" ∷ codes "NIL" ∷ codes "NIL" ∷ codes "Refused: BadShape CASE" ∷ codes "Refused: BadShape CASE" ∷ codes "Refused: BadShape CASE" ∷ codes "2" ∷ codes "; 27 commands, 32 calls, 9 errors" ∷ [])

pub record LogicalMacros : Type 0 where
  pub is_written : output ([]) logical_macros_input ≡ record { bytes = logical_macros_written; status = Errors }

-- lower case
abbrev pub lower_case_input : List ℕ
lower_case_input = lines (codes "(defstobj |st| (|a| :type integer :initially 0))" ∷ codes "(|UPDATE-a| 5 |st|)" ∷ codes "(|aP| 'x)" ∷ codes "(|CREATE-st|)" ∷ codes "(update-a 5 |st|)" ∷ codes "(|a| |st| 1)" ∷ codes "(defun |lap| (x) (declare (ignore x)) t)" ∷ codes "(defun |mka| () nil)" ∷ codes "(defun |l1| (x) x)" ∷ codes "(defabsstobj |ab| :foundation |st| :recognizer (r :logic |lap|) :creator (|mk| :logic |mka|) :corr-fn equal :exports ((|get| :logic |l1| :exec |a|)))" ∷ codes "(|get| |ab|)" ∷ codes "|ab|" ∷ [])

abbrev pub lower_case_written : List ℕ
lower_case_written = lines (codes "|st|" ∷ codes "<st>" ∷ codes "NIL" ∷ codes "Refused: S12 at ()" ∷ codes "Refused: UnknownFunction UPDATE-A" ∷ codes "Refused: Arity |a|" ∷ codes "|lap|" ∷ codes "|mka|" ∷ codes "|l1|" ∷ codes "|ab|" ∷ codes "mk{CORRESPONDENCE}: (EQUAL (|CREATE-st|) (|mka|))" ∷ codes "mk{PRESERVED}: (|lap| (|mka|))" ∷ codes "get{CORRESPONDENCE}: (IMPLIES (EQUAL |st| |ab|) (EQUAL (|l1| |ab|) (|a| |st|)))" ∷ codes "0" ∷ codes "<ab>" ∷ codes "; 12 commands, 4 calls, 3 errors" ∷ [])

pub record LowerCase : Type 0 where
  pub is_written : output ([]) lower_case_input ≡ record { bytes = lower_case_written; status = Errors }

-- macro refusals
abbrev pub macro_refusals_input : List ℕ
macro_refusals_input = lines (codes "(defmacro)" ∷ codes "(defmacro n (&key x &optional y) x)" ∷ codes "(defmacro n (&rest) 1)" ∷ codes "(defmacro n (&rest a b) 1)" ∷ codes "(defmacro n (&rest &key) 1)" ∷ codes "(defmacro n (&rest a &body b) 1)" ∷ codes "(defmacro n (&optional (x)) 1)" ∷ codes "(defmacro n (&optional (x 5)) 1)" ∷ codes "(defmacro n (&optional (x '5 y z)) 1)" ∷ codes "(defmacro n (&optional x &optional y) 1)" ∷ codes "(defmacro n (&whole x) 1)" ∷ codes "(defmacro n (&optional 5) 1)" ∷ codes "(defmacro n (&optional (5 'x)) 1)" ∷ codes "(defmacro n (&optional (x 'nil 5)) 1)" ∷ codes "(defmacro n (x &key (x 'nil)) 1)" ∷ codes "(defmacro n (&optional (x 'nil x)) 1)" ∷ codes "(defmacro car (x) x)" ∷ codes "(defmacro natp (x) x)" ∷ codes "(defmacro n (x) (declare (xargs :stobjs 5)) x)" ∷ codes "(defmacro n (x) (foo x))" ∷ codes "(defmacro n (x) (n x))" ∷ codes "(defmacro n (x) y)" ∷ codes "(defmacro n (x) (mv x x))" ∷ codes "(defmacro n (x) (declare (xargs :guard (foo) :stobjs x)) x)" ∷ codes "(n 5)" ∷ [])

abbrev pub macro_refusals_written : List ℕ
macro_refusals_written = lines (codes "Refused: BadShape DEFMACRO" ∷ codes "Refused: BadShape DEFMACRO" ∷ codes "Refused: BadShape DEFMACRO" ∷ codes "Refused: BadShape DEFMACRO" ∷ codes "Refused: BadShape DEFMACRO" ∷ codes "Refused: BadShape DEFMACRO" ∷ codes "Refused: BadShape DEFMACRO" ∷ codes "Refused: BadShape DEFMACRO" ∷ codes "Refused: BadShape DEFMACRO" ∷ codes "Refused: BadShape DEFMACRO" ∷ codes "Refused: BadName &WHOLE" ∷ codes "Refused: BadName 5" ∷ codes "Refused: BadName 5" ∷ codes "Refused: BadName 5" ∷ codes "Refused: DuplicateFormal X" ∷ codes "Refused: DuplicateFormal X" ∷ codes "Refused: BadName CAR" ∷ codes "Refused: NameInUse NATP" ∷ codes "Refused: BadDeclare N" ∷ codes "Refused: UnknownFunction FOO" ∷ codes "Refused: UnknownFunction N" ∷ codes "Refused: S11 at (0 1)" ∷ codes "Refused: S9 at (0 1)" ∷ codes "N" ∷ codes "5" ∷ codes "; 25 commands, 1 calls, 23 errors" ∷ [])

pub record MacroRefusals : Type 0 where
  pub is_written : output ([]) macro_refusals_input ≡ record { bytes = macro_refusals_written; status = Errors }

-- macros stop
abbrev pub macros_stop_input : List ℕ
macros_stop_input = lines (codes "(defmacro bad (x) (car x))" ∷ codes "(bad 5)" ∷ codes "(defmacro loop (x) `(loop ,x))" ∷ codes "(loop 1)" ∷ codes "(and (and (and 1 2) 3) 4)" ∷ codes "(and (and (and (and 1 2) 3) 4) 5)" ∷ codes "(and (and (car '(1)) 2) 3)" ∷ codes "(and (and (and (car '(1)) 2) 3) 4)" ∷ [])

abbrev pub macros_stop_written : List ℕ
macros_stop_written = lines (codes "BAD" ∷ codes "Refused: MacroStopped: Guard violation: (CAR 5)" ∷ codes "LOOP" ∷ codes "Refused: MacroStopped: Step limit" ∷ codes "4" ∷ codes "Refused: MacroStopped: Step limit" ∷ codes "3" ∷ codes "Step limit" ∷ codes "; 8 commands, 17 calls, 4 errors" ∷ [])

pub record MacrosStop : Type 0 where
  pub is_written : output (codes "--steps" ∷ codes "3" ∷ []) macros_stop_input ≡ record { bytes = macros_stop_written; status = Errors }

-- optional formals
abbrev pub optional_formals_input : List ℕ
optional_formals_input = lines (codes "(defmacro m1 (a &optional b (c '5) (d '6 dp)) `(list ',a ',b ',c ',d ',dp))" ∷ codes "(m1 1)" ∷ codes "(m1 1 2 3 4)" ∷ codes "(m1)" ∷ codes "(m1 1 2 3 4 5)" ∷ codes "(m1 . 5)" ∷ [])

abbrev pub optional_formals_written : List ℕ
optional_formals_written = lines (codes "M1" ∷ codes "(1 NIL 5 6 NIL)" ∷ codes "(1 2 3 4 T)" ∷ codes "Refused: MacroArgs M1" ∷ codes "Refused: MacroArgs M1" ∷ codes "Refused: BadShape M1" ∷ codes "; 6 commands, 49 calls, 3 errors" ∷ [])

pub record OptionalFormals : Type 0 where
  pub is_written : output ([]) optional_formals_input ≡ record { bytes = optional_formals_written; status = Errors }

-- other macros
abbrev pub other_macros_input : List ℕ
other_macros_input = lines (codes "(prog2$ 1 2)" ∷ codes "(prog2$ (car 1) 2)" ∷ codes "(prog2$ 1)" ∷ codes "(mbt 5)" ∷ codes "(mbt)" ∷ codes "(mbe :logic 1 :exec 2)" ∷ codes "(mbe :exec (car 5) :logic 1)" ∷ codes "(mbe :logic 1)" ∷ codes "(mbe :logic 1 :logic 2)" ∷ [])

abbrev pub other_macros_written : List ℕ
other_macros_written = lines (codes "2" ∷ codes "Guard violation: (CAR 1)" ∷ codes "Refused: BadShape PROG2$" ∷ codes "5" ∷ codes "Refused: BadShape MBT" ∷ codes "1" ∷ codes "1" ∷ codes "Refused: BadShape MBE" ∷ codes "Refused: BadShape MBE" ∷ codes "; 9 commands, 10 calls, 5 errors" ∷ [])

pub record OtherMacros : Type 0 where
  pub is_written : output ([]) other_macros_input ≡ record { bytes = other_macros_written; status = Errors }

-- rest and keys
abbrev pub rest_and_keys_input : List ℕ
rest_and_keys_input = lines (codes "(defmacro m2 (a &rest r) `(quote (,a ,r)))" ∷ codes "(m2 1 2 3)" ∷ codes "(m2 1)" ∷ codes "(defmacro m3 (&key x (y '7 yp)) (cons 'quote (cons (cons x (cons y (cons yp nil))) nil)))" ∷ codes "(m3)" ∷ codes "(m3 :y 1 :x 2)" ∷ codes "(m3 :z 1)" ∷ codes "(m3 :x 1 :x 2)" ∷ codes "(m3 :x)" ∷ codes "(m3 1 2)" ∷ codes "(defmacro m4 (&rest r &key k) (cons 'quote (cons (cons r k) nil)))" ∷ codes "(m4 :k 1)" ∷ codes "(m4 5)" ∷ codes "(defmacro m5 (&body b) (car b))" ∷ codes "(m5 (car '(1)) 2)" ∷ codes "(defmacro m6 (&optional &key) 1)" ∷ codes "(m6)" ∷ [])

abbrev pub rest_and_keys_written : List ℕ
rest_and_keys_written = lines (codes "M2" ∷ codes "(1 (2 3))" ∷ codes "(1 NIL)" ∷ codes "M3" ∷ codes "(NIL 7 NIL)" ∷ codes "(2 1 T)" ∷ codes "Refused: MacroArgs M3" ∷ codes "Refused: MacroArgs M3" ∷ codes "Refused: MacroArgs M3" ∷ codes "Refused: MacroArgs M3" ∷ codes "M4" ∷ codes "((:K 1) . 1)" ∷ codes "Refused: MacroArgs M4" ∷ codes "M5" ∷ codes "1" ∷ codes "M6" ∷ codes "1" ∷ codes "; 17 commands, 35 calls, 5 errors" ∷ [])

pub record RestAndKeys : Type 0 where
  pub is_written : output ([]) rest_and_keys_input ≡ record { bytes = rest_and_keys_written; status = Errors }

-- the of types
abbrev pub the_of_types_input : List ℕ
the_of_types_input = lines (codes "(the integer 5)" ∷ codes "(the integer 'a)" ∷ codes "(the foo 5)" ∷ codes "(the t 5)" ∷ codes "(the (satisfies symbolp) 5)" ∷ codes "(the (integer 0 *) 5)" ∷ codes "(the (integer 0 3) 5)" ∷ codes "(the (member a b) 'b)" ∷ codes "(the (or) 5)" ∷ codes "(the (and) 5)" ∷ codes "(the (not integer) 5)" ∷ codes "(the (or symbol integer) 5)" ∷ codes "(the (or symbol) 5)" ∷ codes "(the integer)" ∷ [])

abbrev pub the_of_types_written : List ℕ
the_of_types_written = lines (codes "5" ∷ codes "Guard violation: (THE-CHECK NIL INTEGER A)" ∷ codes "Refused: BadShape THE" ∷ codes "5" ∷ codes "Refused: BadShape THE" ∷ codes "5" ∷ codes "Guard violation: (THE-CHECK NIL (INTEGER 0 3) 5)" ∷ codes "B" ∷ codes "Guard violation: (THE-CHECK NIL (OR) 5)" ∷ codes "5" ∷ codes "Guard violation: (THE-CHECK NIL (NOT INTEGER) 5)" ∷ codes "5" ∷ codes "Guard violation: (THE-CHECK NIL (OR SYMBOL) 5)" ∷ codes "Refused: BadShape THE" ∷ codes "; 14 commands, 41 calls, 8 errors" ∷ [])

pub record TheOfTypes : Type 0 where
  pub is_written : output ([]) the_of_types_input ≡ record { bytes = the_of_types_written; status = Errors }
