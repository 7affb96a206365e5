-- The names that no definition may take: of events and other heads, of built-in macros, of core forms and of primitives.
use Rattle.std.specs.Prelude.{ℕ, List, Bool, ◌&&◌, ◌||◌, codes}
use Rattle.std.specs.List.{list_any}
use Rattle.std.specs.Str.{bytes_eq}
use Rattle.model_symbols.specs.Symbols.{QualifiedName}
use Rattle.model_symbols.specs.Opening.{words, common_lisp, acl2}

-- those of `COMMON-LISP`: core forms, built-in macros, primitives, and heads
unfoldable pub reserved_lisp : List (List ℕ)
reserved_lisp = words
    (codes "QUOTE IF LET LET* AND OR COND CASE LIST LIST* APPEND + * - 1+ 1- > <= >= LOGAND LOGIOR LOGXOR MEMBER ASSOC THE FIRST SECOND THIRD FOURTH FIFTH REST CAAR CADR CDAR CDDR CAAAR CAADR CADAR CADDR CDAAR CDADR CDDAR CDDDR CAAAAR CAAADR CAADAR CAADDR CADAAR CADADR CADDAR CADDDR CDAAAR CDAADR CDADAR CDADDR CDDAAR CDDADR CDDDAR CDDDDR CAR CDR CONS CONSP ATOM NULL NOT SYMBOLP STRINGP INTEGERP ENDP EQ EQL EQUAL < = /= ZEROP ABS MIN MAX FLOOR MOD TRUNCATE REM EXPT ASH LOGNOT LENGTH NTH REVAPPEND SYMBOL-NAME DEFUN DEFMACRO IN-PACKAGE PROGN")

-- those of `ACL2`: core forms, built-in macros, primitives, and heads
unfoldable pub reserved_own : List (List ℕ)
reserved_own = words
    (codes "MV MV-LET STOBJ-LET WITH-LOCAL-STOBJ MUST-BE-EQUAL MBE MBT PROG2$ MEMBER-EQ ASSOC-EQ UNION-EQ THE-CHECK BINARY-+ BINARY-* UNARY-- BINARY-LOGAND BINARY-LOGIOR BINARY-LOGXOR ZP ZIP NATP POSP NFIX IFIX BOOLEANP TRUE-LISTP ALISTP LEN BINARY-APPEND UPDATE-NTH MEMBER-EQUAL ASSOC-EQUAL UNION-EQUAL SYMBOL-PACKAGE-NAME INTERN-IN-PACKAGE-OF-SYMBOL STRING-APPEND IMPLIES IFF DEFCONST DEFPKG DEFUND DEFUN-NX MUTUAL-RECURSION DEFSTOBJ DEFABSSTOBJ DEFTHM DEFTHMD IN-THEORY VERIFY-GUARDS TABLE LOCAL DEFLABEL DEFTHEORY DEFXDOC LOGIC PROGRAM SET-IGNORE-OK SET-IRRELEVANT-FORMALS-OK SET-STATE-OK SET-VERIFY-GUARDS-EAGERNESS SET-WELL-FOUNDED-RELATION SET-INHIBIT-WARNINGS SET-ENFORCE-REDUNDANCY SET-BOGUS-MUTUAL-RECURSION-OK INCLUDE-BOOK ENCAPSULATE MAKE-EVENT LD DEFSTUB DEFCHOOSE DEFATTACH ER CW")

-- the symbol is the name of such a head, macro, core form or primitive
unfoldable pub is_reserved : QualifiedName → Bool
is_reserved s =
    (bytes_eq s.home common_lisp && list_any (bytes_eq s.name) reserved_lisp)
    || (bytes_eq s.home acl2 && list_any (bytes_eq s.name) reserved_own)
