-- The symbols and packages that every table begins with (ACL2's manual, topic DEFPKG).
use Rattle.std.specs.Prelude.{ℕ, List, [], ◌∷◌, ◌++◌, map, ◌==◌, codes, if◌then◌else◌}
use Rattle.model_symbols.specs.Symbols.{QualifiedName, Package, Table}

-- ---- the words of a text, which single blanks part

-- the words of a text, after what has come of its first
abbrev pub words_after : List ℕ → List ℕ → List (List ℕ)
words_after word [] = word ∷ []
words_after word (b ∷ bs) = if b == 32 then word ∷ words_after [] bs else words_after (word ++ b ∷ []) bs

abbrev pub words : List ℕ → List (List ℕ)
words text = words_after [] text

-- ---- names of packages

abbrev pub common_lisp : List ℕ
common_lisp = codes "COMMON-LISP"

abbrev pub keyword : List ℕ
keyword = codes "KEYWORD"

abbrev pub acl2 : List ℕ
acl2 = codes "ACL2"

-- the package that no input can name
abbrev pub hidden : List ℕ
hidden = codes "%"

-- ---- symbols

-- the symbols of `COMMON-LISP`, all of which `ACL2` imports
unfoldable pub common_lisp_text : List ℕ
common_lisp_text =
    codes "T NIL QUOTE IF LET LET* CAR CDR CONS CONSP ATOM ENDP NULL NOT EQ EQL EQUAL SYMBOLP STRINGP INTEGERP < = /= <= > >= + * - 1+ 1- ZEROP ABS MIN MAX FLOOR MOD REM TRUNCATE EXPT ASH LOGAND LOGIOR LOGXOR LOGNOT LENGTH NTH REVAPPEND SYMBOL-NAME LIST LIST* APPEND MEMBER ASSOC AND OR COND CASE OTHERWISE THE FIRST SECOND THIRD FOURTH FIFTH REST CAAR CADR CDAR CDDR CAAAR CAADR CADAR CADDR CDAAR CDADR CDDAR CDDDR CAAAAR CAAADR CAADAR CAADDR CADAAR CADADR CADDAR CADDDR CDAAAR CDAADR CDADAR CDADDR CDDAAR CDDADR CDDDAR CDDDDR DECLARE TYPE IGNORE IGNORABLE OPTIMIZE DEFUN DEFMACRO IN-PACKAGE PROGN FLET LAMBDA SATISFIES INTEGER SIGNED-BYTE UNSIGNED-BYTE BIT SYMBOL STRING BOOLEAN ARRAY HASH-TABLE &OPTIONAL &REST &BODY &KEY"

-- the symbols of `ACL2` itself
unfoldable pub acl2_text : List ℕ
acl2_text =
    codes "MV MV-LET STOBJ-LET WITH-LOCAL-STOBJ MUST-BE-EQUAL MBE MBT PROG2$ THE-CHECK BINARY-+ BINARY-* UNARY-- BINARY-LOGAND BINARY-LOGIOR BINARY-LOGXOR ZP ZIP NATP POSP NFIX IFIX BOOLEANP TRUE-LISTP ALISTP LEN BINARY-APPEND UPDATE-NTH MEMBER-EQUAL MEMBER-EQ ASSOC-EQUAL ASSOC-EQ UNION-EQUAL UNION-EQ SYMBOL-PACKAGE-NAME INTERN-IN-PACKAGE-OF-SYMBOL STRING-APPEND IMPLIES IFF XARGS DEFCONST DEFPKG DEFUND DEFUN-NX MUTUAL-RECURSION DEFSTOBJ DEFABSSTOBJ *ACL2-EXPORTS* *COMMON-LISP-SYMBOLS-FROM-MAIN-LISP-PACKAGE* DEFTHM DEFTHMD IN-THEORY VERIFY-GUARDS TABLE LOCAL DEFLABEL DEFTHEORY DEFXDOC LOGIC PROGRAM SET-IGNORE-OK SET-IRRELEVANT-FORMALS-OK SET-STATE-OK SET-VERIFY-GUARDS-EAGERNESS SET-WELL-FOUNDED-RELATION SET-INHIBIT-WARNINGS SET-ENFORCE-REDUNDANCY SET-BOGUS-MUTUAL-RECURSION-OK INCLUDE-BOOK ENCAPSULATE MAKE-EVENT LD DEFSTUB DEFCHOOSE DEFATTACH ER CW"

-- the symbols of these names in a package
abbrev pub symbols_of : List ℕ → List (List ℕ) → List QualifiedName
symbols_of home names = map (λ (name : List ℕ). record { home = home; name = name }) names

unfoldable pub common_lisp_symbols : List QualifiedName
common_lisp_symbols = symbols_of common_lisp (words common_lisp_text)

unfoldable pub acl2_symbols : List QualifiedName
acl2_symbols = symbols_of acl2 (words acl2_text)

-- the variable that expansions bind
abbrev pub hidden_symbols : List QualifiedName
hidden_symbols = symbols_of hidden (codes "V" ∷ [])

abbrev pub without_imports : List ℕ → Package
without_imports name = record { name = name; imports = [] }

-- the package that a session begins in
unfoldable pub acl2_package : Package
acl2_package = record { name = acl2; imports = common_lisp_symbols }

-- the table that every session begins with
unfoldable pub opening : Table
opening = record {
  packages = without_imports common_lisp ∷ without_imports keyword ∷ acl2_package ∷ without_imports hidden ∷ [];
  symbols = common_lisp_symbols ++ (acl2_symbols ++ hidden_symbols);
}

-- ---- numbers of symbols that definitions name

abbrev pub truth : ℕ
truth = 0

abbrev pub nil : ℕ
nil = 1

abbrev pub quote : ℕ
quote = 2

abbrev pub truth_name : QualifiedName
truth_name = record { home = common_lisp; name = codes "T" }

abbrev pub nil_name : QualifiedName
nil_name = record { home = common_lisp; name = codes "NIL" }

abbrev pub quote_name : QualifiedName
quote_name = record { home = common_lisp; name = codes "QUOTE" }
