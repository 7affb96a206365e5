-- The table of the primitives (ACL2's manual, topic PRIMITIVE).
use Rattle.std.specs.Prelude.{ℕ, List, [], ◌∷◌, map, codes, Option, unwrap_or, slice_get, position}
use Rattle.model_objects.specs.Object.{Object, Symbol, list_onto}
use Rattle.model_symbols.specs.Symbols.{QualifiedName, same_name}
use Rattle.model_symbols.specs.Opening.{common_lisp, acl2, common_lisp_symbols, acl2_symbols}
use Rattle.model_prims.specs.Kinds.{SymbolKind, nil_of}
use Rattle.model_prims.specs.declared.prim.Prim.{Prim}
use Rattle.model_prims.specs.declared.prim.Prim.TheVariants.{Recognizer, Relation, Arithmetic, Listing, Naming, TheCheck}
use Rattle.model_prims.specs.declared.prim.Recognizer.TheVariants as recognizer
use Rattle.model_prims.specs.declared.prim.Relation.TheVariants as relation
use Rattle.model_prims.specs.declared.prim.Arithmetic.TheVariants as arithmetic
use Rattle.model_prims.specs.declared.prim.Listing.TheVariants as listing
use Rattle.model_prims.specs.declared.prim.Naming.TheVariants as naming

-- a primitive, its symbol, and how many arguments it takes
pub record Row : Type 0 where
  pub prim : Prim
  pub symbol : QualifiedName
  pub arity : ℕ

-- a primitive whose name is a symbol of `COMMON-LISP`
abbrev pub lisp : List ℕ → ℕ → Prim → Row
lisp name arity p = record { prim = p; symbol = record { home = common_lisp; name = name }; arity = arity }

-- a primitive whose name is a symbol of `ACL2`
abbrev pub own : List ℕ → ℕ → Prim → Row
own name arity p = record { prim = p; symbol = record { home = acl2; name = name }; arity = arity }

unfoldable pub table : List Row
table =
    lisp (codes "CAR") 1 (Listing listing.Car)
    ∷ lisp (codes "CDR") 1 (Listing listing.Cdr)
    ∷ lisp (codes "CONS") 2 (Listing listing.Cons)
    ∷ lisp (codes "CONSP") 1 (Recognizer recognizer.Consp)
    ∷ lisp (codes "ATOM") 1 (Recognizer recognizer.Atom)
    ∷ lisp (codes "NULL") 1 (Recognizer recognizer.Null)
    ∷ lisp (codes "NOT") 1 (Recognizer recognizer.Not)
    ∷ lisp (codes "SYMBOLP") 1 (Recognizer recognizer.Symbolp)
    ∷ lisp (codes "STRINGP") 1 (Recognizer recognizer.Stringp)
    ∷ lisp (codes "INTEGERP") 1 (Recognizer recognizer.Integerp)
    ∷ own (codes "NATP") 1 (Recognizer recognizer.Natp)
    ∷ own (codes "POSP") 1 (Recognizer recognizer.Posp)
    ∷ own (codes "BOOLEANP") 1 (Recognizer recognizer.Booleanp)
    ∷ own (codes "TRUE-LISTP") 1 (Recognizer recognizer.TrueListp)
    ∷ own (codes "ALISTP") 1 (Recognizer recognizer.Alistp)
    ∷ lisp (codes "ENDP") 1 (Recognizer recognizer.Endp)
    ∷ lisp (codes "EQ") 2 (Relation relation.Eq)
    ∷ lisp (codes "EQL") 2 (Relation relation.Eql)
    ∷ lisp (codes "EQUAL") 2 (Relation relation.Equal)
    ∷ own (codes "BINARY-+") 2 (Arithmetic arithmetic.Plus)
    ∷ own (codes "BINARY-*") 2 (Arithmetic arithmetic.Times)
    ∷ own (codes "UNARY--") 1 (Arithmetic arithmetic.Minus)
    ∷ lisp (codes "<") 2 (Relation relation.Below)
    ∷ lisp (codes "=") 2 (Relation relation.Same)
    ∷ lisp (codes "/=") 2 (Relation relation.Different)
    ∷ lisp (codes "ZEROP") 1 (Recognizer recognizer.Zerop)
    ∷ own (codes "ZP") 1 (Recognizer recognizer.Zp)
    ∷ own (codes "ZIP") 1 (Recognizer recognizer.Zip)
    ∷ own (codes "NFIX") 1 (Arithmetic arithmetic.Nfix)
    ∷ own (codes "IFIX") 1 (Arithmetic arithmetic.Ifix)
    ∷ lisp (codes "ABS") 1 (Arithmetic arithmetic.Abs)
    ∷ lisp (codes "MIN") 2 (Arithmetic arithmetic.Min)
    ∷ lisp (codes "MAX") 2 (Arithmetic arithmetic.Max)
    ∷ lisp (codes "FLOOR") 2 (Arithmetic arithmetic.Floor)
    ∷ lisp (codes "MOD") 2 (Arithmetic arithmetic.Mod)
    ∷ lisp (codes "TRUNCATE") 2 (Arithmetic arithmetic.Truncate)
    ∷ lisp (codes "REM") 2 (Arithmetic arithmetic.Rem)
    ∷ lisp (codes "EXPT") 2 (Arithmetic arithmetic.Expt)
    ∷ lisp (codes "ASH") 2 (Arithmetic arithmetic.Ash)
    ∷ lisp (codes "LOGNOT") 1 (Arithmetic arithmetic.Lognot)
    ∷ own (codes "BINARY-LOGAND") 2 (Arithmetic arithmetic.Logand)
    ∷ own (codes "BINARY-LOGIOR") 2 (Arithmetic arithmetic.Logior)
    ∷ own (codes "BINARY-LOGXOR") 2 (Arithmetic arithmetic.Logxor)
    ∷ own (codes "LEN") 1 (Listing listing.Len)
    ∷ lisp (codes "LENGTH") 1 (Listing listing.Length)
    ∷ lisp (codes "NTH") 2 (Listing listing.Nth)
    ∷ own (codes "UPDATE-NTH") 3 (Listing listing.UpdateNth)
    ∷ own (codes "BINARY-APPEND") 2 (Listing listing.Append)
    ∷ lisp (codes "REVAPPEND") 2 (Listing listing.Revappend)
    ∷ own (codes "MEMBER-EQUAL") 2 (Listing listing.Member)
    ∷ own (codes "ASSOC-EQUAL") 2 (Listing listing.Assoc)
    ∷ own (codes "UNION-EQUAL") 2 (Listing listing.Union)
    ∷ lisp (codes "SYMBOL-NAME") 1 (Naming naming.SymbolName)
    ∷ own (codes "SYMBOL-PACKAGE-NAME") 1 (Naming naming.SymbolPackageName)
    ∷ own (codes "INTERN-IN-PACKAGE-OF-SYMBOL") 2 (Naming naming.Intern)
    ∷ own (codes "STRING-APPEND") 2 (Naming naming.StringAppend)
    ∷ own (codes "IMPLIES") 2 (Relation relation.Implies)
    ∷ own (codes "IFF") 2 (Relation relation.Iff)
    ∷ own (codes "THE-CHECK") 3 TheCheck
    ∷ []

abbrev pub no_row : Row
no_row = lisp [] 0 TheCheck

-- the primitive of a row
abbrev pub prim_of : ℕ → Prim
prim_of n = (unwrap_or (slice_get table n) no_row).prim

-- how many arguments it takes
abbrev pub arity_of : ℕ → ℕ
arity_of n = (unwrap_or (slice_get table n) no_row).arity

-- the row of the primitive of this symbol
abbrev pub row_called : QualifiedName → Option ℕ
row_called s = position (λ (r : Row). same_name s r.symbol) table

-- ---- the two constants that stand beside the primitives

-- the symbols, as a list of a kind of symbols
abbrev pub list_of_symbols : {S : Type 0} → SymbolKind S → (QualifiedName → S) → List QualifiedName → Object S
list_of_symbols k see symbols = list_onto (map (λ s. Symbol (see s)) symbols) (nil_of k)

-- the symbols of the value of `*ACL2-EXPORTS*`
abbrev pub exported_symbols : List QualifiedName
exported_symbols = acl2_symbols

-- the symbols of the value of `*COMMON-LISP-SYMBOLS-FROM-MAIN-LISP-PACKAGE*`
abbrev pub main_symbols : List QualifiedName
main_symbols = common_lisp_symbols
