-- What a primitive gives in the logic: outside its guard, and beyond the bounds of values.
use Rattle.std.specs.Prelude.{◌≡◌, ℕ, ◌+◌, ◌^◌, List, [], ◌∷◌, map, pos, neg_ℤ, codes}
use Rattle.model_objects.specs.Object.{Object, Integer, Symbol, Text, Pair, list_onto}
use Rattle.model_symbols.specs.Symbols.{QualifiedName}
use Rattle.model_symbols.specs.Opening.{opening, acl2, common_lisp, truth_name, nil_name}
use Rattle.model_prims.specs.Applied.{value_of}
use Rattle.model_prims_rows.specs.Examples.{row_called}

-- the name of a primitive, the arguments, and the value
pub record LogicExample : Type 0 where
  pub name : List ℕ
  pub args : List (Object QualifiedName)
  pub value : Object QualifiedName

abbrev pub logic_value_of : LogicExample → Object QualifiedName
logic_value_of e = value_of opening.packages (row_called e.name).prim e.args

pub record AreLogic (examples : List LogicExample) : Type 0 where
  pub all : map logic_value_of examples ≡ map (λ (e : LogicExample). e.value) examples

-- ---- to write examples by

abbrev pub gives : List ℕ → List (Object QualifiedName) → Object QualifiedName → LogicExample
gives name args value = record { name = name; args = args; value = value }

abbrev pub plus : ℕ → Object QualifiedName
plus n = Integer (pos n)

abbrev pub minus : ℕ → Object QualifiedName
minus n = Integer (neg_ℤ (pos n))

abbrev pub t : Object QualifiedName
t = Symbol truth_name

abbrev pub nothing : Object QualifiedName
nothing = Symbol nil_name

abbrev pub list : List (Object QualifiedName) → Object QualifiedName
list os = list_onto os nothing

abbrev pub symbol : List ℕ → List ℕ → Object QualifiedName
symbol home name = Symbol (record { home = home; name = name })

unfoldable pub logic_examples : List LogicExample
logic_examples =
    gives (codes "CAR") (Text (codes "A") ∷ []) nothing
    ∷ gives (codes "ENDP") (plus 1 ∷ []) t
    ∷ gives (codes "EQ") (plus 5 ∷ plus 5 ∷ []) t
    ∷ gives (codes "EQL") (Text (codes "A") ∷ Text (codes "A") ∷ []) t
    ∷ gives (codes "BINARY-+") (t ∷ plus (2 ^ 127) ∷ []) (plus (2 ^ 127))
    ∷ gives (codes "BINARY-*") (plus (2 ^ 127) ∷ minus 2 ∷ []) (minus (2 ^ 128))
    ∷ gives (codes "UNARY--") (nothing ∷ []) (plus 0)
    ∷ gives (codes "<") (Text [] ∷ plus 1 ∷ []) t
    ∷ gives (codes "=") (t ∷ t ∷ []) t
    ∷ gives (codes "ZEROP") (nothing ∷ []) nothing
    ∷ gives (codes "ZP") (minus 1 ∷ []) t
    ∷ gives (codes "ZP") (Text [] ∷ []) t
    ∷ gives (codes "ZIP") (Text [] ∷ []) t
    ∷ gives (codes "ABS") (t ∷ []) t
    ∷ gives (codes "MIN") (Text [] ∷ plus 1 ∷ []) (Text [])
    ∷ gives (codes "MAX") (Text [] ∷ plus 0 ∷ []) (plus 0)
    ∷ gives (codes "FLOOR") (plus 5 ∷ plus 0 ∷ []) (plus 0)
    ∷ gives (codes "MOD") (plus 5 ∷ plus 0 ∷ []) (plus 5)
    ∷ gives (codes "TRUNCATE") (minus 5 ∷ nothing ∷ []) (plus 0)
    ∷ gives (codes "REM") (minus 5 ∷ plus 0 ∷ []) (minus 5)
    ∷ gives (codes "EXPT") (plus 2 ∷ plus 200 ∷ []) (plus (2 ^ 200))
    ∷ gives (codes "EXPT") (plus 2 ∷ minus 1 ∷ []) (plus 1)
    ∷ gives (codes "EXPT") (plus 2 ∷ t ∷ []) (plus 1)
    ∷ gives (codes "ASH") (minus 1 ∷ plus 200 ∷ []) (minus (2 ^ 200))
    ∷ gives (codes "ASH") (plus (2 ^ 200) ∷ minus 199 ∷ []) (plus 2)
    ∷ gives (codes "BINARY-LOGAND") (minus 1 ∷ plus (2 ^ 200 + 1) ∷ []) (plus (2 ^ 200 + 1))
    ∷ gives (codes "LENGTH") (Pair t (plus 5) ∷ []) (plus 1)
    ∷ gives (codes "LENGTH") (t ∷ []) (plus 0)
    ∷ gives (codes "NTH") (minus 1 ∷ list (plus 7 ∷ []) ∷ []) (plus 7)
    ∷ gives (codes "NTH") (plus 1 ∷ Pair (plus 7) (plus 8) ∷ []) nothing
    ∷ gives (codes "UPDATE-NTH") (plus 1 ∷ plus 9 ∷ Pair (plus 1) (plus 2) ∷ []) (list (plus 1 ∷ plus 9 ∷ []))
    ∷ gives (codes "BINARY-APPEND") (Pair (plus 1) (plus 2) ∷ t ∷ []) (Pair (plus 1) t)
    ∷ gives (codes "MEMBER-EQUAL") (plus 2 ∷ Pair (plus 1) (plus 2) ∷ []) nothing
    ∷ gives (codes "ASSOC-EQUAL") (nothing ∷ list (plus 5 ∷ []) ∷ []) (plus 5)
    ∷ gives (codes "UNION-EQUAL") (list (plus 1 ∷ plus 1 ∷ []) ∷ nothing ∷ []) (list (plus 1 ∷ plus 1 ∷ []))
    ∷ gives (codes "SYMBOL-NAME") (plus 5 ∷ []) (Text [])
    ∷ gives (codes "SYMBOL-PACKAGE-NAME") (t ∷ []) (Text (codes "COMMON-LISP"))
    ∷ gives (codes "INTERN-IN-PACKAGE-OF-SYMBOL") (plus 5 ∷ t ∷ []) nothing
    ∷ gives (codes "INTERN-IN-PACKAGE-OF-SYMBOL") (Text (codes "CAR") ∷ symbol acl2 (codes "MV") ∷ []) (symbol common_lisp (codes "CAR"))
    ∷ gives (codes "INTERN-IN-PACKAGE-OF-SYMBOL") (Text (codes "FOO") ∷ symbol acl2 (codes "MV") ∷ []) (symbol acl2 (codes "FOO"))
    ∷ gives (codes "STRING-APPEND") (plus 5 ∷ Text (codes "A") ∷ []) (Text (codes "A"))
    ∷ gives (codes "THE-CHECK") (nothing ∷ plus 1 ∷ plus 2 ∷ []) (plus 2)
    ∷ []
