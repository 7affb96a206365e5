-- The primitives on symbols and strings, and those that only pass a value on.
use Rattle.std.specs.Prelude.{ℕ, List, [], ◌∷◌, length, codes}
use Rattle.model_objects.specs.Object.{Object, Symbol, Text}
use Rattle.model_symbols.specs.Opening.{opening, common_lisp, acl2, common_lisp_symbols}
use Rattle.model_prims.specs.Applied.{Applied, Gives, Stops, Guard}
use Rattle.model_prims_rows.specs.Examples.{Example, call, value, plus, yes_value, no_value, t, nothing, one_two}

-- `MV`, the first symbol of `ACL2` itself
abbrev pub mv : Object ℕ
mv = Symbol (length common_lisp_symbols)

-- `CAR` of `COMMON-LISP`, its seventh symbol
abbrev pub car : Object ℕ
car = Symbol 6

-- the first new symbol
abbrev pub new_symbol : List ℕ → List ℕ → Applied
new_symbol home name = Gives (Symbol (length opening.symbols)) (record { home = home; name = name } ∷ [])

unfoldable pub name_examples : List Example
name_examples =
    call (codes "SYMBOL-NAME") (t ∷ []) (value (Text (codes "T")))
    ∷ call (codes "SYMBOL-NAME") (car ∷ []) (value (Text (codes "CAR")))
    ∷ call (codes "SYMBOL-NAME") (Text (codes "CAR") ∷ []) (Stops Guard)
    ∷ call (codes "SYMBOL-PACKAGE-NAME") (nothing ∷ []) (value (Text (codes "COMMON-LISP")))
    ∷ call (codes "SYMBOL-PACKAGE-NAME") (mv ∷ []) (value (Text (codes "ACL2")))
    ∷ call (codes "SYMBOL-PACKAGE-NAME") (plus 5 ∷ []) (Stops Guard)
    ∷ call (codes "INTERN-IN-PACKAGE-OF-SYMBOL") (Text (codes "CAR") ∷ mv ∷ []) (value car)
    ∷ call (codes "INTERN-IN-PACKAGE-OF-SYMBOL") (Text (codes "NEW") ∷ mv ∷ []) (new_symbol acl2 (codes "NEW"))
    ∷ call (codes "INTERN-IN-PACKAGE-OF-SYMBOL") (Text (codes "car") ∷ mv ∷ []) (new_symbol acl2 (codes "car"))
    ∷ call (codes "INTERN-IN-PACKAGE-OF-SYMBOL") (Text (codes "MV") ∷ mv ∷ []) (value mv)
    ∷ call (codes "INTERN-IN-PACKAGE-OF-SYMBOL") (Text (codes "MV") ∷ t ∷ []) (new_symbol common_lisp (codes "MV"))
    ∷ call (codes "INTERN-IN-PACKAGE-OF-SYMBOL") (Text [] ∷ t ∷ []) (new_symbol common_lisp [])
    ∷ call (codes "INTERN-IN-PACKAGE-OF-SYMBOL") (Text (codes "NEW") ∷ plus 5 ∷ []) (Stops Guard)
    ∷ call (codes "INTERN-IN-PACKAGE-OF-SYMBOL") (t ∷ t ∷ []) (Stops Guard)
    ∷ call (codes "STRING-APPEND") (Text (codes "AB") ∷ Text (codes "C") ∷ []) (value (Text (codes "ABC")))
    ∷ call (codes "STRING-APPEND") (Text [] ∷ Text [] ∷ []) (value (Text []))
    ∷ call (codes "STRING-APPEND") (Text (codes "AB") ∷ t ∷ []) (Stops Guard)
    ∷ []

unfoldable pub choice_examples : List Example
choice_examples =
    call (codes "IMPLIES") (nothing ∷ nothing ∷ []) yes_value
    ∷ call (codes "IMPLIES") (plus 5 ∷ nothing ∷ []) no_value
    ∷ call (codes "IMPLIES") (plus 5 ∷ plus 6 ∷ []) yes_value
    ∷ call (codes "IFF") (nothing ∷ nothing ∷ []) yes_value
    ∷ call (codes "IFF") (plus 5 ∷ one_two ∷ []) yes_value
    ∷ call (codes "IFF") (plus 5 ∷ nothing ∷ []) no_value
    ∷ call (codes "IFF") (nothing ∷ t ∷ []) no_value
    ∷ call (codes "THE-CHECK") (t ∷ plus 1 ∷ plus 2 ∷ []) (value (plus 2))
    ∷ call (codes "THE-CHECK") (plus 0 ∷ plus 1 ∷ plus 2 ∷ []) (value (plus 2))
    ∷ call (codes "THE-CHECK") (nothing ∷ plus 1 ∷ plus 2 ∷ []) (Stops Guard)
    ∷ []
