-- The primitives that test.
use Rattle.std.specs.Prelude.{List, [], ◌∷◌, codes}
use Rattle.model_objects.specs.Object.{Symbol, Text, Pair}
use Rattle.model_symbols.specs.Opening.{quote}
use Rattle.model_prims.specs.Applied.{Stops, Guard}
use Rattle.model_prims_rows.specs.Examples.{Example, call, plus, minus, greatest, least, yes_value, no_value, t, nothing, list, one_two, dotted}

unfoldable pub recognizer_examples : List Example
recognizer_examples =
    call (codes "CONSP") (one_two ∷ []) yes_value
    ∷ call (codes "CONSP") (nothing ∷ []) no_value
    ∷ call (codes "ATOM") (nothing ∷ []) yes_value
    ∷ call (codes "ATOM") (dotted ∷ []) no_value
    ∷ call (codes "NULL") (nothing ∷ []) yes_value
    ∷ call (codes "NULL") (plus 0 ∷ []) no_value
    ∷ call (codes "NOT") (t ∷ []) no_value
    ∷ call (codes "NOT") (nothing ∷ []) yes_value
    ∷ call (codes "SYMBOLP") (nothing ∷ []) yes_value
    ∷ call (codes "SYMBOLP") (Text (codes "A") ∷ []) no_value
    ∷ call (codes "STRINGP") (Text [] ∷ []) yes_value
    ∷ call (codes "STRINGP") (t ∷ []) no_value
    ∷ call (codes "INTEGERP") (least ∷ []) yes_value
    ∷ call (codes "INTEGERP") (Text (codes "1") ∷ []) no_value
    ∷ call (codes "NATP") (plus 0 ∷ []) yes_value
    ∷ call (codes "NATP") (minus 1 ∷ []) no_value
    ∷ call (codes "NATP") (nothing ∷ []) no_value
    ∷ call (codes "POSP") (plus 0 ∷ []) no_value
    ∷ call (codes "POSP") (plus 1 ∷ []) yes_value
    ∷ call (codes "POSP") (least ∷ []) no_value
    ∷ call (codes "BOOLEANP") (nothing ∷ []) yes_value
    ∷ call (codes "BOOLEANP") (t ∷ []) yes_value
    ∷ call (codes "BOOLEANP") (Symbol quote ∷ []) no_value
    ∷ call (codes "BOOLEANP") (plus 0 ∷ []) no_value
    ∷ call (codes "TRUE-LISTP") (one_two ∷ []) yes_value
    ∷ call (codes "TRUE-LISTP") (nothing ∷ []) yes_value
    ∷ call (codes "TRUE-LISTP") (dotted ∷ []) no_value
    ∷ call (codes "TRUE-LISTP") (Pair (plus 1) t ∷ []) no_value
    ∷ call (codes "TRUE-LISTP") (t ∷ []) no_value
    ∷ call (codes "ALISTP") (list (dotted ∷ list (plus 3 ∷ []) ∷ []) ∷ []) yes_value
    ∷ call (codes "ALISTP") (nothing ∷ []) yes_value
    ∷ call (codes "ALISTP") (list (dotted ∷ plus 3 ∷ []) ∷ []) no_value
    ∷ call (codes "ALISTP") (list (dotted ∷ nothing ∷ []) ∷ []) no_value
    ∷ call (codes "ALISTP") (Pair dotted (plus 3) ∷ []) no_value
    ∷ call (codes "ENDP") (nothing ∷ []) yes_value
    ∷ call (codes "ENDP") (dotted ∷ []) no_value
    ∷ call (codes "ENDP") (plus 1 ∷ []) (Stops Guard)
    ∷ call (codes "ENDP") (t ∷ []) (Stops Guard)
    ∷ call (codes "ZEROP") (plus 0 ∷ []) yes_value
    ∷ call (codes "ZEROP") (minus 1 ∷ []) no_value
    ∷ call (codes "ZEROP") (nothing ∷ []) (Stops Guard)
    ∷ call (codes "ZP") (plus 0 ∷ []) yes_value
    ∷ call (codes "ZP") (plus 1 ∷ []) no_value
    ∷ call (codes "ZP") (minus 1 ∷ []) (Stops Guard)
    ∷ call (codes "ZP") (nothing ∷ []) (Stops Guard)
    ∷ call (codes "ZIP") (plus 0 ∷ []) yes_value
    ∷ call (codes "ZIP") (minus 1 ∷ []) no_value
    ∷ call (codes "ZIP") (Text [] ∷ []) (Stops Guard)
    ∷ []

unfoldable pub relation_examples : List Example
relation_examples =
    call (codes "EQ") (t ∷ plus 5 ∷ []) no_value
    ∷ call (codes "EQ") (plus 5 ∷ plus 5 ∷ []) (Stops Guard)
    ∷ call (codes "EQ") (Text (codes "T") ∷ t ∷ []) no_value
    ∷ call (codes "EQ") (nothing ∷ nothing ∷ []) yes_value
    ∷ call (codes "EQ") (one_two ∷ one_two ∷ []) (Stops Guard)
    ∷ call (codes "EQL") (plus 5 ∷ plus 5 ∷ []) yes_value
    ∷ call (codes "EQL") (least ∷ least ∷ []) yes_value
    ∷ call (codes "EQL") (Text (codes "A") ∷ plus 5 ∷ []) no_value
    ∷ call (codes "EQL") (Text (codes "A") ∷ Text (codes "A") ∷ []) (Stops Guard)
    ∷ call (codes "EQL") (one_two ∷ one_two ∷ []) (Stops Guard)
    ∷ call (codes "EQUAL") (list (Text (codes "A") ∷ plus 1 ∷ []) ∷ list (Text (codes "A") ∷ plus 1 ∷ []) ∷ []) yes_value
    ∷ call (codes "EQUAL") (Text (codes "A") ∷ Text (codes "a") ∷ []) no_value
    ∷ call (codes "EQUAL") (Text (codes "A") ∷ Text (codes "AB") ∷ []) no_value
    ∷ call (codes "EQUAL") (plus 1 ∷ minus 1 ∷ []) no_value
    ∷ call (codes "EQUAL") (one_two ∷ dotted ∷ []) no_value
    ∷ call (codes "<") (minus 1 ∷ plus 0 ∷ []) yes_value
    ∷ call (codes "<") (plus 0 ∷ minus 1 ∷ []) no_value
    ∷ call (codes "<") (minus 2 ∷ minus 1 ∷ []) yes_value
    ∷ call (codes "<") (least ∷ greatest ∷ []) yes_value
    ∷ call (codes "<") (greatest ∷ least ∷ []) no_value
    ∷ call (codes "<") (plus 5 ∷ plus 5 ∷ []) no_value
    ∷ call (codes "<") (nothing ∷ plus 1 ∷ []) (Stops Guard)
    ∷ call (codes "<") (plus 1 ∷ nothing ∷ []) (Stops Guard)
    ∷ call (codes "=") (plus 5 ∷ plus 5 ∷ []) yes_value
    ∷ call (codes "=") (plus 5 ∷ minus 5 ∷ []) no_value
    ∷ call (codes "=") (t ∷ t ∷ []) (Stops Guard)
    ∷ call (codes "/=") (plus 5 ∷ plus 5 ∷ []) no_value
    ∷ call (codes "/=") (plus 5 ∷ plus 6 ∷ []) yes_value
    ∷ call (codes "/=") (t ∷ plus 5 ∷ []) (Stops Guard)
    ∷ []
