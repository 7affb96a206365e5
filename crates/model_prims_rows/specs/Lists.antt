-- The primitives on pairs and lists.
use Rattle.std.specs.Prelude.{◌≡◌, ℕ, ◌+◌, ◌^◌, List, [], ◌∷◌, codes}
use Rattle.model_objects.specs.Object.{Object, Text, Pair, list_onto, weight}
use Rattle.model_prims.specs.Applied.{Applied, Stops, Guard, Large}
use Rattle.model_prims_rows.specs.Examples.{Example, call, answer_to, value, plus, minus, greatest, no_value, t, nothing, list, one_two, dotted}

unfoldable pub part_examples : List Example
part_examples =
    call (codes "CAR") (dotted ∷ []) (value (plus 1))
    ∷ call (codes "CAR") (nothing ∷ []) no_value
    ∷ call (codes "CAR") (plus 5 ∷ []) (Stops Guard)
    ∷ call (codes "CAR") (t ∷ []) (Stops Guard)
    ∷ call (codes "CDR") (dotted ∷ []) (value (plus 2))
    ∷ call (codes "CDR") (nothing ∷ []) no_value
    ∷ call (codes "CDR") (Text (codes "AB") ∷ []) (Stops Guard)
    ∷ call (codes "CONS") (plus 1 ∷ list (plus 2 ∷ []) ∷ []) (value one_two)
    ∷ call (codes "LEN") (Pair (plus 1) (Pair (plus 2) (plus 3)) ∷ []) (value (plus 2))
    ∷ call (codes "LEN") (Text (codes "ABC") ∷ []) (value (plus 0))
    ∷ call (codes "LEN") (nothing ∷ []) (value (plus 0))
    ∷ call (codes "LENGTH") (Text (codes "ABC") ∷ []) (value (plus 3))
    ∷ call (codes "LENGTH") (Text [] ∷ []) (value (plus 0))
    ∷ call (codes "LENGTH") (one_two ∷ []) (value (plus 2))
    ∷ call (codes "LENGTH") (nothing ∷ []) (value (plus 0))
    ∷ call (codes "LENGTH") (dotted ∷ []) (Stops Guard)
    ∷ call (codes "LENGTH") (plus 5 ∷ []) (Stops Guard)
    ∷ call (codes "NTH") (plus 0 ∷ one_two ∷ []) (value (plus 1))
    ∷ call (codes "NTH") (plus 1 ∷ one_two ∷ []) (value (plus 2))
    ∷ call (codes "NTH") (plus 2 ∷ one_two ∷ []) no_value
    ∷ call (codes "NTH") (greatest ∷ nothing ∷ []) no_value
    ∷ call (codes "NTH") (minus 1 ∷ one_two ∷ []) (Stops Guard)
    ∷ call (codes "NTH") (plus 0 ∷ dotted ∷ []) (Stops Guard)
    ∷ []

unfoldable pub list_examples : List Example
list_examples =
    call (codes "UPDATE-NTH") (plus 0 ∷ plus 9 ∷ one_two ∷ []) (value (list (plus 9 ∷ plus 2 ∷ [])))
    ∷ call (codes "UPDATE-NTH") (plus 3 ∷ plus 9 ∷ list (plus 1 ∷ []) ∷ []) (value (list (plus 1 ∷ nothing ∷ nothing ∷ plus 9 ∷ [])))
    ∷ call (codes "UPDATE-NTH") (plus 0 ∷ plus 9 ∷ nothing ∷ []) (value (list (plus 9 ∷ [])))
    ∷ call (codes "UPDATE-NTH") (greatest ∷ plus 9 ∷ nothing ∷ []) (Stops Large)
    ∷ call (codes "UPDATE-NTH") (plus (2 ^ 20 + 1) ∷ plus 9 ∷ one_two ∷ []) (Stops Large)
    ∷ call (codes "UPDATE-NTH") (plus 0 ∷ plus 9 ∷ dotted ∷ []) (Stops Guard)
    ∷ call (codes "UPDATE-NTH") (minus 1 ∷ plus 9 ∷ one_two ∷ []) (Stops Guard)
    ∷ call (codes "BINARY-APPEND") (one_two ∷ plus 3 ∷ []) (value (list_onto (plus 1 ∷ plus 2 ∷ []) (plus 3)))
    ∷ call (codes "BINARY-APPEND") (nothing ∷ plus 5 ∷ []) (value (plus 5))
    ∷ call (codes "BINARY-APPEND") (dotted ∷ nothing ∷ []) (Stops Guard)
    ∷ call (codes "REVAPPEND") (one_two ∷ list (plus 3 ∷ []) ∷ []) (value (list (plus 2 ∷ plus 1 ∷ plus 3 ∷ [])))
    ∷ call (codes "REVAPPEND") (nothing ∷ t ∷ []) (value t)
    ∷ call (codes "REVAPPEND") (plus 5 ∷ nothing ∷ []) (Stops Guard)
    ∷ call (codes "UNION-EQUAL") (list (plus 1 ∷ plus 2 ∷ plus 1 ∷ []) ∷ list (plus 2 ∷ plus 3 ∷ []) ∷ []) (value (list (plus 1 ∷ plus 1 ∷ plus 2 ∷ plus 3 ∷ [])))
    ∷ call (codes "UNION-EQUAL") (nothing ∷ one_two ∷ []) (value one_two)
    ∷ call (codes "UNION-EQUAL") (one_two ∷ dotted ∷ []) (Stops Guard)
    ∷ call (codes "UNION-EQUAL") (dotted ∷ one_two ∷ []) (Stops Guard)
    ∷ []

unfoldable pub search_examples : List Example
search_examples =
    call (codes "MEMBER-EQUAL") (plus 2 ∷ list (plus 1 ∷ plus 2 ∷ plus 3 ∷ []) ∷ []) (value (list (plus 2 ∷ plus 3 ∷ [])))
    ∷ call (codes "MEMBER-EQUAL") (plus 4 ∷ one_two ∷ []) no_value
    ∷ call (codes "MEMBER-EQUAL") (Text (codes "A") ∷ list (Text (codes "A") ∷ []) ∷ []) (value (list (Text (codes "A") ∷ [])))
    ∷ call (codes "MEMBER-EQUAL") (nothing ∷ list (nothing ∷ []) ∷ []) (value (list (nothing ∷ [])))
    ∷ call (codes "MEMBER-EQUAL") (plus 1 ∷ dotted ∷ []) (Stops Guard)
    ∷ call (codes "ASSOC-EQUAL") (plus 1 ∷ list (Pair (plus 2) (plus 5) ∷ dotted ∷ []) ∷ []) (value dotted)
    ∷ call (codes "ASSOC-EQUAL") (plus 9 ∷ list (dotted ∷ []) ∷ []) no_value
    ∷ call (codes "ASSOC-EQUAL") (nothing ∷ list (dotted ∷ Pair nothing (plus 3) ∷ []) ∷ []) (value (Pair nothing (plus 3)))
    ∷ call (codes "ASSOC-EQUAL") (plus 1 ∷ one_two ∷ []) (Stops Guard)
    ∷ call (codes "ASSOC-EQUAL") (plus 1 ∷ Pair dotted (plus 3) ∷ []) (Stops Guard)
    ∷ []

abbrev pub paired : Object ℕ → Object ℕ → Applied
paired a d = answer_to (call (codes "CONS") (a ∷ d ∷ []) no_value)

-- the heaviest pair is a value, and one that is heavier by one is none
pub record HasWeightLimit : Type 0 where
  pub heaviest : (a d : Object ℕ) → 1 + (weight a + weight d) ≡ 1048576 → paired a d ≡ value (Pair a d)
  pub heavier : (a d : Object ℕ) → 1 + (weight a + weight d) ≡ 1048577 → paired a d ≡ Stops Large
