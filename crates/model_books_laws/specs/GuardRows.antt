-- Calls of generated functions, and whether their guards are to hold.
use Rattle.std.specs.Prelude.{ℕ, List, [], ◌∷◌, ◌++◌, map, true, false, codes, pos, neg_ℤ}
use Rattle.model_objects.specs.Object.{Object, Integer, Symbol, Text, Pair}
use Rattle.model_symbols.specs.Symbols.{QualifiedName}
use Rattle.model_symbols.specs.Opening.{acl2}
use Rattle.model_prims.specs.Kinds.{by_name}
use Rattle.model_books.specs.Lines.{Bytes}
use Rattle.model_books_laws.specs.GuardTests.{Question, GuardsAgree, GuardsSay}

abbrev Argument : Type 0
Argument = Object QualifiedName

abbrev n : ℕ → Argument
n k = Integer (pos k)

abbrev minus : ℕ → Argument
minus k = Integer (neg_ℤ (pos k))

abbrev word : List ℕ → Argument
word name = Symbol (record { home = acl2; name = name })

-- symbols of a definition
abbrev a : Argument
a = word (codes "A")

abbrev b : Argument
b = word (codes "B")

-- a symbol that every session knows
abbrev zip : Argument
zip = word (codes "ZIP")

abbrev no : Argument
no = Symbol by_name.nil

abbrev yes : Argument
yes = Symbol by_name.truth

abbrev text : Argument
text = Text (codes "A")

abbrev pair : Argument
pair = Pair zip (n 5)

abbrev lets : List ℕ → List Argument → Question
lets function arguments = record { function = function; arguments = arguments; answer = true }

abbrev refuses : List ℕ → List Argument → Question
refuses function arguments = record { function = function; arguments = arguments; answer = false }

-- functions without ordinary arguments, which may all be called
abbrev runs : List (List ℕ) → List Question
runs functions = map (λ (function : List ℕ). lets function []) functions

-- a function of one ordinary argument: those that it takes, and those that it does not
abbrev takes : List ℕ → List Argument → List Argument → List Question
takes function good bad = map (λ (o : Argument). lets function (o ∷ [])) good ++ map (λ (o : Argument). refuses function (o ∷ [])) bad

-- the same of two
abbrev takes_two : List ℕ → List (Argument × Argument) → List (Argument × Argument) → List Question
takes_two function good bad =
    map (λ (p : Argument × Argument). lets function (p.0 ∷ p.1 ∷ [])) good ++ map (λ (p : Argument × Argument). refuses function (p.0 ∷ p.1 ∷ [])) bad

-- ---- scalar fields

-- numbers of each kind of type
unfoldable pub number_objects : List Bytes
number_objects =
    codes "(defstobj st (num :type integer :initially 0) (five :type (integer 0 5) :initially 0) (byte :type (unsigned-byte 8) :initially 0) (signed :type (signed-byte 8) :initially 0) (flag :type bit :initially 0))" ∷ []

unfoldable pub number_questions : List Question
number_questions =
    runs (codes "NUM" ∷ codes "BYTE" ∷ codes "STP" ∷ [])
    ++ (takes (codes "UPDATE-NUM") (n 7 ∷ minus 7 ∷ []) (yes ∷ text ∷ [])
    ++ (takes (codes "UPDATE-FIVE") (n 0 ∷ n 5 ∷ []) (n 6 ∷ minus 1 ∷ no ∷ [])
    ++ (takes (codes "UPDATE-BYTE") (n 0 ∷ n 255 ∷ []) (n 256 ∷ minus 1 ∷ [])
    ++ (takes (codes "UPDATE-SIGNED") (minus 128 ∷ n 127 ∷ []) (minus 129 ∷ n 128 ∷ [])
    ++ (takes (codes "UPDATE-FLAG") (n 0 ∷ n 1 ∷ []) (n 2 ∷ yes ∷ [])
    ++ takes (codes "FIVEP") (text ∷ []) [])))))

-- symbols, strings and types that are made of others
unfoldable pub word_objects : List Bytes
word_objects =
    codes "(defstobj st (sym :type symbol) (str :type string :initially \"\") (pick :type (member a b) :initially a) (either :type (or integer symbol)) (other :type (not integer)) (any))" ∷ []

unfoldable pub word_questions : List Question
word_questions =
    runs (codes "PICK" ∷ codes "ANY" ∷ [])
    ++ (takes (codes "UPDATE-SYM") (zip ∷ no ∷ []) (n 0 ∷ text ∷ pair ∷ [])
    ++ (takes (codes "UPDATE-STR") (text ∷ []) (zip ∷ n 65 ∷ pair ∷ [])
    ++ (takes (codes "UPDATE-PICK") (a ∷ b ∷ []) (zip ∷ n 0 ∷ pair ∷ [])
    ++ (takes (codes "UPDATE-EITHER") (n 3 ∷ zip ∷ []) (text ∷ pair ∷ [])
    ++ (takes (codes "UPDATE-OTHER") (zip ∷ pair ∷ []) (n 5 ∷ minus 5 ∷ [])
    ++ takes (codes "UPDATE-ANY") (n 5 ∷ zip ∷ text ∷ pair ∷ []) [])))))

-- ---- arrays

-- arrays that keep their length
unfoldable pub array_objects : List Bytes
array_objects =
    codes "(defstobj st (arr :type (array (integer 0 9) (8)) :initially 0) (any :type (array t (8))))" ∷ []

unfoldable pub array_questions : List Question
array_questions =
    runs (codes "ARR-LENGTH" ∷ codes "ANY-LENGTH" ∷ [])
    ++ (takes (codes "ARRP") (text ∷ []) []
    ++ (takes (codes "ARRI") (n 0 ∷ n 7 ∷ []) (minus 1 ∷ n 8 ∷ zip ∷ text ∷ no ∷ [])
    ++ (takes_two (codes "UPDATE-ARRI") ((n 0, n 9) ∷ (n 7, n 0) ∷ []) ((n 0, n 10) ∷ (n 0, minus 1) ∷ (n 0, zip) ∷ (n 8, n 0) ∷ (minus 1, n 0) ∷ (zip, n 0) ∷ (n 8, n 10) ∷ [])
    ++ (takes (codes "ANYI") (n 7 ∷ []) (n 8 ∷ minus 1 ∷ [])
    ++ (takes_two (codes "UPDATE-ANYI") ((n 0, pair) ∷ (n 7, text) ∷ []) ((n 8, n 0) ∷ (pair, n 0) ∷ [])
    ++ (takes (codes "RESIZE-ARR") [] (n 0 ∷ n 8 ∷ zip ∷ [])
    ++ takes (codes "RESIZE-ANY") [] (n 8 ∷ [])))))))

-- an array that may be resized, of eight elements
unfoldable pub resized_objects : List Bytes
resized_objects =
    codes "(defstobj st (arr :type (array bit (8)) :initially 0 :resizable t))" ∷ []

unfoldable pub resized_questions : List Question
resized_questions =
    takes (codes "RESIZE-ARR") (n 0 ∷ n 3 ∷ n 8 ∷ n 12 ∷ n 16777216 ∷ []) (n 16777217 ∷ minus 1 ∷ zip ∷ text ∷ pair ∷ [])
    ++ (takes (codes "ARRI") (n 7 ∷ []) (n 8 ∷ [])
    ++ takes_two (codes "UPDATE-ARRI") ((n 7, n 1) ∷ []) ((n 7, n 2) ∷ []))

-- the same once it has three
unfoldable pub shortened_objects : List Bytes
shortened_objects =
    codes "(defstobj st (arr :type (array bit (8)) :initially 0 :resizable t))"
    ∷ codes "(resize-arr 3 st)" ∷ []

unfoldable pub shortened_questions : List Question
shortened_questions =
    takes (codes "ARRI") (n 0 ∷ n 2 ∷ []) (n 3 ∷ n 7 ∷ [])
    ++ (takes_two (codes "UPDATE-ARRI") ((n 2, n 1) ∷ []) ((n 3, n 1) ∷ [])
    ++ takes (codes "RESIZE-ARR") (n 4 ∷ []) (n 16777217 ∷ []))

-- the same once it has none
unfoldable pub emptied_objects : List Bytes
emptied_objects =
    codes "(defstobj st (arr :type (array bit (8)) :initially 0 :resizable t))"
    ∷ codes "(resize-arr 0 st)" ∷ []

unfoldable pub emptied_questions : List Question
emptied_questions =
    takes (codes "ARRI") [] (n 0 ∷ minus 1 ∷ [])
    ++ takes_two (codes "UPDATE-ARRI") [] ((n 0, n 1) ∷ [])

-- ---- hash fields

-- keys that are symbols
unfoldable pub symbol_key_objects : List Bytes
symbol_key_objects =
    codes "(defstobj st (q :type (hash-table eq)))" ∷ []

unfoldable pub symbol_key_questions : List Question
symbol_key_questions =
    runs (codes "Q-COUNT" ∷ codes "Q-CLEAR" ∷ [])
    ++ (takes (codes "Q-GET") (zip ∷ no ∷ []) (n 5 ∷ text ∷ pair ∷ [])
    ++ (takes (codes "Q-BOUNDP") (zip ∷ no ∷ []) (n 5 ∷ text ∷ pair ∷ [])
    ++ (takes (codes "Q-GET?") (zip ∷ no ∷ []) (n 5 ∷ text ∷ pair ∷ [])
    ++ (takes (codes "Q-REM") (zip ∷ no ∷ []) (n 5 ∷ text ∷ pair ∷ [])
    ++ (takes_two (codes "Q-PUT") ((zip, text) ∷ (no, text) ∷ []) ((n 5, n 5) ∷ (text, n 5) ∷ (pair, n 5) ∷ [])
    ++ takes (codes "QP") (text ∷ []) [])))))

-- keys that are symbols or integers
unfoldable pub simple_key_objects : List Bytes
simple_key_objects =
    codes "(defstobj st (l :type (hash-table eql)))" ∷ []

unfoldable pub simple_key_questions : List Question
simple_key_questions =
    runs (codes "L-COUNT" ∷ codes "L-CLEAR" ∷ [])
    ++ (takes (codes "L-GET") (zip ∷ n 5 ∷ minus 5 ∷ []) (text ∷ pair ∷ [])
    ++ (takes (codes "L-BOUNDP") (zip ∷ n 5 ∷ minus 5 ∷ []) (text ∷ pair ∷ [])
    ++ (takes (codes "L-GET?") (zip ∷ n 5 ∷ minus 5 ∷ []) (text ∷ pair ∷ [])
    ++ (takes (codes "L-REM") (zip ∷ n 5 ∷ minus 5 ∷ []) (text ∷ pair ∷ [])
    ++ takes_two (codes "L-PUT") ((zip, text) ∷ (n 5, text) ∷ (minus 5, text) ∷ []) ((text, n 5) ∷ (pair, n 5) ∷ [])))))

-- keys of all kinds
unfoldable pub any_key_objects : List Bytes
any_key_objects =
    codes "(defstobj st (e :type (hash-table equal)))" ∷ []

unfoldable pub any_key_questions : List Question
any_key_questions =
    runs (codes "E-COUNT" ∷ codes "E-CLEAR" ∷ [])
    ++ (takes (codes "E-GET") (zip ∷ n 5 ∷ text ∷ pair ∷ []) []
    ++ (takes (codes "E-BOUNDP") (zip ∷ n 5 ∷ text ∷ pair ∷ []) []
    ++ (takes (codes "E-GET?") (zip ∷ n 5 ∷ text ∷ pair ∷ []) []
    ++ (takes (codes "E-REM") (zip ∷ n 5 ∷ text ∷ pair ∷ []) []
    ++ takes_two (codes "E-PUT") ((zip, text) ∷ (n 5, text) ∷ (text, text) ∷ (pair, text) ∷ []) []))))

-- ---- children

-- where a child is bound
unfoldable pub child_objects : List Bytes
child_objects =
    codes "(defstobj kid (k))"
    ∷ codes "(defstobj st (one :type kid) (kids :type (array kid (8))))" ∷ []

unfoldable pub child_questions : List Question
child_questions =
    runs (codes "ONE" ∷ codes "KIDS-LENGTH" ∷ [])
    ++ (takes (codes "ONEP") (n 5 ∷ []) []
    ++ (takes (codes "KIDSI") (n 0 ∷ n 7 ∷ []) (minus 1 ∷ n 8 ∷ zip ∷ pair ∷ [])
    ++ takes (codes "RESIZE-KIDS") [] (n 8 ∷ n 0 ∷ [])))

-- where a child is put back, which no call does alone
unfoldable pub put_back_objects : List Bytes
put_back_objects =
    codes "(defstobj kid (k))"
    ∷ codes "(defstobj st (one :type kid) (kids :type (array kid (8))))" ∷ []

unfoldable pub put_back_questions : List Question
put_back_questions =
    runs (codes "UPDATE-ONE" ∷ [])
    ++ takes (codes "UPDATE-KIDSI") (n 0 ∷ n 7 ∷ []) (minus 1 ∷ n 8 ∷ zip ∷ [])

-- each guard holds exactly where the call is let through
pub record GuardsAgreeWithEffects : Type 0 where
  pub number : GuardsAgree number_objects number_questions
  pub word : GuardsAgree word_objects word_questions
  pub array : GuardsAgree array_objects array_questions
  pub resized : GuardsAgree resized_objects resized_questions
  pub shortened : GuardsAgree shortened_objects shortened_questions
  pub emptied : GuardsAgree emptied_objects emptied_questions
  pub symbol_key : GuardsAgree symbol_key_objects symbol_key_questions
  pub simple_key : GuardsAgree simple_key_objects simple_key_questions
  pub any_key : GuardsAgree any_key_objects any_key_questions
  pub child : GuardsAgree child_objects child_questions
  pub put_back : GuardsSay put_back_objects put_back_questions
