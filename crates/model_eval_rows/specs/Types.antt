-- Types as they are written, and what meets them.
use Rattle.std.specs.Prelude.{◌≡◌, ℕ, ◌-◌, ◌^◌, List, [], ◌∷◌, map, Bool, true, false, Option, Some, None, pos, neg_ℤ}
use Rattle.std.specs.Option.{option_map}
use Rattle.model_objects.specs.Object.{Object, Integer, Symbol, Text, Pair, list_onto}
use Rattle.model_symbols.specs.Opening.{nil, truth}
use Rattle.model_prims.specs.Kinds.{by_number}
use Rattle.model_lists.specs.Types.{ValueType, meets, type_of, atom_word, null_word, cons_word, not_word, star_word, member_word, and_word, or_word, integer_word, signed_byte_word, unsigned_byte_word, bit_word, symbol_word, string_word, boolean_word}
use Rattle.model_eval_rows.specs.Books.{number, symbol}

-- a type as it is written, an object, and whether it meets the type; None where it is no type
pub record TypeRow : Type 0 where
  pub written : Object ℕ
  pub object : Object ℕ
  pub answer : Option Bool

abbrev pub tested : TypeRow → Option Bool
tested r = option_map (λ (t : ValueType ℕ). meets by_number t r.object) (type_of (λ (o : Object ℕ). o) r.written)

pub record TypesAreRight (rows : List TypeRow) : Type 0 where
  pub all : map tested rows ≡ map (λ (r : TypeRow). r.answer) rows

abbrev row : Object ℕ → Object ℕ → Option Bool → TypeRow
row written object answer = record { written = written; object = object; answer = answer }

abbrev meets_it : Object ℕ → Object ℕ → TypeRow
meets_it written object = row written object (Some true)

abbrev fails_it : Object ℕ → Object ℕ → TypeRow
fails_it written object = row written object (Some false)

abbrev no_type : Object ℕ → TypeRow
no_type written = row written (number 0) None

abbrev minus : ℕ → Object ℕ
minus n = Integer (neg_ℤ (pos n))

abbrev list : List (Object ℕ) → Object ℕ
list os = list_onto os (Symbol nil)

abbrev star : Object ℕ
star = Symbol star_word

abbrev integer : Object ℕ
integer = Symbol integer_word

abbrev between : Object ℕ → Object ℕ → Object ℕ
between low high = list (integer ∷ low ∷ high ∷ [])

abbrev unsigned_byte : ℕ → Object ℕ
unsigned_byte n = list (Symbol unsigned_byte_word ∷ number n ∷ [])

abbrev signed_byte : ℕ → Object ℕ
signed_byte n = list (Symbol signed_byte_word ∷ number n ∷ [])

abbrev a : Object ℕ
a = symbol 200

abbrev b : Object ℕ
b = symbol 201

unfoldable pub type_rows : List TypeRow
type_rows =
    meets_it (Symbol truth) a
    ∷ meets_it integer (minus 3) ∷ fails_it integer a
    ∷ meets_it (Symbol signed_byte_word) (minus 3)
    ∷ meets_it (Symbol unsigned_byte_word) (number 0) ∷ fails_it (Symbol unsigned_byte_word) (minus 1)
    ∷ meets_it (Symbol bit_word) (number 1) ∷ fails_it (Symbol bit_word) (number 2)
    ∷ meets_it (Symbol symbol_word) a ∷ fails_it (Symbol symbol_word) (Text [])
    ∷ meets_it (Symbol string_word) (Text []) ∷ fails_it (Symbol string_word) a
    ∷ meets_it (Symbol cons_word) (Pair a b) ∷ fails_it (Symbol cons_word) a
    ∷ meets_it (Symbol atom_word) a ∷ fails_it (Symbol atom_word) (Pair a b)
    ∷ meets_it (Symbol null_word) (Symbol nil) ∷ fails_it (Symbol null_word) a
    ∷ meets_it (Symbol boolean_word) (Symbol nil) ∷ fails_it (Symbol boolean_word) a
    -- ranges, with both ends
    ∷ meets_it (between (number 0) (number 10)) (number 0) ∷ meets_it (between (number 0) (number 10)) (number 10)
    ∷ fails_it (between (number 0) (number 10)) (number 11) ∷ fails_it (between (number 0) (number 10)) (minus 1) ∷ fails_it (between (number 0) (number 10)) a
    ∷ meets_it (between star (number 10)) (minus 5) ∷ fails_it (between star (number 10)) (number 11)
    ∷ meets_it (between (number 5) star) (number 5) ∷ fails_it (between (number 5) star) (number 4)
    ∷ meets_it (between star star) (number 5) ∷ fails_it (between star star) a
    ∷ fails_it (between (number 5) (number 1)) (number 3)
    -- bytes
    ∷ meets_it (unsigned_byte 8) (number 255) ∷ fails_it (unsigned_byte 8) (number 256) ∷ fails_it (unsigned_byte 8) (minus 1)
    ∷ meets_it (unsigned_byte 127) (number (2 ^ 127 - 1)) ∷ no_type (unsigned_byte 128) ∷ no_type (unsigned_byte 0)
    ∷ meets_it (signed_byte 8) (minus 128) ∷ meets_it (signed_byte 8) (number 127) ∷ fails_it (signed_byte 8) (number 128) ∷ fails_it (signed_byte 8) (minus 129)
    ∷ meets_it (signed_byte 1) (minus 1) ∷ fails_it (signed_byte 1) (number 1)
    ∷ meets_it (signed_byte 128) (minus (2 ^ 127)) ∷ no_type (signed_byte 129)
    -- members
    ∷ meets_it (list (Symbol member_word ∷ a ∷ number 1 ∷ [])) (number 1) ∷ fails_it (list (Symbol member_word ∷ a ∷ number 1 ∷ [])) b
    ∷ fails_it (list (Symbol member_word ∷ [])) (Symbol nil) ∷ no_type (Pair (Symbol member_word) (number 1))
    -- several types
    ∷ meets_it (list (Symbol or_word ∷ integer ∷ Symbol symbol_word ∷ [])) a ∷ fails_it (list (Symbol or_word ∷ integer ∷ Symbol symbol_word ∷ [])) (Text [])
    ∷ fails_it (list (Symbol or_word ∷ [])) a ∷ meets_it (list (Symbol or_word ∷ Symbol truth ∷ [])) a
    ∷ meets_it (list (Symbol and_word ∷ integer ∷ list (Symbol not_word ∷ Symbol bit_word ∷ []) ∷ [])) (number 5)
    ∷ fails_it (list (Symbol and_word ∷ integer ∷ list (Symbol not_word ∷ Symbol bit_word ∷ []) ∷ [])) (number 1)
    ∷ meets_it (list (Symbol and_word ∷ [])) a
    ∷ meets_it (list (Symbol not_word ∷ integer ∷ [])) a ∷ fails_it (list (Symbol not_word ∷ integer ∷ [])) (number 1)
    -- no types
    ∷ no_type (list (integer ∷ [])) ∷ no_type (list (integer ∷ number 0 ∷ [])) ∷ no_type (list (integer ∷ number 0 ∷ number 1 ∷ number 2 ∷ []))
    ∷ no_type (between a (number 1)) ∷ no_type (list (Symbol not_word ∷ [])) ∷ no_type (list (Symbol not_word ∷ integer ∷ integer ∷ []))
    ∷ no_type a ∷ no_type (number 5) ∷ no_type (list (Symbol or_word ∷ integer ∷ a ∷ [])) ∷ no_type (list (a ∷ []))
    ∷ no_type (list (Symbol unsigned_byte_word ∷ star ∷ [])) ∷ no_type (list (Symbol bit_word ∷ []))
    ∷ []
