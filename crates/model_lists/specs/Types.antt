-- Types: what may stand in a field (ACL2's manual, topic TYPE-SPEC).
use Rattle.std.specs.Prelude.{ℕ, ◌-◌, ◌^◌, Bool, true, false, not, ◌&&◌, ◌||◌, Option, Some, None, ℤ, pos, neg_ℤ, int_lt, nat_eq, nat_le, if◌then◌else◌}
use Rattle.model_objects.specs.Object.{Object, Integer, Symbol, Text, Pair}
use Rattle.model_symbols.specs.Opening.{truth, nil}
use Rattle.model_prims.specs.Kinds.{SymbolKind, by_number, is_integer}
use Rattle.model_prims.specs.Numbers.{fix}
use Rattle.model_prims.specs.Lists.{is_true_list, is_member}
use Rattle.model_prims.specs.Values.{recognized}
use Rattle.model_prims.specs.declared.prim.Recognizer.{Recognizer}
use Rattle.model_prims.specs.declared.prim.Recognizer.TheVariants as recognizer

pub data ValueType (S : Type 0) : Type 0 where
  Anything : ValueType S
  Nothing : ValueType S
  Integers : Option ℤ → Option ℤ → ValueType S  -- from the least to the greatest, where there are these
  Recognized : Recognizer → ValueType S
  OneOf : Object S → ValueType S  -- the elements of this list
  Either : ValueType S → ValueType S → ValueType S
  Both : ValueType S → ValueType S → ValueType S
  Other : ValueType S → ValueType S

-- ---- what meets a type

abbrev pub is_least : Option ℤ → ℤ → Bool
is_least None n = true
is_least (Some low) n = not (int_lt n low)

abbrev pub is_greatest : Option ℤ → ℤ → Bool
is_greatest None n = true
is_greatest (Some high) n = not (int_lt high n)

abbrev pub meets : {S : Type 0} → SymbolKind S → ValueType S → Object S → Bool
meets k Anything x = true
meets k Nothing x = false
meets k (Integers low high) x = is_integer x && (is_least low (fix x) && is_greatest high (fix x))
meets k (Recognized r) x = recognized k r x
meets k (OneOf l) x = is_member k x l
meets k (Either a b) x = meets k a x || meets k b x
meets k (Both a b) x = meets k a x && meets k b x
meets k (Other a) x = not (meets k a x)

-- ---- the numbers of the words that types are written with

abbrev pub atom_word : ℕ
atom_word = 10

abbrev pub null_word : ℕ
null_word = 12

abbrev pub cons_word : ℕ
cons_word = 8

abbrev pub not_word : ℕ
not_word = 13

abbrev pub star_word : ℕ
star_word = 27

abbrev pub member_word : ℕ
member_word = 52

abbrev pub and_word : ℕ
and_word = 54

abbrev pub or_word : ℕ
or_word = 55

abbrev pub integer_word : ℕ
integer_word = 106

abbrev pub signed_byte_word : ℕ
signed_byte_word = 107

abbrev pub unsigned_byte_word : ℕ
unsigned_byte_word = 108

abbrev pub bit_word : ℕ
bit_word = 109

abbrev pub symbol_word : ℕ
symbol_word = 110

abbrev pub string_word : ℕ
string_word = 111

abbrev pub boolean_word : ℕ
boolean_word = 112

-- ---- the type that an object is written for

abbrev pub integers : {S : Type 0} → ℤ → ℤ → ValueType S
integers low high = Integers (Some low) (Some high)

-- a type that is one word
abbrev pub word_type : {S : Type 0} → ℕ → Option (ValueType S)
word_type s =
    if nat_eq s truth then Some Anything
    else if nat_eq s integer_word then Some (Integers None None)
    else if nat_eq s signed_byte_word then Some (Integers None None)
    else if nat_eq s unsigned_byte_word then Some (Integers (Some (pos 0)) None)
    else if nat_eq s bit_word then Some (integers (pos 0) (pos 1))
    else if nat_eq s symbol_word then Some (Recognized recognizer.Symbolp)
    else if nat_eq s string_word then Some (Recognized recognizer.Stringp)
    else if nat_eq s cons_word then Some (Recognized recognizer.Consp)
    else if nat_eq s atom_word then Some (Recognized recognizer.Atom)
    else if nat_eq s null_word then Some (Recognized recognizer.Null)
    else if nat_eq s boolean_word then Some (Recognized recognizer.Booleanp)
    else None

-- an end of a range: an integer, or a star where there is none
abbrev pub bound_of : Object ℕ → Option (Option ℤ)
bound_of (Integer n) = Some (Some n)
bound_of (Symbol s) = if nat_eq s star_word then Some None else None
bound_of (Text bytes) = None
bound_of (Pair a d) = None

abbrev pub range_between : {S : Type 0} → Option (Option ℤ) → Option (Option ℤ) → Option (ValueType S)
range_between None high = None
range_between (Some low) None = None
range_between (Some low) (Some high) = Some (Integers low high)

abbrev pub is_nil_word : Object ℕ → Bool
is_nil_word (Integer n) = false
is_nil_word (Symbol s) = nat_eq s nil
is_nil_word (Text bytes) = false
is_nil_word (Pair a d) = false

-- the only element of a list
abbrev pub only_element : Object ℕ → Option (Object ℕ)
only_element (Integer n) = None
only_element (Symbol s) = None
only_element (Text bytes) = None
only_element (Pair a d) = if is_nil_word d then Some a else None

-- `(low high)`
abbrev pub range_of : {S : Type 0} → Object ℕ → Option (ValueType S)
range_of (Integer n) = None
range_of (Symbol s) = None
range_of (Text bytes) = None
range_of (Pair low d) = high_of (bound_of low) (only_element d)
  where
    high_of : {S : Type 0} → Option (Option ℤ) → Option (Object ℕ) → Option (ValueType S)
    high_of low None = None
    high_of low (Some high) = range_between low (bound_of high)

-- `(bits)`, from 1 to so many
abbrev pub bits_of : ℕ → Option (Object ℕ) → Option ℕ
bits_of most None = None
bits_of most (Some (Integer (pos n))) = if nat_le 1 n && nat_le n most then Some n else None
bits_of most (Some o) = None

abbrev pub unsigned_type : {S : Type 0} → Option ℕ → Option (ValueType S)
unsigned_type None = None
unsigned_type (Some n) = Some (integers (pos 0) (pos (2 ^ n - 1)))

abbrev pub signed_type : {S : Type 0} → Option ℕ → Option (ValueType S)
signed_type None = None
signed_type (Some n) = Some (integers (neg_ℤ (pos (2 ^ (n - 1)))) (pos (2 ^ (n - 1) - 1)))

-- what an object is as a type, and as a list of types of which any is to be met, or all are
pub record Reading (S : Type 0) : Type 0 where
  pub one : Option (ValueType S)
  pub any : Option (ValueType S)
  pub all : Option (ValueType S)

abbrev pub joined : {S : Type 0} → (ValueType S → ValueType S → ValueType S) → Option (ValueType S) → Option (ValueType S) → Option (ValueType S)
joined join None b = None
joined join (Some a) None = None
joined join (Some a) (Some b) = Some (join a b)

abbrev pub denied : {S : Type 0} → Option (Object ℕ) → Option (ValueType S) → Option (ValueType S)
denied None t = None
denied (Some element) None = None
denied (Some element) (Some t) = Some (Other t)

module _ {S : Type 0} (see : Object ℕ → Object S) where
  -- a type that is a list with this head; `rest` is what the list after it is
  abbrev pub headed_type : ℕ → Object ℕ → Reading S → Option (ValueType S)
  headed_type s d rest =
      if nat_eq s or_word then rest.any
      else if nat_eq s and_word then rest.all
      else if nat_eq s not_word then denied (only_element d) rest.any
      else if nat_eq s integer_word then range_of d
      else if nat_eq s unsigned_byte_word then unsigned_type (bits_of 127 (only_element d))
      else if nat_eq s signed_byte_word then signed_type (bits_of 128 (only_element d))
      else if nat_eq s member_word then (if is_true_list by_number d then Some (OneOf (see d)) else None)
      else None

  abbrev pub listed_type : Object ℕ → Object ℕ → Reading S → Option (ValueType S)
  listed_type (Integer n) d rest = None
  listed_type (Symbol s) d rest = headed_type s d rest
  listed_type (Text bytes) d rest = None
  listed_type (Pair a b) d rest = None

  abbrev pub reading : Object ℕ → Reading S
  reading (Integer n) = record { one = None; any = None; all = None }
  reading (Symbol s) = record {
    one = word_type s;
    any = if nat_eq s nil then Some Nothing else None;
    all = if nat_eq s nil then Some Anything else None;
  }
  reading (Text bytes) = record { one = None; any = None; all = None }
  reading (Pair a d) = record {
    one = listed_type a d (reading d);
    any = joined Either (reading a).one (reading d).any;
    all = joined Both (reading a).one (reading d).all;
  }

  -- the type that an object is written for; symbols in it are seen by `see`
  abbrev pub type_of : Object ℕ → Option (ValueType S)
  type_of o = (reading o).one
