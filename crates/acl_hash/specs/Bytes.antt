-- The byte form of an object: a byte for its kind, and then its number, its bytes or its parts.
use Rattle.std.specs.Prelude.{◌≡◌, ℕ, zero, suc, ◌+◌, ◌<◌, ◌/◌, ◌%◌, ◌^◌, ◌*◌, List, [], ◌∷◌, ◌++◌, length, take, drop, ℤ, pos, negsuc, true, nat_eq, nat_lt, if◌then◌else◌}
use Rattle.std.specs.Int.{w64, to_le_bytes, from_le_bytes}
use Rattle.model_objects.specs.Object.{Object, Integer, Symbol, Text, Pair, fits_128}
use Rattle.acl_hash.specs.declared.bytes.Kind.{Kind}
use Rattle.acl_hash.specs.declared.bytes.Kind.TheVariants as kind

-- ---- writing

-- the eight bytes of a number of 64 bits, the lowest first
unfoldable pub low_bytes : ℕ → List ℕ
low_bytes n = to_le_bytes w64 n

-- the first byte of an object
abbrev pub kind_byte : Kind → ℕ
kind_byte kind.Natural = 0
kind_byte kind.Negative = 1
kind_byte kind.WideNatural = 2
kind_byte kind.WideNegative = 3
kind_byte kind.Named = 4
kind_byte kind.Spelt = 5
kind_byte kind.Parted = 6

-- a kind, and a number of 64 bits
abbrev pub narrow_bytes : Kind → ℕ → List ℕ
narrow_bytes k n = kind_byte k ∷ low_bytes n

-- a kind, and a number of 128 bits, its lower half first
abbrev pub wide_bytes : Kind → ℕ → List ℕ
wide_bytes k n = kind_byte k ∷ (low_bytes (n % 2 ^ 64) ++ low_bytes (n / 2 ^ 64))

abbrev pub number_bytes : Kind → Kind → ℕ → List ℕ
number_bytes narrow wide n = if nat_lt n (2 ^ 64) then narrow_bytes narrow n else wide_bytes wide n

unfoldable pub integer_bytes : ℤ → List ℕ
integer_bytes (pos n) = number_bytes kind.Natural kind.WideNatural n
integer_bytes (negsuc n) = number_bytes kind.Negative kind.WideNegative n

-- the byte form of an object
abbrev pub key_bytes : Object ℕ → List ℕ
key_bytes (Integer n) = integer_bytes n
key_bytes (Symbol s) = narrow_bytes kind.Named s
key_bytes (Text bytes) = narrow_bytes kind.Spelt (length bytes) ++ bytes
key_bytes (Pair a d) = kind_byte kind.Parted ∷ (key_bytes a ++ key_bytes d)

-- ---- reading

-- the number that bytes begin with
unfoldable pub low_number : List ℕ → ℕ
low_number bs = from_le_bytes w64 (take 8 bs)

abbrev pub wide_number : List ℕ → ℕ
wide_number bs = low_number bs + low_number (drop 8 bs) * 2 ^ 64

-- an object, and the bytes behind it
abbrev pub Read : Type 0
Read = Object ℕ × List ℕ

abbrev pub paired : Object ℕ → Read → Read
paired a r = (Pair a r.0, r.1)

-- what stands behind a first byte; `again` reads an object
unfoldable pub read_kind : (List ℕ → Read) → ℕ → List ℕ → Read
read_kind again k bs =
    if nat_eq k 0 then (Integer (pos (low_number bs)), drop 8 bs)
    else if nat_eq k 1 then (Integer (negsuc (low_number bs)), drop 8 bs)
    else if nat_eq k 2 then (Integer (pos (wide_number bs)), drop 16 bs)
    else if nat_eq k 3 then (Integer (negsuc (wide_number bs)), drop 16 bs)
    else if nat_eq k 4 then (Symbol (low_number bs), drop 8 bs)
    else if nat_eq k 5 then (Text (take (low_number bs) (drop 8 bs)), drop (low_number bs) (drop 8 bs))
    else paired (again bs).0 (again (again bs).1)

-- the object that bytes begin with, where it is not deeper than this
abbrev pub read : ℕ → List ℕ → Read
read zero bs = (Integer (pos 0), bs)
read (suc depth) [] = (Integer (pos 0), [])
read (suc depth) (k ∷ bs) = read_kind (read depth) k bs

-- the object of which these are the bytes
unfoldable pub object_in : List ℕ → Object ℕ
object_in bs = (read (length bs) bs).0

-- ---- what has a byte form

-- an object whose integers have 128 bits, and whose symbols' numbers and strings' lengths have 64
abbrev pub HasBytes : Object ℕ → Type 0
HasBytes (Integer n) = fits_128 n ≡ true
HasBytes (Symbol s) = s < 2 ^ 64
HasBytes (Text bytes) = length bytes < 2 ^ 64
HasBytes (Pair a d) = HasBytes a × HasBytes d
