-- What was written is read back.
use Rattle.std.specs.Prelude.{◌≡◌, ℕ, zero, suc, ◌+◌, ◌<◌, ◌≤◌, ◌/◌, ◌%◌, ◌^◌, ◌*◌, List, [], ◌∷◌, ◌++◌, length, take, drop, ℤ, pos, negsuc, Bool, true, false, nat_lt, if◌then◌else◌, refl}
use Rattle.std.proofs.Common.{ap, sym, ◌∙◌, arith, length-append}
use Rattle.std.proofs.lemmas.List.{append_assoc, append-nil}
use Rattle.std.proofs.lemmas.Nat.{from_le_bytes-to_le_bytes_8}
use Rattle.std.proofs.lemmas.Bool.Decides.{Decides-ltb}
use Rattle.model_objects.specs.Object.{Object, Integer, Symbol, Text, Pair, weight, fits_128}
use Rattle.acl_heap.proofs.EqualLemmas.{weight_positive}
use Rattle.acl_hash.specs.declared.bytes.Kind.{Kind}
use Rattle.acl_hash.specs.declared.bytes.Kind.TheVariants as kind
use Rattle.acl_hash.specs.Bytes.{low_bytes, narrow_bytes, wide_bytes, integer_bytes, key_bytes, low_number, wide_number, Read, paired, read_kind, read, object_in, HasBytes}

pub low-length : (n : ℕ) → length (low_bytes n) ≡ 8
unfolding low_bytes
low-length n = refl

low_behind : (n : ℕ) (rest : List ℕ) → drop 8 (low_bytes n ++ rest) ≡ rest
unfolding low_bytes
low_behind n rest = refl

low_first : (n : ℕ) (rest : List ℕ) → take 8 (low_bytes n ++ rest) ≡ low_bytes n
unfolding low_bytes
low_first n rest = refl

low_read : (n : ℕ) (rest : List ℕ) → n < 2 ^ 64 → low_number (low_bytes n ++ rest) ≡ n
unfolding low_number low_bytes
low_read n rest l = from_le_bytes-to_le_bytes_8 n l

wide_behind : (m n : ℕ) (rest : List ℕ) → drop 16 ((low_bytes m ++ low_bytes n) ++ rest) ≡ rest
unfolding low_bytes
wide_behind m n rest = refl

wide_upper : (m n : ℕ) (rest : List ℕ) → drop 8 ((low_bytes m ++ low_bytes n) ++ rest) ≡ low_bytes n ++ rest
unfolding low_bytes
wide_upper m n rest = refl

wide_lower : (m n : ℕ) (rest : List ℕ) → (low_bytes m ++ low_bytes n) ++ rest ≡ low_bytes m ++ (low_bytes n ++ rest)
wide_lower m n rest = append_assoc (low_bytes m) (low_bytes n) rest

-- a number by its halves
halves : (n : ℕ) → n % 2 ^ 64 + (n / 2 ^ 64) * 2 ^ 64 ≡ n
halves n = omega arith

lower_fits : (n : ℕ) → n % 2 ^ 64 < 2 ^ 64
lower_fits n = omega arith

upper_fits : (n : ℕ) → n < 2 ^ 127 → n / 2 ^ 64 < 2 ^ 64
upper_fits n l = omega arith

wide_read : (n : ℕ) (rest : List ℕ) → n < 2 ^ 127 → wide_number ((low_bytes (n % 2 ^ 64) ++ low_bytes (n / 2 ^ 64)) ++ rest) ≡ n
wide_read n rest l =
    let lower : low_number ((low_bytes (n % 2 ^ 64) ++ low_bytes (n / 2 ^ 64)) ++ rest) ≡ n % 2 ^ 64
    = ap low_number (wide_lower (n % 2 ^ 64) (n / 2 ^ 64) rest) ∙ low_read (n % 2 ^ 64) (low_bytes (n / 2 ^ 64) ++ rest) (lower_fits n) in
    let upper : low_number (drop 8 ((low_bytes (n % 2 ^ 64) ++ low_bytes (n / 2 ^ 64)) ++ rest)) ≡ n / 2 ^ 64
    = ap low_number (wide_upper (n % 2 ^ 64) (n / 2 ^ 64) rest) ∙ low_read (n / 2 ^ 64) rest (upper_fits n l) in
    rw (lower, upper) (halves n)

-- ---- each kind

natural_read : (again : List ℕ → Read) (n : ℕ) (rest : List ℕ) → n < 2 ^ 64 → read_kind again 0 (low_bytes n ++ rest) ≡ (Integer (pos n), rest)
unfolding read_kind
natural_read again n rest l = rw (low_read n rest l, low_behind n rest) refl

negative_read : (again : List ℕ → Read) (n : ℕ) (rest : List ℕ) → n < 2 ^ 64 → read_kind again 1 (low_bytes n ++ rest) ≡ (Integer (negsuc n), rest)
unfolding read_kind
negative_read again n rest l = rw (low_read n rest l, low_behind n rest) refl

wide_natural_read : (again : List ℕ → Read) (n : ℕ) (rest : List ℕ) → n < 2 ^ 127 → read_kind again 2 ((low_bytes (n % 2 ^ 64) ++ low_bytes (n / 2 ^ 64)) ++ rest) ≡ (Integer (pos n), rest)
unfolding read_kind
wide_natural_read again n rest l = rw (wide_read n rest l, wide_behind (n % 2 ^ 64) (n / 2 ^ 64) rest) refl

wide_negative_read : (again : List ℕ → Read) (n : ℕ) (rest : List ℕ) → n < 2 ^ 127 → read_kind again 3 ((low_bytes (n % 2 ^ 64) ++ low_bytes (n / 2 ^ 64)) ++ rest) ≡ (Integer (negsuc n), rest)
unfolding read_kind
wide_negative_read again n rest l = rw (wide_read n rest l, wide_behind (n % 2 ^ 64) (n / 2 ^ 64) rest) refl

symbol_read : (again : List ℕ → Read) (s : ℕ) (rest : List ℕ) → s < 2 ^ 64 → read_kind again 4 (low_bytes s ++ rest) ≡ (Symbol s, rest)
unfolding read_kind
symbol_read again s rest l = rw (low_read s rest l, low_behind s rest) refl

take_front : (xs rest : List ℕ) → take (length xs) (xs ++ rest) ≡ xs
take_front [] rest = refl
take_front (x ∷ xs) rest = ap (λ l. x ∷ l) (take_front xs rest)

drop_front : (xs rest : List ℕ) → drop (length xs) (xs ++ rest) ≡ rest
drop_front [] rest = refl
drop_front (x ∷ xs) rest = drop_front xs rest

text_read : (again : List ℕ → Read) (bytes rest : List ℕ) → length bytes < 2 ^ 64 → read_kind again 5 (low_bytes (length bytes) ++ (bytes ++ rest)) ≡ (Text bytes, rest)
unfolding read_kind
text_read again bytes rest l =
    rw (low_read (length bytes) (bytes ++ rest) l, low_behind (length bytes) (bytes ++ rest), take_front bytes rest, drop_front bytes rest) refl

pair_read : (again : List ℕ → Read) (bs : List ℕ) → read_kind again 6 bs ≡ paired (again bs).0 (again (again bs).1)
unfolding read_kind
pair_read again bs = refl

-- ---- integers

natural_by : (again : List ℕ → Read) (n : ℕ) (rest : List ℕ) (b : Bool) → nat_lt n (2 ^ 64) ≡ b → n < 2 ^ 127
    → (depth : ℕ) → read (suc depth) ((if b then narrow_bytes kind.Natural n else wide_bytes kind.WideNatural n) ++ rest) ≡ (Integer (pos n), rest)
natural_by again n rest true e l depth = natural_read (read depth) n rest ((Decides-ltb n (2 ^ 64)).0 e)
natural_by again n rest false e l depth = wide_natural_read (read depth) n rest l

negative_by : (again : List ℕ → Read) (n : ℕ) (rest : List ℕ) (b : Bool) → nat_lt n (2 ^ 64) ≡ b → n < 2 ^ 127
    → (depth : ℕ) → read (suc depth) ((if b then narrow_bytes kind.Negative n else wide_bytes kind.WideNegative n) ++ rest) ≡ (Integer (negsuc n), rest)
negative_by again n rest true e l depth = negative_read (read depth) n rest ((Decides-ltb n (2 ^ 64)).0 e)
negative_by again n rest false e l depth = wide_negative_read (read depth) n rest l

integer_read : (n : ℤ) (rest : List ℕ) (depth : ℕ) → fits_128 n ≡ true → read (suc depth) (integer_bytes n ++ rest) ≡ (Integer n, rest)
unfolding integer_bytes
integer_read (pos n) rest depth f = natural_by (read depth) n rest (nat_lt n (2 ^ 64)) refl ((Decides-ltb n (2 ^ 127)).0 f) depth
integer_read (negsuc n) rest depth f = negative_by (read depth) n rest (nat_lt n (2 ^ 64)) refl ((Decides-ltb n (2 ^ 127)).0 f) depth

-- ---- objects

pub read_back : (o : Object ℕ) (depth : ℕ) (rest : List ℕ) → HasBytes o → weight o ≤ depth → read depth (key_bytes o ++ rest) ≡ (o, rest)
read_back o zero rest h l = absurd (omega (arith, weight_positive o, l))
read_back (Integer n) (suc depth) rest h l = integer_read n rest depth h
read_back (Symbol s) (suc depth) rest h l = symbol_read (read depth) s rest h
read_back (Text bytes) (suc depth) rest h l = rw (append_assoc (low_bytes (length bytes)) bytes rest) (text_read (read depth) bytes rest h)
read_back (Pair a d) (suc depth) rest h l =
    let first : read depth ((key_bytes a ++ key_bytes d) ++ rest) ≡ (a, key_bytes d ++ rest)
    = ap (read depth) (append_assoc (key_bytes a) (key_bytes d) rest) ∙ read_back a depth (key_bytes d ++ rest) h.0 (omega arith) in
    let second : read depth (key_bytes d ++ rest) ≡ (d, rest) = read_back d depth rest h.1 (omega arith) in
    pair_read (read depth) ((key_bytes a ++ key_bytes d) ++ rest) ∙ rw (first, second) refl

number_long : (n : ℕ) (a b : Kind) (t : Bool) → 1 ≤ length (if t then narrow_bytes a n else wide_bytes b n)
number_long n a b true = omega arith
number_long n a b false = omega arith

integer_long : (n : ℤ) → 1 ≤ length (integer_bytes n)
unfolding integer_bytes
integer_long (pos n) = number_long n kind.Natural kind.WideNatural (nat_lt n (2 ^ 64))
integer_long (negsuc n) = number_long n kind.Negative kind.WideNegative (nat_lt n (2 ^ 64))

weight_within : (o : Object ℕ) → weight o ≤ length (key_bytes o)
weight_within (Integer n) = integer_long n
weight_within (Symbol s) = omega arith
weight_within (Text bytes) = omega (arith, length-append (low_bytes (length bytes)) bytes)
weight_within (Pair a d) = omega (arith, weight_within a, weight_within d, length-append (key_bytes a) (key_bytes d))

-- the object of the bytes of an object is that object
pub object_back : (o : Object ℕ) → HasBytes o → object_in (key_bytes o) ≡ o
unfolding object_in
object_back o h =
    ap (λ (r : Read). r.0) (ap (read (length (key_bytes o))) (sym (append-nil (key_bytes o))) ∙ read_back o (length (key_bytes o)) [] h (weight_within o))
