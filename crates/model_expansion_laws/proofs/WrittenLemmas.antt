-- The types that are read, and what their tests say.
use Rattle.std.proofs.Common.{◌≡◌, ℕ, Bool, true, false, Option, Some, None, refl, subst}
use Rattle.std.specs.Prelude.{ℤ, nat_eq, nat_le, option_map, if◌then◌else◌}
use Rattle.std.specs.Option.{option_and_then}
use Rattle.model_objects.specs.Object.{Object, Integer, Symbol, Text, Pair}
use Rattle.model_symbols.specs.Opening.{truth, nil}
use Rattle.model_prims.specs.Kinds.{by_number}
use Rattle.model_prims.specs.Lists.{is_true_list}
use Rattle.model_lists.specs.Types.{ValueType, Anything, Nothing, OneOf, Either, Both, meets, Reading, reading, type_of, word_type, headed_type, listed_type, range_of, range_between, bound_of, unsigned_type, signed_type, bits_of, joined, denied, only_element, atom_word, null_word, cons_word, not_word, member_word, and_word, or_word, integer_word, signed_byte_word, unsigned_byte_word, bit_word, symbol_word, string_word, boolean_word}
use Rattle.model_terms.specs.Cores.{Core, Var}
use Rattle.model_eval.specs.Checked.{checked}
use Rattle.model_expansion.specs.TypeTerms.{test_of, accepted_type, not_too_deep, depth_of, deepest_test}
use Rattle.model_expansion_laws.specs.Tests.{IsWritten, Says, TypesAreWritten, TermsSay}
use Rattle.model_expansion_laws.proofs.TestLemmas.{tests_say}

-- a type that can be written, or none
abbrev Reads : Option (ValueType ℕ) → Type 0
Reads None = Unit {0}
Reads (Some t) = IsWritten t

-- each type of a reading can be written
record AllRead (r : Reading ℕ) : Type 0 where
  as_one : Reads r.one
  as_any : Reads r.any
  as_all : Reads r.all

reads_if : (b : Bool) (x y : Option (ValueType ℕ)) → Reads x → Reads y → Reads (if b then x else y)
reads_if true x y h k = h
reads_if false x y h k = k

word_reads : (s : ℕ) → Reads (word_type s)
word_reads s =
    reads_if (nat_eq s truth) _ _ tt
    (reads_if (nat_eq s integer_word) _ _ tt
    (reads_if (nat_eq s signed_byte_word) _ _ tt
    (reads_if (nat_eq s unsigned_byte_word) _ _ tt
    (reads_if (nat_eq s bit_word) _ _ tt
    (reads_if (nat_eq s symbol_word) _ _ tt
    (reads_if (nat_eq s string_word) _ _ tt
    (reads_if (nat_eq s cons_word) _ _ tt
    (reads_if (nat_eq s atom_word) _ _ tt
    (reads_if (nat_eq s null_word) _ _ tt
    (reads_if (nat_eq s boolean_word) _ _ tt tt))))))))))

between_reads : (low high : Option (Option ℤ)) → Reads (range_between low high)
between_reads None high = tt
between_reads (Some low) None = tt
between_reads (Some low) (Some high) = tt

range_reads : (d : Object ℕ) → Reads (range_of d)
range_reads (Integer n) = tt
range_reads (Symbol s) = tt
range_reads (Text bytes) = tt
range_reads (Pair low d) = go (only_element d) refl
  where
    go : (high : Option (Object ℕ)) → only_element d ≡ high → Reads (range_of (Pair low d))
    go None e = rw e tt
    go (Some high) e = rw e (between_reads (bound_of low) (bound_of high))

unsigned_reads : (n : Option ℕ) → Reads (unsigned_type n)
unsigned_reads None = tt
unsigned_reads (Some n) = tt

signed_reads : (n : Option ℕ) → Reads (signed_type n)
signed_reads None = tt
signed_reads (Some n) = tt

denied_reads : (element : Option (Object ℕ)) (t : Option (ValueType ℕ)) → Reads t → Reads (denied element t)
denied_reads None t h = tt
denied_reads (Some element) None h = tt
denied_reads (Some element) (Some t) h = h

either_reads : (a b : Option (ValueType ℕ)) → Reads a → Reads b → Reads (joined Either a b)
either_reads None b h k = tt
either_reads (Some a) None h k = tt
either_reads (Some a) (Some b) h k = (h, k)

both_reads : (a b : Option (ValueType ℕ)) → Reads a → Reads b → Reads (joined Both a b)
both_reads None b h k = tt
both_reads (Some a) None h k = tt
both_reads (Some a) (Some b) h k = (h, k)

members_read : (d : Object ℕ) → Reads (if is_true_list by_number d then Some (OneOf d) else None)
members_read d = go (is_true_list by_number d) refl
  where
    go : (b : Bool) → is_true_list by_number d ≡ b → Reads (if b then Some (OneOf d) else None)
    go true e = e
    go false e = tt

abbrev itself : Object ℕ → Object ℕ
itself o = o

headed_reads : (s : ℕ) (d : Object ℕ) (rest : Reading ℕ) → AllRead rest → Reads (headed_type itself s d rest)
headed_reads s d rest h =
    reads_if (nat_eq s or_word) _ _ h.as_any
    (reads_if (nat_eq s and_word) _ _ h.as_all
    (reads_if (nat_eq s not_word) _ _ (denied_reads (only_element d) rest.any h.as_any)
    (reads_if (nat_eq s integer_word) _ _ (range_reads d)
    (reads_if (nat_eq s unsigned_byte_word) _ _ (unsigned_reads (bits_of 127 (only_element d)))
    (reads_if (nat_eq s signed_byte_word) _ _ (signed_reads (bits_of 128 (only_element d)))
    (reads_if (nat_eq s member_word) _ _ (members_read d) tt))))))

listed_reads : (a d : Object ℕ) (rest : Reading ℕ) → AllRead rest → Reads (listed_type itself a d rest)
listed_reads (Integer n) d rest h = tt
listed_reads (Symbol s) d rest h = headed_reads s d rest h
listed_reads (Text bytes) d rest h = tt
listed_reads (Pair a b) d rest h = tt

all_read : (o : Object ℕ) → AllRead (reading itself o)
all_read (Integer n) = record { as_one = tt; as_any = tt; as_all = tt }
all_read (Symbol s) = record {
  as_one = word_reads s;
  as_any = reads_if (nat_eq s nil) (Some Nothing) None tt tt;
  as_all = reads_if (nat_eq s nil) (Some Anything) None tt tt;
}
all_read (Text bytes) = record { as_one = tt; as_any = tt; as_all = tt }
all_read (Pair a d) =
    let first = all_read a in
    let rest = all_read d in
    record {
      as_one = listed_reads a d (reading itself d) rest;
      as_any = either_reads (reading itself a).one (reading itself d).any first.as_one rest.as_any;
      as_all = both_reads (reading itself a).one (reading itself d).all first.as_one rest.as_all;
    }

type_written : (o : Object ℕ) (t : ValueType ℕ) → type_of itself o ≡ Some t → IsWritten t
type_written o t e = subst Reads e (all_read o).as_one

pub types_are_written : TypesAreWritten
types_are_written = record { written = type_written }

-- an accepted type is a type that is read
accepted_read : (r : Option (ValueType ℕ)) (t : ValueType ℕ) → option_and_then not_too_deep r ≡ Some t → r ≡ Some t
accepted_read None t e = e
accepted_read (Some u) t e = go (nat_le (depth_of (test_of (Var 0) u)) deepest_test) e
  where
    go : (b : Bool) → (if b then Some u else None) ≡ Some t → Some u ≡ Some t
    go true h = h
    go false h = cc

term_is_test : (x f : Core) (r : Option (ValueType ℕ)) (t : ValueType ℕ) → r ≡ Some t → option_map (test_of x) r ≡ Some f → test_of x t ≡ f
term_is_test x f r t e h = some_injective (subst (λ q. option_map (test_of x) q ≡ Some f) e h)
  where
    some_injective : Some (test_of x t) ≡ Some f → test_of x t ≡ f
    some_injective k = cc

pub terms_say : TermsSay
terms_say = record {
  says = λ w packages limit depth written t x f o variables state s h accepted term.
      subst (λ q. Says (meets by_number t o) (checked w packages limit depth q variables state)) (term_is_test x f (accepted_type written) t accepted term)
      (tests_say.says w packages limit depth t x o variables state s (type_written written t (accepted_read (type_of itself written) t accepted)) h);
}
