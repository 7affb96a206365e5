-- The tests of types bind nothing, and their constants are those of the type as it is written.
use Rattle.std.proofs.Common.{◌≡◌, ℕ, List, [], ◌∷◌, Bool, true, false, Option, Some, None, refl}
use Rattle.std.specs.Prelude.{ℤ, nat_eq, nat_le, option_map, option_and_then, if◌then◌else◌}
use Rattle.model_objects.specs.Object.{Object, Integer, Symbol, Text, Pair}
use Rattle.model_objects.specs.Named.{Symbols}
use Rattle.model_symbols.specs.Opening.{truth, nil}
use Rattle.model_prims.specs.Kinds.{by_number}
use Rattle.model_prims.specs.Lists.{is_true_list}
use Rattle.model_lists.specs.Types.{ValueType, Anything, Nothing, Integers, Recognized, OneOf, Either, Both, Other, Reading, reading, type_of, word_type, headed_type, listed_type, range_of, range_between, bound_of, unsigned_type, signed_type, bits_of, joined, denied, only_element, atom_word, null_word, cons_word, not_word, member_word, and_word, or_word, integer_word, signed_byte_word, unsigned_byte_word, bit_word, symbol_word, string_word, boolean_word}
use Rattle.model_terms.specs.Cores.{Core, Var, Const, If, cores}
use Rattle.model_expansion.specs.Words.{satisfies_word}
use Rattle.model_expansion.specs.TypeTerms.{true_core, false_core, call_core, not_core, integer_test, low_test, high_test, range_test, either_test, both_test, is_nothing, is_anything, is_end, predicate, test_of, accepted_type, not_too_deep, type_term, depth_of, deepest_test, DeclaredTest, predicate_in, joined_tests, plain_test, denied_test, headed_test, listed_test, declared, shallow, declared_test}
use Rattle.model_expansion_forms.specs.Nodes.{AllNodes}
use Rattle.model_expansion_forms.proofs.NodeLemmas.{IsShapedNode, IsShaped}

module _ (P : ℕ → Type 0) where
  -- the symbols of the lists in a type
  abbrev pub TypeHas : ValueType ℕ → Type 0
  TypeHas Anything = Unit {0}
  TypeHas Nothing = Unit {0}
  TypeHas (Integers low high) = Unit {0}
  TypeHas (Recognized r) = Unit {0}
  TypeHas (OneOf l) = Symbols P l
  TypeHas (Either a b) = TypeHas a × TypeHas b
  TypeHas (Both a b) = TypeHas a × TypeHas b
  TypeHas (Other a) = TypeHas a

  -- ---- nodes

  pub shaped_var : (x : ℕ) → IsShaped P (Var x)
  shaped_var x = record { forms = tt; several = tt; constant = tt }

  pub shaped_const : (o : Object ℕ) → Symbols P o → IsShaped P (Const o)
  shaped_const o h = record { forms = tt; several = tt; constant = h }

  pub shaped_if : (a b c : Core) → IsShaped P a → IsShaped P b → IsShaped P c → IsShaped P (If a b c)
  shaped_if a b c h k l = (record { forms = tt; several = tt; constant = tt }, h, k, l)

  pub shaped_call : (f : ℕ) (fs : List Core) → AllNodes (IsShapedNode P) (cores fs) → IsShaped P (call_core f fs)
  shaped_call f fs h = (record { forms = tt; several = tt; constant = tt }, h)

  -- ---- tests

  module _ (yes : P truth) (no : P nil) where
    shaped_and : (a b : Core) → IsShaped P a → IsShaped P b → IsShaped P (If a b false_core)
    shaped_and a b h k = shaped_if a b false_core h k (shaped_const (Symbol nil) no)

    shaped_not : (a : Core) → IsShaped P a → IsShaped P (not_core a)
    shaped_not a h = shaped_call not_word (a ∷ []) (h, tt)

    shaped_either : (b : Bool) (f g : Core) → IsShaped P f → IsShaped P g → IsShaped P (either_test b f g)
    shaped_either true f g h k = h
    shaped_either false f g h k = shaped_if f true_core g h (shaped_const (Symbol truth) yes) k

    shaped_both : (b : Bool) (f g : Core) → IsShaped P f → IsShaped P g → IsShaped P (both_test b f g)
    shaped_both true f g h k = h
    shaped_both false f g h k = shaped_and f g h k

    module _ (x : Core) (s : IsShaped P x) where
      shaped_integer : IsShaped P (integer_test x)
      shaped_integer = shaped_call _ (x ∷ []) (s, tt)

      shaped_low : (low : ℤ) → IsShaped P (low_test low x)
      shaped_low low = shaped_not _ (shaped_call _ (x ∷ Const (Integer low) ∷ []) (s, (shaped_const (Integer low) tt, tt)))

      shaped_high : (high : ℤ) → IsShaped P (high_test high x)
      shaped_high high = shaped_not _ (shaped_call _ (Const (Integer high) ∷ x ∷ []) (shaped_const (Integer high) tt, (s, tt)))

      shaped_range : (low high : Option ℤ) → IsShaped P (range_test low high x)
      shaped_range None None = shaped_integer
      shaped_range (Some low) None = shaped_and _ _ shaped_integer (shaped_low low)
      shaped_range None (Some high) = shaped_and _ _ shaped_integer (shaped_high high)
      shaped_range (Some low) (Some high) = shaped_and _ _ shaped_integer (shaped_and _ _ (shaped_low low) (shaped_high high))

      shaped_test : (t : ValueType ℕ) → TypeHas t → IsShaped P (test_of x t)
      shaped_test Anything h = shaped_const (Symbol truth) yes
      shaped_test Nothing h = shaped_const (Symbol nil) no
      shaped_test (Integers low high) h = shaped_range low high
      shaped_test (Recognized r) h = shaped_call (predicate r) (x ∷ []) (s, tt)
      shaped_test (OneOf l) h = shaped_call _ (x ∷ Const l ∷ []) (s, (shaped_const l h, tt))
      shaped_test (Either a b) h = shaped_either (is_nothing b) _ _ (shaped_test a h.0) (shaped_test b h.1)
      shaped_test (Both a b) h = shaped_both (is_anything b) _ _ (shaped_test a h.0) (shaped_test b h.1)
      shaped_test (Other a) h = shaped_not _ (shaped_test a h)

  -- ---- types as they are read

  abbrev Reads : Option (ValueType ℕ) → Type 0
  Reads None = Unit {0}
  Reads (Some t) = TypeHas t

  record AllRead (r : Reading ℕ) : Type 0 where
    as_one : Reads r.one
    as_any : Reads r.any
    as_all : Reads r.all

  reads_if : (b : Bool) (x y : Option (ValueType ℕ)) → Reads x → Reads y → Reads (if b then x else y)
  reads_if true x y h k = h
  reads_if false x y h k = k

  word_reads : (s : ℕ) → Reads (word_type s)
  word_reads s =
      reads_if (nat_eq s truth) _ _ tt
      (reads_if (nat_eq s integer_word) _ _ tt
      (reads_if (nat_eq s signed_byte_word) _ _ tt
      (reads_if (nat_eq s unsigned_byte_word) _ _ tt
      (reads_if (nat_eq s bit_word) _ _ tt
      (reads_if (nat_eq s symbol_word) _ _ tt
      (reads_if (nat_eq s string_word) _ _ tt
      (reads_if (nat_eq s cons_word) _ _ tt
      (reads_if (nat_eq s atom_word) _ _ tt
      (reads_if (nat_eq s null_word) _ _ tt
      (reads_if (nat_eq s boolean_word) _ _ tt tt))))))))))

  between_reads : (low high : Option (Option ℤ)) → Reads (range_between low high)
  between_reads None high = tt
  between_reads (Some low) None = tt
  between_reads (Some low) (Some high) = tt

  range_reads : (d : Object ℕ) → Reads (range_of d)
  range_reads (Integer n) = tt
  range_reads (Symbol s) = tt
  range_reads (Text bytes) = tt
  range_reads (Pair low d) = go (only_element d) refl
    where
      go : (high : Option (Object ℕ)) → only_element d ≡ high → Reads (range_of (Pair low d))
      go None e = rw e tt
      go (Some high) e = rw e (between_reads (bound_of low) (bound_of high))

  unsigned_reads : (n : Option ℕ) → Reads (unsigned_type n)
  unsigned_reads None = tt
  unsigned_reads (Some n) = tt

  signed_reads : (n : Option ℕ) → Reads (signed_type n)
  signed_reads None = tt
  signed_reads (Some n) = tt

  denied_reads : (element : Option (Object ℕ)) (t : Option (ValueType ℕ)) → Reads t → Reads (denied element t)
  denied_reads None t h = tt
  denied_reads (Some element) None h = tt
  denied_reads (Some element) (Some t) h = h

  either_reads : (a b : Option (ValueType ℕ)) → Reads a → Reads b → Reads (joined Either a b)
  either_reads None b h k = tt
  either_reads (Some a) None h k = tt
  either_reads (Some a) (Some b) h k = (h, k)

  both_reads : (a b : Option (ValueType ℕ)) → Reads a → Reads b → Reads (joined Both a b)
  both_reads None b h k = tt
  both_reads (Some a) None h k = tt
  both_reads (Some a) (Some b) h k = (h, k)

  abbrev itself : Object ℕ → Object ℕ
  itself o = o

  headed_reads : (s : ℕ) (d : Object ℕ) (rest : Reading ℕ) → Symbols P d → AllRead rest → Reads (headed_type itself s d rest)
  headed_reads s d rest known h =
      reads_if (nat_eq s or_word) _ _ h.as_any
      (reads_if (nat_eq s and_word) _ _ h.as_all
      (reads_if (nat_eq s not_word) _ _ (denied_reads (only_element d) rest.any h.as_any)
      (reads_if (nat_eq s integer_word) _ _ (range_reads d)
      (reads_if (nat_eq s unsigned_byte_word) _ _ (unsigned_reads (bits_of 127 (only_element d)))
      (reads_if (nat_eq s signed_byte_word) _ _ (signed_reads (bits_of 128 (only_element d)))
      (reads_if (nat_eq s member_word) _ _ (reads_if (is_true_list by_number d) (Some (OneOf d)) None known tt) tt))))))

  listed_reads : (a d : Object ℕ) (rest : Reading ℕ) → Symbols P d → AllRead rest → Reads (listed_type itself a d rest)
  listed_reads (Integer n) d rest known h = tt
  listed_reads (Symbol s) d rest known h = headed_reads s d rest known h
  listed_reads (Text bytes) d rest known h = tt
  listed_reads (Pair a b) d rest known h = tt

  all_read : (o : Object ℕ) → Symbols P o → AllRead (reading itself o)
  all_read (Integer n) known = record { as_one = tt; as_any = tt; as_all = tt }
  all_read (Symbol s) known = record {
    as_one = word_reads s;
    as_any = reads_if (nat_eq s nil) (Some Nothing) None tt tt;
    as_all = reads_if (nat_eq s nil) (Some Anything) None tt tt;
  }
  all_read (Text bytes) known = record { as_one = tt; as_any = tt; as_all = tt }
  all_read (Pair a d) known =
      let first = all_read a known.0 in
      let rest = all_read d known.1 in
      record {
        as_one = listed_reads a d (reading itself d) known.1 rest;
        as_any = either_reads (reading itself a).one (reading itself d).any first.as_one rest.as_any;
        as_all = both_reads (reading itself a).one (reading itself d).all first.as_one rest.as_all;
      }

  accepted_reads : (r : Option (ValueType ℕ)) → Reads r → Reads (option_and_then not_too_deep r)
  accepted_reads None h = tt
  accepted_reads (Some u) h = reads_if (nat_le (depth_of (test_of (Var 0) u)) deepest_test) (Some u) None h tt

  -- ---- terms of types as they are written

  abbrev pub ShapedIfAny : Option Core → Type 0
  ShapedIfAny None = Unit {0}
  ShapedIfAny (Some f) = IsShaped P f

  module _ (yes : P truth) (no : P nil) (x : Core) (s : IsShaped P x) where
    option_shaped : (r : Option (ValueType ℕ)) → Reads r → ShapedIfAny (option_map (test_of x) r)
    option_shaped None h = tt
    option_shaped (Some t) h = shaped_test yes no x s t h

    pub term_shaped : (written : Object ℕ) → Symbols P written → ShapedIfAny (type_term written x)
    term_shaped written known = option_shaped (accepted_type written) (accepted_reads (type_of itself written) (all_read written known).as_one)

    -- ---- types of declarations

    record AllShaped (t : DeclaredTest) : Type 0 where
      as_one : ShapedIfAny t.one
      as_any : ShapedIfAny t.any
      as_all : ShapedIfAny t.all

    shaped_if_any : (b : Bool) (f g : Option Core) → ShapedIfAny f → ShapedIfAny g → ShapedIfAny (if b then f else g)
    shaped_if_any true f g h k = h
    shaped_if_any false f g h k = k

    plain_shaped : (o : Object ℕ) → Symbols P o → ShapedIfAny (plain_test x o)
    plain_shaped o known = option_shaped (type_of itself o) (all_read o known).as_one

    satisfies_shaped : (p : Option ℕ) → ShapedIfAny (option_map (λ p. call_core p (x ∷ [])) p)
    satisfies_shaped None = tt
    satisfies_shaped (Some p) = shaped_call p (x ∷ []) (s, tt)

    denied_shaped : (o : Option (Object ℕ)) (f : Option Core) → ShapedIfAny f → ShapedIfAny (denied_test x o f)
    denied_shaped None f h = tt
    denied_shaped (Some o) None h = tt
    denied_shaped (Some o) (Some f) h = shaped_not yes no f h

    headed_shaped : (t : ℕ) (d : Object ℕ) (listed : DeclaredTest) → Symbols P (Pair (Symbol t) d) → AllShaped listed → ShapedIfAny (headed_test x t d listed)
    headed_shaped t d listed known h =
        shaped_if_any (nat_eq t satisfies_word) _ _ (satisfies_shaped (predicate_in (only_element d)))
        (shaped_if_any (nat_eq t or_word) _ _ h.as_any
        (shaped_if_any (nat_eq t and_word) _ _ h.as_all
        (shaped_if_any (nat_eq t not_word) _ _ (denied_shaped (only_element d) listed.any h.as_any) (plain_shaped (Pair (Symbol t) d) known))))

    listed_shaped : (a d : Object ℕ) (listed : DeclaredTest) → Symbols P (Pair a d) → AllShaped listed → ShapedIfAny (listed_test x a d listed)
    listed_shaped (Integer n) d listed known h = tt
    listed_shaped (Symbol t) d listed known h = headed_shaped t d listed known h
    listed_shaped (Text bytes) d listed known h = tt
    listed_shaped (Pair a b) d listed known h = tt

    any_shaped : (end : Bool) (a b : Option Core) → ShapedIfAny a → ShapedIfAny b → ShapedIfAny (joined_tests (either_test end) a b)
    any_shaped end None b h k = tt
    any_shaped end (Some a) None h k = tt
    any_shaped end (Some a) (Some b) h k = shaped_either yes no end a b h k

    all_shaped : (end : Bool) (a b : Option Core) → ShapedIfAny a → ShapedIfAny b → ShapedIfAny (joined_tests (both_test end) a b)
    all_shaped end None b h k = tt
    all_shaped end (Some a) None h k = tt
    all_shaped end (Some a) (Some b) h k = shaped_both yes no end a b h k

    declared_shaped : (o : Object ℕ) → Symbols P o → AllShaped (declared x o)
    declared_shaped (Integer n) known = record { as_one = tt; as_any = tt; as_all = tt }
    declared_shaped (Symbol t) known = record {
      as_one = plain_shaped (Symbol t) known;
      as_any = shaped_if_any (nat_eq t nil) (Some false_core) None (shaped_const (Symbol nil) no) tt;
      as_all = shaped_if_any (nat_eq t nil) (Some true_core) None (shaped_const (Symbol truth) yes) tt;
    }
    declared_shaped (Text bytes) known = record { as_one = tt; as_any = tt; as_all = tt }
    declared_shaped (Pair a d) known =
        let first = declared_shaped a known.0 in
        let rest = declared_shaped d known.1 in
        record {
          as_one = listed_shaped a d (declared x d) known rest;
          as_any = any_shaped (is_end d) (declared x a).one (declared x d).any first.as_one rest.as_any;
          as_all = all_shaped (is_end d) (declared x a).one (declared x d).all first.as_one rest.as_all;
        }

    shallow_shaped : (f : Option Core) → ShapedIfAny f → ShapedIfAny (option_and_then (shallow x) f)
    shallow_shaped None h = tt
    shallow_shaped (Some f) h = shaped_if_any (nat_le (depth_of f) deepest_test) (Some f) None h tt

    pub test_shaped : (written : Object ℕ) → Symbols P written → ShapedIfAny (declared_test x written)
    test_shaped written known = shallow_shaped (declared x written).one (declared_shaped written known).as_one
