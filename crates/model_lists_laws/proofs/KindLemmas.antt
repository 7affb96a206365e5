-- The kind of a type: each stobj has a representative.
use Rattle.std.proofs.Common.{◌≡◌, ℕ, ◌+◌, ◌<◌, List, [], ◌∷◌, ◌++◌, map, length, replicate, Bool, true, false, Option, Some, None, refl, sym, ap, ◌∙◌, subst, arith, inl, inr}
use Rattle.std.specs.Prelude.{◌⊎◌, not, ◌&&◌, ◌||◌, nat_eq, ℤ, pos, negsuc, ◌^◌, int_lt, if◌then◌else◌}
use Rattle.std.specs.Ordering.{int_eq}
use Rattle.std.specs.List.{list_all}
use Rattle.std.proofs.lemmas.Int.{ints}
use Rattle.std.proofs.lemmas.List.{length-replicate}
use Rattle.std.proofs.lemmas.List.Folds.{list_all-append}
use Rattle.std.proofs.lemmas.Bool.Decides.{nat_tests}
use Rattle.std.proofs.lemmas.Bool.{and_parts}
use Rattle.acl_base.specs.declared.layout.Kind.{Kind}
use Rattle.acl_base.specs.declared.layout.Kind.TheVariants.{Byte, I32, I64, General}
use Rattle.model_objects.specs.Object.{Object, Integer, Symbol, Text, Pair}
use Rattle.model_symbols.specs.Opening.{truth, nil}
use Rattle.model_prims.specs.Kinds.{by_number, is_integer, is_natural, is_positive, is_pair, same_object}
use Rattle.model_prims.specs.Lists.{is_true_list, is_alist, is_member, member}
use Rattle.model_prims.specs.Values.{recognized}
use Rattle.model_prims.specs.declared.prim.Recognizer.{Recognizer}
use Rattle.model_prims.specs.declared.prim.Recognizer.TheVariants as recognizer
use Rattle.model_lists.specs.Types.{ValueType, Anything, Nothing, Integers, Recognized, OneOf, Either, Both, Other, is_least, is_greatest, meets}
use Rattle.model_lists.specs.Kinds.{least_32, least_64, is_between, is_kept, before, after, low_edges, high_edges, members_of, member_edges, edges, kind_edges, below, members, extent, total_extent, others, integer_representatives, representatives, keeps_all, kind_of}
use Rattle.model_lists_laws.specs.Kinds.{rank, Exceeds, IsKindOf, KindsAreOfTypes, KindRows}
use Rattle.model_lists_laws.proofs.NormalLemmas.{same_tells}
use Rattle.model_lists_laws.proofs.AlikeLemmas.{same_number-Decides}

-- ---- integers

from_below : (b n c : ℤ) → int_lt n b ≡ false → int_lt n c ≡ true → int_lt b c ≡ true
from_below b n c g h = grind (arith, ints, nat_tests)

not_past : (b m c : ℤ) → int_lt m c ≡ false → int_lt m b ≡ true → int_lt b c ≡ false
not_past b m c g h = grind (arith, ints, nat_tests)

not_itself : (b : ℤ) → int_lt b b ≡ false
not_itself b = grind (arith, ints, nat_tests)

comes_before : (n : ℤ) → int_lt (before n) n ≡ true
comes_before n = grind (arith, ints, nat_tests)

above_is : (h m : ℤ) → int_lt h m ≡ not (int_lt m (after h))
above_is h m = grind (arith, ints, nat_tests)

same_is : (m e : ℤ) → int_eq m e ≡ (not (int_lt m e) && int_lt m (after e))
same_is m e = grind (arith, ints, nat_tests)

abbrev number : ℤ → Object ℕ
number m = Integer m

natural_is : (m : ℤ) → is_natural (number m) ≡ not (int_lt m (pos 0))
natural_is (pos n) = grind (arith, ints, nat_tests)
natural_is (negsuc n) = grind (arith, ints, nat_tests)

positive_is : (m : ℤ) → is_positive (number m) ≡ not (int_lt m (pos 1))
positive_is (pos n) = grind (arith, ints, nat_tests)
positive_is (negsuc n) = grind (arith, ints, nat_tests)

zero_is : (m : ℤ) → int_eq m (pos 0) ≡ (not (int_lt m (pos 0)) && int_lt m (pos 1))
zero_is m = grind (arith, ints, nat_tests)

-- ---- integers on the same side of edges

-- the two are on the same side of each edge
abbrev SameSides : List ℤ → ℤ → ℤ → Type 0
SameSides [] m n = Unit {0}
SameSides (e ∷ es) m n = (int_lt m e ≡ int_lt n e) × SameSides es m n

sides_first : (es fs : List ℤ) (m n : ℤ) → SameSides (es ++ fs) m n → SameSides es m n
sides_first [] fs m n h = tt
sides_first (e ∷ es) fs m n h = (h.0, sides_first es fs m n h.1)

sides_last : (es fs : List ℤ) (m n : ℤ) → SameSides (es ++ fs) m n → SameSides fs m n
sides_last [] fs m n h = h
sides_last (e ∷ es) fs m n h = sides_last es fs m n h.1

least_alike : (low : Option ℤ) (m n : ℤ) → SameSides (low_edges low) m n → is_least low m ≡ is_least low n
least_alike None m n h = refl
least_alike (Some low) m n h = ap not h.0

greatest_alike : (high : Option ℤ) (m n : ℤ) → SameSides (high_edges high) m n → is_greatest high m ≡ is_greatest high n
greatest_alike None m n h = refl
greatest_alike (Some high) m n h = ap not (above_is high m ∙ (ap not h.0 ∙ sym (above_is high n)))

equal_alike : (m n e : ℤ) → int_lt m e ≡ int_lt n e → int_lt m (after e) ≡ int_lt n (after e) → int_eq m e ≡ int_eq n e
equal_alike m n e g h = same_is m e ∙ (rw (g, h) refl ∙ sym (same_is n e))

zero_alike : (m n : ℤ) → int_lt m (pos 0) ≡ int_lt n (pos 0) → int_lt m (pos 1) ≡ int_lt n (pos 1) → int_eq m (pos 0) ≡ int_eq n (pos 0)
zero_alike m n g h = zero_is m ∙ (rw (g, h) refl ∙ sym (zero_is n))

natural_alike : (m n : ℤ) → int_lt m (pos 0) ≡ int_lt n (pos 0) → is_natural (number m) ≡ is_natural (number n)
natural_alike m n h = natural_is m ∙ (ap not h ∙ sym (natural_is n))

positive_alike : (m n : ℤ) → int_lt m (pos 1) ≡ int_lt n (pos 1) → is_positive (number m) ≡ is_positive (number n)
positive_alike m n h = positive_is m ∙ (ap not h ∙ sym (positive_is n))

recognized_alike : (r : Recognizer) (m n : ℤ) → int_lt m (pos 0) ≡ int_lt n (pos 0) → int_lt m (pos 1) ≡ int_lt n (pos 1) → recognized by_number r (number m) ≡ recognized by_number r (number n)
unfolding recognized
recognized_alike recognizer.Consp m n g h = refl
recognized_alike recognizer.Atom m n g h = refl
recognized_alike recognizer.Null m n g h = refl
recognized_alike recognizer.Not m n g h = refl
recognized_alike recognizer.Symbolp m n g h = refl
recognized_alike recognizer.Stringp m n g h = refl
recognized_alike recognizer.Integerp m n g h = refl
recognized_alike recognizer.Natp m n g h = natural_alike m n g
recognized_alike recognizer.Posp m n g h = positive_alike m n h
recognized_alike recognizer.Booleanp m n g h = refl
recognized_alike recognizer.TrueListp m n g h = refl
recognized_alike recognizer.Alistp m n g h = refl
recognized_alike recognizer.Endp m n g h = refl
recognized_alike recognizer.Zerop m n g h = zero_alike m n g h
recognized_alike recognizer.Zp m n g h = ap not (positive_alike m n h)
recognized_alike recognizer.Zip m n g h = zero_alike m n g h

-- what is an element is found by going from one to the next
member_more : (x a d : Object ℕ) → is_member by_number x (Pair a d) ≡ (same_object by_number x a || is_member by_number x d)
member_more x a d = go (same_object by_number x a)
  where
    go : (b : Bool) → is_pair (if b then Pair a d else member by_number x d) ≡ (b || is_pair (member by_number x d))
    go true = refl
    go false = refl

either_alike : (a b c d : Bool) → a ≡ c → b ≡ d → (a || b) ≡ (c || d)
either_alike a b c d e f = rw (e, f) refl

both_alike : (a b c d : Bool) → a ≡ c → b ≡ d → (a && b) ≡ (c && d)
both_alike a b c d e f = rw (e, f) refl

members_alike : (l : Object ℕ) (m n : ℤ) → SameSides (member_edges (members_of l)) m n → is_member by_number (number m) l ≡ is_member by_number (number n) l
members_alike (Integer i) m n h = refl
members_alike (Symbol s) m n h = refl
members_alike (Text bytes) m n h = refl
members_alike (Pair (Integer i) d) m n h =
    member_more (number m) (Integer i) d ∙ (either_alike _ _ _ _ (equal_alike m n i h.0 h.1.0) (members_alike d m n h.1.1) ∙ sym (member_more (number n) (Integer i) d))
members_alike (Pair (Symbol s) d) m n h = members_alike d m n h
members_alike (Pair (Text bytes) d) m n h = members_alike d m n h
members_alike (Pair (Pair a b) d) m n h = members_alike d m n h

integers_meet_alike : (t : ValueType ℕ) (m n : ℤ) → SameSides (edges t) m n → meets by_number t (number m) ≡ meets by_number t (number n)
integers_meet_alike Anything m n h = refl
integers_meet_alike Nothing m n h = refl
integers_meet_alike (Integers low high) m n h =
    both_alike _ _ _ _ (least_alike low m n (sides_first (low_edges low) (high_edges high) m n h)) (greatest_alike high m n (sides_last (low_edges low) (high_edges high) m n h))
integers_meet_alike (Recognized r) m n h = recognized_alike r m n h.0 h.1.0
integers_meet_alike (OneOf l) m n h = members_alike l m n h
integers_meet_alike (Either a b) m n h =
    either_alike _ _ _ _ (integers_meet_alike a m n (sides_first (edges a) (edges b) m n h)) (integers_meet_alike b m n (sides_last (edges a) (edges b) m n h))
integers_meet_alike (Both a b) m n h =
    both_alike _ _ _ _ (integers_meet_alike a m n (sides_first (edges a) (edges b) m n h)) (integers_meet_alike b m n (sides_last (edges a) (edges b) m n h))
integers_meet_alike (Other a) m n h = ap not (integers_meet_alike a m n h)

between_alike : (a b c d : Bool) → a ≡ c → b ≡ d → (true && (not a && b)) ≡ (true && (not c && d))
between_alike a b c d e f = rw (e, f) refl

kept_alike : (kind : Kind) (m n : ℤ) → SameSides kind_edges m n → is_kept kind (number m) ≡ is_kept kind (number n)
kept_alike Byte m n h = between_alike _ _ _ _ h.0 h.1.0
kept_alike I32 m n h = between_alike _ _ _ _ h.1.1.0 h.1.1.1.0
kept_alike I64 m n h = between_alike _ _ _ _ h.1.1.1.1.0 h.1.1.1.1.1.0
kept_alike General m n h = refl

-- ---- a representative of an integer

-- whatever all elements pass this passes, so it is one of them
abbrev Among : Object ℕ → List (Object ℕ) → Type 0
Among y ys = (passes : Object ℕ → Bool) → list_all passes ys ≡ true → passes y ≡ true

among_first : (y : Object ℕ) (ys : List (Object ℕ)) → Among y (y ∷ ys)
among_first y ys passes h = (and_parts (passes y) (list_all passes ys) h).0

among_more : (y z : Object ℕ) (ys : List (Object ℕ)) → Among y ys → Among y (z ∷ ys)
among_more y z ys g passes h = g passes (and_parts (passes z) (list_all passes ys) h).1

among_left : (y : Object ℕ) (xs ys : List (Object ℕ)) → Among y xs → Among y (xs ++ ys)
among_left y xs ys g passes h = g passes (and_parts (list_all passes xs) (list_all passes ys) (sym (list_all-append passes xs ys) ∙ h)).0

among_right : (y : Object ℕ) (xs ys : List (Object ℕ)) → Among y ys → Among y (xs ++ ys)
among_right y xs ys g passes h = g passes (and_parts (list_all passes xs) (list_all passes ys) (sym (list_all-append passes xs ys) ∙ h)).1

abbrev AllAbove : ℤ → List ℤ → Type 0
AllAbove low [] = Unit {0}
AllAbove low (e ∷ es) = (int_lt low e ≡ true) × AllAbove low es

above_lower : (a b : ℤ) (es : List ℤ) → int_lt b a ≡ false → AllAbove b es → AllAbove a es
above_lower a b [] g h = tt
above_lower a b (e ∷ es) g h = (from_below a b e g h.0, above_lower a b es g h.1)

lower_before : (n m : ℤ) → int_lt m n ≡ false → int_lt m (before n) ≡ false
lower_before n m g = grind (arith, ints, nat_tests)

below_all : (es : List ℤ) → AllAbove (below es) es
below_all [] = tt
below_all (e ∷ es) = go (int_lt (below es) e) refl (below_all es)
  where
    go : (b : Bool) → int_lt (below es) e ≡ b → AllAbove (below es) es → AllAbove (if b then below es else before e) (e ∷ es)
    go true h i = (h, i)
    go false h i = (comes_before e, above_lower (before e) (below es) es (lower_before e (below es) h) i)

-- no edge between the two is passed
raised : (b m n : ℤ) (es : List ℤ) → int_lt m b ≡ true → int_lt n b ≡ false → SameSides es m n → SameSides es b n
raised b m n [] g h s = tt
raised b m n (e ∷ es) g h s = (go (int_lt m e) refl, raised b m n es g h s.1)
  where
    go : (c : Bool) → int_lt m e ≡ c → int_lt b e ≡ int_lt n e
    go true i = from_below b n e h (sym s.0 ∙ i) ∙ sym (sym s.0 ∙ i)
    go false i = not_past b m e i g ∙ sym (sym s.0 ∙ i)

-- the greatest edge up to the number, or what is below them all
record Floor (low n : ℤ) (es : List ℤ) : Type 0 where
  at : ℤ
  among : Among (number at) (map Integer (low ∷ es))
  sides : SameSides es at n
  lower : (at ≡ low) ⊎ (int_lt n at ≡ false)

floor : (low n : ℤ) (es : List ℤ) → AllAbove low es → Floor low n es
floor low n [] h = record { at = low; among = among_first (number low) []; sides = tt; lower = inl refl }
floor low n (e ∷ es) h = go (int_lt n e) refl (floor low n es h.1)
  where
    keep_among : (f : Floor low n es) → Among (number f.at) (map Integer (low ∷ e ∷ es))
    keep_among f passes g =
        let parts = and_parts (passes (number low)) (list_all passes (map Integer (e ∷ es))) g in
        let rest = and_parts (passes (number e)) (list_all passes (map Integer es)) parts.1 in
        f.among passes (rw (parts.0, rest.1) refl)

    under : (f : Floor low n es) → int_lt n e ≡ true → int_lt f.at e ≡ true
    under f g = elim f.lower [
      | inl l ↦ subst (λ (m : ℤ). int_lt m e ≡ true) (sym l) h.0
      | inr l ↦ from_below f.at n e l g
    ]

    choose : (c : Bool) (f : Floor low n es) → int_lt f.at e ≡ c → int_lt n e ≡ false → Floor low n (e ∷ es)
    choose true f i g = record {
      at = e;
      among = among_more (number e) (number low) (map Integer (e ∷ es)) (among_first (number e) (map Integer es));
      sides = (not_itself e ∙ sym g, raised e f.at n es i g f.sides);
      lower = inr g;
    }
    choose false f i g = record { at = f.at; among = keep_among f; sides = (i ∙ sym g, f.sides); lower = f.lower }

    go : (b : Bool) → int_lt n e ≡ b → Floor low n es → Floor low n (e ∷ es)
    go true g f = record { at = f.at; among = keep_among f; sides = (under f g ∙ sym g, f.sides); lower = f.lower }
    go false g f = choose (int_lt f.at e) f refl g

-- ---- stobjs that are no integers

abbrev NotAmong : Object ℕ → List (Object ℕ) → Type 0
NotAmong x [] = Unit {0}
NotAmong x (e ∷ es) = (same_object by_number x e ≡ false) × NotAmong x es

not_first : (x : Object ℕ) (es fs : List (Object ℕ)) → NotAmong x (es ++ fs) → NotAmong x es
not_first x [] fs h = tt
not_first x (e ∷ es) fs h = (h.0, not_first x es fs h.1)

not_last : (x : Object ℕ) (es fs : List (Object ℕ)) → NotAmong x (es ++ fs) → NotAmong x fs
not_last x [] fs h = h
not_last x (e ∷ es) fs h = not_last x es fs h.1

no_member : (l x : Object ℕ) → NotAmong x (members_of l) → is_member by_number x l ≡ false
no_member (Integer i) x h = refl
no_member (Symbol s) x h = refl
no_member (Text bytes) x h = refl
no_member (Pair a d) x h = member_more x a d ∙ rw (h.0, no_member d x h.1) refl

-- two that no integer is, that no list has, and that are recognized alike
others_meet_alike : (t : ValueType ℕ) (x y : Object ℕ) → is_integer x ≡ false → is_integer y ≡ false → NotAmong x (members t) → NotAmong y (members t)
    → ((r : Recognizer) → recognized by_number r x ≡ recognized by_number r y) → meets by_number t x ≡ meets by_number t y
others_meet_alike Anything x y g h i j r = refl
others_meet_alike Nothing x y g h i j r = refl
others_meet_alike (Integers low high) x y g h i j r = rw (g, h) refl
others_meet_alike (Recognized q) x y g h i j r = r q
others_meet_alike (OneOf l) x y g h i j r = no_member l x i ∙ sym (no_member l y j)
others_meet_alike (Either a b) x y g h i j r =
    either_alike _ _ _ _ (others_meet_alike a x y g h (not_first x (members a) (members b) i) (not_first y (members a) (members b) j) r)
    (others_meet_alike b x y g h (not_last x (members a) (members b) i) (not_last y (members a) (members b) j) r)
others_meet_alike (Both a b) x y g h i j r =
    both_alike _ _ _ _ (others_meet_alike a x y g h (not_first x (members a) (members b) i) (not_first y (members a) (members b) j) r)
    (others_meet_alike b x y g h (not_last x (members a) (members b) i) (not_last y (members a) (members b) j) r)
others_meet_alike (Other a) x y g h i j r = ap not (others_meet_alike a x y g h i j r)

-- a stobj is one of these, or none
one_or_none : (x : Object ℕ) (es : List (Object ℕ)) → Among x es ⊎ NotAmong x es
one_or_none x [] = inr tt
one_or_none x (e ∷ es) = go (same_object by_number x e) refl (one_or_none x es)
  where
    go : (b : Bool) → same_object by_number x e ≡ b → Among x es ⊎ NotAmong x es → Among x (e ∷ es) ⊎ NotAmong x (e ∷ es)
    go true h r = inl (subst (λ z. Among x (z ∷ es)) (same_tells by_number same_number-Decides x e h) (among_first x es))
    go false h (inl a) = inl (among_more x e es a)
    go false h (inr n) = inr (h, n)

-- a stobj of a greater extent than all of these together is none of them
unlisted : (y : Object ℕ) (es : List (Object ℕ)) → total_extent es < extent y → NotAmong y es
unlisted y [] h = tt
unlisted y (e ∷ es) h = (go (same_object by_number y e) refl, unlisted y es (omega (arith, h)))
  where
    go : (b : Bool) → same_object by_number y e ≡ b → b ≡ false
    go true i = let same : extent y ≡ extent e = ap extent (same_tells by_number same_number-Decides y e i) in absurd (omega (arith, h, same))
    go false i = refl

symbols_recognized : (r : Recognizer) (s t : ℕ) → nat_eq s nil ≡ false → nat_eq s truth ≡ false → nat_eq t nil ≡ false → nat_eq t truth ≡ false → recognized by_number r (Symbol s) ≡ recognized by_number r (Symbol t)
unfolding recognized
symbols_recognized recognizer.Consp s t g h i j = refl
symbols_recognized recognizer.Atom s t g h i j = refl
symbols_recognized recognizer.Null s t g h i j = g ∙ sym i
symbols_recognized recognizer.Not s t g h i j = g ∙ sym i
symbols_recognized recognizer.Symbolp s t g h i j = refl
symbols_recognized recognizer.Stringp s t g h i j = refl
symbols_recognized recognizer.Integerp s t g h i j = refl
symbols_recognized recognizer.Natp s t g h i j = refl
symbols_recognized recognizer.Posp s t g h i j = refl
symbols_recognized recognizer.Booleanp s t g h i j = either_alike _ _ _ _ (h ∙ sym j) (g ∙ sym i)
symbols_recognized recognizer.TrueListp s t g h i j = g ∙ sym i
symbols_recognized recognizer.Alistp s t g h i j = g ∙ sym i
symbols_recognized recognizer.Endp s t g h i j = refl
symbols_recognized recognizer.Zerop s t g h i j = refl
symbols_recognized recognizer.Zp s t g h i j = refl
symbols_recognized recognizer.Zip s t g h i j = refl

texts_recognized : (r : Recognizer) (xs ys : List ℕ) → recognized by_number r (Text xs) ≡ recognized by_number r (Text ys)
unfolding recognized
texts_recognized recognizer.Consp xs ys = refl
texts_recognized recognizer.Atom xs ys = refl
texts_recognized recognizer.Null xs ys = refl
texts_recognized recognizer.Not xs ys = refl
texts_recognized recognizer.Symbolp xs ys = refl
texts_recognized recognizer.Stringp xs ys = refl
texts_recognized recognizer.Integerp xs ys = refl
texts_recognized recognizer.Natp xs ys = refl
texts_recognized recognizer.Posp xs ys = refl
texts_recognized recognizer.Booleanp xs ys = refl
texts_recognized recognizer.TrueListp xs ys = refl
texts_recognized recognizer.Alistp xs ys = refl
texts_recognized recognizer.Endp xs ys = refl
texts_recognized recognizer.Zerop xs ys = refl
texts_recognized recognizer.Zp xs ys = refl
texts_recognized recognizer.Zip xs ys = refl

pairs_recognized : (r : Recognizer) (a d b e : Object ℕ) → is_true_list by_number (Pair a d) ≡ is_true_list by_number (Pair b e) → is_alist by_number (Pair a d) ≡ is_alist by_number (Pair b e)
    → recognized by_number r (Pair a d) ≡ recognized by_number r (Pair b e)
unfolding recognized
pairs_recognized recognizer.Consp a d b e g h = refl
pairs_recognized recognizer.Atom a d b e g h = refl
pairs_recognized recognizer.Null a d b e g h = refl
pairs_recognized recognizer.Not a d b e g h = refl
pairs_recognized recognizer.Symbolp a d b e g h = refl
pairs_recognized recognizer.Stringp a d b e g h = refl
pairs_recognized recognizer.Integerp a d b e g h = refl
pairs_recognized recognizer.Natp a d b e g h = refl
pairs_recognized recognizer.Posp a d b e g h = refl
pairs_recognized recognizer.Booleanp a d b e g h = refl
pairs_recognized recognizer.TrueListp a d b e g h = g
pairs_recognized recognizer.Alistp a d b e g h = h
pairs_recognized recognizer.Endp a d b e g h = refl
pairs_recognized recognizer.Zerop a d b e g h = refl
pairs_recognized recognizer.Zp a d b e g h = refl
pairs_recognized recognizer.Zip a d b e g h = refl

alist_is_list : (x : Object ℕ) → is_alist by_number x ≡ true → is_true_list by_number x ≡ true
alist_is_list (Integer n) h = h
alist_is_list (Symbol s) h = h
alist_is_list (Text bytes) h = h
alist_is_list (Pair a d) h = alist_is_list d (and_parts (is_pair a) (is_alist by_number d) h).1

-- ---- a representative of each stobj

record Represents (t : ValueType ℕ) (x y : Object ℕ) : Type 0 where
  among : Among y (representatives t)
  meeting : meets by_number t y ≡ meets by_number t x
  keeping : (kind : Kind) → is_kept kind y ≡ is_kept kind x

abbrev Represented : ValueType ℕ → Object ℕ → Type 0
Represented t x = (y : Object ℕ) × Represents t x y

module _ (t : ValueType ℕ) where
  abbrev large : ℕ
  large = total_extent (members t) + 2

  abbrev zeros : List ℕ
  zeros = replicate large 0

  -- the others, from one on
  abbrev from_alist : List (Object ℕ)
  from_alist = Pair (Pair (Symbol large) (Symbol nil)) (Symbol nil) ∷ []

  abbrev from_list : List (Object ℕ)
  from_list = Pair (Symbol large) (Symbol nil) ∷ from_alist

  abbrev from_pair : List (Object ℕ)
  from_pair = Pair (Symbol large) (Symbol large) ∷ from_list

  abbrev from_text : List (Object ℕ)
  from_text = Text zeros ∷ from_pair

  abbrev from_symbol : List (Object ℕ)
  from_symbol = Symbol large ∷ from_text

  abbrev from_nil : List (Object ℕ)
  from_nil = Symbol nil ∷ from_symbol

  abbrev all_others : List (Object ℕ)
  all_others = others large

  has_truth : Among (Symbol truth) all_others
  has_truth = among_first (Symbol truth) from_nil

  has_nil : Among (Symbol nil) all_others
  has_nil = among_more (Symbol nil) (Symbol truth) from_nil (among_first (Symbol nil) from_symbol)

  in_symbols : (y : Object ℕ) → Among y from_symbol → Among y all_others
  in_symbols y a = among_more y (Symbol truth) from_nil (among_more y (Symbol nil) from_symbol a)

  in_texts : (y : Object ℕ) → Among y from_text → Among y all_others
  in_texts y a = in_symbols y (among_more y (Symbol large) from_text a)

  in_pairs : (y : Object ℕ) → Among y from_pair → Among y all_others
  in_pairs y a = in_texts y (among_more y (Text zeros) from_pair a)

  in_lists : (y : Object ℕ) → Among y from_list → Among y all_others
  in_lists y a = in_pairs y (among_more y (Pair (Symbol large) (Symbol large)) from_list a)

  in_alists : (y : Object ℕ) → Among y from_alist → Among y all_others
  in_alists y a = in_lists y (among_more y (Pair (Symbol large) (Symbol nil)) from_alist a)

  integer_represented : (n : ℤ) → Represented t (Integer n)
  integer_represented n = (
    number f.at,
    record {
      among = among_left (number f.at) (integer_representatives (edges t ++ kind_edges)) (members t ++ all_others) f.among;
      meeting = integers_meet_alike t f.at n (sides_first (edges t) kind_edges f.at n f.sides);
      keeping = λ kind. kept_alike kind f.at n (sides_last (edges t) kind_edges f.at n f.sides);
    },
  )
    where
      f : Floor (below (edges t ++ kind_edges)) n (edges t ++ kind_edges)
      f = floor (below (edges t ++ kind_edges)) n (edges t ++ kind_edges) (below_all (edges t ++ kind_edges))

  among_listed : (y : Object ℕ) → Among y (members t) → Among y (representatives t)
  among_listed y a = among_right y (integer_representatives (edges t ++ kind_edges)) (members t ++ all_others) (among_left y (members t) all_others a)

  among_others : (y : Object ℕ) → Among y all_others → Among y (representatives t)
  among_others y a = among_right y (integer_representatives (edges t ++ kind_edges)) (members t ++ all_others) (among_right y (members t) all_others a)

  -- what is among them represents itself
  itself : (x : Object ℕ) → Among x (representatives t) → Represented t x
  itself x a = (x, record { among = a; meeting = refl; keeping = λ kind. refl })

  kept_not : (kind : Kind) (x y : Object ℕ) → is_integer x ≡ false → is_integer y ≡ false → is_kept kind y ≡ is_kept kind x
  kept_not Byte x y g h = rw (g, h) refl
  kept_not I32 x y g h = rw (g, h) refl
  kept_not I64 x y g h = rw (g, h) refl
  kept_not General x y g h = refl

  -- one of the others represents what no list has and it is recognized as
  by_other : (x y : Object ℕ) → is_integer x ≡ false → is_integer y ≡ false → NotAmong x (members t) → total_extent (members t) < extent y → Among y all_others
      → ((r : Recognizer) → recognized by_number r y ≡ recognized by_number r x) → Represented t x
  by_other x y g h n l a r = (
    y,
    record {
      among = among_others y a;
      meeting = others_meet_alike t y x h g (unlisted y (members t) l) n r;
      keeping = λ kind. kept_not kind x y g h;
    },
  )

  at_most : (n : ℕ) → nat_eq (n + 2) nil ≡ false
  at_most n = grind (arith, nat_tests)

  not_truth : (n : ℕ) → nat_eq (n + 2) truth ≡ false
  not_truth n = grind (arith, nat_tests)

  symbol_represented : (s : ℕ) → NotAmong (Symbol s) (members t) → Represented t (Symbol s)
  symbol_represented s n = go (nat_eq s truth) (nat_eq s nil) refl refl
    where
      go : (b c : Bool) → nat_eq s truth ≡ b → nat_eq s nil ≡ c → Represented t (Symbol s)
      go true c e f = subst (λ z. Represented t (Symbol z)) (sym ((same_number-Decides s truth).0 e)) (itself (Symbol truth) (among_others (Symbol truth) has_truth))
      go false true e f = subst (λ z. Represented t (Symbol z)) (sym ((same_number-Decides s nil).0 f)) (itself (Symbol nil) (among_others (Symbol nil) has_nil))
      go false false e f =
          by_other (Symbol s) (Symbol large) refl refl n (omega arith) (in_symbols (Symbol large) (among_first (Symbol large) from_text))
          (λ r. symbols_recognized r large s (at_most (total_extent (members t))) (not_truth (total_extent (members t))) f e)

  text_represented : (bytes : List ℕ) → NotAmong (Text bytes) (members t) → Represented t (Text bytes)
  text_represented bytes n =
      let long : length zeros ≡ large = length-replicate large 0 in
      by_other (Text bytes) (Text zeros) refl refl n (omega (arith, long)) (in_texts (Text zeros) (among_first (Text zeros) from_pair)) (λ r. texts_recognized r zeros bytes)

  pair_represented : (a d : Object ℕ) → NotAmong (Pair a d) (members t) → Represented t (Pair a d)
  pair_represented a d n = go (is_true_list by_number (Pair a d)) (is_alist by_number (Pair a d)) refl refl
    where
      no_nil : is_true_list by_number (Symbol large) ≡ false
      no_nil = at_most (total_extent (members t))

      go : (b c : Bool) → is_true_list by_number (Pair a d) ≡ b → is_alist by_number (Pair a d) ≡ c → Represented t (Pair a d)
      go true true e f =
          by_other (Pair a d) (Pair (Pair (Symbol large) (Symbol nil)) (Symbol nil)) refl refl n (omega arith)
          (in_alists (Pair (Pair (Symbol large) (Symbol nil)) (Symbol nil)) (among_first (Pair (Pair (Symbol large) (Symbol nil)) (Symbol nil)) []))
          (λ r. pairs_recognized r (Pair (Symbol large) (Symbol nil)) (Symbol nil) a d (sym e) (sym f))
      go true false e f =
          by_other (Pair a d) (Pair (Symbol large) (Symbol nil)) refl refl n (omega arith)
          (in_lists (Pair (Symbol large) (Symbol nil)) (among_first (Pair (Symbol large) (Symbol nil)) from_alist))
          (λ r. pairs_recognized r (Symbol large) (Symbol nil) a d (sym e) (sym f))
      go false true e f = absurd (clash (sym e ∙ alist_is_list (Pair a d) f))
        where
          clash : false ≡ true → ⊥
          clash q = cc
      go false false e f =
          by_other (Pair a d) (Pair (Symbol large) (Symbol large)) refl refl n (omega arith)
          (in_pairs (Pair (Symbol large) (Symbol large)) (among_first (Pair (Symbol large) (Symbol large)) from_list))
          (λ r. pairs_recognized r (Symbol large) (Symbol large) a d (no_nil ∙ sym e) (sym f))

  represented : (x : Object ℕ) → Represented t x
  represented (Integer n) = integer_represented n
  represented (Symbol s) = elim (one_or_none (Symbol s) (members t)) [
    | inl a ↦ itself (Symbol s) (among_listed (Symbol s) a)
    | inr n ↦ symbol_represented s n
  ]
  represented (Text bytes) = elim (one_or_none (Text bytes) (members t)) [
    | inl a ↦ itself (Text bytes) (among_listed (Text bytes) a)
    | inr n ↦ text_represented bytes n
  ]
  represented (Pair a d) = elim (one_or_none (Pair a d) (members t)) [
    | inl b ↦ itself (Pair a d) (among_listed (Pair a d) b)
    | inr n ↦ pair_represented a d n
  ]

  -- ---- kinds

  passed : (b c : Bool) → (not b || c) ≡ true → b ≡ true → c ≡ true
  passed true c e f = e
  passed false c e f = cc

  failed : (b c : Bool) → (not b || c) ≡ false → (b ≡ true) × (c ≡ false)
  failed true c e = (refl, e)
  failed false c e = cc

  all_kept : (kind : Kind) → keeps_all kind t ≡ true → (x : Object ℕ) → meets by_number t x ≡ true → is_kept kind x ≡ true
  all_kept kind h x m =
      let r = represented x in
      sym (r.1.keeping kind) ∙ passed (meets by_number t r.0) (is_kept kind r.0) (r.1.among (λ y. not (meets by_number t y) || is_kept kind y) h) (r.1.meeting ∙ m)

  found : (kind : Kind) (ys : List (Object ℕ)) → list_all (λ y. not (meets by_number t y) || is_kept kind y) ys ≡ false → Exceeds kind t
  found kind [] h = cc
  found kind (y ∷ ys) h = go (not (meets by_number t y) || is_kept kind y) refl (λ f. found kind ys f) h
    where
      go : (b : Bool) → (not (meets by_number t y) || is_kept kind y) ≡ b → (list_all (λ z. not (meets by_number t z) || is_kept kind z) ys ≡ false → Exceeds kind t)
          → (b && list_all (λ z. not (meets by_number t z) || is_kept kind z) ys) ≡ false → Exceeds kind t
      go true e r f = r f
      go false e r f = let p = failed (meets by_number t y) (is_kept kind y) e in (y, p.0, p.1)

  not_kept : (kind : Kind) → keeps_all kind t ≡ false → Exceeds kind t
  not_kept kind h = found kind (representatives t) h

  wider_low : (n low least : ℤ) → int_lt n low ≡ false → int_lt low least ≡ false → int_lt n least ≡ false
  wider_low n low least g h = grind (arith, ints, nat_tests)

  wider_high : (n high most : ℤ) → int_lt n high ≡ true → int_lt most high ≡ false → int_lt n most ≡ true
  wider_high n high most g h = grind (arith, ints, nat_tests)

  is_not : (b : Bool) → not b ≡ true → b ≡ false
  is_not true e = cc
  is_not false e = refl

  wider : (low high least most : ℤ) (x : Object ℕ) → int_lt low least ≡ false → int_lt most high ≡ false → is_between low high x ≡ true → is_between least most x ≡ true
  wider low high least most (Integer n) g h e =
      let p = and_parts (not (int_lt n low)) (int_lt n high) e in
      rw (wider_low n low least (is_not (int_lt n low) p.0) g, wider_high n high most p.1 h) refl
  wider low high least most (Symbol s) g h e = cc
  wider low high least most (Text bytes) g h e = cc
  wider low high least most (Pair a d) g h e = cc

  -- 64 bits keep what a smaller kind keeps
  kept_in_64 : (kind : Kind) (x : Object ℕ) → rank kind < 3 → is_kept kind x ≡ true → is_kept I64 x ≡ true
  kept_in_64 Byte x l h = wider (pos 0) (pos 256) least_64 (pos (2 ^ 63)) x refl refl h
  kept_in_64 I32 x l h = wider least_32 (pos (2 ^ 31)) least_64 (pos (2 ^ 63)) x refl refl h
  kept_in_64 I64 x l h = h
  kept_in_64 General x l h = absurd (omega arith)

  not_beyond : (kind : Kind) → rank kind < 3 → keeps_all kind t ≡ true → Exceeds I64 t → ⊥
  not_beyond kind l h x = clash (sym x.2 ∙ kept_in_64 kind x.0 l (all_kept kind h x.0 x.1))
    where
      clash : false ≡ true → ⊥
      clash e = cc

  byte_is : keeps_all Byte t ≡ true → IsKindOf t Byte
  byte_is e = record {
    keeps = all_kept Byte e;
    smallest = λ less l. absurd (omega arith);
    general = λ x. absurd (not_beyond Byte (omega arith) e x);
    exceeds = λ q. absurd (differs q);
  }
    where
      differs : Byte ≡ General → ⊥
      differs q = cc

  half_is : keeps_all Byte t ≡ false → keeps_all I32 t ≡ true → IsKindOf t I32
  half_is e f = record { keeps = all_kept I32 f; smallest = smaller; general = λ x. absurd (not_beyond I32 (omega arith) f x); exceeds = λ q. absurd (differs q) }
    where
      smaller : (less : Kind) → rank less < rank I32 → Exceeds less t
      smaller Byte l = not_kept Byte e
      smaller I32 l = absurd (omega arith)
      smaller I64 l = absurd (omega arith)
      smaller General l = absurd (omega arith)

      differs : I32 ≡ General → ⊥
      differs q = cc

  wide_is : keeps_all Byte t ≡ false → keeps_all I32 t ≡ false → keeps_all I64 t ≡ true → IsKindOf t I64
  wide_is e f g = record { keeps = all_kept I64 g; smallest = smaller; general = λ x. absurd (not_beyond I64 (omega arith) g x); exceeds = λ q. absurd (differs q) }
    where
      smaller : (less : Kind) → rank less < rank I64 → Exceeds less t
      smaller Byte l = not_kept Byte e
      smaller I32 l = not_kept I32 f
      smaller I64 l = absurd (omega arith)
      smaller General l = absurd (omega arith)

      differs : I64 ≡ General → ⊥
      differs q = cc

  general_is : keeps_all Byte t ≡ false → keeps_all I32 t ≡ false → keeps_all I64 t ≡ false → IsKindOf t General
  general_is e f g = record { keeps = λ x m. refl; smallest = smaller; general = λ x. refl; exceeds = λ q. not_kept I64 g }
    where
      smaller : (less : Kind) → rank less < rank General → Exceeds less t
      smaller Byte l = not_kept Byte e
      smaller I32 l = not_kept I32 f
      smaller I64 l = not_kept I64 g
      smaller General l = absurd (omega arith)

  kind_is : IsKindOf t (kind_of t)
  kind_is = go (keeps_all Byte t) (keeps_all I32 t) (keeps_all I64 t) refl refl refl
    where
      go : (a b c : Bool) → keeps_all Byte t ≡ a → keeps_all I32 t ≡ b → keeps_all I64 t ≡ c → IsKindOf t (if a then Byte else if b then I32 else if c then I64 else General)
      go true b c e f g = byte_is e
      go false true c e f g = half_is e f
      go false false true e f g = wide_is e f g
      go false false false e f g = general_is e f g

pub kinds_are_of_types : KindsAreOfTypes
kinds_are_of_types = record { kinds = kind_is }

pub kind_rows : KindRows
unfolding recognized
kind_rows = record { cut = refl; more = refl; twice = refl; integers = refl; all = refl; mixed = refl; fresh = refl; signed = refl; unsigned = refl; byte = refl; small = refl; half = refl; wide = refl; member = refl; numbers = refl; empty = refl; neither = refl }
