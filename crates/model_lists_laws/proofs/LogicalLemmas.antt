-- Lists and the ordinary objects that they are.
use Rattle.std.proofs.Common.{◌≡◌, ℕ, zero, suc, ◌+◌, ◌<◌, List, [], ◌∷◌, map, Bool, true, false, Some, refl, ap, arith, sub-one}
use Rattle.std.specs.Prelude.{nat_eq, ◌&&◌, ◌||◌, unwrap_or, if◌then◌else◌}
use Rattle.std.specs.Option.{is_some}
use Rattle.std.proofs.lemmas.Bool.Decides.{nat_tests}
use Rattle.model_objects.specs.Object.{Object, Pair}
use Rattle.model_symbols.specs.Opening.{opening, acl2_package, common_lisp_symbols, acl2_symbols, common_lisp_text, acl2_text}
use Rattle.model_prims.specs.Kinds.{SymbolKind, by_name, by_number, nil_of, is_pair, same_object}
use Rattle.model_prims.specs.Lists.{len, cdr, element, updated}
use Rattle.model_lists.specs.Lists.{StobjList, Value, Pairs, End, Item, size, item, with_item, resized, value_at, has_key, without_key, key_count, as_object}
use Rattle.model_lists.specs.Types.{meets}
use Rattle.model_lists.specs.Layouts.{Layout, Scalar, Array, Hash, Children, NoField, Field, initial, repeated, every, recognizes}
use Rattle.model_lists.specs.Logical.{with_length, pair_with, without_pairs, keys_in}
use Rattle.model_lists.specs.Listed.{list_of_parts, pair_part, listed, printed}
use Rattle.model_lists_laws.specs.Laws.{AreItems, IsLogical, IsListed, HasInitials, IsRecognized, AreTypeWords}

not_zero : (n : ℕ) → nat_eq (suc n) 0 ≡ false
not_zero n = grind (arith, nat_tests)

module _ {S : Type 0} (k : SymbolKind S) where
  access : (n : ℕ) (l : StobjList S) → AreItems l → as_object k (item n l) ≡ element k n (as_object k l)
  access n (Value o) h = absurd h
  access n (Pairs ps) h = absurd h
  access n End h = refl
  access zero (Item first rest) h = refl
  access (suc n) (Item first rest) h = rw (not_zero n, sub-one) (access n rest h)

  update : (n : ℕ) (x l : StobjList S) → n < size l → as_object k (with_item n x l) ≡ updated k n (as_object k x) (as_object k l)
  update n x (Value o) h = absurd (omega arith)
  update n x (Pairs ps) h = absurd (omega arith)
  update n x End h = absurd (omega arith)
  update zero x (Item first rest) h = refl
  update (suc n) x (Item first rest) h = rw (not_zero n, sub-one) (ap (Pair (as_object k first)) (update n x rest (omega arith)))

  items : (l : StobjList S) → AreItems l → len (as_object k l) ≡ size l
  items (Value o) h = absurd h
  items (Pairs ps) h = absurd h
  items End h = refl
  items (Item first rest) h = ap (λ (n : ℕ). n + 1) (items rest h)

  resize : (n : ℕ) (x l : StobjList S) → AreItems l → as_object k (resized n x l) ≡ with_length k n (as_object k x) (as_object k l)
  resize zero x l h = refl
  resize (suc n) x (Value o) h = absurd h
  resize (suc n) x (Pairs ps) h = absurd h
  resize (suc n) x End h = ap (Pair (as_object k x)) (resize n x End tt)
  resize (suc n) x (Item first rest) h = ap (Pair (as_object k first)) (resize n x rest h)

  -- ---- pairs

  value : (key : Object S) (ps : List (Object S × Object S)) → cdr k (pair_with k key (as_object k (Pairs ps))) ≡ unwrap_or (value_at k key ps) (nil_of k)
  value key [] = refl
  value key (p ∷ ps) = go (same_object k key p.0) (value key ps)
    where
      go : (b : Bool) → cdr k (pair_with k key (as_object k (Pairs ps))) ≡ unwrap_or (value_at k key ps) (nil_of k)
          → cdr k (if b then Pair p.0 p.1 else pair_with k key (as_object k (Pairs ps))) ≡ unwrap_or (if b then Some p.1 else value_at k key ps) (nil_of k)
      go true h = refl
      go false h = h

  is_bound : (key : Object S) (ps : List (Object S × Object S)) → is_pair (pair_with k key (as_object k (Pairs ps))) ≡ has_key k key ps
  is_bound key [] = refl
  is_bound key (p ∷ ps) = go (same_object k key p.0) (is_bound key ps)
    where
      go : (b : Bool) → is_pair (pair_with k key (as_object k (Pairs ps))) ≡ has_key k key ps
          → is_pair (if b then Pair p.0 p.1 else pair_with k key (as_object k (Pairs ps))) ≡ is_some (if b then Some p.1 else value_at k key ps)
      go true h = refl
      go false h = h

  remove : (key : Object S) (ps : List (Object S × Object S)) → as_object k (Pairs (without_key k key ps)) ≡ without_pairs k key (as_object k (Pairs ps))
  remove key [] = refl
  remove key (p ∷ ps) = go (same_object k key p.0) (remove key ps)
    where
      go : (b : Bool) → as_object k (Pairs (without_key k key ps)) ≡ without_pairs k key (as_object k (Pairs ps))
          → as_object k (Pairs (if b then without_key k key ps else p ∷ without_key k key ps)) ≡ (if b then without_pairs k key (as_object k (Pairs ps)) else Pair (Pair p.0 p.1) (without_pairs k key (as_object k (Pairs ps))))
      go true h = h
      go false h = ap (Pair (Pair p.0 p.1)) h

  count : (ps : List (Object S × Object S)) → keys_in k (as_object k (Pairs ps)) ≡ key_count k ps
  count [] = refl
  count (p ∷ ps) = rw (is_bound p.0 ps) (go (has_key k p.0 ps) (count ps))
    where
      go : (b : Bool) → keys_in k (as_object k (Pairs ps)) ≡ key_count k ps → (if b then keys_in k (as_object k (Pairs ps)) else keys_in k (as_object k (Pairs ps)) + 1) ≡ (if b then key_count k ps else key_count k ps + 1)
      go true h = h
      go false h = ap (λ (n : ℕ). n + 1) h

  -- ---- shapes

  pairs_printed : (ps : List (Object S × Object S)) → printed k (list_of_parts (map pair_part ps)) ≡ as_object k (Pairs ps)
  pairs_printed [] = refl
  pairs_printed (p ∷ ps) = ap (Pair (Pair p.0 p.1)) (pairs_printed ps)

  list_printed : (l : StobjList S) → printed k (listed l) ≡ as_object k l
  list_printed (Value o) = refl
  list_printed (Pairs ps) = pairs_printed ps
  list_printed End = refl
  list_printed (Item first rest) = rw (list_printed first, list_printed rest) refl

  -- ---- recognizers

  -- NIL is itself
  module _ (same_nil : k.same k.nil k.nil ≡ true) where
    every_repeated : (passes : Object S → Bool) (n : ℕ) (x : StobjList S) → passes (as_object k x) ≡ true → every k passes (as_object k (repeated n x)) ≡ true
    every_repeated passes zero x h = same_nil
    every_repeated passes (suc n) x h = rw h (every_repeated passes n x h)

    len_repeated : (n : ℕ) (x : StobjList S) → len (as_object k (repeated n x)) ≡ n
    len_repeated zero x = refl
    len_repeated (suc n) x = let e : len (as_object k (repeated n x)) ≡ n = len_repeated n x in omega (arith, e)

    has_length : (m n : ℕ) → m ≡ n → nat_eq m n ≡ true
    has_length m n e = grind (arith, nat_tests)

    both_true : (b c : Bool) → b ≡ true → c ≡ true → (b && c) ≡ true
    both_true b c e f = rw (e, f) refl

    or_true : (b c : Bool) → c ≡ true → (b || c) ≡ true
    or_true true c e = refl
    or_true false c e = e

    recognized : (l : Layout S) → HasInitials k l → recognizes k l (as_object k (initial l)) ≡ true
    recognized (Scalar t o) h = h
    recognized (Array t o n resizable) h =
        both_true _ _ (every_repeated (meets k t) n (Value o) h) (or_true resizable _ (has_length _ n (len_repeated n (Value o))))
    recognized (Hash test) h = refl
    recognized (Children n child) h =
        both_true _ _ (every_repeated (recognizes k child) n (initial child) (recognized child h)) (has_length _ n (len_repeated n (initial child)))
    recognized NoField h = same_nil
    recognized (Field first others) h = both_true _ _ (recognized first h.0) (recognized others h.1)

pub is_logical : {S : Type 0} (k : SymbolKind S) → IsLogical k
is_logical k = record {
  access = access k;
  update = update k;
  length = items k;
  resize = resize k;
  value = value k;
  bound = is_bound k;
  put = λ key value ps. refl;
  remove = remove k;
  count = count k;
}

pub is_listed : {S : Type 0} (k : SymbolKind S) → IsListed k
is_listed k = record { object = list_printed k }

pub is_recognized : IsRecognized
is_recognized = record { named = recognized by_name refl; numbered = recognized by_number refl }

pub are_type_words : AreTypeWords
unfolding opening acl2_package common_lisp_symbols acl2_symbols common_lisp_text acl2_text
are_type_words = record { words = refl }
