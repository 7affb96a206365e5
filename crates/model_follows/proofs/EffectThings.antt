-- What a function of a stobj does to its list, and what it is in the logic, symbols by name.
use Rattle.std.proofs.Common.{◌≡◌, ℕ, zero, suc, ◌+◌, ◌<◌, List, [], ◌∷◌, Bool, true, false, Some, refl, ap, ◌∙◌, arith, sub-one}
use Rattle.std.specs.Prelude.{◌&&◌, nat_eq, pos, negsuc, unwrap_or, if◌then◌else◌}
use Rattle.std.proofs.lemmas.Bool.Decides.{nat_tests}
use Rattle.model_objects.specs.Object.{Object, Integer, Symbol, Text, Pair, named}
use Rattle.model_objects.specs.Named.{Symbols}
use Rattle.model_symbols.specs.Symbols.{QualifiedName}
use Rattle.model_symbols.specs.Opening.{nil}
use Rattle.model_prims.specs.Kinds.{by_number, by_name, nil_of, is_pair, same_object}
use Rattle.model_prims.specs.Numbers.{natural_of}
use Rattle.model_prims.specs.Lists.{len, element}
use Rattle.model_prims.proofs.ByName.{IsNaming}
use Rattle.model_prims.proofs.NamingLemmas.{pair_named, same_named, none_named}
use Rattle.model_lists.specs.Lists.{scalar_of, StobjList, Value, Pairs, End, Item, size, item, with_item, resized, value_at, without_key, as_object}
use Rattle.model_lists.specs.Layouts.{Layout, Scalar, Array, Hash, Children, NoField, Field, field_layout, every, recognizes}
use Rattle.model_lists.specs.LiveLists.{AllItems, IsValue, HasFields}
use Rattle.model_lists.specs.Logical.{with_length, has_this_key, pair_with, without_pairs, keys_in}
use Rattle.model_lists.specs.Effects.{is_index}
use Rattle.model_lists_laws.specs.Laws.{AreItems}
use Rattle.model_lists_laws.proofs.StandingLemmas.{IsField}
use Rattle.model_logic.specs.Logic.{Thing}
use Rattle.model_accepted.proofs.AcceptLemmas.{both_true, false_true}
use Rattle.model_follows.specs.FollowedWorlds.{PairSymbols, ListSymbols}

-- ---- lists of fields

pub not_zero : (n : ℕ) → nat_eq (suc n) 0 ≡ false
not_zero n = grind (arith, nat_tests)

pub access_field : (n : ℕ) (whole : Layout ℕ) (l : StobjList ℕ) → HasFields whole l → IsField (field_layout n whole) → element by_number n (as_object by_number l) ≡ as_object by_number (item n l)
access_field n (Scalar t o) l h i = absurd i
access_field n (Array t o m resizable) l h i = absurd i
access_field n (Hash test) l h i = absurd i
access_field n (Children m child) l h i = absurd i
access_field n NoField l h i = absurd i
access_field n (Field first others) (Value o) h i = absurd h
access_field n (Field first others) (Pairs ps) h i = absurd h
access_field n (Field first others) End h i = absurd h
access_field zero (Field first others) (Item x rest) h i = refl
access_field (suc n) (Field first others) (Item x rest) h i = rw (not_zero n, sub-one) (access_field n others rest h.1 i)

pub below_size : (n : ℕ) (whole : Layout ℕ) (l : StobjList ℕ) → HasFields whole l → IsField (field_layout n whole) → n < size l
below_size n (Scalar t o) l h i = absurd i
below_size n (Array t o m resizable) l h i = absurd i
below_size n (Hash test) l h i = absurd i
below_size n (Children m child) l h i = absurd i
below_size n NoField l h i = absurd i
below_size n (Field first others) (Value o) h i = absurd h
below_size n (Field first others) (Pairs ps) h i = absurd h
below_size n (Field first others) End h i = absurd h
below_size zero (Field first others) (Item x rest) h i = omega arith
below_size (suc n) (Field first others) (Item x rest) h i = let less : n < size rest = below_size n others rest h.1 i in omega (arith, less)

pub recognized_field : (n : ℕ) (whole : Layout ℕ) (l : StobjList ℕ) → HasFields whole l → IsField (field_layout n whole) → recognizes by_number whole (as_object by_number l) ≡ true
    → recognizes by_number (field_layout n whole) (as_object by_number (item n l)) ≡ true
recognized_field n (Scalar t o) l h i r = absurd i
recognized_field n (Array t o m resizable) l h i r = absurd i
recognized_field n (Hash test) l h i r = absurd i
recognized_field n (Children m child) l h i r = absurd i
recognized_field n NoField l h i r = absurd i
recognized_field n (Field first others) (Value o) h i r = absurd h
recognized_field n (Field first others) (Pairs ps) h i r = absurd h
recognized_field n (Field first others) End h i r = absurd h
recognized_field zero (Field first others) (Item x rest) h i r = (both_true (recognizes by_number first (as_object by_number x)) (recognizes by_number others (as_object by_number rest)) r).0
recognized_field (suc n) (Field first others) (Item x rest) h i r =
    recognized_field n others rest h.1 i (both_true (recognizes by_number first (as_object by_number x)) (recognizes by_number others (as_object by_number rest)) r).1

pub recognized_with : (n : ℕ) (whole : Layout ℕ) (new l : StobjList ℕ) → HasFields whole l → IsField (field_layout n whole) → recognizes by_number whole (as_object by_number l) ≡ true
    → recognizes by_number (field_layout n whole) (as_object by_number new) ≡ true → recognizes by_number whole (as_object by_number (with_item n new l)) ≡ true
recognized_with n (Scalar t o) new l h i r e = absurd i
recognized_with n (Array t o m resizable) new l h i r e = absurd i
recognized_with n (Hash test) new l h i r e = absurd i
recognized_with n (Children m child) new l h i r e = absurd i
recognized_with n NoField new l h i r e = absurd i
recognized_with n (Field first others) new (Value o) h i r e = absurd h
recognized_with n (Field first others) new (Pairs ps) h i r e = absurd h
recognized_with n (Field first others) new End h i r e = absurd h
recognized_with zero (Field first others) new (Item x rest) h i r e =
    ap (λ (b : Bool). b && recognizes by_number others (as_object by_number rest)) e ∙ (both_true (recognizes by_number first (as_object by_number x)) (recognizes by_number others (as_object by_number rest)) r).1
recognized_with (suc n) (Field first others) new (Item x rest) h i r e =
    let both : (recognizes by_number first (as_object by_number x) ≡ true) × (recognizes by_number others (as_object by_number rest) ≡ true)
    = both_true (recognizes by_number first (as_object by_number x)) (recognizes by_number others (as_object by_number rest)) r in
    ap (λ (b : Bool). b && recognizes by_number others (as_object by_number (with_item n new rest))) both.0 ∙ recognized_with n others new rest h.1 i both.1 e

-- ---- arrays

pub all_are_items : (Is : StobjList ℕ → Type 0) (l : StobjList ℕ) → AllItems Is l → AreItems l
all_are_items Is (Value o) h = absurd h
all_are_items Is (Pairs ps) h = absurd h
all_are_items Is End h = tt
all_are_items Is (Item first rest) h = all_are_items Is rest h.1

pub every_with : (p : Object ℕ → Bool) (n : ℕ) (new l : StobjList ℕ) → every by_number p (as_object by_number l) ≡ true → p (as_object by_number new) ≡ true → every by_number p (as_object by_number (with_item n new l)) ≡ true
every_with p n new (Value o) h e = h
every_with p n new (Pairs ps) h e = h
every_with p n new End h e = h
every_with p zero new (Item first rest) h e = ap (λ (b : Bool). b && every by_number p (as_object by_number rest)) e ∙ (both_true (p (as_object by_number first)) (every by_number p (as_object by_number rest)) h).1
every_with p (suc n) new (Item first rest) h e =
    let both : (p (as_object by_number first) ≡ true) × (every by_number p (as_object by_number rest) ≡ true) = both_true (p (as_object by_number first)) (every by_number p (as_object by_number rest)) h in
    ap (λ (b : Bool). b && every by_number p (as_object by_number (with_item n new rest))) both.0 ∙ every_with p n new rest both.1 e

pub len_with : (n : ℕ) (new l : StobjList ℕ) → len (as_object by_number (with_item n new l)) ≡ len (as_object by_number l)
len_with n new (Value o) = refl
len_with n new (Pairs ps) = refl
len_with n new End = refl
len_with zero new (Item first rest) = refl
len_with (suc n) new (Item first rest) = ap (λ (m : ℕ). m + 1) (len_with n new rest)

pub every_resized : (p : Object ℕ → Bool) (n : ℕ) (o : Object ℕ) (l : StobjList ℕ) → AreItems l → every by_number p (as_object by_number l) ≡ true → p o ≡ true → every by_number p (as_object by_number (resized n (Value o) l)) ≡ true
every_resized p zero o l a h e = refl
every_resized p (suc n) o (Value q) a h e = absurd a
every_resized p (suc n) o (Pairs ps) a h e = absurd a
every_resized p (suc n) o End a h e = ap (λ (b : Bool). b && every by_number p (as_object by_number (resized n (Value o) End))) e ∙ every_resized p n o End tt refl e
every_resized p (suc n) o (Item first rest) a h e =
    let both : (p (as_object by_number first) ≡ true) × (every by_number p (as_object by_number rest) ≡ true) = both_true (p (as_object by_number first)) (every by_number p (as_object by_number rest)) h in
    ap (λ (b : Bool). b && every by_number p (as_object by_number (resized n (Value o) rest))) both.0 ∙ every_resized p n o rest a both.1 e

pub index_below : (i : Object ℕ) (n : ℕ) → is_index i n ≡ true → natural_of i < n
index_below (Integer (pos m)) n e = grind (arith, nat_tests)
index_below (Integer (negsuc m)) n e = false_true e
index_below (Symbol s) n e = false_true e
index_below (Text bytes) n e = false_true e
index_below (Pair a d) n e = false_true e

-- ---- symbols in lists

-- what is read where a value is wanted
pub scalar_value : (l : StobjList ℕ) → IsValue l → scalar_of by_number l ≡ as_object by_number l
scalar_value (Value o) h = refl
scalar_value (Pairs ps) h = absurd h
scalar_value End h = absurd h
scalar_value (Item first rest) h = absurd h

pub scalar_element : (n : ℕ) (l : StobjList ℕ) → AllItems IsValue l → scalar_of by_number (item n l) ≡ as_object by_number (item n l)
scalar_element n (Value o) h = absurd h
scalar_element n (Pairs ps) h = absurd h
scalar_element n End h = refl
scalar_element zero (Item first rest) h = scalar_value first h.0
scalar_element (suc n) (Item first rest) h = scalar_element n rest h.1

pub item_known : (P : ℕ → Type 0) (n : ℕ) (l : StobjList ℕ) → ListSymbols P l → ListSymbols P (item n l)
item_known P n (Value o) h = tt
item_known P n (Pairs ps) h = tt
item_known P n End h = tt
item_known P zero (Item first rest) h = h.0
item_known P (suc n) (Item first rest) h = item_known P n rest h.1

pub with_known : (P : ℕ → Type 0) (n : ℕ) (new l : StobjList ℕ) → ListSymbols P new → ListSymbols P l → ListSymbols P (with_item n new l)
with_known P n new (Value o) g h = h
with_known P n new (Pairs ps) g h = h
with_known P n new End g h = h
with_known P zero new (Item first rest) g h = (g, h.1)
with_known P (suc n) new (Item first rest) g h = (h.0, with_known P n new rest g h.1)

pub resized_known : (P : ℕ → Type 0) (n : ℕ) (fill l : StobjList ℕ) → ListSymbols P fill → ListSymbols P l → ListSymbols P (resized n fill l)
resized_known P zero fill l g h = tt
resized_known P (suc n) fill (Value o) g h = (g, resized_known P n fill End g tt)
resized_known P (suc n) fill (Pairs ps) g h = (g, resized_known P n fill End g tt)
resized_known P (suc n) fill End g h = (g, resized_known P n fill End g tt)
resized_known P (suc n) fill (Item first rest) g h = (h.0, resized_known P n fill rest g h.1)

pub value_known : (P : ℕ → Type 0) (key : Object ℕ) (ps : List (Object ℕ × Object ℕ)) → P nil → PairSymbols P ps → Symbols P (unwrap_or (value_at by_number key ps) (nil_of by_number))
value_known P key [] n h = n
value_known P key (p ∷ ps) n h = go (same_object by_number key p.0) (value_known P key ps n h.2)
  where
    go : (b : Bool) → Symbols P (unwrap_or (value_at by_number key ps) (nil_of by_number)) → Symbols P (unwrap_or (if b then Some p.1 else value_at by_number key ps) (nil_of by_number))
    go true later = h.1
    go false later = later

pub without_known : (P : ℕ → Type 0) (key : Object ℕ) (ps : List (Object ℕ × Object ℕ)) → PairSymbols P ps → PairSymbols P (without_key by_number key ps)
without_known P key [] h = tt
without_known P key (p ∷ ps) h = go (same_object by_number key p.0) (without_known P key ps h.2)
  where
    go : (b : Bool) → PairSymbols P (without_key by_number key ps) → PairSymbols P (if b then without_key by_number key ps else p ∷ without_key by_number key ps)
    go true later = later
    go false later = (h.0, h.1, later)

-- ---- the logic's functions by name

module _ (f : ℕ → QualifiedName) (P : ℕ → Type 0) (n : IsNaming f P) where
  abbrev pub N : Object ℕ → Thing
  N o = named f o

  pub nothing : nil_of by_name ≡ N (nil_of by_number)
  nothing = none_named f P n

  pub length_named : (m : ℕ) (fill x : Object ℕ) → with_length by_name m (N fill) (N x) ≡ N (with_length by_number m fill x)
  length_named zero fill x = nothing
  length_named (suc m) fill (Integer i) = ap (λ (z : Thing). Pair (N fill) (with_length by_name m (N fill) z)) nothing ∙ ap (Pair (N fill)) (length_named m fill (nil_of by_number))
  length_named (suc m) fill (Symbol s) = ap (λ (z : Thing). Pair (N fill) (with_length by_name m (N fill) z)) nothing ∙ ap (Pair (N fill)) (length_named m fill (nil_of by_number))
  length_named (suc m) fill (Text bytes) = ap (λ (z : Thing). Pair (N fill) (with_length by_name m (N fill) z)) nothing ∙ ap (Pair (N fill)) (length_named m fill (nil_of by_number))
  length_named (suc m) fill (Pair a d) = ap (Pair (N a)) (length_named m fill d)

  pub key_named : (key o : Object ℕ) → Symbols P key → Symbols P o → has_this_key by_name (N key) (N o) ≡ has_this_key by_number key o
  key_named key (Integer i) k h = refl
  key_named key (Symbol s) k h = refl
  key_named key (Text bytes) k h = refl
  key_named key (Pair a d) k h = same_named f P n key a k h.0

  pub if_thing : (b c : Bool) (x y : Object ℕ) → b ≡ c → (if b then N x else N y) ≡ N (if c then x else y)
  if_thing b true x y e = rw e refl
  if_thing b false x y e = rw e refl

  pub with_key_named : (key x : Object ℕ) → Symbols P key → Symbols P x → pair_with by_name (N key) (N x) ≡ N (pair_with by_number key x)
  with_key_named key (Integer i) k h = nothing
  with_key_named key (Symbol s) k h = nothing
  with_key_named key (Text bytes) k h = nothing
  with_key_named key (Pair a d) k h =
      ap (λ (z : Thing). if has_this_key by_name (N key) (N a) then N a else z) (with_key_named key d k h.1)
      ∙ if_thing (has_this_key by_name (N key) (N a)) (has_this_key by_number key a) a (pair_with by_number key d) (key_named key a k h.0)

  pub without_named : (key x : Object ℕ) → Symbols P key → Symbols P x → without_pairs by_name (N key) (N x) ≡ N (without_pairs by_number key x)
  without_named key (Integer i) k h = nothing
  without_named key (Symbol s) k h = nothing
  without_named key (Text bytes) k h = nothing
  without_named key (Pair a d) k h =
      ap (λ (z : Thing). if has_this_key by_name (N key) (N a) then z else Pair (N a) z) (without_named key d k h.1)
      ∙ if_thing (has_this_key by_name (N key) (N a)) (has_this_key by_number key a) (without_pairs by_number key d) (Pair a (without_pairs by_number key d)) (key_named key a k h.0)

  pub count_named : (x : Object ℕ) → Symbols P x → keys_in by_name (N x) ≡ keys_in by_number x
  count_named (Integer i) h = refl
  count_named (Symbol s) h = refl
  count_named (Text bytes) h = refl
  count_named (Pair (Integer i) d) h = count_named d h.1
  count_named (Pair (Symbol s) d) h = count_named d h.1
  count_named (Pair (Text bytes) d) h = count_named d h.1
  count_named (Pair (Pair a e) d) h =
      ap (λ (z : Thing). if is_pair z then keys_in by_name (N d) else keys_in by_name (N d) + 1) (with_key_named a d h.0.0 h.1)
      ∙ (ap (λ (b : Bool). if b then keys_in by_name (N d) else keys_in by_name (N d) + 1) (pair_named f (pair_with by_number a d))
      ∙ ap (λ (m : ℕ). if is_pair (pair_with by_number a d) then m else m + 1) (count_named d h.1))
