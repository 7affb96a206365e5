-- Keys with values, by the first of them.
use Rattle.std.specs.Prelude.{◌≡◌, ℕ, List, [], ◌∷◌, map, Bool, true, false, ◌&&◌, Option, Some, None, is_some, option_map, option_and_then, if◌then◌else◌, refl}
use Rattle.std.proofs.Common.{sym, ap, ◌∙◌}
use Rattle.std.specs.Str.{bytes_eq}
use Rattle.std.specs.List.{find, list_any}
use Rattle.std.proofs.lemmas.Slice.Eq.{bytes_eq-Decides}
use Rattle.model_objects.specs.Object.{Object, Integer, Symbol, Text, Pair}
use Rattle.model_symbols.specs.Symbols.{QualifiedName}
use Rattle.model_expansion.specs.Forms.{is_key, is_keyword, symbol_name}
use Rattle.model_stobjs.specs.Keys.{Keyed, is_given, key_value, known_key, with_key, keys_in}
use Rattle.acl_layers.specs.Lists.{items_along}
use Rattle.acl_stobj_read.specs.declared.keys.Key.{Key}
use Rattle.acl_stobj_read.specs.Keys.{key_name, value_along}

-- ---- which key

module _ (sy : List QualifiedName) where
  pub known_step : (k : Key) (rest others : List Key) (o : Object ℕ) → rest ≡ k ∷ others → is_key sy (key_name k) o ≡ false
      → known_key sy (map key_name rest) o ≡ known_key sy (map key_name others) o
  known_step k rest others o e f = rw (e, f) refl

  pub known_found : (k : Key) (rest others : List Key) (o : Object ℕ) → rest ≡ k ∷ others → is_key sy (key_name k) o ≡ true
      → known_key sy (map key_name rest) o ≡ Some (key_name k)
  known_found k rest others o e f = rw (e, f) refl

  pub known_end : (rest : List Key) (o : Object ℕ) → rest ≡ [] → known_key sy (map key_name rest) o ≡ None
  known_end rest o e = rw e refl

  -- ---- the value of a key

  pub value_found : (name : List ℕ) (o a d v e : Object ℕ) → o ≡ Pair a d → d ≡ Pair v e → is_key sy name a ≡ true
      → value_along sy name (items_along o) ≡ Some v
  value_found name o a d v e f g k = rw (f, g, k) refl

  pub value_other : (name : List ℕ) (o a d v e : Object ℕ) → o ≡ Pair a d → d ≡ Pair v e → is_key sy name a ≡ false
      → value_along sy name (items_along o) ≡ value_along sy name (items_along e)
  value_other name o a d v e f g k = rw (f, g, k) refl

  pub value_odd : (name : List ℕ) (o a d : Object ℕ) → o ≡ Pair a d → items_along d ≡ [] → value_along sy name (items_along o) ≡ None
  value_odd name o a d f g = rw (f, g) refl

  pub value_end : (name : List ℕ) (os : List (Object ℕ)) → os ≡ [] → value_along sy name os ≡ None
  value_end name os e = rw e refl

  -- ---- a list of keys

  -- an object is one key at most
  one_key : (m n : List ℕ) (o : Object ℕ) → is_key sy m o ≡ true → is_key sy n o ≡ bytes_eq n m
  one_key m n (Integer i) e = cc
  one_key m n (Symbol s) e = by (is_keyword sy s) (bytes_eq (symbol_name sy s) m) refl refl e
    where
      turned : (x y : List ℕ) (b c : Bool) → bytes_eq x y ≡ b → bytes_eq y x ≡ c → b ≡ c
      turned x y true true p q = refl
      turned x y false false p q = refl
      turned x y true false p q = let r : x ≡ y = (bytes_eq-Decides x y).0 p in let s : bytes_eq y x ≡ true = (bytes_eq-Decides y x).1 (sym r) in cc
      turned x y false true p q = let r : y ≡ x = (bytes_eq-Decides y x).0 q in let s : bytes_eq x y ≡ true = (bytes_eq-Decides x y).1 (sym r) in cc

      by : (a b : Bool) → is_keyword sy s ≡ a → bytes_eq (symbol_name sy s) m ≡ b → (a && b) ≡ true → is_key sy n (Symbol s) ≡ bytes_eq n m
      by true true p q r =
          let t : symbol_name sy s ≡ m = (bytes_eq-Decides (symbol_name sy s) m).0 q in
          rw (p, t) (turned m n (bytes_eq m n) (bytes_eq n m) refl refl)
      by true false p q r = cc
      by false b p q r = cc
  one_key m n (Text bs) e = cc
  one_key m n (Pair a d) e = cc

  module _ (names : List (List ℕ)) where
    known_is : (ns : List (List ℕ)) (o : Object ℕ) (m : List ℕ) → find (λ name. is_key sy name o) ns ≡ Some m → is_key sy m o ≡ true
    known_is [] o m e = cc
    known_is (n ∷ ns) o m e = by (is_key sy n o) refl (known_is ns o m)
      where
        by : (b : Bool) → is_key sy n o ≡ b → (find (λ name. is_key sy name o) ns ≡ Some m → is_key sy m o ≡ true) → is_key sy m o ≡ true
        by true p later = let q : Some n ≡ Some m = rw p at e in let r : n ≡ m = cc in rw (sym r) p
        by false p later = later (rw p at e)

    given_is : (n : List ℕ) (ks : List Keyed) → is_given n ks ≡ is_some (key_value n ks)
    given_is n [] = refl
    given_is n (k ∷ ks) = by (bytes_eq n k.0) refl (given_is n ks)
      where
        by : (b : Bool) → bytes_eq n k.0 ≡ b → is_given n ks ≡ is_some (key_value n ks) → is_given n (k ∷ ks) ≡ is_some (key_value n (k ∷ ks))
        by true p later = rw p refl
        by false p later = rw p later

    -- the value of a key among those that were read
    pub value_is : (n : List ℕ) (os : List (Object ℕ)) (ks : List Keyed) → keys_in sy names os ≡ Some ks → value_along sy n os ≡ key_value n ks
    value_is n [] ks e = let q : [] ≡ ks = cc in rw (sym q) refl
    value_is n (k ∷ []) ks e = cc
    value_is n (k ∷ (v ∷ os)) ks e = by (known_key sy names k) (keys_in sy names os) (value_is n os) refl refl e
      where
        last : (m : List ℕ) (more : List Keyed) (b : Bool) → is_key sy n k ≡ b → bytes_eq n m ≡ b → value_along sy n os ≡ key_value n more
            → value_along sy n (k ∷ (v ∷ os)) ≡ key_value n ((m, v) ∷ more)
        last m more true p q r = rw (p, q) refl
        last m more false p q r = rw (p, q) r

        given : (m : List ℕ) (more : List Keyed) (b : Bool) → value_along sy n os ≡ key_value n more → known_key sy names k ≡ Some m → keys_in sy names os ≡ Some more
            → (if b then None else Some ((m, v) ∷ more)) ≡ Some ks → value_along sy n (k ∷ (v ∷ os)) ≡ key_value n ks
        given m more true later p q r = cc
        given m more false later p q r =
            let t : (m, v) ∷ more ≡ ks = cc in
            rw (sym t) (last m more (bytes_eq n m) (one_key m n k (known_is names k m p)) refl later)

        by : (x : Option (List ℕ)) (y : Option (List Keyed)) → ((more : List Keyed) → keys_in sy names os ≡ Some more → value_along sy n os ≡ key_value n more)
            → known_key sy names k ≡ x → keys_in sy names os ≡ y → option_and_then (with_key sy names x v) y ≡ Some ks
            → value_along sy n (k ∷ (v ∷ os)) ≡ key_value n ks
        by None None later p q r = cc
        by None (Some more) later p q r = cc
        by (Some m) None later p q r = cc
        by (Some m) (Some more) later p q r = given m more (is_given m more) (later more q) p q r

    step : (n : List ℕ) (v : Object ℕ) (os : List (Object ℕ)) (y : Option (List Keyed)) (b : Bool) → keys_in sy names os ≡ y → is_some (value_along sy n os) ≡ b
        → is_some (option_and_then (with_key sy names (Some n) v) y) ≡ (if b then false else is_some y)
    step n v os None true p q = refl
    step n v os None false p q = refl
    step n v os (Some ks) true p q = let g : is_given n ks ≡ true = given_is n ks ∙ (ap is_some (sym (value_is n os ks p)) ∙ q) in rw g refl
    step n v os (Some ks) false p q = let g : is_given n ks ≡ false = given_is n ks ∙ (ap is_some (sym (value_is n os ks p)) ∙ q) in rw g refl

    pub keys_more : (n : List ℕ) (o a d v e : Object ℕ) → o ≡ Pair a d → d ≡ Pair v e → known_key sy names a ≡ Some n → value_along sy n (items_along e) ≡ None
        → is_some (keys_in sy names (items_along o)) ≡ is_some (keys_in sy names (items_along e))
    keys_more n o a d v e f g k l = rw (f, g, k) (step n v (items_along e) (keys_in sy names (items_along e)) false refl (ap is_some l))

    pub keys_twice : (n : List ℕ) (o a d v e x : Object ℕ) → o ≡ Pair a d → d ≡ Pair v e → known_key sy names a ≡ Some n → value_along sy n (items_along e) ≡ Some x
        → is_some (keys_in sy names (items_along o)) ≡ false
    keys_twice n o a d v e x f g k l = rw (f, g, k) (step n v (items_along e) (keys_in sy names (items_along e)) true refl (ap is_some l))

    pub keys_unknown : (o a d v e : Object ℕ) → o ≡ Pair a d → d ≡ Pair v e → known_key sy names a ≡ None → is_some (keys_in sy names (items_along o)) ≡ false
    keys_unknown o a d v e f g k = rw (f, g, k) (none (keys_in sy names (items_along e)))
      where
        none : (y : Option (List Keyed)) → is_some (option_and_then (with_key sy names None v) y) ≡ false
        none None = refl
        none (Some ks) = refl

    pub keys_odd : (o a d : Object ℕ) → o ≡ Pair a d → items_along d ≡ [] → is_some (keys_in sy names (items_along o)) ≡ false
    keys_odd o a d f g = rw (f, g) refl

    pub keys_end : (os : List (Object ℕ)) → os ≡ [] → is_some (keys_in sy names os) ≡ true
    keys_end os e = rw e refl
