-- What the items of declarations say, one after another.
use Rattle.std.specs.Prelude.{◌≡◌, ℕ, ◌≤◌, List, [], ◌∷◌, length, map, Bool, true, false, ◌||◌, Option, Some, None, option_map, option_and_then, refl, if◌then◌else◌}
use Rattle.std.proofs.Common.{sym, ap, ◌∙◌, arith}
use Rattle.model_objects.specs.Object.{Object, Pair}
use Rattle.model_symbols.specs.Symbols.{QualifiedName}
use Rattle.model_prims.specs.Kinds.{by_number}
use Rattle.model_prims.specs.Lists.{is_true_list}
use Rattle.model_expansion.specs.Words.{xargs_word, type_word}
use Rattle.model_expansion.specs.Forms.{is, each, elements}
use Rattle.model_events.specs.Declarations as model
use Rattle.model_events.specs.Declarations.{both_declared, nothing_declared, all_declared, xargs_declared, type_declared, headed_declared, item_in, item_declared, declarations}
use Rattle.acl_base.specs.declared.Word.{Word}
use Rattle.acl_heap.specs.Objects.{Objects, object_of, Lies, reach, Extends}
use Rattle.acl_layers.specs.Lists.{items_along}
use Rattle.acl_layers.proofs.ListLemmas.{elements_are}
use Rattle.acl_declare.specs.Said.{after_said, words_at, words_reach}
use Rattle.acl_declare.specs.Quiet.{is_quiet}
use Rattle.acl_declare.proofs.SaidLemmas.{joined, after_both, after_none, after_nothing, from_nothing}

module _ (sy : List QualifiedName) (fs : List ℕ) (a : model.Declared) where
  -- ---- one item

  pub headed_xargs : (k : Object ℕ) (os : List (Object ℕ)) (r : Option model.Declared) → is xargs_word k ≡ true → after_said a (xargs_declared sy os) ≡ r → after_said a (headed_declared sy fs k os) ≡ r
  headed_xargs k os r e f = rw e f

  pub headed_type : (k : Object ℕ) (os : List (Object ℕ)) (r : Option model.Declared) → is xargs_word k ≡ false → is type_word k ≡ true → after_said a (type_declared sy fs os) ≡ r
      → after_said a (headed_declared sy fs k os) ≡ r
  headed_type k os r e f g = rw (e, f) g

  pub headed_other : (k : Object ℕ) (os : List (Object ℕ)) (b : Bool) → is xargs_word k ≡ false → is type_word k ≡ false → b ≡ is_quiet k
      → after_said a (headed_declared sy fs k os) ≡ (if b then Some a else None)
  headed_other k os b e f g = rw (e, f, g) (by (is 96 k) (is 97 k) (is 98 k))
    where
      by : (i j n : Bool) → after_said a (if i then Some nothing_declared else if j then Some nothing_declared else if n then Some nothing_declared else None) ≡ (if i || (j || n) then Some a else None)
      by true j n = after_nothing a
      by false true n = after_nothing a
      by false false true = after_nothing a
      by false false false = refl

  pub item_bad : (o : Object ℕ) → is_true_list by_number o ≡ false → after_said a (item_declared sy fs o) ≡ None
  item_bad o e = ap (λ es. after_said a (option_and_then (item_in sy fs) es)) (elements_are o) ∙ rw e refl

  listed : (o : Object ℕ) → is_true_list by_number o ≡ true → item_declared sy fs o ≡ item_in sy fs (items_along o)
  listed o e = ap (option_and_then (item_in sy fs)) (elements_are o) ∙ rw e refl

  pub item_headed : (o k d : Object ℕ) (r : Option model.Declared) → is_true_list by_number o ≡ true → o ≡ Pair k d → after_said a (headed_declared sy fs k (items_along d)) ≡ r
      → after_said a (item_declared sy fs o) ≡ r
  item_headed o k d r e f g = ap (after_said a) (listed o e) ∙ rw f g

  pub item_empty : (o : Object ℕ) → is_true_list by_number o ≡ true → items_along o ≡ [] → after_said a (item_declared sy fs o) ≡ None
  item_empty o e f = ap (after_said a) (listed o e) ∙ rw f refl

module _ (sy : List QualifiedName) (fs : List ℕ) where
  -- ---- all items

  items_joined : (o : Object ℕ) (os : List (Object ℕ)) → declarations sy fs (o ∷ os) ≡ joined (item_declared sy fs o) (declarations sy fs os)
  unfolding declarations
  items_joined o os = go (item_declared sy fs o) (each (item_declared sy fs) os)
    where
      go : (x : Option model.Declared) (p : Option (List model.Declared)) → option_map all_declared (option_and_then (λ y. option_map (λ ys. y ∷ ys) p) x) ≡ joined x (option_map all_declared p)
      go None p = refl
      go (Some d) None = refl
      go (Some d) (Some ds) = refl

  no_items : declarations sy fs [] ≡ Some nothing_declared
  unfolding declarations
  no_items = refl

  module _ {h h' : Objects} (g : Extends h h') where
    said_there : (b c : model.Declared) (r : Bool) (w : Word) (rest others : List Word) → words_reach rest ≤ length h → rest ≡ w ∷ others
        → after_said b (item_declared sy fs (object_of h' w)) ≡ (if r then Some c else None) → after_said b (item_declared sy fs (object_of h w)) ≡ (if r then Some c else None)
    said_there b c r w rest others l e i =
        let m : words_reach (w ∷ others) ≤ length h = rw e at l in
        let lies : Lies h w = omega (arith, m) in
        ap (λ o. after_said b (item_declared sy fs o)) (sym (g.same w lies)) ∙ i

    pub items_more : (b c : model.Declared) (r : Bool) (w : Word) (rest others : List Word) → words_reach rest ≤ length h → rest ≡ w ∷ others
        → after_said b (item_declared sy fs (object_of h' w)) ≡ (if r then Some c else None) → r ≡ true
        → after_said b (declarations sy fs (words_at h rest)) ≡ after_said c (declarations sy fs (words_at h others))
    items_more b c r w rest others l e i k =
        let there = said_there b c r w rest others l e i in
        let is : after_said b (item_declared sy fs (object_of h w)) ≡ Some c = rw k at there in
        rw e (ap (after_said b) (items_joined (object_of h w) (words_at h others)) ∙ after_both b c _ (declarations sy fs (words_at h others)) is)

    pub items_wrong : (b c : model.Declared) (r : Bool) (w : Word) (rest others : List Word) → words_reach rest ≤ length h → rest ≡ w ∷ others
        → after_said b (item_declared sy fs (object_of h' w)) ≡ (if r then Some c else None) → r ≡ false
        → after_said b (declarations sy fs (words_at h rest)) ≡ None
    items_wrong b c r w rest others l e i k =
        let there = said_there b c r w rest others l e i in
        let is : after_said b (item_declared sy fs (object_of h w)) ≡ None = rw k at there in
        rw e (ap (after_said b) (items_joined (object_of h w) (words_at h others)) ∙ after_none b _ (declarations sy fs (words_at h others)) is)

  pub items_end : (a : model.Declared) (h : Objects) (rest : List Word) → rest ≡ [] → after_said a (declarations sy fs (words_at h rest)) ≡ Some a
  items_end a h rest e = rw e (ap (after_said a) no_items ∙ after_nothing a)

  pub all_said : (a b : model.Declared) (r : Bool) (os : List (Object ℕ)) → a ≡ nothing_declared → after_said a (declarations sy fs os) ≡ (if r then Some b else None) → r ≡ true
      → declarations sy fs os ≡ Some b
  all_said a b r os e i k =
      let is : after_said nothing_declared (declarations sy fs os) ≡ Some b = rw (e, k) at i in
      sym (from_nothing (declarations sy fs os)) ∙ is

  pub one_wrong : (a b : model.Declared) (r : Bool) (os : List (Object ℕ)) → a ≡ nothing_declared → after_said a (declarations sy fs os) ≡ (if r then Some b else None) → r ≡ false
      → declarations sy fs os ≡ None
  one_wrong a b r os e i k =
      let is : after_said nothing_declared (declarations sy fs os) ≡ None = rw (e, k) at i in
      sym (from_nothing (declarations sy fs os)) ∙ is

pub no_words : (ws : List Word) → length ws ≡ 0 → ws ≡ []
no_words [] e = refl
no_words (w ∷ ws) e = let no : ⊥ = omega (arith, e) in elim no [ ]

pub first_lies : (w : Word) (rest others : List Word) (n m : ℕ) → rest ≡ w ∷ others → words_reach rest ≤ n → n ≤ m → reach w ≤ m
first_lies w rest others n m e l k = let i : words_reach (w ∷ others) ≤ n = rw e at l in omega (arith, i, k)

pub others_lie : (w : Word) (rest others : List Word) (n : ℕ) → rest ≡ w ∷ others → words_reach rest ≤ n → words_reach others ≤ n
others_lie w rest others n e l = let i : words_reach (w ∷ others) ≤ n = rw e at l in omega (arith, i)
