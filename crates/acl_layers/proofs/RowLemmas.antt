-- What each row makes, by what is left.
use Rattle.std.specs.Prelude.{◌≡◌, ℕ, ℤ, List, [], ◌∷◌, map, Bool, ◌&&◌, Some, None, true, false, option_map, if◌then◌else◌, codes, refl}
use Rattle.std.proofs.Common.{sym, ap, ◌∙◌}
use Rattle.model_objects.specs.Object.{Object, Integer}
use Rattle.model_symbols.specs.Symbols.{QualifiedName}
use Rattle.model_terms.specs.Cores.{Var, Const}
use Rattle.model_lists.specs.Types.{cons_word, not_word}
use Rattle.model_expansion.specs.Words.{hidden_variable_word, unary_minus_word, binary_plus_word}
use Rattle.model_expansion.specs.Forms.{is_key}
use Rattle.model_expansion.specs.TypeTerms.{true_core, false_core, type_term}
use Rattle.model_expansion.specs.Layers.{MacroRow, Quote, If, Mv, MustBeEqual, And, Or, Cond, Listing, ListStar, Chain, Minus, Added, Two, Turned, Negated, Path, Then, Mbt, Mbe, The, OrTest, CondTest, Checked, MvNode, MustBeEqualNode, Form, Rest, Again, node, leaf, if_made, hidden_let, hidden_variable, call_made, false_part, constant, checked_made, letter_function, is_none, made_of}
use Rattle.acl_layers.specs.Lists.{only_one, only_two, only_three, only_four}

-- ---- as many as a row takes

module _ (sy : List QualifiedName) where
  pub quote_one : (a : Object ℕ) (os : List (Object ℕ)) → os ≡ a ∷ [] → made_of sy Quote os ≡ Some (leaf (Const a))
  unfolding made_of
  quote_one a os e = ap (made_of sy Quote) e

  pub quote_none : (os : List (Object ℕ)) → only_one os ≡ None → made_of sy Quote os ≡ None
  unfolding made_of
  quote_none [] e = refl
  quote_none (a ∷ []) e = cc
  quote_none (a ∷ (b ∷ os)) e = refl

  pub added_one : (n : ℤ) (a : Object ℕ) (os : List (Object ℕ)) → os ≡ a ∷ [] → made_of sy (Added n) os ≡ Some (call_made binary_plus_word (constant (Integer n) ∷ Form a ∷ []))
  unfolding made_of
  added_one n a os e = ap (made_of sy (Added n)) e

  pub added_none : (n : ℤ) (os : List (Object ℕ)) → only_one os ≡ None → made_of sy (Added n) os ≡ None
  unfolding made_of
  added_none n [] e = refl
  added_none n (a ∷ []) e = cc
  added_none n (a ∷ (b ∷ os)) e = refl

  pub path_last : (m : ℕ) (a : Object ℕ) (os : List (Object ℕ)) → os ≡ a ∷ [] → made_of sy (Path (m ∷ [])) os ≡ Some (call_made (letter_function sy m) (Form a ∷ []))
  unfolding made_of
  path_last m a os e = ap (made_of sy (Path (m ∷ []))) e

  pub path_more : (m n : ℕ) (ls : List ℕ) (a : Object ℕ) (os : List (Object ℕ)) → os ≡ a ∷ []
      → made_of sy (Path (m ∷ (n ∷ ls))) os ≡ Some (call_made (letter_function sy m) (Rest (Path (n ∷ ls)) os ∷ []))
  unfolding made_of
  path_more m n ls a os e = ap (made_of sy (Path (m ∷ (n ∷ ls)))) e ∙ ap (λ xs. Some (call_made (letter_function sy m) (Rest (Path (n ∷ ls)) xs ∷ []))) (sym e)

  pub path_none : (ls : List ℕ) (os : List (Object ℕ)) → only_one os ≡ None → made_of sy (Path ls) os ≡ None
  unfolding made_of
  path_none ls [] e = refl
  path_none ls (a ∷ []) e = cc
  path_none ls (a ∷ (b ∷ os)) e = refl

  pub mbt_one : (a : Object ℕ) (os : List (Object ℕ)) → os ≡ a ∷ [] → made_of sy Mbt os ≡ Some (Again a)
  unfolding made_of
  mbt_one a os e = ap (made_of sy Mbt) e

  pub mbt_none : (os : List (Object ℕ)) → only_one os ≡ None → made_of sy Mbt os ≡ None
  unfolding made_of
  mbt_none [] e = refl
  mbt_none (a ∷ []) e = cc
  mbt_none (a ∷ (b ∷ os)) e = refl

  pub checked_one : (a : Object ℕ) (os : List (Object ℕ)) → os ≡ a ∷ [] → made_of sy Checked os ≡ option_map (checked_made sy a) (type_term a (Var hidden_variable_word))
  unfolding made_of
  checked_one a os e = ap (made_of sy Checked) e

  pub checked_none : (os : List (Object ℕ)) → only_one os ≡ None → made_of sy Checked os ≡ None
  unfolding made_of
  checked_none [] e = refl
  checked_none (a ∷ []) e = cc
  checked_none (a ∷ (b ∷ os)) e = refl

  pub must_two : (a b : Object ℕ) (os : List (Object ℕ)) → os ≡ a ∷ (b ∷ []) → made_of sy MustBeEqual os ≡ Some (node MustBeEqualNode (Form a ∷ Form b ∷ []))
  unfolding made_of
  must_two a b os e = ap (made_of sy MustBeEqual) e

  pub must_none : (os : List (Object ℕ)) → only_two os ≡ None → made_of sy MustBeEqual os ≡ None
  unfolding made_of
  must_none [] e = refl
  must_none (a ∷ []) e = refl
  must_none (a ∷ (b ∷ [])) e = cc
  must_none (a ∷ (b ∷ (c ∷ os))) e = refl

  pub straight_two : (f : ℕ) (a b : Object ℕ) (os : List (Object ℕ)) → os ≡ a ∷ (b ∷ []) → made_of sy (Two f) os ≡ Some (call_made f (Form a ∷ Form b ∷ []))
  unfolding made_of
  straight_two f a b os e = ap (made_of sy (Two f)) e

  pub straight_none : (f : ℕ) (os : List (Object ℕ)) → only_two os ≡ None → made_of sy (Two f) os ≡ None
  unfolding made_of
  straight_none f [] e = refl
  straight_none f (a ∷ []) e = refl
  straight_none f (a ∷ (b ∷ [])) e = cc
  straight_none f (a ∷ (b ∷ (c ∷ os))) e = refl

  pub turned_two : (f : ℕ) (a b : Object ℕ) (os : List (Object ℕ)) → os ≡ a ∷ (b ∷ []) → made_of sy (Turned f) os ≡ Some (call_made f (Form b ∷ Form a ∷ []))
  unfolding made_of
  turned_two f a b os e = ap (made_of sy (Turned f)) e

  pub turned_none : (f : ℕ) (os : List (Object ℕ)) → only_two os ≡ None → made_of sy (Turned f) os ≡ None
  unfolding made_of
  turned_none f [] e = refl
  turned_none f (a ∷ []) e = refl
  turned_none f (a ∷ (b ∷ [])) e = cc
  turned_none f (a ∷ (b ∷ (c ∷ os))) e = refl

  pub negated_two : (r : MacroRow) (a b : Object ℕ) (os : List (Object ℕ)) → os ≡ a ∷ (b ∷ []) → made_of sy (Negated r) os ≡ Some (call_made not_word (Rest r os ∷ []))
  unfolding made_of
  negated_two r a b os e = ap (made_of sy (Negated r)) e ∙ ap (λ xs. Some (call_made not_word (Rest r xs ∷ []))) (sym e)

  pub negated_none : (r : MacroRow) (os : List (Object ℕ)) → only_two os ≡ None → made_of sy (Negated r) os ≡ None
  unfolding made_of
  negated_none r [] e = refl
  negated_none r (a ∷ []) e = refl
  negated_none r (a ∷ (b ∷ [])) e = cc
  negated_none r (a ∷ (b ∷ (c ∷ os))) e = refl

  pub then_two : (a b : Object ℕ) (os : List (Object ℕ)) → os ≡ a ∷ (b ∷ []) → made_of sy Then os ≡ Some (hidden_let a (Form b))
  unfolding made_of
  then_two a b os e = ap (made_of sy Then) e

  pub then_none : (os : List (Object ℕ)) → only_two os ≡ None → made_of sy Then os ≡ None
  unfolding made_of
  then_none [] e = refl
  then_none (a ∷ []) e = refl
  then_none (a ∷ (b ∷ [])) e = cc
  then_none (a ∷ (b ∷ (c ∷ os))) e = refl

  pub the_two : (a b : Object ℕ) (os : List (Object ℕ)) → os ≡ a ∷ (b ∷ []) → made_of sy The os ≡ option_map (λ test. hidden_let b (Rest Checked (a ∷ []))) (type_term a (Var hidden_variable_word))
  unfolding made_of
  the_two a b os e = ap (made_of sy The) e

  pub the_none : (os : List (Object ℕ)) → only_two os ≡ None → made_of sy The os ≡ None
  unfolding made_of
  the_none [] e = refl
  the_none (a ∷ []) e = refl
  the_none (a ∷ (b ∷ [])) e = cc
  the_none (a ∷ (b ∷ (c ∷ os))) e = refl

  pub if_three : (a b c : Object ℕ) (os : List (Object ℕ)) → os ≡ a ∷ (b ∷ (c ∷ [])) → made_of sy If os ≡ Some (if_made (Form a) (Form b) (Form c))
  unfolding made_of
  if_three a b c os e = ap (made_of sy If) e

  pub if_none : (os : List (Object ℕ)) → only_three os ≡ None → made_of sy If os ≡ None
  unfolding made_of
  if_none [] e = refl
  if_none (a ∷ []) e = refl
  if_none (a ∷ (b ∷ [])) e = refl
  if_none (a ∷ (b ∷ (c ∷ []))) e = cc
  if_none (a ∷ (b ∷ (c ∷ (d ∷ os)))) e = refl

  abbrev keys_are : List ℕ → List ℕ → Object ℕ → Object ℕ → Bool
  keys_are k m a b = is_key sy k a && is_key sy m b

  mbe_split : (a x b y : Object ℕ) (os : List (Object ℕ)) → os ≡ a ∷ (x ∷ (b ∷ (y ∷ [])))
      → made_of sy Mbe os ≡ (if keys_are (codes "LOGIC") (codes "EXEC") a b then Some (node MustBeEqualNode (Form x ∷ Form y ∷ [])) else if keys_are (codes "EXEC") (codes "LOGIC") a b then Some (node MustBeEqualNode (Form y ∷ Form x ∷ [])) else None)
  unfolding made_of
  mbe_split a x b y os e = ap (made_of sy Mbe) e

  pub mbe_straight : (a x b y : Object ℕ) (os : List (Object ℕ)) → os ≡ a ∷ (x ∷ (b ∷ (y ∷ []))) → (is_key sy (codes "LOGIC") a && is_key sy (codes "EXEC") b) ≡ true
      → made_of sy Mbe os ≡ Some (node MustBeEqualNode (Form x ∷ Form y ∷ []))
  mbe_straight a x b y os e s = mbe_split a x b y os e ∙ rw s refl

  pub mbe_turned : (a x b y : Object ℕ) (os : List (Object ℕ)) → os ≡ a ∷ (x ∷ (b ∷ (y ∷ []))) → (is_key sy (codes "LOGIC") a && is_key sy (codes "EXEC") b) ≡ false
      → (is_key sy (codes "EXEC") a && is_key sy (codes "LOGIC") b) ≡ true → made_of sy Mbe os ≡ Some (node MustBeEqualNode (Form y ∷ Form x ∷ []))
  mbe_turned a x b y os e s t = mbe_split a x b y os e ∙ rw (s, t) refl

  pub mbe_other : (a x b y : Object ℕ) (os : List (Object ℕ)) → os ≡ a ∷ (x ∷ (b ∷ (y ∷ []))) → (is_key sy (codes "LOGIC") a && is_key sy (codes "EXEC") b) ≡ false
      → (is_key sy (codes "EXEC") a && is_key sy (codes "LOGIC") b) ≡ false → made_of sy Mbe os ≡ None
  mbe_other a x b y os e s t = mbe_split a x b y os e ∙ rw (s, t) refl

  pub mbe_none : (os : List (Object ℕ)) → only_four os ≡ None → made_of sy Mbe os ≡ None
  unfolding made_of
  mbe_none [] e = refl
  mbe_none (a ∷ []) e = refl
  mbe_none (a ∷ (b ∷ [])) e = refl
  mbe_none (a ∷ (b ∷ (c ∷ []))) e = refl
  mbe_none (a ∷ (b ∷ (c ∷ (d ∷ [])))) e = cc
  mbe_none (a ∷ (b ∷ (c ∷ (d ∷ (f ∷ os))))) e = refl

  -- ---- one after the other

  pub and_end : (os : List (Object ℕ)) → os ≡ [] → made_of sy And os ≡ Some (leaf true_core)
  unfolding made_of
  and_end os e = ap (made_of sy And) e

  and_split : (a : Object ℕ) (rest : List (Object ℕ)) → made_of sy And (a ∷ rest) ≡ Some (if is_none sy rest then Again a else if_made (Form a) (Rest And rest) false_part)
  unfolding made_of
  and_split a [] = refl
  and_split a (b ∷ rest) = refl

  pub and_last : (a : Object ℕ) (os rest : List (Object ℕ)) → os ≡ a ∷ rest → is_none sy rest ≡ true → made_of sy And os ≡ Some (Again a)
  and_last a os rest e n = ap (made_of sy And) e ∙ (and_split a rest ∙ rw n refl)

  pub and_more : (a : Object ℕ) (os rest : List (Object ℕ)) → os ≡ a ∷ rest → is_none sy rest ≡ false → made_of sy And os ≡ Some (if_made (Form a) (Rest And rest) false_part)
  and_more a os rest e n = ap (made_of sy And) e ∙ (and_split a rest ∙ rw n refl)

  pub or_end : (os : List (Object ℕ)) → os ≡ [] → made_of sy Or os ≡ Some (leaf false_core)
  unfolding made_of
  or_end os e = ap (made_of sy Or) e

  or_split : (a : Object ℕ) (rest : List (Object ℕ)) → made_of sy Or (a ∷ rest) ≡ Some (if is_none sy rest then Again a else hidden_let a (Rest OrTest rest))
  unfolding made_of
  or_split a [] = refl
  or_split a (b ∷ rest) = refl

  pub or_last : (a : Object ℕ) (os rest : List (Object ℕ)) → os ≡ a ∷ rest → is_none sy rest ≡ true → made_of sy Or os ≡ Some (Again a)
  or_last a os rest e n = ap (made_of sy Or) e ∙ (or_split a rest ∙ rw n refl)

  pub or_more : (a : Object ℕ) (os rest : List (Object ℕ)) → os ≡ a ∷ rest → is_none sy rest ≡ false → made_of sy Or os ≡ Some (hidden_let a (Rest OrTest rest))
  or_more a os rest e n = ap (made_of sy Or) e ∙ (or_split a rest ∙ rw n refl)

  pub or_test : (os : List (Object ℕ)) → made_of sy OrTest os ≡ Some (if_made hidden_variable hidden_variable (Rest Or os))
  unfolding made_of
  or_test os = refl

  pub cond_test : (os : List (Object ℕ)) → made_of sy CondTest os ≡ Some (if_made hidden_variable hidden_variable (Rest Cond os))
  unfolding made_of
  cond_test os = refl

  pub listing_end : (os : List (Object ℕ)) → os ≡ [] → made_of sy Listing os ≡ Some (leaf false_core)
  unfolding made_of
  listing_end os e = ap (made_of sy Listing) e

  pub listing_more : (a : Object ℕ) (os rest : List (Object ℕ)) → os ≡ a ∷ rest → made_of sy Listing os ≡ Some (call_made cons_word (Form a ∷ Rest Listing rest ∷ []))
  unfolding made_of
  listing_more a os rest e = ap (made_of sy Listing) e

  pub list_star_end : (os : List (Object ℕ)) → os ≡ [] → made_of sy ListStar os ≡ None
  unfolding made_of
  list_star_end os e = ap (made_of sy ListStar) e

  list_star_split : (a : Object ℕ) (rest : List (Object ℕ)) → made_of sy ListStar (a ∷ rest) ≡ Some (if is_none sy rest then Again a else call_made cons_word (Form a ∷ Rest ListStar rest ∷ []))
  unfolding made_of
  list_star_split a [] = refl
  list_star_split a (b ∷ rest) = refl

  pub list_star_last : (a : Object ℕ) (os rest : List (Object ℕ)) → os ≡ a ∷ rest → is_none sy rest ≡ true → made_of sy ListStar os ≡ Some (Again a)
  list_star_last a os rest e n = ap (made_of sy ListStar) e ∙ (list_star_split a rest ∙ rw n refl)

  pub list_star_more : (a : Object ℕ) (os rest : List (Object ℕ)) → os ≡ a ∷ rest → is_none sy rest ≡ false → made_of sy ListStar os ≡ Some (call_made cons_word (Form a ∷ Rest ListStar rest ∷ []))
  list_star_more a os rest e n = ap (made_of sy ListStar) e ∙ (list_star_split a rest ∙ rw n refl)

  pub chain_end : (f : ℕ) (u : Object ℕ) (os : List (Object ℕ)) → os ≡ [] → made_of sy (Chain f u) os ≡ Some (leaf (Const u))
  unfolding made_of
  chain_end f u os e = ap (made_of sy (Chain f u)) e

  chain_split : (f : ℕ) (u a : Object ℕ) (rest : List (Object ℕ)) → made_of sy (Chain f u) (a ∷ rest) ≡ Some (if is_none sy rest then Again a else call_made f (Form a ∷ Rest (Chain f u) rest ∷ []))
  unfolding made_of
  chain_split f u a [] = refl
  chain_split f u a (b ∷ rest) = refl

  pub chain_last : (f : ℕ) (u a : Object ℕ) (os rest : List (Object ℕ)) → os ≡ a ∷ rest → is_none sy rest ≡ true → made_of sy (Chain f u) os ≡ Some (Again a)
  chain_last f u a os rest e n = ap (made_of sy (Chain f u)) e ∙ (chain_split f u a rest ∙ rw n refl)

  pub chain_more : (f : ℕ) (u a : Object ℕ) (os rest : List (Object ℕ)) → os ≡ a ∷ rest → is_none sy rest ≡ false → made_of sy (Chain f u) os ≡ Some (call_made f (Form a ∷ Rest (Chain f u) rest ∷ []))
  chain_more f u a os rest e n = ap (made_of sy (Chain f u)) e ∙ (chain_split f u a rest ∙ rw n refl)

  pub minus_end : (os : List (Object ℕ)) → os ≡ [] → made_of sy Minus os ≡ None
  unfolding made_of
  minus_end os e = ap (made_of sy Minus) e

  minus_alone : (a : Object ℕ) (rest : List (Object ℕ)) → is_none sy rest ≡ true → made_of sy Minus (a ∷ rest) ≡ Some (call_made unary_minus_word (Form a ∷ []))
  unfolding made_of
  minus_alone a [] n = refl
  minus_alone a (b ∷ rest) n = cc

  pub minus_one : (a : Object ℕ) (os rest : List (Object ℕ)) → os ≡ a ∷ rest → is_none sy rest ≡ true → made_of sy Minus os ≡ Some (call_made unary_minus_word (Form a ∷ []))
  minus_one a os rest e n = ap (made_of sy Minus) e ∙ minus_alone a rest n

  pub minus_two : (a b : Object ℕ) (os rest : List (Object ℕ)) → os ≡ a ∷ rest → rest ≡ b ∷ [] → made_of sy Minus os ≡ Some (call_made binary_plus_word (Form a ∷ Rest Minus rest ∷ []))
  unfolding made_of
  minus_two a b os rest e n = ap (made_of sy Minus) (e ∙ ap (λ xs. a ∷ xs) n) ∙ ap (λ xs. Some (call_made binary_plus_word (Form a ∷ Rest Minus xs ∷ []))) (sym n)

  minus_long : (a : Object ℕ) (rest : List (Object ℕ)) → is_none sy rest ≡ false → only_one rest ≡ None → made_of sy Minus (a ∷ rest) ≡ None
  unfolding made_of
  minus_long a [] n o = cc
  minus_long a (b ∷ []) n o = cc
  minus_long a (b ∷ (c ∷ rest)) n o = refl

  pub minus_none : (a : Object ℕ) (os rest : List (Object ℕ)) → os ≡ a ∷ rest → is_none sy rest ≡ false → only_one rest ≡ None → made_of sy Minus os ≡ None
  minus_none a os rest e n o = ap (made_of sy Minus) e ∙ minus_long a rest n o

  mv_split : (a : Object ℕ) (rest : List (Object ℕ)) → is_none sy rest ≡ false → made_of sy Mv (a ∷ rest) ≡ Some (node MvNode (map Form (a ∷ rest)))
  unfolding made_of
  mv_split a [] n = cc
  mv_split a (b ∷ rest) n = refl

  mv_alone : (a : Object ℕ) (rest : List (Object ℕ)) → is_none sy rest ≡ true → made_of sy Mv (a ∷ rest) ≡ None
  unfolding made_of
  mv_alone a [] n = refl
  mv_alone a (b ∷ rest) n = cc

  pub mv_end : (os : List (Object ℕ)) → os ≡ [] → made_of sy Mv os ≡ None
  unfolding made_of
  mv_end os e = ap (made_of sy Mv) e

  pub mv_last : (a : Object ℕ) (os rest : List (Object ℕ)) → os ≡ a ∷ rest → is_none sy rest ≡ true → made_of sy Mv os ≡ None
  mv_last a os rest e n = ap (made_of sy Mv) e ∙ mv_alone a rest n

  pub mv_more : (a : Object ℕ) (os rest : List (Object ℕ)) → os ≡ a ∷ rest → is_none sy rest ≡ false → made_of sy Mv os ≡ Some (node MvNode (map Form os))
  mv_more a os rest e n = ap (made_of sy Mv) e ∙ (mv_split a rest n ∙ ap (λ xs. Some (node MvNode (map Form xs))) (sym e))
