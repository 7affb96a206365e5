-- Clauses of COND and CASE, and their rows.
use Rattle.std.specs.Prelude.{◌≡◌, ℕ, List, [], ◌∷◌, Bool, true, false, not, ◌&&◌, ◌||◌, Option, Some, None, if◌then◌else◌, refl}
use Rattle.std.proofs.Common.{sym, ap, ◌∙◌}
use Rattle.model_objects.specs.Object.{Object}
use Rattle.model_symbols.specs.Opening.{truth}
use Rattle.model_symbols.specs.Symbols.{QualifiedName}
use Rattle.model_expansion.specs.Forms.{elements, is}
use Rattle.model_expansion.specs.TypeTerms.{false_core}
use Rattle.model_expansion.specs.Layers.{Cond, CondTest, Case, Clauses, Form, Ready, Rest, Again, leaf, if_made, hidden_let, is_none, is_cond_clause, are_cond_clauses, is_default, is_case_clause, are_case_clauses, cond_layer, case_layer, key_test, made_of}
use Rattle.acl_layers.specs.Lists.{only_one, only_two}
use Rattle.acl_layers.specs.Layers.{AreClauses}

module _ (sy : List QualifiedName) where
  -- ---- a clause of COND

  pub cond_no_list : (l : Bool) (es : Option (List (Object ℕ))) → es ≡ None → is_cond_clause sy l es ≡ false
  cond_no_list l es e = ap (is_cond_clause sy l) e

  pub cond_empty : (l : Bool) (es : Option (List (Object ℕ))) (os : List (Object ℕ)) → es ≡ Some os → os ≡ [] → is_cond_clause sy l es ≡ false
  cond_empty l es os e n = ap (is_cond_clause sy l) (e ∙ ap (λ xs. Some xs) n)

  one_clause : (l : Bool) (x : Object ℕ) (rest : List (Object ℕ)) → is_none sy rest ≡ true → is_cond_clause sy l (Some (x ∷ rest)) ≡ true
  one_clause l x [] n = refl
  one_clause l x (r ∷ rest) n = cc

  pub cond_one : (l : Bool) (es : Option (List (Object ℕ))) (x : Object ℕ) (os rest : List (Object ℕ)) → es ≡ Some os → os ≡ x ∷ rest → is_none sy rest ≡ true → is_cond_clause sy l es ≡ true
  cond_one l es x os rest e n t = ap (is_cond_clause sy l) (e ∙ ap (λ xs. Some xs) n) ∙ one_clause l x rest t

  pub cond_two : (l : Bool) (es : Option (List (Object ℕ))) (x r : Object ℕ) (os rest : List (Object ℕ)) → es ≡ Some os → os ≡ x ∷ rest → rest ≡ r ∷ []
      → is_cond_clause sy l es ≡ (l || not (is truth x))
  cond_two l es x r os rest e n t = ap (is_cond_clause sy l) (e ∙ ap (λ xs. Some xs) (n ∙ ap (λ xs. x ∷ xs) t))

  long_clause : (l : Bool) (x : Object ℕ) (rest : List (Object ℕ)) → is_none sy rest ≡ false → only_one rest ≡ None → is_cond_clause sy l (Some (x ∷ rest)) ≡ false
  long_clause l x [] n o = cc
  long_clause l x (r ∷ []) n o = cc
  long_clause l x (r ∷ (s ∷ rest)) n o = refl

  pub cond_long : (l : Bool) (es : Option (List (Object ℕ))) (x : Object ℕ) (os rest : List (Object ℕ)) → es ≡ Some os → os ≡ x ∷ rest → is_none sy rest ≡ false → only_one rest ≡ None
      → is_cond_clause sy l es ≡ false
  cond_long l es x os rest e n t o = ap (is_cond_clause sy l) (e ∙ ap (λ xs. Some xs) n) ∙ long_clause l x rest t o

  -- ---- clauses of COND

  pub conds_end : (os : List (Object ℕ)) → os ≡ [] → are_cond_clauses sy os ≡ true
  conds_end os e = ap (are_cond_clauses sy) e

  pub conds_step : (c : Object ℕ) (os rest : List (Object ℕ)) → os ≡ c ∷ rest → is_cond_clause sy (is_none sy rest) (elements c) ≡ true → are_cond_clauses sy os ≡ are_cond_clauses sy rest
  conds_step c os rest e t = ap (are_cond_clauses sy) e ∙ rw t refl

  pub conds_bad : (c : Object ℕ) (os rest : List (Object ℕ)) → os ≡ c ∷ rest → is_cond_clause sy (is_none sy rest) (elements c) ≡ false → are_cond_clauses sy os ≡ false
  conds_bad c os rest e t = ap (are_cond_clauses sy) e ∙ rw t refl

  -- ---- the layer of a clause of COND

  pub layer_no_list : (es : Option (List (Object ℕ))) (cs : List (Object ℕ)) → es ≡ None → cond_layer sy es cs ≡ leaf false_core
  layer_no_list es cs e = ap (λ x. cond_layer sy x cs) e

  pub layer_empty : (es : Option (List (Object ℕ))) (os cs : List (Object ℕ)) → es ≡ Some os → os ≡ [] → cond_layer sy es cs ≡ leaf false_core
  layer_empty es os cs e n = ap (λ x. cond_layer sy x cs) (e ∙ ap (λ xs. Some xs) n)

  one_layer : (x : Object ℕ) (rest cs : List (Object ℕ)) → is_none sy rest ≡ true → cond_layer sy (Some (x ∷ rest)) cs ≡ hidden_let x (Rest CondTest cs)
  one_layer x [] cs n = refl
  one_layer x (r ∷ rest) cs n = cc

  pub layer_one : (es : Option (List (Object ℕ))) (x : Object ℕ) (os rest cs : List (Object ℕ)) → es ≡ Some os → os ≡ x ∷ rest → is_none sy rest ≡ true
      → cond_layer sy es cs ≡ hidden_let x (Rest CondTest cs)
  layer_one es x os rest cs e n t = ap (λ x. cond_layer sy x cs) (e ∙ ap (λ xs. Some xs) n) ∙ one_layer x rest cs t

  two_layer : (es : Option (List (Object ℕ))) (x r : Object ℕ) (os rest cs : List (Object ℕ)) → es ≡ Some os → os ≡ x ∷ rest → rest ≡ r ∷ []
      → cond_layer sy es cs ≡ (if is truth x then Again r else if_made (Form x) (Form r) (Rest Cond cs))
  two_layer es x r os rest cs e n t = ap (λ x. cond_layer sy x cs) (e ∙ ap (λ xs. Some xs) (n ∙ ap (λ xs. x ∷ xs) t))

  pub layer_truth : (es : Option (List (Object ℕ))) (x r : Object ℕ) (os rest cs : List (Object ℕ)) → es ≡ Some os → os ≡ x ∷ rest → rest ≡ r ∷ [] → is truth x ≡ true
      → cond_layer sy es cs ≡ Again r
  layer_truth es x r os rest cs e n t i = two_layer es x r os rest cs e n t ∙ rw i refl

  pub layer_two : (es : Option (List (Object ℕ))) (x r : Object ℕ) (os rest cs : List (Object ℕ)) → es ≡ Some os → os ≡ x ∷ rest → rest ≡ r ∷ [] → is truth x ≡ false
      → cond_layer sy es cs ≡ if_made (Form x) (Form r) (Rest Cond cs)
  layer_two es x r os rest cs e n t i = two_layer es x r os rest cs e n t ∙ rw i refl

  long_layer : (x : Object ℕ) (rest cs : List (Object ℕ)) → is_none sy rest ≡ false → only_one rest ≡ None → cond_layer sy (Some (x ∷ rest)) cs ≡ leaf false_core
  long_layer x [] cs n o = cc
  long_layer x (r ∷ []) cs n o = cc
  long_layer x (r ∷ (s ∷ rest)) cs n o = refl

  pub layer_long : (es : Option (List (Object ℕ))) (x : Object ℕ) (os rest cs : List (Object ℕ)) → es ≡ Some os → os ≡ x ∷ rest → is_none sy rest ≡ false → only_one rest ≡ None
      → cond_layer sy es cs ≡ leaf false_core
  layer_long es x os rest cs e n t o = ap (λ x. cond_layer sy x cs) (e ∙ ap (λ xs. Some xs) n) ∙ long_layer x rest cs t o

  -- ---- the row of COND

  pub row_end : (os : List (Object ℕ)) → os ≡ [] → made_of sy Cond os ≡ Some (leaf false_core)
  unfolding made_of
  row_end os e = ap (made_of sy Cond) e

  split_row : (c : Object ℕ) (rest : List (Object ℕ)) → made_of sy Cond (c ∷ rest) ≡ (if are_cond_clauses sy (c ∷ rest) then Some (cond_layer sy (elements c) rest) else None)
  unfolding made_of
  split_row c rest = refl

  pub row_more : (c : Object ℕ) (os rest : List (Object ℕ)) → AreClauses os → os ≡ c ∷ rest → made_of sy Cond os ≡ Some (cond_layer sy (elements c) rest)
  row_more c os rest a e =
      let t : are_cond_clauses sy (c ∷ rest) ≡ true = ap (are_cond_clauses sy) (sym e) ∙ a.all sy in
      ap (made_of sy Cond) e ∙ (split_row c rest ∙ rw t refl)

  bad_row : (os : List (Object ℕ)) → are_cond_clauses sy os ≡ false → made_of sy Cond os ≡ None
  unfolding made_of
  bad_row [] t = cc
  bad_row (c ∷ rest) t = rw t refl

  pub row_bad : (os : List (Object ℕ)) → are_cond_clauses sy os ≡ false → made_of sy Cond os ≡ None
  row_bad os t = bad_row os t

  -- ---- a clause of CASE

  pub case_no_list : (l : Bool) (es : Option (List (Object ℕ))) → es ≡ None → is_case_clause sy l es ≡ false
  case_no_list l es e = ap (is_case_clause sy l) e

  pub case_two : (l : Bool) (es : Option (List (Object ℕ))) (k r : Object ℕ) (os : List (Object ℕ)) → es ≡ Some os → os ≡ k ∷ (r ∷ []) → is_case_clause sy l es ≡ (l || not (is_default sy k))
  case_two l es k r os e n = ap (is_case_clause sy l) (e ∙ ap (λ xs. Some xs) n)

  other_clause : (l : Bool) (os : List (Object ℕ)) → only_two os ≡ None → is_case_clause sy l (Some os) ≡ false
  other_clause l [] n = refl
  other_clause l (k ∷ []) n = refl
  other_clause l (k ∷ (r ∷ [])) n = cc
  other_clause l (k ∷ (r ∷ (o ∷ os))) n = refl

  pub case_other : (l : Bool) (es : Option (List (Object ℕ))) (os : List (Object ℕ)) → es ≡ Some os → only_two os ≡ None → is_case_clause sy l es ≡ false
  case_other l es os e n = ap (is_case_clause sy l) e ∙ other_clause l os n

  pub cases_end : (os : List (Object ℕ)) → os ≡ [] → are_case_clauses sy os ≡ true
  cases_end os e = ap (are_case_clauses sy) e

  pub cases_step : (c : Object ℕ) (os rest : List (Object ℕ)) → os ≡ c ∷ rest → is_case_clause sy (is_none sy rest) (elements c) ≡ true → are_case_clauses sy os ≡ are_case_clauses sy rest
  cases_step c os rest e t = ap (are_case_clauses sy) e ∙ rw t refl

  pub cases_bad : (c : Object ℕ) (os rest : List (Object ℕ)) → os ≡ c ∷ rest → is_case_clause sy (is_none sy rest) (elements c) ≡ false → are_case_clauses sy os ≡ false
  cases_bad c os rest e t = ap (are_case_clauses sy) e ∙ rw t refl

  -- ---- the rows of CASE

  pub case_end : (os : List (Object ℕ)) → os ≡ [] → made_of sy Case os ≡ None
  unfolding made_of
  case_end os e = ap (made_of sy Case) e

  split_case : (x : Object ℕ) (cs : List (Object ℕ)) → made_of sy Case (x ∷ cs) ≡ (if are_case_clauses sy cs then Some (hidden_let x (Rest Clauses cs)) else None)
  unfolding made_of
  split_case x cs = refl

  pub case_bad : (x : Object ℕ) (os cs : List (Object ℕ)) → os ≡ x ∷ cs → are_case_clauses sy cs ≡ false → made_of sy Case os ≡ None
  case_bad x os cs e t = ap (made_of sy Case) e ∙ (split_case x cs ∙ rw t refl)

  pub case_is : (x : Object ℕ) (os cs : List (Object ℕ)) → os ≡ x ∷ cs → are_case_clauses sy cs ≡ true → made_of sy Case os ≡ Some (hidden_let x (Rest Clauses cs))
  case_is x os cs e t = ap (made_of sy Case) e ∙ (split_case x cs ∙ rw t refl)

  pub clauses_end : (os : List (Object ℕ)) → os ≡ [] → made_of sy Clauses os ≡ Some (leaf false_core)
  unfolding made_of
  clauses_end os e = ap (made_of sy Clauses) e

  pub clauses_more : (c : Object ℕ) (os rest : List (Object ℕ)) → os ≡ c ∷ rest → made_of sy Clauses os ≡ Some (case_layer sy (elements c) rest)
  unfolding made_of
  clauses_more c os rest e = ap (made_of sy Clauses) e

  pub key_no_list : (es : Option (List (Object ℕ))) (cs : List (Object ℕ)) → es ≡ None → case_layer sy es cs ≡ leaf false_core
  key_no_list es cs e = ap (λ x. case_layer sy x cs) e

  two_keys : (es : Option (List (Object ℕ))) (k r : Object ℕ) (os cs : List (Object ℕ)) → es ≡ Some os → os ≡ k ∷ (r ∷ [])
      → case_layer sy es cs ≡ (if is_default sy k then Again r else if_made (Ready (key_test sy k)) (Form r) (Rest Clauses cs))
  two_keys es k r os cs e n = ap (λ x. case_layer sy x cs) (e ∙ ap (λ xs. Some xs) n)

  pub key_default : (es : Option (List (Object ℕ))) (k r : Object ℕ) (os cs : List (Object ℕ)) → es ≡ Some os → os ≡ k ∷ (r ∷ []) → is_default sy k ≡ true → case_layer sy es cs ≡ Again r
  key_default es k r os cs e n t = two_keys es k r os cs e n ∙ rw t refl

  pub key_is : (es : Option (List (Object ℕ))) (k r : Object ℕ) (os cs : List (Object ℕ)) → es ≡ Some os → os ≡ k ∷ (r ∷ []) → is_default sy k ≡ false
      → case_layer sy es cs ≡ if_made (Ready (key_test sy k)) (Form r) (Rest Clauses cs)
  key_is es k r os cs e n t = two_keys es k r os cs e n ∙ rw t refl

  other_key : (os cs : List (Object ℕ)) → only_two os ≡ None → case_layer sy (Some os) cs ≡ leaf false_core
  other_key [] cs n = refl
  other_key (k ∷ []) cs n = refl
  other_key (k ∷ (r ∷ [])) cs n = cc
  other_key (k ∷ (r ∷ (o ∷ os))) cs n = refl

  pub key_other : (es : Option (List (Object ℕ))) (os cs : List (Object ℕ)) → es ≡ Some os → only_two os ≡ None → case_layer sy es cs ≡ leaf false_core
  key_other es os cs e n = ap (λ x. case_layer sy x cs) e ∙ other_key os cs n

-- ---- clauses are clauses whatever symbols are known

module _ (a b : List QualifiedName) where
  same_clause : (l m : Bool) (es : Option (List (Object ℕ))) → l ≡ m → is_cond_clause a l es ≡ is_cond_clause b m es
  same_clause l m None e = refl
  same_clause l m (Some []) e = refl
  same_clause l m (Some (x ∷ [])) e = refl
  same_clause l m (Some (x ∷ (r ∷ []))) e = ap (λ t. t || not (is truth x)) e
  same_clause l m (Some (x ∷ (r ∷ (o ∷ os)))) e = refl

  same_none : (os : List (Object ℕ)) → is_none a os ≡ is_none b os
  same_none [] = refl
  same_none (o ∷ os) = refl

  same_clauses : (os : List (Object ℕ)) → are_cond_clauses a os ≡ are_cond_clauses b os
  same_clauses [] = refl
  same_clauses (c ∷ cs) = rw (same_clause (is_none a cs) (is_none b cs) (elements c) (same_none cs), same_clauses cs) refl

pub clauses_are : (sy : List QualifiedName) (os : List (Object ℕ)) → are_cond_clauses sy os ≡ true → AreClauses os
clauses_are sy os e = record { all = λ s. same_clauses s sy os ∙ e }

second : (x y : Bool) → (x && y) ≡ true → y ≡ true
second true y e = e
second false y e = cc

pub others_are : (c : Object ℕ) (os rest : List (Object ℕ)) → AreClauses os → os ≡ c ∷ rest → AreClauses rest
others_are c os rest a e = record { all = λ s. second (is_cond_clause s (is_none s rest) (elements c)) (are_cond_clauses s rest) (ap (are_cond_clauses s) (sym e) ∙ a.all s) }
