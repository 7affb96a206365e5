-- What a row makes has as many parts as its kind asks for.
use Rattle.std.proofs.Common.{◌≡◌, ℕ, ◌+◌, List, [], ◌∷◌, ◌++◌, length, Bool, true, false, Option, Some, None, refl, arith}
use Rattle.std.specs.Prelude.{if◌then◌else◌, option_map, option_and_then, ◌&&◌, codes}
use Rattle.model_objects.specs.Object.{Object, Symbol}
use Rattle.model_symbols.specs.Symbols.{QualifiedName}
use Rattle.model_symbols.specs.Opening.{truth, nil}
use Rattle.model_lists.specs.Types.{cons_word}
use Rattle.model_terms.specs.Cores.{Core, Var}
use Rattle.model_expansion.specs.Forms.{elements, is, are_different, is_key, variable_name}
use Rattle.model_expansion.specs.TypeTerms.{type_term}
use Rattle.model_expansion.specs.Words.{hidden_variable_word}
use Rattle.model_expansion.specs.Layers.{MacroRow, Quote, If, Let, Mv, MvLet, StobjLet, WithLocal, MustBeEqual, And, Or, Cond, Case, LetStar, Listing, ListStar, Chain, Minus, Added, Two, Turned, Negated, Path, Then, Mbt, Mbe, The, OrTest, CondTest, Clauses, Bindings, Checked, LetNode, MvLetNode, WithLocalNode, MustBeEqualNode, Part, Form, Ready, Rest, Found, Leaf, Node, Made, Again, Stays, node, if_made, hidden_let, binding, bindings, variables, body_of, bound_names, bound_forms, let_of, let_made, let_star_made, mv_let_parts, mv_let_made, stobj_let_of, stobj_let_made, written_mv_let, with_local_made, are_cond_clauses, cond_layer, is_default, key_test, are_case_clauses, case_layer, mbe_made, checked_made, path_made, chained, made_of}
use Rattle.model_expansion_parts.specs.Parts.{HasParts}

abbrev pub FoundFits : Found → Type 0
FoundFits (Leaf f) = Unit {0}
FoundFits (Node k ps) = HasParts k (length ps)

abbrev pub MadeFits : Made → Type 0
MadeFits (Again o) = Unit {0}
MadeFits (Stays f) = FoundFits f

abbrev pub FitsIfAny : Option Made → Type 0
FitsIfAny None = Unit {0}
FitsIfAny (Some m) = MadeFits m

fits_if : (b : Bool) (m n : Made) → MadeFits m → MadeFits n → MadeFits (if b then m else n)
fits_if true m n h k = h
fits_if false m n h k = k

any_if : (b : Bool) (m n : Option Made) → FitsIfAny m → FitsIfAny n → FitsIfAny (if b then m else n)
any_if true m n h k = h
any_if false m n h k = k

module _ (symbols : List QualifiedName) where
  as_many : (bs : List (ℕ × Object ℕ)) (qs : List Part) → length (bound_forms symbols bs ++ qs) ≡ length (bound_names symbols bs) + length qs
  as_many [] qs = omega arith
  as_many (b ∷ bs) qs = let h = as_many bs qs in omega (arith, h)

  -- ---- binding forms

  let_of_fits : (bs : List (ℕ × Object ℕ)) (body : Object ℕ) → FitsIfAny (let_of symbols bs body)
  let_of_fits bs body =
      any_if (are_different (bound_names symbols bs)) (Some (node (LetNode (bound_names symbols bs)) (bound_forms symbols bs ++ Form body ∷ []))) None
      (as_many bs (Form body ∷ [])) tt

  let_fits : (os : List (Object ℕ)) → FitsIfAny (let_made symbols os)
  let_fits [] = tt
  let_fits (b ∷ os) = go (bindings symbols b) (body_of symbols os)
    where
      go : (bs : Option (List (ℕ × Object ℕ))) (body : Option (Object ℕ)) → FitsIfAny (option_and_then (λ bs. option_and_then (let_of symbols bs) body) bs)
      go None body = tt
      go (Some bs) None = tt
      go (Some bs) (Some body) = let_of_fits bs body

  -- the first binding of a `LET*`, and what is left
  abbrev first_bound : Option (ℕ × Object ℕ) → List (Object ℕ) → Made
  first_bound None fs = Again (Symbol nil)
  first_bound (Some b) fs = node (LetNode (b.0 ∷ [])) (Form b.1 ∷ Rest Bindings fs ∷ [])

  abbrev begun : List (Object ℕ) → Made
  begun [] = Again (Symbol nil)
  begun (f ∷ []) = Again f
  begun (f ∷ (g ∷ fs)) = first_bound (binding symbols f) (g ∷ fs)

  first_fits : (b : Option (ℕ × Object ℕ)) (fs : List (Object ℕ)) → MadeFits (first_bound b fs)
  first_fits None fs = tt
  first_fits (Some b) fs = refl

  begun_fits : (fs : List (Object ℕ)) → MadeFits (begun fs)
  begun_fits [] = tt
  begun_fits (f ∷ []) = tt
  begun_fits (f ∷ (g ∷ fs)) = first_fits (binding symbols f) (g ∷ fs)

  let_star_fits : (os : List (Object ℕ)) → FitsIfAny (let_star_made symbols os)
  let_star_fits [] = tt
  let_star_fits (bs ∷ os) = go (body_of symbols os) (elements bs) (bindings symbols bs)
    where
      go : (body : Option (Object ℕ)) (fs : Option (List (Object ℕ))) (all : Option (List (ℕ × Object ℕ)))
          → FitsIfAny (option_and_then (λ b. option_and_then (λ fs. option_map (λ all. begun (fs ++ b ∷ [])) all) fs) body)
      go None fs all = tt
      go (Some b) None all = tt
      go (Some b) (Some fs) None = tt
      go (Some b) (Some fs) (Some all) = begun_fits (fs ++ b ∷ [])

  mv_let_fits : (os : List (Object ℕ)) → FitsIfAny (mv_let_made symbols os)
  mv_let_fits os = go (mv_let_parts symbols os)
    where
      go : (v : Option (List ℕ × Object ℕ × Object ℕ)) → FitsIfAny (option_map (λ p. node (MvLetNode p.0) (Form p.1 ∷ Form p.2 ∷ [])) v)
      go None = tt
      go (Some p) = refl

  stobj_let_of_fits : (bs : List (ℕ × Object ℕ)) (vars : List ℕ) (p c : Object ℕ) → FitsIfAny (stobj_let_of symbols bs vars p c)
  stobj_let_of_fits [] vars p c = tt
  stobj_let_of_fits (b ∷ bs) vars p c = as_many (b ∷ bs) (Form p ∷ Form c ∷ [])

  stobj_let_fits : (os : List (Object ℕ)) → FitsIfAny (stobj_let_made symbols os)
  stobj_let_fits (b ∷ (v ∷ (p ∷ (c ∷ [])))) = go (bindings symbols b) (variables symbols v)
    where
      go : (bs : Option (List (ℕ × Object ℕ))) (vars : Option (List ℕ))
          → FitsIfAny (option_and_then (λ bs. option_and_then (λ vars. stobj_let_of symbols bs vars p c) vars) bs)
      go None vars = tt
      go (Some bs) None = tt
      go (Some bs) (Some vars) = stobj_let_of_fits bs vars p c
  stobj_let_fits [] = tt
  stobj_let_fits (b ∷ []) = tt
  stobj_let_fits (b ∷ (v ∷ [])) = tt
  stobj_let_fits (b ∷ (v ∷ (p ∷ []))) = tt
  stobj_let_fits (b ∷ (v ∷ (p ∷ (c ∷ (o ∷ os))))) = tt

  with_local_fits : (os : List (Object ℕ)) → FitsIfAny (with_local_made symbols os)
  with_local_fits [] = tt
  with_local_fits (x ∷ []) = tt
  with_local_fits (x ∷ (f ∷ [])) = go (variable_name symbols x) (option_and_then (mv_let_parts symbols) (written_mv_let symbols f))
    where
      go : (v : Option ℕ) (m : Option (List ℕ × Object ℕ × Object ℕ))
          → FitsIfAny (option_and_then (λ stobj. option_map (λ p. node (WithLocalNode stobj p.0) (Form p.1 ∷ Form p.2 ∷ [])) m) v)
      go None m = tt
      go (Some stobj) None = tt
      go (Some stobj) (Some p) = refl
  with_local_fits (x ∷ (f ∷ (o ∷ os))) = tt

  -- ---- macros

  cond_fits : (c : Option (List (Object ℕ))) (cs : List (Object ℕ)) → MadeFits (cond_layer symbols c cs)
  cond_fits (Some (x ∷ [])) cs = refl
  cond_fits (Some (x ∷ (r ∷ []))) cs = fits_if (is truth x) (Again r) (if_made (Form x) (Form r) (Rest Cond cs)) tt refl
  cond_fits None cs = tt
  cond_fits (Some []) cs = tt
  cond_fits (Some (x ∷ (r ∷ (o ∷ os)))) cs = tt

  case_fits : (c : Option (List (Object ℕ))) (cs : List (Object ℕ)) → MadeFits (case_layer symbols c cs)
  case_fits (Some (k ∷ (r ∷ []))) cs = fits_if (is_default symbols k) (Again r) (if_made (Ready (key_test symbols k)) (Form r) (Rest Clauses cs)) tt refl
  case_fits None cs = tt
  case_fits (Some []) cs = tt
  case_fits (Some (k ∷ [])) cs = tt
  case_fits (Some (k ∷ (r ∷ (o ∷ os)))) cs = tt

  mbe_fits : (os : List (Object ℕ)) → FitsIfAny (mbe_made symbols os)
  mbe_fits (a ∷ (x ∷ (b ∷ (y ∷ [])))) =
      let turned : Option Made = if is_key symbols (codes "EXEC") a && is_key symbols (codes "LOGIC") b then Some (node MustBeEqualNode (Form y ∷ Form x ∷ [])) else None in
      any_if (is_key symbols (codes "LOGIC") a && is_key symbols (codes "EXEC") b) (Some (node MustBeEqualNode (Form x ∷ Form y ∷ []))) turned refl
      (any_if (is_key symbols (codes "EXEC") a && is_key symbols (codes "LOGIC") b) (Some (node MustBeEqualNode (Form y ∷ Form x ∷ []))) None refl tt)
  mbe_fits [] = tt
  mbe_fits (a ∷ []) = tt
  mbe_fits (a ∷ (x ∷ [])) = tt
  mbe_fits (a ∷ (x ∷ (b ∷ []))) = tt
  mbe_fits (a ∷ (x ∷ (b ∷ (y ∷ (o ∷ os))))) = tt

  path_fits : (ls : List ℕ) (x : Object ℕ) → FitsIfAny (path_made symbols ls x)
  path_fits [] x = tt
  path_fits (l ∷ []) x = tt
  path_fits (l ∷ (m ∷ ls)) x = tt

  chained_fits : (f : ℕ) (row : MacroRow) (os : List (Object ℕ)) (unit : Object ℕ) → MadeFits (chained symbols f row os unit)
  chained_fits f row [] unit = tt
  chained_fits f row (x ∷ []) unit = tt
  chained_fits f row (x ∷ (y ∷ ys)) unit = tt

  the_fits : (t x : Object ℕ) (test : Option Core) → FitsIfAny (option_map (λ test. hidden_let x (Rest Checked (t ∷ []))) test)
  the_fits t x None = tt
  the_fits t x (Some test) = refl

  checked_fits : (t : Object ℕ) (test : Option Core) → FitsIfAny (option_map (checked_made symbols t) test)
  checked_fits t None = tt
  checked_fits t (Some test) = tt

  binding_fits : (b : Option (ℕ × Object ℕ)) (os : List (Object ℕ)) → FitsIfAny (option_map (λ p. node (LetNode (p.0 ∷ [])) (Form p.1 ∷ Rest Bindings os ∷ [])) b)
  binding_fits None os = tt
  binding_fits (Some b) os = refl

  -- ---- all rows

  pub made_fits : (row : MacroRow) (os : List (Object ℕ)) → FitsIfAny (made_of symbols row os)
  unfolding made_of
  made_fits Quote (o ∷ []) = tt
  made_fits If (a ∷ (b ∷ (c ∷ []))) = refl
  made_fits Let os = let_fits os
  made_fits Mv (a ∷ (b ∷ os)) = tt
  made_fits MvLet os = mv_let_fits os
  made_fits StobjLet os = stobj_let_fits os
  made_fits WithLocal os = with_local_fits os
  made_fits MustBeEqual (a ∷ (b ∷ [])) = refl
  made_fits And [] = tt
  made_fits And (x ∷ []) = tt
  made_fits And (x ∷ (y ∷ ys)) = refl
  made_fits Or [] = tt
  made_fits Or (x ∷ []) = tt
  made_fits Or (x ∷ (y ∷ ys)) = refl
  made_fits OrTest ys = refl
  made_fits Cond [] = tt
  made_fits Cond (c ∷ cs) = any_if (are_cond_clauses symbols (c ∷ cs)) (Some (cond_layer symbols (elements c) cs)) None (cond_fits (elements c) cs) tt
  made_fits CondTest cs = refl
  made_fits Case (x ∷ cs) = any_if (are_case_clauses symbols cs) (Some (hidden_let x (Rest Clauses cs))) None refl tt
  made_fits Clauses [] = tt
  made_fits Clauses (c ∷ cs) = case_fits (elements c) cs
  made_fits LetStar os = let_star_fits os
  made_fits Bindings (b ∷ []) = tt
  made_fits Bindings (b ∷ (c ∷ os)) = binding_fits (binding symbols b) (c ∷ os)
  made_fits Listing [] = tt
  made_fits Listing (x ∷ xs) = tt
  made_fits ListStar (x ∷ xs) = chained_fits cons_word ListStar (x ∷ xs) (Symbol nil)
  made_fits (Chain f unit) os = chained_fits f (Chain f unit) os unit
  made_fits Minus (x ∷ []) = tt
  made_fits Minus (x ∷ (y ∷ [])) = tt
  made_fits (Added n) (x ∷ []) = tt
  made_fits (Two f) (x ∷ (y ∷ [])) = tt
  made_fits (Turned f) (x ∷ (y ∷ [])) = tt
  made_fits (Negated row) (x ∷ (y ∷ [])) = tt
  made_fits (Path letters) (x ∷ []) = path_fits letters x
  made_fits Then (x ∷ (y ∷ [])) = refl
  made_fits Mbt (x ∷ []) = tt
  made_fits Mbe os = mbe_fits os
  made_fits The (t ∷ (x ∷ [])) = the_fits t x (type_term t (Var hidden_variable_word))
  made_fits Checked (t ∷ []) = checked_fits t (type_term t (Var hidden_variable_word))
  made_fits row os = tt
