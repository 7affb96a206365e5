-- What a row makes of forms with known symbols has known symbols.
use Rattle.std.proofs.Common.{ℕ, ◌≤◌, List, [], ◌∷◌, ◌++◌, map, Bool, true, false, Option, Some, None, arith}
use Rattle.std.specs.Prelude.{if◌then◌else◌, option_map, option_and_then, ◌&&◌, codes}
use Rattle.model_objects.specs.Object.{Object, Symbol}
use Rattle.model_objects.specs.Named.{Knows}
use Rattle.model_symbols.specs.Symbols.{QualifiedName}
use Rattle.model_symbols.specs.Opening.{truth, nil}
use Rattle.model_lists.specs.Types.{cons_word}
use Rattle.model_terms.specs.Cores.{Core, Var}
use Rattle.model_expansion.specs.Forms.{elements, is, are_different, is_key, variable_name}
use Rattle.model_expansion.specs.TypeTerms.{type_term}
use Rattle.model_expansion.specs.Words.{hidden_variable_word}
use Rattle.model_expansion.specs.Layers.{MacroRow, Quote, If, Let, Mv, MvLet, StobjLet, WithLocal, MustBeEqual, And, Or, Cond, Case, LetStar, Listing, ListStar, Chain, Minus, Added, Two, Turned, Negated, Path, Then, Mbt, Mbe, The, OrTest, CondTest, Clauses, Bindings, Checked, LetNode, MvLetNode, WithLocalNode, MustBeEqualNode, Part, Form, Ready, Rest, Made, Again, node, if_made, hidden_let, binding, bindings, variables, body_of, bound_names, bound_forms, let_of, let_made, let_star_made, mv_let_parts, mv_let_made, stobj_let_of, stobj_let_made, written_mv_let, with_local_made, are_cond_clauses, cond_layer, is_default, key_test, are_case_clauses, case_layer, mbe_made, checked_made, path_made, chained, made_of}
use Rattle.model_expansion_forms.specs.Nodes.{HasConstant, IsBelow}
use Rattle.model_expansion_forms.specs.Rows.{AllKnown}
use Rattle.model_expansion_forms.proofs.NodeLemmas.{each_wider, IsShapedNode}
use Rattle.model_expansion_forms.proofs.PartLemmas.{AllHave, AllHaveIfAny, HasIfAny, elements_have, both_have, body_has, BoundHave, BoundHaveIfAny, BoundHasIfAny, binding_has, bindings_have, IsMvLetIfAny, mv_let_has, written_has}
use Rattle.model_expansion_forms.proofs.TypeLemmas.{shaped_var, ShapedIfAny, term_shaped}
use Rattle.model_expansion_parts.specs.Known.{KnowsForm, KnowsRow, KnowsPart, KnowsParts, KnowsMade}
use Rattle.model_expansion_parts.proofs.KnownLemmas.{known_all, have_all}

module _ (n : ℕ) where
  abbrev pub KnowsIfAny : Option Made → Type 0
  KnowsIfAny None = Unit {0}
  KnowsIfAny (Some m) = KnowsMade n m

  abbrev KnowsFormIfAny : Option Core → Type 0
  KnowsFormIfAny None = Unit {0}
  KnowsFormIfAny (Some f) = KnowsForm n f

  known_if : (b : Bool) (m k : Made) → KnowsMade n m → KnowsMade n k → KnowsMade n (if b then m else k)
  known_if true m k h l = h
  known_if false m k h l = l

  known_if_any : (b : Bool) (m k : Option Made) → KnowsIfAny m → KnowsIfAny k → KnowsIfAny (if b then m else k)
  known_if_any true m k h l = h
  known_if_any false m k h l = l

  forms_known : (bs : List (ℕ × Object ℕ)) (symbols : List QualifiedName) → BoundHave (IsBelow n) bs → (qs : List Part) → KnowsParts n qs → KnowsParts n (bound_forms symbols bs ++ qs)
  forms_known [] symbols h qs k = k
  forms_known (b ∷ bs) symbols h qs k = (h.0, forms_known bs symbols h.1 qs k)

  pub mapped_known : (os : List (Object ℕ)) → AllHave (IsBelow n) os → KnowsParts n (map Form os)
  mapped_known [] h = tt
  mapped_known (o ∷ os) h = (h.0, mapped_known os h.1)

module _ (n : ℕ) (symbols : List QualifiedName) where
  -- ---- binding forms

  let_of_known : (bs : List (ℕ × Object ℕ)) (body : Object ℕ) → BoundHave (IsBelow n) bs → Knows n body → KnowsIfAny n (let_of symbols bs body)
  let_of_known bs body h k =
      known_if_any n (are_different (bound_names symbols bs)) (Some (node (LetNode (bound_names symbols bs)) (bound_forms symbols bs ++ Form body ∷ []))) None
      (forms_known n bs symbols h (Form body ∷ []) (k, tt)) tt

  let_known : (os : List (Object ℕ)) → AllHave (IsBelow n) os → KnowsIfAny n (let_made symbols os)
  let_known [] h = tt
  let_known (b ∷ os) h = go (bindings symbols b) (bindings_have (IsBelow n) symbols b h.0) (body_of symbols os) (body_has (IsBelow n) symbols os h.1)
    where
      go : (bs : Option (List (ℕ × Object ℕ))) → BoundHaveIfAny (IsBelow n) bs → (body : Option (Object ℕ)) → HasIfAny (IsBelow n) body
          → KnowsIfAny n (option_and_then (λ bs. option_and_then (let_of symbols bs) body) bs)
      go None k body l = tt
      go (Some bs) k None l = tt
      go (Some bs) k (Some body) l = let_of_known bs body k l

  -- the first binding of a `LET*`, and what is left
  abbrev first_bound : Option (ℕ × Object ℕ) → List (Object ℕ) → Made
  first_bound None fs = Again (Symbol nil)
  first_bound (Some b) fs = node (LetNode (b.0 ∷ [])) (Form b.1 ∷ Rest Bindings fs ∷ [])

  abbrev begun : List (Object ℕ) → Made
  begun [] = Again (Symbol nil)
  begun (f ∷ []) = Again f
  begun (f ∷ (g ∷ fs)) = first_bound (binding symbols f) (g ∷ fs)

  mv_let_known : (os : List (Object ℕ)) → AllHave (IsBelow n) os → KnowsIfAny n (mv_let_made symbols os)
  mv_let_known os h = go (mv_let_parts symbols os) (mv_let_has (IsBelow n) symbols os h)
    where
      go : (v : Option (List ℕ × Object ℕ × Object ℕ)) → IsMvLetIfAny (IsBelow n) v → KnowsIfAny n (option_map (λ p. node (MvLetNode p.0) (Form p.1 ∷ Form p.2 ∷ [])) v)
      go None k = tt
      go (Some p) k = (k.1, (k.2, tt))

  stobj_let_of_known : (bs : List (ℕ × Object ℕ)) (vars : List ℕ) (p c : Object ℕ) → BoundHave (IsBelow n) bs → Knows n p → Knows n c → KnowsIfAny n (stobj_let_of symbols bs vars p c)
  stobj_let_of_known [] vars p c h k l = tt
  stobj_let_of_known (b ∷ bs) vars p c h k l = forms_known n (b ∷ bs) symbols h (Form p ∷ Form c ∷ []) (k, (l, tt))

  stobj_let_known : (os : List (Object ℕ)) → AllHave (IsBelow n) os → KnowsIfAny n (stobj_let_made symbols os)
  stobj_let_known (b ∷ (v ∷ (p ∷ (c ∷ [])))) h = go (bindings symbols b) (bindings_have (IsBelow n) symbols b h.0) (variables symbols v)
    where
      go : (bs : Option (List (ℕ × Object ℕ))) → BoundHaveIfAny (IsBelow n) bs → (vars : Option (List ℕ))
          → KnowsIfAny n (option_and_then (λ bs. option_and_then (λ vars. stobj_let_of symbols bs vars p c) vars) bs)
      go None k vars = tt
      go (Some bs) k None = tt
      go (Some bs) k (Some vars) = stobj_let_of_known bs vars p c k h.1.1.0 h.1.1.1.0
  stobj_let_known [] h = tt
  stobj_let_known (b ∷ []) h = tt
  stobj_let_known (b ∷ (v ∷ [])) h = tt
  stobj_let_known (b ∷ (v ∷ (p ∷ []))) h = tt
  stobj_let_known (b ∷ (v ∷ (p ∷ (c ∷ (o ∷ os))))) h = tt

  with_local_known : (os : List (Object ℕ)) → AllHave (IsBelow n) os → KnowsIfAny n (with_local_made symbols os)
  with_local_known [] h = tt
  with_local_known (x ∷ []) h = tt
  with_local_known (x ∷ (f ∷ [])) h = go (variable_name symbols x) (option_and_then (mv_let_parts symbols) (written_mv_let symbols f)) (written_has (IsBelow n) symbols f h.1.0)
    where
      go : (v : Option ℕ) (m : Option (List ℕ × Object ℕ × Object ℕ)) → IsMvLetIfAny (IsBelow n) m
          → KnowsIfAny n (option_and_then (λ stobj. option_map (λ p. node (WithLocalNode stobj p.0) (Form p.1 ∷ Form p.2 ∷ [])) m) v)
      go None m k = tt
      go (Some stobj) None k = tt
      go (Some stobj) (Some p) k = (k.1, (k.2, tt))
  with_local_known (x ∷ (f ∷ (o ∷ os))) h = tt

  mbe_known : (os : List (Object ℕ)) → AllHave (IsBelow n) os → KnowsIfAny n (mbe_made symbols os)
  mbe_known (a ∷ (x ∷ (b ∷ (y ∷ [])))) h =
      let turned : Option Made = if is_key symbols (codes "EXEC") a && is_key symbols (codes "LOGIC") b then Some (node MustBeEqualNode (Form y ∷ Form x ∷ [])) else None in
      known_if_any n (is_key symbols (codes "LOGIC") a && is_key symbols (codes "EXEC") b) (Some (node MustBeEqualNode (Form x ∷ Form y ∷ []))) turned (h.1.0, (h.1.1.1.0, tt))
      (known_if_any n (is_key symbols (codes "EXEC") a && is_key symbols (codes "LOGIC") b) (Some (node MustBeEqualNode (Form y ∷ Form x ∷ []))) None (h.1.1.1.0, (h.1.0, tt)) tt)
  mbe_known [] h = tt
  mbe_known (a ∷ []) h = tt
  mbe_known (a ∷ (x ∷ [])) h = tt
  mbe_known (a ∷ (x ∷ (b ∷ []))) h = tt
  mbe_known (a ∷ (x ∷ (b ∷ (y ∷ (o ∷ os))))) h = tt

  path_known : (ls : List ℕ) (x : Object ℕ) → Knows n x → KnowsIfAny n (path_made symbols ls x)
  path_known [] x h = tt
  path_known (l ∷ []) x h = (h, tt)
  path_known (l ∷ (m ∷ ls)) x h = ((tt, (h, tt)), tt)

  chained_known : (f : ℕ) (row : MacroRow) (os : List (Object ℕ)) (unit : Object ℕ) → Knows n unit → KnowsRow n row → AllHave (IsBelow n) os → KnowsMade n (chained symbols f row os unit)
  chained_known f row [] unit u g h = u
  chained_known f row (x ∷ []) unit u g h = h.0
  chained_known f row (x ∷ (y ∷ ys)) unit u g h = (h.0, ((g, known_all n (y ∷ ys) h.1), tt))

  the_known : (t x : Object ℕ) → Knows n t → Knows n x → (test : Option Core) → KnowsIfAny n (option_map (λ test. hidden_let x (Rest Checked (t ∷ []))) test)
  the_known t x h k None = tt
  the_known t x h k (Some test) = (k, ((tt, (h, tt)), tt))

  checked_known : (t : Object ℕ) → Knows n t → (test : Option Core) → KnowsFormIfAny n test → KnowsIfAny n (option_map (checked_made symbols t) test)
  checked_known t h None k = tt
  checked_known t h (Some test) k = (k, (h, (tt, tt)))

  binding_known : (b : Option (ℕ × Object ℕ)) → BoundHasIfAny (IsBelow n) b → (os : List (Object ℕ)) → AllHave (IsBelow n) os
      → KnowsIfAny n (option_map (λ p. node (LetNode (p.0 ∷ [])) (Form p.1 ∷ Rest Bindings os ∷ [])) b)
  binding_known None h os k = tt
  binding_known (Some b) h os k = (h, ((tt, known_all n os k), tt))

  module _ (two : 2 ≤ n) where
    no : Knows n (Symbol nil)
    no = omega (arith, two)

    yes : Knows n (Symbol truth)
    yes = omega (arith, two)

    first_known : (b : Option (ℕ × Object ℕ)) → BoundHasIfAny (IsBelow n) b → (fs : List (Object ℕ)) → AllHave (IsBelow n) fs → KnowsMade n (first_bound b fs)
    first_known None h fs k = no
    first_known (Some b) h fs k = (h, ((tt, known_all n fs k), tt))

    begun_known : (fs : List (Object ℕ)) → AllHave (IsBelow n) fs → KnowsMade n (begun fs)
    begun_known [] h = no
    begun_known (f ∷ []) h = h.0
    begun_known (f ∷ (g ∷ fs)) h = first_known (binding symbols f) (binding_has (IsBelow n) symbols f h.0) (g ∷ fs) h.1

    let_star_known : (os : List (Object ℕ)) → AllHave (IsBelow n) os → KnowsIfAny n (let_star_made symbols os)
    let_star_known [] h = tt
    let_star_known (bs ∷ os) h = go (body_of symbols os) (body_has (IsBelow n) symbols os h.1) (elements bs) (elements_have (IsBelow n) bs h.0) (bindings symbols bs)
      where
        go : (body : Option (Object ℕ)) → HasIfAny (IsBelow n) body → (fs : Option (List (Object ℕ))) → AllHaveIfAny (IsBelow n) fs → (all : Option (List (ℕ × Object ℕ)))
            → KnowsIfAny n (option_and_then (λ b. option_and_then (λ fs. option_map (λ all. begun (fs ++ b ∷ [])) all) fs) body)
        go None k fs l all = tt
        go (Some b) k None l all = tt
        go (Some b) k (Some fs) l None = tt
        go (Some b) k (Some fs) l (Some all) = begun_known (fs ++ b ∷ []) (both_have (IsBelow n) fs (b ∷ []) l (k, tt))

    -- ---- macros

    cond_known : (c : Option (List (Object ℕ))) → AllHaveIfAny (IsBelow n) c → (cs : List (Object ℕ)) → AllHave (IsBelow n) cs → KnowsMade n (cond_layer symbols c cs)
    cond_known (Some (x ∷ [])) h cs k = (h.0, ((tt, known_all n cs k), tt))
    cond_known (Some (x ∷ (r ∷ []))) h cs k = known_if n (is truth x) (Again r) (if_made (Form x) (Form r) (Rest Cond cs)) h.1.0 (h.0, (h.1.0, ((tt, known_all n cs k), tt)))
    cond_known None h cs k = no
    cond_known (Some []) h cs k = no
    cond_known (Some (x ∷ (r ∷ (o ∷ os)))) h cs k = no

    case_known : (c : Option (List (Object ℕ))) → AllHaveIfAny (IsBelow n) c → (cs : List (Object ℕ)) → AllHave (IsBelow n) cs → KnowsMade n (case_layer symbols c cs)
    case_known (Some (k ∷ (r ∷ []))) h cs l =
        known_if n (is_default symbols k) (Again r) (if_made (Ready (key_test symbols k)) (Form r) (Rest Clauses cs)) h.1.0 ((tt, (tt, (h.0, tt))), (h.1.0, ((tt, known_all n cs l), tt)))
    case_known None h cs l = no
    case_known (Some []) h cs l = no
    case_known (Some (k ∷ [])) h cs l = no
    case_known (Some (k ∷ (r ∷ (o ∷ os)))) h cs l = no

    hidden_let_known : (x : Object ℕ) (q : Part) → Knows n x → KnowsPart n q → KnowsMade n (hidden_let x q)
    hidden_let_known x q h k = (h, (k, tt))

    test_known : (written : Object ℕ) → Knows n written → KnowsFormIfAny n (type_term written (Var hidden_variable_word))
    test_known written h = go (type_term written (Var hidden_variable_word)) (term_shaped (IsBelow n) yes no (Var hidden_variable_word) (shaped_var (IsBelow n) hidden_variable_word) written h)
      where
        go : (r : Option Core) → ShapedIfAny (IsBelow n) r → KnowsFormIfAny n r
        go None k = tt
        go (Some f) k = each_wider (IsShapedNode (IsBelow n)) (HasConstant (IsBelow n)) (λ g s. s.constant) f k

    -- ---- all rows

    made_have : (row : MacroRow) (os : List (Object ℕ)) → KnowsRow n row → AllHave (IsBelow n) os → KnowsIfAny n (made_of symbols row os)
    unfolding made_of
    made_have Quote (o ∷ []) g h = h.0
    made_have If (a ∷ (b ∷ (c ∷ []))) g h = h
    made_have Let os g h = let_known os h
    made_have Mv (a ∷ (b ∷ os)) g h = mapped_known n (a ∷ (b ∷ os)) h
    made_have MvLet os g h = mv_let_known os h
    made_have StobjLet os g h = stobj_let_known os h
    made_have WithLocal os g h = with_local_known os h
    made_have MustBeEqual (a ∷ (b ∷ [])) g h = h
    made_have And [] g h = yes
    made_have And (x ∷ []) g h = h.0
    made_have And (x ∷ (y ∷ ys)) g h = (h.0, ((tt, known_all n (y ∷ ys) h.1), (no, tt)))
    made_have Or [] g h = no
    made_have Or (x ∷ []) g h = h.0
    made_have Or (x ∷ (y ∷ ys)) g h = hidden_let_known x (Rest OrTest (y ∷ ys)) h.0 (tt, known_all n (y ∷ ys) h.1)
    made_have OrTest ys g h = (tt, (tt, ((tt, known_all n ys h), tt)))
    made_have Cond [] g h = no
    made_have Cond (c ∷ cs) g h =
        known_if_any n (are_cond_clauses symbols (c ∷ cs)) (Some (cond_layer symbols (elements c) cs)) None (cond_known (elements c) (elements_have (IsBelow n) c h.0) cs h.1) tt
    made_have CondTest cs g h = (tt, (tt, ((tt, known_all n cs h), tt)))
    made_have Case (x ∷ cs) g h = known_if_any n (are_case_clauses symbols cs) (Some (hidden_let x (Rest Clauses cs))) None (hidden_let_known x (Rest Clauses cs) h.0 (tt, known_all n cs h.1)) tt
    made_have Clauses [] g h = no
    made_have Clauses (c ∷ cs) g h = case_known (elements c) (elements_have (IsBelow n) c h.0) cs h.1
    made_have LetStar os g h = let_star_known os h
    made_have Bindings (b ∷ []) g h = h.0
    made_have Bindings (b ∷ (c ∷ os)) g h = binding_known (binding symbols b) (binding_has (IsBelow n) symbols b h.0) (c ∷ os) h.1
    made_have Listing [] g h = no
    made_have Listing (x ∷ xs) g h = (h.0, ((tt, known_all n xs h.1), tt))
    made_have ListStar (x ∷ xs) g h = chained_known cons_word ListStar (x ∷ xs) (Symbol nil) no tt h
    made_have (Chain f unit) os g h = chained_known f (Chain f unit) os unit g g h
    made_have Minus (x ∷ []) g h = (h.0, tt)
    made_have Minus (x ∷ (y ∷ [])) g h = (h.0, ((tt, known_all n (y ∷ []) h.1), tt))
    made_have (Added k) (x ∷ []) g h = (tt, (h.0, tt))
    made_have (Two f) (x ∷ (y ∷ [])) g h = (h.0, (h.1.0, tt))
    made_have (Turned f) (x ∷ (y ∷ [])) g h = (h.1.0, (h.0, tt))
    made_have (Negated row) (x ∷ (y ∷ [])) g h = ((g, known_all n (x ∷ (y ∷ [])) h), tt)
    made_have (Path letters) (x ∷ []) g h = path_known letters x h.0
    made_have Then (x ∷ (y ∷ [])) g h = hidden_let_known x (Form y) h.0 h.1.0
    made_have Mbt (x ∷ []) g h = h.0
    made_have Mbe os g h = mbe_known os h
    made_have The (t ∷ (x ∷ [])) g h = the_known t x h.0 h.1.0 (type_term t (Var hidden_variable_word))
    made_have Checked (t ∷ []) g h = checked_known t h.0 (type_term t (Var hidden_variable_word)) (test_known t h.0)
    made_have row os g h = tt

    pub made_known : (row : MacroRow) (os : List (Object ℕ)) → KnowsRow n row → AllKnown n os → KnowsIfAny n (made_of symbols row os)
    made_known row os g h = made_have row os g (have_all n os h)
