-- What a row makes of its place: a core form of one node, or a node that has parts unless it may have none.
use Rattle.std.proofs.Common.{◌≡◌, ℕ, List, [], ◌∷◌, ◌++◌, Bool, true, false, Option, Some, None, refl}
use Rattle.std.specs.Prelude.{if◌then◌else◌, option_map, option_and_then, ◌&&◌, codes}
use Rattle.model_objects.specs.Object.{Object, Symbol}
use Rattle.model_symbols.specs.Symbols.{QualifiedName}
use Rattle.model_symbols.specs.Opening.{truth, nil}
use Rattle.model_terms.specs.Cores.{Var}
use Rattle.model_expansion.specs.Forms.{elements, is, are_different, is_key, variable_name}
use Rattle.model_expansion.specs.TypeTerms.{depth_of, type_term}
use Rattle.model_expansion.specs.Words.{hidden_variable_word}
use Rattle.model_expansion.specs.Layers.{MacroRow, Quote, If, Let, Mv, MvLet, StobjLet, WithLocal, MustBeEqual, And, Or, Cond, Case, LetStar, Listing, ListStar, Chain, Minus, Added, Two, Turned, Negated, Path, Then, Mbt, Mbe, The, Clauses, Bindings, Checked, Kind, IfNode, LetNode, MvNode, MvLetNode, StobjLetNode, WithLocalNode, MustBeEqualNode, CallNode, Part, Form, Ready, Rest, Found, Leaf, Node, Made, Again, Stays, node, if_made, hidden_let, binding, bindings, variables, body_of, bound_names, bound_forms, let_of, let_made, let_star_made, mv_let_parts, mv_let_made, stobj_let_of, stobj_let_made, written_mv_let, with_local_made, are_cond_clauses, is_default, are_case_clauses, cond_layer, key_test, case_layer, mbe_made, checked_made, path_made, chained, made_of}

abbrev pub HasAny : List Part → Type 0
HasAny [] = ⊥
HasAny (q ∷ qs) = Unit {0}

-- a node that takes so many parts has one at least
abbrev pub HasParts : Kind → List Part → Type 0
HasParts IfNode qs = HasAny qs
HasParts (LetNode names) qs = HasAny qs
HasParts MvNode qs = Unit {0}
HasParts (MvLetNode names) qs = HasAny qs
HasParts (StobjLetNode names vars) qs = HasAny qs
HasParts (WithLocalNode stobj names) qs = HasAny qs
HasParts MustBeEqualNode qs = HasAny qs
HasParts (CallNode f) qs = Unit {0}

abbrev pub IsLow : Found → Type 0
IsLow (Leaf f) = depth_of f ≡ 1
IsLow (Node k qs) = HasParts k qs

abbrev pub IsLowMade : Made → Type 0
IsLowMade (Again o) = Unit {0}
IsLowMade (Stays f) = IsLow f

abbrev pub IsLowIfAny : Option Made → Type 0
IsLowIfAny None = Unit {0}
IsLowIfAny (Some m) = IsLowMade m

any_behind : (qs : List Part) (q : Part) (rs : List Part) → HasAny (qs ++ q ∷ rs)
any_behind [] q rs = tt
any_behind (p ∷ qs) q rs = tt

low_then : {A : Type 0} (v : Option A) (f : A → Option Made) → ((a : A) → IsLowIfAny (f a)) → IsLowIfAny (option_and_then f v)
low_then None f h = tt
low_then (Some a) f h = h a

low_map : {A : Type 0} (v : Option A) (f : A → Made) → ((a : A) → IsLowMade (f a)) → IsLowIfAny (option_map f v)
low_map None f h = tt
low_map (Some a) f h = h a

low_if : (b : Bool) (m n : Made) → IsLowMade m → IsLowMade n → IsLowMade (if b then m else n)
low_if true m n h k = h
low_if false m n h k = k

low_if_any : (b : Bool) (m n : Option Made) → IsLowIfAny m → IsLowIfAny n → IsLowIfAny (if b then m else n)
low_if_any true m n h k = h
low_if_any false m n h k = k

module _ (symbols : List QualifiedName) where
  -- ---- binding forms

  low_let_of : (bs : List (ℕ × Object ℕ)) (body : Object ℕ) → IsLowIfAny (let_of symbols bs body)
  low_let_of bs body =
      low_if_any (are_different (bound_names symbols bs)) (Some (node (LetNode (bound_names symbols bs)) (bound_forms symbols bs ++ Form body ∷ []))) None
      (any_behind (bound_forms symbols bs) (Form body) []) tt

  low_let : (os : List (Object ℕ)) → IsLowIfAny (let_made symbols os)
  low_let [] = tt
  low_let (b ∷ os) =
      low_then (bindings symbols b) (λ bs. option_and_then (let_of symbols bs) (body_of symbols os)) (λ bs. low_then (body_of symbols os) (let_of symbols bs) (low_let_of bs))

  -- the first binding of a `LET*`, and what is left
  abbrev first_bound : Option (ℕ × Object ℕ) → List (Object ℕ) → Made
  first_bound None fs = Again (Symbol nil)
  first_bound (Some b) fs = node (LetNode (b.0 ∷ [])) (Form b.1 ∷ Rest Bindings fs ∷ [])

  abbrev begun : List (Object ℕ) → Made
  begun [] = Again (Symbol nil)
  begun (f ∷ []) = Again f
  begun (f ∷ (g ∷ fs)) = first_bound (binding symbols f) (g ∷ fs)

  low_first : (b : Option (ℕ × Object ℕ)) (fs : List (Object ℕ)) → IsLowMade (first_bound b fs)
  low_first None fs = tt
  low_first (Some b) fs = tt

  low_begun : (fs : List (Object ℕ)) → IsLowMade (begun fs)
  low_begun [] = tt
  low_begun (f ∷ []) = tt
  low_begun (f ∷ (g ∷ fs)) = low_first (binding symbols f) (g ∷ fs)

  low_let_star : (os : List (Object ℕ)) → IsLowIfAny (let_star_made symbols os)
  low_let_star [] = tt
  low_let_star (bs ∷ os) =
      low_then (body_of symbols os) (λ b. option_and_then (λ fs. option_map (λ all. begun (fs ++ b ∷ [])) (bindings symbols bs)) (elements bs))
      (λ b. low_then (elements bs) (λ fs. option_map (λ all. begun (fs ++ b ∷ [])) (bindings symbols bs))
      (λ fs. low_map (bindings symbols bs) (λ all. begun (fs ++ b ∷ [])) (λ all. low_begun (fs ++ b ∷ []))))

  low_mv_let : (os : List (Object ℕ)) → IsLowIfAny (mv_let_made symbols os)
  low_mv_let os = low_map (mv_let_parts symbols os) (λ p. node (MvLetNode p.0) (Form p.1 ∷ Form p.2 ∷ [])) (λ p. tt)

  low_stobj_let_of : (bs : List (ℕ × Object ℕ)) (vars : List ℕ) (p c : Object ℕ) → IsLowIfAny (stobj_let_of symbols bs vars p c)
  low_stobj_let_of [] vars p c = tt
  low_stobj_let_of (b ∷ bs) vars p c = tt

  low_stobj_let : (os : List (Object ℕ)) → IsLowIfAny (stobj_let_made symbols os)
  low_stobj_let (b ∷ (v ∷ (p ∷ (c ∷ [])))) =
      low_then (bindings symbols b) (λ bs. option_and_then (λ vars. stobj_let_of symbols bs vars p c) (variables symbols v))
      (λ bs. low_then (variables symbols v) (λ vars. stobj_let_of symbols bs vars p c) (λ vars. low_stobj_let_of bs vars p c))
  low_stobj_let os = tt

  low_with_local : (os : List (Object ℕ)) → IsLowIfAny (with_local_made symbols os)
  low_with_local (x ∷ (f ∷ [])) =
      low_then (variable_name symbols x)
      (λ stobj. option_map (λ p. node (WithLocalNode stobj p.0) (Form p.1 ∷ Form p.2 ∷ [])) (option_and_then (mv_let_parts symbols) (written_mv_let symbols f)))
      (λ stobj. low_map (option_and_then (mv_let_parts symbols) (written_mv_let symbols f)) (λ p. node (WithLocalNode stobj p.0) (Form p.1 ∷ Form p.2 ∷ [])) (λ p. tt))
  low_with_local os = tt

  -- ---- macros

  low_cond : (c : Option (List (Object ℕ))) (cs : List (Object ℕ)) → IsLowMade (cond_layer symbols c cs)
  low_cond (Some (x ∷ [])) cs = tt
  low_cond (Some (x ∷ (r ∷ []))) cs = low_if (is truth x) (Again r) (if_made (Form x) (Form r) (Rest Cond cs)) tt tt
  low_cond c cs = refl

  low_case : (c : Option (List (Object ℕ))) (cs : List (Object ℕ)) → IsLowMade (case_layer symbols c cs)
  low_case (Some (k ∷ (r ∷ []))) cs =
      low_if (is_default symbols k) (Again r) (if_made (Ready (key_test symbols k)) (Form r) (Rest Clauses cs)) tt tt
  low_case c cs = refl

  low_mbe : (os : List (Object ℕ)) → IsLowIfAny (mbe_made symbols os)
  low_mbe (a ∷ (x ∷ (b ∷ (y ∷ [])))) =
      let turned : Option Made = if is_key symbols (codes "EXEC") a && is_key symbols (codes "LOGIC") b then Some (node MustBeEqualNode (Form y ∷ Form x ∷ [])) else None in
      low_if_any (is_key symbols (codes "LOGIC") a && is_key symbols (codes "EXEC") b) (Some (node MustBeEqualNode (Form x ∷ Form y ∷ []))) turned tt
      (low_if_any (is_key symbols (codes "EXEC") a && is_key symbols (codes "LOGIC") b) (Some (node MustBeEqualNode (Form y ∷ Form x ∷ []))) None tt tt)
  low_mbe os = tt

  low_path : (ls : List ℕ) (x : Object ℕ) → IsLowIfAny (path_made symbols ls x)
  low_path [] x = tt
  low_path (l ∷ []) x = tt
  low_path (l ∷ (m ∷ ls)) x = tt

  low_chained : (f : ℕ) (row : MacroRow) (os : List (Object ℕ)) (unit : Object ℕ) → IsLowMade (chained symbols f row os unit)
  low_chained f row [] unit = refl
  low_chained f row (x ∷ []) unit = tt
  low_chained f row (x ∷ (y ∷ ys)) unit = tt

  -- ---- all rows

  pub low_made : (row : MacroRow) (os : List (Object ℕ)) → IsLowIfAny (made_of symbols row os)
  unfolding made_of
  low_made Quote (o ∷ []) = refl
  low_made If (a ∷ (b ∷ (c ∷ []))) = tt
  low_made Let os = low_let os
  low_made Mv (a ∷ (b ∷ os)) = tt
  low_made MvLet os = low_mv_let os
  low_made StobjLet os = low_stobj_let os
  low_made WithLocal os = low_with_local os
  low_made MustBeEqual (a ∷ (b ∷ [])) = tt
  low_made And [] = refl
  low_made And (x ∷ []) = tt
  low_made And (x ∷ (y ∷ ys)) = tt
  low_made Or [] = refl
  low_made Or (x ∷ []) = tt
  low_made Or (x ∷ (y ∷ ys)) = tt
  low_made Cond [] = refl
  low_made Cond (c ∷ cs) = low_if_any (are_cond_clauses symbols (c ∷ cs)) (Some (cond_layer symbols (elements c) cs)) None (low_cond (elements c) cs) tt
  low_made Case (x ∷ cs) = low_if_any (are_case_clauses symbols cs) (Some (hidden_let x (Rest Clauses cs))) None tt tt
  low_made Clauses [] = refl
  low_made Clauses (c ∷ cs) = low_case (elements c) cs
  low_made LetStar os = low_let_star os
  low_made Bindings (b ∷ []) = tt
  low_made Bindings (b ∷ (c ∷ os)) = low_map (binding symbols b) (λ p. node (LetNode (p.0 ∷ [])) (Form p.1 ∷ Rest Bindings (c ∷ os) ∷ [])) (λ p. tt)
  low_made Listing [] = refl
  low_made Listing (x ∷ xs) = tt
  low_made ListStar (x ∷ []) = tt
  low_made ListStar (x ∷ (y ∷ ys)) = tt
  low_made (Chain f unit) os = low_chained f (Chain f unit) os unit
  low_made Minus (x ∷ []) = tt
  low_made Minus (x ∷ (y ∷ [])) = tt
  low_made (Added n) (x ∷ []) = tt
  low_made (Two f) (x ∷ (y ∷ [])) = tt
  low_made (Turned f) (x ∷ (y ∷ [])) = tt
  low_made (Negated row) (x ∷ (y ∷ [])) = tt
  low_made (Path letters) (x ∷ []) = low_path letters x
  low_made Then (x ∷ (y ∷ [])) = tt
  low_made Mbt (x ∷ []) = tt
  low_made Mbe os = low_mbe os
  low_made The (t ∷ (x ∷ [])) = low_map (type_term t (Var hidden_variable_word)) (λ test. hidden_let x (Rest Checked (t ∷ []))) (λ test. tt)
  low_made Checked (t ∷ []) = low_map (type_term t (Var hidden_variable_word)) (checked_made symbols t) (λ test. tt)
  low_made row os = tt
