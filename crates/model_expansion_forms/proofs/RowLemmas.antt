-- What a row makes of its place has parts that fit: as many as the node asks for, with the symbols of what the row is given.
use Rattle.std.proofs.Common.{◌≡◌, ℕ, ◌+◌, ◌≤◌, List, [], ◌∷◌, ◌++◌, map, length, Bool, true, false, Option, Some, None, refl, arith}
use Rattle.std.specs.Prelude.{nat_eq, if◌then◌else◌, option_map, option_and_then, ◌&&◌, codes}
use Rattle.model_objects.specs.Object.{Object, Integer, Symbol}
use Rattle.model_objects.specs.Named.{Symbols}
use Rattle.model_symbols.specs.Symbols.{QualifiedName}
use Rattle.model_symbols.specs.Opening.{truth, nil}
use Rattle.model_lists.specs.Types.{cons_word}
use Rattle.model_terms.specs.Cores.{Core, Var, Const}
use Rattle.model_terms.specs.Worlds.{World}
use Rattle.model_expansion.specs.Forms.{elements, is, are_different, is_key, variable_name}
use Rattle.model_expansion.specs.TypeTerms.{type_term, false_core}
use Rattle.model_expansion.specs.Words.{car_word, cdr_word, hidden_variable_word}
use Rattle.model_expansion.specs.Layers.{MacroRow, Quote, If, Let, Mv, MvLet, StobjLet, WithLocal, MustBeEqual, And, Or, Cond, Case, LetStar, Listing, ListStar, Chain, Minus, Added, Two, Turned, Negated, Path, Then, Mbt, Mbe, The, OrTest, CondTest, Clauses, Bindings, Checked, Kind, IfNode, LetNode, MvNode, MvLetNode, StobjLetNode, WithLocalNode, MustBeEqualNode, CallNode, GuardItem, FormHolds, Meets, Part, Form, Ready, Rest, Guard, Found, Leaf, Node, Made, Again, Stays, node, if_made, hidden_let, binding, bindings, variables, body_of, bound_names, bound_forms, let_of, let_made, let_star_made, mv_let_parts, mv_let_made, stobj_let_of, stobj_let_made, written_mv_let, with_local_made, are_cond_clauses, cond_layer, is_default, key_test, are_case_clauses, case_layer, mbe_made, checked_made, letter_function, path_made, chained, made_of}
use Rattle.model_expansion_forms.specs.Rows.{Takes, HasRowFunctions}
use Rattle.model_expansion_forms.proofs.NodeLemmas.{IsShaped, IsGood}
use Rattle.model_expansion_forms.proofs.PartLemmas.{AllHave, AllHaveIfAny, HasIfAny, elements_have, both_have, body_has, BoundHave, BoundHaveIfAny, BoundHasIfAny, binding_has, bindings_have, IsMvLetIfAny, mv_let_has, written_has}
use Rattle.model_expansion_forms.proofs.TypeLemmas.{shaped_var, shaped_const, shaped_call, ShapedIfAny, term_shaped}

-- ---- what is asked of rows, parts and nodes

module _ (w : World) (P : ℕ → Type 0) where
  -- what a row calls takes so many arguments
  abbrev pub IsGoodRow : MacroRow → Type 0
  IsGoodRow (Chain f unit) = Takes w f 2 × Symbols P unit
  IsGoodRow (Two f) = Takes w f 2
  IsGoodRow (Turned f) = Takes w f 2
  IsGoodRow (Negated row) = IsGoodRow row
  IsGoodRow row = Unit {0}

  abbrev pub IsGoodItem : GuardItem → Type 0
  IsGoodItem (FormHolds o) = Symbols P o
  IsGoodItem (Meets f) = IsShaped P f

  abbrev pub AreGoodItems : List GuardItem → Type 0
  AreGoodItems [] = Unit {0}
  AreGoodItems (g ∷ gs) = IsGoodItem g × AreGoodItems gs

  abbrev pub IsGoodPart : Part → Type 0
  IsGoodPart (Form o) = Symbols P o
  IsGoodPart (Ready f) = IsShaped P f
  IsGoodPart (Rest row os) = IsGoodRow row × AllHave P os
  IsGoodPart (Guard gs) = AreGoodItems gs

  abbrev pub AreGoodParts : List Part → Type 0
  AreGoodParts [] = Unit {0}
  AreGoodParts (q ∷ qs) = IsGoodPart q × AreGoodParts qs

  -- how many parts a node has
  abbrev pub HasParts : Kind → ℕ → Type 0
  HasParts IfNode n = Unit {0}
  HasParts (LetNode names) n = n ≡ length names + 1
  HasParts MvNode n = 2 ≤ n
  HasParts (MvLetNode names) n = 2 ≤ length names
  HasParts (StobjLetNode names vars) n = n ≡ length names + 2
  HasParts (WithLocalNode stobj names) n = 2 ≤ length names
  HasParts MustBeEqualNode n = Unit {0}
  HasParts (CallNode f) n = Takes w f n

  abbrev pub IsGoodFound : Found → Type 0
  IsGoodFound (Leaf f) = IsGood w P f
  IsGoodFound (Node k qs) = HasParts k (length qs) × AreGoodParts qs

  abbrev pub IsGoodMade : Made → Type 0
  IsGoodMade (Again o) = Symbols P o
  IsGoodMade (Stays f) = IsGoodFound f

  abbrev pub IsGoodIfAny : Option Made → Type 0
  IsGoodIfAny None = Unit {0}
  IsGoodIfAny (Some m) = IsGoodMade m

  good_if : (b : Bool) (m n : Made) → IsGoodMade m → IsGoodMade n → IsGoodMade (if b then m else n)
  good_if true m n h k = h
  good_if false m n h k = k

  good_if_any : (b : Bool) (m n : Option Made) → IsGoodIfAny m → IsGoodIfAny n → IsGoodIfAny (if b then m else n)
  good_if_any true m n h k = h
  good_if_any false m n h k = k

  pub good_const : (o : Object ℕ) → Symbols P o → IsGood w P (Const o)
  good_const o h = record { own = tt; shaped = shaped_const P o h }

  pub good_var : (x : ℕ) → IsGood w P (Var x)
  good_var x = record { own = tt; shaped = shaped_var P x }

  -- ---- parts

  forms_good : (bs : List (ℕ × Object ℕ)) (symbols : List QualifiedName) → BoundHave P bs → (qs : List Part) → AreGoodParts qs → AreGoodParts (bound_forms symbols bs ++ qs)
  forms_good [] symbols h qs k = k
  forms_good (b ∷ bs) symbols h qs k = (h.0, forms_good bs symbols h.1 qs k)

  as_many : (bs : List (ℕ × Object ℕ)) (symbols : List QualifiedName) (qs : List Part) → length (bound_forms symbols bs ++ qs) ≡ length (bound_names symbols bs) + length qs
  as_many [] symbols qs = omega arith
  as_many (b ∷ bs) symbols qs = let h = as_many bs symbols qs in omega (arith, h)

  pub mapped_good : (os : List (Object ℕ)) → AllHave P os → AreGoodParts (map Form os)
  mapped_good [] h = tt
  mapped_good (o ∷ os) h = (h.0, mapped_good os h.1)

module _ (w : World) (P : ℕ → Type 0) (symbols : List QualifiedName) where
  -- ---- binding forms

  good_let_of : (bs : List (ℕ × Object ℕ)) (body : Object ℕ) → BoundHave P bs → Symbols P body → IsGoodIfAny w P (let_of symbols bs body)
  good_let_of bs body h k =
      good_if_any w P (are_different (bound_names symbols bs)) (Some (node (LetNode (bound_names symbols bs)) (bound_forms symbols bs ++ Form body ∷ []))) None
      (as_many w P bs symbols (Form body ∷ []), forms_good w P bs symbols h (Form body ∷ []) (k, tt)) tt

  good_let : (os : List (Object ℕ)) → AllHave P os → IsGoodIfAny w P (let_made symbols os)
  good_let [] h = tt
  good_let (b ∷ os) h = go (bindings symbols b) (bindings_have P symbols b h.0) (body_of symbols os) (body_has P symbols os h.1)
    where
      go : (bs : Option (List (ℕ × Object ℕ))) → BoundHaveIfAny P bs → (body : Option (Object ℕ)) → HasIfAny P body
          → IsGoodIfAny w P (option_and_then (λ bs. option_and_then (let_of symbols bs) body) bs)
      go None k body l = tt
      go (Some bs) k None l = tt
      go (Some bs) k (Some body) l = good_let_of bs body k l

  -- the first binding of a `LET*`, and what is left
  abbrev first_bound : Option (ℕ × Object ℕ) → List (Object ℕ) → Made
  first_bound None fs = Again (Symbol nil)
  first_bound (Some b) fs = node (LetNode (b.0 ∷ [])) (Form b.1 ∷ Rest Bindings fs ∷ [])

  abbrev begun : List (Object ℕ) → Made
  begun [] = Again (Symbol nil)
  begun (f ∷ []) = Again f
  begun (f ∷ (g ∷ fs)) = first_bound (binding symbols f) (g ∷ fs)

  module _ (yes : P truth) (no : P nil) where
    good_first : (b : Option (ℕ × Object ℕ)) → BoundHasIfAny P b → (fs : List (Object ℕ)) → AllHave P fs → IsGoodMade w P (first_bound b fs)
    good_first None h fs k = no
    good_first (Some b) h fs k = (refl, (h, ((tt, k), tt)))

    good_begun : (fs : List (Object ℕ)) → AllHave P fs → IsGoodMade w P (begun fs)
    good_begun [] h = no
    good_begun (f ∷ []) h = h.0
    good_begun (f ∷ (g ∷ fs)) h = good_first (binding symbols f) (binding_has P symbols f h.0) (g ∷ fs) h.1

    good_let_star : (os : List (Object ℕ)) → AllHave P os → IsGoodIfAny w P (let_star_made symbols os)
    good_let_star [] h = tt
    good_let_star (bs ∷ os) h = go (body_of symbols os) (body_has P symbols os h.1) (elements bs) (elements_have P bs h.0) (bindings symbols bs)
      where
        go : (body : Option (Object ℕ)) → HasIfAny P body → (fs : Option (List (Object ℕ))) → AllHaveIfAny P fs → (all : Option (List (ℕ × Object ℕ)))
            → IsGoodIfAny w P (option_and_then (λ b. option_and_then (λ fs. option_map (λ all. begun (fs ++ b ∷ [])) all) fs) body)
        go None k fs l all = tt
        go (Some b) k None l all = tt
        go (Some b) k (Some fs) l None = tt
        go (Some b) k (Some fs) l (Some all) = good_begun (fs ++ b ∷ []) (both_have P fs (b ∷ []) l (k, tt))

    good_mv_let : (os : List (Object ℕ)) → AllHave P os → IsGoodIfAny w P (mv_let_made symbols os)
    good_mv_let os h = go (mv_let_parts symbols os) (mv_let_has P symbols os h)
      where
        go : (v : Option (List ℕ × Object ℕ × Object ℕ)) → IsMvLetIfAny P v → IsGoodIfAny w P (option_map (λ p. node (MvLetNode p.0) (Form p.1 ∷ Form p.2 ∷ [])) v)
        go None k = tt
        go (Some p) k = (k.0, (k.1, (k.2, tt)))

    good_stobj_let_of : (bs : List (ℕ × Object ℕ)) (vars : List ℕ) (p c : Object ℕ) → BoundHave P bs → Symbols P p → Symbols P c → IsGoodIfAny w P (stobj_let_of symbols bs vars p c)
    good_stobj_let_of [] vars p c h k l = tt
    good_stobj_let_of (b ∷ bs) vars p c h k l =
        (as_many w P (b ∷ bs) symbols (Form p ∷ Form c ∷ []), forms_good w P (b ∷ bs) symbols h (Form p ∷ Form c ∷ []) (k, (l, tt)))

    good_stobj_let : (os : List (Object ℕ)) → AllHave P os → IsGoodIfAny w P (stobj_let_made symbols os)
    good_stobj_let (b ∷ (v ∷ (p ∷ (c ∷ [])))) h = go (bindings symbols b) (bindings_have P symbols b h.0) (variables symbols v)
      where
        go : (bs : Option (List (ℕ × Object ℕ))) → BoundHaveIfAny P bs → (vars : Option (List ℕ))
            → IsGoodIfAny w P (option_and_then (λ bs. option_and_then (λ vars. stobj_let_of symbols bs vars p c) vars) bs)
        go None k vars = tt
        go (Some bs) k None = tt
        go (Some bs) k (Some vars) = good_stobj_let_of bs vars p c k h.1.1.0 h.1.1.1.0
    good_stobj_let [] h = tt
    good_stobj_let (b ∷ []) h = tt
    good_stobj_let (b ∷ (v ∷ [])) h = tt
    good_stobj_let (b ∷ (v ∷ (p ∷ []))) h = tt
    good_stobj_let (b ∷ (v ∷ (p ∷ (c ∷ (o ∷ os))))) h = tt

    good_with_local : (os : List (Object ℕ)) → AllHave P os → IsGoodIfAny w P (with_local_made symbols os)
    good_with_local [] h = tt
    good_with_local (x ∷ []) h = tt
    good_with_local (x ∷ (f ∷ [])) h = go (variable_name symbols x) (option_and_then (mv_let_parts symbols) (written_mv_let symbols f)) (written_has P symbols f h.1.0)
      where
        go : (v : Option ℕ) (m : Option (List ℕ × Object ℕ × Object ℕ)) → IsMvLetIfAny P m
            → IsGoodIfAny w P (option_and_then (λ stobj. option_map (λ p. node (WithLocalNode stobj p.0) (Form p.1 ∷ Form p.2 ∷ [])) m) v)
        go None m k = tt
        go (Some stobj) None k = tt
        go (Some stobj) (Some p) k = (k.0, (k.1, (k.2, tt)))
    good_with_local (x ∷ (f ∷ (o ∷ os))) h = tt

    -- ---- macros

    hidden_good : IsShaped P (Var hidden_variable_word)
    hidden_good = shaped_var P hidden_variable_word

    false_good : IsShaped P false_core
    false_good = shaped_const P (Symbol nil) no

    good_cond : (c : Option (List (Object ℕ))) → AllHaveIfAny P c → (cs : List (Object ℕ)) → AllHave P cs → IsGoodMade w P (cond_layer symbols c cs)
    good_cond (Some (x ∷ [])) h cs k = (refl, (h.0, ((tt, k), tt)))
    good_cond (Some (x ∷ (r ∷ []))) h cs k =
        good_if w P (is truth x) (Again r) (if_made (Form x) (Form r) (Rest Cond cs)) h.1.0 (tt, (h.0, (h.1.0, ((tt, k), tt))))
    good_cond None h cs k = good_const w P (Symbol nil) no
    good_cond (Some []) h cs k = good_const w P (Symbol nil) no
    good_cond (Some (x ∷ (r ∷ (o ∷ os)))) h cs k = good_const w P (Symbol nil) no

    key_shaped : (k : Object ℕ) → Symbols P k → IsShaped P (key_test symbols k)
    key_shaped k h = shaped_call P _ (Var hidden_variable_word ∷ Const k ∷ []) (hidden_good, (shaped_const P k h, tt))

    good_case : (c : Option (List (Object ℕ))) → AllHaveIfAny P c → (cs : List (Object ℕ)) → AllHave P cs → IsGoodMade w P (case_layer symbols c cs)
    good_case (Some (k ∷ (r ∷ []))) h cs l =
        good_if w P (is_default symbols k) (Again r) (if_made (Ready (key_test symbols k)) (Form r) (Rest Clauses cs)) h.1.0
        (tt, (key_shaped k h.0, (h.1.0, ((tt, l), tt))))
    good_case None h cs l = good_const w P (Symbol nil) no
    good_case (Some []) h cs l = good_const w P (Symbol nil) no
    good_case (Some (k ∷ [])) h cs l = good_const w P (Symbol nil) no
    good_case (Some (k ∷ (r ∷ (o ∷ os)))) h cs l = good_const w P (Symbol nil) no

    good_mbe : (os : List (Object ℕ)) → AllHave P os → IsGoodIfAny w P (mbe_made symbols os)
    good_mbe (a ∷ (x ∷ (b ∷ (y ∷ [])))) h =
        let turned : Option Made = if is_key symbols (codes "EXEC") a && is_key symbols (codes "LOGIC") b then Some (node MustBeEqualNode (Form y ∷ Form x ∷ [])) else None in
        good_if_any w P (is_key symbols (codes "LOGIC") a && is_key symbols (codes "EXEC") b) (Some (node MustBeEqualNode (Form x ∷ Form y ∷ []))) turned (tt, (h.1.0, (h.1.1.1.0, tt)))
        (good_if_any w P (is_key symbols (codes "EXEC") a && is_key symbols (codes "LOGIC") b) (Some (node MustBeEqualNode (Form y ∷ Form x ∷ []))) None (tt, (h.1.1.1.0, (h.1.0, tt))) tt)
    good_mbe [] h = tt
    good_mbe (a ∷ []) h = tt
    good_mbe (a ∷ (x ∷ [])) h = tt
    good_mbe (a ∷ (x ∷ (b ∷ []))) h = tt
    good_mbe (a ∷ (x ∷ (b ∷ (y ∷ (o ∷ os))))) h = tt

    hidden_let_good : (x : Object ℕ) (q : Part) → Symbols P x → IsGoodPart w P q → IsGoodMade w P (hidden_let x q)
    hidden_let_good x q h k = (refl, (h, (k, tt)))

    module _ (r : HasRowFunctions w) where
      letter_takes : (l : ℕ) → Takes w (letter_function symbols l) 1
      letter_takes l = go (nat_eq l 65)
        where
          go : (b : Bool) → Takes w (if b then car_word else cdr_word) 1
          go true = r.first
          go false = r.others

      good_path : (ls : List ℕ) (x : Object ℕ) → Symbols P x → IsGoodIfAny w P (path_made symbols ls x)
      good_path [] x h = tt
      good_path (l ∷ []) x h = (letter_takes l, (h, tt))
      good_path (l ∷ (m ∷ ls)) x h = (letter_takes l, ((tt, (h, tt)), tt))

      good_chained : (f : ℕ) (row : MacroRow) (os : List (Object ℕ)) (unit : Object ℕ) → Takes w f 2 → Symbols P unit → IsGoodRow w P row → AllHave P os → IsGoodMade w P (chained symbols f row os unit)
      good_chained f row [] unit t u g h = good_const w P unit u
      good_chained f row (x ∷ []) unit t u g h = h.0
      good_chained f row (x ∷ (y ∷ ys)) unit t u g h = (t, (h.0, ((g, h.1), tt)))

      good_the : (t x : Object ℕ) → Symbols P t → Symbols P x → (test : Option Core) → IsGoodIfAny w P (option_map (λ test. hidden_let x (Rest Checked (t ∷ []))) test)
      good_the t x h k None = tt
      good_the t x h k (Some test) = (refl, (k, ((tt, (h, tt)), tt)))

      good_checked : (t : Object ℕ) → Symbols P t → (test : Option Core) → ShapedIfAny P test → IsGoodIfAny w P (option_map (checked_made symbols t) test)
      good_checked t h None k = tt
      good_checked t h (Some test) k = (r.checked, (k, (shaped_const P t h, (hidden_good, tt))))

      good_binding : (b : Option (ℕ × Object ℕ)) → BoundHasIfAny P b → (os : List (Object ℕ)) → AllHave P os → IsGoodIfAny w P (option_map (λ p. node (LetNode (p.0 ∷ [])) (Form p.1 ∷ Rest Bindings os ∷ [])) b)
      good_binding None h os k = tt
      good_binding (Some b) h os k = (refl, (h, ((tt, k), tt)))

      -- ---- all rows

      pub good_made : (row : MacroRow) (os : List (Object ℕ)) → IsGoodRow w P row → AllHave P os → IsGoodIfAny w P (made_of symbols row os)
      unfolding made_of
      good_made Quote (o ∷ []) g h = good_const w P o h.0
      good_made If (a ∷ (b ∷ (c ∷ []))) g h = (tt, h)
      good_made Let os g h = good_let os h
      good_made Mv (a ∷ (b ∷ os)) g h = (omega arith, mapped_good w P (a ∷ (b ∷ os)) h)
      good_made MvLet os g h = good_mv_let os h
      good_made StobjLet os g h = good_stobj_let os h
      good_made WithLocal os g h = good_with_local os h
      good_made MustBeEqual (a ∷ (b ∷ [])) g h = (tt, h)
      good_made And [] g h = good_const w P (Symbol truth) yes
      good_made And (x ∷ []) g h = h.0
      good_made And (x ∷ (y ∷ ys)) g h = (tt, (h.0, ((tt, h.1), (false_good, tt))))
      good_made Or [] g h = good_const w P (Symbol nil) no
      good_made Or (x ∷ []) g h = h.0
      good_made Or (x ∷ (y ∷ ys)) g h = hidden_let_good x (Rest OrTest (y ∷ ys)) h.0 (tt, h.1)
      good_made OrTest ys g h = (tt, (hidden_good, (hidden_good, ((tt, h), tt))))
      good_made Cond [] g h = good_const w P (Symbol nil) no
      good_made Cond (c ∷ cs) g h = good_if_any w P (are_cond_clauses symbols (c ∷ cs)) (Some (cond_layer symbols (elements c) cs)) None (good_cond (elements c) (elements_have P c h.0) cs h.1) tt
      good_made CondTest cs g h = (tt, (hidden_good, (hidden_good, ((tt, h), tt))))
      good_made Case (x ∷ cs) g h = good_if_any w P (are_case_clauses symbols cs) (Some (hidden_let x (Rest Clauses cs))) None (hidden_let_good x (Rest Clauses cs) h.0 (tt, h.1)) tt
      good_made Clauses [] g h = good_const w P (Symbol nil) no
      good_made Clauses (c ∷ cs) g h = good_case (elements c) (elements_have P c h.0) cs h.1
      good_made LetStar os g h = good_let_star os h
      good_made Bindings (b ∷ []) g h = h.0
      good_made Bindings (b ∷ (c ∷ os)) g h = good_binding (binding symbols b) (binding_has P symbols b h.0) (c ∷ os) h.1
      good_made Listing [] g h = good_const w P (Symbol nil) no
      good_made Listing (x ∷ xs) g h = (r.pair, (h.0, ((tt, h.1), tt)))
      good_made ListStar (x ∷ xs) g h = good_chained cons_word ListStar (x ∷ xs) (Symbol nil) r.pair no tt h
      good_made (Chain f unit) os g h = good_chained f (Chain f unit) os unit g.0 g.1 g h
      good_made Minus (x ∷ []) g h = (r.minus, (h.0, tt))
      good_made Minus (x ∷ (y ∷ [])) g h = (r.plus, (h.0, ((tt, h.1), tt)))
      good_made (Added n) (x ∷ []) g h = (r.plus, (shaped_const P (Integer n) tt, (h.0, tt)))
      good_made (Two f) (x ∷ (y ∷ [])) g h = (g, (h.0, (h.1.0, tt)))
      good_made (Turned f) (x ∷ (y ∷ [])) g h = (g, (h.1.0, (h.0, tt)))
      good_made (Negated row) (x ∷ (y ∷ [])) g h = (r.negation, ((g, h), tt))
      good_made (Path letters) (x ∷ []) g h = good_path letters x h.0
      good_made Then (x ∷ (y ∷ [])) g h = hidden_let_good x (Form y) h.0 h.1.0
      good_made Mbt (x ∷ []) g h = h.0
      good_made Mbe os g h = good_mbe os h
      good_made The (t ∷ (x ∷ [])) g h = good_the t x h.0 h.1.0 (type_term t (Var hidden_variable_word))
      good_made Checked (t ∷ []) g h = good_checked t h.0 (type_term t (Var hidden_variable_word)) (term_shaped P yes no (Var hidden_variable_word) hidden_good t h.0)
      good_made row os g h = tt
