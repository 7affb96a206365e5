-- The rows of forms that bind variables.
use Rattle.std.specs.Prelude.{◌≡◌, ℕ, ◌<◌, ◌≤◌, List, [], ◌∷◌, ◌++◌, length, true, false, ◌&&◌, nat_le, is_some, Option, Some, None, option_map, option_and_then, if◌then◌else◌, refl}
use Rattle.std.proofs.Common.{sym, ap, ◌∙◌, arith}
use Rattle.std.proofs.lemmas.Bool.Decides.{nat_tests}
use Rattle.std.proofs.lemmas.List.{length-map}
use Rattle.model_objects.specs.Object.{Object, Symbol}
use Rattle.model_symbols.specs.Symbols.{QualifiedName}
use Rattle.model_symbols.specs.Opening.{nil}
use Rattle.model_expansion.specs.Forms.{elements, each, are_different, variable_name}
use Rattle.model_expansion.specs.Layers.{Let, LetStar, Bindings, MvLet, StobjLet, WithLocal, LetNode, MvLetNode, WithLocalNode, Form, Rest, Made, Again, node, is_none, binding, bindings, variables, body_of, let_of, mv_names, mv_let_parts, written_mv_let, stobj_let_of, made_of}
use Rattle.acl_base.specs.declared.SymId.{SymId}
use Rattle.acl_terms.specs.Forms.{numbers}
use Rattle.acl_layers.specs.Lists.{items_along, only_two, only_four}
use Rattle.acl_layers.proofs.ListLemmas.{items_are}

module _ (sy : List QualifiedName) where
  -- ---- LET

  pub let_end : (os : List (Object ℕ)) → os ≡ [] → made_of sy Let os ≡ None
  unfolding made_of
  let_end os e = ap (made_of sy Let) e

  let_split : (bs : Object ℕ) (rest : List (Object ℕ)) → made_of sy Let (bs ∷ rest) ≡ option_and_then (λ ps. option_and_then (let_of sy ps) (body_of sy rest)) (bindings sy bs)
  unfolding made_of
  let_split bs rest = refl

  no_body : (b : Option (Object ℕ)) (ps : Option (List (ℕ × Object ℕ))) → b ≡ None → option_and_then (λ ps. option_and_then (let_of sy ps) b) ps ≡ None
  no_body None None e = refl
  no_body None (Some ps) e = refl
  no_body (Some b) ps e = cc

  pub let_no_body : (bs : Object ℕ) (os rest : List (Object ℕ)) → os ≡ bs ∷ rest → body_of sy rest ≡ None → made_of sy Let os ≡ None
  let_no_body bs os rest e n = ap (made_of sy Let) e ∙ (let_split bs rest ∙ no_body (body_of sy rest) (bindings sy bs) n)

  pub let_no_bindings : (bs : Object ℕ) (os rest : List (Object ℕ)) → os ≡ bs ∷ rest → bindings sy bs ≡ None → made_of sy Let os ≡ None
  let_no_bindings bs os rest e n = ap (made_of sy Let) e ∙ (let_split bs rest ∙ rw n refl)

  pub let_is : (bs b : Object ℕ) (os rest : List (Object ℕ)) (ps : List (ℕ × Object ℕ)) → os ≡ bs ∷ rest → bindings sy bs ≡ Some ps → body_of sy rest ≡ Some b → made_of sy Let os ≡ let_of sy ps b
  let_is bs b os rest ps e n m = ap (made_of sy Let) e ∙ (let_split bs rest ∙ rw (n, m) refl)

  -- ---- LET*

  pub left_end : (os : List (Object ℕ)) → os ≡ [] → made_of sy Bindings os ≡ None
  unfolding made_of
  left_end os e = ap (made_of sy Bindings) e

  last_left : (b : Object ℕ) (rest : List (Object ℕ)) → is_none sy rest ≡ true → made_of sy Bindings (b ∷ rest) ≡ Some (Again b)
  unfolding made_of
  last_left b [] n = refl
  last_left b (c ∷ rest) n = cc

  pub left_last : (b : Object ℕ) (os rest : List (Object ℕ)) → os ≡ b ∷ rest → is_none sy rest ≡ true → made_of sy Bindings os ≡ Some (Again b)
  left_last b os rest e n = ap (made_of sy Bindings) e ∙ last_left b rest n

  abbrev bound_one : List (Object ℕ) → ℕ × Object ℕ → Made
  bound_one rest p = node (LetNode (p.0 ∷ [])) (Form p.1 ∷ Rest Bindings rest ∷ [])

  more_left : (b : Object ℕ) (rest : List (Object ℕ)) → is_none sy rest ≡ false → made_of sy Bindings (b ∷ rest) ≡ option_map (bound_one rest) (binding sy b)
  unfolding made_of
  more_left b [] n = cc
  more_left b (c ∷ rest) n = refl

  pub left_bad : (b : Object ℕ) (os rest : List (Object ℕ)) → os ≡ b ∷ rest → is_none sy rest ≡ false → binding sy b ≡ None → made_of sy Bindings os ≡ None
  left_bad b os rest e n m = ap (made_of sy Bindings) e ∙ (more_left b rest n ∙ ap (option_map (bound_one rest)) m)

  pub left_more : (b : Object ℕ) (os rest : List (Object ℕ)) (x : ℕ) (f : Object ℕ) → os ≡ b ∷ rest → is_none sy rest ≡ false → binding sy b ≡ Some (x, f)
      → made_of sy Bindings os ≡ Some (node (LetNode (x ∷ [])) (Form f ∷ Rest Bindings rest ∷ []))
  left_more b os rest x f e n m = ap (made_of sy Bindings) e ∙ (more_left b rest n ∙ ap (option_map (bound_one rest)) m)

  pub star_end : (os : List (Object ℕ)) → os ≡ [] → made_of sy LetStar os ≡ None
  unfolding made_of
  star_end os e = ap (made_of sy LetStar) e

  abbrev first_bound : Option (ℕ × Object ℕ) → List (Object ℕ) → Made
  first_bound None fs = Again (Symbol nil)
  first_bound (Some b) fs = node (LetNode (b.0 ∷ [])) (Form b.1 ∷ Rest Bindings fs ∷ [])

  abbrev begun : List (Object ℕ) → Made
  begun [] = Again (Symbol nil)
  begun (f ∷ []) = Again f
  begun (f ∷ (g ∷ fs)) = first_bound (binding sy f) (g ∷ fs)

  abbrev star_from : Option (Object ℕ) → Option (List (Object ℕ)) → Option (List (ℕ × Object ℕ)) → Option Made
  star_from x es ps = option_and_then (λ b. option_and_then (λ fs. option_map (λ all. begun (fs ++ b ∷ [])) ps) es) x

  star_split : (bs : Object ℕ) (rest : List (Object ℕ)) → made_of sy LetStar (bs ∷ rest) ≡ star_from (body_of sy rest) (elements bs) (bindings sy bs)
  unfolding made_of
  star_split bs rest = refl

  pub star_no_body : (bs : Object ℕ) (os rest : List (Object ℕ)) → os ≡ bs ∷ rest → body_of sy rest ≡ None → made_of sy LetStar os ≡ None
  star_no_body bs os rest e n = ap (made_of sy LetStar) e ∙ (star_split bs rest ∙ ap (λ x. star_from x (elements bs) (bindings sy bs)) n)

  no_star : (x : Option (Object ℕ)) (es : Option (List (Object ℕ))) → star_from x es None ≡ None
  no_star None es = refl
  no_star (Some b) None = refl
  no_star (Some b) (Some fs) = refl

  pub star_no_bindings : (bs : Object ℕ) (os rest : List (Object ℕ)) → os ≡ bs ∷ rest → bindings sy bs ≡ None → made_of sy LetStar os ≡ None
  star_no_bindings bs os rest e a =
      ap (made_of sy LetStar) e ∙ (star_split bs rest ∙ (ap (λ ps. star_from (body_of sy rest) (elements bs) ps) a ∙ no_star (body_of sy rest) (elements bs)))

  first_is : (p : Option (ℕ × Object ℕ)) (r : Option (List (ℕ × Object ℕ))) (all : List (ℕ × Object ℕ)) (rest : List (Object ℕ))
      → option_and_then (λ y. option_map (λ ys. y ∷ ys) r) p ≡ Some all → Some (first_bound p rest) ≡ option_map (bound_one rest) p
  first_is None r all rest e = cc
  first_is (Some p) r all rest e = refl

  begun_is : (b : Object ℕ) (fs : List (Object ℕ)) (all : List (ℕ × Object ℕ)) → each (binding sy) fs ≡ Some all → Some (begun (fs ++ b ∷ [])) ≡ made_of sy Bindings (fs ++ b ∷ [])
  unfolding made_of
  begun_is b [] all e = refl
  begun_is b (f ∷ []) all e = first_is (binding sy f) (each (binding sy) []) all (b ∷ []) e
  begun_is b (f ∷ (g ∷ fs)) all e = first_is (binding sy f) (each (binding sy) (g ∷ fs)) all (g ∷ (fs ++ b ∷ [])) e

  star_go : (b bs : Object ℕ) (es : Option (List (Object ℕ))) (all : List (ℕ × Object ℕ)) → elements bs ≡ es → option_and_then (each (binding sy)) es ≡ Some all
      → star_from (Some b) es (Some all) ≡ made_of sy Bindings (items_along bs ++ b ∷ [])
  star_go b bs None all n e = cc
  star_go b bs (Some fs) all n e = begun_is b fs all e ∙ ap (λ xs. made_of sy Bindings (xs ++ b ∷ [])) (sym (items_are bs fs n))

  pub star_is : (bs b : Object ℕ) (os rest : List (Object ℕ)) (all : List (ℕ × Object ℕ)) → os ≡ bs ∷ rest → body_of sy rest ≡ Some b → bindings sy bs ≡ Some all
      → made_of sy LetStar os ≡ made_of sy Bindings (items_along bs ++ b ∷ [])
  star_is bs b os rest all e n a =
      ap (made_of sy LetStar) e ∙ (star_split bs rest ∙ (ap (λ x. star_from x (elements bs) (bindings sy bs)) n
      ∙ (ap (λ ps. star_from (Some b) (elements bs) ps) a ∙ star_go b bs (elements bs) all refl a)))

  star_by : (bs b : Object ℕ) (os rest : List (Object ℕ)) (ps : Option (List (ℕ × Object ℕ))) → os ≡ bs ∷ rest → body_of sy rest ≡ Some b → bindings sy bs ≡ ps → is_some ps ≡ true
      → made_of sy LetStar os ≡ made_of sy Bindings (items_along bs ++ b ∷ [])
  star_by bs b os rest None e n a t = cc
  star_by bs b os rest (Some all) e n a t = star_is bs b os rest all e n a

  pub star_goes : (bs b : Object ℕ) (os rest : List (Object ℕ)) → os ≡ bs ∷ rest → body_of sy rest ≡ Some b → is_some (bindings sy bs) ≡ true
      → made_of sy LetStar os ≡ made_of sy Bindings (items_along bs ++ b ∷ [])
  star_goes bs b os rest e n t = star_by bs b os rest (bindings sy bs) e n refl t

  none_by : (bs : Object ℕ) (os rest : List (Object ℕ)) (ps : Option (List (ℕ × Object ℕ))) → os ≡ bs ∷ rest → bindings sy bs ≡ ps → is_some ps ≡ false → made_of sy LetStar os ≡ None
  none_by bs os rest None e a t = star_no_bindings bs os rest e a
  none_by bs os rest (Some all) e a t = cc

  pub star_stops : (bs : Object ℕ) (os rest : List (Object ℕ)) → os ≡ bs ∷ rest → is_some (bindings sy bs) ≡ false → made_of sy LetStar os ≡ None
  star_stops bs os rest e t = none_by bs os rest (bindings sy bs) e refl t

  -- ---- MV-LET

  pub no_names : (o : Object ℕ) → variables sy o ≡ None → mv_names sy o ≡ None
  no_names o e = ap (option_and_then (λ xs. if nat_le 2 (length xs) && are_different xs then Some xs else None)) e

  names_split : (o : Object ℕ) (ns : List ℕ) → variables sy o ≡ Some ns → mv_names sy o ≡ (if nat_le 2 (length ns) && are_different ns then Some ns else None)
  names_split o ns e = ap (option_and_then (λ xs. if nat_le 2 (length xs) && are_different xs then Some xs else None)) e

  pub few_names : (o : Object ℕ) (ns : List SymId) → variables sy o ≡ Some (numbers ns) → length ns < 2 → mv_names sy o ≡ None
  few_names o ns e l =
      let m : length (numbers ns) ≡ length ns = length-map ns (λ (s : SymId). s.0) in
      let t : nat_le 2 (length (numbers ns)) ≡ false = grind (arith, nat_tests, m, l) in
      names_split o (numbers ns) e ∙ rw t refl

  pub twice_named : (o : Object ℕ) (ns : List SymId) → variables sy o ≡ Some (numbers ns) → 2 ≤ length ns → are_different (numbers ns) ≡ false → mv_names sy o ≡ None
  twice_named o ns e l d =
      let m : length (numbers ns) ≡ length ns = length-map ns (λ (s : SymId). s.0) in
      let t : nat_le 2 (length (numbers ns)) ≡ true = grind (arith, nat_tests, m, l) in
      names_split o (numbers ns) e ∙ rw (t, d) refl

  pub names_are : (o : Object ℕ) (ns : List SymId) → variables sy o ≡ Some (numbers ns) → 2 ≤ length ns → are_different (numbers ns) ≡ true → mv_names sy o ≡ Some (numbers ns)
  names_are o ns e l d =
      let m : length (numbers ns) ≡ length ns = length-map ns (λ (s : SymId). s.0) in
      let t : nat_le 2 (length (numbers ns)) ≡ true = grind (arith, nat_tests, m, l) in
      names_split o (numbers ns) e ∙ rw (t, d) refl

  pub parts_end : (os : List (Object ℕ)) → os ≡ [] → mv_let_parts sy os ≡ None
  parts_end os e = ap (mv_let_parts sy) e

  pub parts_one : (x : Object ℕ) (os rest : List (Object ℕ)) → os ≡ x ∷ rest → rest ≡ [] → mv_let_parts sy os ≡ None
  parts_one x os rest e n = ap (mv_let_parts sy) (e ∙ ap (λ xs. x ∷ xs) n)

  abbrev MvParts : Type 0
  MvParts = List ℕ × Object ℕ × Object ℕ

  abbrev parts_from : Option (List ℕ) → Object ℕ → Option (Object ℕ) → Option MvParts
  parts_from ns f b = option_and_then (λ names. option_map (λ body. (names, f, body)) b) ns

  parts_split : (x f : Object ℕ) (os r rest : List (Object ℕ)) → os ≡ x ∷ r → r ≡ f ∷ rest → mv_let_parts sy os ≡ parts_from (mv_names sy x) f (body_of sy rest)
  parts_split x f os r rest e n = ap (mv_let_parts sy) (e ∙ ap (λ xs. x ∷ xs) n)

  no_parts : (ns : Option (List ℕ)) (f : Object ℕ) → parts_from ns f None ≡ None
  no_parts None f = refl
  no_parts (Some ns) f = refl

  pub parts_no_body : (x f : Object ℕ) (os r rest : List (Object ℕ)) → os ≡ x ∷ r → r ≡ f ∷ rest → body_of sy rest ≡ None → mv_let_parts sy os ≡ None
  parts_no_body x f os r rest e n b = parts_split x f os r rest e n ∙ (ap (parts_from (mv_names sy x) f) b ∙ no_parts (mv_names sy x) f)

  pub parts_no_names : (x f : Object ℕ) (os r rest : List (Object ℕ)) → os ≡ x ∷ r → r ≡ f ∷ rest → mv_names sy x ≡ None → mv_let_parts sy os ≡ None
  parts_no_names x f os r rest e n a = parts_split x f os r rest e n ∙ ap (λ ns. parts_from ns f (body_of sy rest)) a

  pub parts_are : (x f b : Object ℕ) (ns : List ℕ) (os r rest : List (Object ℕ)) → os ≡ x ∷ r → r ≡ f ∷ rest → mv_names sy x ≡ Some ns → body_of sy rest ≡ Some b
      → mv_let_parts sy os ≡ Some (ns, f, b)
  parts_are x f b ns os r rest e n a t = parts_split x f os r rest e n ∙ (ap (λ ns. parts_from ns f (body_of sy rest)) a ∙ ap (parts_from (Some ns) f) t)

  pub mv_none : (os : List (Object ℕ)) → mv_let_parts sy os ≡ None → made_of sy MvLet os ≡ None
  unfolding made_of
  mv_none os e = ap (option_map (λ (p : MvParts). node (MvLetNode p.0) (Form p.1 ∷ Form p.2 ∷ []))) e

  pub mv_some : (os : List (Object ℕ)) (ns : List ℕ) (f b : Object ℕ) → mv_let_parts sy os ≡ Some (ns, f, b) → made_of sy MvLet os ≡ Some (node (MvLetNode ns) (Form f ∷ Form b ∷ []))
  unfolding made_of
  mv_some os ns f b e = ap (option_map (λ (p : MvParts). node (MvLetNode p.0) (Form p.1 ∷ Form p.2 ∷ []))) e

  -- ---- WITH-LOCAL-STOBJ

  pub local_none : (os : List (Object ℕ)) → only_two os ≡ None → made_of sy WithLocal os ≡ None
  unfolding made_of
  local_none [] e = refl
  local_none (a ∷ []) e = refl
  local_none (a ∷ (b ∷ [])) e = cc
  local_none (a ∷ (b ∷ (c ∷ os))) e = refl

  abbrev local_from : Option ℕ → Option MvParts → Option Made
  local_from v ps = option_and_then (λ stobj. option_map (λ p. node (WithLocalNode stobj p.0) (Form p.1 ∷ Form p.2 ∷ [])) ps) v

  local_split : (x f : Object ℕ) (os : List (Object ℕ)) → os ≡ x ∷ (f ∷ []) → made_of sy WithLocal os ≡ local_from (variable_name sy x) (option_and_then (mv_let_parts sy) (written_mv_let sy f))
  unfolding made_of
  local_split x f os e = ap (made_of sy WithLocal) e

  pub local_no_name : (x f : Object ℕ) (os : List (Object ℕ)) → os ≡ x ∷ (f ∷ []) → variable_name sy x ≡ None → made_of sy WithLocal os ≡ None
  local_no_name x f os e n = local_split x f os e ∙ ap (λ v. local_from v (option_and_then (mv_let_parts sy) (written_mv_let sy f))) n

  no_local : (v : Option ℕ) → local_from v None ≡ None
  no_local None = refl
  no_local (Some v) = refl

  pub local_no_form : (x f : Object ℕ) (os : List (Object ℕ)) → os ≡ x ∷ (f ∷ []) → written_mv_let sy f ≡ None → made_of sy WithLocal os ≡ None
  local_no_form x f os e n = local_split x f os e ∙ (ap (λ w. local_from (variable_name sy x) (option_and_then (mv_let_parts sy) w)) n ∙ no_local (variable_name sy x))

  pub local_no_parts : (x f : Object ℕ) (os ws : List (Object ℕ)) → os ≡ x ∷ (f ∷ []) → written_mv_let sy f ≡ Some ws → mv_let_parts sy ws ≡ None → made_of sy WithLocal os ≡ None
  local_no_parts x f os ws e n m =
      local_split x f os e
      ∙ (ap (λ w. local_from (variable_name sy x) (option_and_then (mv_let_parts sy) w)) n ∙ (ap (local_from (variable_name sy x)) m ∙ no_local (variable_name sy x)))

  pub local_is : (x f g b : Object ℕ) (s : ℕ) (ns : List ℕ) (os ws : List (Object ℕ)) → os ≡ x ∷ (f ∷ []) → variable_name sy x ≡ Some s → written_mv_let sy f ≡ Some ws
      → mv_let_parts sy ws ≡ Some (ns, g, b) → made_of sy WithLocal os ≡ Some (node (WithLocalNode s ns) (Form g ∷ Form b ∷ []))
  local_is x f g b s ns os ws e v n m =
      local_split x f os e
      ∙ (ap (λ w. local_from (variable_name sy x) (option_and_then (mv_let_parts sy) w)) n ∙ (ap (local_from (variable_name sy x)) m ∙ ap (λ v. local_from v (Some (ns, g, b))) v))

  -- ---- STOBJ-LET

  pub stobj_none : (os : List (Object ℕ)) → only_four os ≡ None → made_of sy StobjLet os ≡ None
  unfolding made_of
  stobj_none [] e = refl
  stobj_none (a ∷ []) e = refl
  stobj_none (a ∷ (b ∷ [])) e = refl
  stobj_none (a ∷ (b ∷ (c ∷ []))) e = refl
  stobj_none (a ∷ (b ∷ (c ∷ (d ∷ [])))) e = cc
  stobj_none (a ∷ (b ∷ (c ∷ (d ∷ (f ∷ os))))) e = refl

  abbrev stobj_from : Option (List (ℕ × Object ℕ)) → Option (List ℕ) → Object ℕ → Object ℕ → Option Made
  stobj_from bs vs p c = option_and_then (λ bs. option_and_then (λ vars. stobj_let_of sy bs vars p c) vs) bs

  stobj_split : (bs vs p c : Object ℕ) (os : List (Object ℕ)) → os ≡ bs ∷ (vs ∷ (p ∷ (c ∷ []))) → made_of sy StobjLet os ≡ stobj_from (bindings sy bs) (variables sy vs) p c
  unfolding made_of
  stobj_split bs vs p c os e = ap (made_of sy StobjLet) e

  pub stobj_no_bindings : (bs vs p c : Object ℕ) (os : List (Object ℕ)) → os ≡ bs ∷ (vs ∷ (p ∷ (c ∷ []))) → bindings sy bs ≡ None → made_of sy StobjLet os ≡ None
  stobj_no_bindings bs vs p c os e n = stobj_split bs vs p c os e ∙ ap (λ x. stobj_from x (variables sy vs) p c) n

  pub stobj_no_vars : (bs vs p c : Object ℕ) (os : List (Object ℕ)) (all : List (ℕ × Object ℕ)) → os ≡ bs ∷ (vs ∷ (p ∷ (c ∷ []))) → bindings sy bs ≡ Some all → variables sy vs ≡ None
      → made_of sy StobjLet os ≡ None
  stobj_no_vars bs vs p c os all e n m = stobj_split bs vs p c os e ∙ (ap (λ x. stobj_from x (variables sy vs) p c) n ∙ ap (λ x. stobj_from (Some all) x p c) m)

  pub stobj_is : (bs vs p c : Object ℕ) (os : List (Object ℕ)) (all : List (ℕ × Object ℕ)) (ns : List ℕ) → os ≡ bs ∷ (vs ∷ (p ∷ (c ∷ []))) → bindings sy bs ≡ Some all → variables sy vs ≡ Some ns
      → made_of sy StobjLet os ≡ stobj_let_of sy all ns p c
  stobj_is bs vs p c os all ns e n m = stobj_split bs vs p c os e ∙ (ap (λ x. stobj_from x (variables sy vs) p c) n ∙ ap (λ x. stobj_from (Some all) x p c) m)
