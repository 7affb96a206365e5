-- The scope of a function's formals, and what stands there.
use Rattle.std.proofs.Common.{◌≡◌, ℕ, List, [], ◌∷◌, map, Bool, true, false, Option, Some, None, refl, sym, ap, ◌∙◌, subst}
use Rattle.std.specs.Prelude.{◌||◌, nat_eq, if◌then◌else◌}
use Rattle.std.specs.Option.{option_or}
use Rattle.std.specs.List.{zip}
use Rattle.std.proofs.lemmas.Bool.{eqb-true}
use Rattle.model_prims.specs.Kinds.{by_number}
use Rattle.model_lists.specs.Layouts.{Layout}
use Rattle.model_lists.specs.LiveLists.{HasFields}
use Rattle.model_terms.specs.Worlds.{World, Out, Ordinary, Scope}
use Rattle.model_terms.specs.Worlds as worlds
use Rattle.model_terms.specs.Classes as classes
use Rattle.model_terms.specs.Classes.{has, repeats, actual_of, renamed_out}
use Rattle.model_terms.specs.Scopes.{kind_in}
use Rattle.model_eval.specs.Outcomes.{Shown, Plain, StobjNamed, Stobjs}
use Rattle.model_eval.specs.PlacesKeeping.{Place, Store, place_of, list_at}
use Rattle.model_eval.specs.Variables.{list_of, variable_in, inner_variables, actual_for, outer_value}
use Rattle.model_eval_laws.specs.Scope.{names, is_among}
use Rattle.model_eval_laws.proofs.Lists.{same_number}
use Rattle.model_places.specs.Places.{IsPlace, AreApart}
use Rattle.model_accepted.specs.Threaded.{AreFormals, formal_entries, layout_of, Fits}
use Rattle.model_accepted.specs.StobjScopes.{IsStobj, IsOfKind, AreOutputs}
use Rattle.model_in_place.specs.Standing.{Stands}
use Rattle.model_in_place.specs.Calls.{Pairs, pairs_of, names_in, firsts, seconds, actual, lists_for, places_for, ArePairs, AreArguments}
use Rattle.model_accepted.proofs.AcceptLemmas.{false_true, neither}
use Rattle.model_accepted.proofs.ScopeLemmas.{some_same, none_some}
use Rattle.model_in_place.proofs.CallLemmas.{AreKnown, actual_of_is, actual_for_is, actual_injective, list_for, place_for, names_for, pair_object}

-- ---- names of formals

pub firsts_in : (xs : List ℕ) (vs : List (Shown ℕ)) (x : ℕ) → has xs x ≡ false → has (firsts (pairs_of xs vs)) x ≡ false
firsts_in [] vs x h = refl
firsts_in (y ∷ ys) [] x h = refl
firsts_in (y ∷ ys) (Plain o ∷ vs) x h = firsts_in ys vs x (neither (nat_eq x y) (has ys x) h).1
firsts_in (y ∷ ys) (StobjNamed z ∷ vs) x h =
    let parts : (nat_eq x y ≡ false) × (has ys x ≡ false) = neither (nat_eq x y) (has ys x) h in
    rw (parts.0, firsts_in ys vs x parts.1) refl

pub firsts_distinct : (xs : List ℕ) (vs : List (Shown ℕ)) → repeats xs ≡ false → repeats (firsts (pairs_of xs vs)) ≡ false
firsts_distinct [] vs h = refl
firsts_distinct (y ∷ ys) [] h = refl
firsts_distinct (y ∷ ys) (Plain o ∷ vs) h = firsts_distinct ys vs (neither (has ys y) (repeats ys) h).1
firsts_distinct (y ∷ ys) (StobjNamed z ∷ vs) h =
    let parts : (has ys y ≡ false) × (repeats ys ≡ false) = neither (has ys y) (repeats ys) h in
    rw (firsts_in ys vs y parts.0, firsts_distinct ys vs parts.1) refl

kind_missing : (xs : List ℕ) (ks : List Out) (x : ℕ) → has xs x ≡ false → kind_in (formal_entries xs ks) x ≡ None
kind_missing [] ks x h = refl
kind_missing (y ∷ ys) [] x h = refl
kind_missing (y ∷ ys) (k ∷ ks) x h =
    let parts : (nat_eq x y ≡ false) × (has ys x ≡ false) = neither (nat_eq x y) (has ys x) h in
    rw (parts.0, kind_missing ys ks x parts.1) refl

-- ---- arguments

module _ (w : World) (scope : Scope) where
  pub pairs_are : (xs : List ℕ) (ks : List Out) (vs : List (Shown ℕ)) → AreFormals xs ks → AreArguments w scope ks vs → ArePairs w scope (pairs_of xs vs)
  pairs_are [] ks vs f a = tt
  pairs_are (x ∷ xs) [] vs f a = absurd f
  pairs_are (x ∷ xs) (k ∷ ks) [] f a = absurd a
  pairs_are (x ∷ xs) (Ordinary ∷ ks) (Plain o ∷ vs) f a = pairs_are xs ks vs f a.1
  pairs_are (x ∷ xs) (Ordinary ∷ ks) (StobjNamed y ∷ vs) f a = absurd a.0
  pairs_are (x ∷ xs) (worlds.Stobj z ∷ ks) (Plain o ∷ vs) f a = absurd a.0
  pairs_are (x ∷ xs) (worlds.Stobj z ∷ ks) (StobjNamed y ∷ vs) f a = (a.0.0, ap (layout_of w) (sym f.0) ∙ a.0.1, pairs_are xs ks vs f.1 a.1)

  pub seconds_are : (xs : List ℕ) (ks : List Out) (vs : List (Shown ℕ)) → AreFormals xs ks → AreArguments w scope ks vs → seconds (pairs_of xs vs) ≡ names_in vs
  seconds_are [] [] [] f a = refl
  seconds_are [] [] (v ∷ vs) f a = absurd a
  seconds_are [] (k ∷ ks) vs f a = absurd f
  seconds_are (x ∷ xs) [] vs f a = absurd f
  seconds_are (x ∷ xs) (k ∷ ks) [] f a = absurd a
  seconds_are (x ∷ xs) (Ordinary ∷ ks) (Plain o ∷ vs) f a = seconds_are xs ks vs f a.1
  seconds_are (x ∷ xs) (Ordinary ∷ ks) (StobjNamed y ∷ vs) f a = absurd a.0
  seconds_are (x ∷ xs) (worlds.Stobj z ∷ ks) (Plain o ∷ vs) f a = absurd a.0
  seconds_are (x ∷ xs) (worlds.Stobj z ∷ ks) (StobjNamed y ∷ vs) f a = ap (λ (ns : List ℕ). y ∷ ns) (seconds_are xs ks vs f.1 a.1)

  pub zip_is : (xs : List ℕ) (ks : List Out) (vs : List (Shown ℕ)) → AreFormals xs ks → AreArguments w scope ks vs → zip (classes.stobjs ks) (names_in vs) ≡ pairs_of xs vs
  zip_is [] [] [] f a = refl
  zip_is [] [] (v ∷ vs) f a = absurd a
  zip_is [] (k ∷ ks) vs f a = absurd f
  zip_is (x ∷ xs) [] vs f a = absurd f
  zip_is (x ∷ xs) (k ∷ ks) [] f a = absurd a
  zip_is (x ∷ xs) (Ordinary ∷ ks) (Plain o ∷ vs) f a = zip_is xs ks vs f a.1
  zip_is (x ∷ xs) (Ordinary ∷ ks) (StobjNamed y ∷ vs) f a = absurd a.0
  zip_is (x ∷ xs) (worlds.Stobj z ∷ ks) (Plain o ∷ vs) f a = absurd a.0
  zip_is (x ∷ xs) (worlds.Stobj z ∷ ks) (StobjNamed y ∷ vs) f a = rw (f.0, zip_is xs ks vs f.1 a.1) refl

  pub formal_first : (xs : List ℕ) (ks : List Out) (vs : List (Shown ℕ)) (x : ℕ) → AreFormals xs ks → AreArguments w scope ks vs → IsStobj (formal_entries xs ks) x → has (firsts (pairs_of xs vs)) x ≡ true
  formal_first [] ks vs x f a h = none_some h
  formal_first (y ∷ ys) [] vs x f a h = absurd f
  formal_first (y ∷ ys) (k ∷ ks) [] x f a h = absurd a
  formal_first (y ∷ ys) (Ordinary ∷ ks) (Plain o ∷ vs) x f a h = go (kind_in (formal_entries ys ks) x) (nat_eq x y) h (formal_first ys ks vs x f a.1)
    where
      go : (k : Option Out) (b : Bool) → option_or k (if b then Some Ordinary else None) ≡ Some (worlds.Stobj x) → (k ≡ Some (worlds.Stobj x) → has (firsts (pairs_of ys vs)) x ≡ true)
          → has (firsts (pairs_of ys vs)) x ≡ true
      go (Some k) b e i = i e
      go None true e i = cc
      go None false e i = none_some e
  formal_first (y ∷ ys) (Ordinary ∷ ks) (StobjNamed z ∷ vs) x f a h = absurd a.0
  formal_first (y ∷ ys) (worlds.Stobj q ∷ ks) (Plain o ∷ vs) x f a h = absurd a.0
  formal_first (y ∷ ys) (worlds.Stobj q ∷ ks) (StobjNamed z ∷ vs) x f a h = go (kind_in (formal_entries ys ks) x) (nat_eq x y) h (formal_first ys ks vs x f.1 a.1)
    where
      go : (k : Option Out) (b : Bool) → option_or k (if b then Some (worlds.Stobj q) else None) ≡ Some (worlds.Stobj x) → (k ≡ Some (worlds.Stobj x) → has (firsts (pairs_of ys vs)) x ≡ true)
          → (b || has (firsts (pairs_of ys vs)) x) ≡ true
      go k true e i = refl
      go (Some k) false e i = i e
      go None false e i = none_some e

  pub formal_variables : (xs : List ℕ) (ks : List Out) (vs : List (Shown ℕ)) → AreFormals xs ks → repeats xs ≡ false → AreArguments w scope ks vs → (x : ℕ) (m : Out) → kind_in (formal_entries xs ks) x ≡ Some m
      → IsOfKind x m (variable_in by_number (inner_variables xs vs) x)
  formal_variables [] ks vs f r a x m h = none_some h
  formal_variables (y ∷ ys) [] vs f r a x m h = absurd f
  formal_variables (y ∷ ys) (k ∷ ks) [] f r a x m h = absurd a
  formal_variables (y ∷ ys) (Ordinary ∷ ks) (Plain o ∷ vs) f r a x m h =
      let parts : (has ys y ≡ false) × (repeats ys ≡ false) = neither (has ys y) (repeats ys) r in
      go (nat_eq x y) refl parts.0 h (formal_variables ys ks vs f parts.1 a.1 x m)
    where
      go : (b : Bool) → nat_eq x y ≡ b → has ys y ≡ false → option_or (kind_in (formal_entries ys ks) x) (if b then Some Ordinary else None) ≡ Some m
          → (kind_in (formal_entries ys ks) x ≡ Some m → IsOfKind x m (variable_in by_number (inner_variables ys vs) x))
          → IsOfKind x m (if b then Plain o else variable_in by_number (inner_variables ys vs) x)
      go true e d g i =
          subst (λ (k : Out). IsOfKind x k (Plain o))
          (some_same (sym (ap (λ (k : Option Out). option_or k (Some Ordinary)) (kind_missing ys ks x (ap (has ys) (eqb-true x y e) ∙ d))) ∙ g)) tt
      go false e d g i = i (nothing_more (kind_in (formal_entries ys ks) x) ∙ g)
        where
          nothing_more : (k : Option Out) → k ≡ option_or k None
          nothing_more None = refl
          nothing_more (Some k) = refl
  formal_variables (y ∷ ys) (Ordinary ∷ ks) (StobjNamed z ∷ vs) f r a x m h = absurd a.0
  formal_variables (y ∷ ys) (worlds.Stobj q ∷ ks) (Plain o ∷ vs) f r a x m h = absurd a.0
  formal_variables (y ∷ ys) (worlds.Stobj q ∷ ks) (StobjNamed z ∷ vs) f r a x m h =
      let parts : (has ys y ≡ false) × (repeats ys ≡ false) = neither (has ys y) (repeats ys) r in
      go (nat_eq x y) refl parts.0 h (formal_variables ys ks vs f.1 parts.1 a.1 x m)
    where
      go : (b : Bool) → nat_eq x y ≡ b → has ys y ≡ false → option_or (kind_in (formal_entries ys ks) x) (if b then Some (worlds.Stobj q) else None) ≡ Some m
          → (kind_in (formal_entries ys ks) x ≡ Some m → IsOfKind x m (variable_in by_number (inner_variables ys vs) x))
          → IsOfKind x m (if b then StobjNamed y else variable_in by_number (inner_variables ys vs) x)
      go true e d g i =
          subst (λ (k : Out). IsOfKind x k (StobjNamed y))
          (some_same (sym (ap (λ (k : Option Out). option_or k (Some (worlds.Stobj q))) (kind_missing ys ks x (ap (has ys) (eqb-true x y e) ∙ d))) ∙ g))
          (f.0 ∙ sym (eqb-true x y e), ap StobjNamed (sym (eqb-true x y e)))
      go false e d g i = i (nothing_more (kind_in (formal_entries ys ks) x) ∙ g)
        where
          nothing_more : (k : Option Out) → k ≡ option_or k None
          nothing_more None = refl
          nothing_more (Some k) = refl

  -- ---- what stands in a call

  pub stands_inside : (xs : List ℕ) (ks : List Out) (vs : List (Shown ℕ)) (stobjs : Stobjs ℕ) (store : Store ℕ)
      → AreFormals xs ks → AreArguments w scope ks vs → repeats (names_in vs) ≡ false → Stands w scope stobjs store
      → Stands w (formal_entries xs ks) (lists_for (pairs_of xs vs) stobjs) (record store { scope = places_for (pairs_of xs vs) store.scope })
  stands_inside xs ks vs stobjs store f a r stands =
      let ps : Pairs = pairs_of xs vs in
      let first : ((x : ℕ) → IsStobj (formal_entries xs ks) x → has (firsts ps) x ≡ true) = λ x h. formal_first xs ks vs x f a h in
      let out : ((x : ℕ) → IsStobj (formal_entries xs ks) x → IsStobj scope (actual ps x) × (layout_of w x ≡ layout_of w (actual ps x)))
      = λ x h. pair_object w scope ps x (pairs_are xs ks vs f a) (first x h) in
      record {
        same = λ x h.
            list_for ps stobjs x (first x h)
            ∙ (stands.same (actual ps x) (out x h).0 ∙ ap (list_at store.roots) (sym (place_for ps store.scope x (first x h))));
        known = λ x h. among (firsts ps) (names (lists_for ps stobjs)) x (names_for ps stobjs) (first x h);
        places = λ x h. subst (IsPlace store.roots) (sym (place_for ps store.scope x (first x h))) (stands.places (actual ps x) (out x h).0);
        apart = λ x y h i d.
            subst (λ (p : Place). AreApart p (place_of (places_for ps store.scope) y)) (sym (place_for ps store.scope x (first x h)))
            (subst (AreApart (place_of store.scope (actual ps x))) (sym (place_for ps store.scope y (first y i)))
            (stands.apart (actual ps x) (actual ps y) (out x h).0 (out y i).0
            (actual_injective ps x y (ap repeats (seconds_are xs ks vs f a) ∙ r) (first x h) (first y i) d)));
        fits = λ x h.
            subst (Fits w x) (sym (list_for ps stobjs x (first x h)))
            (subst (λ (l : Layout ℕ). HasFields l (list_of stobjs (actual ps x))) (sym (out x h).1) (stands.fits (actual ps x) (out x h).0));
      }
    where
      among : (ns ms : List ℕ) (x : ℕ) → ms ≡ ns → has ns x ≡ true → is_among x ms ≡ true
      among ns ms x e h = rw e h

  pub known_inside : (xs : List ℕ) (ks : List Out) (vs : List (Shown ℕ)) (stobjs : Stobjs ℕ) (store : Store ℕ)
      → AreFormals xs ks → AreArguments w scope ks vs → Stands w scope stobjs store → AreKnown (pairs_of xs vs) stobjs
  known_inside xs ks vs stobjs store f a stands x h =
      stands.known (actual (pairs_of xs vs) x) (pair_object w scope (pairs_of xs vs) x (pairs_are xs ks vs f a) h).0

  -- ---- what comes out of a call

  -- the outputs of a function with these formals, at these arguments
  pub outputs_back : (xs : List ℕ) (ks : List Out) (vs : List (Shown ℕ)) (outs : List Out) (values : List (Shown ℕ)) → AreFormals xs ks → AreArguments w scope ks vs
      → AreOutputs (formal_entries xs ks) outs values → AreOutputs scope (map (renamed_out (pairs_of xs vs)) outs) (map (outer_value xs vs) values)
  outputs_back xs ks vs [] [] f a h = tt
  outputs_back xs ks vs [] (v ∷ values) f a h = absurd h
  outputs_back xs ks vs (k ∷ outs) [] f a h = absurd h
  outputs_back xs ks vs (Ordinary ∷ outs) (Plain o ∷ values) f a h = (tt, outputs_back xs ks vs outs values f a h.1)
  outputs_back xs ks vs (Ordinary ∷ outs) (StobjNamed y ∷ values) f a h = absurd h.0
  outputs_back xs ks vs (worlds.Stobj x ∷ outs) (Plain o ∷ values) f a h = absurd h.0
  outputs_back xs ks vs (worlds.Stobj x ∷ outs) (StobjNamed y ∷ values) f a h = (
    (
      ap (actual_for xs vs) h.0.0 ∙ (actual_for_is xs vs x ∙ sym (actual_of_is (pairs_of xs vs) x)),
      subst (IsStobj scope) (sym (actual_of_is (pairs_of xs vs) x)) (pair_object w scope (pairs_of xs vs) x (pairs_are xs ks vs f a) (formal_first xs ks vs x f a h.0.1)).0,
    ),
    outputs_back xs ks vs outs values f a h.1,
  )

pub objects_renamed : (ps : Pairs) (outs : List Out) (x : ℕ) → has (classes.stobjs outs) x ≡ true → has (classes.stobjs (map (renamed_out ps) outs)) (actual ps x) ≡ true
objects_renamed ps [] x h = false_true h
objects_renamed ps (Ordinary ∷ outs) x h = objects_renamed ps outs x h
objects_renamed ps (worlds.Stobj y ∷ outs) x h = go (nat_eq x y) refl h (objects_renamed ps outs x)
  where
    go : (b : Bool) → nat_eq x y ≡ b → (b || has (classes.stobjs outs) x) ≡ true
        → (has (classes.stobjs outs) x ≡ true → has (classes.stobjs (map (renamed_out ps) outs)) (actual ps x) ≡ true)
        → (nat_eq (actual ps x) (actual_of ps y) || has (classes.stobjs (map (renamed_out ps) outs)) (actual ps x)) ≡ true
    go true e g i = ap (λ (b : Bool). b || has (classes.stobjs (map (renamed_out ps) outs)) (actual ps x)) (ap (nat_eq (actual ps x)) (actual_of_is ps y ∙ ap (actual ps) (sym (eqb-true x y e))) ∙ same_number (actual ps x))
    go false e g i = later (nat_eq (actual ps x) (actual_of ps y)) (i g)
      where
        later : (b : Bool) → has (classes.stobjs (map (renamed_out ps) outs)) (actual ps x) ≡ true → (b || has (classes.stobjs (map (renamed_out ps) outs)) (actual ps x)) ≡ true
        later true j = refl
        later false j = j
