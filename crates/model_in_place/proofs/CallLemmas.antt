-- What a call hands over, and what comes back.
use Rattle.std.proofs.Common.{◌≡◌, ℕ, List, [], ◌∷◌, Bool, true, false, Some, refl, sym, ap, ◌∙◌, subst, inl, inr}
use Rattle.std.specs.Prelude.{◌≢◌, ◌⊎◌, ◌||◌, nat_eq, unwrap_or, if◌then◌else◌}
use Rattle.std.specs.Map.{lookup}
use Rattle.std.proofs.lemmas.Bool.{eqb-true}
use Rattle.model_lists.specs.Lists.{StobjList}
use Rattle.model_lists.specs.Layouts.{Layout}
use Rattle.model_lists.specs.LiveLists.{HasFields}
use Rattle.model_terms.specs.Worlds.{World, Scope}
use Rattle.model_terms.specs.Classes.{has, repeats, actual_of}
use Rattle.model_eval.specs.Outcomes.{Shown, Plain, StobjNamed, Stobjs}
use Rattle.model_eval.specs.PlacesKeeping.{Place, Places, place_of, inner_places, with_list_at}
use Rattle.model_eval.specs.Variables.{list_of, with_list, inner_stobjs, handed_back, actual_for}
use Rattle.model_eval_laws.specs.Scope.{names, is_among}
use Rattle.model_eval_laws.proofs.Lists.{same_number, names_write}
use Rattle.model_accepted.specs.Threaded.{layout_of}
use Rattle.model_accepted.specs.StobjScopes.{IsStobj}
use Rattle.model_in_place.specs.Writes.{Write, stobjs_after, roots_after, AreWrites}
use Rattle.model_in_place.specs.Calls.{Pairs, pairs_of, firsts, seconds, actual, lists_for, places_for, lists_back, writes_out, ArePairs}
use Rattle.model_accepted.proofs.AcceptLemmas.{false_true, true_false, neither}
use Rattle.model_in_place.proofs.ObjectLemmas.{not_equal, list_written, list_other, written_twice, written_same, written_commutes}

-- ---- by pairs

pub inner_objects_are : (xs : List ℕ) (vs : List (Shown ℕ)) (os : Stobjs ℕ) → inner_stobjs xs vs os ≡ lists_for (pairs_of xs vs) os
inner_objects_are [] vs os = refl
inner_objects_are (x ∷ xs) [] os = refl
inner_objects_are (x ∷ xs) (Plain o ∷ vs) os = inner_objects_are xs vs os
inner_objects_are (x ∷ xs) (StobjNamed y ∷ vs) os = ap (λ (ps : Stobjs ℕ). (x, list_of os y) ∷ ps) (inner_objects_are xs vs os)

pub inner_places_are : (xs : List ℕ) (vs : List (Shown ℕ)) (scope : Places) → inner_places xs vs scope ≡ places_for (pairs_of xs vs) scope
inner_places_are [] vs scope = refl
inner_places_are (x ∷ xs) [] scope = refl
inner_places_are (x ∷ xs) (Plain o ∷ vs) scope = inner_places_are xs vs scope
inner_places_are (x ∷ xs) (StobjNamed y ∷ vs) scope = ap (λ (ps : Places). (x, place_of scope y) ∷ ps) (inner_places_are xs vs scope)

pub handed_back_is : (xs : List ℕ) (vs : List (Shown ℕ)) (inner os : Stobjs ℕ) → handed_back xs vs inner os ≡ lists_back (pairs_of xs vs) inner os
handed_back_is [] vs inner os = refl
handed_back_is (x ∷ xs) [] inner os = refl
handed_back_is (x ∷ xs) (Plain o ∷ vs) inner os = handed_back_is xs vs inner os
handed_back_is (x ∷ xs) (StobjNamed y ∷ vs) inner os = handed_back_is xs vs inner (with_list y (list_of inner x) os)

pub actual_for_is : (xs : List ℕ) (vs : List (Shown ℕ)) (x : ℕ) → actual_for xs vs x ≡ actual (pairs_of xs vs) x
actual_for_is [] vs x = refl
actual_for_is (y ∷ ys) [] x = refl
actual_for_is (y ∷ ys) (Plain o ∷ vs) x = actual_for_is ys vs x
actual_for_is (y ∷ ys) (StobjNamed z ∷ vs) x = ap (λ (n : ℕ). if nat_eq x y then z else n) (actual_for_is ys vs x)

pub actual_of_is : (ps : Pairs) (x : ℕ) → actual_of ps x ≡ actual ps x
actual_of_is [] x = refl
actual_of_is (p ∷ ps) x = go (nat_eq x p.0) (actual_of_is ps x)
  where
    go : (b : Bool) → unwrap_or (lookup (nat_eq x) ps) x ≡ actual ps x → unwrap_or (if b then Some p.1 else lookup (nat_eq x) ps) x ≡ (if b then p.1 else actual ps x)
    go true i = refl
    go false i = i

-- ---- one formal

either_has : (b c : Bool) → (b || c) ≡ true → (b ≡ true) ⊎ (c ≡ true)
either_has true c e = inl refl
either_has false c e = inr e

pub actual_among : (ps : Pairs) (x : ℕ) → has (firsts ps) x ≡ true → has (seconds ps) (actual ps x) ≡ true
actual_among [] x h = false_true h
actual_among (p ∷ ps) x h = go (nat_eq x p.0) h (actual_among ps x)
  where
    go : (b : Bool) → (b || has (firsts ps) x) ≡ true → (has (firsts ps) x ≡ true → has (seconds ps) (actual ps x) ≡ true) → has (seconds (p ∷ ps)) (if b then p.1 else actual ps x) ≡ true
    go true e i = rw (same_number p.1) refl
    go false e i = later (nat_eq (actual ps x) p.1) (i e)
      where
        later : (b : Bool) → has (seconds ps) (actual ps x) ≡ true → (b || has (seconds ps) (actual ps x)) ≡ true
        later true f = refl
        later false f = f

pub differs : (xs : List ℕ) (x y : ℕ) → has xs x ≡ true → has xs y ≡ false → x ≢ y
differs xs x y h i e = true_false (sym h ∙ (ap (has xs) e ∙ i))

pub actual_injective : (ps : Pairs) (x y : ℕ) → repeats (seconds ps) ≡ false → has (firsts ps) x ≡ true → has (firsts ps) y ≡ true → x ≢ y → actual ps x ≢ actual ps y
actual_injective [] x y r h i d = false_true h
actual_injective (p ∷ ps) x y r h i d =
    let apart : (has (seconds ps) p.1 ≡ false) × (repeats (seconds ps) ≡ false) = neither (has (seconds ps) p.1) (repeats (seconds ps)) r in
    go (nat_eq x p.0) refl (nat_eq y p.0) refl h i apart.0 (actual_injective ps x y apart.1)
  where
    go : (a : Bool) → nat_eq x p.0 ≡ a → (b : Bool) → nat_eq y p.0 ≡ b → (a || has (firsts ps) x) ≡ true → (b || has (firsts ps) y) ≡ true → has (seconds ps) p.1 ≡ false
        → (has (firsts ps) x ≡ true → has (firsts ps) y ≡ true → x ≢ y → actual ps x ≢ actual ps y)
        → (if a then p.1 else actual ps x) ≢ (if b then p.1 else actual ps y)
    go true e true f g j q later = λ k. d (eqb-true x p.0 e ∙ sym (eqb-true y p.0 f))
    go true e false f g j q later = λ k. differs (seconds ps) (actual ps y) p.1 (actual_among ps y j) q (sym k)
    go false e true f g j q later = λ k. differs (seconds ps) (actual ps x) p.1 (actual_among ps x g) q k
    go false e false f g j q later = later g j d

pub list_for : (ps : Pairs) (os : Stobjs ℕ) (x : ℕ) → has (firsts ps) x ≡ true → list_of (lists_for ps os) x ≡ list_of os (actual ps x)
list_for [] os x h = false_true h
list_for (p ∷ ps) os x h = go (nat_eq x p.0) h (list_for ps os x)
  where
    go : (b : Bool) → (b || has (firsts ps) x) ≡ true → (has (firsts ps) x ≡ true → list_of (lists_for ps os) x ≡ list_of os (actual ps x))
        → (if b then list_of os p.1 else list_of (lists_for ps os) x) ≡ list_of os (if b then p.1 else actual ps x)
    go true e i = refl
    go false e i = i e

pub place_for : (ps : Pairs) (scope : Places) (x : ℕ) → has (firsts ps) x ≡ true → place_of (places_for ps scope) x ≡ place_of scope (actual ps x)
place_for [] scope x h = false_true h
place_for (p ∷ ps) scope x h = go (nat_eq x p.0) h (place_for ps scope x)
  where
    go : (b : Bool) → (b || has (firsts ps) x) ≡ true → (has (firsts ps) x ≡ true → place_of (places_for ps scope) x ≡ place_of scope (actual ps x))
        → (if b then place_of scope p.1 else place_of (places_for ps scope) x) ≡ place_of scope (if b then p.1 else actual ps x)
    go true e i = refl
    go false e i = i e

pub names_for : (ps : Pairs) (os : Stobjs ℕ) → names (lists_for ps os) ≡ firsts ps
names_for [] os = refl
names_for (p ∷ ps) os = ap (λ (ns : List ℕ). p.0 ∷ ns) (names_for ps os)

module _ (w : World) (scope : Scope) where
  pub pair_object : (ps : Pairs) (x : ℕ) → ArePairs w scope ps → has (firsts ps) x ≡ true → IsStobj scope (actual ps x) × (layout_of w x ≡ layout_of w (actual ps x))
  pair_object [] x a h = false_true h
  pair_object (p ∷ ps) x a h = go (nat_eq x p.0) refl h (pair_object ps x a.2)
    where
      go : (b : Bool) → nat_eq x p.0 ≡ b → (b || has (firsts ps) x) ≡ true → (has (firsts ps) x ≡ true → IsStobj scope (actual ps x) × (layout_of w x ≡ layout_of w (actual ps x)))
          → IsStobj scope (if b then p.1 else actual ps x) × (layout_of w x ≡ layout_of w (if b then p.1 else actual ps x))
      go true e f i = (a.0, ap (layout_of w) (eqb-true x p.0 e) ∙ a.1)
      go false e f i = i f

-- ---- what comes back

pub lists_for_other : (ps : Pairs) (y : ℕ) (l : StobjList ℕ) (os : Stobjs ℕ) → has (seconds ps) y ≡ false → lists_for ps (with_list y l os) ≡ lists_for ps os
lists_for_other [] y l os h = refl
lists_for_other (p ∷ ps) y l os h =
    let apart : (nat_eq y p.1 ≡ false) × (has (seconds ps) y ≡ false) = neither (nat_eq y p.1) (has (seconds ps) y) h in
    rw (list_other p.1 y l os (λ e. true_false (sym (same_number y) ∙ (ap (nat_eq y) (sym e) ∙ apart.0))), lists_for_other ps y l os apart.1) refl

-- a write to a formal is a write to its actual
pub write_for : (ps : Pairs) (x : ℕ) (l : StobjList ℕ) (os : Stobjs ℕ) → repeats (seconds ps) ≡ false → has (firsts ps) x ≡ true → is_among (actual ps x) (names os) ≡ true
    → with_list x l (lists_for ps os) ≡ lists_for ps (with_list (actual ps x) l os)
write_for [] x l os r h k = false_true h
write_for (p ∷ ps) x l os r h k =
    let apart : (has (seconds ps) p.1 ≡ false) × (repeats (seconds ps) ≡ false) = neither (has (seconds ps) p.1) (repeats (seconds ps)) r in
    go (nat_eq x p.0) h k apart.0 (write_for ps x l os apart.1)
  where
    go : (b : Bool) → (b || has (firsts ps) x) ≡ true → is_among (if b then p.1 else actual ps x) (names os) ≡ true → has (seconds ps) p.1 ≡ false
        → (has (firsts ps) x ≡ true → is_among (actual ps x) (names os) ≡ true → with_list x l (lists_for ps os) ≡ lists_for ps (with_list (actual ps x) l os))
        → (if b then (p.0, l) ∷ lists_for ps os else (p.0, list_of os p.1) ∷ with_list x l (lists_for ps os)) ≡ lists_for (p ∷ ps) (with_list (if b then p.1 else actual ps x) l os)
    go true e m q i = rw (list_written p.1 l os m, lists_for_other ps p.1 l os q) refl
    go false e m q i =
        rw (i e m, list_other p.1 (actual ps x) l os (λ f. differs (seconds ps) (actual ps x) p.1 (actual_among ps x e) q (sym f))) refl

-- names stay known
pub names_after : (us : List Write) (os : Stobjs ℕ) → names (stobjs_after us os) ≡ names os
names_after [] os = refl
names_after (u ∷ us) os = names_after us (with_list u.0 u.1 os) ∙ names_write u.0 u.1 os

-- the actuals are known
abbrev pub AreKnown : Pairs → Stobjs ℕ → Type 0
AreKnown ps os = (x : ℕ) → has (firsts ps) x ≡ true → is_among (actual ps x) (names os) ≡ true

known_written : (ps : Pairs) (x : ℕ) (l : StobjList ℕ) (os : Stobjs ℕ) → AreKnown ps os → AreKnown ps (with_list x l os)
known_written ps x l os k y h = ap (is_among (actual ps y)) (names_write x l os) ∙ k y h

pub writes_for : (w : World) (ps : Pairs) (us : List Write) (os : Stobjs ℕ) → repeats (seconds ps) ≡ false → AreWrites w (λ x. has (firsts ps) x ≡ true) us → AreKnown ps os
    → stobjs_after us (lists_for ps os) ≡ lists_for ps (stobjs_after (writes_out ps us) os)
writes_for w ps [] os r a k = refl
writes_for w ps (u ∷ us) os r a k =
    ap (stobjs_after us) (write_for ps u.0 u.1 os r a.0 (k u.0 a.0))
    ∙ writes_for w ps us (with_list (actual ps u.0) u.1 os) r a.2 (known_written ps (actual ps u.0) u.1 os k)

-- the pair is one of these
abbrev pub Among : Pairs → ℕ → ℕ → Type 0
Among [] x y = ⊥
Among (p ∷ ps) x y = ((x ≡ p.0) × (y ≡ p.1)) ⊎ Among ps x y

among_first : (ps : Pairs) (x y : ℕ) → Among ps x y → has (firsts ps) x ≡ true
among_first [] x y a = absurd a
among_first (p ∷ ps) x y (inl e) = rw (e.0, same_number p.0) refl
among_first (p ∷ ps) x y (inr a) = go (nat_eq x p.0) (among_first ps x y a)
  where
    go : (b : Bool) → has (firsts ps) x ≡ true → (b || has (firsts ps) x) ≡ true
    go true e = refl
    go false e = e

among_second : (ps : Pairs) (x y : ℕ) → Among ps x y → has (seconds ps) y ≡ true
among_second [] x y a = absurd a
among_second (p ∷ ps) x y (inl e) = rw (e.1, same_number p.1) refl
among_second (p ∷ ps) x y (inr a) = go (nat_eq y p.1) (among_second ps x y a)
  where
    go : (b : Bool) → has (seconds ps) y ≡ true → (b || has (seconds ps) y) ≡ true
    go true e = refl
    go false e = e

among_actual : (ps : Pairs) (x y : ℕ) → repeats (firsts ps) ≡ false → Among ps x y → actual ps x ≡ y
among_actual [] x y r a = absurd a
among_actual (p ∷ ps) x y r (inl e) = rw (e.0, same_number p.0) (sym e.1)
among_actual (p ∷ ps) x y r (inr a) =
    let apart : (has (firsts ps) p.0 ≡ false) × (repeats (firsts ps) ≡ false) = neither (has (firsts ps) p.0) (repeats (firsts ps)) r in
    rw (not_equal x p.0 (differs (firsts ps) x p.0 (among_first ps x y a) apart.0)) (among_actual ps x y apart.1 a)

-- what was handed over and is handed back unchanged
back_same : (qs : Pairs) (inner os : Stobjs ℕ) → ((x : ℕ) (y : ℕ) → Among qs x y → list_of inner x ≡ list_of os y) → lists_back qs inner os ≡ os
back_same [] inner os h = refl
back_same (q ∷ qs) inner os h =
    ap (lists_back qs inner) (ap (λ (l : StobjList ℕ). with_list q.1 l os) (h q.0 q.1 (inl (refl, refl))) ∙ written_same q.1 os)
    ∙ back_same qs inner os (λ x y a. h x y (inr a))

-- a list that is handed back is not read before
back_over : (qs : Pairs) (inner os : Stobjs ℕ) (y : ℕ) (l : StobjList ℕ) → has (seconds qs) y ≡ true → lists_back qs inner (with_list y l os) ≡ lists_back qs inner os
back_over [] inner os y l h = false_true h
back_over (q ∷ qs) inner os y l h = go (nat_eq y q.1) refl h (back_over qs inner (with_list q.1 (list_of inner q.0) os) y l)
  where
    go : (b : Bool) → nat_eq y q.1 ≡ b → (b || has (seconds qs) y) ≡ true
        → (has (seconds qs) y ≡ true → lists_back qs inner (with_list y l (with_list q.1 (list_of inner q.0) os)) ≡ lists_back qs inner (with_list q.1 (list_of inner q.0) os))
        → lists_back qs inner (with_list q.1 (list_of inner q.0) (with_list y l os)) ≡ lists_back qs inner (with_list q.1 (list_of inner q.0) os)
    go true e f i = rw (eqb-true y q.1 e) (ap (lists_back qs inner) (written_twice q.1 (list_of inner q.0) l os))
    go false e f i =
        ap (lists_back qs inner) (written_commutes q.1 y (list_of inner q.0) l os (λ g. true_false (sym (same_number y) ∙ (ap (nat_eq y) (sym g) ∙ e)))) ∙ i f

back_unchanged : (ps : Pairs) (os : Stobjs ℕ) → repeats (firsts ps) ≡ false → lists_back ps (lists_for ps os) os ≡ os
back_unchanged ps os r = back_same ps (lists_for ps os) os (λ x y a. list_for ps os x (among_first ps x y a) ∙ ap (list_of os) (among_actual ps x y r a))

back_writes : (w : World) (ps : Pairs) (us : List Write) (os : Stobjs ℕ) → repeats (firsts ps) ≡ false → AreWrites w (λ x. has (firsts ps) x ≡ true) us
    → lists_back ps (lists_for ps (stobjs_after (writes_out ps us) os)) os ≡ stobjs_after (writes_out ps us) os
back_writes w ps [] os r a = back_unchanged ps os r
back_writes w ps (u ∷ us) os r a =
    sym (back_over ps (lists_for ps (stobjs_after (writes_out ps us) (with_list (actual ps u.0) u.1 os))) os (actual ps u.0) u.1 (actual_among ps u.0 a.0))
    ∙ back_writes w ps us (with_list (actual ps u.0) u.1 os) r a.2

-- the caller's stobjs after writes in a call
pub objects_back : (w : World) (ps : Pairs) (us : List Write) (os : Stobjs ℕ) → repeats (firsts ps) ≡ false → repeats (seconds ps) ≡ false → AreWrites w (λ x. has (firsts ps) x ≡ true) us → AreKnown ps os
    → lists_back ps (stobjs_after us (lists_for ps os)) os ≡ stobjs_after (writes_out ps us) os
objects_back w ps us os r q a k = ap (λ (inner : Stobjs ℕ). lists_back ps inner os) (writes_for w ps us os q a k) ∙ back_writes w ps us os r a

pub roots_back : (w : World) (ps : Pairs) (us : List Write) (scope : Places) (roots : List (StobjList ℕ)) → AreWrites w (λ x. has (firsts ps) x ≡ true) us
    → roots_after (places_for ps scope) us roots ≡ roots_after scope (writes_out ps us) roots
roots_back w ps [] scope roots a = refl
roots_back w ps (u ∷ us) scope roots a =
    ap (λ (p : Place). roots_after (places_for ps scope) us (with_list_at p u.1 roots)) (place_for ps scope u.0 a.0)
    ∙ roots_back w ps us scope (with_list_at (place_of scope (actual ps u.0)) u.1 roots) a.2

pub writes_back : (w : World) (scope : Scope) (ps : Pairs) (us : List Write) (May Might : ℕ → Type 0) → ArePairs w scope ps → ((x : ℕ) → May x → has (firsts ps) x ≡ true)
    → ((x : ℕ) → May x → Might (actual ps x)) → AreWrites w May us → AreWrites w Might (writes_out ps us)
writes_back w scope ps [] May Might p f m a = tt
writes_back w scope ps (u ∷ us) May Might p f m a =
    (m u.0 a.0, subst (λ (l : Layout ℕ). HasFields l u.1) (pair_object w scope ps u.0 p (f u.0 a.0)).1 a.1, writes_back w scope ps us May Might p f m a.2)
