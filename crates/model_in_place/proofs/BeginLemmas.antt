-- How an evaluation in place begins.
use Rattle.std.proofs.Common.{◌≡◌, ℕ, List, suc, ◌+◌, ◌<◌, [], ◌∷◌, length, map, Bool, true, false, Option, Some, None, refl, sym, ap, ◌∙◌, subst, arith, inl}
use Rattle.std.specs.Prelude.{◌≢◌, ◌||◌, nat_eq, if◌then◌else◌}
use Rattle.std.specs.Option.{option_or}
use Rattle.std.proofs.lemmas.Bool.{eqb-true}
use Rattle.model_prims.specs.Kinds.{by_number}
use Rattle.model_terms.specs.declared.rule.Mode.TheVariants.{Executable, Logic}
use Rattle.model_terms.specs.Worlds.{World, Out, Scope}
use Rattle.model_terms.specs.Worlds as worlds
use Rattle.model_terms.specs.Outputs.{outs}
use Rattle.model_terms.specs.Scopes.{kind_in}
use Rattle.model_eval.specs.Outcomes.{StobjNamed, Stobjs, StateOf, State, OutcomeOf, Outcome, Gives, Stops, Unknown}
use Rattle.model_eval.specs.PlacesKeeping.{Journal, Closed, Open, Place, At, place_of, root_list, list_at, Store}
use Rattle.model_eval.specs.Variables.{variable_in, list_of}
use Rattle.model_eval.specs.Checked.{checked, begun, live}
use Rattle.model_eval.specs.InPlace.{in_place, roots_from, placed, begun_in_place}
use Rattle.model_eval_laws.specs.Scope.{names, is_among}
use Rattle.model_places.specs.Places.{AreApart, IsPlace}
use Rattle.model_accepted.specs.StobjScopes.{IsOfKind, AreVariables, IsStobj}
use Rattle.model_in_place.specs.Standing.{Stands}
use Rattle.model_in_place.specs.Agreement.{EndsAtStop, Agrees}
use Rattle.model_in_place.specs.Keeping.{AreThere, IsWritten, IsKept, ChangesOnlyOutputs}
use Rattle.model_in_place.specs.Commands.{live_scope, AreFitting, CommandsAgree}
use Rattle.model_accepted.proofs.AcceptLemmas.{false_true}
use Rattle.model_accepted.proofs.ScopeLemmas.{some_same, none_some}
use Rattle.model_in_place.proofs.LawLemmas.{in_place_is_applicative}

-- the number of a stobj's root
pub root_of : Stobjs ℕ → ℕ → ℕ
root_of [] x = 0
root_of (o ∷ os) x = if nat_eq x o.0 then 0 else suc (root_of os x)

placed_at : (n : ℕ) (os : Stobjs ℕ) (x : ℕ) → is_among x (names os) ≡ true → place_of (roots_from n os) x ≡ At (n + root_of os x) []
unfolding root_of
placed_at n [] x h = false_true h
placed_at n (o ∷ os) x h = go (nat_eq x o.0) h (placed_at (n + 1) os x)
  where
    go : (b : Bool) → (b || is_among x (names os)) ≡ true → (is_among x (names os) ≡ true → place_of (roots_from (n + 1) os) x ≡ At ((n + 1) + root_of os x) [])
        → (if b then At n [] else place_of (roots_from (n + 1) os) x) ≡ At (n + (if b then 0 else suc (root_of os x))) []
    go true e later = let none : n ≡ n + 0 = omega arith in ap (λ (m : ℕ). At m []) none
    go false e later = let one : (n + 1) + root_of os x ≡ n + suc (root_of os x) = omega arith in later e ∙ ap (λ (m : ℕ). At m []) one

pub placed_first : (os : Stobjs ℕ) (x : ℕ) → is_among x (names os) ≡ true → place_of (roots_from 0 os) x ≡ At (root_of os x) []
placed_first os x h = let none : 0 + root_of os x ≡ root_of os x = omega arith in placed_at 0 os x h ∙ ap (λ (m : ℕ). At m []) none

pub root_list_of : (os : Stobjs ℕ) (x : ℕ) → is_among x (names os) ≡ true → root_list (map (λ o. o.1) os) (root_of os x) ≡ list_of os x
unfolding root_of
root_list_of [] x h = false_true h
root_list_of (o ∷ os) x h = go (nat_eq x o.0) h (root_list_of os x)
  where
    go : (b : Bool) → (b || is_among x (names os)) ≡ true → (is_among x (names os) ≡ true → root_list (map (λ o. o.1) os) (root_of os x) ≡ list_of os x)
        → root_list (map (λ o. o.1) (o ∷ os)) (if b then 0 else suc (root_of os x)) ≡ (if b then o.1 else list_of os x)
    go true e later = refl
    go false e later = later e

pub root_below : (os : Stobjs ℕ) (x : ℕ) → is_among x (names os) ≡ true → root_of os x < length (map (λ o. o.1) os)
unfolding root_of
root_below [] x h = false_true h
root_below (o ∷ os) x h = go (nat_eq x o.0) h (root_below os x)
  where
    go : (b : Bool) → (b || is_among x (names os)) ≡ true → (is_among x (names os) ≡ true → root_of os x < length (map (λ o. o.1) os)) → (if b then 0 else suc (root_of os x)) < suc (length (map (λ o. o.1) os))
    go true e later = omega arith
    go false e later = let below : root_of os x < length (map (λ o. o.1) os) = later e in omega (arith, below)

pub root_differs : (os : Stobjs ℕ) (x y : ℕ) → is_among x (names os) ≡ true → is_among y (names os) ≡ true → x ≢ y → root_of os x ≢ root_of os y
unfolding root_of
root_differs [] x y h i d = false_true h
root_differs (o ∷ os) x y h i d = go (nat_eq x o.0) refl (nat_eq y o.0) refl h i (root_differs os x y)
  where
    go : (a : Bool) → nat_eq x o.0 ≡ a → (b : Bool) → nat_eq y o.0 ≡ b → (a || is_among x (names os)) ≡ true → (b || is_among y (names os)) ≡ true
        → (is_among x (names os) ≡ true → is_among y (names os) ≡ true → x ≢ y → root_of os x ≢ root_of os y) → (if a then 0 else suc (root_of os x)) ≢ (if b then 0 else suc (root_of os y))
    go true e true f g k later = λ z. d (eqb-true x o.0 e ∙ sym (eqb-true y o.0 f))
    go true e false f g k later = λ z. absurd (omega (arith, z))
    go false e true f g k later = λ z. absurd (omega (arith, z))
    go false e false f g k later = λ z. later g k d (let same : root_of os x ≡ root_of os y = omega (arith, z) in same)

pub live_object : (os : Stobjs ℕ) (x : ℕ) (k : Out) → kind_in (live_scope os) x ≡ Some k → (is_among x (names os) ≡ true) × (k ≡ worlds.Stobj x)
live_object [] x k h = none_some h
live_object (o ∷ os) x k h = go (kind_in (live_scope os) x) (nat_eq x o.0) refl h (live_object os x k)
  where
    go : (m : Option Out) (b : Bool) → nat_eq x o.0 ≡ b → option_or m (if b then Some (worlds.Stobj o.0) else None) ≡ Some k → (m ≡ Some k → (is_among x (names os) ≡ true) × (k ≡ worlds.Stobj x))
        → ((b || is_among x (names os)) ≡ true) × (k ≡ worlds.Stobj x)
    go (Some m) true e f later = (refl, (later f).1)
    go (Some m) false e f later = later f
    go None true e f later = (refl, sym (some_same f) ∙ ap worlds.Stobj (sym (eqb-true x o.0 e)))
    go None false e f later = none_some f

live_variable : (os : Stobjs ℕ) (x : ℕ) → is_among x (names os) ≡ true → variable_in by_number (live os) x ≡ StobjNamed x
live_variable [] x h = false_true h
live_variable (o ∷ os) x h = go (nat_eq x o.0) refl h (live_variable os x)
  where
    go : (b : Bool) → nat_eq x o.0 ≡ b → (b || is_among x (names os)) ≡ true → (is_among x (names os) ≡ true → variable_in by_number (live os) x ≡ StobjNamed x) → (if b then StobjNamed o.0 else variable_in by_number (live os) x) ≡ StobjNamed x
    go true e f later = ap StobjNamed (sym (eqb-true x o.0 e))
    go false e f later = later f

pub stands_placed : (w : World) (os : Stobjs ℕ) → AreFitting w os → Stands w (live_scope os) os (placed os)
stands_placed w os fits =
    let among : ((x : ℕ) → IsStobj (live_scope os) x → is_among x (names os) ≡ true) = λ x h. (live_object os x (worlds.Stobj x) h).0 in
    record {
      same = λ x h. sym (ap (list_at (placed os).roots) (placed_first os x (among x h)) ∙ root_list_of os x (among x h));
      known = among;
      places = λ x h. subst (IsPlace (placed os).roots) (sym (placed_first os x (among x h))) (root_below os x (among x h), tt);
      apart = λ x y h i d.
          subst (λ (p : Place). AreApart p (place_of (placed os).scope y)) (sym (placed_first os x (among x h)))
          (subst (AreApart (At (root_of os x) [])) (sym (placed_first os y (among y i))) (inl (root_differs os x y (among x h) (among y i) d)));
      fits = λ x h. fits.each x (among x h);
    }

stands_there : (w : World) (scope : Scope) (os : Stobjs ℕ) → AreThere w scope os → Stands w scope os (placed os)
stands_there w scope os there = record {
  same = λ x h. sym (ap (list_at (placed os).roots) (placed_first os x (there.known x h)) ∙ root_list_of os x (there.known x h));
  known = there.known;
  places = λ x h. subst (IsPlace (placed os).roots) (sym (placed_first os x (there.known x h))) (root_below os x (there.known x h), tt);
  apart = λ x y h i d.
      subst (λ (p : Place). AreApart p (place_of (placed os).scope y)) (sym (placed_first os x (there.known x h)))
      (subst (AreApart (At (root_of os x) [])) (sym (placed_first os y (there.known y i))) (inl (root_differs os x y (there.known x h) (there.known y i) d)));
  fits = there.fits;
}

live_there : (w : World) (os : Stobjs ℕ) → AreFitting w os → AreThere w (live_scope os) os
live_there w os fits = record { known = λ x h. (live_object os x (worlds.Stobj x) h).0; fits = λ x h. fits.each x (live_object os x (worlds.Stobj x) h).0 }

live_variables : (os : Stobjs ℕ) → AreVariables (live_scope os) (live os)
live_variables os = record {
  each = λ x k h.
      let is : (is_among x (names os) ≡ true) × (k ≡ worlds.Stobj x) = live_object os x k h in
      subst (λ (m : Out). IsOfKind x m (variable_in by_number (live os) x)) (sym is.1) (refl, live_variable os x is.0);
}

not_logic : Executable ≢ Logic
not_logic e = cc

pub commands_agree : CommandsAgree
commands_agree = record {
  same = λ w threaded suits stobjs fits form accepted formed packages symbols k d used.
      in_place_is_applicative.same w threaded w Executable (live_scope stobjs) form (outs w (live_scope stobjs) form) suits not_logic accepted formed packages k d (live stobjs)
      (begun symbols stobjs used) (begun_in_place symbols stobjs used) (live_variables stobjs) (stands_there w (live_scope stobjs) stobjs (live_there w stobjs fits)) (record { symbols = refl; calls = refl; outer = refl });
}

-- ---- on lists alone

kept_by : (w : World) (scope : Scope) (expected : List Out) (s : State ℕ) (t : StateOf (Store ℕ)) (a : Outcome ℕ) (b : OutcomeOf ℕ (Store ℕ)) → Agrees w scope expected s t a b → IsKept w scope expected s a
kept_by w scope expected s t (Gives values u) (Gives others v) h = (h.1, record { writes = h.2.writes; allowed = h.2.allowed; lists = h.2.lists }, h.3)
kept_by w scope expected s t (Gives values u) (Stops stop origin v) h = absurd h
kept_by w scope expected s t (Gives values u) Unknown h = absurd h
kept_by w scope expected s t (Stops stop origin u) (Gives others v) h = absurd h
kept_by w scope expected s t (Stops stop origin u) (Stops other from v) h = by_journal t.stobjs.journal h.2
  where
    by_journal : (j : Journal ℕ) → EndsAtStop w scope j s t u v → IsWritten w scope s u
    by_journal Closed e = record { writes = e.writes; allowed = e.allowed; lists = e.lists }
    by_journal (Open n before) e = record { writes = e.writes; allowed = e.allowed; lists = e.lists }
kept_by w scope expected s t (Stops stop origin u) Unknown h = absurd h
kept_by w scope expected s t Unknown b h = absurd h

pub changes_only_outputs : ChangesOnlyOutputs
changes_only_outputs = record {
  kept = λ w threaded c mode scope form expected suits n accepted formed packages k d variables s are there.
      let t : StateOf (Store ℕ) = record { stobjs = placed s.stobjs; symbols = s.symbols; calls = s.calls; outer = s.outer } in
      kept_by w scope expected s t (checked w packages k d form variables s) (in_place w packages k d form variables t)
      (in_place_is_applicative.same w threaded c mode scope form expected suits n accepted formed packages k d variables s t are (stands_there w scope s.stobjs there) (record { symbols = refl; calls = refl; outer = refl }));
}
