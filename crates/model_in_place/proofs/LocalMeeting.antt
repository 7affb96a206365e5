-- Local stobjs in place and on lists.
use Rattle.std.proofs.Common.{◌≡◌, ℕ, zero, suc, ◌-◌, ◌<◌, ◌≤◌, List, [], ◌∷◌, ◌++◌, length, take, drop, Bool, true, false, Option, Some, None, refl, sym, ap, ◌∙◌, subst, arith, inl, inr}
use Rattle.std.specs.Prelude.{◌≢◌, ◌⊎◌, ◌&&◌, nat_eq, if◌then◌else◌}
use Rattle.std.proofs.lemmas.List.{length-append, length-take-le}
use Rattle.model_symbols.specs.Symbols.{Package}
use Rattle.model_lists.specs.Lists.{StobjList}
use Rattle.model_lists.specs.Layouts.{initial}
use Rattle.model_lists_laws.proofs.StandingLemmas.{new_stobjs_stand}
use Rattle.model_terms.specs.declared.rule.Mode.{Mode}
use Rattle.model_terms.specs.declared.rule.Mode.TheVariants.{Logic}
use Rattle.model_terms.specs.Cores.{Core, WithLocal}
use Rattle.model_terms.specs.Worlds.{World, Out, Scope}
use Rattle.model_terms.specs.Classes as classes
use Rattle.model_terms.specs.Classes.{has, is_stobj_name}
use Rattle.model_terms.specs.Scopes.{name_kinds, local_scope, body_scope, other_names}
use Rattle.model_terms.specs.Outputs.{outs}
use Rattle.model_terms.specs.Sites.{here}
use Rattle.model_terms.specs.Nested.{same_kinds, stobjs_expected, with_local_holds}
use Rattle.model_eval.specs.Outcomes.{Shown, StobjNamed, Stobjs, StateOf, State, OutcomeOf, Outcome, Gives, Stops, Unknown, then_with, with_state, one_more_call, counting}
use Rattle.model_eval.specs.Keeping.{unmaking}
use Rattle.model_eval.specs.ListsKeeping.{lists_keeping}
use Rattle.model_eval.specs.PlacesKeeping.{Closed, Place, Nowhere, At, Places, Store, place_of, list_at, with_list_at, list_under, with_under, root_list, with_root, places_keeping}
use Rattle.model_eval.specs.Variables.{Variables, bound, list_of, with_list}
use Rattle.model_eval.specs.Evaluated.{Evaluator, EvaluatorOf, with_fresh}
use Rattle.model_eval_laws.specs.Scope.{names, is_among}
use Rattle.model_eval_laws.proofs.Lists.{same_number}
use Rattle.model_places.specs.Places.{AreApart, IsPath, IsPlace}
use Rattle.model_accepted.specs.Threaded.{IsFormed, layout_of, Suits, IsThreaded, Fits}
use Rattle.model_accepted.specs.StobjScopes.{IsStobj, AreVariables, AreOutputs}
use Rattle.model_in_place.specs.Standing.{Stands, AreSame}
use Rattle.model_in_place.specs.Writes.{Write, stobjs_after, roots_after, AreWrites, MovesIf, Meet}
use Rattle.model_accepted.specs.Accepted.{Accepted}
use Rattle.model_accepted.proofs.AcceptLemmas.{of_with_local, s14, true_false, both_true, not_false}
use Rattle.model_places.proofs.PathLemmas.{length_at}
use Rattle.model_in_place.proofs.ObjectLemmas.{not_equal}
use Rattle.model_accepted.proofs.ScopeLemmas.{has_object, has_other, all_has, local_object, local_variables, body_objects, body_variables}
use Rattle.model_in_place.proofs.WriteLemmas.{outputs_wider, stands_less, stands_moved, meets_wider, meets_then, meets_counting, meets_counted}
use Rattle.model_in_place.proofs.CallMeeting.{May, on_lists, at_places, Meets}

-- ---- writes to others

abbrev pub writes_around : ℕ → List Write → List Write
writes_around x [] = []
writes_around x (u ∷ us) = if nat_eq u.0 x then writes_around x us else u ∷ writes_around x us

-- stobjs after writes, the local one of which goes
pub objects_around : (x : ℕ) (us : List Write) (l : StobjList ℕ) (os : Stobjs ℕ) → drop 1 (stobjs_after us ((x, l) ∷ os)) ≡ stobjs_after (writes_around x us) os
objects_around x [] l os = refl
objects_around x (u ∷ us) l os = go (nat_eq u.0 x) (objects_around x us u.1 os) (objects_around x us l (with_list u.0 u.1 os))
  where
    go : (b : Bool) → drop 1 (stobjs_after us ((x, u.1) ∷ os)) ≡ stobjs_after (writes_around x us) os → drop 1 (stobjs_after us ((x, l) ∷ with_list u.0 u.1 os)) ≡ stobjs_after (writes_around x us) (with_list u.0 u.1 os)
        → drop 1 (stobjs_after us (if b then (x, u.1) ∷ os else (x, l) ∷ with_list u.0 u.1 os)) ≡ stobjs_after (if b then writes_around x us else u ∷ writes_around x us) os
    go true e f = e
    go false e f = f

-- a place in one of the first roots
abbrev HasRoot : ℕ → Place → Type 0
HasRoot n Nowhere = ⊥
HasRoot n (At r path) = r < n

root_first : (n : ℕ) (rs : List (StobjList ℕ)) (l : StobjList ℕ) → n < length rs → root_list (rs ++ l ∷ []) n ≡ root_list rs n
root_first n [] l h = absurd (omega (arith, h))
root_first zero (r ∷ rs) l h = refl
root_first (suc n) (r ∷ rs) l h = let fewer : n < length rs = omega (arith, h) in root_first n rs l fewer

root_write_first : (n : ℕ) (m : StobjList ℕ) (rs : List (StobjList ℕ)) (l : StobjList ℕ) → n < length rs → with_root n m (rs ++ l ∷ []) ≡ with_root n m rs ++ l ∷ []
root_write_first n m [] l h = absurd (omega (arith, h))
root_write_first zero m (r ∷ rs) l h = refl
root_write_first (suc n) m (r ∷ rs) l h = let fewer : n < length rs = omega (arith, h) in ap (λ (ks : List (StobjList ℕ)). r ∷ ks) (root_write_first n m rs l fewer)

root_write_last : (m : StobjList ℕ) (rs : List (StobjList ℕ)) (l : StobjList ℕ) → with_root (length rs) m (rs ++ l ∷ []) ≡ rs ++ m ∷ []
root_write_last m [] l = refl
root_write_last m (r ∷ rs) l = ap (λ (ks : List (StobjList ℕ)). r ∷ ks) (root_write_last m rs l)

root_last : (rs : List (StobjList ℕ)) (l : StobjList ℕ) → root_list (rs ++ l ∷ []) (length rs) ≡ l
root_last [] l = refl
root_last (r ∷ rs) l = root_last rs l

place_write_first : (p : Place) (m : StobjList ℕ) (rs : List (StobjList ℕ)) (l : StobjList ℕ) → HasRoot (length rs) p → with_list_at p m (rs ++ l ∷ []) ≡ with_list_at p m rs ++ l ∷ []
place_write_first Nowhere m rs l h = absurd h
place_write_first (At r path) m rs l h =
    ap (λ (k : StobjList ℕ). with_root r (with_under path m k) (rs ++ l ∷ [])) (root_first r rs l h) ∙ root_write_first r (with_under path m (root_list rs r)) rs l h

taken : (rs : List (StobjList ℕ)) (l : StobjList ℕ) → take (length rs) (rs ++ l ∷ []) ≡ rs
taken [] l = refl
taken (r ∷ rs) l = ap (λ (ks : List (StobjList ℕ)). r ∷ ks) (taken rs l)

taken_all : (rs : List (StobjList ℕ)) (l : StobjList ℕ) → take (length (rs ++ l ∷ []) - 1) (rs ++ l ∷ []) ≡ rs
taken_all rs l =
    let one_less : length (rs ++ l ∷ []) - 1 ≡ length rs = omega (arith, length-append rs (l ∷ [])) in
    ap (λ (n : ℕ). take n (rs ++ l ∷ [])) one_less ∙ taken rs l

-- the roots after writes, the last of which is the local stobj
roots_around : (scope : Places) (x n : ℕ) (us : List Write) (l : StobjList ℕ) (rs : List (StobjList ℕ)) (Now : ℕ → Type 0) (w : World) → length rs ≡ n
    → ((y : ℕ) → Now y → (y ≡ x) ⊎ ((y ≢ x) × HasRoot n (place_of scope y))) → AreWrites w Now us
    → (m : StobjList ℕ) × (roots_after ((x, At n []) ∷ scope) us (rs ++ l ∷ []) ≡ roots_after scope (writes_around x us) rs ++ m ∷ [])
roots_around scope x n [] l rs Now w e f a = (l, refl)
roots_around scope x n (u ∷ us) l rs Now w e f a =
    go (f u.0 a.0) (roots_around scope x n us u.1 rs Now w e f a.2)
    (roots_around scope x n us l (with_list_at (place_of scope u.0) u.1 rs) Now w (length_at (place_of scope u.0) u.1 rs ∙ e) f a.2)
  where
    go : (u.0 ≡ x) ⊎ ((u.0 ≢ x) × HasRoot n (place_of scope u.0))
        → (m : StobjList ℕ) × (roots_after ((x, At n []) ∷ scope) us (rs ++ u.1 ∷ []) ≡ roots_after scope (writes_around x us) rs ++ m ∷ [])
        → (m : StobjList ℕ) × (roots_after ((x, At n []) ∷ scope) us (with_list_at (place_of scope u.0) u.1 rs ++ l ∷ []) ≡ roots_after scope (writes_around x us) (with_list_at (place_of scope u.0) u.1 rs) ++ m ∷ [])
        → (m : StobjList ℕ) × (roots_after ((x, At n []) ∷ scope) (u ∷ us) (rs ++ l ∷ []) ≡ roots_after scope (writes_around x (u ∷ us)) rs ++ m ∷ [])
    go (inl same) i j = (
      i.0,
      rw (ap (λ (y : ℕ). nat_eq y x) same ∙ same_number x)
          (ap (λ (k : List (StobjList ℕ)). roots_after ((x, At n []) ∷ scope) us k) (subst (λ (z : ℕ). with_root z u.1 (rs ++ l ∷ []) ≡ rs ++ u.1 ∷ []) e (root_write_last u.1 rs l)) ∙ i.1),
    )
    go (inr other) i j = (
      j.0,
      rw (not_equal u.0 x other.0)
          (ap (λ (k : List (StobjList ℕ)). roots_after ((x, At n []) ∷ scope) us k) (place_write_first (place_of scope u.0) u.1 rs l (subst (λ (z : ℕ). HasRoot z (place_of scope u.0)) (sym e) other.1)) ∙ j.1),
    )

pub allowed_around : (w : World) (x : ℕ) (us : List Write) (Now Then : ℕ → Type 0) → ((y : ℕ) → Now y → (y ≡ x) ⊎ Then y) → AreWrites w Now us → AreWrites w Then (writes_around x us)
allowed_around w x [] Now Then f a = tt
allowed_around w x (u ∷ us) Now Then f a = go (nat_eq u.0 x) refl (f u.0 a.0) (allowed_around w x us Now Then f a.2)
  where
    go : (b : Bool) → nat_eq u.0 x ≡ b → (u.0 ≡ x) ⊎ Then u.0 → AreWrites w Then (writes_around x us) → AreWrites w Then (if b then writes_around x us else u ∷ writes_around x us)
    go true e h i = i
    go false e (inl h) i = true_false (sym (same_number x) ∙ (ap (λ (y : ℕ). nat_eq y x) (sym h) ∙ e))
    go false e (inr h) i = (h, a.1, i)

-- ---- a new stobj

place_has_root : (roots : List (StobjList ℕ)) (p : Place) → IsPlace roots p → HasRoot (length roots) p
place_has_root roots Nowhere h = absurd h
place_has_root roots (At r path) h = h.0

place_more : (roots : List (StobjList ℕ)) (l : StobjList ℕ) (p : Place) → IsPlace roots p → IsPlace (roots ++ l ∷ []) p
place_more roots l Nowhere h = absurd h
place_more roots l (At r path) h =
    let root : r < length roots = h.0 in
    let more : r < length (roots ++ l ∷ []) = omega (arith, root, length-append roots (l ∷ [])) in
    (more, subst (IsPath path) (sym (root_first r roots l h.0)) h.1)

list_more : (roots : List (StobjList ℕ)) (l : StobjList ℕ) (p : Place) → IsPlace roots p → list_at (roots ++ l ∷ []) p ≡ list_at roots p
list_more roots l Nowhere h = refl
list_more roots l (At r path) h = ap (λ (k : StobjList ℕ). list_under path k) (root_first r roots l h.0)

apart_new : (n : ℕ) (p : Place) → HasRoot n p → AreApart p (At n [])
apart_new n Nowhere h = absurd h
apart_new n (At r path) h = inl (λ e. less_not n (subst (λ (k : ℕ). k < n) e h))
  where
    less_not : (k : ℕ) → k < k → ⊥
    less_not k i = absurd (omega (arith, i))

new_apart : (n : ℕ) (p : Place) → HasRoot n p → AreApart (At n []) p
new_apart n Nowhere h = absurd h
new_apart n (At r path) h = inl (λ e. less_not n (subst (λ (k : ℕ). k < n) (sym e) h))
  where
    less_not : (k : ℕ) → k < k → ⊥
    less_not k i = absurd (omega (arith, i))

module _ (w : World) (c : World) (scope : Scope) (stobj : ℕ) (l : StobjList ℕ) (stobjs : Stobjs ℕ) (store : Store ℕ) (stands : Stands w scope stobjs store) (fits : Fits w stobj l) where
  abbrev store_more : Store ℕ
  store_more = record store { scope = (stobj, At (length store.roots) []) ∷ store.scope; roots = store.roots ++ l ∷ [] }

  -- by whether the stobj is the local one
  abbrev IsAround : ℕ → Type 0
  IsAround x = (x ≡ stobj) ⊎ ((x ≢ stobj) × IsStobj scope x)

  place_around : (x : ℕ) → x ≢ stobj → place_of store_more.scope x ≡ place_of store.scope x
  place_around x d = rw (not_equal x stobj d) refl

  place_new : place_of store_more.scope stobj ≡ At (length store.roots) []
  place_new = rw (same_number stobj) refl

  pub stands_new : Stands w (local_scope c scope stobj) ((stobj, l) ∷ stobjs) store_more
  stands_new = record {
    same = λ x h. same_by x (local_object c scope stobj x h);
    known = λ x h. known_by x (local_object c scope stobj x h);
    places = λ x h. places_by x (local_object c scope stobj x h);
    apart = λ x y h i d. apart_by x y (local_object c scope stobj x h) (local_object c scope stobj y i) d;
    fits = λ x h. fits_by x (local_object c scope stobj x h);
  }
    where
      same_by : (x : ℕ) → IsAround x → list_of ((stobj, l) ∷ stobjs) x ≡ list_at store_more.roots (place_of store_more.scope x)
      same_by x (inl e) = rw (e, same_number stobj) (sym (root_last store.roots l))
      same_by x (inr i) =
          rw (not_equal x stobj i.0) (stands.same x i.1 ∙ sym (list_more store.roots l (place_of store.scope x) (stands.places x i.1)))

      known_by : (x : ℕ) → IsAround x → is_among x (stobj ∷ names stobjs) ≡ true
      known_by x (inl e) = rw (e, same_number stobj) refl
      known_by x (inr i) = rw (not_equal x stobj i.0) (stands.known x i.1)

      places_by : (x : ℕ) → IsAround x → IsPlace store_more.roots (place_of store_more.scope x)
      places_by x (inl e) = rw (e, same_number stobj) (let there : length store.roots < length (store.roots ++ l ∷ []) = omega (arith, length-append store.roots (l ∷ [])) in (there, tt))
      places_by x (inr i) = rw (not_equal x stobj i.0) (place_more store.roots l (place_of store.scope x) (stands.places x i.1))

      apart_by : (x y : ℕ) → IsAround x → IsAround y → x ≢ y → AreApart (place_of store_more.scope x) (place_of store_more.scope y)
      apart_by x y (inl e) (inl f) d = absurd (d (e ∙ sym f))
      apart_by x y (inl e) (inr j) d =
          subst (λ (p : Place). AreApart p (place_of store_more.scope y)) (sym (ap (place_of store_more.scope) e ∙ place_new))
          (subst (AreApart (At (length store.roots) [])) (sym (place_around y j.0)) (new_apart (length store.roots) (place_of store.scope y) (place_has_root store.roots (place_of store.scope y) (stands.places y j.1))))
      apart_by x y (inr i) (inl f) d =
          subst (AreApart (place_of store_more.scope x)) (sym (ap (place_of store_more.scope) f ∙ place_new))
          (subst (λ (p : Place). AreApart p (At (length store.roots) [])) (sym (place_around x i.0)) (apart_new (length store.roots) (place_of store.scope x) (place_has_root store.roots (place_of store.scope x) (stands.places x i.1))))
      apart_by x y (inr i) (inr j) d =
          subst (λ (p : Place). AreApart p (place_of store_more.scope y)) (sym (place_around x i.0))
          (subst (AreApart (place_of store.scope x)) (sym (place_around y j.0)) (stands.apart x y i.1 j.1 d))

      fits_by : (x : ℕ) → IsAround x → Fits w x (list_of ((stobj, l) ∷ stobjs) x)
      fits_by x (inl e) = subst (λ (z : ℕ). Fits w z (list_of ((stobj, l) ∷ stobjs) z)) (sym e) (rw (same_number stobj) fits)
      fits_by x (inr i) = rw (not_equal x stobj i.0) (stands.fits x i.1)

-- ---- a form with a new stobj in scope

one_fewer : (roots before : List (StobjList ℕ)) (l : StobjList ℕ) → length roots ≡ length (before ++ l ∷ []) → length (take (length roots - 1) roots) ≡ length before
one_fewer roots before l e =
    let short : length roots - 1 ≤ length roots = omega arith in
    let one_less : length roots - 1 ≡ length before = omega (arith, e, length-append before (l ∷ [])) in
    length-take-le (length roots - 1) roots short ∙ one_less

module _ (w : World) (scope : Scope) (stobj : ℕ) (l : StobjList ℕ) (s : State ℕ) (t : StateOf (Store ℕ)) (stands : Stands w scope s.stobjs t.stobjs) where
  abbrev pub with_new : State ℕ
  with_new = record s { stobjs = (stobj, l) ∷ s.stobjs }

  abbrev pub new_places : StateOf (Store ℕ)
  new_places = record t { stobjs = record t.stobjs { scope = (stobj, At (length t.stobjs.roots) []) ∷ t.stobjs.scope; roots = t.stobjs.roots ++ l ∷ [] } }

  pub moves_around : (Condition : Type 0) (Now Then : ℕ → Type 0) (u : State ℕ) (v : StateOf (Store ℕ)) → ((y : ℕ) → Now y → (y ≡ stobj) ⊎ ((y ≢ stobj) × IsStobj scope y)) → ((y : ℕ) → Now y → (y ≡ stobj) ⊎ Then y)
      → MovesIf w Condition Now with_new new_places u v → MovesIf w Condition Then s t (unmaking lists_keeping u) (unmaking places_keeping v)
  moves_around Condition Now Then u v around f m =
      let n : ℕ = length t.stobjs.roots in
      let roots : (k : StobjList ℕ) × (roots_after ((stobj, At n []) ∷ t.stobjs.scope) m.writes (t.stobjs.roots ++ l ∷ []) ≡ roots_after t.stobjs.scope (writes_around stobj m.writes) t.stobjs.roots ++ k ∷ [])
      = roots_around t.stobjs.scope stobj n m.writes l t.stobjs.roots Now w refl rooted m.allowed in
      record {
        writes = writes_around stobj m.writes;
        allowed = allowed_around w stobj m.writes Now Then f m.allowed;
        stobjs = ap (drop 1) m.stobjs ∙ objects_around stobj m.writes l s.stobjs;
        roots = λ c.
            ap (λ (rs : List (StobjList ℕ)). take (length rs - 1) rs) (m.roots c ∙ roots.1)
            ∙ taken_all (roots_after t.stobjs.scope (writes_around stobj m.writes) t.stobjs.roots) roots.0;
        count = one_fewer v.stobjs.roots t.stobjs.roots l m.count;
        places = ap (drop 1) m.places;
        journal = m.journal;
        same = record { symbols = m.same.symbols; calls = m.same.calls; outer = m.same.outer };
      }
    where
      rooted : (y : ℕ) → Now y → (y ≡ stobj) ⊎ ((y ≢ stobj) × HasRoot (length t.stobjs.roots) (place_of t.stobjs.scope y))
      rooted y h = go (around y h)
        where
          go : (y ≡ stobj) ⊎ ((y ≢ stobj) × IsStobj scope y) → (y ≡ stobj) ⊎ ((y ≢ stobj) × HasRoot (length t.stobjs.roots) (place_of t.stobjs.scope y))
          go (inl e) = inl e
          go (inr i) = inr (i.0, place_has_root t.stobjs.roots (place_of t.stobjs.scope y) (stands.places y i.1))

  meets_around : (Are : List (Shown ℕ) → Type 0) (May Might Then Thens : ℕ → Type 0) (p : Outcome ℕ) (q : OutcomeOf ℕ (Store ℕ))
      → ((y : ℕ) → May y → (y ≡ stobj) ⊎ ((y ≢ stobj) × IsStobj scope y)) → ((y : ℕ) → May y → (y ≡ stobj) ⊎ Then y)
      → ((y : ℕ) → Might y → (y ≡ stobj) ⊎ ((y ≢ stobj) × IsStobj scope y)) → ((y : ℕ) → Might y → (y ≡ stobj) ⊎ Thens y)
      → Meet w Are May Might with_new new_places p q → Meet w Are Then Thens s t (with_state (unmaking lists_keeping) p) (with_state (unmaking places_keeping) q)
  meets_around Are May Might Then Thens (Gives vs u) (Gives ws v) a b d e m = (m.0, m.1, moves_around (Unit {0}) May Then u v a b m.2)
  meets_around Are May Might Then Thens (Gives vs u) (Stops stop origin v) a b d e m = absurd m
  meets_around Are May Might Then Thens (Gives vs u) Unknown a b d e m = absurd m
  meets_around Are May Might Then Thens (Stops stop origin u) (Gives ws v) a b d e m = absurd m
  meets_around Are May Might Then Thens (Stops stop origin u) (Stops other from v) a b d e m = (m.0, m.1, moves_around (t.stobjs.journal ≡ Closed) Might Thens u v d e m.2)
  meets_around Are May Might Then Thens (Stops stop origin u) Unknown a b d e m = absurd m
  meets_around Are May Might Then Thens Unknown q a b d e m = absurd m

-- ---- the rule of local stobjs

pub record LocalHolds (c : World) (scope : Scope) (expected : List Out) (stobj : ℕ) (names : List ℕ) : Type 0 where
  pub named : is_stobj_name c stobj ≡ true
  pub expected_ones : (x : ℕ) → has (classes.stobjs (name_kinds c names)) x ≡ true → x ≢ stobj → has (classes.stobjs expected) x ≡ true

pub local_holds : (c : World) (scope : Scope) (expected : List Out) (stobj : ℕ) (names : List ℕ) (producer : Core) → with_local_holds c scope expected stobj names producer ≡ true → LocalHolds c scope expected stobj names
unfolding with_local_holds
local_holds c scope expected stobj names producer e =
    let first : (is_stobj_name c stobj ≡ true) × ((has names stobj && (stobjs_expected (name_kinds c (other_names stobj names)) expected && same_kinds (outs c (local_scope c scope stobj) producer) (name_kinds c names))) ≡ true)
    = both_true (is_stobj_name c stobj) (has names stobj && (stobjs_expected (name_kinds c (other_names stobj names)) expected && same_kinds (outs c (local_scope c scope stobj) producer) (name_kinds c names))) e in
    let second : (has names stobj ≡ true) × ((stobjs_expected (name_kinds c (other_names stobj names)) expected && same_kinds (outs c (local_scope c scope stobj) producer) (name_kinds c names)) ≡ true)
    = both_true (has names stobj) (stobjs_expected (name_kinds c (other_names stobj names)) expected && same_kinds (outs c (local_scope c scope stobj) producer) (name_kinds c names)) first.1 in
    let third : (stobjs_expected (name_kinds c (other_names stobj names)) expected ≡ true) × (same_kinds (outs c (local_scope c scope stobj) producer) (name_kinds c names) ≡ true)
    = both_true (stobjs_expected (name_kinds c (other_names stobj names)) expected) (same_kinds (outs c (local_scope c scope stobj) producer) (name_kinds c names)) second.1 in
    record {
      named = first.0;
      expected_ones = λ x h d. all_has (has (classes.stobjs expected)) (classes.stobjs (name_kinds c (other_names stobj names))) x third.0 (among_others x h d);
    }
  where
    among_others : (x : ℕ) → has (classes.stobjs (name_kinds c names)) x ≡ true → x ≢ stobj → has (classes.stobjs (name_kinds c (other_names stobj names))) x ≡ true
    among_others x h d =
        let both : (has names x ≡ true) × (is_stobj_name c x ≡ true) = both_true (has names x) (is_stobj_name c x) (sym (has_object c names x) ∙ h) in
        has_object c (other_names stobj names) x ∙ rw (has_other stobj names x, not_equal x stobj d, both.0, both.1) refl

module _ (w : World) (threaded : IsThreaded w) (packages : List Package) (limit : ℕ) (ev : Evaluator ℕ) (el : EvaluatorOf ℕ (Store ℕ)) (h : Meets w threaded packages limit ev el) (c : World) (mode : Mode) (scope : Scope) (suits : Suits c w) (n : mode ≢ Logic)
    (variables : Variables ℕ) (are : AreVariables scope variables) where
  pub meets_local : (stobj : ℕ) (locals : List ℕ) (producer body : Core) (formal : Option ℕ) (expected : List Out) (s : State ℕ) (t : StateOf (Store ℕ)) → Accepted c mode scope (WithLocal stobj locals producer body) formal expected
      → IsFormed c producer → IsFormed c body → Stands w scope s.stobjs t.stobjs → AreSame s t
      → Meet w (AreOutputs scope expected) (May scope expected) (IsStobj scope) s t
      (then_with (counting limit s (with_fresh (on_lists w threaded packages limit) ev stobj (Some (initial (layout_of w stobj))) producer variables)) (λ values after. ev body (bound locals values variables) after))
      (then_with (counting limit t (with_fresh (at_places w threaded packages limit) el stobj (Some (initial (layout_of w stobj))) producer variables)) (λ values after. el body (bound locals values variables) after))
  meets_local stobj locals producer body formal expected s t all formed_producer formed_body stands e =
      let holds : LocalHolds c scope expected stobj locals
      = local_holds c scope expected stobj locals producer (not_false (with_local_holds c scope expected stobj locals producer) (s14 c mode (here (WithLocal stobj locals producer body) scope formal expected) n all.0)) in
      let parts : Accepted c mode (local_scope c scope stobj) producer None (name_kinds c locals) × Accepted c mode (body_scope c scope stobj locals) body None expected
      = of_with_local c mode scope formal expected stobj locals producer body all in
      let inner : Scope = local_scope c scope stobj in
      let l : StobjList ℕ = initial (layout_of w stobj) in
      let Before : (ℕ → Type 0) = λ x. (has (classes.stobjs expected) x ≡ true) × IsStobj scope x in
      meets_then w (AreOutputs inner (name_kinds c locals)) (AreOutputs scope expected) Before (May scope expected) (IsStobj scope) s t
      (counting limit s (with_fresh (on_lists w threaded packages limit) ev stobj (Some l) producer variables))
      (counting limit t (with_fresh (at_places w threaded packages limit) el stobj (Some l) producer variables))
      (λ values after. ev body (bound locals values variables) after) (λ values after. el body (bound locals values variables) after)
      (λ x i. i) (λ x i. i.1)
      (meets_counting w (AreOutputs inner (name_kinds c locals)) Before (IsStobj scope) limit s t
      (with_fresh (on_lists w threaded packages limit) ev stobj (Some l) producer variables) (with_fresh (at_places w threaded packages limit) el stobj (Some l) producer variables) e
      (λ i. meets_counted w (AreOutputs inner (name_kinds c locals)) Before (IsStobj scope) s t
      (with_fresh (on_lists w threaded packages limit) ev stobj (Some l) producer variables (one_more_call s)) (with_fresh (at_places w threaded packages limit) el stobj (Some l) producer variables (one_more_call t))
      (meets_around w scope stobj l (one_more_call s) (one_more_call t) stands (AreOutputs inner (name_kinds c locals)) (May inner (name_kinds c locals)) (IsStobj inner) Before (IsStobj scope)
      (ev producer ((stobj, StobjNamed stobj) ∷ variables) (with_new w scope stobj l (one_more_call s) (one_more_call t) stands)) (el producer ((stobj, StobjNamed stobj) ∷ variables) (new_places w scope stobj l (one_more_call s) (one_more_call t) stands))
      (λ y m. local_object c scope stobj y m.1) (λ y m. allowed_before stobj locals holds.expected_ones y m.0 (local_object c scope stobj y m.1))
      (λ y m. local_object c scope stobj y m) (λ y m. around_only stobj y (local_object c scope stobj y m))
      (h.meets c mode inner producer None (name_kinds c locals) suits n parts.0 formed_producer ((stobj, StobjNamed stobj) ∷ variables)
      (with_new w scope stobj l (one_more_call s) (one_more_call t) stands) (new_places w scope stobj l (one_more_call s) (one_more_call t) stands)
      (local_variables c scope stobj variables holds.named are)
      (stands_new w c scope stobj l s.stobjs t.stobjs stands (new_stobjs_stand.fields (layout_of w stobj)))
      (record { symbols = i.symbols; calls = i.calls; outer = i.outer })))))
      (λ vs u v a moves.
      let still : Stands w scope u.stobjs v.stobjs = stands_moved w scope Before s t u v (λ x i. i.1) stands moves in
      let smaller : ((x : ℕ) → IsStobj (body_scope c scope stobj locals) x → IsStobj scope x) = λ x i. body_objects c scope stobj locals vs variables a x i in
      meets_wider w (AreOutputs (body_scope c scope stobj locals) expected) (AreOutputs scope expected) (May (body_scope c scope stobj locals) expected) (IsStobj (body_scope c scope stobj locals)) (May scope expected) (IsStobj scope) u v
      (ev body (bound locals vs variables) u) (el body (bound locals vs variables) v)
      (λ us o. outputs_wider (body_scope c scope stobj locals) scope expected us smaller o) (λ x i. (i.0, smaller x i.1)) smaller
      (h.meets c mode (body_scope c scope stobj locals) body None expected suits n parts.1 formed_body (bound locals vs variables) u v
      (body_variables c scope stobj locals vs variables a are) (stands_less w (body_scope c scope stobj locals) scope u.stobjs v.stobjs smaller still) moves.same))
    where
      around_only : (stobj y : ℕ) → (y ≡ stobj) ⊎ ((y ≢ stobj) × IsStobj scope y) → (y ≡ stobj) ⊎ IsStobj scope y
      around_only stobj y (inl i) = inl i
      around_only stobj y (inr i) = inr i.1

      allowed_before : (stobj : ℕ) (locals : List ℕ) → ((x : ℕ) → has (classes.stobjs (name_kinds c locals)) x ≡ true → x ≢ stobj → has (classes.stobjs expected) x ≡ true)
          → (y : ℕ) → has (classes.stobjs (name_kinds c locals)) y ≡ true → (y ≡ stobj) ⊎ ((y ≢ stobj) × IsStobj scope y) → (y ≡ stobj) ⊎ ((has (classes.stobjs expected) y ≡ true) × IsStobj scope y)
      allowed_before stobj locals f y m (inl i) = inl i
      allowed_before stobj locals f y m (inr i) = inr (f y m i.0, i.1)
