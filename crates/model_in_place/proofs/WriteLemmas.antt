-- The same writes on lists and in place.
use Rattle.std.proofs.Common.{◌≡◌, ℕ, ◌+◌, List, [], ◌∷◌, ◌++◌, Bool, true, false, refl, sym, ap, ◌∙◌, subst, inl, inr}
use Rattle.std.specs.Prelude.{◌≢◌, ◌⊎◌, nat_lt, if◌then◌else◌, None}
use Rattle.model_lists.specs.Lists.{StobjList}
use Rattle.model_terms.specs.Worlds.{World, Out, Ordinary, Scope}
use Rattle.model_terms.specs.Worlds as worlds
use Rattle.model_eval.specs.Outcomes.{Shown, Plain, StobjNamed, Stop, Steps, Stobjs, StateOf, State, OutcomeOf, Outcome, Origin, Gives, Stops, Unknown, then_with, here, stops_here, one_more_call, counting}
use Rattle.model_eval.specs.PlacesKeeping.{Places, Closed, Store, place_of, list_at, with_list_at}
use Rattle.model_eval.specs.Variables.{list_of, with_list}
use Rattle.model_eval_laws.specs.Scope.{is_among}
use Rattle.model_eval_laws.proofs.Lists.{names_write}
use Rattle.model_places.specs.Places.{AreApart, IsPlace}
use Rattle.model_accepted.specs.StobjScopes.{IsStobj, AreOutputs}
use Rattle.model_accepted.specs.Threaded.{Fits}
use Rattle.model_in_place.specs.Standing.{Stands, AreSame}
use Rattle.model_in_place.specs.Writes.{Write, stobjs_after, roots_after, AreWrites, MovesIf, Moves, Meet}
use Rattle.model_places.proofs.PathLemmas.{at_same, at_other, place_kept, place_stays}
use Rattle.model_in_place.proofs.ObjectLemmas.{equal_or_not, list_written, list_other}

-- ---- one write

module _ (w : World) (scope : Scope) (stobjs : Stobjs ℕ) (store : Store ℕ) (x : ℕ) (l : StobjList ℕ) (stands : Stands w scope stobjs store) (here : IsStobj scope x) where
  abbrev written : Store ℕ
  written = record store { roots = with_list_at (place_of store.scope x) l store.roots }

  same_after : (y : ℕ) → IsStobj scope y → list_of (with_list x l stobjs) y ≡ list_at written.roots (place_of store.scope y)
  same_after y h = by_name (equal_or_not y x)
    where
      by_name : (y ≡ x) ⊎ (y ≢ x) → list_of (with_list x l stobjs) y ≡ list_at written.roots (place_of store.scope y)
      by_name (inl e) =
          subst (λ (z : ℕ). list_of (with_list x l stobjs) z ≡ list_at written.roots (place_of store.scope z)) (sym e)
          (list_written x l stobjs (stands.known x here) ∙ sym (at_same (place_of store.scope x) l store.roots (stands.places x here)))
      by_name (inr d) =
          list_other y x l stobjs d
          ∙ (stands.same y h ∙ sym (at_other (place_of store.scope y) (place_of store.scope x) l store.roots (stands.apart y x h here d) (stands.places x here)))

  places_after : (y : ℕ) → IsStobj scope y → IsPlace written.roots (place_of store.scope y)
  places_after y h = by_name (equal_or_not y x)
    where
      by_name : (y ≡ x) ⊎ (y ≢ x) → IsPlace written.roots (place_of store.scope y)
      by_name (inl e) =
          subst (λ (z : ℕ). IsPlace written.roots (place_of store.scope z)) (sym e) (place_stays (place_of store.scope x) l store.roots (stands.places x here))
      by_name (inr d) =
          place_kept (place_of store.scope y) (place_of store.scope x) l store.roots (stands.apart y x h here d) (stands.places x here) (stands.places y h)

  fits_after : Fits w x l → (y : ℕ) → IsStobj scope y → Fits w y (list_of (with_list x l stobjs) y)
  fits_after f y h = by_name (equal_or_not y x)
    where
      by_name : (y ≡ x) ⊎ (y ≢ x) → Fits w y (list_of (with_list x l stobjs) y)
      by_name (inl e) =
          subst (λ (z : ℕ). Fits w z (list_of (with_list x l stobjs) z)) (sym e) (subst (Fits w x) (sym (list_written x l stobjs (stands.known x here))) f)
      by_name (inr d) = subst (Fits w y) (sym (list_other y x l stobjs d)) (stands.fits y h)

  pub stands_written : Fits w x l → Stands w scope (with_list x l stobjs) written
  stands_written f = record {
    same = same_after;
    known = λ y h. ap (is_among y) (names_write x l stobjs) ∙ stands.known y h;
    places = places_after;
    apart = stands.apart;
    fits = fits_after f;
  }

-- ---- writes

pub stands_after : (w : World) (scope : Scope) (May : ℕ → Type 0) (us : List Write) (stobjs : Stobjs ℕ) (store : Store ℕ)
    → ((x : ℕ) → May x → IsStobj scope x) → AreWrites w May us → Stands w scope stobjs store
    → Stands w scope (stobjs_after us stobjs) (record store { roots = roots_after store.scope us store.roots })
stands_after w scope May [] stobjs store m a stands = stands
stands_after w scope May (u ∷ us) stobjs store m a stands =
    stands_after w scope May us (with_list u.0 u.1 stobjs) (record store { roots = with_list_at (place_of store.scope u.0) u.1 store.roots }) m a.2
    (stands_written w scope stobjs store u.0 u.1 stands (m u.0 a.0) a.1)

pub writes_both : (w : World) (May : ℕ → Type 0) (us vs : List Write) → AreWrites w May us → AreWrites w May vs → AreWrites w May (us ++ vs)
writes_both w May [] vs h i = i
writes_both w May (u ∷ us) vs h i = (h.0, h.1, writes_both w May us vs h.2 i)

pub writes_wider : (w : World) (May Might : ℕ → Type 0) (us : List Write) → ((x : ℕ) → May x → Might x) → AreWrites w May us → AreWrites w Might us
writes_wider w May Might [] m h = tt
writes_wider w May Might (u ∷ us) m h = (m u.0 h.0, h.1, writes_wider w May Might us m h.2)

pub objects_both : (us vs : List Write) (stobjs : Stobjs ℕ) → stobjs_after (us ++ vs) stobjs ≡ stobjs_after vs (stobjs_after us stobjs)
objects_both [] vs stobjs = refl
objects_both (u ∷ us) vs stobjs = objects_both us vs (with_list u.0 u.1 stobjs)

pub roots_both : (scope : Places) (us vs : List Write) (roots : List (StobjList ℕ)) → roots_after scope (us ++ vs) roots ≡ roots_after scope vs (roots_after scope us roots)
roots_both scope [] vs roots = refl
roots_both scope (u ∷ us) vs roots = roots_both scope us vs (with_list_at (place_of scope u.0) u.1 roots)

-- what stands is by places and roots
pub stands_as : (w : World) (scope : Scope) (stobjs : Stobjs ℕ) (store other : Store ℕ) → other.scope ≡ store.scope → other.roots ≡ store.roots → Stands w scope stobjs store → Stands w scope stobjs other
stands_as w scope stobjs store other e f h = record {
  same = λ x i.
      subst (λ (ps : Places). list_of stobjs x ≡ list_at other.roots (place_of ps x)) (sym e)
      (subst (λ (rs : List (StobjList ℕ)). list_of stobjs x ≡ list_at rs (place_of store.scope x)) (sym f) (h.same x i));
  known = h.known;
  places = λ x i.
      subst (λ (ps : Places). IsPlace other.roots (place_of ps x)) (sym e) (subst (λ (rs : List (StobjList ℕ)). IsPlace rs (place_of store.scope x)) (sym f) (h.places x i));
  apart = λ x y i j d. subst (λ (ps : Places). AreApart (place_of ps x) (place_of ps y)) (sym e) (h.apart x y i j d);
  fits = h.fits;
}

-- ---- states

module _ (w : World) where
  pub moves_not : (Condition : Type 0) (May : ℕ → Type 0) (s : State ℕ) (t : StateOf (Store ℕ)) → AreSame s t → MovesIf w Condition May s t s t
  moves_not Condition May s t e = record { writes = []; allowed = tt; stobjs = refl; roots = λ c. refl; count = refl; places = refl; journal = refl; same = e }

  pub moves_wider : (Condition : Type 0) (May Might : ℕ → Type 0) (s : State ℕ) (t : StateOf (Store ℕ)) (u : State ℕ) (v : StateOf (Store ℕ)) → ((x : ℕ) → May x → Might x)
      → MovesIf w Condition May s t u v → MovesIf w Condition Might s t u v
  moves_wider Condition May Might s t u v m h = record {
    writes = h.writes;
    allowed = writes_wider w May Might h.writes m h.allowed;
    stobjs = h.stobjs;
    roots = h.roots;
    count = h.count;
    places = h.places;
    journal = h.journal;
    same = h.same;
  }

  pub moves_then : (First Second : Type 0) (May : ℕ → Type 0) (s : State ℕ) (t : StateOf (Store ℕ)) (u : State ℕ) (v : StateOf (Store ℕ)) (p : State ℕ) (q : StateOf (Store ℕ))
      → (First → Second) → Moves w May s t u v → MovesIf w Second May u v p q → MovesIf w First May s t p q
  moves_then First Second May s t u v p q f h i = record {
    writes = h.writes ++ i.writes;
    allowed = writes_both w May h.writes i.writes h.allowed i.allowed;
    stobjs = i.stobjs ∙ (ap (stobjs_after i.writes) h.stobjs ∙ sym (objects_both h.writes i.writes s.stobjs));
    roots = λ c.
        i.roots (f c)
        ∙ (ap (λ (ps : Places). roots_after ps i.writes v.stobjs.roots) h.places
        ∙ (ap (roots_after t.stobjs.scope i.writes) (h.roots tt) ∙ sym (roots_both t.stobjs.scope h.writes i.writes t.stobjs.roots)));
    count = i.count ∙ h.count;
    places = i.places ∙ h.places;
    journal = i.journal ∙ h.journal;
    same = i.same;
  }

  abbrev pub moves_if : (Condition : Type 0) (May : ℕ → Type 0) (s : State ℕ) (t : StateOf (Store ℕ)) (u : State ℕ) (v : StateOf (Store ℕ)) → Moves w May s t u v → MovesIf w Condition May s t u v
  moves_if Condition May s t u v h = record {
    writes = h.writes;
    allowed = h.allowed;
    stobjs = h.stobjs;
    roots = λ c. h.roots tt;
    count = h.count;
    places = h.places;
    journal = h.journal;
    same = h.same;
  }

  -- where the condition holds
  pub moves_where : (Condition : Type 0) (May : ℕ → Type 0) (s : State ℕ) (t : StateOf (Store ℕ)) (u : State ℕ) (v : StateOf (Store ℕ)) → Condition → MovesIf w Condition May s t u v → Moves w May s t u v
  moves_where Condition May s t u v c h = record {
    writes = h.writes;
    allowed = h.allowed;
    stobjs = h.stobjs;
    roots = λ d. h.roots c;
    count = h.count;
    places = h.places;
    journal = h.journal;
    same = h.same;
  }

  -- what still stands after writes to stobjs in scope
  pub stands_moved : (scope : Scope) (May : ℕ → Type 0) (s : State ℕ) (t : StateOf (Store ℕ)) (u : State ℕ) (v : StateOf (Store ℕ))
      → ((x : ℕ) → May x → IsStobj scope x) → Stands w scope s.stobjs t.stobjs → Moves w May s t u v → Stands w scope u.stobjs v.stobjs
  stands_moved scope May s t u v m stands h =
      let after : Stands w scope (stobjs_after h.writes s.stobjs) (record t.stobjs { roots = roots_after t.stobjs.scope h.writes t.stobjs.roots })
      = stands_after w scope May h.writes s.stobjs t.stobjs m h.allowed stands in
      subst (λ (o : Stobjs ℕ). Stands w scope o v.stobjs) (sym h.stobjs)
      (stands_as w scope (stobjs_after h.writes s.stobjs) (record t.stobjs { roots = roots_after t.stobjs.scope h.writes t.stobjs.roots }) v.stobjs h.places (h.roots tt) after)

  -- ---- outcomes

  pub meets_wider : (Are Will : List (Shown ℕ) → Type 0) (May Might Could Can : ℕ → Type 0) (s : State ℕ) (t : StateOf (Store ℕ)) (a : Outcome ℕ) (b : OutcomeOf ℕ (Store ℕ))
      → ((vs : List (Shown ℕ)) → Are vs → Will vs) → ((x : ℕ) → May x → Could x) → ((x : ℕ) → Might x → Can x)
      → Meet w Are May Might s t a b → Meet w Will Could Can s t a b
  meets_wider Are Will May Might Could Can s t (Gives vs u) (Gives ws v) f g i h = (h.0, f vs h.1, moves_wider (Unit {0}) May Could s t u v g h.2)
  meets_wider Are Will May Might Could Can s t (Gives vs u) (Stops stop origin v) f g i h = absurd h
  meets_wider Are Will May Might Could Can s t (Gives vs u) Unknown f g i h = absurd h
  meets_wider Are Will May Might Could Can s t (Stops stop origin u) (Gives ws v) f g i h = absurd h
  meets_wider Are Will May Might Could Can s t (Stops stop origin u) (Stops other from v) f g i h = (h.0, h.1, moves_wider (t.stobjs.journal ≡ Closed) Might Can s t u v i h.2)
  meets_wider Are Will May Might Could Can s t (Stops stop origin u) Unknown f g i h = absurd h
  meets_wider Are Will May Might Could Can s t Unknown b f g i h = absurd h

  -- an outcome from states that were moved to before
  pub meets_after : (Are : List (Shown ℕ) → Type 0) (Before May Might : ℕ → Type 0) (s : State ℕ) (t : StateOf (Store ℕ)) (u : State ℕ) (v : StateOf (Store ℕ)) (a : Outcome ℕ) (b : OutcomeOf ℕ (Store ℕ))
      → ((x : ℕ) → Before x → May x) → ((x : ℕ) → Before x → Might x) → Moves w Before s t u v
      → Meet w Are May Might u v a b → Meet w Are May Might s t a b
  meets_after Are Before May Might s t u v (Gives vs p) (Gives ws q) f g m h = (h.0, h.1, moves_then (Unit {0}) (Unit {0}) May s t u v p q (λ c. c) (moves_wider (Unit {0}) Before May s t u v f m) h.2)
  meets_after Are Before May Might s t u v (Gives vs p) (Stops stop origin q) f g m h = absurd h
  meets_after Are Before May Might s t u v (Gives vs p) Unknown f g m h = absurd h
  meets_after Are Before May Might s t u v (Stops stop origin p) (Gives ws q) f g m h = absurd h
  meets_after Are Before May Might s t u v (Stops stop origin p) (Stops other from q) f g m h = (
    h.0,
    h.1,
    moves_then (t.stobjs.journal ≡ Closed) (v.stobjs.journal ≡ Closed) Might s t u v p q (λ c. m.journal ∙ c) (moves_wider (Unit {0}) Before Might s t u v g m) h.2,
  )
  meets_after Are Before May Might s t u v (Stops stop origin p) Unknown f g m h = absurd h
  meets_after Are Before May Might s t u v Unknown b f g m h = absurd h

  -- one outcome and what comes after it
  pub meets_then : (Are Will : List (Shown ℕ) → Type 0) (Before May Might : ℕ → Type 0) (s : State ℕ) (t : StateOf (Store ℕ)) (a : Outcome ℕ) (b : OutcomeOf ℕ (Store ℕ))
      (go : List (Shown ℕ) → State ℕ → Outcome ℕ) (to : List (Shown ℕ) → StateOf (Store ℕ) → OutcomeOf ℕ (Store ℕ))
      → ((x : ℕ) → Before x → May x) → ((x : ℕ) → Before x → Might x)
      → Meet w Are Before Might s t a b
      → ((vs : List (Shown ℕ)) (u : State ℕ) (v : StateOf (Store ℕ)) → Are vs → Moves w Before s t u v → Meet w Will May Might u v (go vs u) (to vs v))
      → Meet w Will May Might s t (then_with a go) (then_with b to)
  meets_then Are Will Before May Might s t (Gives vs u) (Gives ws v) go to f g h k =
      rw h.0 (meets_after Will Before May Might s t u v (go vs u) (to vs v) f g h.2 (k vs u v h.1 h.2))
  meets_then Are Will Before May Might s t (Gives vs u) (Stops stop origin v) go to f g h k = absurd h
  meets_then Are Will Before May Might s t (Gives vs u) Unknown go to f g h k = absurd h
  meets_then Are Will Before May Might s t (Stops stop origin u) (Gives ws v) go to f g h k = absurd h
  meets_then Are Will Before May Might s t (Stops stop origin u) (Stops other from v) go to f g h k = h
  meets_then Are Will Before May Might s t (Stops stop origin u) Unknown go to f g h k = absurd h
  meets_then Are Will Before May Might s t Unknown b go to f g h k = absurd h

  pub here_same : (s : State ℕ) (t : StateOf (Store ℕ)) → AreSame s t → here t ≡ here s
  here_same s t e = ap before e.outer
    where
      before : ℕ → Origin
      before n = record { inside = None; cut = n + 1 }

  pub meets_stop : (Are : List (Shown ℕ) → Type 0) (May Might : ℕ → Type 0) (s : State ℕ) (t : StateOf (Store ℕ)) (stop : Stop ℕ) → AreSame s t
      → Meet w Are May Might s t (stops_here stop s) (stops_here stop t)
  meets_stop Are May Might s t stop e = (refl, here_same s t e, moves_not (t.stobjs.journal ≡ Closed) Might s t e)

  pub meets_give : (Are : List (Shown ℕ) → Type 0) (May Might : ℕ → Type 0) (s : State ℕ) (t : StateOf (Store ℕ)) (vs : List (Shown ℕ)) → Are vs → AreSame s t
      → Meet w Are May Might s t (Gives vs s) (Gives vs t)
  meets_give Are May Might s t vs h e = (refl, h, moves_not (Unit {0}) May s t e)

  pub counted_same : (s : State ℕ) (t : StateOf (Store ℕ)) → AreSame s t → AreSame (one_more_call s) (one_more_call t)
  counted_same s t e = record { symbols = e.symbols; calls = ap (λ (n : ℕ). n + 1) e.calls; outer = ap (λ (n : ℕ). n + 1) e.outer }

  pub meets_counting : (Are : List (Shown ℕ) → Type 0) (May Might : ℕ → Type 0) (limit : ℕ) (s : State ℕ) (t : StateOf (Store ℕ)) (go : State ℕ → Outcome ℕ) (to : StateOf (Store ℕ) → OutcomeOf ℕ (Store ℕ)) → AreSame s t
      → (AreSame (one_more_call s) (one_more_call t) → Meet w Are May Might s t (go (one_more_call s)) (to (one_more_call t)))
      → Meet w Are May Might s t (counting limit s go) (counting limit t to)
  meets_counting Are May Might limit s t go to e k =
      subst (λ (n : ℕ). Meet w Are May Might s t (counting limit s go) (if nat_lt n limit then to (one_more_call t) else stops_here Steps t)) (sym e.calls) (by_test (nat_lt s.calls limit))
    where
      by_test : (b : Bool) → Meet w Are May Might s t (if b then go (one_more_call s) else stops_here Steps s) (if b then to (one_more_call t) else stops_here Steps t)
      by_test true = k (counted_same s t e)
      by_test false = meets_stop Are May Might s t Steps e

  pub meets_if : (Are : List (Shown ℕ) → Type 0) (May Might : ℕ → Type 0) (s : State ℕ) (t : StateOf (Store ℕ)) (b : Bool) (p r : Outcome ℕ) (q z : OutcomeOf ℕ (Store ℕ))
      → Meet w Are May Might s t p q → Meet w Are May Might s t r z → Meet w Are May Might s t (if b then p else r) (if b then q else z)
  meets_if Are May Might s t true p r q z h i = h
  meets_if Are May Might s t false p r q z h i = i

  -- what comes after a counted call comes after the state before it
  moves_counted : (Condition : Type 0) (May : ℕ → Type 0) (s : State ℕ) (t : StateOf (Store ℕ)) (u : State ℕ) (v : StateOf (Store ℕ)) → MovesIf w Condition May (one_more_call s) (one_more_call t) u v → MovesIf w Condition May s t u v
  moves_counted Condition May s t u v m =
      record { writes = m.writes; allowed = m.allowed; stobjs = m.stobjs; roots = m.roots; count = m.count; places = m.places; journal = m.journal; same = m.same }

  pub meets_counted : (Are : List (Shown ℕ) → Type 0) (May Might : ℕ → Type 0) (s : State ℕ) (t : StateOf (Store ℕ)) (a : Outcome ℕ) (b : OutcomeOf ℕ (Store ℕ))
      → Meet w Are May Might (one_more_call s) (one_more_call t) a b → Meet w Are May Might s t a b
  meets_counted Are May Might s t (Gives vs u) (Gives ws v) m = (m.0, m.1, moves_counted (Unit {0}) May s t u v m.2)
  meets_counted Are May Might s t (Gives vs u) (Stops stop origin v) m = absurd m
  meets_counted Are May Might s t (Gives vs u) Unknown m = absurd m
  meets_counted Are May Might s t (Stops stop origin u) (Gives ws v) m = absurd m
  meets_counted Are May Might s t (Stops stop origin u) (Stops other from v) m = (m.0, m.1, moves_counted (t.stobjs.journal ≡ Closed) Might s t u v m.2)
  meets_counted Are May Might s t (Stops stop origin u) Unknown m = absurd m
  meets_counted Are May Might s t Unknown b m = absurd m

-- ---- smaller scopes

pub outputs_wider : (inner outer : Scope) (expected : List Out) (vs : List (Shown ℕ)) → ((x : ℕ) → IsStobj inner x → IsStobj outer x) → AreOutputs inner expected vs → AreOutputs outer expected vs
outputs_wider inner outer [] [] f h = tt
outputs_wider inner outer [] (v ∷ vs) f h = absurd h
outputs_wider inner outer (k ∷ ks) [] f h = absurd h
outputs_wider inner outer (Ordinary ∷ ks) (Plain o ∷ vs) f h = (tt, outputs_wider inner outer ks vs f h.1)
outputs_wider inner outer (Ordinary ∷ ks) (StobjNamed y ∷ vs) f h = absurd h.0
outputs_wider inner outer (worlds.Stobj x ∷ ks) (Plain o ∷ vs) f h = absurd h.0
outputs_wider inner outer (worlds.Stobj x ∷ ks) (StobjNamed y ∷ vs) f h = ((h.0.0, f x h.0.1), outputs_wider inner outer ks vs f h.1)

pub stands_less : (w : World) (inner outer : Scope) (stobjs : Stobjs ℕ) (store : Store ℕ) → ((x : ℕ) → IsStobj inner x → IsStobj outer x) → Stands w outer stobjs store → Stands w inner stobjs store
stands_less w inner outer stobjs store f h = record {
  same = λ x i. h.same x (f x i);
  known = λ x i. h.known x (f x i);
  places = λ x i. h.places x (f x i);
  apart = λ x y i j d. h.apart x y (f x i) (f y j) d;
  fits = λ x i. h.fits x (f x i);
}
