-- In place equals applicative: from the same writes to what is said of states.
use Rattle.std.proofs.Common.{◌≡◌, ℕ, List, [], ◌∷◌, None, refl, sym, ap, ◌∙◌, subst}
use Rattle.std.specs.Prelude.{◌≢◌}
use Rattle.model_lists.specs.Lists.{StobjList}
use Rattle.model_terms.specs.Worlds.{World, Out, Scope}
use Rattle.model_terms.specs.Classes as classes
use Rattle.model_terms.specs.Classes.{has}
use Rattle.model_eval.specs.Outcomes.{Stobjs, StateOf, State, OutcomeOf, Outcome, Gives, Stops, Unknown}
use Rattle.model_eval.specs.PlacesKeeping.{Place, Journal, Closed, Open, Store, place_of, list_at, with_list_at}
use Rattle.model_eval.specs.Variables.{list_of, with_list}
use Rattle.model_places.specs.Places.{AreApart}
use Rattle.model_accepted.specs.StobjScopes.{IsStobj, AreOutputs}
use Rattle.model_in_place.specs.Standing.{Stands}
use Rattle.model_in_place.specs.Agreement.{Ends, Halts, EndsAtStop, Agrees}
use Rattle.model_in_place.specs.Writes.{Write, stobjs_after, roots_after, AreWrites, Moves, StopsMoved, Meet}
use Rattle.model_in_place.specs.Laws.{InPlaceIsApplicative}
use Rattle.model_accepted.proofs.AcceptLemmas.{accepted_first, true_false}
use Rattle.model_places.proofs.PathLemmas.{at_other}
use Rattle.model_in_place.proofs.ObjectLemmas.{list_other}
use Rattle.model_in_place.proofs.WriteLemmas.{stands_written, stands_moved, moves_where}
use Rattle.model_in_place.proofs.CallMeeting.{May}
use Rattle.model_in_place.proofs.FormMeeting.{meets_evaluated}

-- a list that is not written
pub unwritten : (w : World) (May : ℕ → Type 0) (us : List Write) (stobjs : Stobjs ℕ) (x : ℕ) → ((y : ℕ) → May y → x ≢ y) → AreWrites w May us → list_of (stobjs_after us stobjs) x ≡ list_of stobjs x
unwritten w May [] stobjs x d a = refl
unwritten w May (u ∷ us) stobjs x d a = unwritten w May us (with_list u.0 u.1 stobjs) x d a.2 ∙ list_other x u.0 u.1 stobjs (d u.0 a.0)

-- a place apart from those that are written
outside_kept : (w : World) (scope : Scope) (us : List Write) (stobjs : Stobjs ℕ) (store : Store ℕ) (p : Place) → ((x : ℕ) → IsStobj scope x → AreApart p (place_of store.scope x)) → AreWrites w (IsStobj scope) us → Stands w scope stobjs store
    → list_at (roots_after store.scope us store.roots) p ≡ list_at store.roots p
outside_kept w scope [] stobjs store p d a stands = refl
outside_kept w scope (u ∷ us) stobjs store p d a stands =
    outside_kept w scope us (with_list u.0 u.1 stobjs) (record store { roots = with_list_at (place_of store.scope u.0) u.1 store.roots }) p d a.2 (stands_written w scope stobjs store u.0 u.1 stands a.0 a.1)
    ∙ at_other p (place_of store.scope u.0) u.1 store.roots (d u.0 a.0) (stands.places u.0 a.0)

module _ (w : World) (scope : Scope) (s : State ℕ) (t : StateOf (Store ℕ)) (stands : Stands w scope s.stobjs t.stobjs) where
  ends : (u : State ℕ) (v : StateOf (Store ℕ)) (Now : ℕ → Type 0) → ((x : ℕ) → Now x → IsStobj scope x) → Moves w Now s t u v → Ends w scope s t u v
  ends u v Now f m = record {
    same = m.same;
    stands = stands_moved w scope Now s t u v f stands m;
    places = m.places;
    journal = m.journal;
    writes = m.writes;
    allowed = wider m.writes m.allowed;
    lists = m.stobjs;
    stores = m.roots tt;
    roots = m.count;
    outside = λ p d. ap (λ (rs : List (StobjList ℕ)). list_at rs p) (m.roots tt) ∙ outside_kept w scope m.writes s.stobjs t.stobjs p d (wider m.writes m.allowed) stands;
    others = λ x d. ap (λ (o : Stobjs ℕ). list_of o x) m.stobjs ∙ unwritten w Now m.writes s.stobjs x (λ y i e. d (subst (IsStobj scope) (sym e) (f y i))) m.allowed;
  }
    where
      wider : (us : List Write) → AreWrites w Now us → AreWrites w (IsStobj scope) us
      wider [] a = tt
      wider (q ∷ us) a = (f q.0 a.0, a.1, wider us a.2)

  halts : (u : State ℕ) (v : StateOf (Store ℕ)) → StopsMoved w (IsStobj scope) s t u v → Halts w scope s t u v
  halts u v m = record {
    same = m.same;
    places = m.places;
    journal = m.journal;
    writes = m.writes;
    allowed = m.allowed;
    lists = m.stobjs;
    roots = m.count;
    others = λ x d. ap (λ (o : Stobjs ℕ). list_of o x) m.stobjs ∙ unwritten w (IsStobj scope) m.writes s.stobjs x (λ y i e. d (subst (IsStobj scope) (sym e) i)) m.allowed;
  }

  ends_at_stop : (u : State ℕ) (v : StateOf (Store ℕ)) → StopsMoved w (IsStobj scope) s t u v → EndsAtStop w scope t.stobjs.journal s t u v
  ends_at_stop u v m = by_journal t.stobjs.journal refl
    where
      by_journal : (j : Journal ℕ) → t.stobjs.journal ≡ j → EndsAtStop w scope j s t u v
      by_journal Closed e = ends u v (IsStobj scope) (λ x i. i) (moves_where w (t.stobjs.journal ≡ Closed) (IsStobj scope) s t u v e m)
      by_journal (Open n before) e = halts u v m

  agrees : (expected : List Out) (a : Outcome ℕ) (b : OutcomeOf ℕ (Store ℕ)) → Meet w (AreOutputs scope expected) (May scope expected) (IsStobj scope) s t a b → Agrees w scope expected s t a b
  agrees expected (Gives values u) (Gives others v) m = (
    m.0,
    m.1,
    ends u v (May scope expected) (λ x i. i.1) m.2,
    λ x h. ap (λ (o : Stobjs ℕ). list_of o x) m.2.stobjs
        ∙ unwritten w (May scope expected) m.2.writes s.stobjs x (λ y i e. true_false (sym i.0 ∙ (ap (has (classes.stobjs expected)) (sym e) ∙ h))) m.2.allowed,
  )
  agrees expected (Gives values u) (Stops stop origin v) m = absurd m
  agrees expected (Gives values u) Unknown m = absurd m
  agrees expected (Stops stop origin u) (Gives others v) m = absurd m
  agrees expected (Stops stop origin u) (Stops other from v) m = (m.0, m.1, ends_at_stop u v m.2)
  agrees expected (Stops stop origin u) Unknown m = absurd m
  agrees expected Unknown b m = absurd m

pub in_place_is_applicative : InPlaceIsApplicative
in_place_is_applicative = record {
  same = λ w threaded c mode scope form expected suits n accepted formed packages k d variables s t are stands e.
      agrees w scope s t stands expected _ _
      ((meets_evaluated w threaded packages k d).meets c mode scope form None expected suits n (accepted_first c mode scope form expected accepted) formed variables s t are stands e);
}
