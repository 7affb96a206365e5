-- When an evaluation on lists and one in place agree.
use Rattle.std.specs.Prelude.{◌≡◌, ℕ, List, length, false}
use Rattle.model_terms.specs.Worlds.{World, Out, Scope}
use Rattle.model_terms.specs.Classes as classes
use Rattle.model_terms.specs.Classes.{has}
use Rattle.model_eval.specs.Outcomes.{StateOf, State, OutcomeOf, Outcome, Gives, Stops, Unknown}
use Rattle.model_eval.specs.PlacesKeeping.{Place, Journal, Closed, Open, Store, place_of, list_at}
use Rattle.model_eval.specs.Variables.{list_of}
use Rattle.model_places.specs.Places.{AreApart}
use Rattle.model_accepted.specs.StobjScopes.{IsStobj, AreOutputs}
use Rattle.model_in_place.specs.Standing.{Stands, AreSame}
use Rattle.model_in_place.specs.Writes.{Write, stobjs_after, roots_after, AreWrites}

-- ---- states after evaluation in a scope, and those before it

-- after values, and after a stop where no export was under way
pub record Ends (w : World) (scope : Scope) (s : State ℕ) (t : StateOf (Store ℕ)) (u : State ℕ) (v : StateOf (Store ℕ)) : Type 0 where
  pub same : AreSame u v
  -- each stobj in scope has C's list at its place, which is as before
  pub stands : Stands w scope u.stobjs v.stobjs
  pub places : v.stobjs.scope ≡ t.stobjs.scope
  pub journal : v.stobjs.journal ≡ t.stobjs.journal
  -- all that has changed, in both, is what the same writes to stobjs in scope change
  pub writes : List Write
  pub allowed : AreWrites w (IsStobj scope) writes
  pub lists : u.stobjs ≡ stobjs_after writes s.stobjs
  pub stores : v.stobjs.roots ≡ roots_after t.stobjs.scope writes t.stobjs.roots
  -- so outside their places nothing has changed
  pub roots : length v.stobjs.roots ≡ length t.stobjs.roots
  pub outside : (p : Place) → ((x : ℕ) → IsStobj scope x → AreApart p (place_of t.stobjs.scope x)) → list_at v.stobjs.roots p ≡ list_at t.stobjs.roots p
  pub others : (x : ℕ) → (IsStobj scope x → ⊥) → list_of u.stobjs x ≡ list_of s.stobjs x

-- after a stop while an export was under way, at whose end the lists and the roots are to be what they were when it began: the
-- same writes to stobjs in scope have changed the lists, and of the roots it is said how many they are
pub record Halts (w : World) (scope : Scope) (s : State ℕ) (t : StateOf (Store ℕ)) (u : State ℕ) (v : StateOf (Store ℕ)) : Type 0 where
  pub same : AreSame u v
  pub places : v.stobjs.scope ≡ t.stobjs.scope
  pub journal : v.stobjs.journal ≡ t.stobjs.journal
  pub writes : List Write
  pub allowed : AreWrites w (IsStobj scope) writes
  pub lists : u.stobjs ≡ stobjs_after writes s.stobjs
  pub roots : length v.stobjs.roots ≡ length t.stobjs.roots
  pub others : (x : ℕ) → (IsStobj scope x → ⊥) → list_of u.stobjs x ≡ list_of s.stobjs x

-- by what was remembered before
abbrev pub EndsAtStop : World → Scope → Journal ℕ → State ℕ → StateOf (Store ℕ) → State ℕ → StateOf (Store ℕ) → Type 0
EndsAtStop w scope Closed s t u v = Ends w scope s t u v
EndsAtStop w scope (Open n before) s t u v = Halts w scope s t u v

-- ---- outcomes

-- a stobj that is not among the outputs has the list that it had
abbrev pub Keeps : Scope → List Out → State ℕ → State ℕ → Type 0
Keeps scope expected s u = (x : ℕ) → has (classes.stobjs expected) x ≡ false → list_of u.stobjs x ≡ list_of s.stobjs x

-- the same values, or the same stop from the same place, and stobjs that still stand for each other
abbrev pub Agrees : World → Scope → List Out → State ℕ → StateOf (Store ℕ) → Outcome ℕ → OutcomeOf ℕ (Store ℕ) → Type 0
Agrees w scope expected s t (Gives values u) (Gives others v) = (others ≡ values) × AreOutputs scope expected values × Ends w scope s t u v × Keeps scope expected s u
Agrees w scope expected s t (Gives values u) (Stops stop origin v) = ⊥
Agrees w scope expected s t (Gives values u) Unknown = ⊥
Agrees w scope expected s t (Stops stop origin u) (Gives others v) = ⊥
Agrees w scope expected s t (Stops stop origin u) (Stops other from v) = (other ≡ stop) × (from ≡ origin) × EndsAtStop w scope t.stobjs.journal s t u v
Agrees w scope expected s t (Stops stop origin u) Unknown = ⊥
Agrees w scope expected s t Unknown r = ⊥
