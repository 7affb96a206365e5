-- Writes, done to lists and in place.
use Rattle.std.specs.Prelude.{◌≡◌, ℕ, List, [], ◌∷◌, length, if◌then◌else◌}
use Rattle.model_lists.specs.Lists.{StobjList}
use Rattle.model_terms.specs.Worlds.{World}
use Rattle.model_terms.specs.Classes.{has}
use Rattle.model_eval.specs.Outcomes.{Shown, Stobjs, StateOf, State, OutcomeOf, Outcome, Gives, Stops, Unknown}
use Rattle.model_eval.specs.PlacesKeeping.{Places, Closed, Store, place_of, with_list_at}
use Rattle.model_eval.specs.Variables.{with_list}
use Rattle.model_accepted.specs.Threaded.{Fits}
use Rattle.model_in_place.specs.Standing.{AreSame}

-- a stobj by its name, and its new list
abbrev pub Write : Type 0
Write = ℕ × StobjList ℕ

abbrev pub stobjs_after : List Write → Stobjs ℕ → Stobjs ℕ
stobjs_after [] stobjs = stobjs
stobjs_after (u ∷ us) stobjs = stobjs_after us (with_list u.0 u.1 stobjs)

abbrev pub roots_after : Places → List Write → List (StobjList ℕ) → List (StobjList ℕ)
roots_after scope [] roots = roots
roots_after scope (u ∷ us) roots = roots_after scope us (with_list_at (place_of scope u.0) u.1 roots)

-- each writes such a stobj, and a list that it may have
abbrev pub AreWrites : World → (ℕ → Type 0) → List Write → Type 0
AreWrites w May [] = Unit {0}
AreWrites w May (u ∷ us) = May u.0 × Fits w u.0 u.1 × AreWrites w May us

-- writes to others than these
abbrev pub writes_beside : List ℕ → List Write → List Write
writes_beside kids [] = []
writes_beside kids (u ∷ us) = if has kids u.0 then writes_beside kids us else u ∷ writes_beside kids us

-- states of both kinds, and those after the same writes; that the roots are what the writes make of them is said under a condition
pub record MovesIf (w : World) (Condition : Type 0) (May : ℕ → Type 0) (s : State ℕ) (t : StateOf (Store ℕ)) (u : State ℕ) (v : StateOf (Store ℕ)) : Type 0 where
  pub writes : List Write
  pub allowed : AreWrites w May writes
  pub stobjs : u.stobjs ≡ stobjs_after writes s.stobjs
  pub roots : Condition → v.stobjs.roots ≡ roots_after t.stobjs.scope writes t.stobjs.roots
  pub count : length v.stobjs.roots ≡ length t.stobjs.roots
  pub places : v.stobjs.scope ≡ t.stobjs.scope
  pub journal : v.stobjs.journal ≡ t.stobjs.journal
  pub same : AreSame u v

abbrev pub Moves : World → (ℕ → Type 0) → State ℕ → StateOf (Store ℕ) → State ℕ → StateOf (Store ℕ) → Type 0
Moves w May s t u v = MovesIf w (Unit {0}) May s t u v

-- after a stop inside an export the roots are what they are, until that of the outermost one brings them back
abbrev pub StopsMoved : World → (ℕ → Type 0) → State ℕ → StateOf (Store ℕ) → State ℕ → StateOf (Store ℕ) → Type 0
StopsMoved w May s t u v = MovesIf w (t.stobjs.journal ≡ Closed) May s t u v

-- outcomes with the same values, of which this holds, or with the same stop from the same place; in between the same writes
abbrev pub Meet : World → (List (Shown ℕ) → Type 0) → (ℕ → Type 0) → (ℕ → Type 0) → State ℕ → StateOf (Store ℕ) → Outcome ℕ → OutcomeOf ℕ (Store ℕ) → Type 0
Meet w Are May Might s t (Gives values u) (Gives others v) = (others ≡ values) × Are values × Moves w May s t u v
Meet w Are May Might s t (Gives values u) (Stops stop origin v) = ⊥
Meet w Are May Might s t (Gives values u) Unknown = ⊥
Meet w Are May Might s t (Stops stop origin u) (Gives others v) = ⊥
Meet w Are May Might s t (Stops stop origin u) (Stops other from v) = (other ≡ stop) × (from ≡ origin) × StopsMoved w Might s t u v
Meet w Are May Might s t (Stops stop origin u) Unknown = ⊥
Meet w Are May Might s t Unknown r = ⊥
