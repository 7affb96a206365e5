-- When lists and a store stand for the same stobjs.
use Rattle.std.specs.Prelude.{◌≡◌, ◌≢◌, ℕ, true}
use Rattle.model_terms.specs.Worlds.{World, Scope}
use Rattle.model_eval.specs.Outcomes.{Stobjs, StateOf, State}
use Rattle.model_eval.specs.PlacesKeeping.{Store, place_of, list_at}
use Rattle.model_eval.specs.Variables.{list_of}
use Rattle.model_eval_laws.specs.Scope.{names, is_among}
use Rattle.model_places.specs.Places.{AreApart, IsPlace}
use Rattle.model_accepted.specs.Threaded.{Fits}
use Rattle.model_accepted.specs.StobjScopes.{IsStobj}

-- each stobj in scope has its list at its place, and no place is another or below it
pub record Stands (w : World) (scope : Scope) (stobjs : Stobjs ℕ) (store : Store ℕ) : Type 0 where
  pub same : (x : ℕ) → IsStobj scope x → list_of stobjs x ≡ list_at store.roots (place_of store.scope x)
  pub known : (x : ℕ) → IsStobj scope x → is_among x (names stobjs) ≡ true
  pub places : (x : ℕ) → IsStobj scope x → IsPlace store.roots (place_of store.scope x)
  pub apart : (x y : ℕ) → IsStobj scope x → IsStobj scope y → x ≢ y → AreApart (place_of store.scope x) (place_of store.scope y)
  pub fits : (x : ℕ) → IsStobj scope x → Fits w x (list_of stobjs x)

-- the two states tell the same, but for how stobjs are kept
pub record AreSame (s : State ℕ) (t : StateOf (Store ℕ)) : Type 0 where
  pub symbols : t.symbols ≡ s.symbols
  pub calls : t.calls ≡ s.calls
  pub outer : t.outer ≡ s.outer
