-- What is told of stobjs in place, as a law.
use Rattle.std.specs.Prelude.{◌≡◌, ℕ, List}
use Rattle.model_symbols.specs.Symbols.{QualifiedName}
use Rattle.model_terms.specs.Worlds.{World, Out, Scope}
use Rattle.model_eval.specs.Outcomes.{Stobjs, OutcomeOf, Outcome}
use Rattle.model_eval.specs.PlacesKeeping.{Store}
use Rattle.model_eval.specs.Checked.{begun}
use Rattle.model_eval.specs.InPlace.{begun_in_place}
use Rattle.model_in_place.specs.Agreement.{Agrees}
use Rattle.model_in_place_books.specs.Commands.{outcome_read}

-- an outcome in place that agrees with one on lists is read as that one, where both began with these stobjs
pub record RootsAreRead : Type 0 where
  pub same : (w : World) (scope : Scope) (expected : List Out) (stobjs : Stobjs ℕ) (symbols : List QualifiedName) (used : ℕ) (a : Outcome ℕ) (b : OutcomeOf ℕ (Store ℕ))
      → Agrees w scope expected (begun symbols stobjs used) (begun_in_place symbols stobjs used) a b → outcome_read stobjs b ≡ a
