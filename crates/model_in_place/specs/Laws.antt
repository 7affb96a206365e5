-- In place equals applicative, as a law.
use Rattle.std.specs.Prelude.{◌≡◌, ◌≢◌, ℕ, List, None}
use Rattle.model_symbols.specs.Symbols.{Package}
use Rattle.model_terms.specs.declared.rule.Mode.{Mode}
use Rattle.model_terms.specs.declared.rule.Mode.TheVariants.{Logic}
use Rattle.model_terms.specs.Cores.{Core}
use Rattle.model_terms.specs.Worlds.{World, Out, Scope}
use Rattle.model_terms.specs.Faults.{first_fault}
use Rattle.model_eval.specs.Outcomes.{StateOf, State}
use Rattle.model_eval.specs.PlacesKeeping.{Store}
use Rattle.model_eval.specs.Variables.{Variables}
use Rattle.model_eval.specs.Checked.{checked}
use Rattle.model_eval.specs.InPlace.{in_place}
use Rattle.model_accepted.specs.Threaded.{IsFormed, Suits, IsThreaded}
use Rattle.model_accepted.specs.StobjScopes.{AreVariables}
use Rattle.model_in_place.specs.Standing.{Stands, AreSame}
use Rattle.model_in_place.specs.Agreement.{Agrees}

-- of a form that was accepted in a world that suits the one in which it runs, for every limit of calls and every depth:
-- from stobjs at places of their own, evaluation in place and evaluation on lists agree, whatever the journal is at the start
pub record InPlaceIsApplicative : Type 0 where
  pub same : (w : World) → IsThreaded w
      → (c : World) (mode : Mode) (scope : Scope) (form : Core) (expected : List Out) → Suits c w → mode ≢ Logic → first_fault c mode scope form expected ≡ None → IsFormed c form
      → (packages : List Package) (k d : ℕ) (variables : Variables ℕ) (s : State ℕ) (t : StateOf (Store ℕ))
      → AreVariables scope variables → Stands w scope s.stobjs t.stobjs → AreSame s t
      → Agrees w scope expected s t (checked w packages k d form variables s) (in_place w packages k d form variables t)
