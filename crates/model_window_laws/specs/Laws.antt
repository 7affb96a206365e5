-- What follows of the machine over trees: it has one end, and on an accepted form that is what checked evaluation gives.
use Rattle.std.specs.Prelude.{◌≡◌, ℕ, List, Some, None}
use Rattle.model_symbols.specs.Symbols.{Package}
use Rattle.model_terms.specs.declared.rule.Mode.TheVariants.{Executable}
use Rattle.model_terms.specs.Cores.{Core}
use Rattle.model_terms.specs.Worlds.{World, Out, Scope}
use Rattle.model_terms.specs.Faults.{first_fault}
use Rattle.model_eval.specs.Outcomes.{StateOf, OutcomeOf}
use Rattle.model_eval.specs.Keeping.{Keeping}
use Rattle.model_eval.specs.Evaluated.{RulesOf, evaluated}
use Rattle.model_eval.specs.Checked.{checked_keeping}
use Rattle.model_accepted.specs.Threaded.{IsFormed, Suits, IsThreaded}
use Rattle.model_accepted.specs.StobjScopes.{AreVariables}
use Rattle.model_machine.specs.Stands.{running}
use Rattle.model_slots.specs.Trees.{Tree}
use Rattle.model_slots.specs.Environments.{Environment, LiesBelow, variables_in}
use Rattle.model_slots.specs.Resolved.{resolved}
use Rattle.model_window.specs.Windows.{Memory}
use Rattle.model_window.specs.Frames.{Code, Turned, Going}
use Rattle.model_window.specs.Turns.{begun_on}
use Rattle.model_window.specs.Stands.{Origins, IsEarlier, HoldsTrees}
use Rattle.model_window.specs.Laws.{EndsIn}
use Rattle.model_fitting.specs.Steps.{AreOrigins}

-- a machine over trees that ends ends after so many turns and no other number, with one outcome
pub record EndsOnce {S O B : Type 0} (keeping : Keeping S O B) : Type 0 where
  pub once : (r : RulesOf keeping) (code : Code) (n m : ℕ) (t : Turned S O B) (a b : OutcomeOf S O) → EndsIn r code n t a → EndsIn r code m t b → (n ≡ m) × (a ≡ b)

-- in a world whose functions were accepted and have their trees, a machine that is begun on the tree of a form in which no rule
-- fails, and whose variables are as its scope says, ends, and with what checked evaluation of the form gives
pub record AcceptedFormsEnd {O B : Type 0} (keeping : Keeping ℕ O B) : Type 0 where
  pub ends : (w : World) → IsThreaded w → (packages : List Package) (limit : ℕ) (origins : Origins) (code : Code) → AreOrigins w origins → HoldsTrees w origins code
      → (c : World) → Suits c w → IsEarlier c w → (scope : Scope) (form : Core) (expected : List Out) → IsFormed c form → first_fault c Executable scope form expected ≡ None
      → (env : Environment) (s : ℕ) → LiesBelow s env → (tree : Tree) → resolved c env s form ≡ Some tree
      → (memory : Memory ℕ) → AreVariables scope (variables_in memory env) → (depth : ℕ) (state : StateOf O)
      → (n : ℕ) × EndsIn (checked_keeping keeping w packages limit) code n (Going (begun_on depth tree memory state)) (evaluated (running (checked_keeping keeping w packages limit)) depth form (variables_in memory env) state)
  -- and with nothing else
  pub alone : (w : World) → IsThreaded w → (packages : List Package) (limit : ℕ) (origins : Origins) (code : Code) → AreOrigins w origins → HoldsTrees w origins code
      → (c : World) → Suits c w → IsEarlier c w → (scope : Scope) (form : Core) (expected : List Out) → IsFormed c form → first_fault c Executable scope form expected ≡ None
      → (env : Environment) (s : ℕ) → LiesBelow s env → (tree : Tree) → resolved c env s form ≡ Some tree
      → (memory : Memory ℕ) → AreVariables scope (variables_in memory env) → (depth : ℕ) (state : StateOf O) (n : ℕ) (outcome : OutcomeOf ℕ O)
      → EndsIn (checked_keeping keeping w packages limit) code n (Going (begun_on depth tree memory state)) outcome
      → outcome ≡ evaluated (running (checked_keeping keeping w packages limit)) depth form (variables_in memory env) state
