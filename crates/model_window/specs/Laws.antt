-- What is said of the machine over trees.
use Rattle.std.specs.Prelude.{[], ◌≡◌, ℕ, zero, suc, List, Some}
use Rattle.model_symbols.specs.Symbols.{Package}
use Rattle.model_terms.specs.Cores.{Core}
use Rattle.model_terms.specs.Worlds.{World}
use Rattle.model_eval.specs.Outcomes.{StateOf, OutcomeOf}
use Rattle.model_eval.specs.Keeping.{Keeping}
use Rattle.model_eval.specs.Variables.{Variables}
use Rattle.model_eval.specs.Evaluated.{RulesOf, evaluated}
use Rattle.model_eval.specs.Checked.{checked_keeping}
use Rattle.model_machine.specs.Frames as machine
use Rattle.model_machine.specs.Turns.{turn_of}
use Rattle.model_machine.specs.Ending as machines
use Rattle.model_machine.specs.Cutting as cutting
use Rattle.model_machine.specs.Stands.{running}
use Rattle.model_slots.specs.Trees.{Tree}
use Rattle.model_slots.specs.Environments.{Environment, LiesBelow, variables_in}
use Rattle.model_slots.specs.Resolved.{resolved}
use Rattle.model_window.specs.Windows.{Memory}
use Rattle.model_window.specs.Frames.{Code}
use Rattle.model_window.specs.Frames as windows
use Rattle.model_window.specs.Turns.{turn, begun_on}
use Rattle.model_window.specs.Stands.{Origins, IsEarlier, HoldsTrees, SeesNil, Worlds, Stands, TurnStands}
use Rattle.model_window.specs.Following.{worlds_after}
use Rattle.model_window.specs.Fitting.{Fits}

-- a machine over trees takes the turns of the machine over forms that it stands for, and is over when that is, with its outcome
pub record TakesTurns {S O B : Type 0} (keeping : Keeping S O B) : Type 0 where
  pub turns : (r : RulesOf keeping) (origins : Origins) (code : Code) → HoldsTrees r.world origins code → SeesNil r → (worlds : Worlds) (m : windows.Machine S O B) (n : machine.Machine S O B)
      → Stands r.world worlds m n → Fits r worlds n → TurnStands r.world (worlds_after r origins worlds n) (turn r code m) (turn_of r n)

-- checked evaluation shows NIL in a form as NIL
pub record ChecksSeeNil {O B : Type 0} (keeping : Keeping ℕ O B) : Type 0 where
  pub sees : (w : World) (packages : List Package) (limit : ℕ) → SeesNil (checked_keeping keeping w packages limit)

-- nothing is open, and what begins was resolved in this world
abbrev pub begun_in : World → Worlds
begun_in c = record { frames = []; control = c }

-- in some worlds
pub record StandsInSome {S O B : Type 0} (w : World) (m : windows.Machine S O B) (n : machine.Machine S O B) : Type 0 where
  pub worlds : Worlds
  pub stands : Stands w worlds m n

-- machines that are begun stand for one another, where the tree is that of the form
pub record BeginsAlike {S O B : Type 0} (keeping : Keeping S O B) : Type 0 where
  pub begins : (r : RulesOf keeping) (c : World) (depth s : ℕ) (env : Environment) (form : Core) (tree : Tree) (memory : Memory S) (state : StateOf O) → IsEarlier c r.world → LiesBelow s env
      → resolved c env s form ≡ Some tree → Stands {B = B} r.world (begun_in c) (begun_on depth tree memory state) (machines.begun_on depth form (variables_in memory env) state)

module _ {S O B : Type 0} {keeping : Keeping S O B} (r : RulesOf keeping) where
  -- what is bound fits in each of so many turns
  abbrev pub FitsFor : Origins → ℕ → Worlds → machine.Turned S O B → Type 0
  FitsFor origins n worlds (machine.Over outcome) = Unit {0}
  FitsFor origins zero worlds (machine.Going m) = Unit {0}
  FitsFor origins (suc n) worlds (machine.Going m) = Fits r worlds m × FitsFor origins n (worlds_after r origins worlds m) (turn_of r m)

  -- after exactly so many more turns it is over, with this outcome
  abbrev pub EndsIn : Code → ℕ → windows.Turned S O B → OutcomeOf S O → Type 0
  EndsIn code zero (windows.Over last) outcome = last ≡ outcome
  EndsIn code zero (windows.Going m) outcome = ⊥
  EndsIn code (suc n) (windows.Over last) outcome = ⊥
  EndsIn code (suc n) (windows.Going m) outcome = EndsIn code n (turn r code m) outcome

-- it ends in as many turns, with the same outcome
pub record EndsAlike {S O B : Type 0} (keeping : Keeping S O B) : Type 0 where
  pub ends : (r : RulesOf keeping) (origins : Origins) (code : Code) → HoldsTrees r.world origins code → SeesNil r → (n : ℕ) (worlds : Worlds) (m : windows.Turned S O B) (m' : machine.Turned S O B) (outcome : OutcomeOf S O)
      → TurnStands r.world worlds m m' → FitsFor r origins n worlds m' → machines.EndsIn r n m' outcome → EndsIn r code n m outcome

-- so many turns lead from a machine to another
abbrev pub Leads : {S O B : Type 0} {keeping : Keeping S O B} → RulesOf keeping → Code → ℕ → windows.Turned S O B → windows.Machine S O B → Type 0
Leads r code n (windows.Over last) m = ⊥
Leads r code zero (windows.Going start) m = start ≡ m
Leads r code (suc n) (windows.Going start) m = Leads r code n (turn r code start) m

-- where turns lead to a machine, as many lead to one that it stands for
pub record LeadsAlike {S O B : Type 0} (keeping : Keeping S O B) : Type 0 where
  pub leads : (r : RulesOf keeping) (origins : Origins) (code : Code) → HoldsTrees r.world origins code → SeesNil r → (n : ℕ) (worlds : Worlds) (start : windows.Turned S O B) (start' : machine.Turned S O B) (m : windows.Machine S O B)
      → TurnStands r.world worlds start start' → FitsFor r origins n worlds start' → Leads r code n start m
      → (m' : machine.Machine S O B) × cutting.Leads r n start' m' × StandsInSome r.world m m'

-- a machine that is begun on the tree of a form ends with what evaluation of the form gives
pub record EvaluatesTrees {S O B : Type 0} (keeping : Keeping S O B) : Type 0 where
  pub left : RulesOf keeping → ℕ → Core → Variables S → StateOf O → ℕ  -- the turns that it takes
  pub ends : (r : RulesOf keeping) (origins : Origins) (code : Code) → HoldsTrees r.world origins code → SeesNil r → (c : World) (depth s : ℕ) (env : Environment) (form : Core) (tree : Tree) (memory : Memory S) (state : StateOf O)
      → IsEarlier c r.world → LiesBelow s env → resolved c env s form ≡ Some tree
      → FitsFor r origins (left r depth form (variables_in memory env) state) (begun_in c) (machine.Going (machines.begun_on depth form (variables_in memory env) state))
      → EndsIn r code (left r depth form (variables_in memory env) state) (windows.Going (begun_on depth tree memory state)) (evaluated (running r) depth form (variables_in memory env) state)
