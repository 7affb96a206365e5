-- Whole runs of machines that stand for one another.
use Rattle.std.specs.Prelude.{◌≡◌, ℕ, zero, suc, Some, refl}
use Rattle.std.proofs.Common.{subst}
use Rattle.model_terms.specs.Cores.{Core}
use Rattle.model_terms.specs.Worlds.{World}
use Rattle.model_eval.specs.Outcomes.{StateOf}
use Rattle.model_eval.specs.Keeping.{Keeping}
use Rattle.model_eval.specs.Variables.{Variables}
use Rattle.model_eval.specs.Evaluated.{RulesOf, evaluated}
use Rattle.model_machine.specs.Frames as machine
use Rattle.model_machine.specs.Turns.{turn_of}
use Rattle.model_machine.specs.Ending as machines
use Rattle.model_machine.specs.Cutting as cutting
use Rattle.model_machine.specs.Stands.{running}
use Rattle.model_machine.proofs.Ends.{always_ends}
use Rattle.model_slots.specs.Trees.{Tree}
use Rattle.model_slots.specs.Environments.{Environment, LiesBelow, variables_in}
use Rattle.model_slots.specs.Resolved.{resolved}
use Rattle.model_window.specs.Windows.{Memory}
use Rattle.model_window.specs.Frames.{Code}
use Rattle.model_window.specs.Frames as windows
use Rattle.model_window.specs.Turns.{turn, begun_on}
use Rattle.model_window.specs.Stands.{Origins, IsEarlier, HoldsTrees, SeesNil, Worlds, Stands, TurnStands}
use Rattle.model_window.specs.Following.{worlds_after}
use Rattle.model_window.specs.Laws.{begun_in, StandsInSome, FitsFor, EndsIn, Leads, LeadsAlike, EvaluatesTrees}
use Rattle.model_window.proofs.TurnLemmas.{turns_alike, ends_alike, begun_alike}

module _ {S O B : Type 0} {keeping : Keeping S O B} (r : RulesOf keeping) (origins : Origins) (code : Code) (h : HoldsTrees r.world origins code) (sees : SeesNil r) where
  pub leads_alike : (n : ℕ) (worlds : Worlds) (start : windows.Turned S O B) (start' : machine.Turned S O B) (m : windows.Machine S O B) → TurnStands r.world worlds start start' → FitsFor r origins n worlds start' → Leads r code n start m
      → (m' : machine.Machine S O B) × cutting.Leads r n start' m' × StandsInSome r.world m m'
  unfolding TurnStands
  leads_alike n worlds (windows.Over last) start' m st fit e = absurd e
  leads_alike n worlds (windows.Going start) (machine.Over last) m st fit e = absurd st
  leads_alike zero worlds (windows.Going start) (machine.Going start') m st fit e = (start', refl, record { worlds = worlds; stands = subst (λ k. Stands r.world worlds k start') e st })
  leads_alike (suc n) worlds (windows.Going start) (machine.Going start') m st fit e =
      leads_alike n (worlds_after r origins worlds start') (turn r code start) (turn_of r start') m (turns_alike r origins code h sees worlds start start' st fit.0) fit.1 e

  pub begins_standing : (c : World) (depth s : ℕ) (env : Environment) (form : Core) (tree : Tree) (memory : Memory S) (state : StateOf O) → IsEarlier c r.world → LiesBelow s env → resolved c env s form ≡ Some tree
      → TurnStands {B = B} r.world (begun_in c) (windows.Going (begun_on depth tree memory state)) (machine.Going (machines.begun_on depth form (variables_in memory env) state))
  unfolding TurnStands
  begins_standing c depth s env form tree memory state earlier l e = begun_alike r c depth s env form tree memory state earlier l e

pub lead_alike : {S O B : Type 0} (keeping : Keeping S O B) → LeadsAlike keeping
lead_alike keeping = record { leads = leads_alike }

module _ {S O B : Type 0} (keeping : Keeping S O B) where
  -- the turns from a beginning to the end
  abbrev turns_left : RulesOf keeping → ℕ → Core → Variables S → StateOf O → ℕ
  turns_left r depth form variables state = suc ((always_ends keeping).left r (machines.begun_on depth form variables state))

  whole : (r : RulesOf keeping) (origins : Origins) (code : Code) → HoldsTrees r.world origins code → SeesNil r → (c : World) (depth s : ℕ) (env : Environment) (form : Core) (tree : Tree) (memory : Memory S) (state : StateOf O)
      → IsEarlier c r.world → LiesBelow s env → resolved c env s form ≡ Some tree
      → FitsFor r origins (turns_left r depth form (variables_in memory env) state) (begun_in c) (machine.Going (machines.begun_on depth form (variables_in memory env) state))
      → EndsIn r code (turns_left r depth form (variables_in memory env) state) (windows.Going (begun_on depth tree memory state)) (evaluated (running r) depth form (variables_in memory env) state)
  whole r origins code h sees c depth s env form tree memory state earlier l e fit =
      ends_alike r origins code h sees (turns_left r depth form (variables_in memory env) state) (begun_in c) (windows.Going (begun_on depth tree memory state)) (machine.Going (machines.begun_on depth form (variables_in memory env) state))
      (evaluated (running r) depth form (variables_in memory env) state) (begins_standing r origins code h sees c depth s env form tree memory state earlier l e) fit
      (subst
      (machines.EndsIn r ((always_ends keeping).left r (machines.begun_on depth form (variables_in memory env) state)) (turn_of r (machines.begun_on depth form (variables_in memory env) state)))
      ((always_ends keeping).begins r depth form (variables_in memory env) state)
      ((always_ends keeping).ends r (machines.begun_on depth form (variables_in memory env) state)))

  pub evaluates_trees : EvaluatesTrees keeping
  evaluates_trees = record { left = turns_left; ends = whole }
