-- What is said of turns that follow one another, as laws.
use Rattle.std.specs.Prelude.{◌≡◌, ℕ, suc}
use Rattle.model_eval.specs.Keeping.{Keeping}
use Rattle.model_window.specs.Frames as windows
use Rattle.model_window.specs.Laws.{Leads, EndsIn}
use Rattle.acl_worlds.specs.Contents.{WorldLies}
use Rattle.acl_code.specs.Tables.{TermsLie}
use Rattle.acl_machine.specs.Views.{code_of, machine_of}
use Rattle.acl_machine.specs.Turns.{rules_of, IsOver, ended_by}
use Rattle.acl_turns.specs.Runs.{Moment, Runs}

-- turns are those of the machine over trees by the rules that hold at first, and where the machine is over it
-- ends in as many turns and one more
pub record RunsLead {O B : Type 0} (keeping : Keeping ℕ O B) : Type 0 where
  pub leads : (d : B) (n : ℕ) (start now : Moment O B) → WorldLies start.there.heap start.there.content → TermsLie start.there.heap start.there.terms
      → Runs keeping d n start now
      → Leads (rules_of keeping start.there) (code_of start.there) n (windows.Going (machine_of start.there d start.kept start.lefts start.machine)) (machine_of now.there d now.kept now.lefts now.machine)
  pub ends : (d : B) (n : ℕ) (start now : Moment O B) → WorldLies start.there.heap start.there.content → TermsLie start.there.heap start.there.terms
      → Runs keeping d n start now → IsOver keeping now.there now.machine
      → EndsIn (rules_of keeping start.there) (code_of start.there) (suc n) (windows.Going (machine_of start.there d start.kept start.lefts start.machine))
      (ended_by (machine_of now.there d now.kept now.lefts now.machine).control (machine_of now.there d now.kept now.lefts now.machine).state)
