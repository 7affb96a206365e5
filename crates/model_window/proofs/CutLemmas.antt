-- A machine over trees at the moment, and evaluation with no more calls than it has counted.
use Rattle.std.specs.Prelude.{◌≡◌, ℕ, ◌+◌, List, length, Option, Some, None, refl}
use Rattle.std.proofs.Common.{sym, ap, ◌∙◌, subst}
use Rattle.model_terms.specs.Cores.{Core}
use Rattle.model_terms.specs.Worlds.{World}
use Rattle.model_eval.specs.Outcomes.{StateOf, OutcomeOf, Gives, Stops, Unknown}
use Rattle.model_eval.specs.Keeping.{Keeping, leaving}
use Rattle.model_eval.specs.PlacesKeeping.{places_keeping}
use Rattle.model_eval.specs.Variables.{Variables}
use Rattle.model_eval.specs.Evaluated.{RulesOf, evaluated}
use Rattle.model_machine.specs.Frames as machine
use Rattle.model_machine.specs.Turns as forms
use Rattle.model_machine.specs.Ending as machines
use Rattle.model_machine.specs.Stands.{running}
use Rattle.model_machine.specs.Cutting as cutting
use Rattle.model_machine.specs.Cutting.{with_limit, PrimitivesCountNone, PrimitivesWriteNone}
use Rattle.model_machine.proofs.Steady.{places_cut_now}
use Rattle.model_slots.specs.Environments.{variables_in}
use Rattle.model_window.specs.Windows.{Memory}
use Rattle.model_window.specs.Frames.{Code}
use Rattle.model_window.specs.Frames as windows
use Rattle.model_window.specs.Turns.{out_of, begun_on}
use Rattle.model_window.specs.Stands.{StepStands, Tests, Parts, Several, Calling, Guarding, Running, Allowing, Exporting, Borrowing, Producing, Putting, Local, Last, FramesStand, Ends, Inside}
use Rattle.model_window.specs.Laws.{begun_in, StandsInSome}
use Rattle.model_window.specs.Closing.{ended_state, passed, settled, state_by, HasStateNow, IsCutNow}
use Rattle.model_window.proofs.ClosedLemmas.{out_alike, left_alike, loans_alike, state_alike}
use Rattle.model_window.proofs.WholeLemmas.{leads_alike, begins_standing}

module _ {S O B : Type 0} {keeping : Keeping S O B} (r : RulesOf keeping) (code : Code) where
  pub ended_alike : (c : World) (memory : Memory S) (base outer inner : ℕ) (variables : Variables S) (step : windows.Step S B) (step' : machine.Step S B) (state : StateOf O) → StepStands r.world c memory base outer inner variables step step'
      → ended_state r code memory base step state ≡ forms.ended_state r step' state
  ended_alike c memory base outer inner variables step step' state (Tests env s held other b d lower upper scope is_held is_other) = refl
  ended_alike c memory base outer inner variables step step' state (Parts env s count trees goal forms before aim lower upper scope held many are then_is) = refl
  ended_alike c memory base outer inner variables step step' state (Several env s tree names body lower upper scope is) = refl
  ended_alike c memory base outer inner variables step step' state (Calling s n count f actuals lower upper held many is) = refl
  ended_alike c memory base outer inner variables step step' state (Guarding export export' name formals names tree behind actuals body lower runs are held is) =
      ap (out_of r code export) (left_alike r code memory base inner formals names actuals behind state are) ∙ out_alike r code memory base (base + length formals) export export' (leaving keeping formals actuals behind state) runs
  ended_alike c memory base outer inner variables step step' state (Running export export' formals names behind actuals lower runs are) =
      ap (out_of r code export) (left_alike r code memory base inner formals names actuals behind state are) ∙ out_alike r code memory base inner export export' (leaving keeping formals actuals behind state) runs
  ended_alike c memory base outer inner variables step step' state (Allowing f names begun behind actuals lower are) = left_alike r code memory base inner f.formals names actuals behind state are
  ended_alike c memory base outer inner variables step step' state (Exporting f names begun actuals lower are) = refl
  ended_alike c memory base outer inner variables step step' state (Borrowing env s children borrowed held other names forms loans vars producer consumer lower upper scope are marks is_held is) = refl
  ended_alike c memory base outer inner variables step step' state (Producing env s borrowed other vars loans consumer lower upper scope marks is) = loans_alike r code vars loans borrowed state marks
  ended_alike c memory base outer inner variables step step' state (Putting env s left borrowed other vars loans_left loans consumer given lower upper scope marks_left marks held is) = loans_alike r code vars loans borrowed state marks
  ended_alike c memory base outer inner variables step step' state (Local env s tree names body lower upper scope is) = refl
  ended_alike c memory base outer inner variables step step' state (Last export export' lower runs) = out_alike r code memory base inner export export' state runs

  passed_alike : (memory : Memory S) (cs : List World) (inner : ℕ) (fs : List (windows.Frame S B)) (fs' : List (machine.Frame S B)) (state : StateOf O) → FramesStand r.world memory cs inner fs fs'
      → cutting.passed r fs' state ≡ passed r code memory fs state
  passed_alike memory cs inner fs fs' state (Ends i) = refl
  passed_alike memory cs inner fs fs' state (Inside c ds base outer i variables step step' gs gs' earlier st hs) =
      passed_alike memory ds outer gs gs' (forms.ended_state r step' state) hs ∙ ap (passed r code memory gs) (sym (ended_alike c memory base outer i variables step step' state st))

  settled_alike : (memory : Memory S) (cs : List World) (inner : ℕ) (fs : List (windows.Frame S B)) (fs' : List (machine.Frame S B)) (state : StateOf O) → FramesStand r.world memory cs inner fs fs'
      → cutting.settled r fs' state ≡ settled r code memory fs state
  settled_alike memory cs inner fs fs' state (Ends i) = refl
  settled_alike memory cs inner fs fs' state (Inside c ds base outer i variables step step' gs gs' earlier st hs) =
      settled_alike memory ds outer gs gs' (forms.closed_state r step' state) hs ∙ ap (settled r code memory gs) (sym (state_alike r code c memory base outer i variables step step' state st))

  by_alike : (export : Option ℕ) (memory : Memory S) (cs : List World) (inner : ℕ) (fs : List (windows.Frame S B)) (fs' : List (machine.Frame S B)) (state : StateOf O) → FramesStand r.world memory cs inner fs fs'
      → cutting.state_by r export fs' state ≡ state_by r code export memory fs state
  by_alike None memory cs inner fs fs' state hs = passed_alike memory cs inner fs fs' state hs
  by_alike (Some x) memory cs inner fs fs' state hs = settled_alike memory cs inner fs fs' state hs

  now_alike : (memory : Memory S) (cs : List World) (inner : ℕ) (fs : List (windows.Frame S B)) (fs' : List (machine.Frame S B)) (state : StateOf O) (outcome : OutcomeOf S O) → FramesStand r.world memory cs inner fs fs'
      → cutting.HasStateNow r fs' state outcome → HasStateNow r code memory fs state outcome
  now_alike memory cs inner fs fs' state (Gives values after) hs e = e ∙ passed_alike memory cs inner fs fs' state hs
  now_alike memory cs inner fs fs' state (Stops stop origin after) hs e = e ∙ by_alike origin.inside memory cs inner fs fs' state hs
  now_alike memory cs inner fs fs' state Unknown hs e = absurd e

  -- at a machine that stands for one at which it holds
  standing_now : (depth : ℕ) (form : Core) (variables : Variables S) (start : StateOf O) (m : windows.Machine S O B) (m' : machine.Machine S O B) → StandsInSome r.world m m'
      → cutting.HasStateNow r m'.frames m'.state (evaluated (running (with_limit m'.state.calls r)) depth form variables start)
      → HasStateNow r code m.memory m.frames m.state (evaluated (running (with_limit m.state.calls r)) depth form variables start)
  standing_now depth form variables start m m' st e =
      now_alike m.memory st.worlds.frames st.stands.inner m.frames m'.frames m.state (evaluated (running (with_limit m.state.calls r)) depth form variables start) st.stands.frames
      (subst (λ state. cutting.HasStateNow r m'.frames state (evaluated (running (with_limit state.calls r)) depth form variables start)) (sym st.stands.state) e)

cut_alike : {S O B : Type 0} (keeping : Keeping S O B) → cutting.IsCutNow keeping → IsCutNow keeping
cut_alike keeping known = record {
  cut = λ r origins code h sees count write c depth s env form tree memory state earlier l e n m below fit leads.
      let found : (m' : machine.Machine _ _ _) × cutting.Leads r n (machine.Going (machines.begun_on depth form (variables_in memory env) state)) m' × StandsInSome r.world m m' =
      leads_alike r origins code h sees n (begun_in c) (windows.Going (begun_on depth tree memory state)) (machine.Going (machines.begun_on depth form (variables_in memory env) state)) m
      (begins_standing r origins code h sees c depth s env form tree memory state earlier l e) fit leads in
      standing_now r code depth form (variables_in memory env) state m found.0 found.2 (known.cut r count write depth form (variables_in memory env) state n found.0 below found.1);
}

pub places_cut : {S : Type 0} → IsCutNow (places_keeping {S = S})
places_cut = cut_alike places_keeping places_cut_now
