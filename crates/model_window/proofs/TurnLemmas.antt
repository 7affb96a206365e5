-- A machine over trees takes the turns of the machine over forms that it stands for.
use Rattle.std.specs.Prelude.{◌≡◌, ℕ, zero, suc, ◌+◌, List, [], ◌∷◌, ◌++◌, map, length, Bool, true, false, Some, None, refl, if◌then◌else◌}
use Rattle.std.proofs.Common.{sym, ◌∙◌, arith, subst}
use Rattle.model_terms.specs.Cores.{Core}
use Rattle.model_terms.specs.Worlds.{World}
use Rattle.model_eval.specs.Outcomes.{Shown, Stop, Guard, Origin, StateOf, OutcomeOf, here, cut_before}
use Rattle.model_eval.specs.Outcomes as outcomes
use Rattle.model_eval.specs.Keeping.{Keeping, outer_value, entering, leaving, unmaking}
use Rattle.model_eval.specs.Variables.{Variables, single, inner_variables}
use Rattle.model_eval.specs.Evaluated.{RulesOf, is_false}
use Rattle.model_machine.specs.Frames as machine
use Rattle.model_machine.specs.Turns as forms
use Rattle.model_machine.specs.Ending as ending
use Rattle.model_slots.specs.Trees.{Tree}
use Rattle.model_slots.specs.Environments.{Environment, LiesBelow, formal_environment, variables_in}
use Rattle.model_slots.specs.Resolved.{resolved, all_resolved}
use Rattle.model_slots.proofs.SlotLemmas.{binds_as_evaluation, are_bound}
use Rattle.model_window.specs.Windows.{Memory, window, written, all_written}
use Rattle.model_window.specs.Frames.{Code, Borrowed}
use Rattle.model_window.specs.Frames as windows
use Rattle.model_window.specs.Turns.{next, refuse, stop_from, call, next_child, put_next, last_form, go_on, give, close, closed_origin, turn_by, turn, begun_on}
use Rattle.model_window.specs.Stands.{Origins, IsEarlier, HoldsTrees, SeesNil, Worlds, marked, StepStands, Tests, Parts, Several, Calling, Guarding, Running, Allowing, Exporting, Borrowing, Producing, Putting, Local, Last, FramesStand, Ends, Inside, ControlStands, Begins, Gives, Stops, Stands, TurnStands}
use Rattle.model_window.specs.Following.{worlds_of, after_step, after_give, after_stop, after_control, worlds_after}
use Rattle.model_window.specs.Fitting.{FitStep, FitControl, Fits}
use Rattle.model_window.specs.Laws.{begun_in, TakesTurns, ChecksSeeNil, BeginsAlike, FitsFor, EndsIn, EndsAlike}
use Rattle.model_window.proofs.MemoryLemmas.{Agrees, agrees_written, agrees_all, agrees_lower, holds_more, holds_all, holds_moved, read_held, window_first}
use Rattle.model_window.proofs.KeptLemmas.{scope_kept, frames_kept}
use Rattle.model_window.proofs.TreeLemmas.{length_more}
use Rattle.model_window.proofs.CallLemmas.{goes, ends, stands_if, stops_from, stops_plain, called_alike, exported_alike}
use Rattle.model_window.proofs.PartLemmas.{last_alike, bound_alike, part_alike}
use Rattle.model_window.proofs.ChildLemmas.{children_alike, put_alike}
use Rattle.model_window.proofs.ClosedLemmas.{out_alike, state_alike, origin_alike}
use Rattle.model_window.proofs.OpenLemmas.{begins_alike}

module _ {S O B : Type 0} {keeping : Keeping S O B} (r : RulesOf keeping) (origins : Origins) (code : Code) (h : HoldsTrees r.world origins code) (sees : SeesNil r) where
  goes_on : (w : World) (ws : List World) (earlier : IsEarlier w r.world) (room base outer inner : ℕ) (variables : Variables S) (fs : List (windows.Frame S B)) (fs' : List (machine.Frame S B)) (memory : Memory S) (step : windows.Step S B) (step' : machine.Step S B) (values : List (Shown S)) (state : StateOf O)
      → FramesStand r.world memory ws outer fs fs' → FitStep r w step' values → StepStands r.world w memory base outer inner variables step step'
      → TurnStands r.world (after_step origins step' w ws) (go_on r code room base fs memory step values state) (forms.go_on r room variables fs' step' values state)
  goes_on w ws earlier room base outer inner variables fs fs' memory step step' values state hs fit (Tests env s held other b d lower upper scope is_held is_other) = tested (is_false r values)
    where
      tested : (t : Bool) → TurnStands r.world (worlds_of w ws w) (last_form r code room base fs memory (if t then other else held) state) (forms.last_form r room variables fs' (if t then d else b) variables state)
      tested true = last_alike r origins code h sees w ws earlier room base s outer env variables variables fs fs' memory other d state lower scope is_other hs
      tested false = last_alike r origins code h sees w ws earlier room base s outer env variables variables fs fs' memory held b state lower scope is_held hs
  goes_on w ws earlier room base outer inner variables fs fs' memory step step' values state hs fit (Parts env s count trees goal parts before aim lower upper scope held many are then_is) =
      let v : Shown S = single r.kind values in
      let after : Memory S = written (base + (s + count)) v memory in
      let a : Agrees memory after (base + (s + count)) = agrees_written (base + (s + count)) v memory in
      let d : s + count + 1 ≡ s + (count + 1) = omega arith in
      part_alike r origins code h sees w ws earlier room base s (count + 1) outer env variables fs fs' after trees goal aim parts (before ++ v ∷ []) state lower (scope_kept memory after base s (base + (s + count)) env variables a (omega arith) scope)
      (holds_more memory base s count before v many held) (length_more before v count many) (subst (λ i. all_resolved w env i parts ≡ Some trees) d are) then_is fit
      (frames_kept r.world memory after ws outer fs fs' (agrees_lower memory after outer (base + (s + count)) (omega arith) a) hs)
  goes_on w ws earlier room base outer inner variables fs fs' memory step step' values state hs fit (Several env s tree names body lower upper scope is) =
      bound_alike r origins code h sees w ws earlier room base s outer inner env variables fs fs' memory tree names body values state lower scope fit is hs
  goes_on w ws earlier room base outer inner variables fs fs' memory step step' values state hs fit (Calling s n count f actuals lower upper held many is) =
      subst
      (λ vs. TurnStands r.world (worlds_of (origins.body f) ws (origins.guard f)) (call r code room (base + s) fs memory n vs state) (forms.call r room variables fs' f actuals state))
      (sym (read_held (window memory (base + s)) 0 count actuals many (holds_moved memory base s actuals held)))
      (called_alike r origins code h sees ws room (base + s) outer variables fs fs' memory f n actuals state is fit lower hs)
  goes_on w ws earlier room base outer inner variables fs fs' memory step step' values state hs fit (Guarding export export' name formals names tree behind actuals body lower runs are held is) =
      subst
      (λ vs. TurnStands r.world (worlds_of w ws w)
      (if is_false r values then refuse r code export room base fs memory name vs (leaving keeping formals vs behind state)
      else next r code room base fs memory (windows.Running export formals names (keeping.behind (leaving keeping formals vs behind state).stobjs)) (windows.Begin tree base) (entering keeping formals vs (leaving keeping formals vs behind state)))
      (forms.go_on r room variables fs' (machine.Guarding export' name formals actuals body behind) values state))
      are.are
      (stands_if r origins code h sees _ (is_false r values) _ _ _ _
      (stops_from r origins code h sees w ws w earlier export export' room base outer (base + length formals) variables fs fs' memory _ _ _ (omega arith) runs hs)
      (goes r origins code h sees (w ∷ ws) w room (base + length formals) _ _ memory _ _ _
      (Inside w ws base outer (base + length formals) variables _ _ fs fs' earlier (Running export export' formals names _ actuals lower runs (record { below = omega arith; as_many = are.as_many; named = are.named; are = are.are })) hs)
      (Begins (formal_environment formals) (length formals) base tree body (inner_variables formals actuals) (omega arith)
      (record { below = are_bound.formals formals; are = binds_as_evaluation.formals (window memory base) formals actuals held.as_many held.lie }) earlier is)))
  goes_on w ws earlier room base outer inner variables fs fs' memory step step' values state hs fit (Running export export' formals names behind actuals lower runs are) =
      subst
      (λ vs. TurnStands r.world (worlds_of w ws w)
      (next r code room base fs memory (windows.Last export) (windows.Give (map (outer_value formals vs) values)) (leaving keeping formals vs behind state))
      (forms.go_on r room variables fs' (machine.Running export' formals actuals behind) values state))
      are.are
      (goes r origins code h sees (w ∷ ws) w room inner _ _ memory _ _ _ (Inside w ws base outer inner variables _ _ fs fs' earlier (Last export export' (omega (arith, are.below)) runs) hs) (Gives _))
  goes_on w ws earlier room base outer inner variables fs fs' memory step step' values state hs fit (Allowing f names begun behind actuals lower are) =
      subst
      (λ vs. TurnStands r.world (worlds_of w ws w)
      (if is_false r values then stop_from r code None room base fs memory (Guard f.name vs) (cut_before begun.number (here (leaving keeping f.formals vs behind state))) (leaving keeping f.formals vs behind state)
      else next r code room base fs memory (windows.Exporting f names begun) (windows.Give []) (leaving keeping f.formals vs behind state))
      (forms.go_on r room variables fs' (machine.Allowing f actuals begun behind) values state))
      are.are
      (stands_if r origins code h sees _ (is_false r values) _ _ _ _
      (stops_plain r origins code h sees w ws w earlier room base outer variables fs fs' memory _ _ _ hs)
      (goes r origins code h sees (w ∷ ws) w room inner _ _ memory _ _ _ (Inside w ws base outer inner variables _ _ fs fs' earlier (Exporting f names begun actuals lower are) hs) (Gives [])))
  goes_on w ws earlier room base outer inner variables fs fs' memory step step' values state hs fit (Exporting f names begun actuals lower are) =
      exported_alike r origins code h sees ws room base outer inner variables fs fs' memory f names begun actuals state fit lower are hs
  goes_on w ws earlier room base outer inner variables fs fs' memory step step' values state hs fit (Borrowing env s children borrowed held other names parts loans vars producer consumer lower upper scope are marks is_held is) =
      subst
      (λ bs. TurnStands r.world (worlds_of w ws w) (next_child r code room base fs memory s children bs held other state) (forms.next_child r room variables fs' names parts loans vars producer consumer state))
      (sym marks)
      (children_alike r origins code h sees w ws earlier room base s outer inner env variables fs fs' memory children held other names parts loans vars producer consumer state lower upper scope are fit is_held is hs)
  goes_on w ws earlier room base outer inner variables fs fs' memory step step' values state hs fit (Producing env s borrowed other vars loans consumer lower upper scope marks is) =
      let after : Memory S = all_written (base + s) values memory in
      let a : Agrees memory after (base + s) = agrees_all (base + s) values memory in
      subst
      (λ bs. TurnStands r.world (worlds_of w ws w) (put_next r code room base fs after s bs bs other state) (forms.put_next r room variables fs' vars loans loans consumer values state))
      (sym marks)
      (put_alike r origins code h sees w ws earlier room base s outer (base + (s + length values)) env variables fs fs' after other vars loans loans consumer values state lower (omega arith)
      (scope_kept memory after base s (base + s) env variables a (omega arith) scope) fit (holds_all base s values memory) is (frames_kept r.world memory after ws outer fs fs' (agrees_lower memory after outer (base + s) lower a) hs))
  goes_on w ws earlier room base outer inner variables fs fs' memory step step' values state hs fit (Putting env s left borrowed other vars loans_left loans consumer given lower upper scope marks_left marks held is) =
      subst
      (λ ls. TurnStands r.world (worlds_of w ws w) (put_next r code room base fs memory s ls borrowed other state) (forms.put_next r room variables fs' vars loans_left loans consumer given state))
      (sym marks_left)
      (subst
      (λ bs. TurnStands r.world (worlds_of w ws w) (put_next r code room base fs memory s (marked vars loans_left) bs other state) (forms.put_next r room variables fs' vars loans_left loans consumer given state))
      (sym marks)
      (put_alike r origins code h sees w ws earlier room base s outer inner env variables fs fs' memory other vars loans_left loans consumer given state lower upper scope fit held is hs))
  goes_on w ws earlier room base outer inner variables fs fs' memory step step' values state hs fit (Local env s tree names body lower upper scope is) =
      bound_alike r origins code h sees w ws earlier room base s outer inner env variables fs fs' memory tree names body values (unmaking keeping state) lower scope fit is hs
  goes_on w ws earlier room base outer inner variables fs fs' memory step step' values state hs fit (Last export export' lower runs) =
      subst
      (λ after. TurnStands r.world (record { frames = ws; control = w })
      (windows.Going (record { room = suc room; frames = fs; memory = memory; control = windows.Give values; state = after }))
      (forms.go_on r room variables fs' (machine.Last export') values state))
      (sym (out_alike r code memory base inner export export' state runs))
      (goes r origins code h sees ws w (suc room) outer fs fs' memory _ _ _ hs (Gives values))

  gives_alike : (ws : List World) (z : World) (room inner : ℕ) (fs : List (windows.Frame S B)) (fs' : List (machine.Frame S B)) (memory : Memory S) (values : List (Shown S)) (state : StateOf O)
      → FitControl r (record { frames = ws; control = z }) fs' (machine.Give values) → FramesStand r.world memory ws inner fs fs'
      → TurnStands r.world (after_give origins fs' ws (record { frames = ws; control = z })) (give r code room fs memory values state) (forms.give r room fs' values state)
  gives_alike ws z room inner fs fs' memory values state fit (Ends i) = ends r origins code h sees _ (outcomes.Gives values state)
  gives_alike ws z room inner fs fs' memory values state fit (Inside w vs base outer i variables step step' gs gs' earlier st hs) = goes_on w vs earlier room base outer i variables gs gs' memory step step' values state hs fit st

  closes_alike : (ws : List World) (z : World) (room inner : ℕ) (fs : List (windows.Frame S B)) (fs' : List (machine.Frame S B)) (memory : Memory S) (stop : Stop S) (origin : Origin) (state : StateOf O)
      → FramesStand r.world memory ws inner fs fs'
      → TurnStands r.world (after_stop ws z) (close r code room fs memory stop origin state) (forms.close r room fs' stop origin state)
  closes_alike ws z room inner fs fs' memory stop origin state (Ends i) = ends r origins code h sees _ (outcomes.Stops stop origin state)
  closes_alike ws z room inner fs fs' memory stop origin state (Inside w vs base outer i variables step step' gs gs' earlier st hs) =
      subst
      (λ after. TurnStands r.world (record { frames = vs; control = z })
      (windows.Going (record { room = suc room; frames = gs; memory = memory; control = windows.Stopped stop (closed_origin r code step origin); state = after }))
      (machine.Going (record { room = suc room; frames = gs'; control = machine.Stopped stop (forms.closed_origin r step' origin); state = forms.closed_state r step' state })))
      (sym (state_alike r code w memory base outer i variables step step' state st))
      (subst
      (λ from. TurnStands r.world (record { frames = vs; control = z })
      (windows.Going (record { room = suc room; frames = gs; memory = memory; control = windows.Stopped stop from; state = forms.closed_state r step' state }))
      (machine.Going (record { room = suc room; frames = gs'; control = machine.Stopped stop (forms.closed_origin r step' origin); state = forms.closed_state r step' state })))
      (sym (origin_alike r code w memory base outer i variables step step' origin st))
      (goes r origins code h sees vs z (suc room) outer gs gs' memory _ _ _ hs (Stops stop (forms.closed_origin r step' origin))))

  turns_by : (ws : List World) (z : World) (room inner : ℕ) (fs : List (windows.Frame S B)) (fs' : List (machine.Frame S B)) (memory : Memory S) (control : windows.Control S) (control' : machine.Control S) (state : StateOf O)
      → FramesStand r.world memory ws inner fs fs' → FitControl r (record { frames = ws; control = z }) fs' control' → ControlStands r.world z memory inner control control'
      → TurnStands r.world (after_control r origins room fs' control' (record { frames = ws; control = z })) (turn_by r code room fs memory control state) (forms.turn_by r room fs' control' state)
  turns_by ws z room inner fs fs' memory control control' state hs fit (Begins env s base tree form variables l scope earlier e) =
      begins_alike r origins code h sees z ws earlier room base s inner env variables fs fs' memory tree form state l scope e fit hs
  turns_by ws z room inner fs fs' memory control control' state hs fit (Gives values) = gives_alike ws z room inner fs fs' memory values state fit hs
  turns_by ws z room inner fs fs' memory control control' state hs fit (Stops stop origin) = closes_alike ws z room inner fs fs' memory stop origin state hs

  pub turns_alike : (worlds : Worlds) (m : windows.Machine S O B) (n : machine.Machine S O B) → Stands r.world worlds m n → Fits r worlds n → TurnStands r.world (worlds_after r origins worlds n) (turn r code m) (forms.turn_of r n)
  unfolding turn forms.turn_of worlds_after
  turns_alike worlds m n st fits =
      subst (λ room. TurnStands r.world (after_control r origins room n.frames n.control worlds) (turn_by r code m.room m.frames m.memory m.control m.state) (forms.turn_by r room n.frames n.control n.state)) st.room
      (subst (λ state. TurnStands r.world (after_control r origins m.room n.frames n.control worlds) (turn_by r code m.room m.frames m.memory m.control m.state) (forms.turn_by r m.room n.frames n.control state)) st.state
      (turns_by worlds.frames worlds.control m.room st.inner m.frames n.frames m.memory m.control n.control m.state st.frames fits.fits st.control))

  pub ends_alike : (n : ℕ) (worlds : Worlds) (m : windows.Turned S O B) (m' : machine.Turned S O B) (outcome : OutcomeOf S O) → TurnStands r.world worlds m m' → FitsFor r origins n worlds m'
      → ending.EndsIn r n m' outcome → EndsIn r code n m outcome
  unfolding TurnStands
  ends_alike zero worlds (windows.Over last) (machine.Over last') outcome st fit e = st ∙ e
  ends_alike zero worlds (windows.Over last) (machine.Going n') outcome st fit e = absurd st
  ends_alike zero worlds (windows.Going m) (machine.Over last') outcome st fit e = absurd st
  ends_alike zero worlds (windows.Going m) (machine.Going n') outcome st fit e = absurd e
  ends_alike (suc n) worlds (windows.Over last) (machine.Over last') outcome st fit e = absurd e
  ends_alike (suc n) worlds (windows.Over last) (machine.Going n') outcome st fit e = absurd st
  ends_alike (suc n) worlds (windows.Going m) (machine.Over last') outcome st fit e = absurd st
  ends_alike (suc n) worlds (windows.Going m) (machine.Going n') outcome st fit e =
      ends_alike n (worlds_after r origins worlds n') (turn r code m) (forms.turn_of r n') outcome (turns_alike worlds m n' st fit.0) fit.1 e

pub begun_alike : {S O B : Type 0} {keeping : Keeping S O B} (r : RulesOf keeping) (c : World) (depth s : ℕ) (env : Environment) (form : Core) (tree : Tree) (memory : Memory S) (state : StateOf O) → IsEarlier c r.world → LiesBelow s env
    → resolved c env s form ≡ Some tree → Stands {B = B} r.world (begun_in c) (begun_on depth tree memory state) (ending.begun_on depth form (variables_in memory env) state)
begun_alike r c depth s env form tree memory state earlier l e = record {
  room = refl;
  state = refl;
  inner = 0;
  frames = Ends 0;
  control = Begins env s 0 tree form (variables_in memory env) (omega arith) (record { below = l; are = window_first memory env }) earlier e;
}

pub checks_see_nil : {O B : Type 0} (keeping : Keeping ℕ O B) → ChecksSeeNil keeping
checks_see_nil keeping = record { sees = λ w packages limit. record { nil = refl } }

pub takes_turns : {S O B : Type 0} (keeping : Keeping S O B) → TakesTurns keeping
takes_turns keeping = record { turns = turns_alike }

pub begin_alike : {S O B : Type 0} (keeping : Keeping S O B) → BeginsAlike keeping
begin_alike keeping = record { begins = begun_alike }

pub end_alike : {S O B : Type 0} (keeping : Keeping S O B) → EndsAlike keeping
end_alike keeping = record { ends = ends_alike }
