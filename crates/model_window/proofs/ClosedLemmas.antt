-- How frames that stand for one another end.
use Rattle.std.specs.Prelude.{◌≡◌, ℕ, ◌+◌, List, length, Option, refl}
use Rattle.std.proofs.Common.{sym, ap, ◌∙◌}
use Rattle.model_terms.specs.Worlds.{World}
use Rattle.model_eval.specs.Outcomes.{Shown, Origin, StateOf, inside_of, cut_before}
use Rattle.model_eval.specs.Keeping.{Loan, Keeping, leaving, put_all, ending_loans, committing, abandoning}
use Rattle.model_eval.specs.Variables.{Variables}
use Rattle.model_eval.specs.Evaluated.{RulesOf}
use Rattle.model_machine.specs.Frames as machine
use Rattle.model_machine.specs.Turns as forms
use Rattle.model_window.specs.Windows.{Memory, actuals_at}
use Rattle.model_window.specs.Frames.{Code, Borrowed}
use Rattle.model_window.specs.Frames as windows
use Rattle.model_window.specs.Turns.{loans_of, stopped_in, out_of, abandoned, closed_state, closed_origin}
use Rattle.model_window.specs.Stands.{AreActuals, ExportStands, NoExport, ExportRuns, marked, StepStands, Tests, Parts, Several, Calling, Guarding, Running, Allowing, Exporting, Borrowing, Producing, Putting, Local, Last}
use Rattle.model_window.proofs.TreeLemmas.{loans_marked, marked_length}

module _ {S O B : Type 0} {keeping : Keeping S O B} (r : RulesOf keeping) (code : Code) where
  pub out_alike : (memory : Memory S) (base inner : ℕ) (x : Option (windows.Export B)) (y : Option (machine.Export S B)) (state : StateOf O) → ExportStands memory base inner x y → out_of r code x state ≡ forms.out_of r y state
  out_alike memory base inner x y state NoExport = refl
  out_alike memory base inner x y state (ExportRuns u v l e) = ap (λ (z : machine.Export S B). committing keeping (record state { outer = z.outer })) (sym e)

  pub abandoned_alike : (memory : Memory S) (base inner : ℕ) (x : Option (windows.Export B)) (y : Option (machine.Export S B)) (state : StateOf O) → ExportStands memory base inner x y → abandoned r code memory base x state ≡ forms.abandoned r y state
  abandoned_alike memory base inner x y state NoExport = refl
  abandoned_alike memory base inner x y state (ExportRuns u v l e) = ap (λ (z : machine.Export S B). abandoning keeping z.actuals z.begun.before (record state { outer = z.outer })) (sym e)

  stopped_alike : (memory : Memory S) (base inner : ℕ) (x : Option (windows.Export B)) (y : Option (machine.Export S B)) (origin : Origin) → ExportStands memory base inner x y → stopped_in x origin ≡ forms.stopped_in y origin
  stopped_alike memory base inner x y origin NoExport = refl
  stopped_alike memory base inner x y origin (ExportRuns u v l e) = ap (λ (z : machine.Export S B). cut_before z.begun.number (inside_of z.name origin)) (sym e)

  pub left_alike : (memory : Memory S) (base inner : ℕ) (formals names : List ℕ) (actuals : List (Shown S)) (behind : B) (state : StateOf O) → AreActuals memory base inner (length formals) names actuals
      → leaving keeping formals (actuals_at memory base (length formals) names) behind state ≡ leaving keeping formals actuals behind state
  left_alike memory base inner formals names actuals behind state are = ap (λ vs. leaving keeping formals vs behind state) (sym are.are)

  pub loans_alike : (vars : List ℕ) (loans : List (Loan S)) (borrowed : List (Borrowed S)) (state : StateOf O) → borrowed ≡ marked vars loans
      → ending_loans keeping (length borrowed) (record state { stobjs = put_all keeping (loans_of borrowed) state.stobjs }) ≡ ending_loans keeping (length loans) (record state { stobjs = put_all keeping loans state.stobjs })
  loans_alike vars loans borrowed state e =
      ap (λ bs. ending_loans keeping (length bs) (record state { stobjs = put_all keeping (loans_of bs) state.stobjs })) e
      ∙ (ap (λ n. ending_loans keeping n (record state { stobjs = put_all keeping (loans_of (marked vars loans)) state.stobjs })) (marked_length vars loans)
      ∙ ap (λ ls. ending_loans keeping (length loans) (record state { stobjs = put_all keeping ls state.stobjs })) (loans_marked vars loans))

  pub state_alike : (c : World) (memory : Memory S) (base outer inner : ℕ) (variables : Variables S) (step : windows.Step S B) (step' : machine.Step S B) (state : StateOf O) → StepStands r.world c memory base outer inner variables step step'
      → closed_state r code memory base step state ≡ forms.closed_state r step' state
  state_alike c memory base outer inner variables step step' state (Tests env s held other b d lower upper scope is_held is_other) = refl
  state_alike c memory base outer inner variables step step' state (Parts env s count trees goal forms before aim lower upper scope held many are then_is) = refl
  state_alike c memory base outer inner variables step step' state (Several env s tree names body lower upper scope is) = refl
  state_alike c memory base outer inner variables step step' state (Calling s n count f actuals lower upper held many is) = refl
  state_alike c memory base outer inner variables step step' state (Guarding export export' name formals names tree behind actuals body lower runs are held is) =
      ap (abandoned r code memory base export) (left_alike memory base inner formals names actuals behind state are) ∙ abandoned_alike memory base (base + length formals) export export' (leaving keeping formals actuals behind state) runs
  state_alike c memory base outer inner variables step step' state (Running export export' formals names behind actuals lower runs are) =
      ap (abandoned r code memory base export) (left_alike memory base inner formals names actuals behind state are) ∙ abandoned_alike memory base inner export export' (leaving keeping formals actuals behind state) runs
  state_alike c memory base outer inner variables step step' state (Allowing f names begun behind actuals lower are) = left_alike memory base inner f.formals names actuals behind state are
  state_alike c memory base outer inner variables step step' state (Exporting f names begun actuals lower are) = refl
  state_alike c memory base outer inner variables step step' state (Borrowing env s children borrowed held other names forms loans vars producer consumer lower upper scope are marks is_held is) = refl
  state_alike c memory base outer inner variables step step' state (Producing env s borrowed other vars loans consumer lower upper scope marks is) = loans_alike vars loans borrowed state marks
  state_alike c memory base outer inner variables step step' state (Putting env s left borrowed other vars loans_left loans consumer given lower upper scope marks_left marks held is) = loans_alike vars loans borrowed state marks
  state_alike c memory base outer inner variables step step' state (Local env s tree names body lower upper scope is) = refl
  state_alike c memory base outer inner variables step step' state (Last export export' lower runs) = abandoned_alike memory base inner export export' state runs

  pub origin_alike : (c : World) (memory : Memory S) (base outer inner : ℕ) (variables : Variables S) (step : windows.Step S B) (step' : machine.Step S B) (origin : Origin) → StepStands r.world c memory base outer inner variables step step'
      → closed_origin r code step origin ≡ forms.closed_origin r step' origin
  origin_alike c memory base outer inner variables step step' origin (Tests env s held other b d lower upper scope is_held is_other) = refl
  origin_alike c memory base outer inner variables step step' origin (Parts env s count trees goal forms before aim lower upper scope held many are then_is) = refl
  origin_alike c memory base outer inner variables step step' origin (Several env s tree names body lower upper scope is) = refl
  origin_alike c memory base outer inner variables step step' origin (Calling s n count f actuals lower upper held many is) = refl
  origin_alike c memory base outer inner variables step step' origin (Guarding export export' name formals names tree behind actuals body lower runs are held is) = stopped_alike memory base (base + length formals) export export' origin runs
  origin_alike c memory base outer inner variables step step' origin (Running export export' formals names behind actuals lower runs are) = stopped_alike memory base inner export export' origin runs
  origin_alike c memory base outer inner variables step step' origin (Allowing f names begun behind actuals lower are) = refl
  origin_alike c memory base outer inner variables step step' origin (Exporting f names begun actuals lower are) = refl
  origin_alike c memory base outer inner variables step step' origin (Borrowing env s children borrowed held other names forms loans vars producer consumer lower upper scope are marks is_held is) = refl
  origin_alike c memory base outer inner variables step step' origin (Producing env s borrowed other vars loans consumer lower upper scope marks is) = refl
  origin_alike c memory base outer inner variables step step' origin (Putting env s left borrowed other vars loans_left loans consumer given lower upper scope marks_left marks held is) = refl
  origin_alike c memory base outer inner variables step step' origin (Local env s tree names body lower upper scope is) = refl
  origin_alike c memory base outer inner variables step step' origin (Last export export' lower runs) = stopped_alike memory base inner export export' origin runs
