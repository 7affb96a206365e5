-- What stands stays so, whatever is written inside.
use Rattle.std.specs.Prelude.{◌≡◌, ℕ, ◌+◌, ◌≤◌, List, length, Option}
use Rattle.std.proofs.Common.{sym, ap, ◌∙◌, arith}
use Rattle.model_terms.specs.Worlds.{World}
use Rattle.model_eval.specs.Outcomes.{Shown}
use Rattle.model_eval.specs.Variables.{Variables}
use Rattle.model_machine.specs.Frames as machine
use Rattle.model_slots.specs.Environments.{Environment, LiesBelow, variables_in}
use Rattle.model_slots.specs.Laws.{as_formals}
use Rattle.model_slots.proofs.SlotLemmas.{binds_as_evaluation}
use Rattle.model_window.specs.Windows.{Memory, window}
use Rattle.model_window.specs.Frames as windows
use Rattle.model_window.specs.Stands.{InScope, AreActuals, AreFormals, ExportStands, NoExport, ExportRuns, StepStands, Tests, Parts, Several, Calling, Guarding, Running, Allowing, Exporting, Borrowing, Producing, Putting, Local, Last, FramesStand, Ends, Inside}
use Rattle.model_window.proofs.MemoryLemmas.{Agrees, agrees_lower, holds_kept, actuals_kept, as_many}

module _ {S : Type 0} where
  pub variables_kept : (old new : Memory S) (base s inner : ℕ) (env : Environment) → Agrees old new inner → base + s ≤ inner → LiesBelow s env → variables_in (window new base) env ≡ variables_in (window old base) env
  variables_kept old new base s inner env a h l = binds_as_evaluation.below (window old base) (window new base) s env l (λ i k. a.same (base + i) (omega arith))

  pub scope_kept : (old new : Memory S) (base s inner : ℕ) (env : Environment) (variables : Variables S) → Agrees old new inner → base + s ≤ inner → InScope old base s env variables → InScope new base s env variables
  scope_kept old new base s inner env variables a h i = record { below = i.below; are = i.are ∙ sym (variables_kept old new base s inner env a h i.below) }

  actuals_are_kept : (old new : Memory S) (base inner count : ℕ) (names : List ℕ) (actuals : List (Shown S)) → Agrees old new inner → AreActuals old base inner count names actuals → AreActuals new base inner count names actuals
  actuals_are_kept old new base inner count names actuals a h = record { below = h.below; as_many = h.as_many; named = h.named; are = h.are ∙ sym (actuals_kept old new base inner count names a h.below) }

  formals_kept : (old new : Memory S) (base inner : ℕ) (formals : List ℕ) (actuals : List (Shown S)) → Agrees old new inner → base + length formals ≤ inner → AreFormals old base formals actuals → AreFormals new base formals actuals
  formals_kept old new base inner formals actuals a b h =
      let d : length (as_formals formals actuals) ≡ length formals = as_many formals actuals h.as_many in
      record { as_many = h.as_many; lie = holds_kept old new base 0 inner (as_formals formals actuals) a (omega arith) h.lie }

module _ {S B : Type 0} (w : World) where
  export_kept : (old new : Memory S) (base inner : ℕ) (x : Option (windows.Export B)) (y : Option (machine.Export S B)) → Agrees old new inner → ExportStands old base inner x y → ExportStands new base inner x y
  export_kept old new base inner x y a NoExport = NoExport
  export_kept old new base inner x y a (ExportRuns u v h e) =
      ExportRuns u v h (e ∙ ap (λ actuals. record { name = u.name; actuals = actuals; begun = u.begun; outer = u.outer }) (sym (actuals_kept old new base inner u.count u.names a h)))

  pub step_kept : (c : World) (old new : Memory S) (base outer inner : ℕ) (variables : Variables S) (step : windows.Step S B) (step' : machine.Step S B) → Agrees old new inner
      → StepStands w c old base outer inner variables step step' → StepStands w c new base outer inner variables step step'
  step_kept c old new base outer inner variables step step' a (Tests env s held other b d lower upper scope is_held is_other) =
      Tests env s held other b d lower upper (scope_kept old new base s inner env variables a upper scope) is_held is_other
  step_kept c old new base outer inner variables step step' a (Parts env s count trees goal forms before aim lower upper scope held many are then_is) =
      Parts env s count trees goal forms before aim lower upper (scope_kept old new base s inner env variables a (omega arith) scope) (holds_kept old new base s inner before a (omega arith) held) many are then_is
  step_kept c old new base outer inner variables step step' a (Several env s tree names body lower upper scope is) =
      Several env s tree names body lower upper (scope_kept old new base s inner env variables a upper scope) is
  step_kept c old new base outer inner variables step step' a (Calling s n count f actuals lower upper held many is) =
      Calling s n count f actuals lower upper (holds_kept old new base s inner actuals a (omega arith) held) many is
  step_kept c old new base outer inner variables step step' a (Guarding export export' name formals names tree behind actuals body lower runs are held is) =
      Guarding export export' name formals names tree behind actuals body lower
      (export_kept old new base (base + length formals) export export' (agrees_lower old new (base + length formals) inner are.below a) runs) (actuals_are_kept old new base inner (length formals) names actuals a are)
      (formals_kept old new base inner formals actuals a are.below held) is
  step_kept c old new base outer inner variables step step' a (Running export export' formals names behind actuals lower runs are) =
      Running export export' formals names behind actuals lower (export_kept old new base inner export export' a runs) (actuals_are_kept old new base inner (length formals) names actuals a are)
  step_kept c old new base outer inner variables step step' a (Allowing f names begun behind actuals lower are) =
      Allowing f names begun behind actuals lower (actuals_are_kept old new base inner (length f.formals) names actuals a are)
  step_kept c old new base outer inner variables step step' a (Exporting f names begun actuals lower are) =
      Exporting f names begun actuals lower (actuals_are_kept old new base inner (length f.formals) names actuals a are)
  step_kept c old new base outer inner variables step step' a (Borrowing env s children borrowed held other names forms loans vars producer consumer lower upper scope are marks is_held is) =
      Borrowing env s children borrowed held other names forms loans vars producer consumer lower upper (scope_kept old new base s inner env variables a upper scope) are marks is_held is
  step_kept c old new base outer inner variables step step' a (Producing env s borrowed other vars loans consumer lower upper scope marks is) =
      Producing env s borrowed other vars loans consumer lower upper (scope_kept old new base s inner env variables a upper scope) marks is
  step_kept c old new base outer inner variables step step' a (Putting env s left borrowed other vars loans_left loans consumer given lower upper scope marks_left marks held is) =
      Putting env s left borrowed other vars loans_left loans consumer given lower upper (scope_kept old new base s inner env variables a (omega arith) scope) marks_left marks (holds_kept old new base s inner given a upper held) is
  step_kept c old new base outer inner variables step step' a (Local env s tree names body lower upper scope is) =
      Local env s tree names body lower upper (scope_kept old new base s inner env variables a upper scope) is
  step_kept c old new base outer inner variables step step' a (Last export export' lower runs) = Last export export' lower (export_kept old new base inner export export' a runs)

  pub outer_first : (c : World) (memory : Memory S) (base outer inner : ℕ) (variables : Variables S) (step : windows.Step S B) (step' : machine.Step S B) → StepStands w c memory base outer inner variables step step' → outer ≤ inner
  outer_first c memory base outer inner variables step step' (Tests env s held other b d lower upper scope is_held is_other) = omega arith
  outer_first c memory base outer inner variables step step' (Parts env s count trees goal forms before aim lower upper scope held many are then_is) = omega arith
  outer_first c memory base outer inner variables step step' (Several env s tree names body lower upper scope is) = omega arith
  outer_first c memory base outer inner variables step step' (Calling s n count f actuals lower upper held many is) = omega arith
  outer_first c memory base outer inner variables step step' (Guarding export export' name formals names tree behind actuals body lower runs are held is) = omega (arith, are.below)
  outer_first c memory base outer inner variables step step' (Running export export' formals names behind actuals lower runs are) = omega (arith, are.below)
  outer_first c memory base outer inner variables step step' (Allowing f names begun behind actuals lower are) = omega (arith, are.below)
  outer_first c memory base outer inner variables step step' (Exporting f names begun actuals lower are) = omega (arith, are.below)
  outer_first c memory base outer inner variables step step' (Borrowing env s children borrowed held other names forms loans vars producer consumer lower upper scope are marks is_held is) = omega arith
  outer_first c memory base outer inner variables step step' (Producing env s borrowed other vars loans consumer lower upper scope marks is) = omega arith
  outer_first c memory base outer inner variables step step' (Putting env s left borrowed other vars loans_left loans consumer given lower upper scope marks_left marks held is) = omega arith
  outer_first c memory base outer inner variables step step' (Local env s tree names body lower upper scope is) = omega arith
  outer_first c memory base outer inner variables step step' (Last export export' lower runs) = lower

  pub frames_kept : (old new : Memory S) (cs : List World) (inner : ℕ) (frames : List (windows.Frame S B)) (frames' : List (machine.Frame S B)) → Agrees old new inner → FramesStand w old cs inner frames frames' → FramesStand w new cs inner frames frames'
  frames_kept old new cs inner frames frames' a (Ends i) = Ends i
  frames_kept old new cs inner frames frames' a (Inside c ds base outer i variables step step' fs fs' earlier h hs) =
      Inside c ds base outer i variables step step' fs fs' earlier (step_kept c old new base outer i variables step step' a h)
      (frames_kept old new ds outer fs fs' (agrees_lower old new outer i (outer_first c old base outer i variables step step' h) a) hs)
