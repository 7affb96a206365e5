-- What a turn makes of a machine whose innermost form is the guard of an export, or is closed by a stop.
use Rattle.std.proofs.Common.{◌≡◌, ℕ, zero, suc, ◌+◌, ◌-◌, List, [], ◌∷◌, length, drop, refl, sym, ap, ◌∙◌, arith, subst, add-one}
use Rattle.std.specs.Prelude.{Option, Some, None, Bool, true, false, if◌then◌else◌, slice_get}
use Rattle.acl_base.specs.declared.SymId.{SymId}
use Rattle.acl_base.specs.declared.FnId.{FnId}
use Rattle.model_terms.specs.Worlds as worlds
use Rattle.model_eval.specs.Outcomes as outcomes
use Rattle.model_eval.specs.Outcomes.{Origin, StateOf, here, cut_before}
use Rattle.model_eval.specs.Keeping.{Keeping, leaving}
use Rattle.model_eval.specs.Evaluated.{is_false}
use Rattle.model_window.specs.Frames as windows
use Rattle.model_window.specs.Windows.{Memory, actuals_at}
use Rattle.model_window.specs.Turns.{turn, turn_by, go_on, close, next, stop_from}
use Rattle.acl_terms.specs.Forms.{numbers}
use Rattle.acl_terms.specs.declared.outcome.Shown as coded
use Rattle.acl_keep.specs.Seen.{all_seen}
use Rattle.acl_machine.specs.declared.frame.Step.{Step}
use Rattle.acl_machine.specs.declared.frame.Step.TheVariants as step
use Rattle.acl_machine.specs.declared.frame.Frame.{Frame}
use Rattle.acl_machine.specs.declared.frame.Halt.{Halt}
use Rattle.acl_machine.specs.declared.frame.Halt.TheVariants as halt
use Rattle.acl_machine.specs.declared.frame.Control.{Control}
use Rattle.acl_machine.specs.declared.frame.Control.TheVariants as control
use Rattle.acl_machine.specs.declared.machine.Machine.{Machine}
use Rattle.acl_machine.specs.Cells.{memory_of, top, below}
use Rattle.acl_machine.specs.Views.{Around, world_of, trees_of, code_of, seen_step, seen_frames, seen_origin, seen_stop, seen_control, machine_of}
use Rattle.acl_machine.specs.Turns.{rules_of, turned, IsFirst, with_step, with_frame}
use Rattle.acl_machine.specs.Keeping.{lefts_in, all_lefts, Goes, GoesTo, TurnsTo}
use Rattle.acl_machine.proofs.BeginLemmas.{state_of, frames_of}
use Rattle.acl_machine.proofs.GoLemmas.{at_give}
use Rattle.acl_export_turns.specs.Exports.{export_at}
use Rattle.acl_export_turns.specs.Steps.{shut, denied, allowed}

-- how much is left behind by the calls of all forms but the innermost
pub lefts_of : (m : Machine) (f : Frame) (s : Step) → (first : IsFirst f m.frames) → f.step ≡ s → all_lefts m.frames ≡ lefts_in s + all_lefts first.rest
lefts_of m f s first e = ap all_lefts first.is ∙ ap (λ (s : Step). lefts_in s + all_lefts first.rest) e

pub exporting_lefts : (m : Machine) (f : Frame) (function : FnId) (names number : ℕ) → (first : IsFirst f m.frames) → f.step ≡ step.Exporting function names number → all_lefts m.frames ≡ 1 + all_lefts first.rest
exporting_lefts m f function names number first e = lefts_of m f (step.Exporting function names number) first e

pub calling_lefts : (m : Machine) (f : Frame) (at : ℕ) (g : FnId) (count : ℕ) → (first : IsFirst f m.frames) → f.step ≡ step.Calling at g count → all_lefts m.frames ≡ 0 + all_lefts first.rest
calling_lefts m f at g count first e = lefts_of m f (step.Calling at g count) first e

pub rest_of : (m : Machine) (f : Frame) → (first : IsFirst f m.frames) → first.rest ≡ drop 1 m.frames
rest_of m f first = sym (ap (drop 1) first.is)

module _ {O B : Type 0} (keeping : Keeping ℕ O B) where
  -- a machine of these parts, whose names go down
  abbrev pub parted : Around → Machine → List SymId → List B → B → ℕ → windows.Control ℕ → List Frame → O → windows.Turned ℕ O B
  parted a m names ls d room c frames kept = windows.Going (record {
    room = room;
    frames = seen_frames a.heap (world_of a) (trees_of a) (code_of a) d ls names m.loans frames;
    memory = memory_of a.heap m.values;
    control = c;
    state = state_of keeping a kept m;
  })

  -- ---- stops

  pub at_stop : (a : Around) (m : Machine) (f : Frame) (s : Step) (why : Halt) (d : B) (kept : O) (ls : List B) → m.control ≡ control.Stopped why → (first : IsFirst f m.frames) → f.step ≡ s
      → turned keeping a d kept ls m
      ≡ close (rules_of keeping a) (code_of a) m.room (frames_of keeping a d ls m (record f { step = s } ∷ first.rest)) (memory_of a.heap m.values) (seen_stop a.heap m.given why) (seen_origin m.inside m.cut) (state_of keeping a kept m)
  unfolding turn
  at_stop a m f s why d kept ls e first g =
      ap (λ c. turn_by (rules_of keeping a) (code_of a) m.room (frames_of keeping a d ls m m.frames) (memory_of a.heap m.values) (seen_control a.heap (trees_of a) m.given (seen_origin m.inside m.cut) c) (state_of keeping a kept m)) e
      ∙ ap (λ fs. close (rules_of keeping a) (code_of a) m.room (frames_of keeping a d ls m fs) (memory_of a.heap m.values) (seen_stop a.heap m.given why) (seen_origin m.inside m.cut) (state_of keeping a kept m)) first.is
      ∙ ap (λ s. close (rules_of keeping a) (code_of a) m.room (frames_of keeping a d ls m (record f { step = s } ∷ first.rest)) (memory_of a.heap m.values) (seen_stop a.heap m.given why) (seen_origin m.inside m.cut) (state_of keeping a kept m)) g

  -- the form is closed, seen as before the outer call of a number
  closed_before : (a : Around) (m : Machine) (f : Frame) (names number : ℕ) (why : Halt) (d : B) (later : O) (ls : List B) (acts : List coded.Shown) → m.control ≡ control.Stopped why → (first : IsFirst f m.frames)
      → parted a m (below names m.names) ls d (suc m.room) (windows.Stopped (seen_stop a.heap m.given why) (cut_before number (seen_origin m.inside m.cut))) first.rest later
      ≡ windows.Going (machine_of a d later ls (shut names number (record m { actuals = acts })))
  closed_before a m f names number why d later ls acts e first =
      ap (λ n. parted a m (below names m.names) ls d n (stopped why) first.rest later) (sym (add-one m.room))
      ∙ ap (λ c. parted a m (below names m.names) ls d (m.room + 1) (seen_control a.heap (trees_of a) m.given (seen_origin m.inside number) c) first.rest later) (sym e)
      ∙ ap (λ fs. parted a m (below names m.names) ls d (m.room + 1) (seen_control a.heap (trees_of a) m.given (seen_origin m.inside number) m.control) fs later) (rest_of m f first)
    where
      stopped : Halt → windows.Control ℕ
      stopped why = windows.Stopped (seen_stop a.heap m.given why) (seen_origin m.inside number)

  module _ (Before After : O → List B → Type 0) (a : Around) (m : Machine) (f : Frame) (function : FnId) (names number : ℕ) (acts : List coded.Shown) (n : Machine) where
    abbrev actuals_here : List (outcomes.Shown ℕ)
    actuals_here = actuals_at (memory_of a.heap m.values) f.base (length (export_at a function.0).formals) (numbers (top names m.names))

    pub closes_exporting : (why : Halt) → m.control ≡ control.Stopped why → IsFirst f m.frames → f.step ≡ step.Exporting function names number
        → ((k : O) (l : B) (ls : List B) → Before k (l ∷ ls) → After k ls)
        → n ≡ shut names number (record m { actuals = acts }) → TurnsTo keeping Before After a a m n
    closes_exporting why e first s keeps q = subst (λ x. TurnsTo keeping Before After a a m x) (sym q) (record { turns = λ d kept lefts goes. by_lefts d kept lefts goes.keeps (goes.behind ∙ lefts_of m f (step.Exporting function names number) first s) })
      where
        by_lefts : (d : B) (kept : O) (lefts : List B) → Before kept lefts → length lefts ≡ 1 + all_lefts first.rest → GoesTo keeping After a a m (shut names number (record m { actuals = acts })) d kept lefts
        by_lefts d kept [] b g = absurd (omega (arith, g))
        by_lefts d kept (l ∷ ls) b g = record {
          later = kept;
          left = ls;
          goes = record { keeps = keeps kept l ls b; behind = (let h : length ls ≡ all_lefts first.rest = omega (arith, g) in h ∙ ap all_lefts (rest_of m f first)) };
          is = at_stop a m f (step.Exporting function names number) why d kept (l ∷ ls) e first s ∙ closed_before a m f names number why d kept ls acts e first;
        }

    pub closes_allowing : (why : Halt) (fs : List ℕ) (vs : List (outcomes.Shown ℕ)) → m.control ≡ control.Stopped why → IsFirst f m.frames → f.step ≡ step.Allowing function names number
        → fs ≡ (export_at a function.0).formals → vs ≡ actuals_here
        → ((k : O) (l j : B) (ls : List B) → Before k (l ∷ j ∷ ls) → After (keeping.hand_back fs vs k l) ls)
        → n ≡ shut names number (record m { actuals = acts }) → TurnsTo keeping Before After a a m n
    closes_allowing why fs vs e first s formals actuals keeps q =
        subst (λ x. TurnsTo keeping Before After a a m x) (sym q) (record { turns = λ d kept lefts goes. by_lefts d kept lefts goes.keeps (goes.behind ∙ lefts_of m f (step.Allowing function names number) first s) })
      where
        by_lefts : (d : B) (kept : O) (lefts : List B) → Before kept lefts → length lefts ≡ 2 + all_lefts first.rest → GoesTo keeping After a a m (shut names number (record m { actuals = acts })) d kept lefts
        by_lefts d kept [] b g = absurd (omega (arith, g))
        by_lefts d kept (l ∷ []) b g = absurd (omega (arith, g))
        by_lefts d kept (l ∷ j ∷ ls) b g = record {
          later = keeping.hand_back fs vs kept l;
          left = ls;
          goes = record { keeps = keeps kept l j ls b; behind = (let h : length ls ≡ all_lefts first.rest = omega (arith, g) in h ∙ ap all_lefts (rest_of m f first)) };
          is =
              at_stop a m f (step.Allowing function names number) why d kept (l ∷ j ∷ ls) e first s
              ∙ ap (λ vs. stopped (keeping.hand_back (export_at a function.0).formals vs kept l)) (sym actuals)
              ∙ ap (λ fs. stopped (keeping.hand_back fs vs kept l)) (sym formals)
              ∙ closed_before a m f names number why d (keeping.hand_back fs vs kept l) ls acts e first;
        }
          where
            stopped : O → windows.Turned ℕ O B
            stopped later = parted a m (below names m.names) ls d (suc m.room) (windows.Stopped (seen_stop a.heap m.given why) (cut_before number (seen_origin m.inside m.cut))) first.rest later

    -- ---- the guard's value

    abbrev guard_fails : Bool
    guard_fails = is_false (rules_of keeping a) (all_seen a.heap m.given)

    -- once the call is left
    abbrev left_by : O → B → List ℕ → List (outcomes.Shown ℕ) → StateOf O
    left_by kept l fs vs = state_of keeping a (keeping.hand_back fs vs kept l) m

    -- what comes of it
    abbrev answered : Bool → B → O → B → B → List B → List Frame → List ℕ → List (outcomes.Shown ℕ) → windows.Turned ℕ O B
    answered fails d kept l j ls rest fs vs =
        if fails
        then stop_from (rules_of keeping a) (code_of a) None m.room f.base (seen_frames a.heap (world_of a) (trees_of a) (code_of a) d ls (below names m.names) m.loans rest) (memory_of a.heap m.values)
        (outcomes.Guard (export_at a function.0).name vs) (cut_before number (here (left_by kept l fs vs))) (left_by kept l fs vs)
        else next (rules_of keeping a) (code_of a) m.room f.base (seen_frames a.heap (world_of a) (trees_of a) (code_of a) d ls (below names m.names) m.loans rest) (memory_of a.heap m.values)
        (windows.Exporting (export_at a function.0) (numbers (top names m.names)) (record { before = j; number = number })) (windows.Give []) (left_by kept l fs vs)

    at_allowing : (d : B) (kept : O) (l j : B) (ls : List B) (fs : List ℕ) (vs : List (outcomes.Shown ℕ)) (fails : Bool) → m.control ≡ control.Give → (first : IsFirst f m.frames) → f.step ≡ step.Allowing function names number
        → fs ≡ (export_at a function.0).formals → vs ≡ actuals_here → guard_fails ≡ fails
        → turned keeping a d kept (l ∷ j ∷ ls) m ≡ answered fails d kept l j ls first.rest fs vs
    at_allowing d kept l j ls fs vs fails e first s formals actuals holds =
        at_give keeping a m f (step.Allowing function names number) d kept (l ∷ j ∷ ls) e first s
        ∙ ap (λ vs. answered guard_fails d kept l j ls first.rest (export_at a function.0).formals vs) (sym actuals)
        ∙ ap (λ fs. answered guard_fails d kept l j ls first.rest fs vs) (sym formals)
        ∙ ap (λ b. answered b d kept l j ls first.rest fs vs) holds

    pub denies : (name : SymId) (fs : List ℕ) (vs : List (outcomes.Shown ℕ)) → m.control ≡ control.Give → IsFirst f m.frames → f.step ≡ step.Allowing function names number
        → fs ≡ (export_at a function.0).formals → vs ≡ actuals_here → guard_fails ≡ true → name.0 ≡ (export_at a function.0).name → all_seen a.heap acts ≡ vs
        → ((k : O) (l j : B) (ls : List B) → Before k (l ∷ j ∷ ls) → After (keeping.hand_back fs vs k l) ls)
        → n ≡ denied name names number f.base (record m { actuals = acts }) → TurnsTo keeping Before After a a m n
    denies name fs vs e first s formals actuals fails named seen keeps q =
        subst (λ x. TurnsTo keeping Before After a a m x) (sym q) (record { turns = λ d kept lefts goes. by_lefts d kept lefts goes.keeps (goes.behind ∙ lefts_of m f (step.Allowing function names number) first s) })
      where
        after : Machine
        after = denied name names number f.base (record m { actuals = acts })

        by_lefts : (d : B) (kept : O) (lefts : List B) → Before kept lefts → length lefts ≡ 2 + all_lefts first.rest → GoesTo keeping After a a m after d kept lefts
        by_lefts d kept [] b g = absurd (omega (arith, g))
        by_lefts d kept (l ∷ []) b g = absurd (omega (arith, g))
        by_lefts d kept (l ∷ j ∷ ls) b g = record {
          later = keeping.hand_back fs vs kept l;
          left = ls;
          goes = record {
            keeps = keeps kept l j ls b;
            behind = (let h : length ls ≡ 0 + all_lefts first.rest = omega (arith, g) in h ∙ ap (λ fs. all_lefts (with_frame (record { step = step.Last None; base = f.base }) fs)) (sym first.is));
          };
          is =
              at_allowing d kept l j ls fs vs true e first s formals actuals fails
              ∙ ap (λ x. stops x vs (record { step = step.Last None; base = f.base } ∷ first.rest)) (sym named)
              ∙ ap (λ vs. stops name.0 vs (record { step = step.Last None; base = f.base } ∷ first.rest)) (sym seen)
              ∙ ap (λ fs. stops name.0 (all_seen a.heap acts) (with_frame (record { step = step.Last None; base = f.base }) fs)) (sym first.is);
        }
          where
            stops : ℕ → List (outcomes.Shown ℕ) → List Frame → windows.Turned ℕ O B
            stops x values frames = parted a m (below names m.names) ls d m.room (windows.Stopped (outcomes.Guard x values) (record { inside = None; cut = number })) frames (keeping.hand_back fs vs kept l)

    pub allows : (fs : List ℕ) (vs : List (outcomes.Shown ℕ)) → m.control ≡ control.Give → IsFirst f m.frames → f.step ≡ step.Allowing function names number
        → fs ≡ (export_at a function.0).formals → vs ≡ actuals_here → guard_fails ≡ false
        → ((k : O) (l : B) (ls : List B) → Before k (l ∷ ls) → After (keeping.hand_back fs vs k l) ls)
        → n ≡ allowed function names number (record m { actuals = acts }) → TurnsTo keeping Before After a a m n
    allows fs vs e first s formals actuals holds keeps q =
        subst (λ x. TurnsTo keeping Before After a a m x) (sym q) (record { turns = λ d kept lefts goes. by_lefts d kept lefts goes.keeps (goes.behind ∙ lefts_of m f (step.Allowing function names number) first s) })
      where
        by_lefts : (d : B) (kept : O) (lefts : List B) → Before kept lefts → length lefts ≡ 2 + all_lefts first.rest → GoesTo keeping After a a m (allowed function names number (record m { actuals = acts })) d kept lefts
        by_lefts d kept [] b g = absurd (omega (arith, g))
        by_lefts d kept (l ∷ []) b g = absurd (omega (arith, g))
        by_lefts d kept (l ∷ j ∷ ls) b g = record {
          later = keeping.hand_back fs vs kept l;
          left = j ∷ ls;
          goes = record {
            keeps = keeps kept l (j ∷ ls) b;
            behind = (let h : length (j ∷ ls) ≡ 1 + all_lefts first.rest = omega (arith, g) in h ∙ ap (λ fs. all_lefts (with_step (step.Exporting function names number) fs)) (sym first.is));
          };
          is =
              at_allowing d kept l j ls fs vs false e first s formals actuals holds
              ∙ ap (λ fs. goes_on (with_step (step.Exporting function names number) fs)) (sym first.is);
        }
          where
            goes_on : List Frame → windows.Turned ℕ O B
            goes_on frames = parted a m m.names (j ∷ ls) d m.room (windows.Give []) frames (keeping.hand_back fs vs kept l)
