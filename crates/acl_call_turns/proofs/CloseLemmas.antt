-- What a turn makes of a machine whose innermost form is a call that a stop closes.
use Rattle.std.proofs.Common.{◌≡◌, ℕ, suc, ◌+◌, List, [], ◌∷◌, length, refl, sym, ap, ◌∙◌, arith, subst, add-one, inl, inr}
use Rattle.std.specs.Prelude.{◌⊎◌, Option, Some, None, slice_get}
use Rattle.acl_base.specs.declared.FnId.{FnId}
use Rattle.acl_terms.specs.Forms.{numbers}
use Rattle.acl_terms.specs.declared.outcome.Shown.{Shown}
use Rattle.model_eval.specs.Outcomes as outcomes
use Rattle.model_eval.specs.Outcomes.{Stop, Origin}
use Rattle.model_eval.specs.Keeping.{Keeping, leaving, abandoning}
use Rattle.model_window.specs.Frames as windows
use Rattle.model_window.specs.Windows.{actuals_at}
use Rattle.model_window.specs.Turns.{turn, turn_by, close}
use Rattle.acl_keep.specs.Seen.{all_seen}
use Rattle.acl_keep.specs.Calls.{MayBe}
use Rattle.acl_machine.specs.declared.frame.Inside.{Inside}
use Rattle.acl_machine.specs.declared.frame.Step.{Step}
use Rattle.acl_machine.specs.declared.frame.Step.TheVariants as step
use Rattle.acl_machine.specs.declared.frame.Frame.{Frame}
use Rattle.acl_machine.specs.declared.frame.Halt.{Halt}
use Rattle.acl_machine.specs.declared.frame.Control.TheVariants as control
use Rattle.acl_machine.specs.declared.machine.Machine.{Machine}
use Rattle.acl_machine.specs.Cells.{memory_of, top, below}
use Rattle.acl_machine.specs.Actuals.{actuals_in}
use Rattle.acl_machine.specs.Views.{Around, world_of, trees_of, code_of, formals_of, lefts_below, names_below, loans_below, seen_step, seen_frames, seen_stop, seen_origin, seen_control, machine_of}
use Rattle.acl_machine.specs.Turns.{rules_of, turned, IsFirst}
use Rattle.acl_machine.specs.Keeping.{lefts_in, inside_lefts, all_lefts, Goes, GoesTo, TurnsTo, MayGo}
use Rattle.acl_machine.proofs.BeginLemmas.{state_of, frames_of}
use Rattle.acl_machine.proofs.ActualLemmas.{actuals_seen}
use Rattle.acl_call_turns.specs.Calls.{formals_at, actuals_for, dropping, rest_of, closing, stopping, IsInCall, HandsBack, MayThen}
use Rattle.acl_call_turns.proofs.WorldLemmas.{formals_seen_at}
use Rattle.acl_call_turns.proofs.FormLemmas.{lefts_first, lefts_rest}
use Rattle.acl_call_turns.proofs.LeaveLemmas.{actuals_as}

module _ {O B : Type 0} (keeping : Keeping ℕ O B) where
  -- an export's call was undone
  abbrev pub Abandons : (O → List B → Type 0) → (O → List B → Type 0) → List (outcomes.Shown ℕ) → Type 0
  Abandons Before After actuals = (kept : O) (left : B) (ls : List B) → Before kept (left ∷ ls) → After (keeping.abandon actuals left kept) ls

  -- a stop closes the innermost form
  pub at_stop : (a : Around) (m : Machine) (f : Frame) (s : Step) (why : Halt) (d : B) (kept : O) (ls : List B) → m.control ≡ control.Stopped why → (first : IsFirst f m.frames) → f.step ≡ s
      → turned keeping a d kept ls m
      ≡ close (rules_of keeping a) (code_of a) m.room (frames_of keeping a d ls m (record { step = s; base = f.base } ∷ first.rest)) (memory_of a.heap m.values) (seen_stop a.heap m.given why) (seen_origin m.inside m.cut) (state_of keeping a kept m)
  unfolding turn
  at_stop a m f s why d kept ls e first g =
      ap (λ c. turn_by (rules_of keeping a) (code_of a) m.room (frames_of keeping a d ls m m.frames) (memory_of a.heap m.values) (seen_control a.heap (trees_of a) m.given (seen_origin m.inside m.cut) c) (state_of keeping a kept m)) e
      ∙ ap (λ fs. close (rules_of keeping a) (code_of a) m.room (frames_of keeping a d ls m fs) (memory_of a.heap m.values) (seen_stop a.heap m.given why) (seen_origin m.inside m.cut) (state_of keeping a kept m)) first.is
      ∙ ap (λ t. close (rules_of keeping a) (code_of a) m.room (frames_of keeping a d ls m (record { step = t; base = f.base } ∷ first.rest)) (memory_of a.heap m.values) (seen_stop a.heap m.given why) (seen_origin m.inside m.cut) (state_of keeping a kept m)) g

  module _ (Before After : O → List B → Type 0) (a : Around) (m : Machine) (f : Frame) (g : FnId) (n : ℕ) (why : Halt) where
    abbrev formals : List ℕ
    formals = numbers (formals_at a.content g)

    abbrev actuals : List (outcomes.Shown ℕ)
    actuals = all_seen a.heap (actuals_for a.content g f.base n m)

    abbrev back : O → B → O
    back kept left = keeping.hand_back formals actuals kept left

    abbrev given_formals : List ℕ
    given_formals = formals_of (slice_get (world_of a) g.0)

    abbrev given_actuals : List (outcomes.Shown ℕ)
    given_actuals = actuals_at (memory_of a.heap m.values) f.base (length given_formals) (numbers (top n m.names))

    -- a call's frame is closed: the machine after it, by what it is seen xs
    abbrev closed_at : Machine → O → B → List B → ℕ → List Frame → windows.Control ℕ → windows.Turned ℕ O B
    closed_at after kept d ls room fs c = windows.Going (record (machine_of a d kept ls (record after { frames = fs })) { room = room; control = c })

    -- ---- a call outside any export

    abbrev after_call : Machine
    after_call = dropping n (record (closing m) { actuals = actuals_for a.content g f.base n m })

    call_by : (s : Step) → m.control ≡ control.Stopped why → (first : IsFirst f m.frames) → f.step ≡ s → IsInCall None g n s
        → (d : B) (kept : O) (left : B) (ls : List B) → turned keeping a d kept (left ∷ ls) m ≡ windows.Going (machine_of a d (back kept left) ls after_call)
    call_by s e first h c d kept left ls =
        at_stop a m f s why d kept (left ∷ ls) e first h
        ∙ by_step c
        ∙ ap (λ xs. closed_at after_call (keeping.hand_back given_formals xs kept left) d ls (suc m.room) first.rest stop) (actuals_as a m f.base g n)
        ∙ ap (λ fs. closed_at after_call (keeping.hand_back fs actuals kept left) d ls (suc m.room) first.rest stop) (formals_seen_at a.heap a.content g)
        ∙ ap (λ r. closed_at after_call (back kept left) d ls r first.rest stop) (sym (add-one m.room))
        ∙ ap (λ c. closed_at after_call (back kept left) d ls (m.room + 1) first.rest (seen_control a.heap (trees_of a) m.given (seen_origin m.inside m.cut) c)) (sym e)
        ∙ ap (λ fs. closed_at after_call (back kept left) d ls (m.room + 1) (rest_of fs) (seen_control a.heap (trees_of a) m.given (seen_origin m.inside m.cut) m.control)) (sym first.is)
      where
        stop : windows.Control ℕ
        stop = windows.Stopped (seen_stop a.heap m.given why) (seen_origin m.inside m.cut)

        closes : Step → windows.Turned ℕ O B
        closes s = close (rules_of keeping a) (code_of a) m.room (frames_of keeping a d (left ∷ ls) m (record { step = s; base = f.base } ∷ first.rest)) (memory_of a.heap m.values) (seen_stop a.heap m.given why) (seen_origin m.inside m.cut) (state_of keeping a kept m)

        by_step : IsInCall None g n s → closes s ≡ closed_at after_call (keeping.hand_back given_formals given_actuals kept left) d ls (suc m.room) first.rest stop
        by_step (inl h) = ap closes h
        by_step (inr h) = ap closes h

    lefts_of_call : (x : Option Inside) (s : Step) → IsInCall x g n s → lefts_in s ≡ inside_lefts x + 1
    lefts_of_call x s (inl h) = ap lefts_in h
    lefts_of_call x s (inr h) = ap lefts_in h

    pub closes_call : m.control ≡ control.Stopped why → IsFirst f m.frames → IsInCall None g n f.step → HandsBack keeping Before After formals actuals
        → (x : Machine) → x ≡ after_call → TurnsTo keeping Before After a a m x
    closes_call e first c hands x q = subst (λ y. TurnsTo keeping Before After a a m y) (sym q) (record { turns = goes_to })
      where
        goes_to : (d : B) (kept : O) (lefts : List B) → Goes Before m kept lefts → GoesTo keeping After a a m after_call d kept lefts
        goes_to d kept [] goes = absurd (let x = lefts_first f m.frames f.step first refl in let y = goes.behind in let z = lefts_of_call None f.step c in omega arith)
        goes_to d kept (left ∷ ls) goes = record {
          later = back kept left;
          left = ls;
          goes = record {
            keeps = hands kept left ls goes.keeps;
            behind = (let x = lefts_first f m.frames f.step first refl in let y = goes.behind in let z = lefts_of_call None f.step c in let w = lefts_rest f m.frames first in omega arith);
          };
          is = call_by f.step e first refl c d kept left ls;
        }

    -- ---- a call of the function that does an export's work

    module _ (export : Inside) where
      -- the actuals of the export's call
      abbrev outer : List Shown
      outer = actuals_in (dropping n m) f.base export.count export.names

      abbrev after_exec : Machine
      after_exec = stopping export (record (dropping n (closing m)) { actuals = actuals_for a.content g f.base n m; outer_actuals = outer })

      abbrev undone : O → B → B → O
      undone kept left before = keeping.abandon (all_seen a.heap outer) before (back kept left)

      exec_by : (s : Step) → m.control ≡ control.Stopped why → (first : IsFirst f m.frames) → f.step ≡ s → IsInCall (Some export) g n s
          → (d : B) (kept : O) (left before : B) (ls : List B) → turned keeping a d kept (left ∷ before ∷ ls) m ≡ windows.Going (machine_of a d (undone kept left before) ls after_exec)
      exec_by s e first h c d kept left before ls =
          at_stop a m f s why d kept (left ∷ before ∷ ls) e first h
          ∙ by_step c
          ∙ ap (λ xs. closed_at after_exec (keeping.abandon outer_given before (keeping.hand_back given_formals xs kept left)) d ls (suc m.room) first.rest stop) (actuals_as a m f.base g n)
          ∙ ap (λ fs. closed_at after_exec (keeping.abandon outer_given before (keeping.hand_back fs actuals kept left)) d ls (suc m.room) first.rest stop) (formals_seen_at a.heap a.content g)
          ∙ ap (λ xs. closed_at after_exec (keeping.abandon xs before (back kept left)) d ls (suc m.room) first.rest stop) (sym (actuals_seen a.heap (dropping n m) f.base export.count export.names))
          ∙ ap (λ r. closed_at after_exec (undone kept left before) d ls r first.rest stop) (sym (add-one m.room))
          ∙ ap (λ c. closed_at after_exec (undone kept left before) d ls (m.room + 1) first.rest (seen_control a.heap (trees_of a) m.given (seen_origin (Some export.name) export.number) c)) (sym e)
          ∙ ap (λ fs. closed_at after_exec (undone kept left before) d ls (m.room + 1) (rest_of fs) (seen_control a.heap (trees_of a) m.given (seen_origin (Some export.name) export.number) m.control)) (sym first.is)
        where
          stop : windows.Control ℕ
          stop = windows.Stopped (seen_stop a.heap m.given why) (seen_origin (Some export.name) export.number)

          outer_given : List (outcomes.Shown ℕ)
          outer_given = actuals_at (memory_of a.heap m.values) f.base export.count (numbers (top export.names (below n m.names)))

          closes : Step → windows.Turned ℕ O B
          closes s = close (rules_of keeping a) (code_of a) m.room (frames_of keeping a d (left ∷ before ∷ ls) m (record { step = s; base = f.base } ∷ first.rest)) (memory_of a.heap m.values) (seen_stop a.heap m.given why) (seen_origin m.inside m.cut) (state_of keeping a kept m)

          by_step : IsInCall (Some export) g n s → closes s ≡ closed_at after_exec (keeping.abandon outer_given before (keeping.hand_back given_formals given_actuals kept left)) d ls (suc m.room) first.rest stop
          by_step (inl h) = ap closes h
          by_step (inr h) = ap closes h

      pub closes_exec : m.control ≡ control.Stopped why → IsFirst f m.frames → IsInCall (Some export) g n f.step
          → (Mid : O → List B → Type 0) → HandsBack keeping Before Mid formals actuals → Abandons Mid After (all_seen a.heap outer)
          → (x : Machine) → x ≡ after_exec → TurnsTo keeping Before After a a m x
      closes_exec e first c Mid hands abandons x q = subst (λ y. TurnsTo keeping Before After a a m y) (sym q) (record { turns = goes_to })
        where
          goes_to : (d : B) (kept : O) (lefts : List B) → Goes Before m kept lefts → GoesTo keeping After a a m after_exec d kept lefts
          goes_to d kept [] goes = absurd (let x = lefts_first f m.frames f.step first refl in let y = goes.behind in let z = lefts_of_call (Some export) f.step c in omega arith)
          goes_to d kept (left ∷ []) goes = absurd (let x = lefts_first f m.frames f.step first refl in let y = goes.behind in let z = lefts_of_call (Some export) f.step c in omega arith)
          goes_to d kept (left ∷ before ∷ ls) goes = record {
            later = undone kept left before;
            left = ls;
            goes = record {
              keeps = abandons (back kept left) before ls (hands kept left (before ∷ ls) goes.keeps);
              behind = (let x = lefts_first f m.frames f.step first refl in let y = goes.behind in let z = lefts_of_call (Some export) f.step c in let w = lefts_rest f m.frames first in omega arith);
            };
            is = exec_by f.step e first refl c d kept left before ls;
          }

    -- what is asked once the call is left
    pub may_then : (May : O → List B → Type 0) → MayGo Before (MayThen keeping May formals actuals) m → HandsBack keeping Before After formals actuals → MayBe After May
    may_then May may hands = go may.kept may.lefts may.goes.keeps may.may
      where
        go : (kept : O) (lefts : List B) → Before kept lefts → MayThen keeping May formals actuals kept lefts → MayBe After May
        go kept [] keeps p = absurd p
        go kept (left ∷ ls) keeps p = record { kept = back kept left; lefts = ls; keeps = hands kept left ls keeps; may = p }

  -- ---- what is left of it

  module _ (Before After : O → List B → Type 0) (a : Around) (m : Machine) (f : Frame) (export : Inside) (why : Halt) where
    abbrev outer_there : List Shown
    outer_there = actuals_in m f.base export.count export.names

    abbrev after_export : Machine
    after_export = stopping export (record (closing m) { outer_actuals = outer_there })

    abbrev undone_there : O → B → O
    undone_there kept before = keeping.abandon (all_seen a.heap outer_there) before kept

    export_by : m.control ≡ control.Stopped why → (first : IsFirst f m.frames) → f.step ≡ step.Last (Some export)
        → (d : B) (kept : O) (before : B) (ls : List B) → turned keeping a d kept (before ∷ ls) m ≡ windows.Going (machine_of a d (undone_there kept before) ls after_export)
    export_by e first h d kept before ls =
        at_stop a m f (step.Last (Some export)) why d kept (before ∷ ls) e first h
        ∙ ap (λ xs. closes (keeping.abandon xs before kept) (suc m.room) first.rest stop) (sym (actuals_seen a.heap m f.base export.count export.names))
        ∙ ap (λ r. closes (undone_there kept before) r first.rest stop) (sym (add-one m.room))
        ∙ ap (λ c. closes (undone_there kept before) (m.room + 1) first.rest (seen_control a.heap (trees_of a) m.given (seen_origin (Some export.name) export.number) c)) (sym e)
        ∙ ap (λ fs. closes (undone_there kept before) (m.room + 1) (rest_of fs) (seen_control a.heap (trees_of a) m.given (seen_origin (Some export.name) export.number) m.control)) (sym first.is)
      where
        stop : windows.Control ℕ
        stop = windows.Stopped (seen_stop a.heap m.given why) (seen_origin (Some export.name) export.number)

        closes : O → ℕ → List Frame → windows.Control ℕ → windows.Turned ℕ O B
        closes kept' room fs c = windows.Going (record (machine_of a d kept' ls (record after_export { frames = fs })) { room = room; control = c })

    pub closes_export : m.control ≡ control.Stopped why → IsFirst f m.frames → f.step ≡ step.Last (Some export) → Abandons Before After (all_seen a.heap outer_there)
        → (x : Machine) → x ≡ after_export → TurnsTo keeping Before After a a m x
    closes_export e first h abandons x q = subst (λ y. TurnsTo keeping Before After a a m y) (sym q) (record { turns = goes_to })
      where
        goes_to : (d : B) (kept : O) (lefts : List B) → Goes Before m kept lefts → GoesTo keeping After a a m after_export d kept lefts
        goes_to d kept [] goes = absurd (let x = lefts_first f m.frames (step.Last (Some export)) first h in let y = goes.behind in omega arith)
        goes_to d kept (before ∷ ls) goes = record {
          later = undone_there kept before;
          left = ls;
          goes = record {
            keeps = abandons kept before ls goes.keeps;
            behind = (let x = lefts_first f m.frames (step.Last (Some export)) first h in let y = goes.behind in let w = lefts_rest f m.frames first in omega arith);
          };
          is = export_by e first h d kept before ls;
        }

    pub may_now : (May : O → List B → Type 0) → MayGo Before May m → MayBe Before May
    may_now May may = record { kept = may.kept; lefts = may.lefts; keeps = may.goes.keeps; may = may.may }
