-- Open forms, and turns that change what is kept.
use Rattle.std.proofs.Common.{◌≡◌, ◌≢◌, ℕ, zero, suc, ◌+◌, List, [], ◌∷◌, length, drop, refl, sym, ap, ◌∙◌, arith, subst}
use Rattle.std.specs.Prelude.{MatchOption, Option, Some, None, Bool, nat_eq, true, false, if◌then◌else◌}
use Rattle.std.proofs.lemmas.Bool.Decides.{nat_tests}
use Rattle.model_eval.specs.Keeping.{Keeping}
use Rattle.model_window.specs.Frames as windows
use Rattle.model_window.specs.Turns.{turn, turn_by, close}
use Rattle.acl_keep.specs.Calls.{MayBe}
use Rattle.acl_machine.specs.declared.frame.Step.{Step}
use Rattle.acl_machine.specs.declared.frame.Frame.{Frame}
use Rattle.acl_machine.specs.declared.frame.Halt.{Halt}
use Rattle.acl_machine.specs.declared.frame.Halt.TheVariants as halt
use Rattle.acl_machine.specs.declared.frame.Control.TheVariants as control
use Rattle.acl_machine.specs.declared.machine.Machine.{Machine}
use Rattle.acl_machine.specs.Cells.{memory_of}
use Rattle.acl_machine.specs.Views.{Around, world_of, trees_of, code_of, seen_step, seen_frames, seen_origin, seen_stop, seen_control, lefts_below, names_below, loans_below, machine_of}
use Rattle.acl_machine.specs.Turns.{rules_of, turned, IsFirst, with_step, with_frame}
use Rattle.acl_machine.specs.Keeping.{lefts_in, all_lefts, Goes, GoesTo, TurnsTo, MayGo}
use Rattle.acl_machine.specs.Steps.{stopped, pushed, opened_to}
use Rattle.acl_machine.proofs.BeginLemmas.{state_of, frames_of}

pub not_zero : (n : ℕ) → n ≢ 0 → nat_eq n 0 ≡ false
not_zero n h = grind (arith, nat_tests)

pub opened_there : (s : Step) (base : ℕ) (next : Machine → Machine) (m : Machine) → m.room ≢ 0 → opened_to s base next m ≡ next (pushed s base m)
opened_there s base next m h = ap (λ (b : Bool). if b then stopped halt.Depth m else next (pushed s base m)) (not_zero m.room h)

pub popped : (r : Option Frame) (old new : List Frame) → MatchOption r ((old ≡ []) × (new ≡ [])) (λ f. old ≡ f ∷ new) → new ≡ drop 1 old
popped None old new p = p.1 ∙ sym (ap (drop 1) p.0)
popped (Some f) old new p = sym (ap (drop 1) p)

-- ---- what open forms have left behind

pub lefts_again : (s : Step) (f : Frame) (fs : List Frame) → IsFirst f fs → lefts_in s ≡ lefts_in f.step → all_lefts (with_step s fs) ≡ all_lefts fs
lefts_again s f fs first e =
    ap (λ l. all_lefts (with_step s l)) first.is
    ∙ ap (λ n. n + all_lefts first.rest) e
    ∙ sym (ap all_lefts first.is)

pub lefts_replaced : (g f : Frame) (fs : List Frame) → IsFirst f fs → lefts_in g.step ≡ lefts_in f.step → all_lefts (with_frame g fs) ≡ all_lefts fs
lefts_replaced g f fs first e =
    ap (λ l. all_lefts (with_frame g l)) first.is
    ∙ ap (λ n. n + all_lefts first.rest) e
    ∙ sym (ap all_lefts first.is)

pub lefts_closed : (f : Frame) (fs : List Frame) → IsFirst f fs → lefts_in f.step ≡ 0 → all_lefts (drop 1 fs) ≡ all_lefts fs
lefts_closed f fs first e =
    let one : all_lefts (drop 1 fs) ≡ all_lefts first.rest = ap (λ l. all_lefts (drop 1 l)) first.is in
    let all : all_lefts fs ≡ lefts_in f.step + all_lefts first.rest = ap all_lefts first.is in
    omega (arith, one, all, e)

-- what may be asked of a keeper with a machine may be asked of it
pub may_be : {O B : Type 0} (Keeps May : O → List B → Type 0) (m : Machine) → MayGo Keeps May m → MayBe Keeps May
may_be Keeps May m may = record { kept = may.kept; lefts = may.lefts; keeps = may.goes.keeps; may = may.may }

module _ {O B : Type 0} (keeping : Keeping ℕ O B) where
  -- a turn that leaves what is kept as it is
  pub keeps_all : (Keeps : O → List B → Type 0) (a : Around) (m n : Machine) → all_lefts n.frames ≡ all_lefts m.frames
      → ((d : B) (kept : O) (ls : List B) → Keeps kept ls → turned keeping a d kept ls m ≡ windows.Going (machine_of a d kept ls n)) → TurnsTo keeping Keeps Keeps a a m n
  keeps_all Keeps a m n same is = record {
    turns = λ d kept ls g. record { later = kept; left = ls; goes = record { keeps = g.keeps; behind = g.behind ∙ sym same }; is = is d kept ls g.keeps };
  }

  -- a turn that makes this of what is kept
  pub changes : (Before After : O → List B → Type 0) (change : O → O) (a after : Around) (m n : Machine) → all_lefts n.frames ≡ all_lefts m.frames
      → ((kept : O) (ls : List B) → Before kept ls → After (change kept) ls)
      → ((d : B) (kept : O) (ls : List B) → Before kept ls → turned keeping a d kept ls m ≡ windows.Going (machine_of after d (change kept) ls n)) → TurnsTo keeping Before After a after m n
  changes Before After change a after m n same keeps is = record {
    turns = λ d kept ls g. record { later = change kept; left = ls; goes = record { keeps = keeps kept ls g.keeps; behind = g.behind ∙ sym same }; is = is d kept ls g.keeps };
  }

  -- a stop closes the innermost form
  pub at_stop : (a : Around) (m : Machine) (f : Frame) (s : Step) (why : Halt) (d : B) (kept : O) (ls : List B) → m.control ≡ control.Stopped why → (first : IsFirst f m.frames) → f.step ≡ s
      → turned keeping a d kept ls m
      ≡ close (rules_of keeping a) (code_of a) m.room
      (record { step = seen_step a.heap (world_of a) (trees_of a) (code_of a) d ls m.names m.loans s; base = f.base } ∷ seen_frames a.heap (world_of a) (trees_of a) (code_of a) d (lefts_below s ls) (names_below s m.names) (loans_below s m.loans) first.rest)
      (memory_of a.heap m.values) (seen_stop a.heap m.given why) (seen_origin m.inside m.cut) (state_of keeping a kept m)
  unfolding turn
  at_stop a m f s why d kept ls e first g =
      ap (λ c. turn_by (rules_of keeping a) (code_of a) m.room (frames_of keeping a d ls m m.frames) (memory_of a.heap m.values) (seen_control a.heap (trees_of a) m.given (seen_origin m.inside m.cut) c) (state_of keeping a kept m)) e
      ∙ ap (λ fs. close (rules_of keeping a) (code_of a) m.room (frames_of keeping a d ls m fs) (memory_of a.heap m.values) (seen_stop a.heap m.given why) (seen_origin m.inside m.cut) (state_of keeping a kept m)) first.is
      ∙ ap (λ s. close (rules_of keeping a) (code_of a) m.room
      (record { step = seen_step a.heap (world_of a) (trees_of a) (code_of a) d ls m.names m.loans s; base = f.base } ∷ seen_frames a.heap (world_of a) (trees_of a) (code_of a) d (lefts_below s ls) (names_below s m.names) (loans_below s m.loans) first.rest)
      (memory_of a.heap m.values) (seen_stop a.heap m.given why) (seen_origin m.inside m.cut) (state_of keeping a kept m)) g

  -- and that is the machine without it
  pub closed_as : (a : Around) (m : Machine) (f : Frame) (why : Halt) (d : B) (kept : O) (ls : List B) → m.control ≡ control.Stopped why → (first : IsFirst f m.frames)
      → windows.Going (record {
        room = suc m.room;
        frames = frames_of keeping a d ls m first.rest;
        memory = memory_of a.heap m.values;
        control = windows.Stopped (seen_stop a.heap m.given why) (seen_origin m.inside m.cut);
        state = state_of keeping a kept m;
      })
      ≡ windows.Going (machine_of a d kept ls (record m { room = m.room + 1; frames = drop 1 m.frames }))
  closed_as a m f why d kept ls e first =
      let room : suc m.room ≡ m.room + 1 = omega arith in
      ap (λ n. windows.Going (record (machine_of a d kept ls (record m { frames = first.rest })) { room = n; control = windows.Stopped (seen_stop a.heap m.given why) (seen_origin m.inside m.cut) })) room
      ∙ ap (λ c. windows.Going (record (machine_of a d kept ls (record m { frames = first.rest })) { room = m.room + 1; control = seen_control a.heap (trees_of a) m.given (seen_origin m.inside m.cut) c })) (sym e)
      ∙ ap (λ fs. windows.Going (machine_of a d kept ls (record m { room = m.room + 1; frames = drop 1 fs }))) (sym first.is)
