-- A turn that leaves what is kept as it is, over whatever is kept: as much stays behind as before.
use Rattle.std.proofs.Common.{◌≡◌, ℕ, suc, ◌+◌, ◌<◌, ◌≤◌, List, [], ◌∷◌, length, refl, sym, ap, ◌∙◌, arith, subst}
use Rattle.std.specs.Prelude.{Option, Some, None, slice_get}
use Rattle.model_terms.specs.Worlds as worlds
use Rattle.model_eval.specs.Keeping.{Keeping}
use Rattle.model_window.specs.Frames as windows
use Rattle.model_window.specs.Turns.{begin}
use Rattle.acl_base.specs.declared.SymId.{SymId}
use Rattle.acl_base.specs.declared.FnId.{FnId}
use Rattle.acl_base.specs.declared.TermId.{TermId}
use Rattle.acl_heap.specs.Objects.{Objects}
use Rattle.acl_terms.specs.declared.definition.Definition.{Definition}
use Rattle.acl_terms.specs.declared.definition.Definition.TheVariants as definition
use Rattle.acl_terms.specs.Definitions.{seen_definition}
use Rattle.acl_code.specs.Tables.{trees_in, tree_in, tree_at}
use Rattle.acl_keep.specs.Seen.{all_seen}
use Rattle.acl_machine.specs.declared.frame.Goal.{Goal}
use Rattle.acl_machine.specs.declared.frame.Step.{Step}
use Rattle.acl_machine.specs.declared.frame.Step.TheVariants as step
use Rattle.acl_machine.specs.declared.frame.Frame.{Frame}
use Rattle.acl_machine.specs.declared.frame.Halt.{Halt}
use Rattle.acl_machine.specs.declared.frame.Control.TheVariants as control
use Rattle.acl_machine.specs.declared.machine.Machine.{Machine}
use Rattle.acl_machine.specs.Cells.{cell, cells_from, memory_of}
use Rattle.acl_machine.specs.Views.{Around, world_of, trees_of, code_of, seen_goal, seen_frames, lefts_below, names_below, loans_below}
use Rattle.acl_machine.specs.Turns.{rules_of, turned, Turns, IsFirst}
use Rattle.acl_machine.specs.Steps.{IsPlain, HasPlain, HasLast, IsRefused, MayNotCall}
use Rattle.acl_machine.specs.Keeping.{lefts_in, all_lefts, Goes, GoesTo, TurnsTo, StillKeeps}
use Rattle.acl_machine.proofs.BeginLemmas.{state_of, frames_of, at_term}
use Rattle.acl_machine.proofs.GoLemmas.{at_give}
use Rattle.acl_machine.proofs.CallLemmas.{at_call, seen_at, not_below}
use Rattle.acl_call_turns.proofs.CloseLemmas.{at_stop}
use Rattle.acl_turns.proofs.LeftsLemmas.{frame_lefts, frames_seen, HasLefts, IsAtOnce, part_lefts, call_lefts, too_many_lefts, begin_lefts}
use Rattle.model_window.specs.Windows.{written}
use Rattle.model_eval.specs.Variables.{single}
use Rattle.model_slots.specs.Trees as trees

pub plain_first : (f : Frame) (fs : List Frame) → IsFirst f fs → IsPlain f.step → HasPlain fs
plain_first f fs first p = subst HasPlain (sym first.is) p

pub last_first : (f : Frame) (fs : List Frame) → IsFirst f fs → f.step ≡ step.Last None → HasLast fs
last_first f fs first e = subst HasLast (sym first.is) e

plain_lefts : (s : Step) → IsPlain s → lefts_in s ≡ 0
plain_lefts (step.Test held other) p = refl
plain_lefts (step.Parts at count next left goal) p = refl
plain_lefts (step.Several at body) p = refl
plain_lefts (step.Calling at function count) p = refl
plain_lefts (step.Guarding inside function names) p = absurd p
plain_lefts (step.Running inside function names) p = absurd p
plain_lefts (step.Allowing function names number) p = absurd p
plain_lefts (step.Exporting function names number) p = absurd p
plain_lefts (step.Borrowing at term bound) p = absurd p
plain_lefts (step.Producing at loans consumer) p = absurd p
plain_lefts (step.Putting at put loans consumer) p = absurd p
plain_lefts (step.Local at body) p = absurd p
plain_lefts (step.Last None) p = refl
plain_lefts (step.Last (Some x)) p = absurd p

-- around a form that has left nothing behind there is as much as with it
around_quiet : (f : Frame) (fs : List Frame) (first : IsFirst f fs) → lefts_in f.step ≡ 0 → all_lefts first.rest ≡ all_lefts fs
around_quiet f fs first e =
    let x : all_lefts fs ≡ lefts_in f.step + all_lefts first.rest = ap all_lefts first.is in
    omega (arith, x, e)

refused_at_once : (h : Objects) (d : Definition) → IsRefused d → IsAtOnce (Some (seen_definition h d))
refused_at_once h (definition.Primitive name row arity) r = absurd r
refused_at_once h (definition.Function f) r = absurd r
refused_at_once h (definition.Macro f) r = tt
refused_at_once h (definition.Constant name value) r = tt
refused_at_once h (definition.Object descriptor layout class) r = tt
refused_at_once h (definition.Generated f) r = absurd r
refused_at_once h (definition.Abstract descriptor) r = tt
refused_at_once h (definition.OfAbstract f) r = absurd r
refused_at_once h (definition.Named name formals) r = tt
refused_at_once h (definition.Signed name formals signature executable) r = tt

module _ {O B : Type 0} (keeping : Keeping ℕ O B) where
  -- a turn after which as much is left behind
  pub quiet_turns : (Before After : O → List B → Type 0) (a after : Around) (m n : Machine) → ((d : B) (kept : O) (ls : List B) → HasLefts (all_lefts m.frames) (turned keeping a d kept ls m))
      → StillKeeps Before After → Turns keeping a after m n → TurnsTo keeping Before After a after m n
  quiet_turns Before After a after m n quiet still turns = record {
    turns = λ d kept ls goes. record {
      later = kept;
      left = ls;
      goes = record { keeps = still kept ls goes.keeps; behind = goes.behind ∙ sym (same d kept ls) };
      is = turns.goes d kept ls;
    };
  }
    where
      same : (d : B) (kept : O) (ls : List B) → all_lefts n.frames ≡ all_lefts m.frames
      same d kept ls =
          sym (frames_seen after.heap (world_of after) (trees_of after) (code_of after) d n.frames ls n.names n.loans)
          ∙ subst (HasLefts (all_lefts m.frames)) (turns.goes d kept ls) (quiet d kept ls)

  -- what is left behind around the innermost form, seen
  rest_lefts : (a : Around) (m : Machine) (f : Frame) (s : Step) (d : B) (ls : List B) (first : IsFirst f m.frames) → f.step ≡ s → lefts_in s ≡ 0
      → frame_lefts (seen_frames a.heap (world_of a) (trees_of a) (code_of a) d (lefts_below s ls) (names_below s m.names) (loans_below s m.loans) first.rest) ≡ all_lefts m.frames
  rest_lefts a m f s d ls first e z =
      frames_seen a.heap (world_of a) (trees_of a) (code_of a) d first.rest (lefts_below s ls) (names_below s m.names) (loans_below s m.loans)
      ∙ around_quiet f m.frames first (ap lefts_in e ∙ z)

  module _ (Keeps : O → List B → Type 0) (a after : Around) (m n : Machine) where
    pub turns_by_close : (f : Frame) (why : Halt) → m.control ≡ control.Stopped why → IsFirst f m.frames → IsPlain f.step → Turns keeping a after m n → TurnsTo keeping Keeps Keeps a after m n
    turns_by_close f why e first p = quiet_turns Keeps Keeps a after m n
        (λ d kept ls. subst (HasLefts (all_lefts m.frames)) (sym (at_stop keeping a m f f.step why d kept ls e first refl)) (rest_lefts a m f f.step d ls first refl (plain_lefts f.step p)))
        (λ kept ls k. k)

    pub turns_by_test : (f : Frame) (held other : TermId) → m.control ≡ control.Give → IsFirst f m.frames → f.step ≡ step.Test held other → Turns keeping a after m n → TurnsTo keeping Keeps Keeps a after m n
    turns_by_test f held other e first h = quiet_turns Keeps Keeps a after m n
        (λ d kept ls. subst (HasLefts (all_lefts m.frames)) (sym (at_give keeping a m f (step.Test held other) d kept ls e first h)) (rest_lefts a m f (step.Test held other) d ls first h refl))
        (λ kept ls k. k)

    pub turns_by_part : (f : Frame) (at count : ℕ) (next : TermId) (left : ℕ) (goal : Goal) → m.control ≡ control.Give → IsFirst f m.frames → f.step ≡ step.Parts at count next left goal → Turns keeping a after m n → TurnsTo keeping Keeps Keeps a after m n
    turns_by_part f at count next left goal e first h = quiet_turns Keeps Keeps a after m n
        (λ d kept ls. subst (HasLefts (all_lefts m.frames)) (sym (at_give keeping a m f (step.Parts at count next left goal) d kept ls e first h))
        (part_lefts (rules_of keeping a) (code_of a) m.room f.base (frames_of keeping a d ls m first.rest) (written (f.base + (at + count)) (single (rules_of keeping a).kind (all_seen a.heap m.given)) (memory_of a.heap m.values)) (all_lefts m.frames)
        (rest_lefts a m f (step.Parts at count next left goal) d ls first h refl) at (count + 1) (trees.trees (trees_in (trees_of a) (record { first = next; count = left }))) (seen_goal (trees_of a) goal) (state_of keeping a kept m)))
        (λ kept ls k. k)

    pub turns_by_several : (f : Frame) (at : ℕ) (body : TermId) → m.control ≡ control.Give → IsFirst f m.frames → f.step ≡ step.Several at body → Turns keeping a after m n → TurnsTo keeping Keeps Keeps a after m n
    turns_by_several f at body e first h = quiet_turns Keeps Keeps a after m n
        (λ d kept ls. subst (HasLefts (all_lefts m.frames)) (sym (at_give keeping a m f (step.Several at body) d kept ls e first h)) (rest_lefts a m f (step.Several at body) d ls first h refl))
        (λ kept ls k. k)

    pub turns_by_last : (f : Frame) → m.control ≡ control.Give → IsFirst f m.frames → f.step ≡ step.Last None → Turns keeping a after m n → TurnsTo keeping Keeps Keeps a after m n
    turns_by_last f e first h = quiet_turns Keeps Keeps a after m n
        (λ d kept ls. subst (HasLefts (all_lefts m.frames)) (sym (at_give keeping a m f (step.Last None) d kept ls e first h)) (rest_lefts a m f (step.Last None) d ls first h refl))
        (λ kept ls k. k)

    -- ---- calls

    call_at_once : (f : Frame) (at : ℕ) (g : FnId) (count : ℕ) (what : Option worlds.Definition) → m.control ≡ control.Give → IsFirst f m.frames → f.step ≡ step.Calling at g count
        → slice_get (world_of a) g.0 ≡ what → IsAtOnce what → (d : B) (kept : O) (ls : List B) → HasLefts (all_lefts m.frames) (turned keeping a d kept ls m)
    call_at_once f at g count what e first h w q d kept ls =
        subst (HasLefts (all_lefts m.frames)) (sym (at_call keeping a m f at g count d kept ls e first h))
        (call_lefts (rules_of keeping a) (code_of a) m.room (f.base + at) (frames_of keeping a d ls m first.rest) (memory_of a.heap m.values) (all_lefts m.frames) (rest_lefts a m f (step.Calling at g count) d ls first h refl)
        g.0 (all_seen a.heap (cells_from m.values (f.base + at) count)) (state_of keeping a kept m) what w q)

    pub turns_at_once : (f : Frame) (at : ℕ) (g : FnId) (count : ℕ) (what : Option worlds.Definition) → m.control ≡ control.Give → IsFirst f m.frames → f.step ≡ step.Calling at g count
        → slice_get (world_of a) g.0 ≡ what → IsAtOnce what → Turns keeping a after m n → TurnsTo keeping Keeps Keeps a after m n
    turns_at_once f at g count what e first h w q = quiet_turns Keeps Keeps a after m n (call_at_once f at g count what e first h w q) (λ kept ls k. k)

    pub turns_by_primitive : (f : Frame) (at : ℕ) (g : FnId) (count : ℕ) (name : SymId) (row arity : ℕ) → m.control ≡ control.Give → IsFirst f m.frames → f.step ≡ step.Calling at g count
        → slice_get a.content.definitions g.0 ≡ Some (definition.Primitive name row arity) → Turns keeping a after m n → TurnsTo keeping Keeps Keeps a after m n
    turns_by_primitive f at g count name row arity e first h w =
        turns_at_once f at g count (Some (seen_definition a.heap (definition.Primitive name row arity))) e first h (seen_at a.heap a.content.definitions g.0 (definition.Primitive name row arity) w) tt

    pub turns_by_refusal : (f : Frame) (at : ℕ) (g : FnId) (count : ℕ) → m.control ≡ control.Give → IsFirst f m.frames → f.step ≡ step.Calling at g count
        → MayNotCall (slice_get a.content.definitions g.0) → Turns keeping a after m n → TurnsTo keeping Keeps Keeps a after m n
    turns_by_refusal f at g count e first h r turns = by_what (slice_get a.content.definitions g.0) refl r
      where
        by_what : (what : Option Definition) → slice_get a.content.definitions g.0 ≡ what → MayNotCall what → TurnsTo keeping Keeps Keeps a after m n
        by_what None w r = absurd r
        by_what (Some d) w r = turns_at_once f at g count (Some (seen_definition a.heap d)) e first h (seen_at a.heap a.content.definitions g.0 d w) (refused_at_once a.heap d r) turns

    pub turns_by_too_many : (f : Frame) (at : ℕ) (g : FnId) (count : ℕ) → m.control ≡ control.Give → IsFirst f m.frames → f.step ≡ step.Calling at g count
        → a.limit ≤ m.calls → Turns keeping a after m n → TurnsTo keeping Keeps Keeps a after m n
    turns_by_too_many f at g count e first h l = quiet_turns Keeps Keeps a after m n
        (λ d kept ls. subst (HasLefts (all_lefts m.frames)) (sym (at_call keeping a m f at g count d kept ls e first h))
        (too_many_lefts (rules_of keeping a) (code_of a) m.room (f.base + at) (frames_of keeping a d ls m first.rest) (memory_of a.heap m.values) (all_lefts m.frames) (rest_lefts a m f (step.Calling at g count) d ls first h refl)
        g.0 (all_seen a.heap (cells_from m.values (f.base + at) count)) (state_of keeping a kept m) (not_below m.calls a.limit l)))
        (λ kept ls k. k)

    -- ---- a term begins

    pub turns_by_begin : (t : TermId) (base : ℕ) → m.control ≡ control.Begin t base → Turns keeping a after m n → TurnsTo keeping Keeps Keeps a after m n
    turns_by_begin t base e = quiet_turns Keeps Keeps a after m n
        (λ d kept ls. subst (HasLefts (all_lefts m.frames)) (sym (at_term keeping a m t base (tree_at a.heap a.terms t) d kept ls e refl))
        (begin_lefts (rules_of keeping a) (code_of a) base (frames_of keeping a d ls m m.frames) (memory_of a.heap m.values) (all_lefts m.frames)
        (frames_seen a.heap (world_of a) (trees_of a) (code_of a) d m.frames ls m.names m.loans) m.room (tree_at a.heap a.terms t) (state_of keeping a kept m)))
        (λ kept ls k. k)
