-- What a turn makes of a machine whose innermost form is given its values.
use Rattle.std.proofs.Common.{◌≡◌, ℕ, zero, suc, ◌+◌, ◌<◌, List, [], ◌∷◌, length, get_or, refl, sym, ap, ◌∙◌, arith, subst, add-one}
use Rattle.std.specs.Prelude.{ℤ, pos, MatchOption, Option, Some, None, Bool, nat_eq, true, false, if◌then◌else◌}
use Rattle.acl_base.specs.declared.SymId.{SymId}
use Rattle.acl_base.specs.declared.TermId.{TermId}
use Rattle.acl_base.specs.declared.Word.TheVariants as word
use Rattle.acl_heap.specs.Objects.{Objects, IsHeap, IsCellObject}
use Rattle.acl_terms.specs.declared.outcome.Shown.{Shown}
use Rattle.acl_terms.specs.declared.outcome.Shown.TheVariants as shown
use Rattle.model_objects.specs.Object.{Object, Integer, Symbol, Text, Pair}
use Rattle.model_prims.specs.Kinds.{by_number, is_nil}
use Rattle.model_eval.specs.Variables as variables
use Rattle.model_eval.specs.Variables.{single}
use Rattle.model_eval.specs.Keeping.{Keeping}
use Rattle.model_eval.specs.Evaluated.{is_false}
use Rattle.model_slots.specs.Trees.{Tree}
use Rattle.model_window.specs.Frames as windows
use Rattle.model_window.specs.Windows.{Memory, written}
use Rattle.model_window.specs.Turns.{turn, turn_by, go_on, give, close, last_form, next_part}
use Rattle.acl_code.specs.Tables.{tree_in, trees_in}
use Rattle.model_slots.specs.Trees as trees
use Rattle.acl_keep.specs.Seen.{seen_shown, all_seen}
use Rattle.acl_machine.specs.declared.frame.Goal.{Goal}
use Rattle.acl_machine.specs.declared.frame.Step.{Step}
use Rattle.acl_machine.specs.declared.frame.Step.TheVariants as step
use Rattle.acl_machine.specs.declared.frame.Frame.{Frame}
use Rattle.acl_machine.specs.declared.frame.Halt.{Halt}
use Rattle.acl_machine.specs.declared.frame.Control.{Control}
use Rattle.acl_machine.specs.declared.frame.Control.TheVariants as control
use Rattle.acl_machine.specs.declared.machine.Machine.{Machine}
use Rattle.acl_machine.specs.Cells.{cell, memory_of, Writes, WritesAll}
use Rattle.acl_machine.specs.Views.{Around, world_of, trees_of, code_of, seen_step, seen_goal, seen_frames, seen_origin, seen_stop, seen_control, lefts_below, names_below, loans_below, machine_of}
use Rattle.acl_machine.specs.Turns.{rules_of, turned, Turns, IsOver, IsLate, ended_by, IsFirst, with_step}
use Rattle.acl_machine.specs.Steps.{again, beginning, parts_step, parts_next, closed, HasLast, IsPlain, HasPlain}
use Rattle.acl_machine.proofs.BeginLemmas.{state_of, frames_of, parts, becomes}
use Rattle.acl_machine.proofs.MemoryLemmas.{single_cell, memory_written, memory_all_written}

-- ---- tests

not_nil : (o : Object ℕ) → IsCellObject o → is_nil by_number o ≡ false
not_nil (Integer n) c = refl
not_nil (Symbol s) c = absurd c
not_nil (Text bytes) c = refl
not_nil (Pair a d) c = refl

cell_not_nil : (h : Objects) (n : ℕ) → IsHeap h → is_nil by_number (get_or h n (Integer (pos 0))) ≡ false
cell_not_nil h n i = go h n (λ k l. i.cell k l)
  where
    go : (h : Objects) (n : ℕ) → ((k : ℕ) → k < length h → IsCellObject (get_or h k (Integer (pos 0)))) → is_nil by_number (get_or h n (Integer (pos 0))) ≡ false
    go [] n c = refl
    go (o ∷ os) zero c = not_nil o (c 0 (omega arith))
    go (o ∷ os) (suc n) c = go os n (λ k l. c (suc k) (omega arith))

abbrev tests_false : Objects → Shown → Bool
tests_false h v = is_nil by_number (variables.object_of by_number (seen_shown h v))

pub small_holds : (h : Objects) (v : Shown) (n : ℤ) → v ≡ shown.Value (word.Small n) → false ≡ tests_false h v
small_holds h v n e = sym (ap (tests_false h) e)

pub big_holds : (h : Objects) (v : Shown) (n : ℕ) → IsHeap h → v ≡ shown.Value (word.Big n) → false ≡ tests_false h v
big_holds h v n i e = sym (ap (tests_false h) e ∙ cell_not_nil h n i)

pub str_holds : (h : Objects) (v : Shown) (n : ℕ) → IsHeap h → v ≡ shown.Value (word.Str n) → false ≡ tests_false h v
str_holds h v n i e = sym (ap (tests_false h) e ∙ cell_not_nil h n i)

pub cons_holds : (h : Objects) (v : Shown) (n : ℕ) → IsHeap h → v ≡ shown.Value (word.Cons n) → false ≡ tests_false h v
cons_holds h v n i e = sym (ap (tests_false h) e ∙ cell_not_nil h n i)

pub sym_tests : (h : Objects) (v : Shown) (s : SymId) → v ≡ shown.Value (word.Sym s) → nat_eq s.0 1 ≡ tests_false h v
sym_tests h v s e = sym (ap (tests_false h) e)

pub object_tests : (h : Objects) (v : Shown) (x : SymId) → v ≡ shown.Object x → true ≡ tests_false h v
object_tests h v x e = sym (ap (tests_false h) e)

module _ {O B : Type 0} (keeping : Keeping ℕ O B) where
  -- the innermost form is given its values
  pub at_give : (a : Around) (m : Machine) (f : Frame) (s : Step) (d : B) (kept : O) (ls : List B) → m.control ≡ control.Give → (first : IsFirst f m.frames) → f.step ≡ s
      → turned keeping a d kept ls m
      ≡ go_on (rules_of keeping a) (code_of a) m.room f.base (seen_frames a.heap (world_of a) (trees_of a) (code_of a) d (lefts_below s ls) (names_below s m.names) (loans_below s m.loans) first.rest) (memory_of a.heap m.values)
      (seen_step a.heap (world_of a) (trees_of a) (code_of a) d ls m.names m.loans s) (all_seen a.heap m.given) (state_of keeping a kept m)
  unfolding turn
  at_give a m f s d kept ls e first g =
      ap (λ c. turn_by (rules_of keeping a) (code_of a) m.room (frames_of keeping a d ls m m.frames) (memory_of a.heap m.values) (seen_control a.heap (trees_of a) m.given (seen_origin m.inside m.cut) c) (state_of keeping a kept m)) e
      ∙ ap (λ fs. give (rules_of keeping a) (code_of a) m.room (frames_of keeping a d ls m fs) (memory_of a.heap m.values) (all_seen a.heap m.given) (state_of keeping a kept m)) first.is
      ∙ ap (λ s. go_on (rules_of keeping a) (code_of a) m.room f.base (seen_frames a.heap (world_of a) (trees_of a) (code_of a) d (lefts_below s ls) (names_below s m.names) (loans_below s m.loans) first.rest) (memory_of a.heap m.values)
      (seen_step a.heap (world_of a) (trees_of a) (code_of a) d ls m.names m.loans s) (all_seen a.heap m.given) (state_of keeping a kept m)) g

  -- the same machine, whose innermost frame has another step
  pub again_as : (a : Around) (m : Machine) (f : Frame) (s : Step) (d : B) (kept : O) (ls : List B) (first : IsFirst f m.frames)
      → windows.Going (machine_of a d kept ls (record m { frames = record f { step = s } ∷ first.rest })) ≡ windows.Going (machine_of a d kept ls (again s m))
  again_as a m f s d kept ls first = ap (λ fs. windows.Going (machine_of a d kept ls (record m { frames = with_step s fs }))) (sym first.is)

  pub goes_test : (a : Around) (m : Machine) (f : Frame) (held other : TermId) (b : Bool) → m.control ≡ control.Give → IsFirst f m.frames → f.step ≡ step.Test held other
      → b ≡ is_nil by_number (variables.object_of by_number (seen_shown a.heap (cell m.given 0)))
      → (n : Machine) → n ≡ beginning (if b then other else held) f.base (again (step.Last None) m) → Turns keeping a a m n
  goes_test a m f held other b e first g t n q = becomes keeping n _ q (
      (record { goes = λ d kept ls. at_give a m f (step.Test held other) d kept ls e first g ∙ by_test d kept ls (is_false (rules_of keeping a) (all_seen a.heap m.given)) refl }))
    where
      same : is_false (rules_of keeping a) (all_seen a.heap m.given) ≡ b
      same = ap (λ v. is_nil by_number (variables.object_of by_number v)) (single_cell a.heap m.given) ∙ sym t

      begins : (d : B) (kept : O) (ls : List B) (c : Bool)
          → last_form (rules_of keeping a) (code_of a) m.room f.base (frames_of keeping a d ls m first.rest) (memory_of a.heap m.values) (if c then tree_in (trees_of a) other else tree_in (trees_of a) held) (state_of keeping a kept m)
          ≡ windows.Going (machine_of a d kept ls (record m { frames = record f { step = step.Last None } ∷ first.rest; control = control.Begin (if c then other else held) f.base }))
      begins d kept ls true = refl
      begins d kept ls false = refl

      by_test : (d : B) (kept : O) (ls : List B) (c : Bool) → is_false (rules_of keeping a) (all_seen a.heap m.given) ≡ c
          → last_form (rules_of keeping a) (code_of a) m.room f.base (frames_of keeping a d ls m first.rest) (memory_of a.heap m.values) (if is_false (rules_of keeping a) (all_seen a.heap m.given) then tree_in (trees_of a) other else tree_in (trees_of a) held) (state_of keeping a kept m)
          ≡ windows.Going (machine_of a d kept ls (beginning (if b then other else held) f.base (again (step.Last None) m)))
      by_test d kept ls c h =
          ap (λ c. last_form (rules_of keeping a) (code_of a) m.room f.base (frames_of keeping a d ls m first.rest) (memory_of a.heap m.values) (if c then tree_in (trees_of a) other else tree_in (trees_of a) held) (state_of keeping a kept m)) same
          ∙ begins d kept ls b
          ∙ again_as a (record m { control = control.Begin (if b then other else held) f.base }) f (step.Last None) d kept ls first

  pub goes_part : (a : Around) (m : Machine) (f : Frame) (at count : ℕ) (next : TermId) (left : ℕ) (g : Goal) (values : List Shown) → m.control ≡ control.Give → IsFirst f m.frames → f.step ≡ step.Parts at count next left g
      → Writes (f.base + (at + count)) (cell m.given 0) m.values values
      → (n : Machine) → n ≡ parts_next (length a.terms) f.base at (count + 1) next left g (again (parts_step (length a.terms) at (count + 1) next left g) (record m { values = values })) → Turns keeping a a m n
  goes_part a m f at count next left g values e first h w n q = becomes keeping n _ q (record {
    goes = λ d kept ls.
        at_give a m f (step.Parts at count next left g) d kept ls e first h
        ∙ ap (λ v. stepped d kept ls (written (f.base + (at + count)) v (memory_of a.heap m.values))) (single_cell a.heap m.given)
        ∙ ap (stepped d kept ls) (sym (memory_written a.heap (f.base + (at + count)) (cell m.given 0) m.values values w))
        ∙ parts keeping a d kept ls (record m { values = values }) first.rest f.base at (count + 1) next left g
        ∙ ap (λ fs. windows.Going (machine_of a d kept ls (parts_next (length a.terms) f.base at (count + 1) next left g (record m { values = values; frames = with_step (parts_step (length a.terms) at (count + 1) next left g) fs })))) (sym first.is);
  })
    where
      stepped : B → O → List B → Memory ℕ → windows.Turned ℕ O B
      stepped d kept ls memory = next_part (rules_of keeping a) (code_of a) m.room f.base (frames_of keeping a d ls m first.rest) memory at (count + 1) (trees.trees (trees_in (trees_of a) (record { first = next; count = left }))) (seen_goal (trees_of a) g) (state_of keeping a kept m)

  pub goes_several : (a : Around) (m : Machine) (f : Frame) (at : ℕ) (body : TermId) (values : List Shown) → m.control ≡ control.Give → IsFirst f m.frames → f.step ≡ step.Several at body
      → WritesAll (f.base + at) m.given m.values values
      → (n : Machine) → n ≡ beginning body f.base (again (step.Last None) (record m { values = values })) → Turns keeping a a m n
  goes_several a m f at body values e first h w n q = becomes keeping n _ q (record {
    goes = λ d kept ls.
        at_give a m f (step.Several at body) d kept ls e first h
        ∙ ap (λ memory. last_form (rules_of keeping a) (code_of a) m.room f.base (frames_of keeping a d ls m first.rest) memory (tree_in (trees_of a) body) (state_of keeping a kept m)) (sym (memory_all_written a.heap (f.base + at) m.given m.values values w))
        ∙ again_as a (record m { values = values; control = control.Begin body f.base }) f (step.Last None) d kept ls first;
  })

  pub goes_last : (a : Around) (m : Machine) (f : Frame) (rest : List Frame) → m.control ≡ control.Give → m.frames ≡ f ∷ rest → f.step ≡ step.Last None
      → (n : Machine) → n ≡ closed rest m → Turns keeping a a m n
  goes_last a m f rest e first h n q = becomes keeping n _ q (record {
    goes = λ d kept ls.
        at_give a m f (step.Last None) d kept ls e (record { rest = rest; is = first }) h
        ∙ ap (λ n. windows.Going (record (machine_of a d kept ls (closed rest m)) { room = n; control = windows.Give (all_seen a.heap m.given) })) (sym (add-one m.room))
        ∙ ap (λ c. windows.Going (record (machine_of a d kept ls (closed rest m)) { control = seen_control a.heap (trees_of a) m.given (seen_origin m.inside m.cut) c })) (sym e);
  })

  pub goes_after_last : (a : Around) (m : Machine) (f : Frame) (rest : List Frame) → m.control ≡ control.Give → HasLast m.frames → m.frames ≡ f ∷ rest → (n : Machine) → n ≡ closed rest m → Turns keeping a a m n
  goes_after_last a m f rest e h first n q = goes_last a m f rest e first (own h first) n q
    where
      own : HasLast m.frames → m.frames ≡ f ∷ rest → f.step ≡ step.Last None
      own h g = subst HasLast g h

  pub goes_popped : (a : Around) (m : Machine) (r : Option Frame) (fs : List Frame) → m.control ≡ control.Give → HasLast m.frames → MatchOption r ((m.frames ≡ []) × (fs ≡ [])) (λ f. m.frames ≡ f ∷ fs) → (n : Machine) → n ≡ closed fs m → Turns keeping a a m n
  goes_popped a m None fs e h p n q = absurd (subst HasLast p.0 h)
  goes_popped a m (Some f) fs e h p n q = goes_after_last a m f fs e h p n q

  -- ---- a stop

  pub closes : (a : Around) (m : Machine) (f : Frame) (rest : List Frame) (why : Halt) → m.control ≡ control.Stopped why → m.frames ≡ f ∷ rest → IsPlain f.step
      → (n : Machine) → n ≡ closed rest m → Turns keeping a a m n
  unfolding turn
  closes a m f rest why e first p n q = becomes keeping n _ q (record {
    goes = λ d kept ls.
        ap (λ c. turn_by (rules_of keeping a) (code_of a) m.room (frames_of keeping a d ls m m.frames) (memory_of a.heap m.values) (seen_control a.heap (trees_of a) m.given (seen_origin m.inside m.cut) c) (state_of keeping a kept m)) e
        ∙ ap (λ fs. close (rules_of keeping a) (code_of a) m.room (frames_of keeping a d ls m fs) (memory_of a.heap m.values) (seen_stop a.heap m.given why) (seen_origin m.inside m.cut) (state_of keeping a kept m)) first
        ∙ by_step d kept ls f.step p
        ∙ ap (λ n. windows.Going (record (machine_of a d kept ls (closed rest m)) { room = n; control = windows.Stopped (seen_stop a.heap m.given why) (seen_origin m.inside m.cut) })) (sym (add-one m.room))
        ∙ ap (λ c. windows.Going (record (machine_of a d kept ls (closed rest m)) { control = seen_control a.heap (trees_of a) m.given (seen_origin m.inside m.cut) c })) (sym e);
  })
    where
      by_step : (d : B) (kept : O) (ls : List B) (s : Step) → IsPlain s
          → close (rules_of keeping a) (code_of a) m.room (frames_of keeping a d ls m (record f { step = s } ∷ rest)) (memory_of a.heap m.values) (seen_stop a.heap m.given why) (seen_origin m.inside m.cut) (state_of keeping a kept m)
          ≡ windows.Going (record (machine_of a d kept ls (closed rest m)) { room = suc m.room; control = windows.Stopped (seen_stop a.heap m.given why) (seen_origin m.inside m.cut) })
      by_step d kept ls (step.Test held other) p = refl
      by_step d kept ls (step.Parts at count next left g) p = refl
      by_step d kept ls (step.Several at body) p = refl
      by_step d kept ls (step.Calling at function count) p = refl
      by_step d kept ls (step.Guarding inside function names) p = absurd p
      by_step d kept ls (step.Running inside function names) p = absurd p
      by_step d kept ls (step.Allowing function names number) p = absurd p
      by_step d kept ls (step.Exporting function names number) p = absurd p
      by_step d kept ls (step.Borrowing at term bound) p = absurd p
      by_step d kept ls (step.Producing at loans consumer) p = absurd p
      by_step d kept ls (step.Putting at put loans consumer) p = absurd p
      by_step d kept ls (step.Local at body) p = absurd p
      by_step d kept ls (step.Last None) p = refl
      by_step d kept ls (step.Last (Some x)) p = absurd p

  pub closes_popped : (a : Around) (m : Machine) (r : Option Frame) (fs : List Frame) (why : Halt) → m.control ≡ control.Stopped why → HasPlain m.frames → MatchOption r ((m.frames ≡ []) × (fs ≡ [])) (λ f. m.frames ≡ f ∷ fs)
      → (n : Machine) → n ≡ closed fs m → Turns keeping a a m n
  closes_popped a m None fs why e h p n q = absurd (subst HasPlain p.0 h)
  closes_popped a m (Some f) fs why e h p n q = closes a m f fs why e p (subst HasPlain p h) n q

  -- ---- the end

  pub is_over : (a : Around) (m : Machine) → m.frames ≡ [] → IsLate m.control → IsOver keeping a m
  unfolding turn
  is_over a m none late = record {
    over = λ d kept ls.
        ap (λ fs. turn_by (rules_of keeping a) (code_of a) m.room (frames_of keeping a d ls m fs) (memory_of a.heap m.values) (seen_control a.heap (trees_of a) m.given (seen_origin m.inside m.cut) m.control) (state_of keeping a kept m)) none
        ∙ by_control d kept ls m.control late;
  }
    where
      by_control : (d : B) (kept : O) (ls : List B) (c : Control) → IsLate c
          → turn_by (rules_of keeping a) (code_of a) m.room [] (memory_of a.heap m.values) (seen_control a.heap (trees_of a) m.given (seen_origin m.inside m.cut) c) (state_of keeping a kept m)
          ≡ windows.Over (ended_by (seen_control a.heap (trees_of a) m.given (seen_origin m.inside m.cut) c) (state_of keeping a kept m))
      by_control d kept ls (control.Begin term base) l = absurd l
      by_control d kept ls control.Give l = refl
      by_control d kept ls (control.Stopped why) l = refl
