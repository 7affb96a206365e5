-- What a turn makes of a machine at a local object.
use Rattle.std.proofs.Common.{◌≡◌, ◌≢◌, ℕ, ◌+◌, ◌-◌, ◌<◌, ◌≤◌, List, [], ◌∷◌, drop, refl, sym, ap, ◌∙◌, arith, subst}
use Rattle.std.specs.Prelude.{Some, None, Bool, slice_get, nat_lt, true, false, if◌then◌else◌}
use Rattle.model_eval.specs.Outcomes as outcomes
use Rattle.model_eval.specs.Outcomes.{Steps, Depth, here, one_more_call}
use Rattle.model_eval.specs.Keeping.{Keeping, unmaking}
use Rattle.model_eval.specs.StobjLayouts.{new_list}
use Rattle.model_slots.specs.Trees as trees
use Rattle.model_slots.specs.Trees.{Tree}
use Rattle.model_window.specs.Frames as windows
use Rattle.model_window.specs.Windows.{written, all_written}
use Rattle.model_window.specs.Turns.{open_in, make_local, next, last_form, stop_here}
use Rattle.acl_base.specs.declared.SymId.{SymId}
use Rattle.acl_base.specs.declared.TermId.{TermId}
use Rattle.acl_terms.specs.declared.outcome.Shown.TheVariants as shown
use Rattle.acl_code.specs.declared.term.Term.TheVariants as term
use Rattle.acl_code.specs.Tables.{tree_in, IsTable}
use Rattle.acl_code.proofs.TableLemmas.{tree_over_table}
use Rattle.acl_machine.specs.declared.frame.Step.TheVariants as step
use Rattle.acl_machine.specs.declared.frame.Frame.{Frame}
use Rattle.acl_machine.specs.declared.frame.Halt.{Halt}
use Rattle.acl_machine.specs.declared.frame.Halt.TheVariants as halt
use Rattle.acl_machine.specs.declared.frame.Control.TheVariants as control
use Rattle.acl_machine.specs.declared.machine.Machine.{Machine}
use Rattle.acl_machine.specs.Cells.{memory_of}
use Rattle.acl_machine.specs.Views.{Around, world_of, trees_of, code_of, machine_of}
use Rattle.acl_machine.specs.Turns.{rules_of, turned, IsFirst}
use Rattle.acl_machine.specs.Keeping.{lefts_in, all_lefts, TurnsTo}
use Rattle.acl_machine.specs.Steps.{stopped, giving, pushed, beginning, again, counted}
use Rattle.acl_machine.proofs.BeginLemmas.{is_more, state_of, frames_of, at_term}
use Rattle.acl_machine.proofs.CallLemmas.{not_below, is_below}
use Rattle.acl_machine.proofs.GoLemmas.{at_give, again_as}
use Rattle.acl_machine.proofs.MemoryLemmas.{memory_written, memory_all_written}
use Rattle.acl_object_turns.specs.Steps.{OpensLocal, WritesGiven, closed_first}
use Rattle.acl_object_turns.proofs.FrameLemmas.{not_zero, lefts_again, lefts_closed, keeps_all, changes, at_stop, closed_as}

module _ {O B : Type 0} (keeping : Keeping ℕ O B) where
  -- a form that would make an object is opened in so much room
  abbrev pub opened_in : Around → Machine → ℕ → ℕ → ℕ → SymId → TermId → TermId → B → O → List B → windows.Turned ℕ O B
  opened_in a m room base at stobj producer body d kept ls =
      open_in (rules_of keeping a) (code_of a) room base (frames_of keeping a d ls m m.frames) (memory_of a.heap m.values) (trees.WithLocal at stobj.0 (tree_in (trees_of a) producer) (tree_in (trees_of a) body)) (state_of keeping a kept m)

  pub at_local : (a : Around) (m : Machine) (t : TermId) (base at : ℕ) (stobj : SymId) (producer body : TermId) (d : B) (kept : O) (ls : List B)
      → m.control ≡ control.Begin t base → IsTable a.terms → slice_get a.terms t.0 ≡ Some (term.WithLocal at stobj producer body)
      → turned keeping a d kept ls m ≡ opened_in a m m.room base at stobj producer body d kept ls
  at_local a m t base at stobj producer body d kept ls e i f = at_term keeping a m t base _ d kept ls e (tree_over_table a.heap a.terms (term.WithLocal at stobj producer body) t i f)

  pub stops_unopened : (Keeps : O → List B → Type 0) (a : Around) (m n : Machine) (t : TermId) (base at : ℕ) (stobj : SymId) (producer body : TermId)
      → m.control ≡ control.Begin t base → IsTable a.terms → slice_get a.terms t.0 ≡ Some (term.WithLocal at stobj producer body) → m.room ≡ 0
      → n ≡ stopped halt.Depth m → TurnsTo keeping Keeps Keeps a a m n
  stops_unopened Keeps a m n t base at stobj producer body e i f none q = subst (λ x. TurnsTo keeping Keeps Keeps a a m x) (sym q) (keeps_all keeping Keeps a m _ refl
      (λ d kept ls k.
      at_local a m t base at stobj producer body d kept ls e i f
      ∙ ap (λ r. opened_in a m r base at stobj producer body d kept ls) none
      ∙ ap (λ r. windows.Going (record (machine_of a d kept ls (stopped halt.Depth m)) { room = r })) (sym none)))

  -- the limit is tested in a room
  abbrev pub limited : Around → Machine → ℕ → ℕ → SymId → TermId → TermId → B → O → List B → Bool → windows.Turned ℕ O B
  limited a m base at stobj producer body d kept ls b =
      if b then make_local (rules_of keeping a) (code_of a) (m.room - 1) base (frames_of keeping a d ls m m.frames) (memory_of a.heap m.values) at stobj.0 (Some (new_list (world_of a) stobj.0)) (tree_in (trees_of a) producer) (tree_in (trees_of a) body) (one_more_call (state_of keeping a kept m))
      else stop_here (rules_of keeping a) (code_of a) None (m.room - 1) base (frames_of keeping a d ls m m.frames) (memory_of a.heap m.values) Steps (state_of keeping a kept m)

  pub at_limit : (a : Around) (m : Machine) (t : TermId) (base at : ℕ) (stobj : SymId) (producer body : TermId) (d : B) (kept : O) (ls : List B) (b : Bool)
      → m.control ≡ control.Begin t base → IsTable a.terms → slice_get a.terms t.0 ≡ Some (term.WithLocal at stobj producer body) → m.room ≢ 0 → nat_lt m.calls a.limit ≡ b
      → turned keeping a d kept ls m ≡ limited a m base at stobj producer body d kept ls b
  at_limit a m t base at stobj producer body d kept ls b e i f some l =
      at_local a m t base at stobj producer body d kept ls e i f
      ∙ ap (λ r. opened_in a m r base at stobj producer body d kept ls) (is_more m.room (not_zero m.room some))
      ∙ ap (limited a m base at stobj producer body d kept ls) l

  pub stops_unmade : (Keeps : O → List B → Type 0) (a : Around) (m n : Machine) (t : TermId) (base at : ℕ) (stobj : SymId) (producer body : TermId)
      → m.control ≡ control.Begin t base → IsTable a.terms → slice_get a.terms t.0 ≡ Some (term.WithLocal at stobj producer body) → m.room ≢ 0 → a.limit ≤ m.calls
      → n ≡ stopped halt.Steps (giving [] (pushed (step.Last None) base m)) → TurnsTo keeping Keeps Keeps a a m n
  stops_unmade Keeps a m n t base at stobj producer body e i f some l q = subst (λ x. TurnsTo keeping Keeps Keeps a a m x) (sym q) (keeps_all keeping Keeps a m _ (added (all_lefts m.frames))
      (λ d kept ls k. at_limit a m t base at stobj producer body d kept ls false e i f some (not_below m.calls a.limit l)))
    where
      added : (n : ℕ) → 0 + n ≡ n
      added n = omega arith

  pub makes_local : (Before After : O → List B → Type 0) (a : Around) (m n : Machine) (t : TermId) (base at : ℕ) (stobj : SymId) (producer body : TermId)
      → m.control ≡ control.Begin t base → IsTable a.terms → slice_get a.terms t.0 ≡ Some (term.WithLocal at stobj producer body) → m.room ≢ 0 → m.calls < a.limit
      → OpensLocal base at stobj producer body m n
      → ((kept : O) (ls : List B) → Before kept ls → After (keeping.make stobj.0 (new_list (world_of a) stobj.0) kept) ls) → TurnsTo keeping Before After a a m n
  makes_local Before After a m n t base at stobj producer body e i f some l o keeps = subst (λ x. TurnsTo keeping Before After a a m x) (sym o.is)
      (changes keeping Before After (keeping.make stobj.0 (new_list (world_of a) stobj.0)) a a m _ (added (all_lefts m.frames)) keeps
      (λ d kept ls k.
      at_limit a m t base at stobj producer body d kept ls true e i f some (is_below m.calls a.limit l)
      ∙ ap (λ memory. next (rules_of keeping a) (code_of a) (m.room - 1) base (frames_of keeping a d ls m m.frames) memory (windows.Local at (tree_in (trees_of a) body)) (windows.Begin (tree_in (trees_of a) producer) base)
      (record (one_more_call (state_of keeping a kept m)) { stobjs = keeping.make stobj.0 (new_list (world_of a) stobj.0) kept }))
      (sym (memory_written a.heap (base + at) (shown.Object stobj) m.values o.values o.writes))))
    where
      added : (n : ℕ) → 0 + n ≡ n
      added n = omega arith

  pub goes_local : (Before After : O → List B → Type 0) (a : Around) (m k n : Machine) (f : Frame) (at : ℕ) (body : TermId)
      → m.control ≡ control.Give → IsFirst f m.frames → f.step ≡ step.Local at body → WritesGiven (f.base + at) m k → n ≡ beginning body f.base (again (step.Last None) k)
      → ((kept : O) (ls : List B) → Before kept ls → After (keeping.unmake kept) ls) → TurnsTo keeping Before After a a m n
  goes_local Before After a m k n f at body e first g w q keeps =
      subst (λ x. TurnsTo keeping Before After a a m x) (sym (q ∙ ap (λ x. beginning body f.base (again (step.Last None) x)) w.is))
      (changes keeping Before After keeping.unmake a a m _ (lefts_again (step.Last None) f m.frames first (sym (ap lefts_in g))) keeps
      (λ d kept ls p.
      at_give keeping a m f (step.Local at body) d kept ls e first g
      ∙ ap (λ memory. last_form (rules_of keeping a) (code_of a) m.room f.base (frames_of keeping a d ls m first.rest) memory (tree_in (trees_of a) body) (unmaking keeping (state_of keeping a kept m))) (sym (memory_all_written a.heap (f.base + at) m.given m.values w.values w.writes))
      ∙ again_as keeping a (record m { values = w.values; control = control.Begin body f.base }) f (step.Last None) d (keeping.unmake kept) ls first))

  pub closes_local : (Before After : O → List B → Type 0) (a : Around) (m n : Machine) (f : Frame) (why : Halt) (at : ℕ) (body : TermId)
      → m.control ≡ control.Stopped why → IsFirst f m.frames → f.step ≡ step.Local at body → n ≡ closed_first m
      → ((kept : O) (ls : List B) → Before kept ls → After (keeping.unmake kept) ls) → TurnsTo keeping Before After a a m n
  closes_local Before After a m n f why at body e first g q keeps = subst (λ x. TurnsTo keeping Before After a a m x) (sym q)
      (changes keeping Before After keeping.unmake a a m _ (lefts_closed f m.frames first (ap lefts_in g)) keeps
      (λ d kept ls p. at_stop keeping a m f (step.Local at body) why d kept ls e first g ∙ closed_as keeping a m f why d (keeping.unmake kept) ls e first))
