-- What a turn makes of a machine whose innermost form calls a function that was written.
use Rattle.std.proofs.Common.{◌≡◌, ℕ, ◌+◌, ◌<◌, List, [], ◌∷◌, ◌++◌, length, refl, sym, ap, ◌∙◌, arith, subst}
use Rattle.std.specs.Prelude.{Option, Some, None, slice_get}
use Rattle.acl_base.specs.declared.SymId.{SymId}
use Rattle.acl_base.specs.declared.FnId.{FnId}
use Rattle.acl_heap.specs.Objects.{Objects}
use Rattle.acl_terms.specs.Forms.{numbers}
use Rattle.acl_terms.specs.declared.outcome.Shown.{Shown}
use Rattle.acl_terms.specs.declared.definition.Function.{Function}
use Rattle.acl_terms.specs.declared.definition.Definition.TheVariants as definition
use Rattle.model_eval.specs.Outcomes as outcomes
use Rattle.model_eval.specs.Keeping.{Keeping}
use Rattle.model_slots.specs.Trees.{Tree}
use Rattle.model_window.specs.Frames as windows
use Rattle.model_window.specs.Windows.{Memory, all_written, stobj_names}
use Rattle.model_window.specs.Turns.{enter, called_name}
use Rattle.model_slots.specs.Laws.{as_formals}
use Rattle.acl_code.specs.Tables.{tree_in}
use Rattle.acl_keep.specs.Seen.{all_seen}
use Rattle.acl_machine.specs.declared.frame.Inside.{Inside}
use Rattle.acl_machine.specs.declared.frame.Step.TheVariants as step
use Rattle.acl_machine.specs.declared.frame.Frame.{Frame}
use Rattle.acl_machine.specs.declared.frame.Control.TheVariants as control
use Rattle.acl_machine.specs.declared.machine.Machine.{Machine}
use Rattle.acl_machine.specs.Cells.{cells_from, memory_of, WritesAll, top, below}
use Rattle.acl_machine.specs.Actuals.{names_of, under_formals, naming}
use Rattle.acl_machine.specs.Views.{Around, world_of, trees_of, code_of, guard_of, formals_of, first_left, lefts_inside, below_inside, seen_inside, seen_frames, machine_of}
use Rattle.acl_machine.specs.Turns.{rules_of, turned, IsFirst}
use Rattle.acl_machine.specs.Steps.{counted, beginning}
use Rattle.acl_machine.specs.Keeping.{Goes, GoesTo, TurnsTo}
use Rattle.acl_machine.proofs.BeginLemmas.{state_of}
use Rattle.acl_machine.proofs.MemoryLemmas.{memory_all_written}
use Rattle.acl_machine.proofs.CallLemmas.{at_counted, replaced_as}
use Rattle.acl_machine.proofs.ActualLemmas.{names_seen, formals_seen, top_of_both, below_both}
use Rattle.acl_call_turns.specs.Calls.{formals_in, name_in_option, entered, HandsOver}
use Rattle.acl_call_turns.proofs.WorldLemmas.{formals_seen_at, name_seen_at}
use Rattle.acl_call_turns.proofs.FormLemmas.{lefts_first, lefts_with}

module _ {O B : Type 0} (keeping : Keeping ℕ O B) where
  -- the frames around a call, over what is left below it
  abbrev pub frames_around : Around → B → List B → List SymId → Machine → List Frame → List (windows.Frame ℕ B)
  frames_around a d ls names m fs = seen_frames a.heap (world_of a) (trees_of a) (code_of a) d ls names m.loans fs

  -- a call is entered, inside an export's or not
  pub entered_as : (a : Around) (m : Machine) (f : Frame) (g : FnId) (fn : Function) (inside : Option Inside) (base : ℕ) (values : List Shown) (d : B) (kept : O) (ls : List B) (first : IsFirst f m.frames)
      → slice_get a.content.definitions g.0 ≡ Some (definition.Function fn) → WritesAll base (under_formals fn.formals m.actuals) m.values values
      → enter (rules_of keeping a) (code_of a) m.room base (frames_around a d (lefts_inside inside ls) (below_inside inside m.names) m first.rest) (memory_of a.heap m.values)
      (windows.Guarding (seen_inside (first_left d ls) m.names inside) fn.name.0 (numbers fn.formals) (stobj_names (all_seen a.heap m.actuals)) ((code_of a).body g.0))
      (numbers fn.formals) (all_seen a.heap m.actuals) ((code_of a).guard g.0) (state_of keeping a kept m)
      ≡ windows.Going (machine_of a d (keeping.hand_over (numbers fn.formals) (all_seen a.heap m.actuals) kept) (keeping.behind kept ∷ ls) (entered inside g base fn.guard_term values m))
  entered_as a m f g fn inside base values d kept ls first what writes =
      ap (λ n. going m.names n (numbers fn.formals) (stobj_names actuals) (all_written base (as_formals (numbers fn.formals) actuals) (memory_of a.heap m.values)) ((code_of a).guard g.0)) named
      ∙ ap (λ fs. going m.names (called_name (world_of a) g.0) fs (stobj_names actuals) (all_written base (as_formals (numbers fn.formals) actuals) (memory_of a.heap m.values)) ((code_of a).guard g.0)) formals
      ∙ ap (λ ns. going m.names (called_name (world_of a) g.0) (formals_of (slice_get (world_of a) g.0)) ns (all_written base (as_formals (numbers fn.formals) actuals) (memory_of a.heap m.values)) ((code_of a).guard g.0)) names
      ∙ ap (λ memory. going m.names (called_name (world_of a) g.0) (formals_of (slice_get (world_of a) g.0)) (numbers (top count more)) memory ((code_of a).guard g.0)) stack
      ∙ ap (λ t. going m.names (called_name (world_of a) g.0) (formals_of (slice_get (world_of a) g.0)) (numbers (top count more)) (memory_of a.heap values) t) guard
      ∙ ap (λ ns. going ns (called_name (world_of a) g.0) (formals_of (slice_get (world_of a) g.0)) (numbers (top count more)) (memory_of a.heap values) (tree_in (trees_of a) fn.guard_term)) (sym (below_both m.names (names_of m.actuals)))
      ∙ replaced_as keeping a (beginning fn.guard_term base (naming values m)) f (step.Guarding inside g count) base d later (keeping.behind kept ∷ ls) first
    where
      actuals : List (outcomes.Shown ℕ)
      actuals = all_seen a.heap m.actuals

      later : O
      later = keeping.hand_over (numbers fn.formals) actuals kept

      count : ℕ
      count = length (names_of m.actuals)

      more : List SymId
      more = m.names ++ names_of m.actuals

      going : List SymId → ℕ → List ℕ → List ℕ → Memory ℕ → Tree → windows.Turned ℕ O B
      going below_it name formals names memory guard = windows.Going (record {
        room = m.room;
        frames = record { step = windows.Guarding (seen_inside (first_left d ls) below_it inside) name formals names ((code_of a).body g.0) (keeping.behind kept); base = base }
            ∷ frames_around a d (lefts_inside inside ls) (below_inside inside below_it) m first.rest;
        memory = memory;
        control = windows.Begin guard base;
        state = state_of keeping a later m;
      })

      named : fn.name.0 ≡ called_name (world_of a) g.0
      named = sym (name_seen_at a.heap a.content g ∙ ap name_in_option what)

      formals : numbers fn.formals ≡ formals_of (slice_get (world_of a) g.0)
      formals = sym (formals_seen_at a.heap a.content g ∙ ap (λ o. numbers (formals_in o)) what)

      names : stobj_names actuals ≡ numbers (top count more)
      names = sym (ap numbers (top_of_both m.names (names_of m.actuals)) ∙ names_seen a.heap m.actuals)

      stack : all_written base (as_formals (numbers fn.formals) actuals) (memory_of a.heap m.values) ≡ memory_of a.heap values
      stack = sym (memory_all_written a.heap base (under_formals fn.formals m.actuals) m.values values writes ∙ ap (λ vs. all_written base vs (memory_of a.heap m.values)) (formals_seen a.heap fn.formals m.actuals))

      guard : (code_of a).guard g.0 ≡ tree_in (trees_of a) fn.guard_term
      guard = ap (guard_of (trees_of a)) what

  -- a call that is counted
  pub calls_function : (Before After : O → List B → Type 0) (a : Around) (m : Machine) (f : Frame) (at : ℕ) (g : FnId) (count : ℕ) (fn : Function) (values : List Shown)
      → m.control ≡ control.Give → IsFirst f m.frames → f.step ≡ step.Calling at g count → m.calls < a.limit → slice_get a.content.definitions g.0 ≡ Some (definition.Function fn)
      → WritesAll (f.base + at) (under_formals fn.formals (cells_from m.values (f.base + at) count)) m.values values
      → HandsOver keeping Before After (numbers fn.formals) (all_seen a.heap (cells_from m.values (f.base + at) count))
      → (n : Machine) → n ≡ entered None g (f.base + at) fn.guard_term values (counted (record m { actuals = cells_from m.values (f.base + at) count })) → TurnsTo keeping Before After a a m n
  calls_function Before After a m f at g count fn values e first s l what writes hands n q = subst (λ x. TurnsTo keeping Before After a a m x) (sym q) (record { turns = goes_to })
    where
      ready : Machine
      ready = counted (record m { actuals = cells_from m.values (f.base + at) count })

      after : Machine
      after = entered None g (f.base + at) fn.guard_term values ready

      goes_to : (d : B) (kept : O) (lefts : List B) → Goes Before m kept lefts → GoesTo keeping After a a m after d kept lefts
      goes_to d kept lefts goes = record {
        later = keeping.hand_over (numbers fn.formals) (all_seen a.heap ready.actuals) kept;
        left = keeping.behind kept ∷ lefts;
        goes = record {
          keeps = hands kept lefts goes.keeps;
          behind = (let x = lefts_first f m.frames (step.Calling at g count) first s in let y = lefts_with f m.frames (record { step = step.Guarding None g (length (names_of ready.actuals)); base = f.base + at }) first in let z = goes.behind in omega arith);
        };
        is = at_counted keeping a m f at g count (definition.Function fn) d kept lefts e first s l what
            ∙ entered_as a ready f g fn None (f.base + at) values d kept lefts first what writes;
      }
