-- What a turn makes of a machine whose innermost form calls a function of an abstract object.
use Rattle.std.proofs.Common.{◌≡◌, ℕ, zero, suc, ◌+◌, ◌<◌, List, [], ◌∷◌, length, refl, sym, ap, ◌∙◌, arith, subst}
use Rattle.std.specs.Prelude.{Option, Some, None, slice_get}
use Rattle.acl_base.specs.declared.SymId.{SymId}
use Rattle.acl_base.specs.declared.FnId.{FnId}
use Rattle.acl_base.specs.declared.Word.TheVariants as word
use Rattle.acl_terms.specs.declared.outcome.Shown as coded
use Rattle.acl_terms.specs.declared.outcome.Shown.TheVariants as shown
use Rattle.acl_terms.specs.declared.definition.AbstractFunction.{AbstractFunction}
use Rattle.acl_terms.specs.declared.definition.Definition.TheVariants as definition
use Rattle.acl_terms.specs.Forms.{numbers}
use Rattle.acl_terms.specs.Definitions.{seen_of_abstract}
use Rattle.model_terms.specs.Worlds as worlds
use Rattle.model_terms.specs.declared.role.AbstractRole.{AbstractRole}
use Rattle.model_terms.specs.declared.role.AbstractRole.TheVariants as abstract_role
use Rattle.model_eval.specs.Outcomes as outcomes
use Rattle.model_eval.specs.Outcomes.{StateOf, one_more_call}
use Rattle.model_eval.specs.Keeping.{Keeping}
use Rattle.model_slots.specs.Trees.{Tree}
use Rattle.model_slots.specs.Laws.{as_formals}
use Rattle.model_window.specs.Frames as windows
use Rattle.model_window.specs.Windows.{Memory, all_written, stobj_names}
use Rattle.model_window.specs.Turns.{call_of_abstract}
use Rattle.acl_code.specs.Tables.{tree_in}
use Rattle.acl_keep.specs.Seen.{all_seen}
use Rattle.acl_machine.specs.declared.frame.Step.TheVariants as step
use Rattle.acl_machine.specs.declared.frame.Frame.{Frame}
use Rattle.acl_machine.specs.declared.frame.Halt.TheVariants as halt
use Rattle.acl_machine.specs.declared.frame.Control.TheVariants as control
use Rattle.acl_machine.specs.declared.machine.Machine.{Machine}
use Rattle.acl_machine.specs.Cells.{cells_from, memory_of, top, below}
use Rattle.acl_machine.specs.Views.{Around, world_of, trees_of, code_of, guard_of, export_of, seen_frames, machine_of}
use Rattle.acl_machine.specs.Turns.{rules_of, turned, Turns, IsFirst, with_frame}
use Rattle.acl_machine.specs.Steps.{stopped, giving, replaced, counted, holding}
use Rattle.acl_machine.specs.Keeping.{all_lefts, GoesTo, TurnsTo}
use Rattle.acl_machine.proofs.BeginLemmas.{state_of, frames_of}
use Rattle.acl_machine.proofs.CallLemmas.{seen_at, at_counted, replaced_as}
use Rattle.acl_export_turns.specs.Steps.{guarded}
use Rattle.acl_export_turns.proofs.AllowLemmas.{calling_lefts}

module _ {O B : Type 0} (keeping : Keeping ℕ O B) (a : Around) (m : Machine) (f : Frame) (at : ℕ) (g : FnId) (count : ℕ) (x : AbstractFunction) (n : Machine) where
  -- the call of a function of an abstract object, by its role
  abbrev by_role : List Frame → List (outcomes.Shown ℕ) → B → O → List B → AbstractRole → windows.Turned ℕ O B
  by_role rest vs d kept ls role =
      call_of_abstract (rules_of keeping a) (code_of a) m.room (f.base + at) (frames_of keeping a d ls m rest) (memory_of a.heap m.values) g.0 (seen_of_abstract a.heap x) role vs (one_more_call (state_of keeping a kept m))

  at_role : (role : AbstractRole) (d : B) (kept : O) (ls : List B) → m.control ≡ control.Give → (first : IsFirst f m.frames) → f.step ≡ step.Calling at g count → m.calls < a.limit
      → slice_get a.content.definitions g.0 ≡ Some (definition.OfAbstract x) → x.role ≡ role
      → turned keeping a d kept ls m ≡ by_role first.rest (all_seen a.heap (cells_from m.values (f.base + at) count)) d kept ls role
  at_role role d kept ls e first s l w r =
      at_counted keeping a m f at g count (definition.OfAbstract x) d kept ls e first s l w
      ∙ ap (by_role first.rest (all_seen a.heap (cells_from m.values (f.base + at) count)) d kept ls) r

  -- what is kept stays as it is
  same_kept : (Keeps : O → List B → Type 0) (after : Machine) → (first : IsFirst f m.frames) → f.step ≡ step.Calling at g count → after.frames ≡ with_frame (record { step = step.Last None; base = f.base + at }) m.frames
      → Turns keeping a a m after → n ≡ after → TurnsTo keeping Keeps Keeps a a m n
  same_kept Keeps after first s framed turns q = subst (λ y. TurnsTo keeping Keeps Keeps a a m y) (sym q) (record {
    turns = λ d kept ls goes. record {
      later = kept;
      left = ls;
      goes = record {
        keeps = goes.keeps;
        behind =
            goes.behind ∙ calling_lefts m f at g count first s
            ∙ ap (λ fs. all_lefts (with_frame (record { step = step.Last None; base = f.base + at }) fs)) (sym first.is)
            ∙ ap all_lefts (sym framed);
      };
      is = turns.goes d kept ls;
    };
  })

  pub recognizes : (Keeps : O → List B → Type 0) → m.control ≡ control.Give → IsFirst f m.frames → f.step ≡ step.Calling at g count → m.calls < a.limit
      → slice_get a.content.definitions g.0 ≡ Some (definition.OfAbstract x) → x.role ≡ abstract_role.Recognizer
      → n ≡ giving (shown.Value (word.Sym (record { 0 = 0 })) ∷ []) (counted (replaced (step.Last None) (f.base + at) m)) → TurnsTo keeping Keeps Keeps a a m n
  recognizes Keeps e first s l w r q = same_kept Keeps (giving (shown.Value (word.Sym (record { 0 = 0 })) ∷ []) (counted (replaced (step.Last None) (f.base + at) m))) first s refl (record {
    goes = λ d kept ls.
        at_role abstract_role.Recognizer d kept ls e first s l w r
        ∙ replaced_as keeping a (giving (shown.Value (word.Sym (record { 0 = 0 })) ∷ []) (counted m)) f (step.Last None) (f.base + at) d kept ls first;
  }) q

  pub refuses_creator : (Keeps : O → List B → Type 0) → m.control ≡ control.Give → IsFirst f m.frames → f.step ≡ step.Calling at g count → m.calls < a.limit
      → slice_get a.content.definitions g.0 ≡ Some (definition.OfAbstract x) → x.role ≡ abstract_role.Creator
      → n ≡ stopped (halt.Guard x.name) (counted (holding (cells_from m.values (f.base + at) count) (replaced (step.Last None) (f.base + at) m))) → TurnsTo keeping Keeps Keeps a a m n
  refuses_creator Keeps e first s l w r q = same_kept Keeps (stopped (halt.Guard x.name) (counted (holding (cells_from m.values (f.base + at) count) (replaced (step.Last None) (f.base + at) m)))) first s refl (record {
    goes = λ d kept ls.
        at_role abstract_role.Creator d kept ls e first s l w r
        ∙ replaced_as keeping a (stopped (halt.Guard x.name) (counted (holding (cells_from m.values (f.base + at) count) m))) f (step.Last None) (f.base + at) d kept ls first;
  }) q

  -- an export: its guard begins over the actuals, which are written and whose names are pushed
  pub enters_export : (Before After : O → List B → Type 0) (vs : List (outcomes.Shown ℕ)) (values acts : List coded.Shown) (names : ℕ) (all : List SymId)
      → m.control ≡ control.Give → IsFirst f m.frames → f.step ≡ step.Calling at g count → m.calls < a.limit
      → slice_get a.content.definitions g.0 ≡ Some (definition.OfAbstract x) → x.role ≡ abstract_role.Export
      → vs ≡ all_seen a.heap (cells_from m.values (f.base + at) count)
      → memory_of a.heap values ≡ all_written (f.base + at) (as_formals (numbers x.formals) vs) (memory_of a.heap m.values)
      → numbers (top names all) ≡ stobj_names vs → below names all ≡ m.names
      → ((k : O) (ls : List B) → Before k ls → After (keeping.hand_over (numbers x.formals) vs k) (keeping.behind k ∷ keeping.behind k ∷ ls))
      → n ≡ guarded g names x.guard_term (f.base + at) (counted (record m { values = values; names = all; actuals = acts })) → TurnsTo keeping Before After a a m n
  enters_export Before After vs values acts names all e first s l w r actuals writes named others keeps q =
      subst (λ y. TurnsTo keeping Before After a a m y) (sym q) (record {
        turns = λ d kept ls goes. record {
          later = keeping.hand_over (numbers x.formals) vs kept;
          left = keeping.behind kept ∷ keeping.behind kept ∷ ls;
          goes = record { keeps = keeps kept ls goes.keeps; behind = behind kept ls goes.behind };
          is =
              at_role abstract_role.Export d kept ls e first s l w r
              ∙ ap (λ vs. by_role first.rest vs d kept ls abstract_role.Export) (sym actuals)
              ∙ ap (λ t. entering d kept ls (seen_of_abstract a.heap x) (stobj_names vs) t memory m.names) (ap (guard_of (trees_of a)) w)
              ∙ ap (λ y. entering d kept ls y (stobj_names vs) guard memory m.names) (sym (ap export_of (seen_at a.heap a.content.definitions g.0 (definition.OfAbstract x) w)))
              ∙ ap (λ ns. entering d kept ls exports ns guard memory m.names) (sym named)
              ∙ ap (λ y. entering d kept ls exports (numbers (top names all)) guard y m.names) (sym writes)
              ∙ ap (λ y. entering d kept ls exports (numbers (top names all)) guard (memory_of a.heap values) y) (sym others)
              ∙ ap (λ fs. windows.Going (machine_of a d (keeping.hand_over (numbers x.formals) vs kept) (keeping.behind kept ∷ keeping.behind kept ∷ ls) (record entered { frames = with_frame frame fs }))) (sym first.is);
        };
      })
    where
      frame : Frame
      frame = record { step = step.Allowing g names (m.outer + 1); base = f.base + at }

      entered : Machine
      entered = guarded g names x.guard_term (f.base + at) (counted (record m { values = values; names = all; actuals = acts }))

      guard : Tree
      guard = tree_in (trees_of a) x.guard_term

      memory : Memory ℕ
      memory = all_written (f.base + at) (as_formals (numbers x.formals) vs) (memory_of a.heap m.values)

      exports : worlds.FunctionOfAbstract
      exports = export_of (slice_get (world_of a) g.0)

      behind : (kept : O) (ls : List B) → length ls ≡ all_lefts m.frames → length (keeping.behind kept ∷ keeping.behind kept ∷ ls) ≡ all_lefts (with_frame frame m.frames)
      behind kept ls h =
          let more : length (keeping.behind kept ∷ keeping.behind kept ∷ ls) ≡ 2 + all_lefts first.rest = omega (arith, h, calling_lefts m f at g count first s) in
          more ∙ ap (λ fs. all_lefts (with_frame frame fs)) (sym first.is)

      entering : B → O → List B → worlds.FunctionOfAbstract → List ℕ → Tree → Memory ℕ → List SymId → windows.Turned ℕ O B
      entering d kept ls y ns tree memory below_names = windows.Going (record {
        room = m.room;
        frames =
            record { step = windows.Allowing y ns (record { before = keeping.behind kept; number = m.outer + 1 }) (keeping.behind kept); base = f.base + at }
            ∷ seen_frames a.heap (world_of a) (trees_of a) (code_of a) d ls below_names m.loans first.rest;
        memory = memory;
        control = windows.Begin tree (f.base + at);
        state = record (one_more_call (state_of keeping a kept m)) { stobjs = keeping.hand_over (numbers x.formals) vs kept };
      })
