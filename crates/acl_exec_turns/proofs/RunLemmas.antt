-- What a turn makes of a machine whose innermost form calls the exec function of an export.
use Rattle.std.proofs.Common.{◌≡◌, ℕ, suc, ◌+◌, ◌≤◌, ◌<◌, ◌^◌, List, [], ◌∷◌, length, drop, refl, sym, ap, ◌∙◌, arith, subst}
use Rattle.std.specs.Prelude.{Option, Some, None, Bool, true, false, nat_lt, if◌then◌else◌, slice_get, option_map}
use Rattle.acl_base.specs.declared.SymId.{SymId}
use Rattle.acl_base.specs.declared.FnId.{FnId}
use Rattle.acl_terms.specs.Forms.{numbers}
use Rattle.acl_terms.specs.Definitions.{seen_definition}
use Rattle.acl_terms.specs.declared.outcome.Shown.{Shown}
use Rattle.acl_terms.specs.declared.definition.Function.{Function}
use Rattle.acl_terms.specs.declared.definition.Definition.{Definition}
use Rattle.acl_terms.specs.declared.definition.Definition.TheVariants as definition
use Rattle.model_terms.specs.Worlds as worlds
use Rattle.model_eval.specs.Outcomes as outcomes
use Rattle.model_eval.specs.Outcomes.{StateOf, here, cut_before, one_more_call}
use Rattle.model_eval.specs.Keeping.{Keeping, beginning}
use Rattle.model_slots.specs.Resolved.{number_in}
use Rattle.model_window.specs.Frames as windows
use Rattle.model_window.specs.Windows.{actuals_at}
use Rattle.model_window.specs.Turns.{call_exec_by, call_by_definition, refuse, stop_from}
use Rattle.acl_keep.specs.Seen.{all_seen}
use Rattle.acl_machine.specs.declared.frame.Inside.{Inside}
use Rattle.acl_machine.specs.declared.frame.Step.TheVariants as step
use Rattle.acl_machine.specs.declared.frame.Frame.{Frame}
use Rattle.acl_machine.specs.declared.frame.Halt.TheVariants as halt
use Rattle.acl_machine.specs.declared.frame.Control.TheVariants as control
use Rattle.acl_machine.specs.declared.machine.Machine.{Machine}
use Rattle.acl_machine.specs.Cells.{memory_of, WritesAll, top, below}
use Rattle.acl_machine.specs.Actuals.{names_of, under_formals, actuals_in}
use Rattle.acl_machine.specs.Views.{Around, world_of, trees_of, code_of, first_left, seen_inside, seen_frames, machine_of}
use Rattle.acl_machine.specs.Turns.{rules_of, turned, IsFirst, with_frame}
use Rattle.acl_machine.specs.Keeping.{all_lefts, Goes, GoesTo, TurnsTo}
use Rattle.acl_machine.proofs.BeginLemmas.{state_of}
use Rattle.acl_machine.proofs.GoLemmas.{at_give}
use Rattle.acl_machine.proofs.CallLemmas.{seen_at, not_below, is_below}
use Rattle.acl_machine.proofs.ActualLemmas.{actuals_seen}
use Rattle.acl_call_turns.specs.Calls.{entered, HandsOver}
use Rattle.acl_call_turns.proofs.EnterLemmas.{entered_as}
use Rattle.acl_export_turns.specs.Exports.{export_at}
use Rattle.acl_export_turns.specs.Steps.{too_many, inside_of, stopped_inside, IsNoExec, MayNotRun}
use Rattle.acl_export_turns.proofs.AllowLemmas.{exporting_lefts}
use Rattle.acl_exec_turns.specs.Exports.{Reads}
use Rattle.acl_exec_turns.specs.Execs.{exec_number, IsNoneToRun}
use Rattle.acl_exec_turns.specs.Steps.{called}
use Rattle.acl_exec_turns.proofs.ReadLemmas.{name_read, exec_read, count_read, number_read, seen_option}
use Rattle.acl_exec_turns.proofs.LeftLemmas.{few_lefts}

module _ {O B : Type 0} (keeping : Keeping ℕ O B) (a : Around) (m : Machine) (f : Frame) (function : FnId) (names number : ℕ) where
  abbrev export : worlds.FunctionOfAbstract
  export = export_at a function.0

  -- the frames around it
  abbrev pub around_it : B → List B → List Frame → List (windows.Frame ℕ B)
  around_it d ls rest = seen_frames a.heap (world_of a) (trees_of a) (code_of a) d (drop 1 ls) (below names m.names) m.loans rest

  -- the state once the export has begun
  abbrev pub begun : O → StateOf O
  begun kept = beginning keeping (one_more_call (state_of keeping a kept m))

  -- its exec function is called, by its number
  abbrev runs : Option ℕ → Option (windows.Export B) → List (outcomes.Shown ℕ) → B → O → List B → List Frame → windows.Turned ℕ O B
  runs n x vs d kept ls rest = call_exec_by (rules_of keeping a) (code_of a) n x m.room f.base (around_it d ls rest) (memory_of a.heap m.values) export vs (begun kept)

  -- and by its definition
  abbrev pub by_what : ℕ → Option worlds.Definition → Option (windows.Export B) → List (outcomes.Shown ℕ) → B → O → List B → List Frame → windows.Turned ℕ O B
  by_what n what x vs d kept ls rest = call_by_definition (rules_of keeping a) (code_of a) x
      (λ g later. refuse (rules_of keeping a) (code_of a) x m.room f.base (around_it d ls rest) (memory_of a.heap m.values) export.exec vs later)
      m.room f.base (around_it d ls rest) (memory_of a.heap m.values) n what export.exec vs (begun kept)

  -- no call is left
  abbrev stops_before : B → O → List B → List Frame → windows.Turned ℕ O B
  stops_before d kept ls rest =
      stop_from (rules_of keeping a) (code_of a) None m.room f.base (around_it d ls rest) (memory_of a.heap m.values) outcomes.Steps (cut_before number (here (state_of keeping a kept m))) (state_of keeping a kept m)

  -- the export as the turn has it
  abbrev seen_export : B → List B → ℕ → ℕ → Option (windows.Export B)
  seen_export d ls name count = Some (record {
    name = name;
    count = count;
    names = numbers (top names m.names);
    begun = record { before = first_left d ls; number = number };
    outer = m.outer;
  })

  -- its actuals as the turn has them
  abbrev seen_actuals : ℕ → List (outcomes.Shown ℕ)
  seen_actuals count = actuals_at (memory_of a.heap m.values) f.base count (numbers (top names m.names))

  at_exporting : (d : B) (kept : O) (ls : List B) (b : Bool) → m.control ≡ control.Give → (first : IsFirst f m.frames) → f.step ≡ step.Exporting function names number → nat_lt m.calls a.limit ≡ b
      → turned keeping a d kept ls m
      ≡ (if b
      then runs (number_in (world_of a) export.exec) (seen_export d ls export.name (length export.formals)) (seen_actuals (length export.formals)) d kept ls first.rest
      else stops_before d kept ls first.rest)
  at_exporting d kept ls b e first s t =
      at_give keeping a m f (step.Exporting function names number) d kept ls e first s
      ∙ ap (λ (b : Bool). if b
      then runs (number_in (world_of a) export.exec) (seen_export d ls export.name (length export.formals)) (seen_actuals (length export.formals)) d kept ls first.rest
      else stops_before d kept ls first.rest) t

  -- a call that is counted, as it is read
  at_run : (name exec : SymId) (count : ℕ) (d : B) (kept : O) (ls : List B) → m.control ≡ control.Give → (first : IsFirst f m.frames) → f.step ≡ step.Exporting function names number → m.calls < a.limit
      → Reads (slice_get a.content.definitions function.0) name exec count
      → turned keeping a d kept ls m
      ≡ runs (exec_number a.content function) (seen_inside (first_left d ls) m.names (Some (inside_of name count names number m))) (all_seen a.heap (actuals_in m f.base count names)) d kept ls first.rest
  at_run name exec count d kept ls e first s left reads =
      at_exporting d kept ls true e first s (is_below m.calls a.limit left)
      ∙ ap (λ n. runs n (seen_export d ls export.name (length export.formals)) (seen_actuals (length export.formals)) d kept ls first.rest) (number_read a function)
      ∙ ap (λ i. runs (exec_number a.content function) (seen_export d ls i (length export.formals)) (seen_actuals (length export.formals)) d kept ls first.rest) (sym (name_read a function name exec count reads))
      ∙ ap (λ c. runs (exec_number a.content function) (seen_export d ls name.0 c) (seen_actuals c) d kept ls first.rest) (sym (count_read a function name exec count reads))
      ∙ ap (λ vs. runs (exec_number a.content function) (seen_export d ls name.0 count) vs d kept ls first.rest) (sym (actuals_seen a.heap m f.base count names))

  -- a call of what a definition gives
  pub at_defined : (name exec : SymId) (count : ℕ) (g : FnId) (what : Definition) (d : B) (kept : O) (ls : List B) → m.control ≡ control.Give → (first : IsFirst f m.frames) → f.step ≡ step.Exporting function names number → m.calls < a.limit
      → Reads (slice_get a.content.definitions function.0) name exec count → exec_number a.content function ≡ Some g.0 → slice_get a.content.definitions g.0 ≡ Some what
      → turned keeping a d kept ls m
      ≡ by_what g.0 (Some (seen_definition a.heap what)) (seen_inside (first_left d ls) m.names (Some (inside_of name count names number m))) (all_seen a.heap (actuals_in m f.base count names)) d kept ls first.rest
  at_defined name exec count g what d kept ls e first s left reads numbered is =
      at_run name exec count d kept ls e first s left reads
      ∙ ap (λ n. runs n x vs d kept ls first.rest) numbered
      ∙ ap (λ w. by_what g.0 w x vs d kept ls first.rest) (seen_at a.heap a.content.definitions g.0 what is)
    where
      x : Option (windows.Export B)
      x = seen_inside (first_left d ls) m.names (Some (inside_of name count names number m))

      vs : List (outcomes.Shown ℕ)
      vs = all_seen a.heap (actuals_in m f.base count names)

  -- what is left behind, once the innermost form is inside the export
  pub behind_inside : (inside : Inside) (lefts : ℕ) → (first : IsFirst f m.frames) → f.step ≡ step.Exporting function names number → lefts ≡ all_lefts m.frames
      → lefts ≡ all_lefts (with_frame (record { step = step.Last (Some inside); base = f.base }) m.frames)
  behind_inside inside lefts first s e =
      e ∙ exporting_lefts m f function names number first s
      ∙ ap (λ fs. all_lefts (with_frame (record { step = step.Last (Some inside); base = f.base }) fs)) (sym first.is)

  -- ---- a call of what may not be called

  abbrev refused_by : Option (windows.Export B) → List (outcomes.Shown ℕ) → B → O → List B → List Frame → ℕ → windows.Turned ℕ O B
  refused_by x vs d kept ls rest name = refuse (rules_of keeping a) (code_of a) x m.room f.base (around_it d ls rest) (memory_of a.heap m.values) name vs (begun kept)

  by_definition : (n : ℕ) (x : Option (windows.Export B)) (vs : List (outcomes.Shown ℕ)) (d : B) (kept : O) (ls : List B) (rest : List Frame) (o : Option Definition) → ((e : Definition) → o ≡ Some e → IsNoExec e)
      → by_what n (option_map (seen_definition a.heap) o) x vs d kept ls rest ≡ refused_by x vs d kept ls rest export.exec
  by_definition n x vs d kept ls rest None bars = refl
  by_definition n x vs d kept ls rest (Some (definition.Primitive name row arity)) bars = absurd (bars (definition.Primitive name row arity) refl)
  by_definition n x vs d kept ls rest (Some (definition.Function g)) bars = absurd (bars (definition.Function g) refl)
  by_definition n x vs d kept ls rest (Some (definition.Macro g)) bars = refl
  by_definition n x vs d kept ls rest (Some (definition.Constant name value)) bars = refl
  by_definition n x vs d kept ls rest (Some (definition.Object descriptor layout class)) bars = refl
  by_definition n x vs d kept ls rest (Some (definition.Generated g)) bars = absurd (bars (definition.Generated g) refl)
  by_definition n x vs d kept ls rest (Some (definition.Abstract descriptor)) bars = refl
  by_definition n x vs d kept ls rest (Some (definition.OfAbstract g)) bars = refl
  by_definition n x vs d kept ls rest (Some (definition.Named name formals)) bars = refl
  by_definition n x vs d kept ls rest (Some (definition.Signed name formals signature executable)) bars = refl

  by_number : (n : Option ℕ) (x : Option (windows.Export B)) (vs : List (outcomes.Shown ℕ)) (d : B) (kept : O) (ls : List B) (rest : List Frame) → MayNotRun a.content.definitions n
      → runs n x vs d kept ls rest ≡ refused_by x vs d kept ls rest export.exec
  by_number None x vs d kept ls rest bars = refl
  by_number (Some n) x vs d kept ls rest bars =
      ap (λ w. by_what n w x vs d kept ls rest) (seen_option a.heap a.content.definitions n)
      ∙ by_definition n x vs d kept ls rest (slice_get a.content.definitions n) bars

  module _ (Before After : O → List B → Type 0) (n : Machine) where
    pub exec_many : m.control ≡ control.Give → IsFirst f m.frames → f.step ≡ step.Exporting function names number → a.limit ≤ m.calls
        → ((k : O) (l : B) (ls : List B) → Before k (l ∷ ls) → After k ls)
        → n ≡ too_many names number f.base m → TurnsTo keeping Before After a a m n
    exec_many e first s none keeps q =
        subst (λ x. TurnsTo keeping Before After a a m x) (sym q) (record { turns = λ d kept lefts goes. by_lefts d kept lefts goes.keeps (goes.behind ∙ exporting_lefts m f function names number first s) })
      where
        frame : Frame
        frame = record { step = step.Last None; base = f.base }

        after : Machine
        after = too_many names number f.base m

        by_lefts : (d : B) (kept : O) (lefts : List B) → Before kept lefts → length lefts ≡ 1 + all_lefts first.rest → GoesTo keeping After a a m after d kept lefts
        by_lefts d kept [] b g = absurd (omega (arith, g))
        by_lefts d kept (l ∷ ls) b g = record {
          later = kept;
          left = ls;
          goes = record {
            keeps = keeps kept l ls b;
            behind = (let h : length ls ≡ 0 + all_lefts first.rest = omega (arith, g) in h ∙ ap (λ fs. all_lefts (with_frame frame fs)) (sym first.is));
          };
          is =
              at_exporting d kept (l ∷ ls) false e first s (not_below m.calls a.limit none)
              ∙ ap (λ fs. windows.Going (machine_of a d kept ls (record after { frames = with_frame frame fs }))) (sym first.is);
        }

    pub exec_refuses : (name exec : SymId) (count : ℕ) → m.control ≡ control.Give → IsFirst f m.frames → f.step ≡ step.Exporting function names number → m.calls < a.limit → length m.frames < 2 ^ 63
        → Reads (slice_get a.content.definitions function.0) name exec count → IsNoneToRun a.content.definitions (exec_number a.content function)
        → ((k : O) (ls : List B) → Before k ls → length ls < 2 ^ 64 → After (keeping.begin_export k) ls)
        → n ≡ stopped_inside (inside_of name count names number m) (halt.Guard exec) f.base (called f.base count names m) → TurnsTo keeping Before After a a m n
    exec_refuses name exec count e first s left few reads refused begins q =
        subst (λ x. TurnsTo keeping Before After a a m x) (sym q) (record {
          turns = λ d kept ls goes. record {
            later = keeping.begin_export kept;
            left = ls;
            goes = record { keeps = begins kept ls goes.keeps (few_lefts m (length ls) few goes.behind); behind = behind_inside inside (length ls) first s goes.behind };
            is =
                at_run name exec count d kept ls e first s left reads
                ∙ by_number (exec_number a.content function) (x d ls) vs d kept ls first.rest refused.none
                ∙ ap (refused_by (x d ls) vs d kept ls first.rest) (sym (exec_read a function name exec count reads))
                ∙ ap (λ fs. windows.Going (machine_of a d (keeping.begin_export kept) ls (record after { frames = with_frame frame fs }))) (sym first.is);
          };
        })
      where
        inside : Inside
        inside = inside_of name count names number m

        frame : Frame
        frame = record { step = step.Last (Some inside); base = f.base }

        after : Machine
        after = stopped_inside inside (halt.Guard exec) f.base (called f.base count names m)

        x : B → List B → Option (windows.Export B)
        x d ls = seen_inside (first_left d ls) m.names (Some inside)

        vs : List (outcomes.Shown ℕ)
        vs = all_seen a.heap (actuals_in m f.base count names)

  -- ---- a call of a function that was written

  pub exec_enters : (Before Mid After : O → List B → Type 0) (n : Machine) (name exec : SymId) (count : ℕ) (g : FnId) (fn : Function) (values : List Shown)
      → m.control ≡ control.Give → IsFirst f m.frames → f.step ≡ step.Exporting function names number → m.calls < a.limit → length m.frames < 2 ^ 63
      → Reads (slice_get a.content.definitions function.0) name exec count → exec_number a.content function ≡ Some g.0 → slice_get a.content.definitions g.0 ≡ Some (definition.Function fn)
      → WritesAll f.base (under_formals fn.formals (actuals_in m f.base count names)) m.values values
      → ((k : O) (ls : List B) → Before k ls → length ls < 2 ^ 64 → Mid (keeping.begin_export k) ls)
      → HandsOver keeping Mid After (numbers fn.formals) (all_seen a.heap (actuals_in m f.base count names))
      → n ≡ entered (Some (inside_of name count names number m)) g f.base fn.guard_term values (called f.base count names m) → TurnsTo keeping Before After a a m n
  exec_enters Before Mid After n name exec count g fn values e first s left few reads numbered is writes begins hands q =
      subst (λ x. TurnsTo keeping Before After a a m x) (sym q) (record { turns = goes_to })
    where
      inside : Inside
      inside = inside_of name count names number m

      ready : Machine
      ready = called f.base count names m

      frame : Frame
      frame = record { step = step.Guarding (Some inside) g (length (names_of ready.actuals)); base = f.base }

      after : Machine
      after = entered (Some inside) g f.base fn.guard_term values ready

      behind : (kept : O) (lefts : ℕ) → lefts ≡ all_lefts m.frames → suc lefts ≡ all_lefts (with_frame frame m.frames)
      behind kept lefts h =
          let more : suc lefts ≡ 2 + all_lefts first.rest = (let l = exporting_lefts m f function names number first s in omega (arith, h, l)) in
          more ∙ ap (λ fs. all_lefts (with_frame frame fs)) (sym first.is)

      goes_to : (d : B) (kept : O) (lefts : List B) → Goes Before m kept lefts → GoesTo keeping After a a m after d kept lefts
      goes_to d kept lefts goes = record {
        later = keeping.hand_over (numbers fn.formals) (all_seen a.heap ready.actuals) (keeping.begin_export kept);
        left = keeping.behind (keeping.begin_export kept) ∷ lefts;
        goes = record {
          keeps = hands (keeping.begin_export kept) lefts (begins kept lefts goes.keeps (few_lefts m (length lefts) few goes.behind));
          behind = behind kept (length lefts) goes.behind;
        };
        is =
            at_defined name exec count g (definition.Function fn) d kept lefts e first s left reads numbered is
            ∙ entered_as keeping a ready f g fn (Some inside) f.base values d (keeping.begin_export kept) lefts first is writes;
      }
