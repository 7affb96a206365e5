-- What a turn makes of a machine whose innermost form calls an exec function that is a primitive.
use Rattle.std.proofs.Common.{◌≡◌, ◌≢◌, ℕ, suc, ◌+◌, ◌<◌, ◌^◌, List, [], ◌∷◌, length, drop, refl, sym, ap, ◌∙◌, subst}
use Rattle.std.specs.Prelude.{Option, Some, None, slice_get}
use Rattle.model_symbols.specs.Symbols.{Table, QualifiedName}
use Rattle.model_prims.specs.Applied.{Applied, applied}
use Rattle.model_prims.specs.Applied as prims
use Rattle.model_prims.specs.Rows as rows
use Rattle.model_eval.specs.Outcomes as outcomes
use Rattle.model_eval.specs.Outcomes.{StateOf}
use Rattle.model_eval.specs.Variables.{ordinary}
use Rattle.model_eval.specs.Keeping.{Keeping}
use Rattle.model_eval.specs.Checked.{primitive_ended}
use Rattle.model_window.specs.Frames as windows
use Rattle.model_window.specs.Windows.{Memory}
use Rattle.model_window.specs.Turns.{done}
use Rattle.acl_base.specs.declared.SymId.{SymId}
use Rattle.acl_base.specs.declared.FnId.{FnId}
use Rattle.acl_base.specs.declared.Word.{Word}
use Rattle.acl_heap.specs.Objects.{Objects, object_of, Extends}
use Rattle.acl_numbers.specs.Answers.{IsStop}
use Rattle.acl_numbers.specs.declared.stops.PrimStop.{PrimStop}
use Rattle.acl_numbers.specs.declared.stops.PrimStop.TheVariants as prim_stop
use Rattle.acl_terms.specs.declared.outcome.Shown.{Shown}
use Rattle.acl_terms.specs.declared.outcome.Shown.TheVariants as shown
use Rattle.acl_terms.specs.declared.definition.Definition.TheVariants as definition
use Rattle.acl_worlds.specs.Laws.{AreWorlds}
use Rattle.acl_prims.specs.Made.{objects_of}
use Rattle.acl_keep.specs.Seen.{seen_shown, all_seen}
use Rattle.acl_machine.specs.declared.frame.Inside.{Inside}
use Rattle.acl_machine.specs.declared.frame.Step.TheVariants as step
use Rattle.acl_machine.specs.declared.frame.Frame.{Frame}
use Rattle.acl_machine.specs.declared.frame.Halt.{Halt}
use Rattle.acl_machine.specs.declared.frame.Halt.TheVariants as halt
use Rattle.acl_machine.specs.declared.frame.Control.TheVariants as control
use Rattle.acl_machine.specs.declared.machine.Machine.{Machine}
use Rattle.acl_machine.specs.Cells.{cell, cells_from, memory_of, top, below, ShownWhole, AreWholeCells}
use Rattle.acl_machine.specs.Actuals.{with_names, actuals_in}
use Rattle.acl_machine.specs.Views.{Around, code_of, first_left, seen_inside, seen_stop}
use Rattle.acl_machine.specs.Turns.{rules_of, turned, IsFirst}
use Rattle.acl_machine.specs.Keeping.{TurnsTo}
use Rattle.acl_machine.specs.Steps.{stopped, giving}
use Rattle.acl_machine.proofs.CallLemmas.{replaced_as}
use Rattle.acl_machine.proofs.GrowthLemmas.{same_memory}
use Rattle.acl_machine.proofs.PrimLemmas.{grown_around, LiesAll, frames_grown}
use Rattle.acl_machine.proofs.WholeLemmas.{actuals_whole}
use Rattle.acl_export_turns.specs.Steps.{inside_of, stopped_inside, holding_actuals}
use Rattle.acl_exec_turns.specs.Exports.{Reads}
use Rattle.acl_exec_turns.specs.Execs.{exec_number}
use Rattle.acl_exec_turns.specs.Steps.{called, given_inside, halt_of}
use Rattle.acl_exec_turns.proofs.LeftLemmas.{few_lefts}
use Rattle.acl_exec_turns.proofs.RunLemmas.{around_it, begun, at_defined, behind_inside}

-- ---- values

-- names are of objects alone
ordinary_named : (h : Objects) (vs : List Shown) (ns : List SymId) → ordinary (all_seen h (with_names vs ns)) ≡ ordinary (all_seen h vs)
ordinary_named h [] ns = refl
ordinary_named h (shown.Value w ∷ vs) ns = ap (λ l. object_of h w ∷ l) (ordinary_named h vs ns)
ordinary_named h (shown.Object x ∷ vs) [] = ordinary_named h vs []
ordinary_named h (shown.Object x ∷ vs) (y ∷ ys) = ordinary_named h vs ys

-- values are the same in a larger heap
pub same_values : (t : Table) (h h' : Objects) (vs : List Shown) → Extends h h' → AreWholeCells t h vs → all_seen h' vs ≡ all_seen h vs
same_values t h h' vs grows a = go vs a.whole
  where
    one : (v : Shown) → ShownWhole t h v → seen_shown h' v ≡ seen_shown h v
    one (shown.Value w) p = ap outcomes.Plain (grows.same w p.lies)
    one (shown.Object x) p = refl

    go : (vs : List Shown) → ((i : ℕ) → ShownWhole t h (cell vs i)) → all_seen h' vs ≡ all_seen h vs
    go [] p = refl
    go (v ∷ vs) p = ap (λ u. u ∷ all_seen h' vs) (one v (p 0)) ∙ ap (λ l. seen_shown h v ∷ l) (go vs (λ k. p (suc k)))

module _ {O B : Type 0} (keeping : Keeping ℕ O B) (a : Around) (m : Machine) (f : Frame) (function : FnId) (names number : ℕ) where
  -- a machine of these parts, inside an export
  abbrev pub inside_going : Option (windows.Export B) → windows.Control ℕ → StateOf O → List (windows.Frame ℕ B) → Memory ℕ → windows.Turned ℕ O B
  inside_going x c state frames memory = windows.Going (record {
    room = m.room;
    frames = record { step = windows.Last x; base = f.base } ∷ frames;
    memory = memory;
    control = c;
    state = state;
  })

  -- the same in the larger heap
  pub inside_grown : (h' : Objects) (symbols : List QualifiedName) (x : Option (windows.Export B)) (c : windows.Control ℕ) (state : StateOf O) (d : B) (ls : List B) (rest : List Frame) → AreWorlds → LiesAll a m → Extends a.heap h'
      → inside_going x c state (around_it keeping a m f function names number d ls rest) (memory_of a.heap m.values)
      ≡ inside_going x c state (around_it keeping (grown_around a h' symbols) m f function names number d ls rest) (memory_of h' m.values)
  inside_grown h' symbols x c state d ls rest worlds lie grows =
      ap (λ fs. inside_going x c state fs (memory_of a.heap m.values)) (sym (frames_grown keeping a h' symbols (record m { names = below names m.names }) rest d (drop 1 ls) worlds grows (record { values = lie.values; loans = lie.loans; terms = lie.terms; world = lie.world })))
      ∙ ap (inside_going x c state (around_it keeping (grown_around a h' symbols) m f function names number d ls rest)) (sym (same_memory a.heap h' grows a.table m.values lie.values))

  module _ (Before After : O → List B → Type 0) (n : Machine) (name exec : SymId) (count : ℕ) (g : FnId) (prim : SymId) (row arity : ℕ) where
    abbrev inside_here : Inside
    inside_here = inside_of name count names number m

    abbrev actuals_here : List Shown
    actuals_here = actuals_in m f.base count names

    abbrev export_here : B → List B → Option (windows.Export B)
    export_here d ls = seen_inside (first_left d ls) m.names (Some inside_here)

    -- what is done with what the primitive gives
    abbrev ends : B → O → List B → List Frame → Applied → windows.Turned ℕ O B
    ends d kept ls rest x =
        done (rules_of keeping a) (code_of a) (export_here d ls) m.room f.base (around_it keeping a m f function names number d ls rest) (memory_of a.heap m.values)
        (primitive_ended prim.0 (all_seen a.heap actuals_here) (begun keeping a m f function names number kept) x)

    at_primitive : (args : List Word) (x : Applied) (d : B) (kept : O) (ls : List B) → m.control ≡ control.Give → (first : IsFirst f m.frames) → f.step ≡ step.Exporting function names number → m.calls < a.limit
        → Reads (slice_get a.content.definitions function.0) name exec count → exec_number a.content function ≡ Some g.0 → slice_get a.content.definitions g.0 ≡ Some (definition.Primitive prim row arity)
        → objects_of a.heap args ≡ ordinary (all_seen a.heap (cells_from m.values f.base count)) → applied a.table (rows.prim_of row) (objects_of a.heap args) ≡ x
        → turned keeping a d kept ls m ≡ ends d kept ls first.rest x
    at_primitive args x d kept ls e first s left reads numbered is objects answer =
        at_defined keeping a m f function names number name exec count g (definition.Primitive prim row arity) d kept ls e first s left reads numbered is
        ∙ ap (ends d kept ls first.rest) (ap (applied a.table (rows.prim_of row)) (ordinary_named a.heap (cells_from m.values f.base count) (top names m.names) ∙ sym objects) ∙ answer)

    abbrev later : O → List QualifiedName → StateOf O
    later kept symbols = record (begun keeping a m f function names number kept) { symbols = symbols }

    gives_in : (h' : Objects) (symbols : List QualifiedName) (w : Word) (args : List Word)
        → m.control ≡ control.Give → IsFirst f m.frames → f.step ≡ step.Exporting function names number → m.calls < a.limit → length m.frames < 2 ^ 63
        → Reads (slice_get a.content.definitions function.0) name exec count → exec_number a.content function ≡ Some g.0 → slice_get a.content.definitions g.0 ≡ Some (definition.Primitive prim row arity)
        → AreWorlds → LiesAll a m → Extends a.heap h'
        → objects_of a.heap args ≡ ordinary (all_seen a.heap (cells_from m.values f.base count)) → applied a.table (rows.prim_of row) (objects_of a.heap args) ≡ prims.Gives (object_of h' w) symbols
        → ((k : O) (ls : List B) → Before k ls → length ls < 2 ^ 64 → After (keeping.begin_export k) ls)
        → n ≡ given_inside inside_here (shown.Value w ∷ []) f.base (called f.base count names m) → TurnsTo keeping Before After a (grown_around a h' symbols) m n
    gives_in h' symbols w args e first s left few reads numbered is worlds lie grows objects answer begins q =
        subst (λ x. TurnsTo keeping Before After a (grown_around a h' symbols) m x) (sym q) (record {
          turns = λ d kept ls goes. record {
            later = keeping.begin_export kept;
            left = ls;
            goes = record { keeps = begins kept ls goes.keeps (few_lefts m (length ls) few goes.behind); behind = behind_inside keeping a m f function names number inside_here (length ls) first s goes.behind };
            is =
                at_primitive args (prims.Gives (object_of h' w) symbols) d kept ls e first s left reads numbered is objects answer
                ∙ inside_grown h' symbols (export_here d ls) (windows.Give (outcomes.Plain (object_of h' w) ∷ [])) (later kept symbols) d ls first.rest worlds lie grows
                ∙ replaced_as keeping (grown_around a h' symbols) (giving (shown.Value w ∷ []) (called f.base count names m)) f (step.Last (Some inside_here)) f.base d (keeping.begin_export kept) ls first;
          };
        })

    stops_in : (h' : Objects) (stop : PrimStop) (args : List Word)
        → m.control ≡ control.Give → IsFirst f m.frames → f.step ≡ step.Exporting function names number → m.calls < a.limit → length m.frames < 2 ^ 63
        → Reads (slice_get a.content.definitions function.0) name exec count → exec_number a.content function ≡ Some g.0 → slice_get a.content.definitions g.0 ≡ Some (definition.Primitive prim row arity)
        → AreWorlds → LiesAll a m → Extends a.heap h'
        → objects_of a.heap args ≡ ordinary (all_seen a.heap (cells_from m.values f.base count)) → IsStop (applied a.table (rows.prim_of row) (objects_of a.heap args)) stop → stop ≢ prim_stop.Memory
        → ((k : O) (ls : List B) → Before k ls → length ls < 2 ^ 64 → After (keeping.begin_export k) ls)
        → n ≡ stopped_inside inside_here (halt_of stop prim) f.base (called f.base count names m) → TurnsTo keeping Before After a (grown_around a h' a.table.symbols) m n
    stops_in h' stop args e first s left few reads numbered is worlds lie grows objects answer real begins q =
        subst (λ x. TurnsTo keeping Before After a (grown_around a h' a.table.symbols) m x) (sym q) (record {
          turns = λ d kept ls goes. record {
            later = keeping.begin_export kept;
            left = ls;
            goes = record { keeps = begins kept ls goes.keeps (few_lefts m (length ls) few goes.behind); behind = behind_inside keeping a m f function names number inside_here (length ls) first s goes.behind };
            is =
                at_primitive args (applied a.table (rows.prim_of row) (objects_of a.heap args)) d kept ls e first s left reads numbered is objects refl
                ∙ by_stop d kept ls stop (applied a.table (rows.prim_of row) (objects_of a.heap args)) real answer
                ∙ inside_grown h' a.table.symbols (export_here d ls) (control_at a.heap (halt_of stop prim)) (later kept a.table.symbols) d ls first.rest worlds lie grows
                ∙ ap (λ c. inside_going (export_here d ls) c (later kept a.table.symbols) (around_it keeping (grown_around a h' a.table.symbols) m f function names number d ls first.rest) (memory_of h' m.values)) (sym (same_control (halt_of stop prim)))
                ∙ replaced_as keeping (grown_around a h' a.table.symbols) (stopped_as (halt_of stop prim)) f (step.Last (Some inside_here)) f.base d (keeping.begin_export kept) ls first;
          };
        })
      where
        control_at : Objects → Halt → windows.Control ℕ
        control_at h why = windows.Stopped (seen_stop h actuals_here why) (record { inside = None; cut = (m.outer + 1) + 1 })

        -- before its frame is another
        stopped_as : Halt → Machine
        stopped_as why = stopped why (holding_actuals (called f.base count names m))

        same_control : (why : Halt) → control_at h' why ≡ control_at a.heap why
        same_control (halt.Guard x) = ap (λ vs. windows.Stopped (outcomes.Guard x.0 vs) (record { inside = None; cut = (m.outer + 1) + 1 })) (same_values a.table a.heap h' actuals_here grows (actuals_whole a.table a.heap m f.base count names lie.values))
        same_control halt.Steps = refl
        same_control halt.Depth = refl
        same_control (halt.Range x) = refl
        same_control (halt.Large x) = refl
        same_control (halt.Symbols x) = refl

        by_stop : (d : B) (kept : O) (ls : List B) (stop : PrimStop) (x : Applied) → stop ≢ prim_stop.Memory → IsStop x stop
            → ends d kept ls first.rest x ≡ inside_going (export_here d ls) (control_at a.heap (halt_of stop prim)) (later kept a.table.symbols) (around_it keeping a m f function names number d ls first.rest) (memory_of a.heap m.values)
        by_stop d kept ls prim_stop.Guard x real is = ap (ends d kept ls first.rest) is
        by_stop d kept ls prim_stop.Range x real is = ap (ends d kept ls first.rest) is
        by_stop d kept ls prim_stop.TooLarge x real is = ap (ends d kept ls first.rest) is
        by_stop d kept ls prim_stop.SymbolLimit x real is = ap (ends d kept ls first.rest) is
        by_stop d kept ls prim_stop.Memory x real is = absurd (real refl)

    -- as a call of a primitive answers
    pub exec_gives : (h' : Objects) (t' : Table) (w : Word) (args : List Word)
        → m.control ≡ control.Give → IsFirst f m.frames → f.step ≡ step.Exporting function names number → m.calls < a.limit → length m.frames < 2 ^ 63
        → Reads (slice_get a.content.definitions function.0) name exec count → exec_number a.content function ≡ Some g.0 → slice_get a.content.definitions g.0 ≡ Some (definition.Primitive prim row arity)
        → AreWorlds → LiesAll a m → Extends a.heap h' → t'.packages ≡ a.table.packages
        → objects_of a.heap args ≡ ordinary (all_seen a.heap (cells_from m.values f.base count)) → applied a.table (rows.prim_of row) (objects_of a.heap args) ≡ prims.Gives (object_of h' w) t'.symbols
        → ((k : O) (ls : List B) → Before k ls → length ls < 2 ^ 64 → After (keeping.begin_export k) ls)
        → n ≡ given_inside inside_here (shown.Value w ∷ []) f.base (called f.base count names m) → TurnsTo keeping Before After a (record a { heap = h'; table = t' }) m n
    exec_gives h' t' w args e first s left few reads numbered is worlds lie grows packages objects answer begins q =
        subst (λ p. TurnsTo keeping Before After a (record a { heap = h'; table = record { packages = p; symbols = t'.symbols } }) m n) (sym packages)
        (gives_in h' t'.symbols w args e first s left few reads numbered is worlds lie grows objects answer begins q)

    pub exec_stops : (h' : Objects) (t' : Table) (stop : PrimStop) (args : List Word)
        → m.control ≡ control.Give → IsFirst f m.frames → f.step ≡ step.Exporting function names number → m.calls < a.limit → length m.frames < 2 ^ 63
        → Reads (slice_get a.content.definitions function.0) name exec count → exec_number a.content function ≡ Some g.0 → slice_get a.content.definitions g.0 ≡ Some (definition.Primitive prim row arity)
        → AreWorlds → LiesAll a m → Extends a.heap h' → t' ≡ a.table
        → objects_of a.heap args ≡ ordinary (all_seen a.heap (cells_from m.values f.base count)) → IsStop (applied a.table (rows.prim_of row) (objects_of a.heap args)) stop → stop ≢ prim_stop.Memory
        → ((k : O) (ls : List B) → Before k ls → length ls < 2 ^ 64 → After (keeping.begin_export k) ls)
        → n ≡ stopped_inside inside_here (halt_of stop prim) f.base (called f.base count names m) → TurnsTo keeping Before After a (record a { heap = h'; table = t' }) m n
    exec_stops h' t' stop args e first s left few reads numbered is worlds lie grows table objects answer real begins q =
        subst (λ t. TurnsTo keeping Before After a (record a { heap = h'; table = t }) m n) (sym table)
        (stops_in h' stop args e first s left few reads numbered is worlds lie grows objects answer real begins q)
