-- What a turn makes of a machine whose innermost form calls a primitive.
use Rattle.std.proofs.Common.{◌≡◌, ℕ, ◌+◌, ◌<◌, List, [], ◌∷◌, refl, sym, ap, ◌∙◌, subst}
use Rattle.std.specs.Prelude.{Some, None, slice_get}
use Rattle.model_symbols.specs.Symbols.{Table, QualifiedName}
use Rattle.model_prims.specs.Applied.{Applied, applied}
use Rattle.model_prims.specs.Applied as prims
use Rattle.model_prims.specs.Rows as rows
use Rattle.model_eval.specs.Outcomes as outcomes
use Rattle.model_eval.specs.Outcomes.{StateOf, one_more_call}
use Rattle.model_eval.specs.Variables.{ordinary}
use Rattle.model_eval.specs.Keeping.{Keeping}
use Rattle.model_eval.specs.Checked.{primitive_ended}
use Rattle.model_window.specs.Frames as windows
use Rattle.model_window.specs.Windows.{Memory}
use Rattle.model_window.specs.Turns.{done}
use Rattle.acl_base.specs.declared.SymId.{SymId}
use Rattle.acl_base.specs.declared.FnId.{FnId}
use Rattle.acl_base.specs.declared.Word.{Word}
use Rattle.acl_heap.specs.Objects.{Objects, object_of, Extends}
use Rattle.acl_terms.specs.declared.outcome.Shown.{Shown}
use Rattle.acl_terms.specs.declared.outcome.Shown.TheVariants as shown
use Rattle.acl_terms.specs.declared.definition.Definition.TheVariants as definition
use Rattle.acl_worlds.specs.Contents.{WorldLies}
use Rattle.acl_worlds.specs.Laws.{AreWorlds}
use Rattle.acl_code.specs.Tables.{forest, TermsLie}
use Rattle.acl_code.proofs.TableLemmas.{forest_kept}
use Rattle.acl_prims.specs.Made.{objects_of}
use Rattle.acl_keep.specs.Seen.{all_seen}
use Rattle.acl_machine.specs.declared.frame.Step.TheVariants as step
use Rattle.acl_machine.specs.declared.frame.Frame.{Frame}
use Rattle.acl_machine.specs.declared.frame.Halt.{Halt}
use Rattle.acl_machine.specs.declared.frame.Halt.TheVariants as halt
use Rattle.acl_machine.specs.declared.frame.Control.TheVariants as control
use Rattle.acl_machine.specs.declared.machine.Machine.{Machine}
use Rattle.acl_machine.specs.Cells.{cells_from, memory_of, AreWholeCells}
use Rattle.acl_machine.specs.Views.{Around, world_of, trees_of, code_of, code_with, seen_frames, seen_stop}
use Rattle.acl_machine.specs.Turns.{rules_of, Turns, IsFirst}
use Rattle.acl_machine.specs.Steps.{stopped, giving, replaced, counted, holding, LoansWhole}
use Rattle.acl_machine.proofs.BeginLemmas.{state_of, frames_of}
use Rattle.acl_machine.proofs.CallLemmas.{at_counted, replaced_as}
use Rattle.acl_machine.proofs.GrowthLemmas.{same_memory, same_cells, same_frames}

-- heap and table have grown
abbrev pub grown_around : Around → Objects → List QualifiedName → Around
grown_around a h symbols = record a { heap = h; table = record { packages = a.table.packages; symbols = symbols } }

-- what must lie in the heap, so that the machine is the same in a larger one
pub record LiesAll (a : Around) (m : Machine) : Type 0 where
  pub values : AreWholeCells a.table a.heap m.values
  pub loans : LoansWhole a.table a.heap m.loans
  pub terms : TermsLie a.heap a.terms
  pub world : WorldLies a.heap a.content

module _ {O B : Type 0} (keeping : Keeping ℕ O B) where
  -- a machine of these parts
  abbrev pub parts_going : ℕ → ℕ → windows.Control ℕ → StateOf O → List (windows.Frame ℕ B) → Memory ℕ → windows.Turned ℕ O B
  parts_going room base c state frames memory = windows.Going (record {
    room = room;
    frames = record { step = windows.Last None; base = base } ∷ frames;
    memory = memory;
    control = c;
    state = state;
  })

  -- frames and memory in the larger heap
  pub frames_grown : (a : Around) (h' : Objects) (symbols : List QualifiedName) (m : Machine) (fs : List Frame) (d : B) (ls : List B) → AreWorlds → Extends a.heap h' → LiesAll a m
      → frames_of keeping (grown_around a h' symbols) d ls m fs ≡ frames_of keeping a d ls m fs
  frames_grown a h' symbols m fs d ls worlds grows l =
      ap (λ w. seen_frames h' w (forest h' a.terms) (code_with (forest h' a.terms) a.content.definitions) d ls m.names m.loans fs) (worlds.later a.heap h' a.content grows l.world)
      ∙ ap (λ ts. seen_frames h' (world_of a) ts (code_with ts a.content.definitions) d ls m.names m.loans fs) (forest_kept a.heap h' a.terms grows l.terms)
      ∙ same_frames a.heap h' grows a.table (world_of a) (trees_of a) (code_of a) d ls m.names m.loans fs l.loans

  -- what is given after a primitive
  pub calls_gives : (a : Around) (h' : Objects) (symbols : List QualifiedName) (m : Machine) (f : Frame) (at : ℕ) (g : FnId) (count : ℕ) (name : SymId) (row arity : ℕ) (w : Word)
      → m.control ≡ control.Give → IsFirst f m.frames → f.step ≡ step.Calling at g count → m.calls < a.limit → slice_get a.content.definitions g.0 ≡ Some (definition.Primitive name row arity)
      → AreWorlds → LiesAll a m → Extends a.heap h'
      → applied a.table (rows.prim_of row) (ordinary (all_seen a.heap (cells_from m.values (f.base + at) count))) ≡ prims.Gives (object_of h' w) symbols
      → (n : Machine) → n ≡ giving (shown.Value w ∷ []) (counted (replaced (step.Last None) (f.base + at) m)) → Turns keeping a (grown_around a h' symbols) m n
  calls_gives a h' symbols m f at g count name row arity w e first s l what worlds lie grows answer n q =
      subst (λ x. Turns keeping a (grown_around a h' symbols) m x) (sym q) (record {
        goes = λ d kept ls.
            at_counted keeping a m f at g count (definition.Primitive name row arity) d kept ls e first s l what
            ∙ ap (λ x. done (rules_of keeping a) (code_of a) None m.room (f.base + at) (frames_of keeping a d ls m first.rest) (memory_of a.heap m.values) (primitive_ended name.0 values (one_more_call (state_of keeping a kept m)) x)) answer
            ∙ ap (λ fs. parts_going m.room (f.base + at) (windows.Give (outcomes.Plain (object_of h' w) ∷ [])) (later kept) fs (memory_of a.heap m.values)) (sym (frames_grown a h' symbols m first.rest d ls worlds grows lie))
            ∙ ap (parts_going m.room (f.base + at) (windows.Give (outcomes.Plain (object_of h' w) ∷ [])) (later kept) (frames_of keeping (grown_around a h' symbols) d ls m first.rest)) (sym (same_memory a.heap h' grows a.table m.values lie.values))
            ∙ replaced_as keeping (grown_around a h' symbols) (giving (shown.Value w ∷ []) (counted m)) f (step.Last None) (f.base + at) d kept ls first;
      })
    where
      values : List (outcomes.Shown ℕ)
      values = all_seen a.heap (cells_from m.values (f.base + at) count)

      later : O → StateOf O
      later kept = record { stobjs = kept; symbols = symbols; calls = m.calls + 1; outer = m.outer + 1 }

  -- why a primitive stops
  abbrev pub StopsBy : SymId → Halt → prims.Stop → Type 0
  StopsBy name why prims.Guard = why ≡ halt.Guard name
  StopsBy name why prims.Range = why ≡ halt.Range name
  StopsBy name why prims.Large = why ≡ halt.Large name
  StopsBy name why prims.Symbols = why ≡ halt.Symbols name

  pub calls_stops : (a : Around) (h' : Objects) (m : Machine) (f : Frame) (at : ℕ) (g : FnId) (count : ℕ) (name : SymId) (row arity : ℕ) (reason : prims.Stop) (why : Halt)
      → m.control ≡ control.Give → IsFirst f m.frames → f.step ≡ step.Calling at g count → m.calls < a.limit → slice_get a.content.definitions g.0 ≡ Some (definition.Primitive name row arity)
      → AreWorlds → LiesAll a m → Extends a.heap h'
      → applied a.table (rows.prim_of row) (ordinary (all_seen a.heap (cells_from m.values (f.base + at) count))) ≡ prims.Stops reason
      → StopsBy name why reason
      → (n : Machine) → n ≡ stopped why (counted (holding (cells_from m.values (f.base + at) count) (replaced (step.Last None) (f.base + at) m))) → Turns keeping a (grown_around a h' a.table.symbols) m n
  calls_stops a h' m f at g count name row arity reason why e first s l what worlds lie grows answer by n q =
      subst (λ x. Turns keeping a (grown_around a h' a.table.symbols) m x) (sym q) (record {
        goes = λ d kept ls.
            at_counted keeping a m f at g count (definition.Primitive name row arity) d kept ls e first s l what
            ∙ ap (λ x. done (rules_of keeping a) (code_of a) None m.room (f.base + at) (frames_of keeping a d ls m first.rest) (memory_of a.heap m.values) (primitive_ended name.0 values (later kept) x)) answer
            ∙ by_reason d kept ls reason by
            ∙ ap (λ fs. parts_going m.room (f.base + at) (control_at a.heap) (later kept) fs (memory_of a.heap m.values)) (sym (frames_grown a h' a.table.symbols m first.rest d ls worlds grows lie))
            ∙ ap (parts_going m.room (f.base + at) (control_at a.heap) (later kept) (frames_of keeping (grown_around a h' a.table.symbols) d ls m first.rest)) (sym (same_memory a.heap h' grows a.table m.values lie.values))
            ∙ ap (λ c. parts_going m.room (f.base + at) c (later kept) (frames_of keeping (grown_around a h' a.table.symbols) d ls m first.rest) (memory_of h' m.values)) (sym (same_control why))
            ∙ replaced_as keeping (grown_around a h' a.table.symbols) (stopped why (counted (holding cells m))) f (step.Last None) (f.base + at) d kept ls first;
      })
    where
      cells : List Shown
      cells = cells_from m.values (f.base + at) count

      values : List (outcomes.Shown ℕ)
      values = all_seen a.heap cells

      later : O → StateOf O
      later kept = one_more_call (state_of keeping a kept m)

      control_at : Objects → windows.Control ℕ
      control_at h = windows.Stopped (seen_stop h cells why) (record { inside = None; cut = (m.outer + 1) + 1 })

      same_control : (why : Halt) → windows.Stopped (seen_stop h' cells why) (record { inside = None; cut = (m.outer + 1) + 1 }) ≡ windows.Stopped (seen_stop a.heap cells why) (record { inside = None; cut = (m.outer + 1) + 1 })
      same_control (halt.Guard x) = ap (λ vs. windows.Stopped (outcomes.Guard x.0 vs) (record { inside = None; cut = (m.outer + 1) + 1 })) (same_cells a.heap h' grows a.table m.values (f.base + at) count lie.values)
      same_control halt.Steps = refl
      same_control halt.Depth = refl
      same_control (halt.Range x) = refl
      same_control (halt.Large x) = refl
      same_control (halt.Symbols x) = refl

      at_reason : (d : B) (kept : O) (ls : List B) (x : Halt) → x ≡ why
          → parts_going m.room (f.base + at) (windows.Stopped (seen_stop a.heap cells x) (record { inside = None; cut = (m.outer + 1) + 1 })) (later kept) (frames_of keeping a d ls m first.rest) (memory_of a.heap m.values)
          ≡ parts_going m.room (f.base + at) (control_at a.heap) (later kept) (frames_of keeping a d ls m first.rest) (memory_of a.heap m.values)
      at_reason d kept ls x e = ap (λ x. parts_going m.room (f.base + at) (windows.Stopped (seen_stop a.heap cells x) (record { inside = None; cut = (m.outer + 1) + 1 })) (later kept) (frames_of keeping a d ls m first.rest) (memory_of a.heap m.values)) e

      by_reason : (d : B) (kept : O) (ls : List B) (reason : prims.Stop) → StopsBy name why reason
          → done (rules_of keeping a) (code_of a) None m.room (f.base + at) (frames_of keeping a d ls m first.rest) (memory_of a.heap m.values) (primitive_ended name.0 values (later kept) (prims.Stops reason))
          ≡ parts_going m.room (f.base + at) (control_at a.heap) (later kept) (frames_of keeping a d ls m first.rest) (memory_of a.heap m.values)
      by_reason d kept ls prims.Guard by = at_reason d kept ls (halt.Guard name) (sym by)
      by_reason d kept ls prims.Range by = at_reason d kept ls (halt.Range name) (sym by)
      by_reason d kept ls prims.Large by = at_reason d kept ls (halt.Large name) (sym by)
      by_reason d kept ls prims.Symbols by = at_reason d kept ls (halt.Symbols name) (sym by)

  -- the same, as a call of a primitive answers
  pub primitive_gives : (a : Around) (h' : Objects) (t' : Table) (m : Machine) (f : Frame) (at : ℕ) (g : FnId) (count : ℕ) (name : SymId) (row arity : ℕ) (w : Word) (args : List Word)
      → m.control ≡ control.Give → IsFirst f m.frames → f.step ≡ step.Calling at g count → m.calls < a.limit → slice_get a.content.definitions g.0 ≡ Some (definition.Primitive name row arity)
      → AreWorlds → LiesAll a m → Extends a.heap h' → t'.packages ≡ a.table.packages → objects_of a.heap args ≡ ordinary (all_seen a.heap (cells_from m.values (f.base + at) count))
      → applied a.table (rows.prim_of row) (objects_of a.heap args) ≡ prims.Gives (object_of h' w) t'.symbols
      → (n : Machine) → n ≡ giving (shown.Value w ∷ []) (counted (replaced (step.Last None) (f.base + at) m)) → Turns keeping a (record a { heap = h'; table = t' }) m n
  primitive_gives a h' t' m f at g count name row arity w args e first s l what worlds lie grows packages objects answer n q =
      subst (λ p. Turns keeping a (record a { heap = h'; table = record { packages = p; symbols = t'.symbols } }) m n) (sym packages)
      (calls_gives a h' t'.symbols m f at g count name row arity w e first s l what worlds lie grows (ap (applied a.table (rows.prim_of row)) (sym objects) ∙ answer) n q)

  pub primitive_stops : (a : Around) (h' : Objects) (t' : Table) (m : Machine) (f : Frame) (at : ℕ) (g : FnId) (count : ℕ) (name : SymId) (row arity : ℕ) (reason : prims.Stop) (why : Halt) (args : List Word)
      → m.control ≡ control.Give → IsFirst f m.frames → f.step ≡ step.Calling at g count → m.calls < a.limit → slice_get a.content.definitions g.0 ≡ Some (definition.Primitive name row arity)
      → AreWorlds → LiesAll a m → Extends a.heap h' → t' ≡ a.table → objects_of a.heap args ≡ ordinary (all_seen a.heap (cells_from m.values (f.base + at) count))
      → applied a.table (rows.prim_of row) (objects_of a.heap args) ≡ prims.Stops reason → StopsBy name why reason
      → (n : Machine) → n ≡ stopped why (counted (holding (cells_from m.values (f.base + at) count) (replaced (step.Last None) (f.base + at) m))) → Turns keeping a (record a { heap = h'; table = t' }) m n
  primitive_stops a h' t' m f at g count name row arity reason why args e first s l what worlds lie grows table objects answer by n q =
      subst (λ t. Turns keeping a (record a { heap = h'; table = t }) m n) (sym table)
      (calls_stops a h' m f at g count name row arity reason why e first s l what worlds lie grows (ap (applied a.table (rows.prim_of row)) (sym objects) ∙ answer) by n q)
