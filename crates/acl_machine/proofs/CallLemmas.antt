-- What a turn makes of a machine whose innermost form calls a function.
use Rattle.std.proofs.Common.{◌≡◌, ℕ, zero, suc, ◌+◌, ◌<◌, ◌≤◌, List, [], ◌∷◌, length, map, refl, sym, ap, ◌∙◌, arith, subst}
use Rattle.std.specs.Prelude.{Option, Some, None, Bool, slice_get, nat_lt, true, false, if◌then◌else◌, option_map}
use Rattle.std.proofs.lemmas.Bool.Decides.{nat_tests}
use Rattle.std.specs.Option.{option_map_or}
use Rattle.acl_base.specs.declared.SymId.{SymId}
use Rattle.acl_base.specs.declared.FnId.{FnId}
use Rattle.acl_heap.specs.Objects.{Objects}
use Rattle.acl_terms.specs.declared.definition.Definition.{Definition}
use Rattle.acl_terms.specs.declared.definition.Definition.TheVariants as definition
use Rattle.acl_terms.specs.Definitions.{seen_definition, name_in}
use Rattle.model_terms.specs.Worlds as worlds
use Rattle.model_eval.specs.Outcomes as outcomes
use Rattle.model_eval.specs.Outcomes.{StateOf, here, one_more_call}
use Rattle.model_eval.specs.Keeping.{Keeping}
use Rattle.model_window.specs.Frames as windows
use Rattle.model_window.specs.Turns.{call, call_by_definition, call_of_abstract, called_name}
use Rattle.acl_keep.specs.Seen.{all_seen}
use Rattle.acl_machine.specs.declared.frame.Step.{Step}
use Rattle.acl_machine.specs.declared.frame.Step.TheVariants as step
use Rattle.acl_machine.specs.declared.frame.Frame.{Frame}
use Rattle.acl_machine.specs.declared.frame.Halt.TheVariants as halt
use Rattle.acl_machine.specs.declared.frame.Control.TheVariants as control
use Rattle.acl_machine.specs.declared.machine.Machine.{Machine}
use Rattle.acl_machine.specs.Cells.{cells_from, memory_of}
use Rattle.acl_machine.specs.Views.{Around, world_of, code_of, machine_of}
use Rattle.acl_machine.specs.Turns.{rules_of, turned, Turns, IsFirst, with_frame}
use Rattle.acl_machine.specs.Steps.{stopped, replaced, counted, holding, IsRefused, MayNotCall}
use Rattle.acl_machine.proofs.BeginLemmas.{state_of, frames_of, becomes, read_cells}
use Rattle.acl_machine.proofs.GoLemmas.{at_give}

-- the definition of a number
pub seen_at : (h : Objects) (ds : List Definition) (n : ℕ) (d : Definition) → slice_get ds n ≡ Some d → slice_get (map (seen_definition h) ds) n ≡ Some (seen_definition h d)
seen_at h ds n d e = mapped ds n ∙ ap (option_map (seen_definition h)) e
  where
    mapped : (ds : List Definition) (n : ℕ) → slice_get (map (seen_definition h) ds) n ≡ option_map (seen_definition h) (slice_get ds n)
    mapped [] n = refl
    mapped (d ∷ ds) zero = refl
    mapped (d ∷ ds) (suc n) = mapped ds n

pub seen_none : (h : Objects) (ds : List Definition) (n : ℕ) → length ds ≤ n → slice_get (map (seen_definition h) ds) n ≡ None
seen_none h [] n e = refl
seen_none h (d ∷ ds) zero e = absurd (omega arith)
seen_none h (d ∷ ds) (suc n) e = seen_none h ds n (omega arith)

-- its name
pub seen_named : (h : Objects) (d : Definition) → worlds.definition_name (seen_definition h d) ≡ name_in d
seen_named h (definition.Primitive name row arity) = refl
seen_named h (definition.Function f) = refl
seen_named h (definition.Macro m) = refl
seen_named h (definition.Constant name value) = refl
seen_named h (definition.Object descriptor layout class) = refl
seen_named h (definition.Generated f) = refl
seen_named h (definition.Abstract descriptor) = refl
seen_named h (definition.OfAbstract f) = refl
seen_named h (definition.Named name formals) = refl
seen_named h (definition.Signed name formals signature executable) = refl

pub not_below : (a b : ℕ) → b ≤ a → nat_lt a b ≡ false
not_below a b h = grind (arith, nat_tests)

pub is_below : (a b : ℕ) → a < b → nat_lt a b ≡ true
is_below a b h = grind (arith, nat_tests)

module _ {O B : Type 0} (keeping : Keeping ℕ O B) where
  -- what a call does with the test of the limit, on the state that the machine has
  abbrev pub called_at : Around → Machine → Frame → ℕ → FnId → List (outcomes.Shown ℕ) → List Frame → B → O → List B → windows.Turned ℕ O B
  called_at a m f at g values rest d kept ls =
      call (rules_of keeping a) (code_of a) m.room (f.base + at) (frames_of keeping a d ls m rest) (memory_of a.heap m.values) g.0 values (state_of keeping a kept m)

  pub at_call : (a : Around) (m : Machine) (f : Frame) (at : ℕ) (g : FnId) (count : ℕ) (d : B) (kept : O) (ls : List B) → m.control ≡ control.Give → (first : IsFirst f m.frames) → f.step ≡ step.Calling at g count
      → turned keeping a d kept ls m ≡ called_at a m f at g (all_seen a.heap (cells_from m.values (f.base + at) count)) first.rest d kept ls
  at_call a m f at g count d kept ls e first h =
      let z : (f.base + at) + 0 ≡ f.base + at = omega arith in
      at_give keeping a m f (step.Calling at g count) d kept ls e first h
      ∙ ap (λ vs. called_at a m f at g vs first.rest d kept ls) (read_cells a.heap m.values (f.base + at) 0 count ∙ ap (λ n. all_seen a.heap (cells_from m.values n count)) z)

  -- the same machine, with another innermost frame
  pub replaced_as : (a : Around) (m : Machine) (f : Frame) (s : Step) (base : ℕ) (d : B) (kept : O) (ls : List B) (first : IsFirst f m.frames)
      → windows.Going (machine_of a d kept ls (record m { frames = record { step = s; base = base } ∷ first.rest })) ≡ windows.Going (machine_of a d kept ls (replaced s base m))
  replaced_as a m f s base d kept ls first = ap (λ fs. windows.Going (machine_of a d kept ls (record m { frames = with_frame (record { step = s; base = base }) fs }))) (sym first.is)

  pub calls_too_many : (a : Around) (m : Machine) (f : Frame) (at : ℕ) (g : FnId) (count : ℕ) → m.control ≡ control.Give → IsFirst f m.frames → f.step ≡ step.Calling at g count → a.limit ≤ m.calls
      → (n : Machine) → n ≡ stopped halt.Steps (replaced (step.Last None) (f.base + at) m) → Turns keeping a a m n
  calls_too_many a m f at g count e first h l n q = becomes keeping n _ q (record {
    goes = λ d kept ls.
        at_call a m f at g count d kept ls e first h
        ∙ ap (λ (b : Bool). if b then going_on d kept ls else windows.Going (machine_of a d kept ls (record (stopped halt.Steps m) { frames = record { step = step.Last None; base = f.base + at } ∷ first.rest }))) (not_below m.calls a.limit l)
        ∙ replaced_as a (stopped halt.Steps m) f (step.Last None) (f.base + at) d kept ls first;
  })
    where
      values : List (outcomes.Shown ℕ)
      values = all_seen a.heap (cells_from m.values (f.base + at) count)

      going_on : B → O → List B → windows.Turned ℕ O B
      going_on d kept ls = call_by_definition (rules_of keeping a) (code_of a) None
          (λ x later. call_of_abstract (rules_of keeping a) (code_of a) m.room (f.base + at) (frames_of keeping a d ls m first.rest) (memory_of a.heap m.values) g.0 x x.role values later)
          m.room (f.base + at) (frames_of keeping a d ls m first.rest) (memory_of a.heap m.values) g.0 (slice_get (world_of a) g.0) (called_name (world_of a) g.0) values (one_more_call (state_of keeping a kept m))

  -- a call that is counted, by what the function is
  abbrev pub by_what : Around → Machine → Frame → ℕ → FnId → List (outcomes.Shown ℕ) → List Frame → Option worlds.Definition → ℕ → B → O → List B → windows.Turned ℕ O B
  by_what a m f at g values rest what name d kept ls = call_by_definition (rules_of keeping a) (code_of a) None
      (λ x later. call_of_abstract (rules_of keeping a) (code_of a) m.room (f.base + at) (frames_of keeping a d ls m rest) (memory_of a.heap m.values) g.0 x x.role values later)
      m.room (f.base + at) (frames_of keeping a d ls m rest) (memory_of a.heap m.values) g.0 what name values (one_more_call (state_of keeping a kept m))

  pub at_counted : (a : Around) (m : Machine) (f : Frame) (at : ℕ) (g : FnId) (count : ℕ) (what : Definition) (d : B) (kept : O) (ls : List B) → m.control ≡ control.Give → (first : IsFirst f m.frames) → f.step ≡ step.Calling at g count
      → m.calls < a.limit → slice_get a.content.definitions g.0 ≡ Some what
      → turned keeping a d kept ls m ≡ by_what a m f at g (all_seen a.heap (cells_from m.values (f.base + at) count)) first.rest (Some (seen_definition a.heap what)) (name_in what) d kept ls
  at_counted a m f at g count what d kept ls e first h l w =
      at_call a m f at g count d kept ls e first h
      ∙ ap (λ (b : Bool). if b then by_what a m f at g values first.rest (slice_get (world_of a) g.0) (called_name (world_of a) g.0) d kept ls else too_many) (is_below m.calls a.limit l)
      ∙ ap (λ x. by_what a m f at g values first.rest x (name_of x) d kept ls) (seen_at a.heap a.content.definitions g.0 what w)
      ∙ ap (λ x. by_what a m f at g values first.rest (Some (seen_definition a.heap what)) x d kept ls) (seen_named a.heap what)
    where
      values : List (outcomes.Shown ℕ)
      values = all_seen a.heap (cells_from m.values (f.base + at) count)

      name_of : Option worlds.Definition → ℕ
      name_of x = option_map_or worlds.definition_name x 0

      too_many : windows.Turned ℕ O B
      too_many = windows.Going (machine_of a d kept ls (record (stopped halt.Steps m) { frames = record { step = step.Last None; base = f.base + at } ∷ first.rest }))

  pub calls_refused : (a : Around) (m : Machine) (f : Frame) (at : ℕ) (g : FnId) (count : ℕ) (what : Definition) (name : SymId) → m.control ≡ control.Give → IsFirst f m.frames → f.step ≡ step.Calling at g count
      → m.calls < a.limit → slice_get a.content.definitions g.0 ≡ Some what → IsRefused what → name.0 ≡ name_in what
      → (n : Machine) → n ≡ stopped (halt.Guard name) (counted (holding (cells_from m.values (f.base + at) count) (replaced (step.Last None) (f.base + at) m))) → Turns keeping a a m n
  calls_refused a m f at g count what name e first h l w refused named n q = becomes keeping n _ q (record {
    goes = λ d kept ls.
        at_counted a m f at g count what d kept ls e first h l w
        ∙ ap (λ x. by_what a m f at g values first.rest (Some (seen_definition a.heap what)) x d kept ls) (sym named)
        ∙ by_case d kept ls what refused
        ∙ replaced_as a after f (step.Last None) (f.base + at) d kept ls first;
  })
    where
      values : List (outcomes.Shown ℕ)
      values = all_seen a.heap (cells_from m.values (f.base + at) count)

      after : Machine
      after = stopped (halt.Guard name) (counted (holding (cells_from m.values (f.base + at) count) m))

      by_case : (d : B) (kept : O) (ls : List B) (what : Definition) → IsRefused what
          → by_what a m f at g values first.rest (Some (seen_definition a.heap what)) name.0 d kept ls ≡ windows.Going (machine_of a d kept ls (record after { frames = record { step = step.Last None; base = f.base + at } ∷ first.rest }))
      by_case d kept ls (definition.Primitive x row arity) r = absurd r
      by_case d kept ls (definition.Function x) r = absurd r
      by_case d kept ls (definition.Macro x) r = refl
      by_case d kept ls (definition.Constant x value) r = refl
      by_case d kept ls (definition.Object x layout class) r = refl
      by_case d kept ls (definition.Generated x) r = absurd r
      by_case d kept ls (definition.Abstract x) r = refl
      by_case d kept ls (definition.OfAbstract x) r = absurd r
      by_case d kept ls (definition.Named x formals) r = refl
      by_case d kept ls (definition.Signed x formals signature executable) r = refl

  pub calls_refused_at : (a : Around) (m : Machine) (f : Frame) (at : ℕ) (g : FnId) (count : ℕ) (what : Definition) (name : SymId) → m.control ≡ control.Give → IsFirst f m.frames → f.step ≡ step.Calling at g count
      → m.calls < a.limit → slice_get a.content.definitions g.0 ≡ Some what → MayNotCall (slice_get a.content.definitions g.0) → name.0 ≡ name_in what
      → (n : Machine) → n ≡ stopped (halt.Guard name) (counted (holding (cells_from m.values (f.base + at) count) (replaced (step.Last None) (f.base + at) m))) → Turns keeping a a m n
  calls_refused_at a m f at g count what name e first h l w r named n q = calls_refused a m f at g count what name e first h l w (subst MayNotCall w r) named n q
