-- A call of a number that no function has.
use Rattle.std.proofs.Common.{◌≡◌, ℕ, ◌+◌, ◌<◌, ◌≤◌, List, [], ◌∷◌, length, refl, sym, ap, ◌∙◌, subst}
use Rattle.std.specs.Prelude.{Option, Some, None, Bool, slice_get, if◌then◌else◌}
use Rattle.std.specs.Option.{option_map_or}
use Rattle.model_terms.specs.Worlds as worlds
use Rattle.model_eval.specs.Outcomes as outcomes
use Rattle.model_eval.specs.Keeping.{Keeping}
use Rattle.model_window.specs.Frames as windows
use Rattle.model_window.specs.Turns.{called_name}
use Rattle.model_symbols.specs.Symbols.{Table}
use Rattle.acl_base.specs.declared.FnId.{FnId}
use Rattle.acl_heap.specs.Objects.{Objects}
use Rattle.acl_keep.specs.Seen.{all_seen}
use Rattle.acl_machine.specs.declared.frame.Step.TheVariants as step
use Rattle.acl_machine.specs.declared.frame.Frame.{Frame}
use Rattle.acl_machine.specs.declared.frame.Halt.TheVariants as halt
use Rattle.acl_machine.specs.declared.frame.Control.TheVariants as control
use Rattle.acl_machine.specs.declared.machine.Machine.{Machine}
use Rattle.acl_machine.specs.Cells.{cells_from}
use Rattle.acl_machine.specs.Views.{Around, world_of, machine_of}
use Rattle.acl_machine.specs.Turns.{turned, Turns, IsFirst}
use Rattle.acl_machine.specs.Steps.{stopped, replaced, counted, holding, IsSound}
use Rattle.acl_machine.specs.Keeping.{TurnsTo}
use Rattle.acl_machine.proofs.CallLemmas.{by_what, at_call, replaced_as, is_below, seen_none}
use Rattle.acl_machine.proofs.StaysLemmas.{sound_refused}
use Rattle.acl_turns.proofs.QuietLemmas.{turns_at_once}

-- it is counted, and stops with its actuals
abbrev pub after_unknown : ℕ → ℕ → Machine → Machine
after_unknown base count m = stopped (halt.Guard (record { 0 = 0 })) (counted (holding (cells_from m.values base count) (replaced (step.Last None) base m)))

module _ {O B : Type 0} (keeping : Keeping ℕ O B) where
  calls_unknown : (a : Around) (m : Machine) (f : Frame) (at : ℕ) (g : FnId) (count : ℕ) → m.control ≡ control.Give → IsFirst f m.frames → f.step ≡ step.Calling at g count
      → m.calls < a.limit → length a.content.definitions ≤ g.0 → (n : Machine) → n ≡ after_unknown (f.base + at) count m → Turns keeping a a m n
  calls_unknown a m f at g count e first h l past n q = subst (λ x. Turns keeping a a m x) (sym q) (record {
    goes = λ d kept ls.
        at_call keeping a m f at g count d kept ls e first h
        ∙ ap (λ (b : Bool). if b then by_what keeping a m f at g values first.rest (slice_get (world_of a) g.0) (called_name (world_of a) g.0) d kept ls else too_many d kept ls) (is_below m.calls a.limit l)
        ∙ ap (λ x. by_what keeping a m f at g values first.rest x (option_map_or worlds.definition_name x 0) d kept ls) (seen_none a.heap a.content.definitions g.0 past)
        ∙ replaced_as keeping a (stopped (halt.Guard (record { 0 = 0 })) (counted (holding (cells_from m.values (f.base + at) count) m))) f (step.Last None) (f.base + at) d kept ls first;
  })
    where
      values : List (outcomes.Shown ℕ)
      values = all_seen a.heap (cells_from m.values (f.base + at) count)

      too_many : B → O → List B → windows.Turned ℕ O B
      too_many d kept ls = windows.Going (machine_of a d kept ls (record (stopped halt.Steps m) { frames = record { step = step.Last None; base = f.base + at } ∷ first.rest }))

  pub turns_by_unknown : (Keeps : O → List B → Type 0) (a : Around) (m n : Machine) (f : Frame) (at : ℕ) (g : FnId) (count : ℕ) → m.control ≡ control.Give → IsFirst f m.frames → f.step ≡ step.Calling at g count
      → m.calls < a.limit → length a.content.definitions ≤ g.0 → n ≡ after_unknown (f.base + at) count m → TurnsTo keeping Keeps Keeps a a m n
  turns_by_unknown Keeps a m n f at g count e first h l past q =
      turns_at_once keeping Keeps a a m n f at g count None e first h (seen_none a.heap a.content.definitions g.0 past) tt (calls_unknown a m f at g count e first h l past n q)

pub sound_unknown : (t : Table) (h : Objects) (m n : Machine) (base count : ℕ) → IsSound t h m → n ≡ after_unknown base count m → IsSound t h n
sound_unknown t h m n base count i q = sound_refused t h m (step.Last None) base base count (halt.Guard (record { 0 = 0 })) i n q
