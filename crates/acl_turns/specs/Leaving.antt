-- What may be kept where a turn was refused memory.
use Rattle.std.specs.Prelude.{◌≡◌, ℕ, List, ◌∷◌, Option}
use Rattle.model_eval.specs.Keeping.{Keeping}
use Rattle.acl_base.specs.declared.FnId.{FnId}
use Rattle.acl_terms.specs.Forms.{numbers}
use Rattle.acl_keep.specs.Seen.{all_seen, seen_loans}
use Rattle.acl_keep.specs.Calls.{ArePut}
use Rattle.acl_machine.specs.declared.frame.Inside.{Inside}
use Rattle.acl_machine.specs.declared.frame.Step.TheVariants as step
use Rattle.acl_machine.specs.declared.frame.Frame.{Frame}
use Rattle.acl_machine.specs.declared.frame.Halt.{Halt}
use Rattle.acl_machine.specs.declared.frame.Control.TheVariants as control
use Rattle.acl_machine.specs.declared.machine.Machine.{Machine}
use Rattle.acl_machine.specs.Cells.{top}
use Rattle.acl_machine.specs.Turns.{IsFirst}
use Rattle.acl_machine.specs.Views.{Around}
use Rattle.acl_machine.specs.Keeping.{Goes}
use Rattle.acl_call_turns.specs.Calls.{formals_at, actuals_for}
use Rattle.acl_object_turns.specs.Children.{loans_in, HasLent}

-- a call whose guard had its value was left, and its body was not entered
pub record LeavesCall {O B : Type 0} (keeping : Keeping ℕ O B) (After : O → List B → Type 0) (a : Around) (m : Machine) (kept : O) (lefts : List B) : Type 0 where
  pub given : m.control ≡ control.Give
  pub frame : Frame
  pub first : IsFirst frame m.frames
  pub inside : Option Inside
  pub function : FnId
  pub count : ℕ
  pub guards : frame.step ≡ step.Guarding inside function count
  pub left : B
  pub others : List B
  pub behind : lefts ≡ left ∷ others
  pub keeps : After (keeping.hand_back (numbers (formals_at a.content function)) (all_seen a.heap (actuals_for a.content function frame.base count m)) kept left) others

-- the first of the children that a form had lent, so many, are put back, and no other
pub record LeavesChildren {O B : Type 0} (keeping : Keeping ℕ O B) (After : O → List B → Type 0) (a : Around) (m : Machine) (kept : O) (lefts : List B) : Type 0 where
  pub why : Halt
  pub stops : m.control ≡ control.Stopped why
  pub frame : Frame
  pub first : IsFirst frame m.frames
  pub loans : ℕ
  pub lent : HasLent loans frame.step
  pub count : ℕ
  pub puts : ArePut keeping After count (seen_loans a.heap (loans_in (top loans m.loans))) kept lefts

-- from these things that were kept: they are kept, or that much was done
pub data Leaves {O B : Type 0} (keeping : Keeping ℕ O B) (After : O → List B → Type 0) (a : Around) (m : Machine) (kept : O) (lefts : List B) : Type 0 where
  Still : After kept lefts → Leaves keeping After a m kept lefts
  CallLeft : LeavesCall keeping After a m kept lefts → Leaves keeping After a m kept lefts
  ChildrenPut : LeavesChildren keeping After a m kept lefts → Leaves keeping After a m kept lefts

-- the same, whatever was kept with the machine
pub record MayLeave {O B : Type 0} (keeping : Keeping ℕ O B) (Before After : O → List B → Type 0) (a : Around) (m : Machine) : Type 0 where
  pub leaves : (kept : O) (lefts : List B) → Goes Before m kept lefts → Leaves keeping After a m kept lefts
