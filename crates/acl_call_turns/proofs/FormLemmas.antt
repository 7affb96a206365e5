-- A form that is closed, and how much is left behind around it.
use Rattle.std.proofs.Common.{◌≡◌, ℕ, ◌+◌, List, [], ◌∷◌, refl, sym, ap, ◌∙◌}
use Rattle.std.specs.Prelude.{MatchOption, Option, Some, None}
use Rattle.acl_machine.specs.declared.frame.Step.{Step}
use Rattle.acl_machine.specs.declared.frame.Frame.{Frame}
use Rattle.acl_machine.specs.Turns.{IsFirst, with_frame}
use Rattle.acl_machine.specs.Keeping.{lefts_in, all_lefts}
use Rattle.acl_call_turns.specs.Calls.{rest_of}

pub popped : (r : Option Frame) (old new : List Frame) → MatchOption r ((old ≡ []) × (new ≡ [])) (λ f. old ≡ f ∷ new) → new ≡ rest_of old
popped None old new p = p.1 ∙ sym (ap rest_of p.0)
popped (Some f) old new p = sym (ap rest_of p)

-- how much the frames have left behind, by the innermost
pub lefts_first : (f : Frame) (fs : List Frame) (s : Step) (first : IsFirst f fs) → f.step ≡ s → all_lefts fs ≡ lefts_in s + all_lefts first.rest
lefts_first f fs s first e = ap all_lefts first.is ∙ ap (λ t. lefts_in t + all_lefts first.rest) e

pub lefts_with : (f : Frame) (fs : List Frame) (other : Frame) (first : IsFirst f fs) → all_lefts (with_frame other fs) ≡ lefts_in other.step + all_lefts first.rest
lefts_with f fs other first = ap (λ gs. all_lefts (with_frame other gs)) first.is

pub lefts_rest : (f : Frame) (fs : List Frame) (first : IsFirst f fs) → all_lefts (rest_of fs) ≡ all_lefts first.rest
lefts_rest f fs first = ap (λ gs. all_lefts (rest_of gs)) first.is
