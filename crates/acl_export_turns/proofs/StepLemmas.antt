-- Frames without the innermost.
use Rattle.std.proofs.Common.{◌≡◌, List, [], ◌∷◌, drop, refl, sym, ap, ◌∙◌}
use Rattle.std.specs.Prelude.{Option, Some, None, MatchOption}
use Rattle.acl_machine.specs.declared.frame.Frame.{Frame}

pub popped : (r : Option Frame) (old new : List Frame) → MatchOption r ((old ≡ []) × (new ≡ [])) (λ f. old ≡ f ∷ new) → new ≡ drop 1 old
popped None old new p = p.1 ∙ sym (ap (drop 1) p.0)
popped (Some f) old new p = sym (ap (drop 1) p)
