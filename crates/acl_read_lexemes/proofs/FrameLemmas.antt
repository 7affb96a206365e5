-- Frames, the innermost first.
use Rattle.std.specs.Prelude.{◌≡◌, ℕ, ◌+◌, ◌<◌, List, [], ◌∷◌, ◌++◌, length, take}
use Rattle.std.proofs.Common.{ap, ◌∙◌, get_or}
use Rattle.std.proofs.lemmas.List.{reverse-append, take_more}
use Rattle.acl_read_lexemes.specs.declared.Frame.{Frame}
use Rattle.acl_read_lexemes.specs.Frames.{inmost_first}

pub pushed : (fs : List Frame) (f : Frame) → inmost_first (fs ++ f ∷ []) ≡ f ∷ inmost_first fs
pushed fs f = reverse-append fs (f ∷ [])

-- the frames up to one, and that one
pub taken : (fs : List Frame) (n : ℕ) (f : Frame) → n < length fs → inmost_first (take (n + 1) fs) ≡ get_or fs n f ∷ inmost_first (take n fs)
taken fs n f l = ap inmost_first (take_more fs n f l) ∙ pushed (take n fs) (get_or fs n f)
