-- What was read and written so far.
use Rattle.std.specs.Prelude.{◌≡◌, ℕ, ◌≤◌, ◌<◌, List, [], ◌++◌, length, take, drop, Option, Some, None}
use Rattle.std.proofs.Common.{ap, ◌∙◌, arith}
use Rattle.std.proofs.lemmas.List.{take-take, take-append-le}
use Rattle.acl_edge.specs.Outside.{Gives, IsSpent}
use Rattle.model_output_so_far.specs.Output.{most_bytes}
use Rattle.acl_session.specs.Runs.{IsInput}

-- a source gave all, or more than a book may have
pub input_long : (a b : Option (List ℕ)) (bytes : List ℕ) → Gives a b bytes → most_bytes < length bytes → IsInput a bytes
input_long None b bytes g l = tt
input_long (Some left) b bytes g l = record { rest = drop (length bytes) left; whole = g.1; long = λ h. absurd (omega arith) }

pub input_whole : (a b : Option (List ℕ)) (bytes : List ℕ) → Gives a b bytes → IsSpent b → IsInput a bytes
input_whole None b bytes g s = tt
input_whole (Some left) None bytes g s = absurd (no_some (drop (length bytes) left) g.0) where
  no_some : (l : List ℕ) → (let o : Option (List ℕ) = None in o) ≡ Some l → ⊥
  no_some l e = cc
input_whole (Some left) (Some rest) bytes g s = record { rest = drop (length bytes) left; whole = g.1; long = λ h. ap length (same rest (drop (length bytes) left) g.0 s) } where
  same : (l m : List ℕ) → (let o : Option (List ℕ) = Some l in o) ≡ Some m → l ≡ [] → m ≡ []
  same l m e f = cc

-- a first part of a buffer, seen through the vector that it lies in
pub in_vector : (n len : ℕ) (buf items : List ℕ) → n ≤ length buf → n ≤ len → take n (take len (buf ++ items)) ≡ take n buf
in_vector n len buf items l m = take-take n len (buf ++ items) m ∙ take-append-le n buf items l
