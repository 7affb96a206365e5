-- How many parts the nodes of an expansion have.
use Rattle.std.specs.Prelude.{◌≡◌, ℕ, ◌+◌, length}
use Rattle.model_expansion.specs.Layers.{Kind, IfNode, LetNode, MvNode, MvLetNode, StobjLetNode, WithLocalNode, MustBeEqualNode, CallNode}

-- a node of this kind has so many parts
abbrev pub HasParts : Kind → ℕ → Type 0
HasParts IfNode n = n ≡ 3
HasParts (LetNode names) n = n ≡ length names + 1
HasParts MvNode n = Unit {0}
HasParts (MvLetNode names) n = n ≡ 2
HasParts (StobjLetNode names vars) n = n ≡ length names + 2
HasParts (WithLocalNode stobj names) n = n ≡ 2
HasParts MustBeEqualNode n = n ≡ 2
HasParts (CallNode f) n = Unit {0}
