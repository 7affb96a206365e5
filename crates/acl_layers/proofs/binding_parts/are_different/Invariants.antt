use Rattle.std.proofs.Common.{◌≡◌, drop}
use Rattle.model_expansion.specs.Forms.{are_different}
use Rattle.acl_terms.specs.Forms.{numbers}
use Rattle.acl_layers.proofs.binding_parts.are_different.Given as goal

abbrev pub invariant-loop-i : goal.invariant-loop-i
invariant-loop-i l = are_different (numbers l.names) ≡ are_different (numbers (drop l.i l.names))
