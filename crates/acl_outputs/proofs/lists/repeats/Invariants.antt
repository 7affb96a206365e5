use Rattle.std.proofs.Common.{◌≡◌, drop}
use Rattle.model_terms.specs.Classes.{repeats}
use Rattle.acl_terms.specs.Forms.{numbers}
use Rattle.acl_outputs.proofs.lists.repeats.Given as goal

abbrev pub invariant-loop-i : goal.invariant-loop-i
invariant-loop-i l = repeats (numbers l.names) ≡ repeats (numbers (drop l.i l.names))
