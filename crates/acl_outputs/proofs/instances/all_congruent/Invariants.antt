use Rattle.std.proofs.Common.{◌≡◌, drop}
use Rattle.model_terms.specs.Classes.{all_congruent}
use Rattle.acl_terms.specs.Forms.{numbers}
use Rattle.acl_worlds.specs.Contents.{seen_world}
use Rattle.acl_outputs.proofs.instances.all_congruent.Given as goal

abbrev pub invariant-loop-i : goal.invariant-loop-i
invariant-loop-i l =
    all_congruent (seen_world l.heap l.world) (numbers l.formals) (numbers l.actuals) ≡ all_congruent (seen_world l.heap l.world) (numbers (drop l.i l.formals)) (numbers (drop l.i l.actuals))
