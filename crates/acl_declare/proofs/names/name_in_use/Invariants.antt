use Rattle.std.proofs.Common.{◌≡◌, drop}
use Rattle.model_stobjs.specs.Heads.{name_in_use}
use Rattle.acl_terms.specs.Forms.{numbers}
use Rattle.acl_worlds.specs.Contents.{seen_world}
use Rattle.acl_declare.proofs.names.name_in_use.Given as goal

abbrev pub invariant-loop-i : goal.invariant-loop-i
invariant-loop-i l = name_in_use (seen_world l.heap l.world) (numbers l.names) ≡ name_in_use (seen_world l.heap l.world) (numbers (drop l.i l.names))
