use Rattle.std.proofs.Common.{◌≡◌, ◌++◌, drop}
use Rattle.model_terms.specs.Scopes.{name_kinds}
use Rattle.acl_terms.specs.Forms.{numbers}
use Rattle.acl_terms.specs.Signatures.{seen_outs}
use Rattle.acl_worlds.specs.Contents.{seen_world}
use Rattle.acl_nest.proofs.kinds.name_kinds.Given as goal

abbrev pub invariant-loop-name : goal.invariant-loop-name
invariant-loop-name l = name_kinds (seen_world l.heap l.world) (numbers l.names) ≡ seen_outs l.kinds ++ name_kinds (seen_world l.heap l.world) (numbers (drop l.name-index l.names))
