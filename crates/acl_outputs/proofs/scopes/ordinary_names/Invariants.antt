use Rattle.std.proofs.Common.{◌≡◌, ◌++◌, drop}
use Rattle.model_terms.specs.Scopes.{ordinary_names}
use Rattle.acl_terms.specs.Forms.{numbers}
use Rattle.acl_worlds.specs.Contents.{seen_world}
use Rattle.acl_outputs.proofs.scopes.ordinary_names.Given as goal

abbrev pub invariant-loop-name : goal.invariant-loop-name
invariant-loop-name l =
    ordinary_names (seen_world l.heap l.world) (numbers l.names) ≡ numbers l.found ++ ordinary_names (seen_world l.heap l.world) (numbers (drop l.name-index l.names))
