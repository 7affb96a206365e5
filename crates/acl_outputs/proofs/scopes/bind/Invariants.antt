use Rattle.std.specs.Prelude.{map, length, take}
use Rattle.std.proofs.Common.{◌≡◌, ◌≤◌, ◌++◌, drop}
use Rattle.model_terms.specs.Scopes.{entry}
use Rattle.acl_terms.specs.Forms.{numbers}
use Rattle.acl_terms.specs.Signatures.{seen_scope}
use Rattle.acl_worlds.specs.Contents.{seen_world}
use Rattle.acl_outputs.proofs.scopes.bind.Given as goal

abbrev pub invariant-loop-name : goal.invariant-loop-name
invariant-loop-name l =
    (seen_scope l.fn.scope ++ map (entry (seen_world l.heap l.world)) (numbers l.names) ≡ seen_scope l.scope ++ map (entry (seen_world l.heap l.world)) (numbers (drop l.name-index l.names)))
    × (length l.fn.scope ≤ length l.scope) × (take (length l.fn.scope) l.scope ≡ l.fn.scope)
