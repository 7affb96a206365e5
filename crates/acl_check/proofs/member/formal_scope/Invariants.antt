use Rattle.std.proofs.Common.{◌≡◌, ◌++◌, drop, map}
use Rattle.model_terms.specs.Rounds.{formal_entry}
use Rattle.acl_terms.specs.Forms.{numbers}
use Rattle.acl_terms.specs.Signatures.{seen_scope}
use Rattle.acl_worlds.specs.Contents.{seen_world}
use Rattle.acl_check.proofs.member.formal_scope.Given as goal

abbrev pub invariant-loop-formal : goal.invariant-loop-formal
invariant-loop-formal l =
    map (formal_entry (seen_world l.heap l.world) (numbers l.stobjs)) (numbers l.formals)
    ≡ seen_scope l.scope ++ map (formal_entry (seen_world l.heap l.world) (numbers l.stobjs)) (numbers (drop l.formal-index l.formals))
