use Rattle.std.proofs.Common.{◌≡◌, ◌++◌, drop, map}
use Rattle.model_terms.specs.Rounds.{formal_kind}
use Rattle.acl_terms.specs.Forms.{numbers}
use Rattle.acl_terms.specs.Signatures.{seen_outs}
use Rattle.acl_worlds.specs.Contents.{seen_world}
use Rattle.acl_check.proofs.member.formal_kinds.Given as goal

abbrev pub invariant-loop-formal : goal.invariant-loop-formal
invariant-loop-formal l =
    map (formal_kind (seen_world l.heap l.world) (numbers l.stobjs)) (numbers l.formals)
    ≡ seen_outs l.kinds ++ map (formal_kind (seen_world l.heap l.world) (numbers l.stobjs)) (numbers (drop l.formal-index l.formals))
