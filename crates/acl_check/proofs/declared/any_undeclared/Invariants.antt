use Rattle.std.specs.List.{list_any}
use Rattle.std.proofs.Common.{◌≡◌, drop}
use Rattle.acl_terms.specs.Forms.{numbers}
use Rattle.acl_worlds.specs.Contents.{seen_world}
use Rattle.acl_check.specs.Members.{is_undeclared}
use Rattle.acl_check.proofs.declared.any_undeclared.Given as goal

abbrev pub invariant-loop-formal : goal.invariant-loop-formal
invariant-loop-formal l =
    list_any (is_undeclared (seen_world l.heap l.world) (numbers l.stobjs)) (numbers l.formals)
    ≡ list_any (is_undeclared (seen_world l.heap l.world) (numbers l.stobjs)) (numbers (drop l.formal-index l.formals))
