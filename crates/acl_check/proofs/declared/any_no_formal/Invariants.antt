use Rattle.std.specs.List.{list_any}
use Rattle.std.proofs.Common.{◌≡◌, drop}
use Rattle.acl_terms.specs.Forms.{numbers}
use Rattle.acl_worlds.specs.Contents.{seen_world}
use Rattle.acl_check.specs.Members.{is_no_formal}
use Rattle.acl_check.proofs.declared.any_no_formal.Given as goal

abbrev pub invariant-loop-name : goal.invariant-loop-name
invariant-loop-name l =
    list_any (is_no_formal (seen_world l.heap l.world) (numbers l.formals)) (numbers l.stobjs)
    ≡ list_any (is_no_formal (seen_world l.heap l.world) (numbers l.formals)) (numbers (drop l.name-index l.stobjs))
