use Rattle.std.specs.List.{list_any}
use Rattle.std.proofs.Common.{◌≡◌, drop}
use Rattle.model_terms.specs.Classes.{is_stobj_name}
use Rattle.acl_terms.specs.Forms.{numbers}
use Rattle.acl_worlds.specs.Contents.{seen_world}
use Rattle.acl_thread.proofs.parts.any_stobj.Given as goal

abbrev pub invariant-loop-name : goal.invariant-loop-name
invariant-loop-name l =
    list_any (is_stobj_name (seen_world l.heap l.world)) (numbers l.names) ≡ list_any (is_stobj_name (seen_world l.heap l.world)) (numbers (drop l.name-index l.names))
