use Rattle.std.specs.Prelude.{option_map, drop}
use Rattle.std.specs.Option.{option_or}
use Rattle.std.proofs.Common.{◌≡◌}
use Rattle.model_terms.specs.Faults.{clique_fault}
use Rattle.acl_worlds.specs.Contents.{seen_world}
use Rattle.acl_thread.specs.Walks.{seen_fault}
use Rattle.acl_check.specs.Members.{seen_members}
use Rattle.acl_check.proofs.faults.clique_fault.Given as goal

abbrev pub invariant-loop-n : goal.invariant-loop-n
invariant-loop-n l =
    clique_fault (seen_world l.heap l.world) 0 (seen_members l.heap l.members)
    ≡ option_or (option_map seen_fault l.fault) (clique_fault (seen_world l.heap l.world) l.n (seen_members l.heap (drop l.n l.members)))
