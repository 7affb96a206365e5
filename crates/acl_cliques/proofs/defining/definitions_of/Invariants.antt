use Rattle.std.specs.Prelude.{length}
use Rattle.std.proofs.Common.{◌≡◌}
use Rattle.std.specs.Vec.Iter.{into_iter_items, into_iter_len}
use Rattle.acl_outputs.specs.Known.{seen_known}
use Rattle.acl_cliques.proofs.DefineLemmas.{SoFar}
use Rattle.acl_cliques.proofs.defining.definitions_of.Given as goal

abbrev pub invariant-members : goal.invariant-members
invariant-members l =
    SoFar l.heap (seen_known l.known) l.fn.members.items l.executable l.terms l.n (into_iter_items l.member-iterator) l.definitions.items
    × (into_iter_len l.member-iterator ≡ length (into_iter_items l.member-iterator))
