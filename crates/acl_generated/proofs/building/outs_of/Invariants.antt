use Rattle.std.specs.Prelude.{◌≡◌, ◌++◌, map, length}
use Rattle.acl_terms.specs.Signatures.{seen_out}
use Rattle.acl_generated.specs.Tasks.{seen_slot}
use Rattle.acl_generated.proofs.building.outs_of.Given as goal

abbrev pub invariant-slots : goal.invariant-slots
invariant-slots l = map seen_out l.outs ++ map (seen_slot l.stobj.0 l.held.0) l.rest ≡ map (seen_slot l.stobj.0 l.held.0) l.slots

abbrev pub decreases-slots : goal.decreases-slots
decreases-slots l = length l.rest
