use Rattle.std.specs.Prelude.{length}
use Rattle.acl_expand_rows.proofs.leaf.+value_of.Given as goal

abbrev pub decreases-value_of : goal.decreases-value_of
decreases-value_of l = length l.names.now
