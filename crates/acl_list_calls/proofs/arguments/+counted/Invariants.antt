use Rattle.std.proofs.Common.{length}
use Rattle.acl_list_calls.proofs.arguments.+counted.Given as goal

abbrev pub decreases-argument : goal.decreases-argument
decreases-argument l = length l.values.now
