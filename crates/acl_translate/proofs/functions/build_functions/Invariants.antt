use Rattle.std.specs.Prelude.{drop}
use Rattle.acl_worlds.specs.Contents.{seen_world}
use Rattle.acl_translate.proofs.FunctionLemmas.{FunctionsSoFar}
use Rattle.acl_translate.proofs.functions.build_functions.Given as goal

abbrev pub invariant-loop-member : goal.invariant-loop-member
invariant-loop-member l = FunctionsSoFar l.heap (seen_world l.heap l.world) l.fn.terms l.terms l.members (drop l.member-index l.members) l.found
