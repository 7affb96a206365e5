use Rattle.acl_object_turns.proofs.TwinLemmas.{same_by}
use Rattle.acl_object_turns.proofs.twins.same_indices.Goals as goal

pub returns-in_ok-same-in-Some-j : goal.returns-in_ok-same-in-Some-j
returns-in_ok-same-in-Some-j c = same_by c.args.heap.now c.args.i c.args.j c.in-Some.x c.in-Some-j.y c.in_ok-same-in-Some-j.same c.in-Some.is c.in-Some-j.is c.in_ok-same-in-Some-j.ensures
