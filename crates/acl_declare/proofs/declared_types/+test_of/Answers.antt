use Rattle.std.proofs.Common.{arith, ◌<◌}
use Rattle.acl_heap.specs.Objects.{object_of, Lies}
use Rattle.acl_types.proofs.FormLemmas.{test_later}
use Rattle.acl_declare.proofs.DepthLemmas.{joined_made}
use Rattle.acl_declare.proofs.declared_types.+test_of.Goals as goal

pub returns-in-Ok-joined-clause-ok : goal.returns-in-Ok-joined-clause-ok
returns-in-Ok-joined-clause-ok t c =
    let first = c.in-Ok-test_of.ensures.ok in
    let second = c.in-Ok-test_of-2.ensures.ok in
    let kept = test_later c.test_of-in-Ok-test_of.ensures.grows c.in-Ok-test_of.first first.1 in
    let reach = rw c.in-Joined.is at c.requires.reach in
    let lies : Lies c.args.heap.now c.in-Joined.rest = omega (arith, reach) in
    let same = c.test_of-in-Joined.ensures.grows.same c.in-Joined.rest lies in
    rw c.in-Joined.is (
      joined_made c.args.left c.args.name.0 c.in-Joined.join (object_of c.args.heap.now c.in-Joined.a) _ _ _ _ _ _ _ _
          (omega arith) kept first.0 c.test_shape-shape-in-Joined.ensures.is second.0 c.list_shape-shape.ensures.is same c.in-Ok-joined.ensures.0,
      c.in-Ok-joined.ensures.1,
    )
