use Rattle.std.specs.Prelude.{◌++◌}
use Rattle.std.proofs.Common.{ap, sym, ◌∙◌}
use Rattle.acl_heap.specs.Objects.{object_of}
use Rattle.acl_prims.specs.Made.{objects_of, elements_of}
use Rattle.acl_prims.proofs.Fronts.{pushed_lie, pushed_objects}
use Rattle.acl_prims.proofs.making.elements.Goals as goal

pub loop-first-preserved : goal.loop-first-preserved
loop-first-preserved c =
    let h = c.args.heap.now in
    record {
      rest = c.in-Pair.ensures.sees.2;
      front = pushed_lie h c.loop-first.front.items c.push.new.self.items c.in-Pair.first c.in_ok-push.ensures.items c.loop-first.invariant.front c.in-Pair.ensures.sees.1;
      same = pushed_objects h c.loop-first.front.items c.push.new.self.items c.in-Pair.first (elements_of (object_of h c.in-Pair.next)) (elements_of (object_of h c.args.list)) c.in_ok-push.ensures.items
          (ap (λ o. objects_of h c.loop-first.front.items ++ elements_of o) (sym c.in-Pair.ensures.sees.0) ∙ c.loop-first.invariant.same);
    }
