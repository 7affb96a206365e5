use Rattle.std.specs.Prelude.{◌++◌, ◌≡◌, false}
use Rattle.std.proofs.Common.{ap, sym, ◌∙◌, arith}
use Rattle.acl_heap.specs.Objects.{object_of}
use Rattle.model_prims.specs.Kinds.{by_number}
use Rattle.model_prims.specs.Lists.{is_member}
use Rattle.acl_prims.specs.Made.{objects_of, lacking}
use Rattle.acl_prims.proofs.Fronts.{pushed_lie, pushed_objects, lacking_kept}
use Rattle.acl_prims.proofs.making.lacking.Goals as goal

pub loop-first-preserved-in_ok-push : goal.loop-first-preserved-in_ok-push
loop-first-preserved-in_ok-push c =
    let h = c.args.heap.now in
    let other = object_of h c.args.other in
    let absent : is_member by_number (object_of h c.in-Pair.first) other ≡ false = grind arith in
    record {
      rest = c.in-Pair.ensures.sees.2;
      front = pushed_lie h c.loop-first.front.items c.push.new.self.items c.in-Pair.first c.in_ok-push.ensures.items c.loop-first.invariant.front c.in-Pair.ensures.sees.1;
      same = pushed_objects h c.loop-first.front.items c.push.new.self.items c.in-Pair.first (lacking (object_of h c.in-Pair.next) other) (lacking (object_of h c.args.list) other) c.in_ok-push.ensures.items
          (ap (λ os. objects_of h c.loop-first.front.items ++ os) (sym (lacking_kept (object_of h c.in-Pair.first) (object_of h c.in-Pair.next) other absent))
          ∙ (ap (λ o. objects_of h c.loop-first.front.items ++ lacking o other) (sym c.in-Pair.ensures.sees.0) ∙ c.loop-first.invariant.same));
    }
