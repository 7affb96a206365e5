use Rattle.std.specs.Prelude.{◌≡◌, ◌≤◌}
use Rattle.std.proofs.Common.{ap, sym, ◌∙◌, arith, subst}
use Rattle.model_objects.specs.Object.{Pair, weight, list_onto}
use Rattle.model_prims.specs.Kinds.{by_number}
use Rattle.model_prims.specs.Lists.{updated}
use Rattle.acl_heap.specs.Objects.{object_of}
use Rattle.acl_prims.specs.Made.{Holds, objects_of}
use Rattle.acl_prims.proofs.Weights.{refused_part}
use Rattle.acl_prims.proofs.Fronts.{updated-first, objects_of-later, list_onto_weight}
use Rattle.acl_prims.proofs.making.updated.Goals as goal

pub returns-in-Ok-clause-made : goal.returns-in-Ok-clause-made
returns-in-Ok-clause-made c =
    let h = c.args.heap.now in
    let value = object_of h c.args.value in
    let rest = object_of h c.loop-left.rest in
    let front = objects_of h c.loop-left.front.items in
    let none : 0 ≡ c.loop-left.left = omega arith in
    subst (λ o. Holds c.onto.new.heap o c.onto.result)
    (ap (λ os. list_onto os (object_of c.cons.new.self c.in-Ok.end)) (objects_of-later h c.cons.new.self c.loop-left.front.items c.in-Ok.ensures.grows c.loop-left.invariant.front)
    ∙ (ap (list_onto front) c.in-Ok.ensures.ok.is
    ∙ (ap (λ o. list_onto front (Pair value o)) c.cdr-after.ensures.is
    ∙ (ap (list_onto front) (sym (updated-first value rest))
    ∙ (ap (λ n. list_onto front (updated by_number n value rest)) none
    ∙ c.loop-left.invariant.same)))))
    c.onto.ensures.made

pub returns-in-Err-clause-made : goal.returns-in-Err-clause-made
returns-in-Err-clause-made c =
    let h = c.args.heap.now in
    let value = object_of h c.args.value in
    let rest = object_of h c.loop-left.rest in
    let front = objects_of h c.loop-left.front.items in
    let none : 0 ≡ c.loop-left.left = omega arith in
    let pair = Pair value (object_of h c.cdr-after.result) in
    let whole = updated by_number c.args.number value (object_of h c.args.list) in
    refused_part c.cons.new.self whole pair c.in-Err.fault c.in-Err.ensures.fault
    (subst (λ o. weight pair ≤ weight o)
    (ap (λ o. list_onto front (Pair value o)) c.cdr-after.ensures.is
    ∙ (ap (list_onto front) (sym (updated-first value rest))
    ∙ (ap (λ n. list_onto front (updated by_number n value rest)) none
    ∙ c.loop-left.invariant.same)))
    (list_onto_weight front pair))
