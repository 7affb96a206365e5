use Rattle.std.specs.Prelude.{◌≡◌, [], ◌∷◌, ◌++◌}
use Rattle.std.proofs.Common.{ap, arith, rules, subst}
use Rattle.acl_hash.specs.Making.{IsPart, left_weight}
use Rattle.acl_hash.proofs.MakeLemmas.{part_begins, part_lies, part_goes_on, part_shrinks, part_ends, part_is_key}
use Rattle.acl_heap.specs.Objects.{object_of}
use Rattle.acl_hash.proofs.key.Key.make.Goals as goal

pub loop-next-init : goal.loop-next-init
loop-next-init c = part_begins c.new-bytes.ensures.items c.new-left.ensures.items c.in_ok-put_item.ensures

pub put_item-requires-in-Some : goal.put_item-requires-in-Some
put_item-requires-in-Some c = let p = rw c.in-Some.ensures.items at c.loop-next.invariant in part_lies _ _ p

pub loop-next-smaller : goal.loop-next-smaller
loop-next-smaller c =
    let h = c.args.heap.now in
    let e : left_weight h c.loop-next.left.items ≡ left_weight h (c.pop.new.self.items ++ c.in-Some.next ∷ []) = ap (left_weight h) c.in-Some.ensures.items in
    omega (arith, e, part_shrinks c.pop.new.self.items c.in-Some.next (c.in_ok-put_item-2.ensures))

pub loop-next-preserved : goal.loop-next-preserved
loop-next-preserved c =
    let p = rw c.in-Some.ensures.items at c.loop-next.invariant in
    part_goes_on c.pop.new.self.items c.in-Some.next p (c.in_ok-put_item-2.ensures)

pub invariant_of-result : goal.invariant_of-result
invariant_of-result c = part_is_key (subst (IsPart c.args.heap.now (object_of c.args.heap.now c.args.w) c.loop-next.bytes.items) (search rules) c.loop-next.invariant)

pub returns : goal.returns
returns c = part_ends (subst (IsPart c.args.heap.now (object_of c.args.heap.now c.args.w) c.loop-next.bytes.items) (search rules) c.loop-next.invariant)
