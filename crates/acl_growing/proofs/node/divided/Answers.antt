use Rattle.std.specs.Prelude.{◌≡◌, [], drop}
use Rattle.std.proofs.Common.{sym, ◌∙◌}
use Rattle.std.specs.Vec.Iter.{into_iter_items}
use Rattle.acl_growing.proofs.DividedLemmas.{named_end, left_end, none_left}
use Rattle.acl_growing.proofs.node.divided.Goals as goal

pub returns-clause-named : goal.returns-clause-named
returns-clause-named c =
    let past : into_iter_items c.parts.part-iterator ≡ [] = none_left (into_iter_items c.parts.part-iterator) (sym c.parts.invariant.3 ∙ c.in-None.ensures.steps.0) in
    sym (c.parts.invariant.1 ∙ rw past (named_end (drop c.parts.i c.args.names.now) c.parts.bindings))

pub returns-clause-left : goal.returns-clause-left
returns-clause-left c =
    let past : into_iter_items c.parts.part-iterator ≡ [] = none_left (into_iter_items c.parts.part-iterator) (sym c.parts.invariant.3 ∙ c.in-None.ensures.steps.0) in
    sym (c.parts.invariant.2 ∙ rw past (left_end (drop c.parts.i c.args.names.now) c.parts.left.items))
