use Rattle.std.specs.Prelude.{◌≡◌, [], ◌∷◌}
use Rattle.std.proofs.Common.{rules, sym, ap, ◌∙◌}
use Rattle.acl_growing.proofs.DividedLemmas.{left_are}
use Rattle.acl_growing.proofs.LetLemmas.{stobj_let_node, stobj_let_lies}
use Rattle.acl_growing.proofs.node.stobj_let_node.Goals as goal

pub two-producer-requires : goal.two-producer-requires
two-producer-requires c = left_are c.args.names c.args.parts.items c.in_ok-bindings.left.items 2 (rw c.as_slice.ensures at c.in_ok-bindings.ensures.left) c.requires.count

pub returns : goal.returns
returns c =
    let named = rw c.as_slice.ensures at c.in_ok-bindings.ensures.named in
    let left = rw c.as_slice.ensures at c.in_ok-bindings.ensures.left in
    let first : c.in_ok-producer.producer ≡ c.two-producer.result.0 = search rules in
    let second : c.in_ok-consumer.consumer ≡ c.two-producer.result.1 = search rules in
    let both : c.in_ok-bindings.left.items ≡ c.in_ok-producer.producer ∷ (c.in_ok-consumer.consumer ∷ []) = c.two-producer.ensures ∙ (ap (λ x. x ∷ (c.two-producer.result.1 ∷ [])) (sym first) ∙ ap (λ x. c.in_ok-producer.producer ∷ (x ∷ [])) (sym second)) in (
      stobj_let_node c.args.heap.now c.args.names c.args.parts.items c.in_ok-bindings.bindings c.in_ok-bindings.left.items named left c.args.vars c.in_ok-producer.producer c.in_ok-consumer.consumer both c.requires.count,
      stobj_let_lies c.args.heap.now c.args.names c.args.parts.items c.in_ok-bindings.bindings c.in_ok-bindings.left.items named left c.args.vars c.in_ok-producer.producer c.in_ok-consumer.consumer both c.requires.lie,
    )
