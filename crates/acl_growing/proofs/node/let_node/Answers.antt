use Rattle.std.specs.Prelude.{◌≡◌, [], ◌∷◌}
use Rattle.std.proofs.Common.{rules, sym, ap, ◌∙◌}
use Rattle.acl_growing.proofs.DividedLemmas.{left_are}
use Rattle.acl_growing.proofs.LetLemmas.{let_node, let_lies}
use Rattle.acl_growing.proofs.node.let_node.Goals as goal

pub one-body-requires : goal.one-body-requires
one-body-requires c = left_are c.args.names c.args.parts.items c.in_ok-bindings.left.items 1 (rw c.as_slice.ensures at c.in_ok-bindings.ensures.left) c.requires.count

pub returns : goal.returns
returns c =
    let named = rw c.as_slice.ensures at c.in_ok-bindings.ensures.named in
    let left = rw c.as_slice.ensures at c.in_ok-bindings.ensures.left in
    let same : c.in_ok-body.body ≡ c.one-body.result = search rules in
    let only : c.in_ok-bindings.left.items ≡ c.in_ok-body.body ∷ [] = c.one-body.ensures ∙ ap (λ x. x ∷ []) (sym same) in (
      let_node c.args.heap.now c.args.names c.args.parts.items c.in_ok-bindings.bindings c.in_ok-bindings.left.items named left c.in_ok-body.body only c.requires.count,
      let_lies c.args.heap.now c.args.names c.args.parts.items c.in_ok-bindings.bindings c.in_ok-bindings.left.items named left c.in_ok-body.body only c.requires.lie,
    )
