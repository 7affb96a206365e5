use Rattle.std.proofs.Common.{sym, ◌∙◌}
use Rattle.acl_heap.specs.Objects.{object_of}
use Rattle.acl_declare.specs.Said.{seen_declared}
use Rattle.acl_declare.proofs.ItemLemmas.{item_bad, item_headed}
use Rattle.acl_declare.proofs.whole.add_item.Goals as goal

pub returns-then-not-is_true_list-clause-is : goal.returns-then-not-is_true_list-clause-is
returns-then-not-is_true_list-clause-is c =
    item_bad c.args.syms.now.symbols c.args.table.now (seen_declared c.args.heap.now c.args.said.now) (object_of c.args.heap.now c.args.item)
    (sym c.is_true_list.ensures ∙ c.if-not-is_true_list.true)

pub returns-in-Ok-clause-is : goal.returns-in-Ok-clause-is
returns-in-Ok-clause-is c =
    item_headed c.args.syms.now.symbols c.args.table.now (seen_declared c.args.heap.now c.args.said.now) (object_of c.args.heap.now c.args.item) _ _ _
    (sym c.is_true_list.ensures ∙ c.if-not-is_true_list.false) c.in-Pair.ensures.sees.0 c.in-Ok.ensures.is
