use Rattle.std.proofs.Common.{rules, ◌≡◌, ◌∷◌, length, ◌∙◌}
use Rattle.acl_heap.specs.Growth.{Extends-then}
use Rattle.acl_declare.specs.Said.{seen_declared}
use Rattle.acl_declare.proofs.ItemLemmas.{items_more, items_wrong, items_end, no_words, others_lie}
use Rattle.acl_declare.proofs.whole.add_items.Goals as goal

pub returns-then-not-branch-clause-is : goal.returns-then-not-branch-clause-is
returns-then-not-branch-clause-is c =
    let added = c.in_ok-add_item.ensures in
    let e : c.items.rest.now ≡ c.in-Some.item.now ∷ c.in-Some.others.now = search rules in
    c.items.invariant.same ∙ items_wrong c.args.syms.now.symbols c.args.table.now c.items.invariant.grows (seen_declared c.items.heap c.items.said)
    (seen_declared c.add_item.new.heap c.add_item.new.said) c.in_ok-add_item.field-0 c.in-Some.item.now c.items.rest.now c.in-Some.others.now c.items.invariant.lies e added.is c.if-not-branch.true

pub items-preserved : goal.items-preserved
items-preserved c =
    let added = c.in_ok-add_item.ensures in
    let e : c.items.rest.now ≡ c.in-Some.item.now ∷ c.in-Some.others.now = search rules in
    record {
      grows = Extends-then c.items.invariant.grows added.grows;
      lies = others_lie c.in-Some.item.now c.items.rest.now c.in-Some.others.now (length c.args.heap.now) e c.items.invariant.lies;
      reach = added.reach;
      same = c.items.invariant.same ∙ items_more c.args.syms.now.symbols c.args.table.now c.items.invariant.grows (seen_declared c.items.heap c.items.said)
          (seen_declared c.add_item.new.heap c.add_item.new.said) c.in_ok-add_item.field-0 c.in-Some.item.now c.items.rest.now c.in-Some.others.now c.items.invariant.lies e added.is c.if-not-branch.false;
    }

pub returns-clause-is : goal.returns-clause-is
returns-clause-is c =
    c.items.invariant.same ∙ items_end c.args.syms.now.symbols c.args.table.now (seen_declared c.items.heap c.items.said) c.args.heap.now c.items.rest.now (no_words c.items.rest.now c.in_default.ensures.cases)
