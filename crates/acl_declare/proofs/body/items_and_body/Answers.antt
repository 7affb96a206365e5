use Rattle.std.proofs.Common.{sym, ◌∙◌}
use Rattle.acl_declare.specs.Said.{words_at}
use Rattle.acl_declare.proofs.BodyLemmas.{body_more}
use Rattle.acl_declare.proofs.body.items_and_body.Goals as goal

pub forms-preserved : goal.forms-preserved
forms-preserved c =
    let added = c.in_ok-add_items.ensures in
    record {
      lies = c.in-Pair.ensures.sees.2;
      reach = added.reach;
      same = c.forms.invariant.same ∙ body_more (words_at c.args.heap.now c.forms.items) (words_at c.args.heap.now c.add_items.new.items)
          c.in_ok-add_items.field-0 _ _ _ c.in-Pair.ensures.sees.0 (sym c.is_pair.ensures ∙ c.if-not-is_pair.false) added.is c.if-not-branch.false;
    }
