use Rattle.std.proofs.Common.{rules, ◌≡◌, ◌∷◌, length, ◌∙◌}
use Rattle.acl_heap.specs.Growth.{Extends-then}
use Rattle.acl_drafts.specs.Drafts.{seen_drafts}
use Rattle.acl_drafts.proofs.RefusalLemmas.{others_lie}
use Rattle.acl_drafts.proofs.DraftLemmas.{right_more, right_wrong, right_end, drafts_more, drafts_end, no_functions}
use Rattle.acl_drafts.proofs.drafts.drafts_of.Goals as goal

pub functions-preserved : goal.functions-preserved
functions-preserved c =
    let added = c.in-Ok.ensures in
    let e : c.functions.rest.now ≡ c.in-Some.function.now ∷ c.in-Some.others.now = search rules in
    record {
      grows = Extends-then c.functions.invariant.grows added.grows;
      lies = others_lie c.in-Some.function.now c.functions.rest.now c.in-Some.others.now (length c.args.heap.now) e c.functions.invariant.lies;
      reach = added.reach;
      right = c.functions.invariant.right ∙ right_more c.args.syms.now.symbols c.functions.invariant.grows c.in-Some.function.now c.functions.rest.now c.in-Some.others.now e c.functions.invariant.lies
          (seen_drafts c.functions.heap c.functions.drafts) (seen_drafts c.add_draft.new.heap c.add_draft.new.drafts) c.in-Ok.added added.is c.if-not-added.false;
      same = c.functions.invariant.same ∙ drafts_more c.args.syms.now.symbols c.functions.invariant.grows c.in-Some.function.now c.functions.rest.now c.in-Some.others.now e c.functions.invariant.lies
          (seen_drafts c.functions.heap c.functions.drafts) (seen_drafts c.add_draft.new.heap c.add_draft.new.drafts) c.in-Ok.added added.is c.if-not-added.false;
    }

pub returns-then-not-added-clause-err : goal.returns-then-not-added-clause-err
returns-then-not-added-clause-err c =
    let added = c.in-Ok.ensures in
    let e : c.functions.rest.now ≡ c.in-Some.function.now ∷ c.in-Some.others.now = search rules in
    c.functions.invariant.right ∙ right_wrong c.args.syms.now.symbols c.functions.invariant.grows c.in-Some.function.now c.functions.rest.now c.in-Some.others.now e c.functions.invariant.lies
    (seen_drafts c.functions.heap c.functions.drafts) (seen_drafts c.add_draft.new.heap c.add_draft.new.drafts) c.in-Ok.added c.symbol_or_nil-name.result.0 added.is c.if-not-added.true c.symbol_or_nil-name.ensures

pub returns-clause-ok : goal.returns-clause-ok
returns-clause-ok c =
    let none = no_functions c.functions.rest.now c.in_default.ensures.cases in
    record {
      right = c.functions.invariant.right ∙ right_end c.args.syms.now.symbols c.args.heap.now c.functions.rest.now none;
      drafts = c.functions.invariant.same ∙ drafts_end c.args.syms.now.symbols c.args.heap.now (seen_drafts c.functions.heap c.functions.drafts) c.functions.rest.now none;
      lies = c.functions.invariant.reach;
    }
