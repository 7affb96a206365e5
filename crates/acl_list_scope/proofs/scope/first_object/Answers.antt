use Rattle.std.proofs.Common.{◌≡◌, suc, ◌+◌, length, drop, Some, arith, sym, ap, ◌∙◌}
use Rattle.model_eval.specs.Variables.{first_stobj}
use Rattle.acl_keep.specs.Seen.{all_seen}
use Rattle.acl_list_scope.proofs.CallLemmas.{first_none, first_more, first_here}
use Rattle.acl_list_scope.proofs.scope.first_object.Goals as goal

pub returns-in-Object : goal.returns-in-Object
returns-in-Object c h = sym (first_here h c.args.actuals.now _ c.in-Object.variable (c.actual_at.ensures ∙ ap Some c.in-Object.is)) ∙ c.loop-i.invariant h

pub loop-i-preserved : goal.loop-i-preserved
loop-i-preserved c h =
    let e : c.loop-i.i + 1 ≡ suc c.loop-i.i = omega arith in
    ap (λ k. first_stobj (all_seen h (drop k c.args.actuals.now))) e
    ∙ (sym (first_more h c.args.actuals.now c.loop-i.i c.in-Value.field-0 (c.actual_at.ensures ∙ ap Some c.in-Value.is)) ∙ c.loop-i.invariant h)

pub returns : goal.returns
returns c h =
    let e : length c.args.actuals.now ≡ c.loop-i.i = omega (arith, c.loop-i-test.false, c.loop-i.auto.i-end) in
    sym (first_none h c.args.actuals.now) ∙ (ap (λ k. first_stobj (all_seen h (drop k c.args.actuals.now))) e ∙ c.loop-i.invariant h)
