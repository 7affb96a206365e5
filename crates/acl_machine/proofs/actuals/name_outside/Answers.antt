use Rattle.std.proofs.Common.{◌<◌, subst}
use Rattle.acl_machine.proofs.ActualLemmas.{outer_found, outer_passed}
use Rattle.acl_machine.proofs.actuals.name_outside.Goals as goal

pub returns-in-Some : goal.returns-in-Some
returns-in-Some c =
    outer_found c.args.formals.now c.args.actuals.now c.args.name c.loop-k.k _ _ c.outside_at.result c.in-Some.outside (subst (λ n. c.loop-k.k < n) c.min-n.ensures c.loop-k-test.true) c.outside_at.ensures c.in-Some.is c.loop-k.invariant

pub loop-k-preserved : goal.loop-k-preserved
loop-k-preserved c =
    outer_passed c.args.formals.now c.args.actuals.now c.args.name c.loop-k.k _ _ c.outside_at.result (subst (λ n. c.loop-k.k < n) c.min-n.ensures c.loop-k-test.true) c.outside_at.ensures c.in-None.is c.loop-k.invariant
