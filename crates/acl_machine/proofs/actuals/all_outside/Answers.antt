use Rattle.std.proofs.Common.{arith}
use Rattle.acl_machine.specs.Actuals.{outer_shown}
use Rattle.acl_machine.proofs.ActualLemmas.{changed_step}
use Rattle.acl_machine.proofs.actuals.all_outside.Goals as goal

pub loop-k-preserved : goal.loop-k-preserved
loop-k-preserved c = (
  omega (arith, c.loop-k.invariant.0),
  changed_step (outer_shown c.args.formals.now c.args.actuals.now) c.args.values.now c.loop-k.values c.replace.new.self c.loop-k.k c.get-value.result c.outside.result c.loop-k-test.true c.loop-k.invariant.0 c.loop-k.invariant.1 c.get-value.ensures c.outside.ensures c.replace.ensures,
)
