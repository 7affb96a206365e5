use Rattle.std.proofs.Common.{sym}
use Rattle.acl_nest.proofs.BindingLemmas.{reached_other}
use Rattle.acl_nest.proofs.bindings.reached_by.Goals as goal

pub returns : goal.returns
returns c = sym (reached_other c.args.heap.now c.args.accessor.0 c.args.actuals.now c.if-actuals-eq1.false c.if-actuals-eq2.false)
