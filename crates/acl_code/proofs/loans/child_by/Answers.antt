use Rattle.std.proofs.Common.{sym}
use Rattle.acl_terms.specs.Forms.{numbers}
use Rattle.acl_worlds.specs.Contents.{seen_world}
use Rattle.acl_code.specs.Environments.{seen_environment}
use Rattle.acl_code.proofs.ChildLemmas.{reached_other}
use Rattle.acl_code.proofs.loans.child_by.Goals as goal

pub returns-clause-is : goal.returns-clause-is
returns-clause-is c =
    sym (reached_other (seen_world c.args.heap.now c.args.world.now) (seen_environment c.args.environment.now) (numbers c.args.vars.now) c.args.name.0 c.args.heap.now
    c.args.accessor.0 c.args.actuals.now c.if-actuals-eq1.false c.if-actuals-eq2.false)
