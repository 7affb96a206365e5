use Rattle.acl_prims.proofs.Arguments.{whole_at, object_at, none_at}
use Rattle.acl_prims.proofs.argument.Goals as goal

pub returns-then-number-args-clause-lies : goal.returns-then-number-args-clause-lies
returns-then-number-args-clause-lies c = (whole_at c.args._syms.now c.args._heap.now c.args.args.now c.args.number _ c.requires.args c.if-number-args.true).lies

pub returns-then-number-args-clause-is : goal.returns-then-number-args-clause-is
returns-then-number-args-clause-is c = object_at c.args._heap.now c.args.args.now c.args.number _ c.if-number-args.true

pub returns-then-number-args-clause-known : goal.returns-then-number-args-clause-known
returns-then-number-args-clause-known c = (whole_at c.args._syms.now c.args._heap.now c.args.args.now c.args.number _ c.requires.args c.if-number-args.true).known

pub returns-else-number-args-clause-is : goal.returns-else-number-args-clause-is
returns-else-number-args-clause-is c = none_at c.args._heap.now c.args.args.now c.args.number c.if-number-args.false
