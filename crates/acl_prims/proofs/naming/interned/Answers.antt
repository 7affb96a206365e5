use Rattle.acl_prims.proofs.Names.{interned_there}
use Rattle.acl_prims.proofs.naming.interned.Goals as goal

pub returns-in-Ok-clause-answer : goal.returns-in-Ok-clause-answer
returns-in-Ok-clause-answer c =
    interned_there c.args._heap.now c.args.syms.now c.intern_in.new.self c.args.name.now c.args.s.0 c.package-home.result.0 c.in-Ok.symbol c.package-home.ensures.known c.in-Ok.ensures.ok c.is_table.ensures.distinct
