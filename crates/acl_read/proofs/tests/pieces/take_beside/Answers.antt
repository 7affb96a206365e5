use Rattle.acl_read.proofs.LaterLemmas.{ready_later}
use Rattle.acl_read.proofs.tests.pieces.take_beside.Goals as goal

pub returns-clause-other : goal.returns-clause-other
returns-clause-other c = ready_later c.args.syms.now c.take.new.syms c.args.current c.args.other.now c.requires.other c.requires.package c.take.ensures.grows.table
