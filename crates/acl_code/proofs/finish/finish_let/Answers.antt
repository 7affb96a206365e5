use Rattle.acl_code.proofs.PartLemmas.{let_built}
use Rattle.acl_code.proofs.finish.finish_let.Goals as goal

pub returns-clause-is : goal.returns-clause-is
returns-clause-is c =
    let_built c.args.heap.now c.args.terms.now c.put_parts.new.terms c.put.new.terms c.args.at c.args.bound c.args.body _ _ c.in_ok-bound-in-Some-body.bound c.in_ok-t-in-Some-body.t
    c.in-Some.is c.in-Some-body.is c.requires.body c.in_ok-bound-in-Some-body.ensures.grows (rw c.as_slice.ensures at c.in_ok-bound-in-Some-body.ensures.are) c.in_ok-t-in-Some-body.ensures.is
