use Rattle.acl_actuals.proofs.values.take_last.Goals as goal

pub returns-in_ok-fits-in-None-rest-2-clause-puts : goal.returns-in_ok-fits-in-None-rest-2-clause-puts
returns-in_ok-fits-in-None-rest-2-clause-puts c = rw (c.in-Some.is, c.in-None-rest-2.is) (rw c.as_slice.ensures at c.in_ok-fits-in-None-rest-2.ensures.puts)

pub returns-in_ok-fits-in-Some-rest-2-clause-puts : goal.returns-in_ok-fits-in-Some-rest-2-clause-puts
returns-in_ok-fits-in-Some-rest-2-clause-puts c = rw (c.in-Some.is, c.in-Some-rest-2.is) (rw c.as_slice-in-Some-rest-2.ensures at c.in_ok-fits-in-Some-rest-2.ensures.puts)
