use Rattle.acl_translate.proofs.functions.build_function.Goals as goal

pub returns-in_err-guard-clause-known : goal.returns-in_err-guard-clause-known
returns-in_err-guard-clause-known c = λ n b k o. c.in_err-guard.ensures.known n b k.guard o

pub returns-in_err-body-clause-known : goal.returns-in_err-body-clause-known
returns-in_err-body-clause-known c = λ n b k o. c.in_err-body.ensures.known n b k.body (c.in_ok-guard.ensures.known n b k.guard o)

pub returns-clause-known : goal.returns-clause-known
returns-clause-known c = λ n b k o. c.in_ok-body.ensures.known n b k.body (c.in_ok-guard.ensures.known n b k.guard o)
