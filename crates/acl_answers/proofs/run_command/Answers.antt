use Rattle.acl_forms.specs.Growth.{Grown-symbols}
use Rattle.acl_answers.proofs.run_command.Goals as goal

pub returns-in_err-answer-in-Define-clause-grows : goal.returns-in_err-answer-in-Define-clause-grows
returns-in_err-answer-in-Define-clause-grows c = Grown-symbols c.in_err-answer-in-Define.ensures.grows

pub returns-in_ok-answer-in-Define-clause-grows : goal.returns-in_ok-answer-in-Define-clause-grows
returns-in_ok-answer-in-Define-clause-grows c = Grown-symbols c.in_ok-answer-in-Define.ensures.grows
