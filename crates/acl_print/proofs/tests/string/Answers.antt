use Rattle.acl_forms.specs.Growth.{Grown-heap}
use Rattle.acl_print.proofs.tests.string.Goals as goal

pub returns-clause-grows : goal.returns-clause-grows
returns-clause-grows c = Grown-heap c.string.ensures.grows
