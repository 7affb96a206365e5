use Rattle.acl_forms.specs.Growth.{Grown-heap}
use Rattle.acl_exec_turns.proofs.exporting.exec_run.Goals as goal

pub returns-in-Generated-clause-grows : goal.returns-in-Generated-clause-grows
returns-in-Generated-clause-grows g c = Grown-heap c.exec_generated.ensures.grows
