use Rattle.std.proofs.Common.{rules}
use Rattle.acl_machine.proofs.GoLemmas.{is_over}
use Rattle.acl_machine.proofs.machine.Machine.is_over.Goals as goal

pub returns-clause-over : goal.returns-clause-over
returns-clause-over g c h = is_over g.K.Keeper.keeping _ _ (search rules) c.requires
