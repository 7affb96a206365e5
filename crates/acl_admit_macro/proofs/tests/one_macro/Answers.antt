-- The macro of the tests.
use Rattle.acl_admit_macro.proofs.TestLemmas.{one_stands}
use Rattle.acl_admit_macro.proofs.tests.one_macro.Goals as goal

pub returns-clause-stand : goal.returns-clause-stand
returns-clause-stand c = λ w. one_stands c.args._heap.now (record { 0 = c.args.body }) w
