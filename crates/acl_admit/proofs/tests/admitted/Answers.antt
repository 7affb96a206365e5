-- What the function of a test calls.
use Rattle.acl_admit.proofs.tests.admitted.Goals as goal

pub admit_functions-requires-clause-stand : goal.admit_functions-requires-clause-stand
admit_functions-requires-clause-stand c = c.in_ok-members.ensures.stand _
