-- What the function of a test calls.
use Rattle.std.specs.Prelude.{refl}
use Rattle.acl_admit.proofs.TestLemmas.{one_stands}
use Rattle.acl_admit.proofs.tests.one_function.Goals as goal

pub returns-clause-stand : goal.returns-clause-stand
returns-clause-stand c = one_stands c.args._heap.now c.push.new.self.items _ _ _ _ c.new-members.ensures.items c.in_ok-push.ensures.items refl refl
