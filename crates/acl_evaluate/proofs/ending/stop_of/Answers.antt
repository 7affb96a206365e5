use Rattle.std.proofs.Common.{rules, ◌≡◌}
use Rattle.acl_evaluate.proofs.EndedLemmas.{guard_stop}
use Rattle.acl_evaluate.proofs.ending.stop_of.Goals as goal

pub returns-in_ok-args-in-Guard : goal.returns-in_ok-args-in-Guard
returns-in_ok-args-in-Guard c =
    let e : c.in_ok-args-in-Guard.args ≡ c.args.given.now = search rules in
    rw c.in-Guard.is (guard_stop c.args.given.now c.in-Guard.function c.in_ok-args-in-Guard.args e)
