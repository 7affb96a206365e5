use Rattle.acl_worlds.specs.Contents.{seen_world}
use Rattle.acl_translate.proofs.FunctionLemmas.{functions_step, member_known}
use Rattle.acl_translate.proofs.functions.build_functions.Goals as goal

pub loop-member-preserved : goal.loop-member-preserved
loop-member-preserved c =
    functions_step c.args.heap.now (seen_world c.args.heap.now c.args.world.now) c.args.terms.now c.loop-member.terms c.build_function.new.terms c.args.members.now
    c.loop-member.member-index c.loop-member.found _ _ c.loop-member.invariant c.loop-member-test.true c.member-item.is c.in_ok-function.ensures.built
    c.push.new.self c.in_ok-function.ensures.grows c.in_ok-function.ensures.words c.in_ok-function.ensures.known c.in_ok-push.ensures.ok

pub returns-in_err-function-clause-known : goal.returns-in_err-function-clause-known
returns-in_err-function-clause-known c = λ n b k o.
    c.in_err-function.ensures.known n b (member_known n c.args.heap.now c.args.members.now c.loop-member.member-index c.member-item.result c.loop-member-test.true c.member-item.is k)
    (c.loop-member.invariant.known n b k o)

pub returns-in_err-push-clause-known : goal.returns-in_err-push-clause-known
returns-in_err-push-clause-known c = λ n b k o.
    c.in_ok-function.ensures.known n b (member_known n c.args.heap.now c.args.members.now c.loop-member.member-index c.member-item.result c.loop-member-test.true c.member-item.is k)
    (c.loop-member.invariant.known n b k o)

pub returns-clause-known : goal.returns-clause-known
returns-clause-known c = c.loop-member.invariant.known
