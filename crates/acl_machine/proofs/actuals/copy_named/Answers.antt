use Rattle.std.proofs.Common.{rules, ◌≡◌, ◌+◌, ◌++◌, [], ◌∷◌, drop}
use Rattle.acl_machine.proofs.ActualLemmas.{copied_step}
use Rattle.acl_machine.proofs.actuals.copy_named.Goals as goal

pub loop-k-preserved : goal.loop-k-preserved
loop-k-preserved c =
    let place : c.in-Some.at ≡ c.args.base + c.loop-k.k = search rules in
    let more : c.push.new.self ≡ c.loop-k.room ++ c.next_named-value.result ∷ [] = search rules in
    copied_step c.args.values.now c.loop-k.room _ c.push.new.self c.args.base c.loop-k.k c.args.count c.in-Some.at (drop c.loop-k.used c.args.names.now) (drop c.next_named-value.new.used c.args.names.now) c.get.result c.next_named-value.result
    c.loop-k-test.true place c.get.ensures c.next_named-value.ensures more c.loop-k.invariant
