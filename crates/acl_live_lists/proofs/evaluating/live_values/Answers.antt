use Rattle.std.proofs.Common.{◌≡◌, ◌<◌, [], ◌∷◌, ◌++◌, length, rules}
use Rattle.acl_terms.specs.declared.outcome.Shown.TheVariants as shown
use Rattle.acl_live_lists.proofs.ObjectLemmas.{objects_more}
use Rattle.acl_live_lists.proofs.evaluating.live_values.Goals as goal

pub loop-done-preserved : goal.loop-done-preserved
loop-done-preserved c =
    let there : c.loop-done.done < length c.args.bindings.now = search rules in
    let one : c.push.new.self ≡ c.loop-done.values ++ shown.Object c.binding_before-binding.result.variable ∷ [] = search rules in
    objects_more c.loop-done.values c.push.new.self c.args.bindings.now c.loop-done.done c.binding_before-binding.result there c.binding_before-binding.ensures one c.loop-done.invariant
