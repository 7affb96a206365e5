use Rattle.std.proofs.Common.{◌≡◌, suc, ◌+◌, ◌-◌, [], ◌∷◌, ◌++◌, drop, Some, refl, rules, arith, subst, ap, ◌∙◌}
use Rattle.model_eval.specs.Variables.{inner_stobjs}
use Rattle.acl_terms.specs.Forms.{numbers}
use Rattle.acl_keep.specs.Seen.{all_seen}
use Rattle.acl_list_scope.specs.declared.binding.Binding.{Binding}
use Rattle.acl_list_scope.specs.Scopes.{scope, IsOver}
use Rattle.acl_list_scope.proofs.CallLemmas.{over_plain, over_object}
use Rattle.acl_list_scope.proofs.scope.handed_over.Goals as goal
use Rattle.acl_list_scope.proofs.scope.handed_over.Goals.{in-Value, in-Object+in_ok-push-in-Object}

pub loop-done-preserved : goal.loop-done-preserved
loop-done-preserved c =
    let at : c.shorter-count.result - 1 - c.loop-done.done ≡ c.shorter-count.result - (c.loop-done.done + 1) = omega arith in
    let from : c.shorter-count.result - c.loop-done.done ≡ suc (c.shorter-count.result - 1 - c.loop-done.done) = omega (arith, c.loop-done-test.true) in
    elim c.match-actual_at.branch [
      | in-Value w ↦
          rw w.made-is (subst (IsOver c.args.bindings.now c.args.formals.now c.args.actuals.now c.loop-done.made.items) at
          (over_plain c.args.bindings.now c.loop-done.made.items c.args.formals.now c.args.actuals.now _ _ _ _ from c.formal_at-formal.ensures (c.actual_at.ensures ∙ ap Some w.in-Value.is) c.loop-done.invariant))
      | in-Object+in_ok-push-in-Object w ↦
          let b : Binding = record { variable = c.formal_at-formal.result; list = w.list_of-list.result } in
          let m : w.push.new.self.items ≡ c.loop-done.made.items ++ b ∷ [] = search rules in
          rw w.made-is (subst (IsOver c.args.bindings.now c.args.formals.now c.args.actuals.now w.push.new.self.items) at
          (over_object c.args.bindings.now c.loop-done.made.items w.push.new.self.items c.args.formals.now c.args.actuals.now _ _ _ _ b from c.formal_at-formal.ensures (c.actual_at.ensures ∙ ap Some w.in-Object.is)
          refl w.list_of-list.ensures.is w.list_of-list.ensures.within m c.loop-done.invariant))
    ]

pub returns-clause-is : goal.returns-clause-is
returns-clause-is c cs h =
    let z : c.shorter-count.result - c.loop-done.done ≡ 0 = omega (arith, c.loop-done-test.false) in
    c.loop-done.invariant.is cs h ∙ ap (λ k. inner_stobjs (numbers (drop k c.args.formals.now)) (all_seen h (drop k c.args.actuals.now)) (scope cs c.args.bindings.now)) z
