use Rattle.std.proofs.Common.{◌≡◌, suc, ◌+◌, Some, arith, subst, ap, ◌∙◌}
use Rattle.acl_list_scope.specs.Scopes.{IsBack}
use Rattle.acl_list_scope.proofs.CallLemmas.{back_plain, back_object, back_whole}
use Rattle.acl_list_scope.proofs.scope.hand_back.Goals as goal
use Rattle.acl_list_scope.proofs.scope.hand_back.Goals.{in-Value, in-Object}

pub loop-done-preserved : goal.loop-done-preserved
loop-done-preserved c =
    let e : suc c.loop-done.done ≡ c.loop-done.done + 1 = omega arith in
    elim c.match-actual_at.branch [
      | in-Value w ↦
          rw w.bindings-is (subst (IsBack c.args.bindings.now.items c.loop-done.bindings.items c.args.inner.now c.args.formals.now c.args.actuals.now) e
          (back_plain c.args.bindings.now.items c.loop-done.bindings.items c.args.inner.now c.args.formals.now c.args.actuals.now _ _ _ c.formal_at-formal.ensures (c.actual_at.ensures ∙ ap Some w.in-Value.is) c.loop-done.invariant))
      | in-Object w ↦
          rw w.bindings-is (subst (IsBack c.args.bindings.now.items w.write.new.bindings.items c.args.inner.now c.args.formals.now c.args.actuals.now) e
          (back_object c.args.bindings.now.items c.loop-done.bindings.items w.write.new.bindings.items c.args.inner.now c.args.formals.now c.args.actuals.now _ _ _ _ c.formal_at-formal.ensures (c.actual_at.ensures ∙ ap Some w.in-Object.is)
          w.list_of-list.ensures.is w.list_of-list.ensures.within w.write.ensures.is w.write.ensures.within c.loop-done.invariant))
    ]

pub returns-clause-is : goal.returns-clause-is
returns-clause-is c cs h =
    let z : c.loop-done.done ≡ c.shorter-count.result = omega (arith, c.loop-done-test.false, c.loop-done.auto.done-end) in
    back_whole c.args.bindings.now.items c.loop-done.bindings.items c.args.inner.now c.args.formals.now c.args.actuals.now _ cs h c.shorter-count.ensures
    (subst (IsBack c.args.bindings.now.items c.loop-done.bindings.items c.args.inner.now c.args.formals.now c.args.actuals.now) z c.loop-done.invariant)
