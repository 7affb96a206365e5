use Rattle.std.proofs.Common.{◌≡◌, suc, ◌+◌, ◌-◌, [], ◌∷◌, ◌++◌, length, rules, arith, sym, subst}
use Rattle.acl_list_scope.proofs.LendLemmas.{LentSoFar, lent_start, lent_more, lent_whole, whole_index}
use Rattle.acl_list_scope.proofs.lending.all_lent.Goals as goal

pub loop-done-init : goal.loop-done-init
loop-done-init c =
    let z : length c.args.loans.now - 0 ≡ length c.args.loans.now = omega arith in
    subst (λ bs. LentSoFar c.args.lists.now c.args.heap.now c.args.bindings.now c.args.loans.now bs (length c.args.loans.now - 0)) (sym c.new-made.ensures.items)
    (lent_start c.args.lists.now c.args.heap.now c.args.bindings.now c.args.loans.now (length c.args.loans.now - 0) z)

pub index_in-requires : goal.index_in-requires
index_in-requires c = whole_index c.args.syms.now c.args.heap.now c.args.loans.now _ c.loan_at-loan.result c.loan_at-loan.ensures c.requires.whole

pub loop-done-preserved : goal.loop-done-preserved
loop-done-preserved c =
    let at : length c.args.loans.now - 1 - c.loop-done.done ≡ length c.args.loans.now - (c.loop-done.done + 1) = omega arith in
    let from : length c.args.loans.now - c.loop-done.done ≡ suc (length c.args.loans.now - 1 - c.loop-done.done) = omega (arith, c.loop-done-test.true) in
    let m : c.push.new.self.items ≡ c.loop-done.made.items ++ c.binding_of-binding.result ∷ [] = search rules in
    subst (LentSoFar c.args.lists.now c.args.heap.now c.args.bindings.now c.args.loans.now c.push.new.self.items) at
    (lent_more c.args.lists.now c.args.heap.now c.args.bindings.now c.loop-done.made.items c.push.new.self.items c.args.loans.now _ _ c.loan_at-loan.result c.binding_of-binding.result from c.loan_at-loan.ensures
    c.binding_of-binding.ensures.is c.binding_of-binding.ensures.within m c.loop-done.invariant)

pub returns-clause-is : goal.returns-clause-is
returns-clause-is c =
    let z : length c.args.loans.now - c.loop-done.done ≡ 0 = omega (arith, c.loop-done-test.false) in
    lent_whole c.args.lists.now c.args.heap.now c.args.bindings.now c.loop-done.made.items c.args.loans.now (length c.args.loans.now - c.loop-done.done) z c.loop-done.invariant
