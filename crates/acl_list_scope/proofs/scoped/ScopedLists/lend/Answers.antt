use Rattle.std.proofs.Common.{◌≡◌, ◌++◌, rules, sym, ap, ◌∙◌, subst}
use Rattle.model_eval.specs.Lending.{lent}
use Rattle.acl_keep.specs.Seen.{seen_loans}
use Rattle.acl_list_scope.specs.Scopes.{scope, AreWithin}
use Rattle.acl_list_scope.proofs.LendLemmas.{scope_join, within_join}
use Rattle.acl_list_scope.proofs.KeptLemmas.{kept_with}
use Rattle.acl_list_scope.proofs.scoped.ScopedLists.lend.Goals as goal

pub returns-in-Ok-clause-ok : goal.returns-in-Ok-clause-ok
returns-in-Ok-clause-ok c k ls i =
    let m : c.extend_from_slice.new.self.items ≡ c.args.self.now.bindings.items ++ c.in_ok-lent.lent.items = search rules in
    let s : c.as_slice-bindings.result.now ≡ c.args.self.now.bindings.items = search rules in
    kept_with c.args.self.now.lists c.args.self.now.bindings.items c.extend_from_slice.new.self.items c.args.self.now.behind.items k _ ls i
    (ap (scope c.args.self.now.lists) m
    ∙ (scope_join c.args.self.now.lists c.args.self.now.bindings.items c.in_ok-lent.lent.items
    ∙ (ap (λ os. os ++ scope c.args.self.now.lists c.args.self.now.bindings.items) c.in_ok-lent.ensures.is
    ∙ (ap (λ bs. lent (seen_loans c.args.heap.now c.args.loans.now) (scope c.args.self.now.lists bs) ++ scope c.args.self.now.lists c.args.self.now.bindings.items) s
    ∙ ap (λ os. lent (seen_loans c.args.heap.now c.args.loans.now) os ++ os) i.is))))
    (subst (AreWithin c.args.self.now.lists) (sym m) (within_join c.args.self.now.lists c.args.self.now.bindings.items c.in_ok-lent.lent.items i.within c.in_ok-lent.ensures.within))
