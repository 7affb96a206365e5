use Rattle.std.proofs.Common.{◌≡◌, refl, rules, sym, ap, ◌∙◌, subst}
use Rattle.acl_list_scope.specs.Scopes.{scope, AreWithin}
use Rattle.acl_list_scope.proofs.KeptLemmas.{kept_behind, kept_same}
use Rattle.acl_list_scope.proofs.scoped.ScopedLists.remember.Goals as goal

pub returns-in-Ok-clause-ok : goal.returns-in-Ok-clause-ok
returns-in-Ok-clause-ok c k ls i =
    let s : c.in_ok-inner.inner.items ≡ c.args.self.now.bindings.items = search rules in
    let e : c.leave_behind.new.bindings.items ≡ c.args.self.now.bindings.items = c.in-Ok.ensures.now ∙ s in
    kept_behind c.args.self.now.lists c.args.self.now.bindings.items _ _ _ (record { bindings = c.args.self.now.bindings }) k k ls c.in-Ok.ensures.ok refl i
    (ap (scope c.args.self.now.lists) e ∙ i.is) (subst (AreWithin c.args.self.now.lists) (sym e) i.within)

pub returns-in-Err-clause-err : goal.returns-in-Err-clause-err
returns-in-Err-clause-err c k ls i = kept_same _ _ _ _ _ k ls c.in-Err.ensures.same c.in-Err.ensures.err i
