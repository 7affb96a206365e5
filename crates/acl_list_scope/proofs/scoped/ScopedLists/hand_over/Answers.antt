use Rattle.std.proofs.Common.{◌≡◌, refl, rules, sym, ap, ◌∙◌, subst}
use Rattle.model_eval.specs.Variables.{inner_stobjs}
use Rattle.acl_terms.specs.Forms.{numbers}
use Rattle.acl_keep.specs.Seen.{all_seen}
use Rattle.acl_list_scope.specs.Scopes.{scope, AreWithin}
use Rattle.acl_list_scope.proofs.KeptLemmas.{kept_behind, kept_same}
use Rattle.acl_list_scope.proofs.scoped.ScopedLists.hand_over.Goals as goal

pub returns-in-Ok-clause-ok : goal.returns-in-Ok-clause-ok
returns-in-Ok-clause-ok c k ls i =
    let s : c.as_slice.result.now ≡ c.args.self.now.bindings.items = search rules in
    kept_behind c.args.self.now.lists c.args.self.now.bindings.items _ _ _ (record { bindings = c.args.self.now.bindings }) k _ ls c.in-Ok.ensures.ok refl i
    (ap (scope c.args.self.now.lists) c.in-Ok.ensures.now
    ∙ (c.in_ok-inner.ensures.is c.args.self.now.lists c.args._heap.now
    ∙ (ap (λ bs. inner_stobjs (numbers c.args.formals.now) (all_seen c.args._heap.now c.args.actuals.now) (scope c.args.self.now.lists bs)) s
    ∙ ap (inner_stobjs (numbers c.args.formals.now) (all_seen c.args._heap.now c.args.actuals.now)) i.is)))
    (subst (AreWithin c.args.self.now.lists) (sym c.in-Ok.ensures.now) (c.in_ok-inner.ensures.within c.args.self.now.lists (subst (AreWithin c.args.self.now.lists) (sym s) i.within)))

pub returns-in-Err-clause-err : goal.returns-in-Err-clause-err
returns-in-Err-clause-err c k ls i = kept_same _ _ _ _ _ k ls c.in-Err.ensures.same c.in-Err.ensures.err i
