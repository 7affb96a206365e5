use Rattle.std.proofs.Common.{◌∷◌, sym, ap, ◌∙◌, subst}
use Rattle.model_eval.specs.StobjLayouts.{new_list}
use Rattle.acl_worlds.specs.Contents.{seen_world}
use Rattle.acl_list_scope.specs.Scopes.{scope}
use Rattle.acl_list_scope.specs.Keeping.{IsKept}
use Rattle.acl_list_scope.proofs.KeptLemmas.{kept_with, kept_grown}
use Rattle.acl_list_scope.proofs.scoped.ScopedLists.make.Goals as goal

pub returns-in-Ok-clause-ok : goal.returns-in-Ok-clause-ok
returns-in-Ok-clause-ok c k ls i =
    let g : IsKept c.new_list.new.lists c.args.self.now.bindings.items c.args.self.now.behind.items k ls = kept_grown _ _ _ _ k ls c.in_ok-n.ensures.grows i in
    kept_with _ _ _ _ k _ ls g
    (c.in-Ok.ensures.is c.new_list.new.lists
    ∙ (ap (λ l. (c.args.stobj.0, l) ∷ scope c.new_list.new.lists c.args.self.now.bindings.items) c.in_ok-n.ensures.is
    ∙ ap (λ os. (c.args.stobj.0, new_list (seen_world c.args.heap.now c.args.world.now) c.args.stobj.0) ∷ os) g.is))
    (c.in-Ok.ensures.within c.new_list.new.lists g.within c.in_ok-n.ensures.within)

pub returns-in-Err-clause-err : goal.returns-in-Err-clause-err
returns-in-Err-clause-err c k ls i =
    subst (λ bs. IsKept c.new_list.new.lists bs c.args.self.now.behind.items k ls) (sym c.in-Err.ensures.err) (kept_grown _ _ _ _ k ls c.in_ok-n.ensures.grows i)
