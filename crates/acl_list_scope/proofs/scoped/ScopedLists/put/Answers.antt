use Rattle.std.proofs.Common.{ap, ◌∙◌, sym, subst}
use Rattle.model_eval.specs.Lending.{put_into_parent}
use Rattle.acl_keep.specs.Seen.{seen_loan}
use Rattle.acl_list_scope.specs.Keeping.{IsKept}
use Rattle.acl_list_scope.proofs.KeptLemmas.{kept_with, kept_grown}
use Rattle.acl_list_scope.proofs.scoped.ScopedLists.put.Goals as goal

pub returns-in-Ok-clause-ok : goal.returns-in-Ok-clause-ok
returns-in-Ok-clause-ok c k ls i =
    kept_with c.put.new.lists c.args.self.now.bindings.items c.put.new.bindings.items c.args.self.now.behind.items k _ ls
    (kept_grown c.args.self.now.lists c.put.new.lists c.args.self.now.bindings.items c.args.self.now.behind.items k ls c.in-Ok.ensures.grows i)
    (c.in-Ok.ensures.is i.within ∙ ap (put_into_parent (seen_loan c.args.heap.now c.args.loan)) i.is)
    (c.in-Ok.ensures.within i.within)

pub returns-in-Err-clause-err : goal.returns-in-Err-clause-err
returns-in-Err-clause-err c k ls i =
    subst (λ bs. IsKept c.put.new.lists bs c.args.self.now.behind.items k ls) (sym c.in-Err.ensures.err)
    (kept_grown c.args.self.now.lists c.put.new.lists c.args.self.now.bindings.items c.args.self.now.behind.items k ls c.in-Err.ensures.grows i)
