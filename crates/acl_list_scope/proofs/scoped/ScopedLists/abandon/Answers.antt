use Rattle.std.proofs.Common.{[], refl, ◌≡◌, rules, sym, ap, ◌∙◌, subst}
use Rattle.model_eval.specs.Variables.{first_stobj}
use Rattle.model_eval.specs.ListsKeeping.{list_restored}
use Rattle.acl_keep.specs.Seen.{all_seen}
use Rattle.acl_list_scope.specs.Scopes.{scope, AreWithin}
use Rattle.acl_list_scope.specs.Keeping.{IsKept}
use Rattle.acl_list_scope.proofs.KeptLemmas.{kept_with, kept_before, kept_same, none_behind, some_behind}
use Rattle.acl_list_scope.proofs.scoped.ScopedLists.abandon.Goals as goal

pub returns-in-Some-clause-keeps : goal.returns-in-Some-clause-keeps
returns-in-Some-clause-keeps c k l ls i =
    let b : IsKept c.args.self.now.lists c.in-Some.before.bindings.items c.take_last.new.behind.items l ls = kept_before _ _ _ _ c.in-Some.before k l ls c.in-Some.ensures.some i in
    let s : c.as_slice.result.now ≡ c.in-Some.before.bindings.items = search rules in
    kept_with _ _ _ _ l _ ls b
    (c.restore.ensures.is c.args.self.now.lists c.args._heap.now
    ∙ (ap (λ bs. list_restored (first_stobj (all_seen c.args._heap.now c.args.actuals.now)) (scope c.args.self.now.lists bs) (scope c.args.self.now.lists c.args.self.now.bindings.items)) s
    ∙ (ap (λ os. list_restored (first_stobj (all_seen c.args._heap.now c.args.actuals.now)) os (scope c.args.self.now.lists c.args.self.now.bindings.items)) b.is
    ∙ ap (list_restored (first_stobj (all_seen c.args._heap.now c.args.actuals.now)) l) i.is)))
    (c.restore.ensures.within c.args.self.now.lists (subst (AreWithin c.args.self.now.lists) (sym s) b.within) i.within)

pub returns-in-None-clause-keeps : goal.returns-in-None-clause-keeps
returns-in-None-clause-keeps c k l ls i = absurd (none_behind _ _ _ k l ls c.in-None.ensures.none i)

pub returns-in-Some-clause-none : goal.returns-in-Some-clause-none
returns-in-Some-clause-none c k i = absurd (some_behind _ _ _ _ c.in-Some.before k c.in-Some.ensures.some i)

pub returns-in-None-clause-none : goal.returns-in-None-clause-none
returns-in-None-clause-none c k i = kept_same _ _ _ _ _ k [] refl c.in-None.ensures.same i
