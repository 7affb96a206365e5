use Rattle.std.proofs.Common.{[], refl, ap, ◌∙◌}
use Rattle.model_eval.specs.Variables.{handed_back}
use Rattle.acl_terms.specs.Forms.{numbers}
use Rattle.acl_keep.specs.Seen.{all_seen}
use Rattle.acl_list_scope.specs.Scopes.{scope}
use Rattle.acl_list_scope.specs.Keeping.{IsKept}
use Rattle.acl_list_scope.proofs.KeptLemmas.{kept_with, kept_before, kept_same, none_behind, some_behind}
use Rattle.acl_list_scope.proofs.scoped.ScopedLists.hand_back.Goals as goal

pub returns-in-Some-clause-keeps : goal.returns-in-Some-clause-keeps
returns-in-Some-clause-keeps c k l ls i =
    let b : IsKept c.args.self.now.lists c.in-Some.outer.bindings.items c.take_last.new.behind.items l ls = kept_before _ _ _ _ c.in-Some.outer k l ls c.in-Some.ensures.some i in
    kept_with _ _ _ _ l _ ls b
    (c.give_back.ensures.is c.args.self.now.lists c.args._heap.now
    ∙ (ap (λ os. handed_back (numbers c.args.formals.now) (all_seen c.args._heap.now c.args.actuals.now) os (scope c.args.self.now.lists c.in-Some.outer.bindings.items)) i.is
    ∙ ap (handed_back (numbers c.args.formals.now) (all_seen c.args._heap.now c.args.actuals.now) k) b.is))
    (c.give_back.ensures.within c.args.self.now.lists i.within b.within)

pub returns-in-None-clause-keeps : goal.returns-in-None-clause-keeps
returns-in-None-clause-keeps c k l ls i = absurd (none_behind _ _ _ k l ls c.in-None.ensures.none i)

pub returns-in-Some-clause-none : goal.returns-in-Some-clause-none
returns-in-Some-clause-none c k i = absurd (some_behind _ _ _ _ c.in-Some.outer k c.in-Some.ensures.some i)

pub returns-in-None-clause-none : goal.returns-in-None-clause-none
returns-in-None-clause-none c k i = kept_same _ _ _ _ _ k [] refl c.in-None.ensures.same i
