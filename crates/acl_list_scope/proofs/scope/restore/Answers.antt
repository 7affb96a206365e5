use Rattle.std.proofs.Common.{ap, ◌∙◌}
use Rattle.model_eval.specs.Variables.{with_list}
use Rattle.model_eval.specs.ListsKeeping.{list_restored}
use Rattle.acl_list_scope.specs.Scopes.{scope}
use Rattle.acl_list_scope.proofs.scope.restore.Goals as goal

pub returns-in-Some-clause-is : goal.returns-in-Some-clause-is
returns-in-Some-clause-is c cs h =
    c.write.ensures.is cs
    ∙ (ap (λ l. with_list c.in-Some.variable.0 l (scope cs c.args.bindings.now.items)) (c.list_of-list.ensures.is cs)
    ∙ ap (λ o. list_restored o (scope cs c.args.before.now) (scope cs c.args.bindings.now.items)) (c.in-Some.ensures h))

pub returns-in-None-clause-is : goal.returns-in-None-clause-is
returns-in-None-clause-is c cs h = ap (λ o. list_restored o (scope cs c.args.before.now) (scope cs c.args.bindings.now.items)) (c.in-None.ensures h)
