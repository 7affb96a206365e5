use Rattle.std.proofs.Common.{sym, ap, ◌∙◌, option_map}
use Rattle.model_eval.specs.GeneratedCalls.{list_or_none}
use Rattle.model_eval.specs.ListsKeeping.{lists_keeping}
use Rattle.acl_list_scope.specs.Scopes.{scope, number_of}
use Rattle.acl_list_keeper.proofs.keeper.list_for.Goals as goal

pub returns-in-Some-clause-is : goal.returns-in-Some-clause-is
returns-in-Some-clause-is c = c.list_of.ensures.is ∙ ap (λ o. list_or_none lists_keeping (scope c.args.scoped.now.lists c.args.scoped.now.bindings.items) (option_map number_of o)) (sym c.in-Some.is)
