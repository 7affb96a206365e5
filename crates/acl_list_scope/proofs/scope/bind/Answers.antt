use Rattle.std.proofs.Common.{◌≡◌, [], ◌∷◌, ◌++◌, rules}
use Rattle.acl_list_scope.specs.declared.binding.Binding.{Binding}
use Rattle.acl_list_scope.proofs.ScopeLemmas.{scope_push}
use Rattle.acl_list_scope.proofs.scope.bind.Goals as goal

pub returns-clause-is : goal.returns-clause-is
returns-clause-is c cs =
    let b : Binding = record { variable = c.args.variable; list = c.args.list } in
    let m : c.push.new.self.items ≡ c.args.bindings.now.items ++ b ∷ [] = search rules in
    scope_push cs c.args.bindings.now.items c.push.new.self.items b m
