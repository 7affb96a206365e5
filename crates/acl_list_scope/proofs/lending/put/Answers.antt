use Rattle.std.proofs.Common.{◌≡◌, List, rules, subst}
use Rattle.model_eval.specs.Variables.{list_of}
use Rattle.acl_list_parts.specs.Parts.{list_given}
use Rattle.acl_list_scope.specs.declared.binding.Binding.{Binding}
use Rattle.acl_list_scope.specs.Scopes.{scope, AreWithin}
use Rattle.acl_list_scope.proofs.LendLemmas.{child_put}
use Rattle.acl_list_scope.proofs.lending.put.Goals as goal

pub returns-clause-is : goal.returns-clause-is
returns-clause-is c w =
    let s : c.as_slice.result.now ≡ c.args.bindings.now.items = search rules in
    let t : c.as_slice-2.result.now ≡ c.args.bindings.now.items = search rules in
    child_put c.args.lists.now c.put_child.new.lists c.args.bindings.now.items c.write.new.bindings.items c.args.heap.now c.args.loan c.known_list-parent.result c.known_list-child.result c.in_ok-new.new
    c.in_ok-new.ensures.grows
    (subst (λ (bs : List Binding). AreWithin c.args.lists.now bs → list_given c.args.lists.now c.known_list-parent.result ≡ list_of (scope c.args.lists.now bs) c.args.loan.parent.0) t c.known_list-parent.ensures.is)
    (subst (λ (bs : List Binding). AreWithin c.args.lists.now bs → list_given c.args.lists.now c.known_list-child.result ≡ list_of (scope c.args.lists.now bs) c.args.loan.child.0) s c.known_list-child.ensures.is)
    c.in_ok-new.ensures.is c.write.ensures.is w
