use Rattle.std.proofs.Common.{◌≡◌, rules, ap, ◌∙◌, option_map}
use Rattle.model_lists.specs.Lists.{item}
use Rattle.model_eval.specs.Variables.{list_of}
use Rattle.model_eval.specs.Lending.{is_reached}
use Rattle.acl_heap.specs.Objects.{object_of}
use Rattle.acl_list_scope.specs.Scopes.{scope}
use Rattle.acl_list_scope.proofs.scoped.ScopedLists.is_reached.Goals as goal

pub returns : goal.returns
returns c k ls i =
    let s : c.as_slice.result.now ≡ c.args.self.now.bindings.items = search rules in
    c.has_child.ensures
    ∙ (ap (λ bs. is_reached (option_map (object_of c.args.heap.now) c.args.index) (item c.args.field (list_of (scope c.args.self.now.lists bs) c.args.parent.0))) s
    ∙ ap (λ os. is_reached (option_map (object_of c.args.heap.now) c.args.index) (item c.args.field (list_of os c.args.parent.0))) i.is)
