use Rattle.std.proofs.Common.{ap, ◌∙◌}
use Rattle.model_eval.specs.Variables.{with_list}
use Rattle.acl_list_parts.specs.Parts.{list_given}
use Rattle.acl_list_scope.proofs.KeptLemmas.{kept_with}
use Rattle.acl_list_scope.proofs.scoped.ScopedLists.write.Goals as goal

pub returns-clause-keeps : goal.returns-clause-keeps
returns-clause-keeps c k ls i w =
    kept_with c.args.self.now.lists c.args.self.now.bindings.items c.write.new.bindings.items c.args.self.now.behind.items k _ ls i
    (c.write.ensures.is c.args.self.now.lists ∙ ap (with_list c.args.variable.0 (list_given c.args.self.now.lists c.args.list)) i.is)
    (c.write.ensures.within c.args.self.now.lists i.within w)
