use Rattle.std.specs.List.{list_any}
use Rattle.std.proofs.Common.{◌≡◌, drop}
use Rattle.model_terms.specs.Classes.{has}
use Rattle.acl_terms.specs.Forms.{numbers}
use Rattle.acl_nest.proofs.stobj_let.any_child.Given as goal

abbrev pub invariant-loop-name : goal.invariant-loop-name
invariant-loop-name l = list_any (has (numbers l.children)) (numbers l.vars) ≡ list_any (has (numbers l.children)) (numbers (drop l.name-index l.vars))
