use Rattle.std.specs.List.{list_all}
use Rattle.std.proofs.Common.{◌≡◌, drop}
use Rattle.model_terms.specs.Classes.{has}
use Rattle.acl_terms.specs.Forms.{numbers}
use Rattle.acl_nest.proofs.kinds.all_among.Given as goal

abbrev pub invariant-loop-name : goal.invariant-loop-name
invariant-loop-name l = list_all (has (numbers l.among)) (numbers l.names) ≡ list_all (has (numbers l.among)) (numbers (drop l.name-index l.names))
