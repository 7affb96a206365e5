use Rattle.std.proofs.Common.{◌≡◌, ◌++◌, drop}
use Rattle.model_terms.specs.Scopes.{other_names}
use Rattle.acl_terms.specs.Forms.{numbers}
use Rattle.acl_outputs.proofs.scopes.other_names.Given as goal

abbrev pub invariant-loop-name : goal.invariant-loop-name
invariant-loop-name l = other_names l.stobj.0 (numbers l.names) ≡ numbers l.found ++ other_names l.stobj.0 (numbers (drop l.name-index l.names))
