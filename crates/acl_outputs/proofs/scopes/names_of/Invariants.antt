use Rattle.std.proofs.Common.{◌≡◌, ◌++◌, drop}
use Rattle.acl_terms.specs.Forms.{numbers, bound_names}
use Rattle.acl_outputs.proofs.scopes.names_of.Given as goal

abbrev pub invariant-loop-binding : goal.invariant-loop-binding
invariant-loop-binding l = bound_names l.bindings ≡ numbers l.names ++ bound_names (drop l.binding-index l.bindings)
