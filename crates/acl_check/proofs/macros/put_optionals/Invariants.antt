use Rattle.std.specs.Prelude.{◌++◌, map, drop}
use Rattle.std.proofs.Common.{◌≡◌}
use Rattle.model_terms.specs.Faults.{optional_names}
use Rattle.acl_terms.specs.Definitions.{seen_optional}
use Rattle.acl_terms.specs.Forms.{numbers}
use Rattle.acl_check.proofs.macros.put_optionals.Given as goal

abbrev pub invariant-loop-formal : goal.invariant-loop-formal
invariant-loop-formal l =
    numbers l.fn.names ++ optional_names (map (seen_optional l.heap) l.formals)
    ≡ numbers l.names ++ optional_names (map (seen_optional l.heap) (drop l.formal-index l.formals))
