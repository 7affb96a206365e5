use Rattle.std.proofs.Common.{◌≡◌, drop}
use Rattle.model_terms.specs.Classes.{has}
use Rattle.acl_terms.specs.Forms.{numbers}
use Rattle.acl_layers.proofs.binding_parts.is_among.Given as goal

abbrev pub invariant-loop-name : goal.invariant-loop-name
invariant-loop-name l = has (numbers l.names) l.x.0 ≡ has (numbers (drop l.name-index l.names)) l.x.0
