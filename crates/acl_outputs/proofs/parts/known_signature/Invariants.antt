use Rattle.std.specs.Prelude.{nat_eq}
use Rattle.std.specs.Map.{lookup}
use Rattle.std.proofs.Common.{◌≡◌, drop}
use Rattle.acl_outputs.specs.Known.{seen_known}
use Rattle.acl_outputs.proofs.parts.known_signature.Given as goal

abbrev pub invariant-loop-one : goal.invariant-loop-one
invariant-loop-one l = lookup (nat_eq l.f.0) (seen_known l.known) ≡ lookup (nat_eq l.f.0) (seen_known (drop l.one-index l.known))
