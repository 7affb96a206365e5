use Rattle.std.specs.Prelude.{◌≡◌, length, map}
use Rattle.model_stobjs.specs.Keys.{known_key}
use Rattle.acl_heap.specs.Objects.{object_of}
use Rattle.acl_stobj_read.specs.Keys.{key_name}
use Rattle.acl_stobj_read.proofs.keys.known_key.Given as goal

abbrev pub invariant-keys : goal.invariant-keys
invariant-keys l = known_key l.syms.symbols (map key_name l.known) (object_of l.heap l.x) ≡ known_key l.syms.symbols (map key_name l.rest) (object_of l.heap l.x)

abbrev pub decreases-keys : goal.decreases-keys
decreases-keys l = length l.rest
