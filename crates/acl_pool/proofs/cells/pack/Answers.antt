use Rattle.std.proofs.Common.{refl}
use Rattle.acl_pool.specs.Packing.{packed}
use Rattle.acl_pool.proofs.cells.pack.Goals as goal

pub returns : goal.returns
unfolding packed
returns c = rw (c.number_of_kind.ensures, c.number_of_kind-2.ensures, c.number_of_role.ensures) refl
