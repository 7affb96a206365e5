use Rattle.std.proofs.Common.{refl}
use Rattle.acl_pool.specs.Packing.{unpacked}
use Rattle.acl_pool.proofs.cells.unpack.Goals as goal

pub returns : goal.returns
unfolding unpacked
returns c = rw (c.kind_of_number.ensures, c.kind_of_number-2.ensures, c.role_of_number.ensures) refl
