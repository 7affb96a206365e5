use Rattle.std.proofs.Common.{subst, sym}
use Rattle.acl_pool.specs.declared.region.Region.{Region}
use Rattle.acl_pool.specs.Cells.{IsSound}
use Rattle.acl_pool.proofs.BackLemmas.{sound_new}
use Rattle.acl_pool.proofs.Pool.new.Goals as goal

pub invariant_of-result : goal.invariant_of-result
invariant_of-result c = subst (λ (r : Region). IsSound r 0) (sym c.new.ensures) sound_new
