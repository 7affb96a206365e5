use Rattle.std.proofs.Common.{subst}
use Rattle.acl_pool.specs.Roots.{Held, IsPool}
use Rattle.acl_pool.proofs.BackLemmas.{pool_is}
use Rattle.acl_pool.proofs.Pool.is_pool.Goals as goal

pub returns : goal.returns
returns c = subst (λ (p : Held). IsPool p) c.self.view_is (pool_is c.self.inside.region c.self.inside.used c.self.invariant)
