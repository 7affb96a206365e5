use Rattle.std.specs.Prelude.{IfOk}
use Rattle.std.proofs.Common.{subst}
use Rattle.model_objects.specs.Object.{Object}
use Rattle.acl_heap.specs.Objects.{Denotes}
use Rattle.acl_pool.proofs.OutLemmas.{root_shown}
use Rattle.acl_pool.proofs.Pool.copy_out.Goals as goal

pub copy_out-requires : goal.copy_out-requires
copy_out-requires c = (root_shown c.self.inside.region c.self.inside.used c.args.r.now c.of.result c.args.self.now c.self.invariant c.self.view_is c.requires c.of.ensures.part c.of.ensures.back c.of.ensures.fits).shows

pub returns-clause-ok : goal.returns-clause-ok
returns-clause-ok c =
    subst (λ (o : Object _). IfOk c.copy_out.result (λ w. Denotes c.copy_out.new.heap w o)) (root_shown c.self.inside.region c.self.inside.used c.args.r.now c.of.result c.args.self.now c.self.invariant c.self.view_is c.requires c.of.ensures.part c.of.ensures.back c.of.ensures.fits).same c.copy_out.ensures.ok
