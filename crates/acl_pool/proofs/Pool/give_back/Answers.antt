use Rattle.std.proofs.Common.{subst, sym}
use Rattle.acl_pool.specs.Roots.{Held, IsLive, GivesBack}
use Rattle.acl_pool.specs.Cells.{held_of}
use Rattle.acl_pool.proofs.BackLemmas.{root_given, with_spare}
use Rattle.acl_pool.proofs.Pool.give_back.Goals as goal

pub invariant_of-self : goal.invariant_of-self
invariant_of-self c =
    let live : IsLive (held_of c.self.inside.region) c.args.r = subst (λ (p : Held). IsLive p c.args.r) (sym c.self.view_is) c.requires in
    (root_given c.self.inside.region c.self.inside.used c.args.r c.of.result c.give.new.self c.self.invariant live c.if-r-gt0.true c.of.ensures.part c.give.ensures).0

pub returns-then-r-gt0 : goal.returns-then-r-gt0
returns-then-r-gt0 c =
    let live : IsLive (held_of c.self.inside.region) c.args.r = subst (λ (p : Held). IsLive p c.args.r) (sym c.self.view_is) c.requires in
    subst (λ (p : Held). GivesBack p (held_of (with_spare c.give.new.self c.args.r.cells)) c.args.r) c.self.view_is
    (root_given c.self.inside.region c.self.inside.used c.args.r c.of.result c.give.new.self c.self.invariant live c.if-r-gt0.true c.of.ensures.part c.give.ensures).1
