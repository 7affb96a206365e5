-- What is seen of a known form is known.
use Rattle.acl_heap.specs.Objects.{object_of}
use Rattle.acl_expand.proofs.KnownLemmas.{stands_known, use_known, defaults_known, user_known}
use Rattle.acl_expand.proofs.stepping.step.Goals as goal

pub counted_row-requires-clause-known : goal.counted_row-requires-clause-known
counted_row-requires-clause-known g c =
    let look = rw c.in-Use.is at c.in_ok-found.ensures in
    use_known c.args.heap.now c.args.world.now c.args.syms.now c.args.limits.steps c.args.limits.depth (object_of c.args.heap.now c.args.form) _ _ _ c.requires.supplies c.requires.known look.0

pub counted_macro-requires-clause-defaults : goal.counted_macro-requires-clause-defaults
counted_macro-requires-clause-defaults g c =
    let look = rw c.in-UserUse.is at c.in_ok-found.ensures in
    defaults_known c.args.heap.now c.args.world.now c.args.syms.now c.args.limits.steps c.args.limits.depth (object_of c.args.heap.now c.args.form) _ _ _ _ c.requires.supplies c.requires.known look.0

pub counted_macro-requires-clause-known : goal.counted_macro-requires-clause-known
counted_macro-requires-clause-known g c =
    let look = rw c.in-UserUse.is at c.in_ok-found.ensures in
    user_known c.args.heap.now c.args.world.now c.args.syms.now c.args.limits.steps c.args.limits.depth (object_of c.args.heap.now c.args.form) _ _ _ _ c.requires.supplies c.requires.known look.0

pub returns-in-Stands-clause-known : goal.returns-in-Stands-clause-known
returns-in-Stands-clause-known g c =
    let look = rw c.in-Stands.is at c.in_ok-found.ensures in
    stands_known c.args.heap.now c.args.world.now c.args.syms.now c.args.limits.steps c.args.limits.depth (object_of c.args.heap.now c.args.form) _ c.requires.supplies c.requires.known look.0
