use Rattle.std.specs.Prelude.{◌≡◌, ◌∷◌, Some}
use Rattle.std.proofs.Common.{◌∙◌, rules}
use Rattle.model_stobjs.specs.Descriptors.{held_stobj}
use Rattle.acl_terms.specs.Definitions.{seen_shape}
use Rattle.acl_worlds.specs.Contents.{seen_world}
use Rattle.acl_stobj_read.proofs.NestingLemmas.{most_cut}
use Rattle.acl_stobj_read.proofs.nesting.+nesting.Goals as goal

pub deepest-returns-then-depth-left-clause-is : goal.deepest-returns-then-depth-left-clause-is
deepest-returns-then-depth-left-clause-is t c =
    let first : c.fields.rest.now ≡ c.in-Some.field.now ∷ c.in-Some.others.now = search rules in
    let holds : held_stobj (seen_shape c.args.heap.now c.in-Some.field.now.shape) ≡ Some c.in-Some-held_stobj.stobj.0 = search rules in
    c.fields.invariant.same
    ∙ most_cut (seen_world c.args.heap.now c.args.world.now) c.args.heap.now c.in-Some.field.now c.fields.rest.now c.in-Some.others.now c.in-Some-held_stobj.stobj.0 c.in_ok-depth-in-Some-held_stobj.depth c.fields.most c.args.left first holds c.in_ok-depth-in-Some-held_stobj.ensures.is c.if-depth-left.true c.fields.invariant.bound
