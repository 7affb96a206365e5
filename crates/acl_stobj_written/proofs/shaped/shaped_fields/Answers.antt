use Rattle.std.specs.Prelude.{◌≡◌, ◌∷◌, Some}
use Rattle.std.proofs.Common.{rules}
use Rattle.model_stobjs.specs.Descriptors.{shape_of}
use Rattle.acl_worlds.specs.Contents.{seen_world}
use Rattle.acl_stobj_read.specs.Written.{seen_written, SeenShape}
use Rattle.acl_stobj_written.specs.declared.shaped.ShapedField.{ShapedField}
use Rattle.acl_stobj_written.proofs.ShapedLemmas.{next_shaped}
use Rattle.acl_stobj_written.proofs.shaped.shaped_fields.Goals as goal

pub fields-preserved : goal.fields-preserved
fields-preserved c =
    let h = c.args.heap.now in
    let w = seen_world c.args.heap.now c.args.world.now in
    let field : ShapedField = record { written = c.in-Some.field.now; shape = c.in-Some-2.shape } in
    let first : c.fields.rest.now ≡ c.in-Some.field.now ∷ c.in-Some.others.now = search rules in
    let seen : SeenShape c.args.heap.now (Some c.in-Some-2.shape) (shape_of (seen_world c.args.heap.now c.args.world.now) (seen_written c.args.heap.now c.in-Some.field.now)) = rw c.in-Some-2.is at c.in_ok-shape_of.ensures in
    next_shaped w h c.fields.found c.push_shaped.new.all field c.fields.rest.now c.in-Some.others.now c.args.fields.now c.fields.invariant first seen.0 seen.1 c.in_ok-push_shaped-in-Some-2.ensures
