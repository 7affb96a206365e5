use Rattle.std.proofs.Common.{◌-◌, List, map, ap, ◌∙◌}
use Rattle.acl_terms.specs.declared.stobj.FieldDescriptor.{FieldDescriptor}
use Rattle.acl_terms.specs.Definitions.{seen_field, seen_descriptor}
use Rattle.acl_worlds.specs.Contents.{seen_world}
use Rattle.acl_layouts.specs.Laid.{field_among}
use Rattle.acl_layouts.proofs.LaidLemmas.{laid_concrete}
use Rattle.acl_layouts.proofs.fields.+nested.Goals as goal

pub returns-in-Some-descriptor_of-clause-is : goal.returns-in-Some-descriptor_of-clause-is
returns-in-Some-descriptor_of-clause-is t c =
    laid_concrete (seen_world c.args.heap.now c.args.world.now) _ c.args.depth c.args.stobj.0 c.args.field _ (seen_descriptor c.args.heap.now c.in-Some-descriptor_of.descriptor.now) c.if-depth-eq0.false c.in-Some.ensures.found
    c.in-Some-descriptor_of.ensures.is
    (c.among.ensures.is
    ∙ ap (λ (fs : List FieldDescriptor). field_among (seen_world c.args.heap.now c.args.world.now) (c.args.depth - 1) (map (seen_field c.args.heap.now) fs) c.args.field) c.as_slice-fields.ensures)
