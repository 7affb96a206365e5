use Rattle.model_terms.specs.declared.role.Role.TheVariants as role
use Rattle.model_eval.specs.Variables.{ordinary}
use Rattle.acl_terms.specs.Definitions.{seen_shape}
use Rattle.acl_worlds.specs.Contents.{seen_world}
use Rattle.acl_keep.specs.Seen.{all_seen}
use Rattle.acl_list_parts.specs.Parts.{list_given}
use Rattle.acl_list_calls.proofs.RoleLemmas.{field_recognized}
use Rattle.acl_list_calls.proofs.roles.recognize.Goals as goal

pub returns : goal.returns
returns c =
    field_recognized c.args.heap.now c.args._lists.now role.FieldRecognizer (seen_world c.args.heap.now c.args.world.now) c.args.part.depth (seen_shape c.args.heap.now c.args.part.shape) c.args.place.field (ordinary (all_seen c.args.heap.now c.args.values.now)) (list_given c.args._lists.now c.args.place.list) c.argument-x.result c.truth-w.result c.args.heap.now c.in_ok-holds.holds
    c.argument-x.ensures.is c.in_ok-holds.ensures c.truth-w.ensures.lies c.truth-w.ensures.is
