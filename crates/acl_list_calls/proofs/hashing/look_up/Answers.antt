use Rattle.model_eval.specs.Variables.{ordinary}
use Rattle.acl_keep.specs.Seen.{all_seen}
use Rattle.acl_list_parts.specs.Parts.{list_given}
use Rattle.acl_list_calls.proofs.HashLemmas.{both_refused}
use Rattle.acl_list_calls.proofs.hashing.look_up.Goals as goal

pub returns-then-not-takes_key-clause-is : goal.returns-then-not-takes_key-clause-is
returns-then-not-takes_key-clause-is c =
    both_refused c.args.heap.now c.args.heap.now c.args.lists.now c.args.shape c.args.place.field (ordinary (all_seen c.args.heap.now c.args.values.now)) (list_given c.args.lists.now c.args.place.list) c.takes_key.result c.argument-key.result c.argument-key.ensures.is c.takes_key.ensures c.if-not-takes_key.true
