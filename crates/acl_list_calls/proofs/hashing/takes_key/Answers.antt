use Rattle.std.proofs.Common.{refl}
use Rattle.acl_list_calls.proofs.HashLemmas.{scalar_key, array_key, child_key, children_key}
use Rattle.acl_list_calls.proofs.hashing.takes_key.Goals as goal

pub returns-in-Scalar : goal.returns-in-Scalar
returns-in-Scalar c = scalar_key c.args.heap.now c.args.shape c.args.key _ _ _ c.in-Scalar.is refl

pub returns-in-Array : goal.returns-in-Array
returns-in-Array c = array_key c.args.heap.now c.args.shape c.args.key _ _ _ _ _ c.in-Array.is refl

pub returns-in-Child : goal.returns-in-Child
returns-in-Child c = child_key c.args.heap.now c.args.shape c.args.key _ _ c.in-Child.is refl

pub returns-in-Children : goal.returns-in-Children
returns-in-Children c = children_key c.args.heap.now c.args.shape c.args.key _ _ _ c.in-Children.is refl
