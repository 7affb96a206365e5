use Rattle.acl_heap.specs.Objects.{object_of}
use Rattle.acl_actuals.specs.Values.{words_at}
use Rattle.acl_actuals.proofs.LastLemmas.{all_rest}
use Rattle.acl_actuals.proofs.values.take_rest.Goals as goal

pub returns-clause-puts : goal.returns-clause-puts
returns-clause-puts c =
    all_rest c.args._syms.now.symbols c.args._name.0 (object_of c.args.heap.now c.args.list) (words_at c.args.heap.now c.args.values.now) (words_at c.args.heap.now c.push.new.values) c.requires.list c.in_ok-push.ensures.at
