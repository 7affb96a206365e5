use Rattle.acl_heap.specs.Objects.{object_of}
use Rattle.acl_actuals.specs.Values.{optionals_at}
use Rattle.acl_actuals.proofs.LastLemmas.{rest_puts}
use Rattle.acl_actuals.proofs.values.take_both.Goals as goal

pub returns-clause-puts : goal.returns-clause-puts
returns-clause-puts c =
    rest_puts c.args.syms.now.symbols c.args.heap.now c.args._name.0 (optionals_at c.args.heap.now c.args.keys.now) (object_of c.args.heap.now c.args.list)
    c.args.values.now c.push.new.values c.take_keys.new.values c.in_ok-fits.fits c.requires.list c.in_ok-push.ensures.at c.in_ok-fits.ensures.puts
