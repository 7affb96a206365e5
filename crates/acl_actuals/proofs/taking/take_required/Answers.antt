use Rattle.std.proofs.Common.{◌∙◌}
use Rattle.acl_actuals.specs.Values.{words_at, items_at}
use Rattle.acl_actuals.proofs.ValueLemmas.{required_end, no_names}
use Rattle.acl_actuals.proofs.taking.take_required.Goals as goal

pub returns-in-None-clause-taken : goal.returns-in-None-clause-taken
returns-in-None-clause-taken c = (
  c.formals.invariant.same ∙ required_end (words_at c.args.heap.now c.formals.values) c.formals.rest.now (items_at c.args.heap.now c.formals.at) (no_names c.formals.rest.now c.in-None.ensures.cases),
  c.formals.invariant.lies,
  c.formals.invariant.list,
)
