use Rattle.acl_evaluate.proofs.EvaluateLemmas.{rests_kept, reached, rested}
use Rattle.acl_evaluate.proofs.evaluating.run_begun.Goals as goal

pub may_run-requires-clause-asks : goal.may_run-requires-clause-asks
may_run-requires-clause-asks c = record {
  call = λ d kept lefts. tt;
  reach = λ parent field kept lefts. tt;
  lend = λ loans kept lefts. tt;
  make = λ w stobj kept lefts. tt;
  unmake = λ kept lefts. tt;
  abandon = λ kept lefts. tt;
}

pub may_run-requires-clause-kept : goal.may_run-requires-clause-kept
may_run-requires-clause-kept c = rests_kept c.args.keeper.now.scoped c.args.machine.now c.requires.closed c.requires.rests

pub returns-in-Ok-clause-reaches : goal.returns-in-Ok-clause-reaches
returns-in-Ok-clause-reaches c =
    reached c.args.keeper.now.scoped c.run.new.keeper.scoped _ _ c.args.machine.now c.run.new.machine c.in-Ok.ensures.ends c.requires.closed c.in-Ok.ensures.closed c.requires.rests

pub returns-in-Ok-clause-rests : goal.returns-in-Ok-clause-rests
returns-in-Ok-clause-rests c =
    rested c.args.keeper.now.scoped c.run.new.keeper.scoped _ _ c.args.machine.now c.run.new.machine c.in-Ok.ensures.ends c.requires.closed c.in-Ok.ensures.closed c.requires.rests
