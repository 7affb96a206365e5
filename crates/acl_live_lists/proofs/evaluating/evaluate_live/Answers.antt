use Rattle.acl_pure.proofs.ApplyLemmas.{fits_grown}
use Rattle.acl_live_lists.proofs.EvaluateLemmas.{objects_whole}
use Rattle.acl_live_lists.proofs.evaluating.evaluate_live.Goals as goal

pub evaluate-requires-clause-values : goal.evaluate-requires-clause-values
evaluate-requires-clause-values c = objects_whole c.args.syms.now c.args.heap.now c.args.world.now c.args.keeper.now c.in-Ok.values c.as_slice.result.now c.in-Ok.ensures c.requires.live

pub returns-in-Ok-clause-fits : goal.returns-in-Ok-clause-fits
returns-in-Ok-clause-fits c =
    fits_grown c.args.terms.now c.args.heap.now c.evaluate.new.heap c.args.world.now c.args.syms.now c.evaluate.new.syms c.evaluate.ensures.grows c.requires.fits
