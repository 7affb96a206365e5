use Rattle.acl_pure.proofs.AloneLemmas.{values_whole}
use Rattle.acl_pure.proofs.alone.evaluate_alone.Goals as goal

pub evaluate-requires-clause-values : goal.evaluate-requires-clause-values
evaluate-requires-clause-values c =
    values_whole c.args.syms.now c.args.heap.now c.args.world.now c.in-Ok.values c.args.words.now c.in-Ok.ensures c.requires.words c.requires.fits

pub evaluate-requires-clause-keeper : goal.evaluate-requires-clause-keeper
evaluate-requires-clause-keeper c = c.new-keeper.ensures.sound _ _ _ c.requires.fits
