use Rattle.acl_pure.proofs.ApplyLemmas.{fits_grown, calls_within, outer_within}
use Rattle.acl_pure.proofs.engine.PureEngineEngine.apply.Goals as goal

pub returns-clause-fits : goal.returns-clause-fits
returns-clause-fits c =
    fits_grown c.args.self.now.terms c.args.heap.now c.evaluate_alone.new.heap c.args.world.now c.args.syms.now c.evaluate_alone.new.syms c.evaluate_alone.ensures.grows c.requires.fits

pub returns-clause-most : goal.returns-clause-most
returns-clause-most c =
    calls_within c.macro_bodies_end.ensures c.plain_forms_count.ensures c.args.self.now.terms c.args.heap.now c.evaluate_alone.new.heap c.args.world.now c.args.syms.now c.evaluate_alone.new.syms c.requires.fits
    c.args.definition.now c.requires.definition c.args.actuals.now c.requires.count c.args.limits.steps c.args.used c.args.limits.depth c.requires.used c.evaluate_alone.result c.evaluate_alone.ensures.evaluates c.evaluate_alone.ensures.refused

pub returns-clause-outer : goal.returns-clause-outer
returns-clause-outer c =
    outer_within c.macro_bodies_end.ensures c.plain_forms_count.ensures c.args.self.now.terms c.args.heap.now c.evaluate_alone.new.heap c.args.world.now c.args.syms.now c.evaluate_alone.new.syms c.requires.fits
    c.args.definition.now c.requires.definition c.args.actuals.now c.requires.count c.args.limits.steps c.args.used c.args.limits.depth c.requires.used c.evaluate_alone.result c.evaluate_alone.ensures.evaluates c.evaluate_alone.ensures.refused
