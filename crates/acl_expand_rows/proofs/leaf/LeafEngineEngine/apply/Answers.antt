use Rattle.acl_terms.specs.Definitions.{seen_formals}
use Rattle.acl_worlds.specs.Contents.{seen_world}
use Rattle.acl_engine.specs.Outcomes.{seen_body, words_at}
use Rattle.acl_expand_rows.proofs.LeafLemmas.{gives_value}
use Rattle.acl_expand_rows.proofs.leaf.LeafEngineEngine.apply.Goals as goal

pub returns-in-Ok-clause-outcome : goal.returns-in-Ok-clause-outcome
returns-in-Ok-clause-outcome c =
    let h = c.args.heap.now in
    let m = c.args.definition.now in
    gives_value h c.args.syms.now (seen_world h c.args._world.now) c.args._limits.steps c.args._limits.depth (seen_formals h m.formals) (seen_body h m)
    (words_at h c.args.actuals.now) c.in-Some.word c.in-Ok.outcome c.args.used c.in-Ok.ensures c.in-Some.ensures.is c.in-Some.ensures.whole
