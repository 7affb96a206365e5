use Rattle.std.specs.Prelude.{Ok, Err}
use Rattle.std.proofs.Common.{◌≤◌, length, arith}
use Rattle.acl_expand.specs.Progresses.{seen_progress}
use Rattle.acl_expand.proofs.EndLemmas.{ends}
use Rattle.acl_expand.proofs.entering.evaluated.Goals as goal

pub returns-in-Ok-clause-ends : goal.returns-in-Ok-clause-ends
returns-in-Ok-clause-ends g c =
    let free = c.in-Ok.ensures.value in
    ends c.apply-outcome.new.heap (seen_progress c.apply-outcome.new.syms.symbols c.again.new.progress) (Ok c.in-Ok.made)
    c.args.syms.now.symbols c.apply-outcome.new.syms.symbols c.args.progress.now c.apply-outcome.result _ (c.apply-outcome.ensures.outcome.is free) (c.in-Ok.ensures.ends free)

pub returns-in-Err-clause-ends : goal.returns-in-Err-clause-ends
returns-in-Err-clause-ends g c = λ known.
    let free = c.in-Err.ensures.fault known in
    ends c.apply-outcome.new.heap (seen_progress c.apply-outcome.new.syms.symbols c.again.new.progress) (Err c.in-Err.refused)
    c.args.syms.now.symbols c.apply-outcome.new.syms.symbols c.args.progress.now c.apply-outcome.result _ (c.apply-outcome.ensures.outcome.is free) (c.in-Err.ensures.ends free) known

pub again-requires-clause-enough : goal.again-requires-clause-enough
again-requires-clause-enough g c = omega (arith, c.requires.enough, c.apply-outcome.ensures.grows.table.longer)
