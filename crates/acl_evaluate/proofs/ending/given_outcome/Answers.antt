use Rattle.std.proofs.Common.{rules, refl}
use Rattle.acl_evaluate.proofs.EndedLemmas.{given_end}
use Rattle.acl_evaluate.proofs.ending.given_outcome.Goals as goal

pub returns : goal.returns
returns c = given_end c.args.machine.now _ c.requires.given refl (search rules) refl refl
