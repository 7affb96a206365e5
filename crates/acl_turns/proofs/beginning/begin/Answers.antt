use Rattle.acl_turns.proofs.OwnLemmas.{turns_own}
use Rattle.acl_turns.proofs.beginning.begin.Goals as goal

pub returns-clause-turns : goal.returns-clause-turns
returns-clause-turns g c =
    turns_own g.K.Keeper.keeping _ _ _ _ c.args.machine.now _ _ c.args.t c.whole-own.result c.args.base c.requires.begins c.begin_term.ensures c.whole-own.ensures.is c.in_ok-begin_own.ensures.turns
