use Rattle.model_known.proofs.KeepingLemmas.{keeping_knows}
use Rattle.model_known.proofs.kept_lists_know_their_symbols.Goals as goal

pub returns : goal.returns
returns c = keeping_knows
