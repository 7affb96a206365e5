use Rattle.model_known.proofs.MoreLemmas.{more_known}
use Rattle.model_known.proofs.more_symbols_are_known.Goals as goal

pub returns : goal.returns
returns c = more_known
