use Rattle.model_known.proofs.WorldLemmas.{worlds_know}
use Rattle.model_known.proofs.worlds_know_their_symbols.Goals as goal

pub returns : goal.returns
returns c = worlds_know
