use Rattle.model_symbols.proofs.LawLemmas.{interning}
use Rattle.model_symbols.proofs.interning_numbers_symbols.Goals as goal

pub returns : goal.returns
returns c = interning
