use Rattle.model_symbols.proofs.LawLemmas.{opens_right}
use Rattle.model_symbols.proofs.opening_holds_named_symbols.Goals as goal

pub returns : goal.returns
returns c = opens_right
