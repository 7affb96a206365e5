use Rattle.model_known.proofs.EffectLemmas.{effects_know}
use Rattle.model_known.proofs.effects_know_their_symbols.Goals as goal

pub returns : goal.returns
returns c = effects_know
