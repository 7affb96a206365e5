use Rattle.model_text_laws.proofs.Runs.{stands_spelled}
use Rattle.model_text_laws.proofs.what_is_found_is_spelled.Goals as goal

pub returns : goal.returns
returns c = stands_spelled
