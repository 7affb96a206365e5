use Rattle.model_text_laws.proofs.Found.{spelled_stands}
use Rattle.model_text_laws.proofs.what_is_spelled_is_found.Goals as goal

pub returns : goal.returns
returns c = spelled_stands
