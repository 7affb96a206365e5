use Rattle.model_text_laws.proofs.Later.{stays_read}
use Rattle.model_text_laws.proofs.what_was_read_stays.Goals as goal

pub returns : goal.returns
returns c = stays_read
