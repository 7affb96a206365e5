use Rattle.model_text_laws.proofs.Found.{is_unambiguous}
use Rattle.model_text_laws.proofs.one_form_is_spelled.Goals as goal

pub returns : goal.returns
returns c = is_unambiguous
