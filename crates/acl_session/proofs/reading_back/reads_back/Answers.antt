use Rattle.model_text_laws.proofs.Back as back
use Rattle.acl_session.proofs.reading_back.reads_back.Goals as goal

pub returns : goal.returns
returns c = back.reads_back
