use Rattle.acl_read_tokens.proofs.ReadingLemmas.{token_is}
use Rattle.acl_read_tokens.proofs.token_by_reading.Goals as goal

pub returns : goal.returns
returns c = token_is
