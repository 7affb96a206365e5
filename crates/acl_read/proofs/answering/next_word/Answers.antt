use Rattle.acl_read.proofs.AnswerLemmas.{grown_scan}
use Rattle.acl_read.proofs.answering.next_word.Goals as goal

pub returns-in-Going-clause-grows : goal.returns-in-Going-clause-grows
returns-in-Going-clause-grows c = grown_scan c.args.heap.now c.advance.ensures.grows

pub returns-in-Err-clause-grows : goal.returns-in-Err-clause-grows
returns-in-Err-clause-grows c = grown_scan c.args.heap.now c.advance.ensures.grows
