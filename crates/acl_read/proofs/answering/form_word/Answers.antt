use Rattle.acl_read.proofs.AnswerLemmas.{names_of}
use Rattle.acl_read.proofs.answering.form_word.Goals as goal

pub build-requires-clause-names : goal.build-requires-clause-names
build-requires-clause-names c = names_of c.args.syms.now c.requires.opening
