use Rattle.acl_read.proofs.AnswerLemmas.{opening_many}
use Rattle.acl_read.proofs.tests.first.Goals as goal

pub take-requires-clause-fits : goal.take-requires-clause-fits
take-requires-clause-fits c = λ e.
    let t = c.in_ok-syms.syms in
    (t.symbols, c.finish.ensures.fits t.symbols t (record { 0 = 2 }) (c.feed.ensures.fits t.symbols t (record { 0 = 2 }) (c.new-reader.ensures.fits t (record { 0 = 2 }))))

pub take-requires-clause-package : goal.take-requires-clause-package
take-requires-clause-package c = opening_many c.in_ok-syms.syms c.in_ok-syms.ensures
