use Rattle.acl_session.proofs.books.reader_of.Goals as goal

pub returns-in-Ok-clause-fits : goal.returns-in-Ok-clause-fits
returns-in-Ok-clause-fits c = λ t current. c.finish.ensures.fits t.symbols t current (c.in-Ok.ensures.fits t.symbols t current (c.new-reader.ensures.fits t current))
