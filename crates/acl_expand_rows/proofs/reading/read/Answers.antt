use Rattle.acl_expand_rows.proofs.reading.read.Goals as goal

pub take-requires-clause-fits : goal.take-requires-clause-fits
take-requires-clause-fits c = λ e.
    let t = c.args.syms.now in
    let p = c.in-Some.acl2 in
    (t.symbols, c.finish.ensures.fits t.symbols t p (c.feed.ensures.fits t.symbols t p (c.new-reader.ensures.fits t p)))
