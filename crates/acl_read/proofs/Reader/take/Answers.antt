use Rattle.acl_read.proofs.Reader.take.Goals as goal

pub resume-requires-clause-built : goal.resume-requires-clause-built
resume-requires-clause-built c = (c.requires.fits c.in_default.is).1.built

pub resume-requires-clause-place : goal.resume-requires-clause-place
resume-requires-clause-place c = (c.requires.fits c.in_default.is).1.place
