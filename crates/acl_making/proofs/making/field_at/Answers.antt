use Rattle.std.proofs.Common.{length, refl}
use Rattle.std.proofs.lemmas.Option.{slice_get_read}
use Rattle.acl_making.proofs.making.field_at.Goals as goal

pub returns-clause-there : goal.returns-clause-there
returns-clause-there c = slice_get_read c.args.layout.now.fields.items (length c.args.layout.now.fields.items) c.args.f c.index.result.now refl c.requires.f c.index.ensures

pub returns-clause-is : goal.returns-clause-is
returns-clause-is c = c.requires.layouts c.args.id c.args.f c.args.layout.now c.index.result.now c.requires.is (returns-clause-there c)
