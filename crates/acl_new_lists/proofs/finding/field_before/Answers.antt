use Rattle.std.proofs.Common.{◌-◌, ◌<◌, length, refl, arith}
use Rattle.std.proofs.lemmas.Option.{slice_get_read}
use Rattle.acl_new_lists.proofs.FindLemmas.{field_lies}
use Rattle.acl_new_lists.proofs.finding.field_before.Goals as goal

pub returns-clause-lies : goal.returns-clause-lies
returns-clause-lies c =
    let low : length c.args.fields.now - 1 - c.args.done < length c.args.fields.now = omega (arith, c.requires.left) in
    field_lies c.args._heap.now c.args.fields.now (length c.args.fields.now - 1 - c.args.done) c.index-fields-fields.result c.requires.lies
    (slice_get_read c.args.fields.now (length c.args.fields.now) (length c.args.fields.now - 1 - c.args.done) c.index-fields-fields.result refl low c.index-fields-fields.is)
