use Rattle.std.specs.Prelude.{◌≡◌, ◌∷◌}
use Rattle.std.proofs.Common.{rules}
use Rattle.std.proofs.lemmas.Result.{err_from_is_err_and}
use Rattle.acl_stobj_read.specs.Written.{seen_renaming}
use Rattle.acl_stobj.proofs.RenameLemmas.{later}
use Rattle.acl_stobj.proofs.FieldLemmas.{fields_more, fields_fail, fields_refused}
use Rattle.acl_stobj.proofs.fields.make_fields.Goals as goal

pub make_field-requires-clause-renames : goal.make_field-requires-clause-renames
make_field-requires-clause-renames c = later _ _ _ _ c.requires.renames c.fields.invariant.grows.longer

pub returns-in-Err-clause-err : goal.returns-in-Err-clause-err
returns-in-Err-clause-err c =
    let first : c.fields.rest.now ≡ c.in-Some.field.now ∷ c.in-Some.others.now = search rules in
    fields_fail c.args.heap.now (seen_renaming c.args.renaming.now) c.args.syms.now c.fields.syms c.in-Some.field.now c.args.fields.now c.fields.rest.now c.in-Some.others.now c.fields.made c.fields.invariant first c.make_field.new.syms c.in-Err.unmade c.in-Err.ensures.err

pub returns-in_err-push_field-in-Ok-clause-err : goal.returns-in_err-push_field-in-Ok-clause-err
returns-in_err-push_field-in-Ok-clause-err c =
    let first : c.fields.rest.now ≡ c.in-Some.field.now ∷ c.in-Some.others.now = search rules in
    let p = err_from_is_err_and c.from_residual.result c.from_residual.ensures.1 in
    rw (p.1, p.2)
    (fields_refused c.args.heap.now (seen_renaming c.args.renaming.now) c.args.syms.now c.fields.syms c.in-Some.field.now c.args.fields.now c.fields.rest.now c.in-Some.others.now c.fields.made c.fields.invariant first c.make_field.new.syms c.in-Ok.descriptor c.in-Ok.ensures.ok)

pub fields-preserved : goal.fields-preserved
fields-preserved c =
    let first : c.fields.rest.now ≡ c.in-Some.field.now ∷ c.in-Some.others.now = search rules in
    fields_more c.args.heap.now (seen_renaming c.args.renaming.now) c.args.syms.now c.fields.syms c.in-Some.field.now c.args.fields.now c.fields.rest.now c.in-Some.others.now c.fields.made c.fields.invariant first c.make_field.new.syms c.in-Ok.descriptor c.push_field.new.all
    c.in-Ok.ensures.grows c.in-Ok.ensures.packages c.in-Ok.ensures.ok c.in-Ok.ensures.field c.in-Ok.ensures.counted c.in-Ok.ensures.reach c.in_ok-push_field-in-Ok.ensures
