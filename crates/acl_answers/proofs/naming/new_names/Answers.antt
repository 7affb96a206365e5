use Rattle.std.specs.Prelude.{◌≡◌, refl, pos, take}
use Rattle.std.proofs.Common.{sym, subst, rules}
use Rattle.std.proofs.lemmas.List.{take_all}
use Rattle.acl_commands.specs.declared.definitions.NewField.{NewField}
use Rattle.acl_commands.specs.Views.{field_views}
use Rattle.acl_answers.specs.Making.{HasFields}
use Rattle.acl_answers.proofs.NewNameLemmas.{names_more, names_full, fields_more, wanted_later}
use Rattle.acl_answers.proofs.naming.new_names.Goals as goal

no_field : NewField
no_field = record { name = record { 0 = 0 }; initial = pos 0 }

pub returns-in_err-recognizer-2-clause-full : goal.returns-in_err-recognizer-2-clause-full
unfolding no_field
returns-in_err-recognizer-2-clause-full c = λ h.
    names_full c.args.syms.now c.loop-field.syms c.make_field.new.syms c.args.object c.args.fields.now c.loop-field.field-index _ no_field c.loop-field.names.items
    c.requires.fields c.loop-field-test.true refl c.loop-field.invariant.makes (c.in_err-recognizer-2.ensures.full (search rules))

pub loop-field-preserved : goal.loop-field-preserved
unfolding no_field
loop-field-preserved c =
    let m = c.loop-field.invariant.makes in
    record {
      makes = names_more c.args.syms.now c.loop-field.syms c.make_field.new.syms c.args.object c.args.fields.now c.loop-field.field-index _ no_field c.loop-field.names.items c.push-in-loop-field-3.new.self.items
          c.in_ok-recognizer-2.recognizer c.in_ok-recognizer-2.updater c.requires.fields c.loop-field-test.true refl m c.in_ok-recognizer-2.ensures.ok (rw (c.in_ok-push-6.ensures.items, c.in_ok-push-5.ensures.items, c.in_ok-push-4.ensures.items) refl);
      fields = fields_more c.args.syms.now c.loop-field.syms c.make_field.new.syms c.args.fields.now c.loop-field.field-index _ no_field c.loop-field.made.items c.push-in-loop-field-4.new.self.items
          c.in_ok-recognizer-2.recognizer c.in_ok-recognizer-2.updater c.requires.fields c.loop-field-test.true refl m.grows m.packages c.loop-field.invariant.fields c.in_ok-recognizer-2.ensures.ok c.in_ok-push-7.ensures.items;
    }

pub returns-clause-fields : goal.returns-clause-fields
returns-clause-fields c =
    let all : take c.loop-field.field-index c.args.fields.now ≡ c.args.fields.now = take_all c.loop-field.field-index c.args.fields.now c.loop-field-test.false in
    let before : HasFields c.loop-field.syms (field_views c.args.syms.now c.args.fields.now) c.loop-field.made.items =
    subst (λ fs. HasFields c.loop-field.syms (field_views c.args.syms.now fs) c.loop-field.made.items) all c.loop-field.invariant.fields in
    subst (λ fs. HasFields c.loop-field.syms fs c.loop-field.made.items) (sym (wanted_later c.args.syms.now c.loop-field.syms c.loop-field.invariant.makes.grows c.args.fields.now c.requires.fields)) before
