use Rattle.std.specs.Prelude.{refl, length}
use Rattle.acl_answers.proofs.EventLemmas.{as_many, object_made}
use Rattle.std.proofs.Common.{◌∙◌, sym, ap}
use Rattle.std.proofs.lemmas.List.{length-map}
use Rattle.acl_commands.specs.declared.definitions.NewField.{NewField}
use Rattle.acl_commands.specs.Views.{field_views}
use Rattle.acl_answers.proofs.events.defined.Goals as goal

pub returns-clause-answers : goal.returns-clause-answers
returns-clause-answers c = record {
  says = record { line = c.in_ok-line.ensures; calls = refl; is_error = refl };
  session = object_made c.args.syms.now c.args.session.now.current.0 c.args.name c.args.wanted.now c.args.fields.items c.in_ok-values.values.items c.requires.fields c.in_ok-values.ensures;
}

pub returns-clause-session : goal.returns-clause-session
returns-clause-session c = record {
  current = c.requires.session.current;
  object = record {
    name = c.requires.name;
    fields = c.requires.fields.known;
    same = as_many c.args.syms.now (field_views c.args.syms.now c.args.wanted.now) c.args.fields.items c.requires.fields
        ∙ (length-map c.args.wanted.now _ ∙ (sym (length-map c.args.wanted.now (λ (f : NewField). f.initial)) ∙ sym (ap length c.in_ok-values.ensures)));
  };
}
