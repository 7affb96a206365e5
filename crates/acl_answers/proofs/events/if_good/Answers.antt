use Rattle.std.specs.Prelude.{Option}
use Rattle.std.specs.Option.{option_map}
use Rattle.std.proofs.Common.{sym, ap, subst, rules}
use Rattle.model_output_so_far.specs.Sessions as model
use Rattle.acl_answers.specs.declared.stobj.Stobj.{Stobj}
use Rattle.acl_answers.specs.Making.{IsFull}
use Rattle.model_output_so_far.specs.Events as events
use Rattle.acl_forms.specs.Growth.{symbol_later}
use Rattle.acl_commands.specs.Views.{field_views}
use Rattle.acl_answers.specs.Views.{name_of, names_of, session_in, session_view, stobj_view}
use Rattle.acl_answers.specs.Answers.{Answers}
use Rattle.acl_answers.proofs.NewNameLemmas.{wanted_later}
use Rattle.acl_answers.proofs.EventLemmas.{good_made, good_full}
use Rattle.acl_answers.proofs.events.if_good.Goals as goal

pub returns-in_ok-answer-in-Ok-clause-answers : goal.returns-in_ok-answer-in-Ok-clause-answers
returns-in_ok-answer-in-Ok-clause-answers c =
    let old = c.args.syms.now in
    let new = c.new_names.new.syms in
    let m = c.in-Ok.ensures.ok in
    let w = wanted_later old new m.grows c.args.wanted.now c.requires.wanted in
    let n = symbol_later m.grows c.args.name.0 c.requires.name in
    let a = c.in_ok-answer-in-Ok.ensures.answers in
    let b = subst (λ q. Answers (events.if_free (session_in new c.args.session.now.current.0) q (field_views new c.args.wanted.now) (events.first_in_use (names_of new c.in-Ok.made.names.items))) (session_view new c.if_free.new.session) c.in_ok-answer-in-Ok.answer) n a in
    let d = subst (λ fs. Answers (events.if_free (session_in new c.args.session.now.current.0) (name_of old c.args.name) fs (events.first_in_use (names_of new c.in-Ok.made.names.items))) (session_view new c.if_free.new.session) c.in_ok-answer-in-Ok.answer) w b in
    subst (λ x. Answers x (session_view new c.if_free.new.session) c.in_ok-answer-in-Ok.answer)
    (sym (good_made old new c.args.session.now.current.0 (name_of old c.args.name) (field_views old c.args.wanted.now) c.in-Ok.made.names.items m)) d

pub returns-in_ok-answer-in-Err-Full-clause-answers : goal.returns-in_ok-answer-in-Err-Full-clause-answers
returns-in_ok-answer-in-Err-Full-clause-answers c =
    let old = c.args.syms.now in
    let new = c.new_names.new.syms in
    let current = c.args.session.now.current.0 in
    let full : IsFull old new (events.new_names old.packages (name_of old c.args.name) (events.names_of (field_views old c.args.wanted.now))) = c.in-Err-Full.ensures.full (search rules) in
    subst (λ x. Answers x (session_view new c.args.session.now) c.in_ok-answer-in-Err-Full.answer)
    (sym (good_full old new current (name_of old c.args.name) (field_views old c.args.wanted.now) full)) (record {
      says = c.in_ok-answer-in-Err-Full.ensures;
      session = ap (λ (o : Option Stobj). let s : model.Session = record { table = new; current = current; object = option_map (stobj_view new) o } in s) c.requires.none;
    })
