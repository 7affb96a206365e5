use Rattle.acl_commands.specs.Views.{actual_views}
use Rattle.acl_answers.specs.Views.{name_of, session_view}
use Rattle.acl_answers.proofs.SessionLemmas.{session_grown}
use Rattle.acl_answers.proofs.PrimitiveLemmas.{call_beside}
use Rattle.acl_answers.proofs.calls.call.Goals as goal

pub returns-in_ok-answer-in-None-clause-answers : goal.returns-in_ok-answer-in-None-clause-answers
returns-in_ok-answer-in-None-clause-answers c =
    call_beside (session_view c.args.syms.now c.args.session.now) c.primitive_call.new.syms (session_view c.primitive_call.new.syms c.args.session.now) (name_of c.args.syms.now c.args.f)
    (actual_views c.args.syms.now c.args.heap.now c.args.actuals.now) c.in_ok-answer-in-None.answer c.in-None.ensures
    (session_grown c.args.syms.now c.primitive_call.new.syms c.args.session.now c.in_ok-answer-in-None.ensures.grows.table c.requires.session) c.in_ok-answer-in-None.ensures.answers
