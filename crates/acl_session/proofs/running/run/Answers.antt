use Rattle.acl_session.proofs.OutputLemmas.{run_plain, run_cut, run_nothing}
use Rattle.acl_session.proofs.running.run.Goals as goal

pub returns-then-not-is_empty-clause-exact : goal.returns-then-not-is_empty-clause-exact
returns-then-not-is_empty-clause-exact g c = (run_nothing (g.S.Source.left c.args.source.now) (g.K.Sink.written c.args.sink.now)).0

pub returns-in-Ok-answer-clause-exact : goal.returns-in-Ok-answer-clause-exact
returns-in-Ok-answer-clause-exact g c =
    run_plain (g.S.Source.left c.args.source.now) (g.K.Sink.written c.args.sink.now) (g.K.Sink.written c.answer.new.sink) c.in-Ok.input.items c.in-Ok-answer.status
    c.in-Ok.ensures.input (rw c.as_slice.ensures.value at c.in-Ok-answer.ensures.ok) c.in-Ok-answer.ensures.plain

pub returns-in-Err-Fault-answer-clause-exact : goal.returns-in-Err-Fault-answer-clause-exact
returns-in-Err-Fault-answer-clause-exact g c =
    (run_cut (g.S.Source.left c.args.source.now) (g.K.Sink.written c.args.sink.now) (g.K.Sink.written c.answer.new.sink) c.in-Ok.input.items
    c.in-Ok.ensures.input (rw c.as_slice.ensures.value at c.in-Err-Fault-answer.ensures.part)).0

pub returns-in-Ok-clause-exact : goal.returns-in-Ok-clause-exact
returns-in-Ok-clause-exact g c =
    (run_cut (g.S.Source.left c.args.source.now) (g.K.Sink.written c.args.sink.now) (g.K.Sink.written c.answer.new.sink) c.in-Ok.input.items
    c.in-Ok.ensures.input (rw c.as_slice.ensures.value at c.in-Err-Memory-answer.ensures.part)).1

pub returns-in-Err-Fault-clause-exact : goal.returns-in-Err-Fault-clause-exact
returns-in-Err-Fault-clause-exact g c = (run_nothing (g.S.Source.left c.args.source.now) (g.K.Sink.written c.args.sink.now)).1

pub returns-clause-exact : goal.returns-clause-exact
returns-clause-exact g c = (run_nothing (g.S.Source.left c.args.source.now) (g.K.Sink.written c.args.sink.now)).2
