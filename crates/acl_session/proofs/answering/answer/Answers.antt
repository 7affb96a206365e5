use Rattle.std.specs.Prelude.{◌≤◌, ◌+◌, length}
use Rattle.std.proofs.Common.{sym, subst, arith, rules}
use Rattle.acl_edge.specs.Outside.{TakesPart}
use Rattle.model_output_so_far.specs.Output.{Output, answers, no_totals, most_bytes}
use Rattle.model_output_so_far.specs.Sessions.{first_session}
use Rattle.acl_session.specs.Runs.{Finishes, totals_view, end_output}
use Rattle.acl_session.proofs.OutputLemmas.{output_short, writing_done, writing_last_cut}
use Rattle.acl_session.proofs.answering.answer.Goals as goal

pub returns-in_err-status-clause-part : goal.returns-in_err-status-clause-part
returns-in_err-status-clause-part g c =
    let short : length c.args.input.now ≤ most_bytes = omega (arith, c.if-input-gt-MOST_BYTES.false) in
    let part = subst (λ (o : Output). TakesPart (g.K.Sink.written c.args.sink.now) (g.K.Sink.written c.end.new.sink) o.bytes) (sym (output_short c.args.input.now short))
    (writing_last_cut (g.K.Sink.written c.args.sink.now) (g.K.Sink.written c.run_forms.new.sink) (g.K.Sink.written c.end.new.sink) (end_output (totals_view c.run_forms.new.totals) c.in_ok-ended.ended)
    (answers (length c.args.input.now + 1) first_session no_totals 0 c.args.input.now) c.in_ok-ended.ensures.ok c.in_err-status.ensures.part) in
    search rules

pub returns-clause-ok : goal.returns-clause-ok
returns-clause-ok g c =
    let short : length c.args.input.now ≤ most_bytes = omega (arith, c.if-input-gt-MOST_BYTES.false) in
    subst (λ (o : Output). Finishes (g.K.Sink.written c.args.sink.now) (g.K.Sink.written c.end.new.sink) o c.in_ok-status.status) (sym (output_short c.args.input.now short))
    (writing_done (g.K.Sink.written c.args.sink.now) (g.K.Sink.written c.run_forms.new.sink) (g.K.Sink.written c.end.new.sink) (end_output (totals_view c.run_forms.new.totals) c.in_ok-ended.ended)
    (answers (length c.args.input.now + 1) first_session no_totals 0 c.args.input.now) c.in_ok-status.status c.in_ok-ended.ensures.ok c.in_ok-status.ensures.ok)
