use Rattle.std.proofs.Common.{◌≡◌, ◌≤◌, ◌+◌, ◌-◌, length, None, true}
use Rattle.model_symbols.specs.Growth.{Extends}
use Rattle.model_symbols.specs.Opening.{opening}
use Rattle.model_output_so_far.specs.Output.{answers, no_totals}
use Rattle.model_output_so_far.specs.Sessions.{first_session}
use Rattle.acl_read.specs.Reading.{unread, offset_of, has_ended, fault_of, HasBuiltNothing}
use Rattle.acl_answers.specs.Views.{session_view}
use Rattle.acl_answers.specs.Whole.{IsSession}
use Rattle.acl_session.specs.Runs.{Writing, totals_view}
use Rattle.acl_session.proofs.books.run_forms.Given as goal

abbrev pub invariant-loop-turn : goal.invariant-loop-turn
invariant-loop-turn g l = record {
  opening : Extends opening l.syms;
  session : IsSession l.syms l.session;
  fault : fault_of l.reader ≡ None;
  ended : has_ended l.reader ≡ true;
  fresh : HasBuiltNothing l.reader;
  writing : Writing (g.K.Sink.written l.fn.sink) (g.K.Sink.written l.sink)
      (answers ((length l.input + 1) - l.turn) (session_view l.syms l.session) (totals_view l.totals) (offset_of l.reader) (unread l.reader))
      (answers (length l.input + 1) first_session no_totals 0 l.input);
  counts : g.K.Sink.faults l.fn.sink ≤ g.K.Sink.faults l.sink;
  quiet : g.K.Sink.faults l.sink ≡ g.K.Sink.faults l.fn.sink;
  start : l.start.top ≡ 0;
  commands : l.totals.commands ≡ l.turn;
  calls : l.totals.calls ≤ l.turn;
  errors : l.totals.errors ≤ l.turn;
}
