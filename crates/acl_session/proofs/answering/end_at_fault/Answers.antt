use Rattle.std.specs.Prelude.{refl}
use Rattle.std.proofs.Common.{rules}
use Rattle.acl_session.specs.Runs.{totals_view}
use Rattle.acl_session.proofs.OutputLemmas.{fault_cut, fault_between, fault_last_cut, fault_done}
use Rattle.acl_session.proofs.answering.end_at_fault.Goals as goal

pub returns-in_err-write_line-clause-part : goal.returns-in_err-write_line-clause-part
returns-in_err-write_line-clause-part g c =
    let part = fault_cut (g.K.Sink.written c.args.sink.now) (g.K.Sink.written c.write_line.new.sink) (totals_view c.args.totals.now) c.args.name.now c.args.offset c.in_ok-line.line.items c.in_ok-line.ensures
    c.in_err-write_line.ensures.part in
    search rules

pub returns-in_err-summary-clause-part : goal.returns-in_err-summary-clause-part
returns-in_err-summary-clause-part g c =
    let part = fault_between (g.K.Sink.written c.args.sink.now) (g.K.Sink.written c.write_line.new.sink) (totals_view c.args.totals.now) c.args.name.now c.args.offset c.in_ok-line.line.items c.in_ok-line.ensures
    c.in_ok-write_line.ensures.ok in
    search rules

pub returns-in_err-write_line-2-clause-part : goal.returns-in_err-write_line-2-clause-part
returns-in_err-write_line-2-clause-part g c =
    let part = fault_last_cut (g.K.Sink.written c.args.sink.now) (g.K.Sink.written c.write_line.new.sink) (g.K.Sink.written c.write_line-2.new.sink) (totals_view c.args.totals.now) c.args.name.now c.args.offset
    c.in_ok-line.line.items c.in_ok-summary.summary.items c.in_ok-line.ensures c.in_ok-summary.ensures c.in_ok-write_line.ensures.ok c.in_err-write_line-2.ensures.part in
    search rules

pub returns-clause-ok : goal.returns-clause-ok
returns-clause-ok g c = (
  fault_done (g.K.Sink.written c.args.sink.now) (g.K.Sink.written c.write_line.new.sink) (g.K.Sink.written c.write_line-2.new.sink) (totals_view c.args.totals.now) c.args.name.now c.args.offset
      c.in_ok-line.line.items c.in_ok-summary.summary.items c.in_ok-line.ensures c.in_ok-summary.ensures c.in_ok-write_line.ensures.ok c.in_ok-write_line-2.ensures.ok,
  refl,
)
