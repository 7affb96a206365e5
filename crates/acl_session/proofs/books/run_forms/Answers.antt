use Rattle.std.specs.Prelude.{◌+◌, ◌-◌, ◌<◌, length, Some, None, Ok}
use Rattle.std.proofs.Common.{refl, sym, ap, ◌∙◌, subst, arith, rules}
use Rattle.model_symbols.specs.Symbols.{Table}
use Rattle.model_symbols.specs.Growth.{Extends}
use Rattle.model_symbols.specs.Opening.{opening}
use Rattle.model_symbols.proofs.TableLemmas.{Extends-self, Extends-then}
use Rattle.model_output_so_far.specs.Commands.{command_of}
use Rattle.model_output_so_far.specs.Sessions as sessions
use Rattle.model_output_so_far.specs.Output.{answers, no_totals, ended, faulty, cause_name}
use Rattle.acl_forms.specs.Forms.{form_at}
use Rattle.acl_read.specs.Reading.{unread, offset_of, Takes}
use Rattle.acl_answers.specs.Views.{session_view}
use Rattle.acl_session.specs.Runs.{Writing, totals_view}
use Rattle.acl_session.proofs.OutputLemmas.{writing_start, writing_as, writing_line, writing_cut, counts}
use Rattle.acl_session.proofs.BookLemmas.{turn_form, turn_end, turn_fault, left_first, calls_most}
use Rattle.acl_session.proofs.books.run_forms.Goals as goal

four_packages : 2 < length opening.packages
unfolding opening
four_packages = omega arith

pub loop-turn-init : goal.loop-turn-init
loop-turn-init g c =
    let e = c.in_ok-syms.ensures in
    let n = c.requires.none in
    record {
      opening = subst (Extends opening) (sym e) (Extends-self opening);
      session = record { current = subst (λ (t : Table). 2 < length t.packages) (sym e) four_packages; object = tt };
      fault = c.in_ok-reader.ensures.fault;
      ended = c.in_ok-reader.ensures.ended;
      fresh = c.in_ok-reader.ensures.fits;
      writing = writing_start (g.K.Sink.written c.args.sink.now) _ _ (left_first (length c.args.input.now + 1) ((length c.args.input.now + 1) - 0) _ (totals_view c.args.totals.now) (offset_of c.in_ok-reader.reader) (unread c.in_ok-reader.reader) c.args.input.now
          (omega arith) (ap (λ (t : Table). let s : sessions.Session = record { table = t; current = 2; object = None } in s) e) n c.in_ok-reader.ensures.offset c.in_ok-reader.ensures.unread);
      counts = omega arith;
      quiet = refl;
      start = c.mark-start.ensures ∙ ap length c.new-heap.ensures;
      commands = ap (λ t. t.commands) n;
      calls = omega (arith, ap (λ t. t.calls) n);
      errors = omega (arith, ap (λ t. t.errors) n);
    }

pub take-requires-clause-fits : goal.take-requires-clause-fits
take-requires-clause-fits g c = λ h. (c.loop-turn.syms.symbols, c.loop-turn.invariant.fresh c.loop-turn.syms c.loop-turn.session.current)

pub run_form-requires-clause-opening : goal.run_form-requires-clause-opening
run_form-requires-clause-opening g c = Extends-then c.loop-turn.invariant.opening c.in-Ok.ensures.grows.table

pub count-requires-clause-calls : goal.count-requires-clause-calls
count-requires-clause-calls g c =
    let k = calls_most (session_view c.take.new.syms c.loop-turn.session) (command_of (form_at c.take.new.syms c.take.new.heap c.in-Some.form)) in
    omega (arith, k, c.in_ok-answer-in-Some.ensures.answers.says.calls, c.loop-turn.invariant.calls, c.loop-turn-test.true, c.requires.short)

pub returns-in_err-write_line-in-Some-clause-part : goal.returns-in_err-write_line-in-Some-clause-part
returns-in_err-write_line-in-Some-clause-part g c =
    let i = c.loop-turn.invariant in
    let old = c.loop-turn.syms in
    let new = c.take.new.syms in
    let takes : Takes old.symbols new c.take.new.heap c.loop-turn.session.current c.loop-turn.reader c.take.new.self (Ok (Some c.in-Some.form)) =
    subst (λ f. Takes old.symbols new c.take.new.heap c.loop-turn.session.current c.loop-turn.reader c.take.new.self (Ok f)) c.in-Some.is (c.in-Ok.ensures.takes i.fault old.symbols (i.fresh old c.loop-turn.session.current)) in
    let part = writing_cut (g.K.Sink.written c.args.sink.now) (g.K.Sink.written c.loop-turn.sink) (g.K.Sink.written c.write_line.new.sink) c.in_ok-answer-in-Some.answer.line.items _ _ _ i.writing
    (turn_form old new c.take.new.heap c.loop-turn.session c.loop-turn.reader c.take.new.self (totals_view c.loop-turn.totals) i.ended c.in-Ok.ensures.packages
    ((length c.args.input.now + 1) - c.loop-turn.turn) ((length c.args.input.now + 1) - (c.loop-turn.turn + 1)) c.in-Some.form _ c.in_ok-answer-in-Some.answer (omega (arith, c.loop-turn-test.true))
    c.in-Ok.ensures.grows.table i.session takes c.in_ok-answer-in-Some.ensures.answers)
    c.in_err-write_line-in-Some.ensures.part in
    search rules

pub returns-in-None-clause-ok : goal.returns-in-None-clause-ok
returns-in-None-clause-ok g c =
    let i = c.loop-turn.invariant in
    let old = c.loop-turn.syms in
    let new = c.take.new.syms in
    let takes : Takes old.symbols new c.take.new.heap c.loop-turn.session.current c.loop-turn.reader c.take.new.self (Ok None) =
    subst (λ f. Takes old.symbols new c.take.new.heap c.loop-turn.session.current c.loop-turn.reader c.take.new.self (Ok f)) c.in-None.is (c.in-Ok.ensures.takes i.fault old.symbols (i.fresh old c.loop-turn.session.current)) in
    writing_as (g.K.Sink.written c.args.sink.now) (g.K.Sink.written c.loop-turn.sink) _ (ended (totals_view c.loop-turn.totals)) _ i.writing
    (turn_end old new c.take.new.heap c.loop-turn.session c.loop-turn.reader c.take.new.self (totals_view c.loop-turn.totals) i.ended c.in-Ok.ensures.packages
    ((length c.args.input.now + 1) - c.loop-turn.turn) ((length c.args.input.now + 1) - (c.loop-turn.turn + 1)) (omega (arith, c.loop-turn-test.true)) takes)

pub returns-in_default : goal.returns-in_default
returns-in_default g c =
    let i = c.loop-turn.invariant in
    let old = c.loop-turn.syms in
    let new = c.take.new.syms in
    let ok = writing_as (g.K.Sink.written c.args.sink.now) (g.K.Sink.written c.loop-turn.sink) _ (faulty (totals_view c.loop-turn.totals) (cause_name c.in-Err.fault.cause) c.in-Err.fault.offset) _ i.writing
    (turn_fault old new c.take.new.heap c.loop-turn.session c.loop-turn.reader c.take.new.self (totals_view c.loop-turn.totals) i.ended c.in-Err.ensures.packages
    ((length c.args.input.now + 1) - c.loop-turn.turn) ((length c.args.input.now + 1) - (c.loop-turn.turn + 1)) c.in-Err.fault (omega (arith, c.loop-turn-test.true)) c.in_default.not-Memory
    (c.in-Err.ensures.takes i.fault old.symbols (i.fresh old c.loop-turn.session.current))) in
    search rules

pub loop-turn-preserved : goal.loop-turn-preserved
loop-turn-preserved g c =
    let i = c.loop-turn.invariant in
    let old = c.loop-turn.syms in
    let new = c.take.new.syms in
    let takes : Takes old.symbols new c.take.new.heap c.loop-turn.session.current c.loop-turn.reader c.take.new.self (Ok (Some c.in-Some.form)) =
    subst (λ f. Takes old.symbols new c.take.new.heap c.loop-turn.session.current c.loop-turn.reader c.take.new.self (Ok f)) c.in-Some.is (c.in-Ok.ensures.takes i.fault old.symbols (i.fresh old c.loop-turn.session.current)) in
    let k = calls_most (session_view new c.loop-turn.session) (command_of (form_at new c.take.new.heap c.in-Some.form)) in
    let n = counts (totals_view c.loop-turn.totals) (totals_view c.count.new.self) c.in_ok-answer-in-Some.answer c.count.ensures in
    let more = writing_line (g.K.Sink.written c.args.sink.now) (g.K.Sink.written c.loop-turn.sink) (g.K.Sink.written c.write_line.new.sink) c.in_ok-answer-in-Some.answer.line.items _ _ _ i.writing
    (turn_form old new c.take.new.heap c.loop-turn.session c.loop-turn.reader c.take.new.self (totals_view c.loop-turn.totals) i.ended c.in-Ok.ensures.packages
    ((length c.args.input.now + 1) - c.loop-turn.turn) ((length c.args.input.now + 1) - (c.loop-turn.turn + 1)) c.in-Some.form _ c.in_ok-answer-in-Some.answer (omega (arith, c.loop-turn-test.true))
    c.in-Ok.ensures.grows.table i.session takes c.in_ok-answer-in-Some.ensures.answers)
    c.in_ok-write_line-in-Some.ensures.ok in
    record {
      opening = c.in_ok-answer-in-Some.ensures.opening;
      session = c.in_ok-answer-in-Some.ensures.session;
      fault = c.in-Ok.ensures.sound;
      ended = c.in-Ok.ensures.ended ∙ i.ended;
      fresh = takes.4;
      writing = subst (λ t. Writing (g.K.Sink.written c.args.sink.now) (g.K.Sink.written c.write_line.new.sink)
          (answers ((length c.args.input.now + 1) - (c.loop-turn.turn + 1)) (session_view c.run_form.new.syms c.run_form.new.session) t (offset_of c.take.new.self) (unread c.take.new.self))
          (answers (length c.args.input.now + 1) sessions.first_session no_totals 0 c.args.input.now)) (sym c.count.ensures) more;
      counts = omega (arith, i.counts, c.write_line.ensures.counts);
      quiet = c.in_ok-write_line-in-Some.ensures.quiet ∙ i.quiet;
      start = i.start;
      commands = omega (arith, n.commands, i.commands);
      calls = omega (arith, n.calls, k, c.in_ok-answer-in-Some.ensures.answers.says.calls, i.calls);
      errors = omega (arith, n.errors, i.errors);
    }
