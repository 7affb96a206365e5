-- A command counts calls up to its limit, and adds symbols.
use Rattle.std.proofs.Common.{◌≡◌, ℕ, ◌≤◌, List, [], ◌++◌, Option, Some, None, sym, arith}
use Rattle.std.specs.Prelude.{option_map}
use Rattle.std.proofs.lemmas.List.{append-nil}
use Rattle.model_objects.specs.Object.{Object}
use Rattle.model_symbols.specs.Symbols.{QualifiedName}
use Rattle.model_lists.specs.Lists.{StobjList}
use Rattle.model_terms.specs.Cores.{Core}
use Rattle.model_terms.specs.Faults.{Fault, expression_fault}
use Rattle.model_eval.specs.Outcomes.{State, Outcome, Gives, Stops, Unknown, here, Origin}
use Rattle.model_eval.specs.Checked.{begun, live}
use Rattle.model_eval_laws.specs.Counting.{Grown, Counts}
use Rattle.model_eval_laws.proofs.Counts.{longer_then}
use Rattle.model_eval_laws.proofs.CountLemmas.{counts_calls}
use Rattle.model_expansion.specs.Expansion.{Progress, evaluated_to, Expanded, Makes, Fails, at_start}
use Rattle.model_expansion_laws.specs.Counting.{Advanced, Advances}
use Rattle.model_expansion_laws.proofs.CountLemmas.{expansion_counts}
use Rattle.model_stobjs.specs.Answers.{EventResult, Grants, Refuses, Halts}
use Rattle.model_events.specs.Events.{Limits, Admitted, setting, admitted}
use Rattle.model_books.specs.Opening.{Session}
use Rattle.model_books.specs.Commands.{Answer, Answered, live_scope, outcome, state_session, at_once, event_outcome, evaluated_outcome, core_outcome, expanded_outcome, live_list, ways, command}
use Rattle.model_books_laws.specs.Counting.{CommandsCount}
use Rattle.model_books_laws.proofs.AnswerLemmas.{Answers}
use Rattle.model_books_laws.proofs.EventLemmas.{answers_admitted}
use Rattle.model_books_laws.proofs.WayLemmas.{ShowHolds, AllWays, way_holds}

-- ---- what a command counts

module _ (k : Limits) (s : Session) where
  record IsCounted (o : Answered) : Type 0 where
    counted : o.calls ≤ k.steps
    outer : o.outer ≤ o.calls
    symbols : (added : List QualifiedName) × (o.session.symbols ≡ s.symbols ++ added)

  counted_at_once : (answer : Answer ℕ) → IsCounted (at_once k s answer)
  counted_at_once answer = record { counted = omega arith; outer = omega arith; symbols = ([], sym (append-nil s.symbols)) }

  counted_event : (a : EventResult Admitted) → Answers k.steps (at_start s.symbols) a → IsCounted (event_outcome k s a)
  counted_event (Grants a p) h = record { counted = h.within (omega arith); outer = omega (arith, h.outer_calls); symbols = h.symbols }
  counted_event (Refuses r p) h = record { counted = h.within (omega arith); outer = omega (arith, h.outer_calls); symbols = h.symbols }
  counted_event (Halts stop inside p) h = record { counted = h.within (omega arith); outer = omega (arith, h.outer_calls); symbols = h.symbols }

  counted_state : (p : Progress) (origin : Origin) (state : State ℕ) (answer : Answer ℕ) → Advanced k.steps (at_start s.symbols) p → Grown k.steps (begun p.symbols s.stobjs p.calls) state → IsCounted (outcome k s (state_session k s state) answer (evaluated_to p origin state))
  counted_state p origin state answer g h = record {
    counted = h.within (g.within (omega arith));
    outer = omega (arith, g.outer_calls, h.outer_calls);
    symbols = longer_then s.symbols p.symbols state.symbols g.symbols h.symbols;
  }

  counted_evaluated : (p : Progress) (e : Outcome ℕ) → Advanced k.steps (at_start s.symbols) p → Counts k.steps (begun p.symbols s.stobjs p.calls) e → IsCounted (evaluated_outcome k s p e)
  counted_evaluated p (Gives values state) g h = counted_state p (here state) state _ g h
  counted_evaluated p (Stops stop origin state) g h = counted_state p origin state _ g h.0
  counted_evaluated p Unknown g h = absurd h

  counted_core : (f : Core) (p : Progress) (fault : Option Fault) → Advanced k.steps (at_start s.symbols) p → IsCounted (core_outcome k s f p fault)
  counted_core f p (Some fault) g = record { counted = g.within (omega arith); outer = omega (arith, g.outer_calls); symbols = g.symbols }
  counted_core f p None g =
      counted_evaluated p _ g (counts_calls.counts s.environment.world s.environment.packages k.steps k.depth f (live s.stobjs) (begun p.symbols s.stobjs p.calls))

  counted_expanded : (e : Expanded Core) → Advances k.steps (at_start s.symbols) e → IsCounted (expanded_outcome k s e)
  counted_expanded (Makes f p) h = counted_core f p (expression_fault s.environment.world (live_scope s.stobjs) f) h
  counted_expanded (Fails fault p) h = record { counted = h.0.within (omega arith); outer = omega (arith, h.0.outer_calls); symbols = h.0.symbols }

  counted_list : (l : Option (StobjList ℕ)) (answer : StobjList ℕ → Answer ℕ) → ShowHolds IsCounted (ways k s) s.symbols (option_map (λ m. at_once k s (answer m)) l)
  counted_list None answer = tt
  counted_list (Some l) answer = counted_at_once (answer l)

  ways_counted : AllWays IsCounted (ways k s) s.symbols
  ways_counted = record {
    event = λ head d. counted_event (admitted s.environment k head d (at_start s.symbols)) (answers_admitted s.environment k head d (at_start s.symbols));
    skipped = counted_at_once _;
    refused = λ r. counted_at_once _;
    expression = λ form. counted_expanded _ (expansion_counts.form (setting s.environment k) form (at_start s.symbols));
    show = λ x. counted_list (live_list k s x) _;
    cells = counted_at_once _;
  }

  counted_command : (form : Object ℕ) → IsCounted (command k s form)
  unfolding command
  counted_command form = way_holds IsCounted (ways k s) s.symbols ways_counted form

pub commands_count : CommandsCount
commands_count = record {
  calls = λ k s form. (counted_command k s form).counted;
  outer = λ k s form. (counted_command k s form).outer;
  symbols = λ k s form. (counted_command k s form).symbols;
}
