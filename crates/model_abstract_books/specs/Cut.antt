-- Abstract evaluation of a command that is cut before one of its outer calls: what its lists are after a command that stopped
-- at a limit or inside an export (ACL2's manual, topic DEFABSSTOBJ).
use Rattle.std.specs.Prelude.{ℕ, ◌+◌, ◌-◌, min, Option, Some, None, option_map}
use Rattle.model_objects.specs.Object.{Object}
use Rattle.model_symbols.specs.Symbols.{QualifiedName}
use Rattle.model_terms.specs.Cores.{Core}
use Rattle.model_terms.specs.Faults.{Fault, expression_fault}
use Rattle.model_eval.specs.Outcomes.{Outcome, Gives, Stops, Unknown}
use Rattle.model_expansion.specs.Expansion.{Progress, at_start, Expanded, Makes, Fails, expanded}
use Rattle.model_events.specs.Events.{Limits, setting}
use Rattle.model_books.specs.Opening.{Session}
use Rattle.model_books.specs.Commands.{Ways, live_scope, way_of}
use Rattle.model_abstract_books.specs.Commands.{Lists, evaluated_on, live_list}

abbrev pub lists_after : Outcome QualifiedName → Option Lists
lists_after (Gives values state) = Some state.stobjs
lists_after (Stops stop origin state) = Some state.stobjs
lists_after Unknown = None

-- as evaluation on these lists that stops where it would count its outer call of this number, counted from 1
module _ (budget : ℕ) (bounds : Limits) (s : Session) (lists : Lists) (number : ℕ) where
  abbrev pub before_call : Progress → Limits
  before_call p = record bounds { steps = min bounds.steps (p.outer + (number - 1)) }

  abbrev pub core_cut : Core → Progress → Option Fault → Option Lists
  core_cut f p (Some fault) = Some lists
  core_cut f p None = lists_after (evaluated_on budget (before_call p) s lists lists f p)

  abbrev pub expanded_cut : Expanded Core → Option Lists
  expanded_cut (Makes f p) = core_cut f p (expression_fault s.environment.world (live_scope lists) f)
  expanded_cut (Fails fault p) = Some lists

  -- the lists of a command in which no form over stobjs is evaluated are as they were
  abbrev pub ways_cut : Ways (Option Lists)
  ways_cut = record {
    event = λ head d. Some lists;
    skipped = Some lists;
    refused = λ r. Some lists;
    expression = λ form. expanded_cut (expanded (setting s.environment bounds) form (at_start s.symbols));
    show = λ x. option_map (λ l. Some lists) (live_list budget bounds s lists x);
    cells = Some lists;
  }

  -- None where the budget does not suffice
  unfoldable pub command_cut : Object ℕ → Option Lists
  command_cut form = way_of ways_cut s.symbols form
