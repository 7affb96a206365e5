-- The expression of a command has the value that the logic gives it, in every session that commands have made.
use Rattle.std.specs.Prelude.{◌≡◌, ℕ, map, length, None}
use Rattle.model_objects.specs.Object.{Object}
use Rattle.model_objects.specs.Named.{Knows}
use Rattle.model_prims.specs.Kinds.{by_name}
use Rattle.model_lists.specs.Lists.{as_object}
use Rattle.model_terms.specs.Cores.{Core}
use Rattle.model_terms.specs.Outputs.{outs}
use Rattle.model_terms.specs.Faults.{expression_fault}
use Rattle.model_eval.specs.Outcomes.{Stobjs}
use Rattle.model_eval.specs.Variables.{list_of}
use Rattle.model_eval.specs.Checked.{checked, begun, live}
use Rattle.model_expansion.specs.Expansion.{Progress, at_start, Makes, expanded}
use Rattle.model_events.specs.Events.{Limits, setting}
use Rattle.model_logic.specs.Logic.{Values}
use Rattle.model_abstract.specs.Corresponding.{Correspond}
use Rattle.model_follows.specs.Follows.{IfGives}
use Rattle.model_books.specs.Opening.{Session}
use Rattle.model_books.specs.Commands.{live_scope}
use Rattle.model_abstract_books.specs.Commands.{Lists, theory_of}
use Rattle.model_abstract_books.specs.Holding.{ObligationsHold}
use Rattle.model_made.specs.Made.{IsMade, knowing}
use Rattle.model_headline.specs.Logic.{LogicGives}

-- each live stobj under its own name
abbrev pub live_values : Stobjs ℕ → Lists → Values
live_values os lists = map (λ o. (o.0, as_object by_name (list_of lists o.0))) os

-- where the obligations hold and the lists correspond: what a command evaluates to is what the logic gives, and the lists
-- correspond afterwards
pub record ExpressionsFollow : Type 0 where
  pub follows : (k : Limits) (s : Session) → IsMade s → (form : Object ℕ) → Knows (length s.symbols) form
      → (f : Core) (p : Progress) → expanded (setting s.environment k) form (at_start s.symbols) ≡ Makes f p → expression_fault s.environment.world (live_scope s.stobjs) f ≡ None
      → ObligationsHold (theory_of s.environment p.symbols) → (lists : Lists) → Correspond (theory_of s.environment p.symbols) s.stobjs lists
      → IfGives (LogicGives (knowing s p.symbols) (live_scope s.stobjs) (outs s.environment.world (live_scope s.stobjs) f) f (live_values s.stobjs lists) lists)
      (checked s.environment.world s.environment.packages k.steps k.depth f (live s.stobjs) (begun p.symbols s.stobjs p.calls))
