-- A command: its answer, its calls, and the session after it (ACL2's manual, topic EVENTS).
use Rattle.std.specs.Prelude.{ℕ, ◌+◌, List, [], ◌∷◌, ◌++◌, map, Bool, true, false, Option, Some, None, codes, option_map, option_and_then, unwrap_or, nat_eq, if◌then◌else◌}
use Rattle.std.specs.Option.{option_map_or}
use Rattle.std.specs.Str.{bytes_eq}
use Rattle.std.specs.Map.{lookup}
use Rattle.model_objects.specs.Object.{Object, Integer, Symbol, Text, Pair}
use Rattle.model_symbols.specs.Symbols.{QualifiedName}
use Rattle.model_lists.specs.Lists.{StobjList}
use Rattle.model_lists.specs.Normal.{shown, held_cells}
use Rattle.model_terms.specs.Cores.{Core}
use Rattle.model_terms.specs.Worlds.{World, Stobj, Entry, Scope}
use Rattle.model_terms.specs.Faults.{Fault, expression_fault}
use Rattle.model_eval.specs.Outcomes.{Shown, Stop, Depth, Stobjs, here, State, Outcome, Gives, Stops, Unknown}
use Rattle.model_eval.specs.StobjLayouts.{new_list}
use Rattle.model_eval.specs.Checked.{checked, begun, live}
use Rattle.model_expansion.specs.Forms.{elements, symbol, symbol_name, is_keyword}
use Rattle.model_expansion.specs.Faults.{Refusal, BadShape, Expand, Thread, NotSupported}
use Rattle.model_expansion.specs.Expansion.{Setting, Progress, at_start, evaluated_to, Expanded, Makes, Fails, expanded}
use Rattle.model_stobjs.specs.Answers.{EventResult, Grants, Refuses, Halts}
use Rattle.model_stobjs.specs.Heads.{event_heads, is_skipped, is_unsupported}
use Rattle.model_events.specs.Events.{Environment, Limits, Said, Admitted, setting, admitted}
use Rattle.model_books.specs.Opening.{Session}
use Rattle.model_terms.specs.Classes.{has}

-- an answer, over any kind of symbols
pub data Answer (S : Type 0) : Type 0 where
  Event : Said → Answer S
  Skipped : Answer S
  Values : List (Shown S) → Answer S
  Show : Object S → Answer S
  Cells : ℕ → Answer S
  Refused : Refusal → Answer S
  Stopped : Stop S → Option ℕ → Answer S  -- also the outermost export that it came inside

pub record Answered : Type 0 where
  pub session : Session
  pub answer : Answer ℕ
  -- the calls, and those of them that no export made
  pub calls : ℕ
  pub outer : ℕ
  -- the outer call of the evaluation of the command's form before which abstract evaluation is cut to have done as much
  pub cut : ℕ

-- ---- the kinds of commands

-- how each kind of command is answered
pub record Ways (O : Type 0) : Type 0 where
  pub event : ℕ → Object ℕ → O  -- from its head and what stands behind it
  pub skipped : O
  pub refused : Refusal → O  -- a refusal that counts nothing and changes nothing
  pub expression : Object ℕ → O
  pub show : ℕ → Option O  -- a live stobj; None where none has the name
  pub cells : O

module _ {O : Type 0} (ways : Ways O) (symbols : List QualifiedName) where
  abbrev pub bad_shape : ℕ → O
  bad_shape head = ways.refused (Expand (BadShape head))

  abbrev pub only_symbol : Option (List (Object ℕ)) → Option ℕ
  only_symbol (Some (o ∷ [])) = symbol o
  only_symbol os = None

  abbrev pub cells_way : ℕ → Option (List (Object ℕ)) → O
  cells_way head (Some []) = ways.cells
  cells_way head os = bad_shape head

  abbrev pub keyword_way : ℕ → Object ℕ → O
  keyword_way head d =
      if bytes_eq (symbol_name symbols head) (codes "SHOW") then unwrap_or (option_and_then ways.show (only_symbol (elements d))) (bad_shape head)
      else if bytes_eq (symbol_name symbols head) (codes "CELLS") then cells_way head (elements d)
      else ways.refused (NotSupported head)

  abbrev pub headed_way : ℕ → Object ℕ → O
  headed_way head d =
      if has event_heads head then ways.event head d
      else if is_skipped head then ways.skipped
      else if is_unsupported head then ways.refused (NotSupported head)
      else if is_keyword symbols head then keyword_way head d
      else ways.expression (Pair (Symbol head) d)

  -- a pair is a command of its head, whatever stands behind it; any other form is an expression
  abbrev pub way_of : Object ℕ → O
  way_of (Integer n) = ways.expression (Integer n)
  way_of (Symbol x) = ways.expression (Symbol x)
  way_of (Text bytes) = ways.expression (Text bytes)
  way_of (Pair a d) = option_map_or (λ head. headed_way head d) (symbol a) (ways.expression (Pair a d))

-- ---- answers

-- each live stobj under its own name
abbrev pub live_scope : {S : Type 0} → Stobjs S → Scope
live_scope stobjs = map (λ o. record { name = o.0; kind = Stobj o.0 }) stobjs

module _ (bounds : Limits) (s : Session) where
  abbrev pub with_symbols : Progress → Session
  with_symbols p = record s { symbols = p.symbols }

  abbrev pub outcome : Session → Answer ℕ → Progress → Answered
  outcome after answer p = record { session = after; answer = answer; calls = p.calls; outer = p.outer; cut = p.cut }

  -- an answer that counts nothing and changes nothing
  abbrev pub at_once : Answer ℕ → Answered
  at_once answer = outcome s answer (at_start s.symbols)

  -- ---- events

  abbrev pub with_created : Environment → Option ℕ → Stobjs ℕ
  with_created environment None = s.stobjs
  with_created environment (Some x) = s.stobjs ++ (x, new_list environment.world x) ∷ []

  abbrev pub event_outcome : EventResult Admitted → Answered
  event_outcome (Grants a p) =
      outcome (record { environment = a.environment; symbols = p.symbols; stobjs = with_created a.environment a.created }) (Event a.said) p
  event_outcome (Refuses r p) = outcome (with_symbols p) (Refused r) p
  event_outcome (Halts stop inside p) = outcome (with_symbols p) (Stopped stop inside) p

  -- ---- expressions

  abbrev pub state_session : State ℕ → Session
  state_session state = record s { symbols = state.symbols; stobjs = state.stobjs }

  abbrev pub evaluated_outcome : Progress → Outcome ℕ → Answered
  evaluated_outcome p (Gives values state) = outcome (state_session state) (Values values) (evaluated_to p (here state) state)
  evaluated_outcome p (Stops stop origin state) = outcome (state_session state) (Stopped stop origin.inside) (evaluated_to p origin state)
  evaluated_outcome p Unknown = at_once (Stopped Depth None)

  abbrev pub core_outcome : Core → Progress → Option Fault → Answered
  core_outcome f p (Some fault) = outcome (with_symbols p) (Refused (Thread fault)) p
  core_outcome f p None =
      evaluated_outcome p (checked s.environment.world s.environment.packages bounds.steps bounds.depth f (live s.stobjs) (begun p.symbols s.stobjs p.calls))

  abbrev pub expanded_outcome : Expanded Core → Answered
  expanded_outcome (Makes f p) = core_outcome f p (expression_fault s.environment.world (live_scope s.stobjs) f)
  expanded_outcome (Fails fault p) = outcome (with_symbols p) (Refused (Expand fault)) p

  -- ---- `:SHOW` and `:CELLS`

  -- the list of a live stobj
  abbrev pub live_list : ℕ → Option (StobjList ℕ)
  live_list x = lookup (nat_eq x) s.stobjs

  abbrev pub all_cells : Stobjs ℕ → ℕ
  all_cells [] = 0
  all_cells (o ∷ os) = held_cells s.symbols o.1 + all_cells os

  -- ---- all commands

  abbrev pub ways : Ways Answered
  ways = record {
    event = λ head d. event_outcome (admitted s.environment bounds head d (at_start s.symbols));
    skipped = at_once Skipped;
    refused = λ r. at_once (Refused r);
    expression = λ form. expanded_outcome (expanded (setting s.environment bounds) form (at_start s.symbols));
    show = λ x. option_map (λ l. at_once (Show (shown s.symbols l))) (live_list x);
    cells = at_once (Cells (all_cells s.stobjs));
  }

  unfoldable pub command : Object ℕ → Answered
  command form = way_of ways s.symbols form
