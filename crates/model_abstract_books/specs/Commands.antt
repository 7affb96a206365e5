-- A command as abstract evaluation answers it: an abstract stobj is its abstract list, and an export is its logic function.
-- The world, its symbols, expansion and the rules are those of every command (ACL2's manual, topic DEFABSSTOBJ).
use Rattle.std.specs.Prelude.{◌≡◌, ℕ, ◌+◌, List, [], ◌∷◌, ◌++◌, Option, Some, None, nat_eq, option_map, option_and_then, if◌then◌else◌}
use Rattle.std.specs.Option.{option_or}
use Rattle.std.specs.Map.{lookup}
use Rattle.model_objects.specs.Object.{Object, Integer, Symbol, Text, Pair}
use Rattle.model_symbols.specs.Symbols.{QualifiedName, import_clash}
use Rattle.model_prims.specs.Kinds.{by_name, is_nil}
use Rattle.model_lists.specs.Lists.{StobjList, as_object}
use Rattle.model_lists.specs.Normal.{name_cmp, normal, list_cells}
use Rattle.model_terms.specs.Cores.{Core}
use Rattle.model_terms.specs.Faults.{Fault, expression_fault, constant_fault}
use Rattle.model_eval.specs.Outcomes.{Stobjs, State, Outcome, Gives, Stops, Unknown}
use Rattle.model_eval.specs.Variables.{single, object_of}
use Rattle.model_eval.specs.Checked.{live}
use Rattle.model_logic.specs.Logic.{Theory, Thing}
use Rattle.model_abstract.specs.Rules.{abstract_fresh, abstractly}
use Rattle.model_expansion.specs.Words.{defconst_word, defpkg_word}
use Rattle.model_expansion.specs.Forms.{elements, symbol_or_nil}
use Rattle.model_expansion.specs.Faults.{Refusal, BadShape, Expand, Thread}
use Rattle.model_expansion.specs.Expansion.{Progress, at_start, Expanded, Makes, Fails, expanded}
use Rattle.model_stobjs.specs.Answers.{EventResult, Grants, Refuses, Halts}
use Rattle.model_stobjs.specs.Heads.{name_in_use}
use Rattle.model_events.specs.Constants.{name_and_form, bad_constant_name, text_and_form, clash_refusal, exists_already}
use Rattle.model_events.specs.Events.{Environment, Limits, Admitted, Name, PackageName, setting, admitted}
use Rattle.model_books.specs.Opening.{Session}
use Rattle.model_abstract_books.specs.Answers.{stop_named}
use Rattle.model_books.specs.Commands.{Answer, Event, Skipped, Values, Show, Cells, Refused, Stopped, Ways, live_scope, way_of, command}

-- the list of each live stobj by its name, with symbols by name
abbrev pub Lists : Type 0
Lists = Stobjs QualifiedName

pub record AbstractOutcome : Type 0 where
  pub lists : Lists
  pub answer : Answer QualifiedName
  pub calls : ℕ
  pub value : Option Thing  -- of the constant that the command defined

abbrev pub theory_of : Environment → List QualifiedName → Theory
theory_of environment symbols = record { world = environment.world; packages = environment.packages; symbols = symbols }

abbrev pub with_value : Option (StobjList QualifiedName) → (StobjList QualifiedName → Option AbstractOutcome) → Option AbstractOutcome
with_value None go = None
with_value (Some l) go = go l

-- The standing and the symbols are those of the session; None where the budget of calls does not suffice for a value of the
-- logic.
module _ (budget : ℕ) (bounds : Limits) (s : Session) (lists : Lists) where
  abbrev pub outcome : Lists → Answer QualifiedName → ℕ → Option AbstractOutcome
  outcome after answer calls = Some (record { lists = after; answer = answer; calls = calls; value = None })

  abbrev pub at_once : Answer QualifiedName → Option AbstractOutcome
  at_once answer = outcome lists answer 0

  -- a refusal that keeps all lists
  abbrev pub refused : Refusal → Progress → Option AbstractOutcome
  refused r p = outcome lists (Refused r) p.outer

  abbrev pub unless_refused : Option Refusal → Progress → Option AbstractOutcome → Option AbstractOutcome
  unless_refused (Some r) p other = refused r p
  unless_refused None p other = other

  -- ---- events

  -- an event that makes a stobj
  abbrev pub created_outcome : Admitted → Progress → Option ℕ → Option AbstractOutcome
  created_outcome a p None = outcome lists (Event a.said) p.outer
  created_outcome a p (Some x) =
      with_value (abstract_fresh (theory_of a.environment p.symbols) budget x) (λ l. outcome (lists ++ (x, l) ∷ []) (Event a.said) p.outer)

  abbrev pub event_outcome : EventResult Admitted → Option AbstractOutcome
  event_outcome (Grants a p) = created_outcome a p a.created
  event_outcome (Refuses r p) = refused r p
  event_outcome (Halts stop inside p) = outcome lists (Stopped (stop_named p.symbols stop) inside) p.outer

  -- ---- what an expansion makes, evaluated on these lists, no call of an export's exec function being counted

  abbrev pub begun : Lists → Progress → State QualifiedName
  begun scope p = record { stobjs = scope; symbols = p.symbols; calls = p.outer; outer = 0 }

  abbrev pub evaluated_on : Lists → Core → Progress → Outcome QualifiedName
  evaluated_on scope f p = abstractly (theory_of s.environment p.symbols) budget bounds.steps bounds.depth f (live scope) (begun scope p)

  -- ---- constants and packages: their form is evaluated with no stobj in scope

  abbrev pub constant_ended : (Thing → ℕ → Option AbstractOutcome) → Outcome QualifiedName → Option AbstractOutcome
  constant_ended go (Gives values state) = go (object_of by_name (single by_name values)) state.calls
  constant_ended go (Stops stop origin state) = outcome lists (Stopped stop origin.inside) state.calls
  constant_ended go Unknown = None

  abbrev pub constant_made : (Thing → ℕ → Option AbstractOutcome) → Expanded Core → Option AbstractOutcome
  constant_made go (Makes f p) = unless_refused (option_map Thread (constant_fault s.environment.world f)) p (constant_ended go (evaluated_on [] f p))
  constant_made go (Fails fault p) = refused (Expand fault) p

  abbrev pub constant_value : Object ℕ → (Thing → ℕ → Option AbstractOutcome) → Option AbstractOutcome
  constant_value form go = constant_made go (expanded (setting s.environment bounds) form (at_start s.symbols))

  abbrev pub constant_outcome : Option (Object ℕ × Object ℕ) → Option AbstractOutcome
  constant_outcome None = refused (Expand (BadShape defconst_word)) (at_start s.symbols)
  constant_outcome (Some c) =
      unless_refused (option_or (bad_constant_name s.symbols c.0) (name_in_use s.environment.world (symbol_or_nil c.0 ∷ []))) (at_start s.symbols)
      (constant_value c.1 (λ v calls. Some (record { lists = lists; answer = Event (Name (symbol_or_nil c.0)); calls = calls; value = Some v })))

  -- the symbols of a true list of symbols
  abbrev pub names_in : Thing → Option (List QualifiedName)
  names_in (Integer n) = None
  names_in (Symbol q) = if is_nil by_name (Symbol q) then Some [] else None
  names_in (Text bytes) = None
  names_in (Pair (Integer n) d) = None
  names_in (Pair (Symbol q) d) = option_map (λ qs. q ∷ qs) (names_in d)
  names_in (Pair (Text bytes) d) = None
  names_in (Pair (Pair a b) d) = None

  abbrev pub package_refusal : List QualifiedName → List ℕ → Option (List QualifiedName) → Option Refusal
  package_refusal symbols name None = Some (Expand (BadShape defpkg_word))
  package_refusal symbols name (Some imports) =
      option_or (exists_already s.environment.packages name) (option_map (clash_refusal symbols) (import_clash imports))

  abbrev pub package_answer : List ℕ → Option Refusal → Answer QualifiedName
  package_answer name None = Event (PackageName name)
  package_answer name (Some r) = Refused r

  -- the symbols of a clash are told by their numbers after the command
  abbrev pub package_outcome : List QualifiedName → Option (List ℕ × Object ℕ) → Option AbstractOutcome
  package_outcome symbols None = refused (Expand (BadShape defpkg_word)) (at_start s.symbols)
  package_outcome symbols (Some c) =
      constant_value c.1 (λ v calls. outcome lists (package_answer c.0 (package_refusal symbols c.0 (names_in v))) calls)

  -- ---- expressions

  abbrev pub evaluated_outcome : Outcome QualifiedName → Option AbstractOutcome
  evaluated_outcome (Gives values state) = outcome state.stobjs (Values values) state.calls
  evaluated_outcome (Stops stop origin state) = outcome state.stobjs (Stopped stop origin.inside) state.calls
  evaluated_outcome Unknown = None

  abbrev pub core_outcome : Core → Progress → Option Fault → Option AbstractOutcome
  core_outcome f p (Some fault) = refused (Thread fault) p
  core_outcome f p None = evaluated_outcome (evaluated_on lists f p)

  abbrev pub expanded_outcome : Expanded Core → Option AbstractOutcome
  expanded_outcome (Makes f p) = core_outcome f p (expression_fault s.environment.world (live_scope lists) f)
  expanded_outcome (Fails fault p) = refused (Expand fault) p

  -- ---- `:SHOW` and `:CELLS`

  abbrev pub shown_object : StobjList QualifiedName → Object QualifiedName
  shown_object l = as_object by_name (normal name_cmp l)

  abbrev pub live_list : ℕ → Option (StobjList QualifiedName)
  live_list x = lookup (nat_eq x) lists

  abbrev pub all_cells : Lists → ℕ
  all_cells [] = 0
  all_cells (o ∷ os) = list_cells (normal name_cmp o.1) + all_cells os

  -- ---- all commands

  abbrev pub event_way : ℕ → Object ℕ → Option AbstractOutcome
  event_way head d =
      if nat_eq head defconst_word then constant_outcome (option_and_then name_and_form (elements d))
      else if nat_eq head defpkg_word then package_outcome (command bounds s (Pair (Symbol head) d)).session.symbols (text_and_form d)
      else event_outcome (admitted s.environment bounds head d (at_start s.symbols))

  abbrev pub ways : Ways (Option AbstractOutcome)
  ways = record {
    event = event_way;
    skipped = at_once Skipped;
    refused = λ r. at_once (Refused r);
    expression = λ form. expanded_outcome (expanded (setting s.environment bounds) form (at_start s.symbols));
    show = λ x. option_map (λ l. at_once (Show (shown_object l))) (live_list x);
    cells = at_once (Cells (all_cells lists));
  }

  unfoldable pub abstract_command : Object ℕ → Option AbstractOutcome
  abstract_command form = way_of ways s.symbols form

-- some budget gives the outcome
abbrev pub AnswersAbstractly : Limits → Session → Lists → Object ℕ → AbstractOutcome → Type 0
AnswersAbstractly bounds s lists form o = (budget : ℕ) × (abstract_command budget bounds s lists form ≡ Some o)
