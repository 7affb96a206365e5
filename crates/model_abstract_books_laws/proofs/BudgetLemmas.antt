-- A command is answered alike at every larger budget.
use Rattle.std.proofs.Common.{◌≡◌, ◌∙◌, ℕ, ◌≤◌, [], ◌∷◌, Bool, true, false, Option, Some, None, refl, sym, arith, inl, inr}
use Rattle.std.specs.Prelude.{List, nat_eq, option_map, option_and_then, if◌then◌else◌}
use Rattle.std.specs.Option.{option_map_or, option_or}
use Rattle.std.proofs.lemmas.Bool.{cases_lt}
use Rattle.model_objects.specs.Object.{Object, Integer, Symbol, Text, Pair}
use Rattle.model_symbols.specs.Symbols.{QualifiedName}
use Rattle.model_lists.specs.Lists.{StobjList}
use Rattle.model_terms.specs.Cores.{Core}
use Rattle.model_terms.specs.Faults.{Fault, expression_fault, constant_fault}
use Rattle.model_eval.specs.Outcomes.{Outcome, Gives, Stops, Unknown}
use Rattle.model_eval.specs.Checked.{live}
use Rattle.model_abstract.specs.Rules.{abstract_fresh}
use Rattle.model_abstract_laws.specs.Budgets.{HasOutcome}
use Rattle.model_abstract_laws.proofs.AbstractBudgetLemmas.{abstract_budgets_agree}
use Rattle.model_logic.specs.Logic.{Thing}
use Rattle.model_expansion.specs.Words.{defconst_word, defpkg_word}
use Rattle.model_expansion.specs.Faults.{Refusal, Thread}
use Rattle.model_expansion.specs.Forms.{elements, symbol, is_keyword, symbol_or_nil}
use Rattle.model_expansion.specs.Expansion.{Progress, Expanded, Makes, Fails, expanded}
use Rattle.model_stobjs.specs.Answers.{EventResult, Grants, Refuses, Halts}
use Rattle.model_stobjs.specs.Heads.{event_heads, is_skipped, is_unsupported, name_in_use}
use Rattle.model_events.specs.Constants.{name_and_form, bad_constant_name, text_and_form}
use Rattle.model_events.specs.Events.{Limits, Admitted, Name, setting, admitted}
use Rattle.model_books.specs.Opening.{Session}
use Rattle.model_books.specs.Commands.{Event, Ways, live_scope, keyword_way, headed_way, way_of, command}
use Rattle.model_expansion.specs.Expansion.{at_start}
use Rattle.model_abstract_books.specs.Commands.{Lists, AbstractOutcome, theory_of, with_value, created_outcome, event_outcome, evaluated_outcome, begun, evaluated_on, outcome, unless_refused, constant_ended, constant_made, constant_outcome, names_in, package_refusal, package_answer, package_outcome, event_way, core_outcome, expanded_outcome, ways, abstract_command, AnswersAbstractly}
use Rattle.model_abstract_books_laws.specs.Laws.{AnswersAreDetermined}
use Rattle.model_terms.specs.Classes.{has}

-- the second is the first, where the first is an outcome
abbrev Kept : Option AbstractOutcome → Option AbstractOutcome → Type 0
Kept None y = Unit {0}
Kept (Some o) y = y ≡ Some o

kept_same : (x : Option AbstractOutcome) → Kept x x
kept_same None = tt
kept_same (Some o) = refl

kept_if : (b : Bool) (x y z w : Option AbstractOutcome) → Kept x z → Kept y w → Kept (if b then x else y) (if b then z else w)
kept_if true x y z w h k = h
kept_if false x y z w h k = k

from_kept : (x y : Option AbstractOutcome) (o : AbstractOutcome) → Kept x y → x ≡ Some o → y ≡ Some o
from_kept None y o h e = cc
from_kept (Some p) y o h e = h ∙ e

-- ---- the kinds of commands

module _ (w : Ways (Option AbstractOutcome)) (event : ℕ → Object ℕ → Option AbstractOutcome) (expression : Object ℕ → Option AbstractOutcome) (symbols : List QualifiedName) (events : (head : ℕ) (d : Object ℕ) → Kept (w.event head d) (event head d)) (expressions : (form : Object ℕ) → Kept (w.expression form) (expression form)) where
  -- the same with other events and expressions
  abbrev fuller : Ways (Option AbstractOutcome)
  fuller = record { event = event; skipped = w.skipped; refused = w.refused; expression = expression; show = w.show; cells = w.cells }

  headed_kept : (head : ℕ) (d : Object ℕ) → Kept (headed_way w symbols head d) (headed_way fuller symbols head d)
  headed_kept head d =
      kept_if (has event_heads head) _ _ _ _ (events head d)
      (kept_if (is_skipped head) _ _ _ _ (kept_same w.skipped)
      (kept_if (is_unsupported head) _ _ _ _ (kept_same _)
      (kept_if (is_keyword symbols head) _ _ _ _ (kept_same (keyword_way w symbols head d)) (expressions (Pair (Symbol head) d)))))

  pair_kept : (head : Option ℕ) (a d : Object ℕ) → Kept (option_map_or (λ h. headed_way w symbols h d) head (w.expression (Pair a d))) (option_map_or (λ h. headed_way fuller symbols h d) head (expression (Pair a d)))
  pair_kept None a d = expressions (Pair a d)
  pair_kept (Some head) a d = headed_kept head d

  way_kept : (form : Object ℕ) → Kept (way_of w symbols form) (way_of fuller symbols form)
  way_kept (Integer n) = expressions (Integer n)
  way_kept (Symbol x) = expressions (Symbol x)
  way_kept (Text bytes) = expressions (Text bytes)
  way_kept (Pair a d) = pair_kept (symbol a) a d

-- ---- the two that depend on the budget

value_kept : (x y : Option (StobjList QualifiedName)) (go : StobjList QualifiedName → Option AbstractOutcome) → ((l : StobjList QualifiedName) → x ≡ Some l → y ≡ Some l) → Kept (with_value x go) (with_value y go)
value_kept None y go h = tt
value_kept (Some l) y go h = rw (h l refl) (kept_same (go l))

module _ (m n : ℕ) (larger : m ≤ n) (k : Limits) (s : Session) (lists : Lists) where
  created_kept : (a : Admitted) (p : Progress) (x : Option ℕ) → Kept (created_outcome m k s lists a p x) (created_outcome n k s lists a p x)
  created_kept a p None = refl
  created_kept a p (Some x) =
      value_kept (abstract_fresh (theory_of a.environment p.symbols) m x) (abstract_fresh (theory_of a.environment p.symbols) n x) _
      (λ l. abstract_budgets_agree.fresh (theory_of a.environment p.symbols) m n x l larger)

  event_kept : (a : EventResult Admitted) → Kept (event_outcome m k s lists a) (event_outcome n k s lists a)
  event_kept (Grants a p) = created_kept a p a.created
  event_kept (Refuses r p) = refl
  event_kept (Halts stop inside p) = refl

  evaluated_kept : (r t : Outcome QualifiedName) → (HasOutcome r → t ≡ r) → Kept (evaluated_outcome m k s lists r) (evaluated_outcome n k s lists t)
  evaluated_kept (Gives values state) t h = rw (h tt) refl
  evaluated_kept (Stops stop inside state) t h = rw (h tt) refl
  evaluated_kept Unknown t h = tt

  on_kept : (scope : Lists) (f : Core) (p : Progress) → HasOutcome (evaluated_on m k s lists scope f p) → evaluated_on n k s lists scope f p ≡ evaluated_on m k s lists scope f p
  on_kept scope f p = abstract_budgets_agree.same (theory_of s.environment p.symbols) m n k.steps k.depth f (live scope) (begun m k s lists scope p) larger

  -- ---- constants and packages

  unless_kept : (r : Option Refusal) (p : Progress) (x y : Option AbstractOutcome) → Kept x y → Kept (unless_refused m k s lists r p x) (unless_refused n k s lists r p y)
  unless_kept (Some r) p x y h = refl
  unless_kept None p x y h = h

  ended_kept : (go : Thing → ℕ → Option AbstractOutcome) (r t : Outcome QualifiedName) → (HasOutcome r → t ≡ r) → Kept (constant_ended m k s lists go r) (constant_ended n k s lists go t)
  ended_kept go (Gives values state) t h = rw (h tt) (kept_same _)
  ended_kept go (Stops stop inside state) t h = rw (h tt) refl
  ended_kept go Unknown t h = tt

  made_kept : (go : Thing → ℕ → Option AbstractOutcome) (x : Expanded Core) → Kept (constant_made m k s lists go x) (constant_made n k s lists go x)
  made_kept go (Makes f p) =
      unless_kept (option_map Thread (constant_fault s.environment.world f)) p _ _
      (ended_kept go (evaluated_on m k s lists [] f p) (evaluated_on n k s lists [] f p) (on_kept [] f p))
  made_kept go (Fails fault p) = refl

  constant_kept : (c : Option (Object ℕ × Object ℕ)) → Kept (constant_outcome m k s lists c) (constant_outcome n k s lists c)
  constant_kept None = refl
  constant_kept (Some c) =
      unless_kept (option_or (bad_constant_name s.symbols c.0) (name_in_use s.environment.world (symbol_or_nil c.0 ∷ []))) (at_start s.symbols) _ _
      (made_kept (λ v calls. Some (record { lists = lists; answer = Event (Name (symbol_or_nil c.0)); calls = calls; value = Some v })) (expanded (setting s.environment k) c.1 (at_start s.symbols)))

  package_kept : (symbols : List QualifiedName) (c : Option (List ℕ × Object ℕ)) → Kept (package_outcome m k s lists symbols c) (package_outcome n k s lists symbols c)
  package_kept symbols None = refl
  package_kept symbols (Some c) =
      made_kept (λ v calls. outcome m k s lists lists (package_answer m k s lists c.0 (package_refusal m k s lists symbols c.0 (names_in m k s lists v))) calls)
      (expanded (setting s.environment k) c.1 (at_start s.symbols))

  events_kept : (head : ℕ) (d : Object ℕ) → Kept (event_way m k s lists head d) (event_way n k s lists head d)
  events_kept head d =
      kept_if (nat_eq head defconst_word) _ _ _ _ (constant_kept (option_and_then name_and_form (elements d)))
      (kept_if (nat_eq head defpkg_word) _ _ _ _ (package_kept (command k s (Pair (Symbol head) d)).session.symbols (text_and_form d))
      (event_kept (admitted s.environment k head d (at_start s.symbols))))

  -- ---- expressions

  core_kept : (f : Core) (p : Progress) (fault : Option Fault) → Kept (core_outcome m k s lists f p fault) (core_outcome n k s lists f p fault)
  core_kept f p (Some fault) = refl
  core_kept f p None =
      evaluated_kept (evaluated_on m k s lists lists f p) (evaluated_on n k s lists lists f p) (on_kept lists f p)

  expanded_kept : (x : Expanded Core) → Kept (expanded_outcome m k s lists x) (expanded_outcome n k s lists x)
  expanded_kept (Makes f p) = core_kept f p (expression_fault s.environment.world (live_scope lists) f)
  expanded_kept (Fails fault p) = refl

  command_kept : (form : Object ℕ) → Kept (abstract_command m k s lists form) (abstract_command n k s lists form)
  unfolding abstract_command
  command_kept form =
      way_kept (ways m k s lists) (ways n k s lists).event (ways n k s lists).expression s.symbols
      events_kept
      (λ f. expanded_kept (expanded (setting s.environment k) f (at_start s.symbols))) form

-- ---- the laws

same_answer : (m n : ℕ) (k : Limits) (s : Session) (lists : Lists) (form : Object ℕ) (o : AbstractOutcome) → m ≤ n → abstract_command m k s lists form ≡ Some o → abstract_command n k s lists form ≡ Some o
same_answer m n k s lists form o larger = from_kept _ _ o (command_kept m n larger k s lists form)

same_some : (o p : AbstractOutcome) → Some o ≡ Some p → o ≡ p
same_some o p e = cc

-- of two budgets the larger gives both
one_answer : (k : Limits) (s : Session) (lists : Lists) (form : Object ℕ) (o p : AbstractOutcome) → AnswersAbstractly k s lists form o → AnswersAbstractly k s lists form p → o ≡ p
one_answer k s lists form o p x y = elim (cases_lt x.0 y.0) [
  | inl h ↦ same_some o p (sym (same_answer x.0 y.0 k s lists form o (omega (arith, h)) x.1) ∙ y.1)
  | inr h ↦ same_some o p (sym x.1 ∙ same_answer y.0 x.0 k s lists form p h y.1)
]

pub answers_are_determined : AnswersAreDetermined
answers_are_determined = record { same = same_answer; one = one_answer }
