-- What abstract answers keep, and what they count.
use Rattle.std.proofs.Common.{◌≡◌, ℕ, ◌≤◌, List, [], ◌∷◌, ◌++◌, Bool, true, false, Option, Some, None, refl, sym, subst, arith}
use Rattle.std.specs.Prelude.{nat_eq, option_map, option_and_then, if◌then◌else◌}
use Rattle.std.specs.Option.{option_or}
use Rattle.std.proofs.lemmas.List.{append-nil}
use Rattle.model_objects.specs.Object.{Object, Symbol, Pair}
use Rattle.model_symbols.specs.Symbols.{QualifiedName}
use Rattle.model_lists.specs.Lists.{StobjList}
use Rattle.model_terms.specs.Cores.{Core}
use Rattle.model_terms.specs.Faults.{Fault, expression_fault, constant_fault}
use Rattle.model_eval.specs.Outcomes.{Outcome, Gives, Stops, Unknown}
use Rattle.model_eval.specs.Checked.{live}
use Rattle.model_abstract.specs.Rules.{abstract_fresh}
use Rattle.model_logic.specs.Logic.{Thing}
use Rattle.model_abstract_laws.specs.Budgets.{HasOutcome}
use Rattle.model_eval_laws.specs.Counting.{Counts}
use Rattle.model_abstract_laws.proofs.AbstractCountLemmas.{abstract_counts_calls}
use Rattle.model_expansion.specs.Words.{defconst_word, defpkg_word}
use Rattle.model_expansion.specs.Faults.{Refusal, Thread}
use Rattle.model_expansion.specs.Forms.{elements, symbol_or_nil}
use Rattle.model_expansion.specs.Expansion.{Progress, Expanded, Makes, Fails, expanded}
use Rattle.model_expansion_laws.specs.Counting.{Advanced, Advances}
use Rattle.model_expansion_laws.proofs.CountLemmas.{expansion_counts}
use Rattle.model_books_laws.proofs.AnswerLemmas.{Answers}
use Rattle.model_books_laws.proofs.EventLemmas.{answers_admitted}
use Rattle.model_stobjs.specs.Answers.{EventResult, Grants, Refuses, Halts}
use Rattle.model_stobjs.specs.Heads.{name_in_use}
use Rattle.model_events.specs.Constants.{name_and_form, bad_constant_name, text_and_form}
use Rattle.model_events.specs.Events.{Limits, Admitted, Name, setting, admitted}
use Rattle.model_books.specs.Opening.{Session}
use Rattle.model_books.specs.Commands.{Event, Show, live_scope, command}
use Rattle.model_expansion.specs.Expansion.{at_start}
use Rattle.model_abstract_books.specs.Commands.{Lists, AbstractOutcome, theory_of, with_value, at_once, created_outcome, event_outcome, evaluated_outcome, begun, evaluated_on, outcome, unless_refused, constant_ended, constant_made, constant_outcome, names_in, package_refusal, package_answer, package_outcome, event_way, core_outcome, expanded_outcome, shown_object, live_list, ways, abstract_command}
use Rattle.model_abstract_books_laws.specs.Laws.{KeepsLists, AnswersKeepLists, AnswersCountWithin}
use Rattle.model_books_laws.proofs.WayLemmas.{ShowHolds, AllWays, way_holds}

-- ---- lists

module _ (lists : Lists) where
  abbrev Keeps : Option AbstractOutcome → Type 0
  Keeps None = Unit {0}
  Keeps (Some o) = KeepsLists lists o.lists o.answer

  keeps_created : (a : Admitted) (calls : ℕ) (x : ℕ) (l : Option (StobjList QualifiedName)) → Keeps (with_value l (λ l. Some (record { lists = lists ++ (x, l) ∷ []; answer = Event a.said; calls = calls; value = None })))
  keeps_created a calls x None = tt
  keeps_created a calls x (Some l) = ((x, l) ∷ [], refl)

  module _ (m : ℕ) (k : Limits) (s : Session) where
    keeps_made : (a : Admitted) (p : Progress) (x : Option ℕ) → Keeps (created_outcome m k s lists a p x)
    keeps_made a p None = ([], sym (append-nil lists))
    keeps_made a p (Some x) = keeps_created a p.outer x (abstract_fresh (theory_of a.environment p.symbols) m x)

    keeps_event : (a : EventResult Admitted) → Keeps (event_outcome m k s lists a)
    keeps_event (Grants a p) = keeps_made a p a.created
    keeps_event (Refuses r p) = refl
    keeps_event (Halts stop inside p) = tt

    -- ---- constants and packages

    keeps_unless : (r : Option Refusal) (p : Progress) (x : Option AbstractOutcome) → Keeps x → Keeps (unless_refused m k s lists r p x)
    keeps_unless (Some r) p x h = refl
    keeps_unless None p x h = h

    keeps_ended : (go : Thing → ℕ → Option AbstractOutcome) (r : Outcome QualifiedName) → ((v : Thing) (n : ℕ) → Keeps (go v n)) → Keeps (constant_ended m k s lists go r)
    keeps_ended go (Gives values state) h = h _ _
    keeps_ended go (Stops stop inside state) h = tt
    keeps_ended go Unknown h = tt

    keeps_constant_made : (go : Thing → ℕ → Option AbstractOutcome) (x : Expanded Core) → ((v : Thing) (n : ℕ) → Keeps (go v n)) → Keeps (constant_made m k s lists go x)
    keeps_constant_made go (Makes f p) h =
        keeps_unless (option_map Thread (constant_fault s.environment.world f)) p _ (keeps_ended go (evaluated_on m k s lists [] f p) h)
    keeps_constant_made go (Fails fault p) h = refl

    keeps_constant : (c : Option (Object ℕ × Object ℕ)) → Keeps (constant_outcome m k s lists c)
    keeps_constant None = refl
    keeps_constant (Some c) =
        keeps_unless (option_or (bad_constant_name s.symbols c.0) (name_in_use s.environment.world (symbol_or_nil c.0 ∷ []))) (at_start s.symbols) _
        (keeps_constant_made (λ v n. Some (record { lists = lists; answer = Event (Name (symbol_or_nil c.0)); calls = n; value = Some v })) (expanded (setting s.environment k) c.1 (at_start s.symbols)) (λ v n. ([], sym (append-nil lists))))

    keeps_answer : (name : List ℕ) (r : Option Refusal) → KeepsLists lists lists (package_answer m k s lists name r)
    keeps_answer name None = ([], sym (append-nil lists))
    keeps_answer name (Some r) = refl

    keeps_package : (symbols : List QualifiedName) (c : Option (List ℕ × Object ℕ)) → Keeps (package_outcome m k s lists symbols c)
    keeps_package symbols None = refl
    keeps_package symbols (Some c) =
        keeps_constant_made (λ v n. outcome m k s lists lists (package_answer m k s lists c.0 (package_refusal m k s lists symbols c.0 (names_in m k s lists v))) n)
        (expanded (setting s.environment k) c.1 (at_start s.symbols)) (λ v n. keeps_answer c.0 (package_refusal m k s lists symbols c.0 (names_in m k s lists v)))

    keeps_if : (b : Bool) (x y : Option AbstractOutcome) → Keeps x → Keeps y → Keeps (if b then x else y)
    keeps_if true x y h j = h
    keeps_if false x y h j = j

    keeps_event_way : (head : ℕ) (d : Object ℕ) → Keeps (event_way m k s lists head d)
    keeps_event_way head d =
        keeps_if (nat_eq head defconst_word) _ _ (keeps_constant (option_and_then name_and_form (elements d)))
        (keeps_if (nat_eq head defpkg_word) _ _ (keeps_package (command k s (Pair (Symbol head) d)).session.symbols (text_and_form d))
        (keeps_event (admitted s.environment k head d (at_start s.symbols))))

    -- ---- expressions

    keeps_evaluated : (r : Outcome QualifiedName) → Keeps (evaluated_outcome m k s lists r)
    keeps_evaluated (Gives values state) = tt
    keeps_evaluated (Stops stop inside state) = tt
    keeps_evaluated Unknown = tt

    keeps_core : (f : Core) (p : Progress) (fault : Option Fault) → Keeps (core_outcome m k s lists f p fault)
    keeps_core f p (Some fault) = refl
    keeps_core f p None = keeps_evaluated (evaluated_on m k s lists lists f p)

    keeps_expanded : (x : Expanded Core) → Keeps (expanded_outcome m k s lists x)
    keeps_expanded (Makes f p) = keeps_core f p (expression_fault s.environment.world (live_scope lists) f)
    keeps_expanded (Fails fault p) = refl

    keeps_shown : (l : Option (StobjList QualifiedName)) → ShowHolds Keeps (ways m k s lists) s.symbols (option_map (λ l. at_once m k s lists (Show (shown_object m k s lists l))) l)
    keeps_shown None = tt
    keeps_shown (Some l) = refl

    keeps_ways : AllWays Keeps (ways m k s lists) s.symbols
    keeps_ways = record {
      event = keeps_event_way;
      skipped = refl;
      refused = λ r. refl;
      expression = λ form. keeps_expanded (expanded (setting s.environment k) form (at_start s.symbols));
      show = λ x. keeps_shown (live_list m k s lists x);
      cells = refl;
    }

    keeps_command : (form : Object ℕ) → Keeps (abstract_command m k s lists form)
    unfolding abstract_command
    keeps_command form = way_holds Keeps (ways m k s lists) s.symbols keeps_ways form

  from_keeps : (x : Option AbstractOutcome) (o : AbstractOutcome) → Keeps x → x ≡ Some o → KeepsLists lists o.lists o.answer
  from_keeps x o h e = subst Keeps e h

pub answers_keep_lists : AnswersKeepLists
answers_keep_lists = record { kept = λ m k s lists form o. from_keeps lists _ o (keeps_command lists m k s form) }

-- ---- calls

module _ (k : Limits) where
  abbrev Within : Option AbstractOutcome → Type 0
  Within None = Unit {0}
  Within (Some o) = o.calls ≤ k.steps

  within_value : (l : Option (StobjList QualifiedName)) (go : StobjList QualifiedName → Option AbstractOutcome) → ((l : StobjList QualifiedName) → Within (go l)) → Within (with_value l go)
  within_value None go h = tt
  within_value (Some l) go h = h l

  module _ (m : ℕ) (s : Session) (lists : Lists) where
    bound : (p : Progress) → Advanced k.steps (at_start s.symbols) p → p.outer ≤ k.steps
    bound p g = omega (arith, g.outer_calls, g.within (omega arith))

    within_made : (a : Admitted) (p : Progress) (x : Option ℕ) → p.outer ≤ k.steps → Within (created_outcome m k s lists a p x)
    within_made a p None h = h
    within_made a p (Some x) h = within_value (abstract_fresh (theory_of a.environment p.symbols) m x) _ (λ l. h)

    within_event : (a : EventResult Admitted) → Answers k.steps (at_start s.symbols) a → Within (event_outcome m k s lists a)
    within_event (Grants a p) h = within_made a p a.created (bound p h)
    within_event (Refuses r p) h = bound p h
    within_event (Halts stop inside p) h = bound p h

    -- ---- constants and packages

    within_unless : (r : Option Refusal) (p : Progress) (x : Option AbstractOutcome) → p.outer ≤ k.steps → Within x → Within (unless_refused m k s lists r p x)
    within_unless (Some r) p x b h = b
    within_unless None p x b h = h

    abbrev GoWithin : (Thing → ℕ → Option AbstractOutcome) → Type 0
    GoWithin go = (v : Thing) (n : ℕ) → n ≤ k.steps → Within (go v n)

    within_ended : (go : Thing → ℕ → Option AbstractOutcome) (p : Progress) (r : Outcome QualifiedName) → GoWithin go → p.outer ≤ k.steps → (HasOutcome r → Counts k.steps (begun m k s lists [] p) r) → Within (constant_ended m k s lists go r)
    within_ended go p (Gives values state) h b c = h _ _ ((c tt).within b)
    within_ended go p (Stops stop inside state) h b c = (c tt).0.within b
    within_ended go p Unknown h b c = tt

    within_constant_made : (go : Thing → ℕ → Option AbstractOutcome) (x : Expanded Core) → GoWithin go → Advances k.steps (at_start s.symbols) x → Within (constant_made m k s lists go x)
    within_constant_made go (Makes f p) h g =
        within_unless (option_map Thread (constant_fault s.environment.world f)) p _ (bound p g)
        (within_ended go p (evaluated_on m k s lists [] f p) h (bound p g) (abstract_counts_calls.counts (theory_of s.environment p.symbols) m k.steps k.depth f (live []) (begun m k s lists [] p)))
    within_constant_made go (Fails fault p) h g = bound p g.0

    within_form : (form : Object ℕ) (go : Thing → ℕ → Option AbstractOutcome) → GoWithin go → Within (constant_made m k s lists go (expanded (setting s.environment k) form (at_start s.symbols)))
    within_form form go h = within_constant_made go _ h (expansion_counts.form (setting s.environment k) form (at_start s.symbols))

    within_constant : (c : Option (Object ℕ × Object ℕ)) → Within (constant_outcome m k s lists c)
    within_constant None = omega arith
    within_constant (Some c) =
        within_unless (option_or (bad_constant_name s.symbols c.0) (name_in_use s.environment.world (symbol_or_nil c.0 ∷ []))) (at_start s.symbols) _ (omega arith)
        (within_form c.1 (λ v n. Some (record { lists = lists; answer = Event (Name (symbol_or_nil c.0)); calls = n; value = Some v })) (λ v n h. h))

    within_package : (symbols : List QualifiedName) (c : Option (List ℕ × Object ℕ)) → Within (package_outcome m k s lists symbols c)
    within_package symbols None = omega arith
    within_package symbols (Some c) =
        within_form c.1 (λ v n. outcome m k s lists lists (package_answer m k s lists c.0 (package_refusal m k s lists symbols c.0 (names_in m k s lists v))) n) (λ v n h. h)

    within_if : (b : Bool) (x y : Option AbstractOutcome) → Within x → Within y → Within (if b then x else y)
    within_if true x y h j = h
    within_if false x y h j = j

    within_event_way : (head : ℕ) (d : Object ℕ) → Within (event_way m k s lists head d)
    within_event_way head d =
        within_if (nat_eq head defconst_word) _ _ (within_constant (option_and_then name_and_form (elements d)))
        (within_if (nat_eq head defpkg_word) _ _ (within_package (command k s (Pair (Symbol head) d)).session.symbols (text_and_form d))
        (within_event _ (answers_admitted s.environment k head d (at_start s.symbols))))

    -- ---- expressions

    within_evaluated : (p : Progress) (r : Outcome QualifiedName) → p.outer ≤ k.steps → (HasOutcome r → Counts k.steps (begun m k s lists lists p) r) → Within (evaluated_outcome m k s lists r)
    within_evaluated p (Gives values state) h c = (c tt).within h
    within_evaluated p (Stops stop inside state) h c = (c tt).0.within h
    within_evaluated p Unknown h c = tt

    within_core : (f : Core) (p : Progress) (fault : Option Fault) → p.outer ≤ k.steps → Within (core_outcome m k s lists f p fault)
    within_core f p (Some fault) h = h
    within_core f p None h =
        within_evaluated p _ h (abstract_counts_calls.counts (theory_of s.environment p.symbols) m k.steps k.depth f (live lists) (begun m k s lists lists p))

    within_expanded : (x : Expanded Core) → Advances k.steps (at_start s.symbols) x → Within (expanded_outcome m k s lists x)
    within_expanded (Makes f p) h = within_core f p (expression_fault s.environment.world (live_scope lists) f) (bound p h)
    within_expanded (Fails fault p) h = bound p h.0

    within_shown : (l : Option (StobjList QualifiedName)) → ShowHolds Within (ways m k s lists) s.symbols (option_map (λ l. at_once m k s lists (Show (shown_object m k s lists l))) l)
    within_shown None = tt
    within_shown (Some l) = omega arith

    within_ways : AllWays Within (ways m k s lists) s.symbols
    within_ways = record {
      event = within_event_way;
      skipped = omega arith;
      refused = λ r. omega arith;
      expression = λ form. within_expanded _ (expansion_counts.form (setting s.environment k) form (at_start s.symbols));
      show = λ x. within_shown (live_list m k s lists x);
      cells = omega arith;
    }

    within_command : (form : Object ℕ) → Within (abstract_command m k s lists form)
    unfolding abstract_command
    within_command form = way_holds Within (ways m k s lists) s.symbols within_ways form

  from_within : (x : Option AbstractOutcome) (o : AbstractOutcome) → Within x → x ≡ Some o → o.calls ≤ k.steps
  from_within x o h e = subst Within e h

pub answers_count_within : AnswersCountWithin
answers_count_within = record { calls = λ m k s lists form o. from_within k _ o (within_command k m s lists form) }
