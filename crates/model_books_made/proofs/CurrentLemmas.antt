-- The current package of a session that commands have made is a known one, and the opening symbols stand first.
use Rattle.std.proofs.Common.{◌≡◌, ℕ, ◌<◌, List, [], ◌∷◌, ◌++◌, length, Bool, true, false, Option, Some, None, refl, sym, ap, ◌∙◌, subst, arith}
use Rattle.std.specs.Prelude.{nat_eq, option_map, option_and_then, if◌then◌else◌}
use Rattle.std.specs.Str.{bytes_eq}
use Rattle.std.proofs.lemmas.List.{append_assoc, append-nil, length_push}
use Rattle.std.proofs.lemmas.Option.{slice_get_within}
use Rattle.model_objects.specs.Object.{Object, Text}
use Rattle.model_symbols.specs.Symbols.{QualifiedName, Package, package_number}
use Rattle.model_symbols.specs.Opening.{opening, hidden}
use Rattle.model_symbols.proofs.NameLemmas.{package-Some}
use Rattle.model_lists.specs.Lists.{StobjList}
use Rattle.model_terms.specs.Cores.{Core}
use Rattle.model_terms.specs.Faults.{Fault, expression_fault}
use Rattle.model_eval.specs.Outcomes.{Outcome, Gives, Stops, Unknown}
use Rattle.model_eval.specs.Checked.{checked, begun, live}
use Rattle.model_expansion.specs.Words.{in_package_word, defpkg_word, defconst_word, defmacro_word, defstobj_word, defabsstobj_word}
use Rattle.model_expansion.specs.Faults.{Refusal, BadShape, Expand, UnknownPackage}
use Rattle.model_expansion.specs.Forms.{elements}
use Rattle.model_expansion.specs.Expansion.{Progress, Expanded, Makes, Fails, expanded, at_start}
use Rattle.model_stobjs.specs.Answers.{EventResult, Grants, Refuses, Halts, unless, needing, then_grant}
use Rattle.model_stobjs.specs.Descriptors.{descriptor_read}
use Rattle.model_stobjs.specs.Abstracts.{abstract_read}
use Rattle.model_stobjs.specs.Obligations.{obligations, too_large}
use Rattle.model_events.specs.Functions.{functions_read}
use Rattle.model_events.specs.Macros.{macro_read}
use Rattle.model_events.specs.Constants.{constant_read, package_read, current_read, only_text, current_then, visible_package}
use Rattle.model_events.specs.Events.{Environment, Limits, Admitted, setting, definitions_admitted, stobj_admitted, package_admitted, current_admitted, abstract_admitted, admitted}
use Rattle.model_books.specs.Opening.{Session, opening_session}
use Rattle.model_books.specs.Commands.{Answer, Answered, live_scope, event_outcome, evaluated_outcome, core_outcome, expanded_outcome, live_list, at_once, ways, command}
use Rattle.model_books_laws.proofs.CommandLemmas.{commands_count}
use Rattle.model_books_laws.proofs.WayLemmas.{ShowHolds, AllWays, way_holds}
use Rattle.model_made.specs.Made.{Step, knowing, after_step, commanded, AreRead, IsMade}

abbrev pub HasCurrent : Environment → Type 0
HasCurrent e = e.current < length e.packages

-- what is granted has the property
abbrev GrantedHas : {A : Type 0} → (A → Type 0) → EventResult A → Type 0
GrantedHas Q (Grants a p) = Q a
GrantedHas Q (Refuses r p) = Unit {0}
GrantedHas Q (Halts stop inside p) = Unit {0}

abbrev Any : {A : Type 0} → A → Type 0
Any a = Unit {0}

anything : {A : Type 0} (r : EventResult A) → GrantedHas Any r
anything (Grants a p) = tt
anything (Refuses r p) = tt
anything (Halts stop inside p) = tt

granted_then : {A B : Type 0} (Q : A → Type 0) (R : B → Type 0) (r : EventResult A) (go : A → Progress → EventResult B) → GrantedHas Q r → ((a : A) (p : Progress) → Q a → GrantedHas R (go a p)) → GrantedHas R (then_grant r go)
granted_then Q R (Grants a p) go h k = k a p h
granted_then Q R (Refuses r p) go h k = tt
granted_then Q R (Halts stop inside p) go h k = tt

granted_if : {A : Type 0} (Q : A → Type 0) (b : Bool) (x y : EventResult A) → GrantedHas Q x → GrantedHas Q y → GrantedHas Q (if b then x else y)
granted_if Q true x y h g = h
granted_if Q false x y h g = g

-- ---- IN-PACKAGE

visible_within : (packages : List Package) (name : List ℕ) (n : ℕ) → visible_package packages name ≡ Some n → n < length packages
visible_within packages name n h = go (bytes_eq name hidden) h
  where
    go : (b : Bool) → (if b then None else package_number packages name) ≡ Some n → n < length packages
    go true e = cc
    go false e = let p = package-Some packages name n e in slice_get_within packages n p.0 p.1

current_within : (packages : List Package) (d : Object ℕ) (p : Progress) → GrantedHas (λ n. n < length packages) (current_read packages d p)
unfolding current_read
current_within packages d p = go (option_and_then only_text (elements d))
  where
    by_name : (name : List ℕ) (n : Option ℕ) → visible_package packages name ≡ n → GrantedHas (λ i. i < length packages) (needing n (UnknownPackage (Text name)) Grants p)
    by_name name None e = tt
    by_name name (Some n) e = visible_within packages name n e

    go : (v : Option (List ℕ)) → GrantedHas (λ i. i < length packages) (needing v (Expand (BadShape in_package_word)) (current_then packages) p)
    go None = tt
    go (Some name) = by_name name (visible_package packages name) refl

-- ---- commands

module _ (k : Limits) (s : Session) (has : HasCurrent s.environment) where
  abbrev IsKept : Answered → Type 0
  IsKept o = HasCurrent o.session.environment

  abbrev Keeps : Admitted → Type 0
  Keeps a = HasCurrent a.environment

  longer : (p : Package) → s.environment.current < length (s.environment.packages ++ p ∷ [])
  longer p = omega (arith, length_push s.environment.packages p, has)

  unless_heavy : (r : Option Refusal) (a : Admitted) (p : Progress) → Keeps a → GrantedHas Keeps (unless r (Grants a) p)
  unless_heavy None a p h = h
  unless_heavy (Some r) a p h = tt

  event_keeps : (head : ℕ) (d : Object ℕ) (p : Progress) → GrantedHas Keeps (admitted s.environment k head d p)
  unfolding admitted
  event_keeps head d p =
      let x = setting s.environment k in
      granted_if Keeps (nat_eq head in_package_word) _ _
      (granted_then (λ n. n < length s.environment.packages) Keeps (current_read s.environment.packages d p) (current_admitted s.environment) (current_within s.environment.packages d p) (λ n q h. h))
      (granted_if Keeps (nat_eq head defpkg_word) _ _
      (granted_then Any Keeps (package_read x d p) (package_admitted s.environment) (anything (package_read x d p)) (λ a q u. longer a))
      (granted_if Keeps (nat_eq head defconst_word) _ _
      (granted_then Any Keeps (constant_read x d p) (definitions_admitted s.environment head) (anything (constant_read x d p)) (λ a q u. has))
      (granted_if Keeps (nat_eq head defmacro_word) _ _
      (granted_then Any Keeps (macro_read x d p) (definitions_admitted s.environment head) (anything (macro_read x d p)) (λ a q u. has))
      (granted_if Keeps (nat_eq head defstobj_word) _ _
      (granted_then Any Keeps (descriptor_read s.environment.world s.environment.packages d p) (stobj_admitted s.environment) (anything (descriptor_read s.environment.world s.environment.packages d p)) (λ a q u. has))
      (granted_if Keeps (nat_eq head defabsstobj_word) _ _
      (granted_then Any Keeps (abstract_read s.environment.world s.environment.packages d p) (abstract_admitted s.environment) (anything (abstract_read s.environment.world s.environment.packages d p))
      (λ a q u. unless_heavy (too_large (obligations s.environment.world q.symbols a)) _ q has))
      (granted_then Any Keeps (functions_read x head d p) (definitions_admitted s.environment head) (anything (functions_read x head d p)) (λ a q u. has)))))))

  event_kept : (r : EventResult Admitted) → GrantedHas Keeps r → IsKept (event_outcome k s r)
  event_kept (Grants a p) h = h
  event_kept (Refuses r p) h = has
  event_kept (Halts stop inside p) h = has

  outcome_kept : (p : Progress) (e : Outcome ℕ) → IsKept (evaluated_outcome k s p e)
  outcome_kept p (Gives values state) = has
  outcome_kept p (Stops stop origin state) = has
  outcome_kept p Unknown = has

  core_kept : (f : Core) (p : Progress) (fault : Option Fault) → IsKept (core_outcome k s f p fault)
  core_kept f p (Some fault) = has
  core_kept f p None = outcome_kept p (checked s.environment.world s.environment.packages k.steps k.depth f (live s.stobjs) (begun p.symbols s.stobjs p.calls))

  form_kept : (e : Expanded Core) → IsKept (expanded_outcome k s e)
  form_kept (Makes f p) = core_kept f p (expression_fault s.environment.world (live_scope s.stobjs) f)
  form_kept (Fails fault p) = has

  shown_kept : (v : Option (StobjList ℕ)) (answer : StobjList ℕ → Answer ℕ) → ShowHolds IsKept (ways k s) s.symbols (option_map (λ m. at_once k s (answer m)) v)
  shown_kept None answer = tt
  shown_kept (Some m) answer = has

  all_kept : AllWays IsKept (ways k s) s.symbols
  all_kept = record {
    event = λ head d. event_kept (admitted s.environment k head d (at_start s.symbols)) (event_keeps head d (at_start s.symbols));
    skipped = has;
    refused = λ r. has;
    expression = λ form. form_kept (expanded (setting s.environment k) form (at_start s.symbols));
    show = λ x. shown_kept (live_list k s x) _;
    cells = has;
  }

  pub command_current : (form : Object ℕ) → HasCurrent (command k s form).session.environment
  unfolding command
  command_current form = way_holds IsKept (ways k s) s.symbols all_kept form

-- ---- sessions that commands have made

-- the current package is known, and the opening symbols stand first
pub record IsOpened (s : Session) : Type 0 where
  pub current : HasCurrent s.environment
  pub first : (more : List QualifiedName) × (s.symbols ≡ opening.symbols ++ more)

longer_still : (a b c : List QualifiedName) → (more : List QualifiedName) × (b ≡ a ++ more) → (more : List QualifiedName) × (c ≡ b ++ more) → (more : List QualifiedName) × (c ≡ a ++ more)
longer_still a b c h g = (h.0 ++ g.0, g.1 ∙ (ap (λ xs. xs ++ g.0) h.1 ∙ append_assoc a h.0 g.0))

opened_after : (s : Session) → IsOpened s → (ts : List Step) → AreRead s ts → IsOpened (commanded s ts)
opened_after s is [] read = is
opened_after s is (t ∷ ts) read =
    let there = knowing s t.read in
    let first = longer_still opening.symbols s.symbols t.read is.first read.0.added in
    opened_after (after_step s t) (record {
      current = command_current t.limits there is.current t.form;
      first = longer_still opening.symbols t.read (after_step s t).symbols first (commands_count.symbols t.limits there t.form);
    }) ts read.1

opening_opened : IsOpened opening_session
unfolding opening_session opening
opening_opened = record { current = omega arith; first = ([], sym (append-nil opening.symbols)) }

pub made_opened : (s : Session) → IsMade s → IsOpened s
made_opened s m = subst IsOpened (sym m.2) (opened_after opening_session opening_opened m.0 m.1)
