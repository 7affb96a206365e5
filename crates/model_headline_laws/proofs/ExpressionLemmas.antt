-- The expression of a command has the value that the logic gives it.
use Rattle.std.proofs.Common.{◌≡◌, ℕ, List, [], ◌∷◌, ◌++◌, length, Bool, true, false, Option, Some, None, refl, sym, ap, ◌∙◌, subst, arith}
use Rattle.std.specs.Prelude.{◌≢◌, ◌||◌, nat_eq, if◌then◌else◌}
use Rattle.std.specs.Option.{option_or}
use Rattle.std.proofs.lemmas.Bool.{eqb-true}
use Rattle.model_objects.specs.Object.{Object}
use Rattle.model_objects.specs.Named.{Knows}
use Rattle.model_symbols.specs.Symbols.{QualifiedName}
use Rattle.model_symbols.specs.Tables.{IsTable}
use Rattle.model_symbols.proofs.TableLemmas.{Extends-self}
use Rattle.model_prims.specs.Kinds.{by_name, by_number}
use Rattle.model_lists.specs.Lists.{as_object}
use Rattle.model_terms.specs.declared.rule.Mode.TheVariants.{Logic, Executable}
use Rattle.model_terms.specs.Cores.{Core}
use Rattle.model_terms.specs.Worlds.{Out}
use Rattle.model_terms.specs.Worlds as worlds
use Rattle.model_terms.specs.Classes.{repeats}
use Rattle.model_terms.specs.Outputs.{outs}
use Rattle.model_terms.specs.Scopes.{kind_in}
use Rattle.model_terms.specs.Faults.{expression_fault}
use Rattle.model_eval.specs.Outcomes.{StobjNamed, Stobjs}
use Rattle.model_eval.specs.Variables.{variable_in, list_of}
use Rattle.model_eval.specs.Checked.{checked, begun, live}
use Rattle.model_eval_laws.specs.Scope.{names, is_among}
use Rattle.model_expansion.specs.Expansion.{Progress, at_start, Makes, expanded}
use Rattle.model_expansion_forms.proofs.LawLemmas.{forms_are_well_called}
use Rattle.model_expansion_laws.specs.Counting.{Advances}
use Rattle.model_expansion_laws.proofs.CountLemmas.{expansion_counts}
use Rattle.model_events.specs.Events.{Limits, setting}
use Rattle.model_logic.specs.Logic.{value_in}
use Rattle.model_abstract.specs.Corresponding.{Correspond}
use Rattle.model_accepted.specs.StobjScopes.{IsOfKind, IsStobj, AreVariables}
use Rattle.model_accepted.proofs.AcceptLemmas.{false_true}
use Rattle.model_in_place.proofs.BeginLemmas.{live_object}
use Rattle.model_follows.specs.Follows.{KnowsShown, table_of, IfGives}
use Rattle.model_follows.specs.AbstractLists.{AreLive}
use Rattle.model_follows.specs.Corresponding.{AreValues, as_thing}
use Rattle.model_books.specs.Opening.{Session}
use Rattle.model_books.specs.Commands.{live_scope}
use Rattle.model_abstract_books.specs.Commands.{Lists, theory_of}
use Rattle.model_abstract_books.specs.Holding.{ObligationsHold}
use Rattle.model_made.specs.Made.{IsMade, knowing}
use Rattle.model_made.specs.Lawful.{IsLawfulSession}
use Rattle.model_made.proofs.CommandLemmas.{made_sessions_lawful}
use Rattle.model_made.proofs.FormLemmas.{formed_of}
use Rattle.model_made_logic.specs.Known.{Grows, IsKnownSession}
use Rattle.model_made_logic.proofs.ExpansionLemmas.{FormGrows, form_expands}
use Rattle.model_made_logic.proofs.LawLemmas.{made_known, made_stocked, made_sessions_known, accepted_forms_suited}
use Rattle.model_books_made.proofs.BookLemmas.{knowing_made}
use Rattle.model_headline.specs.Logic.{LogicGives}
use Rattle.model_headline_laws.specs.Expressions.{live_values, ExpressionsFollow}
use Rattle.model_headline_laws.proofs.FollowsLemmas.{logic_follows}

-- ---- live stobjs and their variables

live_variable : (os : Stobjs ℕ) (x : ℕ) → is_among x (names os) ≡ true → variable_in by_number (live os) x ≡ StobjNamed x
live_variable [] x h = false_true h
live_variable (o ∷ os) x h = go (nat_eq x o.0) refl h (live_variable os x)
  where
    go : (b : Bool) → nat_eq x o.0 ≡ b → (b || is_among x (names os)) ≡ true → (is_among x (names os) ≡ true → variable_in by_number (live os) x ≡ StobjNamed x) → (if b then StobjNamed o.0 else variable_in by_number (live os) x) ≡ StobjNamed x
    go true e f later = ap StobjNamed (sym (eqb-true x o.0 e))
    go false e f later = later f

live_value : (os : Stobjs ℕ) (lists : Lists) (x : ℕ) → is_among x (names os) ≡ true → value_in (live_values os lists) x ≡ as_object by_name (list_of lists x)
live_value [] lists x h = false_true h
live_value (o ∷ os) lists x h = go (nat_eq x o.0) refl h (live_value os lists x)
  where
    go : (b : Bool) → nat_eq x o.0 ≡ b → (b || is_among x (names os)) ≡ true → (is_among x (names os) ≡ true → value_in (live_values os lists) x ≡ as_object by_name (list_of lists x))
        → (if b then as_object by_name (list_of lists o.0) else value_in (live_values os lists) x) ≡ as_object by_name (list_of lists x)
    go true e f later = ap (λ (y : ℕ). as_object by_name (list_of lists y)) (sym (eqb-true x o.0 e))
    go false e f later = later f

live_in : (os : Stobjs ℕ) (x : ℕ) → is_among x (names os) ≡ true → IsStobj (live_scope os) x
live_in [] x h = false_true h
live_in (o ∷ os) x h = go (kind_in (live_scope os) x) (nat_eq x o.0) refl refl h (live_in os x)
  where
    go : (m : Option Out) (b : Bool) → kind_in (live_scope os) x ≡ m → nat_eq x o.0 ≡ b → (b || is_among x (names os)) ≡ true → (is_among x (names os) ≡ true → kind_in (live_scope os) x ≡ Some (worlds.Stobj x))
        → option_or m (if b then Some (worlds.Stobj o.0) else None) ≡ Some (worlds.Stobj x)
    go (Some k) b e f g later = ap (λ (q : Out). Some q) (live_object os x k e).1
    go None true e f g later = ap (λ (y : ℕ). Some (worlds.Stobj y)) (sym (eqb-true x o.0 f))
    go None false e f g later = sym e ∙ later g

live_variables : (os : Stobjs ℕ) → AreVariables (live_scope os) (live os)
live_variables os = record {
  each = λ x k h.
      let is : (is_among x (names os) ≡ true) × (k ≡ worlds.Stobj x) = live_object os x k h in
      subst (λ (m : Out). IsOfKind x m (variable_in by_number (live os) x)) (sym is.1) (refl, live_variable os x is.0);
}

are_live : (os : Stobjs ℕ) → repeats (names os) ≡ false → AreLive (live_scope os) os
are_live os once = record { there = λ x h. (live_object os x (worlds.Stobj x) h).0; only = live_in os; once = once }

are_values : (os : Stobjs ℕ) (symbols : List QualifiedName) (lists : Lists) → AreValues (live_scope os) (live os) symbols lists (live_values os lists)
are_values os symbols lists = record {
  known = λ x k h. subst (KnowsShown (length symbols)) (sym (live_variable os x (live_object os x k h).0)) tt;
  same = λ x k h. live_value os lists x (live_object os x k h).0 ∙ sym (ap (as_thing symbols lists) (live_variable os x (live_object os x k h).0));
}

-- ---- the law

module _ (k : Limits) (s : Session) (made : IsMade s) (form : Object ℕ) (known : Knows (length s.symbols) form) (f : Core) (p : Progress) (e : expanded (setting s.environment k) form (at_start s.symbols) ≡ Makes f p) where
  lawful : IsLawfulSession s
  lawful = made_sessions_lawful.lawful s made

  session_known : IsKnownSession s
  session_known = made_known s made

  grows : Grows s.environment.packages s.symbols p.symbols
  grows =
      let all : FormGrows (setting s.environment k) (length s.symbols) session_known.enough session_known.definitions lawful.world.functions s.symbols (Makes f p)
      = subst (FormGrows (setting s.environment k) (length s.symbols) session_known.enough session_known.definitions lawful.world.functions s.symbols) e
      (form_expands (setting s.environment k) (length s.symbols) session_known.enough session_known.definitions lawful.world.functions form (at_start s.symbols) (omega arith) known) in
      all.0

  table : IsTable (table_of s.environment.packages p.symbols)
  table = grows.table (made_sessions_known.table s made)

  added : (more : List QualifiedName) × (p.symbols ≡ s.symbols ++ more)
  added =
      let all : Advances k.steps (at_start s.symbols) (Makes f p) = subst (Advances k.steps (at_start s.symbols)) e (expansion_counts.form (setting s.environment k) form (at_start s.symbols)) in
      all.symbols

  expression_follows : expression_fault s.environment.world (live_scope s.stobjs) f ≡ None → ObligationsHold (theory_of s.environment p.symbols) → (lists : Lists)
      → Correspond (theory_of s.environment p.symbols) s.stobjs lists
      → IfGives (LogicGives (knowing s p.symbols) (live_scope s.stobjs) (outs s.environment.world (live_scope s.stobjs) f) f (live_values s.stobjs lists) lists)
      (checked s.environment.world s.environment.packages k.steps k.depth f (live s.stobjs) (begun p.symbols s.stobjs p.calls))
  expression_follows accepted hold lists corr =
      let called = forms_are_well_called.form (setting s.environment k) lawful.world.functions form (at_start s.symbols) p f e in
      logic_follows.follows (knowing s p.symbols) (knowing_made s p.symbols made added table) hold Executable (live_scope s.stobjs) f (outs s.environment.world (live_scope s.stobjs) f) not_logic accepted
      (formed_of s.environment.world lawful.world.made f called.closed called.formed)
      (accepted_forms_suited.suited s made k form s.symbols (omega arith) known f p e accepted) k.steps k.depth (live s.stobjs) (begun p.symbols s.stobjs p.calls) lists (live_values s.stobjs lists)
      table (Extends-self (table_of s.environment.packages p.symbols)) (live_variables s.stobjs) (are_live s.stobjs (ap repeats lawful.live ∙ (made_stocked s made).once)) corr (are_values s.stobjs p.symbols lists)
    where
      not_logic : Executable ≢ Logic
      not_logic q = cc

pub expressions_follow : ExpressionsFollow
expressions_follow = record { follows = λ k s made form known f p e accepted hold lists corr. expression_follows k s made form known f p e accepted hold lists corr }
