-- A command's form, evaluated in both ways.
use Rattle.std.proofs.Common.{◌≡◌, ℕ, ◌+◌, ◌≤◌, List, [], ◌∷◌, map, length, Bool, true, false, Option, Some, None, refl, sym, ap, ◌∙◌, subst, arith}
use Rattle.std.specs.Prelude.{◌||◌, nat_eq, if◌then◌else◌}
use Rattle.std.specs.Option.{option_or}
use Rattle.model_abstract_books.specs.Commands.{AbstractOutcome, Lists, evaluated_on, evaluated_outcome, theory_of}
use Rattle.model_answers.specs.Expressions.{Agrees, ExpressionsAnswer, IsReady}
use Rattle.model_books.specs.Commands.{Answered, Values, Stopped, live_scope}
use Rattle.model_answers.specs.OnLists.{AnswersOn, EndsAs}
use Rattle.model_accepted.specs.StobjScopes.{AreVariables, IsOfKind, IsStobj}
use Rattle.model_terms.specs.Cores.{Core}
use Rattle.model_abstract.specs.Corresponding.{Correspond}
use Rattle.model_eval_laws.specs.Counting.{Counts, Grown}
use Rattle.model_terms.specs.declared.rule.Mode.TheVariants.{Executable}
use Rattle.model_symbols.proofs.TableLemmas.{Extends-self}
use Rattle.model_eval.specs.Outcomes.{Gives, Outcome, State, StobjNamed, Stobjs, Stops, Unknown}
use Rattle.model_answers.specs.Beside.{KnowsVariables, named_variables}
use Rattle.model_events.specs.Events.{Limits}
use Rattle.model_terms.specs.Worlds.{Out, World}
use Rattle.model_expansion.specs.Expansion.{Progress}
use Rattle.model_symbols.specs.Symbols.{QualifiedName}
use Rattle.model_books.specs.Opening.{Session}
use Rattle.model_logic.specs.Logic.{Theory}
use Rattle.model_eval.specs.Variables.{Variables, variable_in}
use Rattle.model_abstract.specs.Rules.{abstractly}
use Rattle.model_abstract_books.specs.Answers.{answer_named, is_excepted, shown_named, stop_named}
use Rattle.model_eval.specs.Checked.{begun, checked, live}
use Rattle.model_prims.specs.Kinds.{by_number}
use Rattle.std.proofs.lemmas.Bool.{eqb-true}
use Rattle.model_in_place.proofs.CallMeeting.{executable_not_logic}
use Rattle.model_terms.specs.Faults.{expression_fault}
use Rattle.model_accepted.proofs.AcceptLemmas.{false_true}
use Rattle.model_answers.proofs.OnLists.{forms_answer_on_lists}
use Rattle.model_eval_laws.proofs.CountLemmas.{counts_calls}
use Rattle.model_eval_laws.specs.Scope.{is_among, names}
use Rattle.model_terms.specs.Scopes.{kind_in}
use Rattle.model_in_place.proofs.BeginLemmas.{live_object}
use Rattle.model_terms.specs.Outputs.{outs}
use Rattle.model_follows.specs.Follows.{table_of}
use Rattle.model_books.specs.Commands as commands
use Rattle.model_terms.specs.Worlds as worlds

-- ---- live stobjs and their variables

live_shown : (os : Stobjs ℕ) (x : ℕ) → is_among x (names os) ≡ true → variable_in by_number (live os) x ≡ StobjNamed x
live_shown [] x h = false_true h
live_shown (o ∷ os) x h = go (nat_eq x o.0) refl h (live_shown os x)
  where
    go : (b : Bool) → nat_eq x o.0 ≡ b → (b || is_among x (names os)) ≡ true → (is_among x (names os) ≡ true → variable_in by_number (live os) x ≡ StobjNamed x) → (if b then StobjNamed o.0 else variable_in by_number (live os) x) ≡ StobjNamed x
    go true e f later = ap (λ (y : ℕ). StobjNamed y) (sym (eqb-true x o.0 e))
    go false e f later = later f

live_inside : (os : Stobjs ℕ) (x : ℕ) → is_among x (names os) ≡ true → IsStobj (live_scope os) x
live_inside [] x h = false_true h
live_inside (o ∷ os) x h = go (kind_in (live_scope os) x) (nat_eq x o.0) refl refl h (live_inside os x)
  where
    go : (m : Option Out) (b : Bool) → kind_in (live_scope os) x ≡ m → nat_eq x o.0 ≡ b → (b || is_among x (names os)) ≡ true → (is_among x (names os) ≡ true → kind_in (live_scope os) x ≡ Some (worlds.Stobj x))
        → option_or m (if b then Some (worlds.Stobj o.0) else None) ≡ Some (worlds.Stobj x)
    go (Some k) b e f g later = ap (λ (q : Out). Some q) (live_object os x k e).1
    go None true e f g later = ap (λ (y : ℕ). Some (worlds.Stobj y)) (sym (eqb-true x o.0 f))
    go None false e f g later = sym e ∙ later g

live_are : (os : Stobjs ℕ) → AreVariables (live_scope os) (live os)
live_are os = record {
  each = λ x k h.
      let is : (is_among x (names os) ≡ true) × (k ≡ worlds.Stobj x) = live_object os x k h in
      subst (λ (m : Out). IsOfKind x m (variable_in by_number (live os) x)) (sym is.1) (refl, live_shown os x is.0);
}

live_known : (n : ℕ) (os : Stobjs ℕ) → KnowsVariables n (live os)
live_known n [] = tt
live_known n (o ∷ os) = (tt, live_known n os)

live_named : (b : Theory) (symbols : List QualifiedName) (cs : Stobjs ℕ) (ms : Lists) → Correspond b cs ms → named_variables symbols (live cs) ≡ live ms
live_named b symbols [] [] h = refl
live_named b symbols [] (m ∷ ms) h = absurd h
live_named b symbols (c ∷ cs) [] h = absurd h
live_named b symbols (c ∷ cs) (m ∷ ms) h = rw (h.0, live_named b symbols cs ms h.2) refl

-- the limit has room for the outer calls
room_by : (before calls outer all most now : ℕ) → now ≡ before + outer → before ≤ calls → outer + calls ≤ all + 0 → all ≤ most → now ≤ most
room_by before calls outer all most now e h i j = omega (arith, e, h, i, j)

abbrev abstract_begun : Limits → Session → Lists → Progress → State QualifiedName
abstract_begun k s lists p = record { stobjs = lists; symbols = p.symbols; calls = p.outer; outer = 0 }

-- ---- the law

module _ (k : Limits) (s : Session) (f : Core) (p : Progress) (lists : Lists) (is : IsReady k s f p) (accepted : expression_fault s.environment.world (live_scope s.stobjs) f ≡ None) (corr : Correspond (theory_of s.environment p.symbols) s.stobjs lists) where
  abbrev Agreed : Answered → (ℕ → Outcome QualifiedName) → Type 0
  Agreed o run = is_excepted o.answer ≡ false → (a : AbstractOutcome) × ((budget : ℕ) × (evaluated_outcome budget k s lists (run budget) ≡ Some a)) × Agrees o a

  agreed : (q : Outcome ℕ) → Counts k.steps (begun p.symbols s.stobjs p.calls) q → (run : ℕ → ℕ → Outcome QualifiedName) → AnswersOn s.environment.world (table_of s.environment.packages p.symbols) p.outer q run
      → Agreed (commands.evaluated_outcome k s p q) (λ m. run m k.steps)
  unfolding is_excepted answer_named
  agreed (Gives given u) counts run g = λ e. (
    record { lists = g.after.stobjs; answer = Values (map (shown_named u.symbols) given); calls = g.after.calls; value = None },
    (g.budget, ap (λ (z : Outcome QualifiedName). evaluated_outcome g.budget k s lists z) (g.runs g.budget k.steps (omega arith) (room counts g.calls))),
    record { answer = refl; lists = g.correspond; calls = g.calls; value = refl },
  )
    where
      room : Grown k.steps (begun p.symbols s.stobjs p.calls) u → g.after.calls ≡ p.outer + u.outer → g.after.calls ≤ k.steps
      room c e = room_by p.outer p.calls u.outer u.calls k.steps g.after.calls e is.outer c.outer_calls (c.within is.within)
  agreed (Stops stop origin u) counts run g = λ e. let i : EndsAs s.environment.world (table_of s.environment.packages p.symbols) p.outer u (λ after. Stops (stop_named u.symbols stop) origin after) run = g e in (
    record { lists = i.after.stobjs; answer = Stopped (stop_named u.symbols stop) origin.inside; calls = i.after.calls; value = None },
    (i.budget, ap (λ (z : Outcome QualifiedName). evaluated_outcome i.budget k s lists z) (i.runs i.budget k.steps (omega arith) (room counts.0 i.after.calls i.calls))),
    record { answer = refl; lists = i.correspond; calls = i.calls; value = refl },
  )
    where
      room : Grown k.steps (begun p.symbols s.stobjs p.calls) u → (calls : ℕ) → calls ≡ p.outer + u.outer → calls ≤ k.steps
      room c calls e = room_by p.outer p.calls u.outer u.calls k.steps calls e is.outer c.outer_calls (c.within is.within)
  agreed Unknown counts run g = absurd counts

  answers_expression : Agreed (commands.core_outcome k s f p None) (λ m. evaluated_on m k s lists lists f p)
  answers_expression =
      subst (λ (vs : Variables QualifiedName). Agreed (commands.core_outcome k s f p None) (λ m. abstractly (theory_of s.environment p.symbols) m k.steps k.depth f vs (abstract_begun k s lists p))) (live_named (theory_of s.environment p.symbols) p.symbols s.stobjs lists corr)
      (agreed (checked s.environment.world s.environment.packages k.steps k.depth f (live s.stobjs) (begun p.symbols s.stobjs p.calls))
      (counts_calls.counts s.environment.world s.environment.packages k.steps k.depth f (live s.stobjs) (begun p.symbols s.stobjs p.calls))
      (λ m n. abstractly (theory_of s.environment p.symbols) m n k.depth f (named_variables p.symbols (live s.stobjs)) (abstract_begun k s lists p))
      (forms_answer_on_lists.answers s.environment.world (table_of s.environment.packages p.symbols) p.symbols is.threaded is.followed is.written is.laid (Extends-self (table_of s.environment.packages p.symbols)) is.obligations
      s.environment.world Executable (live_scope s.stobjs) f (outs s.environment.world (live_scope s.stobjs) f) is.suits is.seen executable_not_logic accepted is.formed is.suited k.steps k.depth p.outer (live s.stobjs)
      (begun p.symbols s.stobjs p.calls) (abstract_begun k s lists p) is.table is.truth (Extends-self (table_of s.environment.packages p.symbols)) (live_are s.stobjs)
      (record { there = λ x h. (live_object s.stobjs x (worlds.Stobj x) h).0; only = live_inside s.stobjs; once = is.once }) (live_known (length p.symbols) s.stobjs) corr refl (omega arith)))

pub expressions_answer : ExpressionsAnswer
expressions_answer = record { answers = λ k s f p lists is accepted corr not_excepted. answers_expression k s f p lists is accepted corr not_excepted }
