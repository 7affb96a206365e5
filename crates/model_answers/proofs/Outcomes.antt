-- Outcomes of both evaluations, one after another.
use Rattle.std.proofs.Common.{◌≡◌, ℕ, ◌+◌, ◌≤◌, List, map, length, Bool, true, false, None, refl, ap, ◌∙◌, arith}
use Rattle.std.specs.Prelude.{nat_lt, if◌then◌else◌}
use Rattle.std.proofs.lemmas.Bool.Decides.{nat_tests}
use Rattle.model_answers.specs.Beside.{AnswersAs, AreTogether, GivesAs, Run, StopsAs}
use Rattle.model_symbols.specs.Growth.{Extends}
use Rattle.model_symbols.proofs.TableLemmas.{Extends-self, Extends-then}
use Rattle.model_eval.specs.Outcomes.{Gives, Outcome, Shown, State, Steps, Stop, Stops, Unknown, counting, cut_at, cut_before, one_more_call, stops_here, then_with}
use Rattle.model_follows.proofs.HeldThings.{Ground}
use Rattle.model_follows.specs.Follows.{IfGives, KnowsAll, table_of}
use Rattle.model_symbols.specs.Symbols.{QualifiedName}
use Rattle.model_terms.specs.Worlds.{World}
use Rattle.model_eval_laws.specs.Scope.{names}
use Rattle.model_abstract_books.specs.Answers.{stop_named, shown_named}
use Rattle.model_accepted.proofs.AcceptLemmas.{true_false}

-- what is said where there are values
abbrev pub WhenGives : (List (Shown ℕ) → State ℕ → Type 0) → Outcome ℕ → Type 0
WhenGives Q (Gives given u) = Q given u
WhenGives Q (Stops stop origin u) = Unit {0}
WhenGives Q Unknown = Unit {0}

pub when_gives : (Q : List (Shown ℕ) → State ℕ → Type 0) (p : Outcome ℕ) → IfGives Q p → WhenGives Q p
when_gives Q (Gives given u) h = h
when_gives Q (Stops stop origin u) h = tt
when_gives Q Unknown h = tt

pub when_any : (p : Outcome ℕ) → WhenGives (λ given u. Unit {0}) p
when_any (Gives given u) = tt
when_any (Stops stop origin u) = tt
when_any Unknown = tt

pub when_map : {P Q : List (Shown ℕ) → State ℕ → Type 0} (p : Outcome ℕ) → ((given : List (Shown ℕ)) (u : State ℕ) → P given u → Q given u) → WhenGives P p → WhenGives Q p
when_map (Gives given u) f h = f given u h
when_map (Stops stop origin u) f h = tt
when_map Unknown f h = tt

module _ (w : World) (g : Ground) (offset : ℕ) where
  -- from an earlier start
  pub answers_earlier : (old new : List QualifiedName) (there : List ℕ) (low now : ℕ) → Extends (table_of g.table.packages old) (table_of g.table.packages new) → low ≤ now
      → (p : Outcome ℕ) (run : Run w g) → AnswersAs w g offset new there now p run → AnswersAs w g offset old there low p run
  answers_earlier old new there low now grown l (Gives given u) run h = record {
    after = h.after;
    together = h.together;
    more_symbols = Extends-then grown h.more_symbols;
    same_names = h.same_names;
    more = omega (arith, l, h.more);
    knows = h.knows;
    budget = h.budget;
    runs = h.runs;
  }
  answers_earlier old new there low now grown l (Stops stop origin u) run h = λ e. let i : StopsAs w g offset new there now stop origin u run = h e in record {
    after = i.after;
    together = i.together;
    more_symbols = Extends-then grown i.more_symbols;
    same_names = i.same_names;
    more = omega (arith, l, i.more);
    budget = i.budget;
    runs = i.runs;
  }
  answers_earlier old new there low now grown l Unknown run h = tt

  -- another computation that is the same wherever the first one is within its limit
  pub answers_as : (old : List QualifiedName) (there : List ℕ) (low least : ℕ) (p : Outcome ℕ) (run other : Run w g) → ((m k : ℕ) → least ≤ m → low ≤ k → other m k ≡ run m k)
      → AnswersAs w g offset old there low p run → AnswersAs w g offset old there low p other
  answers_as old there low least (Gives given u) run other f h = record {
    after = h.after;
    together = h.together;
    more_symbols = h.more_symbols;
    same_names = h.same_names;
    more = h.more;
    knows = h.knows;
    budget = least + h.budget;
    runs = λ m k i j. f m k (omega (arith, i)) (omega (arith, j, h.more)) ∙ h.runs m k (omega (arith, i)) j;
  }
  answers_as old there low least (Stops stop origin u) run other f h = λ e. let i : StopsAs w g offset old there low stop origin u run = h e in record {
    after = i.after;
    together = i.together;
    more_symbols = i.more_symbols;
    same_names = i.same_names;
    more = i.more;
    budget = least + i.budget;
    runs = λ m k n j. f m k (omega (arith, n)) (omega (arith, j, i.more)) ∙ i.runs m k (omega (arith, n)) j;
  }
  answers_as old there low least Unknown run other f h = tt

  -- one evaluation and then another
  pub answers_then_old : (old : List QualifiedName) (there : List ℕ) (low : ℕ) (Did : List (Shown ℕ) → State ℕ → Type 0) (p : Outcome ℕ) (run : Run w g) (go : List (Shown ℕ) → State ℕ → Outcome ℕ) (to : ℕ → ℕ → List (Shown QualifiedName) → State QualifiedName → Outcome QualifiedName)
      → IfGives Did p → AnswersAs w g offset old there low p run
      → ((given : List (Shown ℕ)) (u : State ℕ) → Did given u → (h : GivesAs w g offset old there low given u run)
      → AnswersAs w g offset old there h.after.calls (go given u) (λ m k. to m k (map (shown_named u.symbols) given) h.after))
      → AnswersAs w g offset old there low (then_with p go) (λ m k. then_with (run m k) (to m k))
  answers_then_old old there low Did (Gives given u) run go to d h next =
      answers_earlier old old there low h.after.calls (Extends-self (table_of g.table.packages old)) h.more (go given u) (λ m k. then_with (run m k) (to m k))
      (answers_as old there h.after.calls h.budget (go given u) (λ m k. to m k (map (shown_named u.symbols) given) h.after) (λ m k. then_with (run m k) (to m k))
      (λ m k i j. ap (λ (q : Outcome QualifiedName). then_with q (to m k)) (h.runs m k i j)) (next given u d h))
  answers_then_old old there low Did (Stops stop origin u) run go to d h next = λ e. let i : StopsAs w g offset old there low stop origin u run = h e in record {
    after = i.after;
    together = i.together;
    more_symbols = i.more_symbols;
    same_names = i.same_names;
    more = i.more;
    budget = i.budget;
    runs = λ m k n j. ap (λ (q : Outcome QualifiedName). then_with q (to m k)) (i.runs m k n j);
  }
  answers_then_old old there low Did Unknown run go to d h next = tt

  -- the same, where the second one is told from the symbols that the first one left
  pub answers_then : (old : List QualifiedName) (there : List ℕ) (low : ℕ) (Did : List (Shown ℕ) → State ℕ → Type 0) (p : Outcome ℕ) (run : Run w g) (go : List (Shown ℕ) → State ℕ → Outcome ℕ) (to : ℕ → ℕ → List (Shown QualifiedName) → State QualifiedName → Outcome QualifiedName)
      → IfGives Did p → AnswersAs w g offset old there low p run
      → ((given : List (Shown ℕ)) (u : State ℕ) → Did given u → (h : GivesAs w g offset old there low given u run)
      → AnswersAs w g offset u.symbols there h.after.calls (go given u) (λ m k. to m k (map (shown_named u.symbols) given) h.after))
      → AnswersAs w g offset old there low (then_with p go) (λ m k. then_with (run m k) (to m k))
  answers_then old there low Did p run go to d h next =
      answers_then_old old there low Did p run go to d h
      (λ given u e i. answers_earlier old u.symbols there i.after.calls i.after.calls i.more_symbols (omega arith) (go given u) (λ m k. to m k (map (shown_named u.symbols) given) i.after) (next given u e i))

  -- ---- calls

  pub together_counted : (s : State ℕ) (a : State QualifiedName) → AreTogether w g offset s a → AreTogether w g offset (one_more_call s) (one_more_call a)
  together_counted s a h = record {
    table = h.table;
    truth = h.truth;
    grown = h.grown;
    lists = h.lists;
    outer = ap (λ (n : ℕ). n + 1) h.outer;
    calls = omega (arith, h.calls);
  }

  room : (n k : ℕ) → n + 1 ≤ k → nat_lt n k ≡ true
  room n k l = grind (arith, nat_tests)

  pub answers_counting : (old : List QualifiedName) (there : List ℕ) (limit : ℕ) (s : State ℕ) (a : State QualifiedName) (go : State ℕ → Outcome ℕ) (to : ℕ → ℕ → State QualifiedName → Outcome QualifiedName)
      → AnswersAs w g offset old there (a.calls + 1) (go (one_more_call s)) (λ m k. to m k (one_more_call a)) → AnswersAs w g offset old there a.calls (counting limit s go) (λ m k. counting k a (to m k))
  answers_counting old there limit s a go to h = by_test (nat_lt s.calls limit)
    where
      same : (m k : ℕ) → 0 ≤ m → a.calls + 1 ≤ k → counting k a (to m k) ≡ to m k (one_more_call a)
      same m k i j = ap (λ (b : Bool). if b then to m k (one_more_call a) else stops_here Steps a) (room a.calls k j)

      by_test : (b : Bool) → AnswersAs w g offset old there a.calls (if b then go (one_more_call s) else stops_here Steps s) (λ m k. counting k a (to m k))
      by_test true =
          answers_earlier old old there a.calls (a.calls + 1) (Extends-self (table_of g.table.packages old)) (omega arith) (go (one_more_call s)) (λ m k. counting k a (to m k))
          (answers_as old there (a.calls + 1) 0 (go (one_more_call s)) (λ m k. to m k (one_more_call a)) (λ m k. counting k a (to m k)) same h)
      by_test false = λ e. true_false e

  -- ---- at once

  pub answers_gives : (s : State ℕ) (a : State QualifiedName) (given : List (Shown ℕ)) → AreTogether w g offset s a → KnowsAll (length s.symbols) given
      → AnswersAs w g offset s.symbols (names s.stobjs) a.calls (Gives given s) (λ m k. Gives (map (shown_named s.symbols) given) a)
  answers_gives s a given h k = record {
    after = a;
    together = h;
    more_symbols = Extends-self (table_of g.table.packages s.symbols);
    same_names = refl;
    more = omega arith;
    knows = k;
    budget = 0;
    runs = λ m n i j. refl;
  }

  pub answers_stops : (s : State ℕ) (a : State QualifiedName) (stop : Stop ℕ) → AreTogether w g offset s a
      → AnswersAs w g offset s.symbols (names s.stobjs) a.calls (stops_here stop s) (λ m k. stops_here (stop_named s.symbols stop) a)
  answers_stops s a stop h = λ e. record {
    after = a;
    together = h;
    more_symbols = Extends-self (table_of g.table.packages s.symbols);
    same_names = refl;
    more = omega arith;
    budget = 0;
    runs = λ m n i j. ap (λ (q : ℕ). Stops (stop_named s.symbols stop) (record { inside = None; cut = q + 1 }) a) h.outer;
  }

  pub answers_cut : (old : List QualifiedName) (there : List ℕ) (low n o : ℕ) → o ≡ n → (p : Outcome ℕ) (run : Run w g) → AnswersAs w g offset old there low p run
      → AnswersAs w g offset old there low (cut_at n p) (λ m k. cut_at o (run m k))
  answers_cut old there low n o q (Gives given u) run h = record {
    after = h.after;
    together = h.together;
    more_symbols = h.more_symbols;
    same_names = h.same_names;
    more = h.more;
    knows = h.knows;
    budget = h.budget;
    runs = λ m k i j. ap (λ (z : Outcome QualifiedName). cut_at o z) (h.runs m k i j);
  }
  answers_cut old there low n o q (Stops stop origin u) run h = λ e. let i : StopsAs w g offset old there low stop origin u run = h e in record {
    after = i.after;
    together = i.together;
    more_symbols = i.more_symbols;
    same_names = i.same_names;
    more = i.more;
    budget = i.budget;
    runs = λ m k x j. ap (λ (z : Outcome QualifiedName). cut_at o z) (i.runs m k x j) ∙ ap (λ (z : ℕ). Stops (stop_named u.symbols stop) (cut_before z origin) i.after) q;
  }
  answers_cut old there low n o q Unknown run h = tt

  -- the same where something is known of the whole
  pub answers_counting_when : (Q : List (Shown ℕ) → State ℕ → Type 0) (old : List QualifiedName) (there : List ℕ) (limit : ℕ) (s : State ℕ) (a : State QualifiedName) (go : State ℕ → Outcome ℕ) (to : ℕ → ℕ → State QualifiedName → Outcome QualifiedName)
      → WhenGives Q (counting limit s go)
      → (WhenGives Q (go (one_more_call s)) → AnswersAs w g offset old there (a.calls + 1) (go (one_more_call s)) (λ m k. to m k (one_more_call a))) → AnswersAs w g offset old there a.calls (counting limit s go) (λ m k. counting k a (to m k))
  answers_counting_when Q old there limit s a go to whole next = by_test (nat_lt s.calls limit) whole
    where
      same : (m k : ℕ) → 0 ≤ m → a.calls + 1 ≤ k → counting k a (to m k) ≡ to m k (one_more_call a)
      same m k i j = ap (λ (b : Bool). if b then to m k (one_more_call a) else stops_here Steps a) (room a.calls k j)

      by_test : (b : Bool) → WhenGives Q (if b then go (one_more_call s) else stops_here Steps s) → AnswersAs w g offset old there a.calls (if b then go (one_more_call s) else stops_here Steps s) (λ m k. counting k a (to m k))
      by_test true q =
          answers_earlier old old there a.calls (a.calls + 1) (Extends-self (table_of g.table.packages old)) (omega arith) (go (one_more_call s)) (λ m k. counting k a (to m k))
          (answers_as old there (a.calls + 1) 0 (go (one_more_call s)) (λ m k. to m k (one_more_call a)) (λ m k. counting k a (to m k)) same (next q))
      by_test false q = λ e. true_false e
