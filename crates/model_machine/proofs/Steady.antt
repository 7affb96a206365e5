-- Stobjs in place are steady, and the rules of checked evaluation count no calls in primitives.
use Rattle.std.proofs.Common.{◌≡◌, ℕ, zero, suc, List, [], ◌∷◌, ◌++◌, drop, length, refl, sym, ap, arith}
use Rattle.model_symbols.specs.Symbols.{Package}
use Rattle.model_prims.specs.Applied.{Applied}
use Rattle.model_prims.specs.Applied as prims
use Rattle.model_lists.specs.Lists.{StobjList}
use Rattle.model_terms.specs.Worlds.{World}
use Rattle.model_eval.specs.Outcomes.{Shown, StateOf}
use Rattle.model_eval.specs.Keeping.{Loan, Keeping}
use Rattle.model_eval.specs.PlacesKeeping.{Journal, Closed, Open, Store, Places, lent_places, opened_journal, closed_journal, roots_restored, places_keeping}
use Rattle.model_eval.specs.Checked.{primitive_ended, checked_keeping}
use Rattle.model_machine.specs.Cutting.{IsSteady, NestsExports, HasCalls, PrimitivesCountNone, HasStobjs, PrimitivesWriteNone, IsCutNow}
use Rattle.model_machine.proofs.Closing.{is_cut_now}

dropped : {S : Type 0} (loans : List (Loan S)) (scope others : Places) → drop (length loans) (lent_places loans scope ++ others) ≡ others
dropped [] scope others = refl
dropped (l ∷ ls) scope others = dropped ls scope others

pub places_steady : {S : Type 0} → IsSteady (places_keeping {S = S})
places_steady = record {
  returns = λ formals actuals stobjs. refl;
  lends = λ loans stobjs. ap (λ s. record stobjs { scope = s }) (dropped loans stobjs.scope stobjs.scope);
  puts = λ loan stobjs. refl;
}

-- ---- exports

abbrev pub so_many : {S : Type 0} → Journal S → ℕ
so_many Closed = zero
so_many (Open n before) = suc n

abbrev pub exports_under_way : {S : Type 0} → Store S → ℕ
exports_under_way store = so_many store.journal

one_opened : {S : Type 0} (roots : List (StobjList S)) (journal : Journal S) → so_many (opened_journal roots journal) ≡ suc (so_many journal)
one_opened roots Closed = refl
one_opened roots (Open n before) = omega arith

one_closed : {S : Type 0} (n : ℕ) (journal : Journal S) → so_many journal ≡ suc n → so_many (closed_journal journal) ≡ n
one_closed n Closed e = omega arith
one_closed n (Open zero before) e = omega arith
one_closed n (Open (suc k) before) e = omega arith

-- inside another export nothing is brought back
inside_same : {S : Type 0} (n : ℕ) (journal : Journal S) (roots : List (StobjList S)) → so_many journal ≡ suc (suc n) → roots_restored journal roots ≡ roots
inside_same n Closed roots e = refl
inside_same n (Open zero before) roots e = elim (above_one n e) [ ]
  where
    above_one : (k : ℕ) → suc zero ≡ suc (suc k) → ⊥
    above_one k e = omega arith
inside_same n (Open (suc k) before) roots e = refl

pub places_nest : {S : Type 0} → NestsExports (places_keeping {S = S}) exports_under_way
places_nest = record {
  begins = λ store. one_opened store.roots store.journal;
  commits = λ n store e. one_closed n store.journal e;
  abandons = λ n actuals before store e. one_closed n store.journal e;
  inside = λ n actuals before store e. ap (λ roots. record store { roots = roots; journal = closed_journal store.journal }) (sym (inside_same n store.journal store.roots e));
  writes = λ x l store. refl;
  hands_over = λ formals actuals store. refl;
  hands_back = λ formals actuals store behind. refl;
  lends = λ loans store. refl;
  puts = λ loan store. refl;
  ends_loans = λ n store. refl;
  makes = λ x l store. refl;
  unmakes = λ store. refl;
}

-- ---- primitives

ended_calls : {O : Type 0} (f : ℕ) (values : List (Shown ℕ)) (state : StateOf O) (a : Applied) → HasCalls state.calls (primitive_ended f values state a)
ended_calls f values state (prims.Gives o symbols) = refl
ended_calls f values state (prims.Stops prims.Guard) = refl
ended_calls f values state (prims.Stops prims.Range) = refl
ended_calls f values state (prims.Stops prims.Large) = refl
ended_calls f values state (prims.Stops prims.Symbols) = refl

pub checked_primitives : {O B : Type 0} (keeping : Keeping ℕ O B) (w : World) (packages : List Package) (limit : ℕ) → PrimitivesCountNone (checked_keeping keeping w packages limit)
checked_primitives keeping w packages limit = record { same = λ f p values state. ended_calls f values state _ }

ended_objects : {O : Type 0} (f : ℕ) (values : List (Shown ℕ)) (state : StateOf O) (a : Applied) → HasStobjs state.stobjs (primitive_ended f values state a)
ended_objects f values state (prims.Gives o symbols) = refl
ended_objects f values state (prims.Stops prims.Guard) = refl
ended_objects f values state (prims.Stops prims.Range) = refl
ended_objects f values state (prims.Stops prims.Large) = refl
ended_objects f values state (prims.Stops prims.Symbols) = refl

pub primitives_write_none : {O B : Type 0} (keeping : Keeping ℕ O B) (w : World) (packages : List Package) (limit : ℕ) → PrimitivesWriteNone (checked_keeping keeping w packages limit)
primitives_write_none keeping w packages limit = record { same = λ f p values state. ended_objects f values state _ }

pub places_cut_now : {S : Type 0} → IsCutNow (places_keeping {S = S})
places_cut_now = is_cut_now places_keeping exports_under_way places_steady places_nest
