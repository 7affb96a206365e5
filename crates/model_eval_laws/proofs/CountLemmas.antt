-- The rules of checked evaluation count.
use Rattle.std.proofs.Common.{◌≡◌, ℕ, ◌<◌, List, [], ◌∷◌, ◌++◌, Bool, true, false, Option, Some, None, refl, sym, arith}
use Rattle.std.specs.Prelude.{nat_lt, nat_le, ℤ, if◌then◌else◌}
use Rattle.std.proofs.lemmas.List.{append-nil}
use Rattle.std.proofs.lemmas.Bool.{ltb-true}
use Rattle.model_objects.specs.Object.{Object, Symbol, weight, max_weight}
use Rattle.model_symbols.specs.Symbols.{QualifiedName, Package, Table, is_known, is_one_too_many}
use Rattle.model_prims.specs.Kinds.{by_number}
use Rattle.model_prims.specs.Numbers.{in_range, power_in_range, shift_in_range}
use Rattle.model_prims.specs.Lists.{updated}
use Rattle.model_prims.specs.Values.{Wanted, Old, Number, Made, Power, Shift, Update, Interned}
use Rattle.model_prims.specs.Applied.{Applied, applied, applied_to, argument, bounded, guarded, number_or, weighed, updated_by, interned_or, beside, number_then}
use Rattle.model_prims.specs.Applied as prims
use Rattle.model_prims.specs.declared.prim.Prim.{Prim}
use Rattle.model_terms.specs.Worlds.{World, FunctionOfAbstract}
use Rattle.model_eval.specs.Outcomes.{Shown, Steps, State, Outcome, Gives, Stops, Unknown, one_more_call, stops_here, Stobjs}
use Rattle.model_eval.specs.Variables.{ordinary}
use Rattle.model_eval.specs.ListsKeeping.{lists_keeping}
use Rattle.model_eval.specs.Checked.{checked_rules, checked_export, primitive_ended, inside_after}
use Rattle.model_eval_laws.specs.Counting.{Grown, Counts, CountsCalls}
use Rattle.model_eval_laws.proofs.Counts.{grown_same, grown_objects, GoCounts, not_less, RulesCount, counts_evaluated, stays_evaluated}

-- ---- primitives

-- the symbols of an answer are those before it, and maybe more
abbrev Adds : List QualifiedName → Applied → Type 0
Adds symbols (prims.Gives o after) = (added : List QualifiedName) × (after ≡ symbols ++ added)
Adds symbols (prims.Stops stop) = Unit {0}

none_added : (symbols : List QualifiedName) → (added : List QualifiedName) × (symbols ≡ symbols ++ added)
none_added symbols = ([], sym (append-nil symbols))

adds_number : (symbols : List QualifiedName) (n : Option ℤ) → Adds symbols (number_or symbols n)
adds_number symbols None = tt
adds_number symbols (Some n) = none_added symbols

adds_weighed : (symbols : List QualifiedName) (o : Object ℕ) → Adds symbols (weighed symbols o)
adds_weighed symbols o = go (nat_le (weight o) max_weight)
  where
    go : (b : Bool) → Adds symbols (if b then prims.Gives o symbols else prims.Stops prims.Large)
    go true = none_added symbols
    go false = tt

adds_updated : (b : Bool) (symbols : List QualifiedName) (n : ℕ) (o l : Object ℕ) → Adds symbols (updated_by b symbols n o l)
adds_updated true symbols n o l = adds_weighed symbols (updated by_number n o l)
adds_updated false symbols n o l = tt

adds_interned : (symbols : List QualifiedName) (s : QualifiedName) → Adds symbols (interned_or symbols s)
adds_interned symbols s = go (is_one_too_many symbols s) (is_known symbols s)
  where
    go : (b c : Bool) → Adds symbols (if b then prims.Stops prims.Symbols else prims.Gives (Symbol (number_then symbols s)) (if c then symbols else symbols ++ s ∷ []))
    go true c = tt
    go false true = none_added symbols
    go false false = (s ∷ [], refl)

adds_bounded : (t : Table) (w : Wanted ℕ) → Adds t.symbols (bounded t w)
unfolding bounded
adds_bounded t (Old o) = none_added t.symbols
adds_bounded t (Number n) = adds_number t.symbols (in_range n)
adds_bounded t (Made o) = adds_weighed t.symbols o
adds_bounded t (Power b n) = adds_number t.symbols (power_in_range b n)
adds_bounded t (Shift i c) = adds_number t.symbols (shift_in_range i c)
adds_bounded t (Update n o l) = adds_updated (nat_le n max_weight) t.symbols n o l
adds_bounded t (Interned name s) = adds_interned t.symbols (beside t name s)

adds_guarded : (b : Bool) (t : Table) (w : Wanted ℕ) → Adds t.symbols (guarded b t w)
adds_guarded true t w = adds_bounded t w
adds_guarded false t w = tt

adds_applied : (t : Table) (p : Prim) (args : List (Object ℕ)) → Adds t.symbols (applied t p args)
unfolding applied_to
adds_applied t p args = adds_guarded _ t _

counts_answer : (limit f : ℕ) (values : List (Shown ℕ)) (state : State ℕ) (a : Applied) → Adds state.symbols a → Counts limit state (primitive_ended f values state a)
counts_answer limit f values state (prims.Gives o symbols) h =
    record { calls = omega arith; within = λ q. q; outer = omega arith; outer_calls = omega arith; symbols = h }
counts_answer limit f values state (prims.Stops prims.Guard) h = (grown_same limit state, λ q. absurd q)
counts_answer limit f values state (prims.Stops prims.Range) h = (grown_same limit state, λ q. absurd q)
counts_answer limit f values state (prims.Stops prims.Large) h = (grown_same limit state, λ q. absurd q)
counts_answer limit f values state (prims.Stops prims.Symbols) h = (grown_same limit state, λ q. absurd q)

-- ---- exports

module _ (limit : ℕ) where
  grown_inside : (a s : State ℕ) → a.calls < limit → Grown limit (one_more_call a) s → Grown limit a (record s { outer = a.outer })
  grown_inside a s l g = record {
    calls = omega (arith, g.calls);
    within = λ q. g.within (omega arith);
    outer = omega arith;
    outer_calls = omega (arith, g.calls);
    symbols = g.symbols;
  }

  counts_inside : (actuals : List (Shown ℕ)) (before : Stobjs ℕ) (x : ℕ) (a : State ℕ) (r : Outcome ℕ) → a.calls < limit → Counts limit (one_more_call a) r → Counts limit a (inside_after lists_keeping actuals before x a.outer r)
  counts_inside actuals before x a (Gives values s) l h = grown_inside a s l h
  counts_inside actuals before x a (Stops stop origin s) l h = (grown_objects limit a (record s { outer = a.outer }) a.stobjs _ (grown_inside a s l h.0), h.1)
  counts_inside actuals before x a Unknown l h = h

  pub counts_export : (f : FunctionOfAbstract) (values : List (Shown ℕ)) (before : Stobjs ℕ) (go : State ℕ → Outcome ℕ) → GoCounts limit go → GoCounts limit (checked_export lists_keeping limit f values before go)
  counts_export f values before go h state = by_test (nat_lt state.calls limit) refl
    where
      by_test : (b : Bool) → nat_lt state.calls limit ≡ b → Counts limit state (if b then inside_after lists_keeping values before f.name state.outer (go (one_more_call state)) else stops_here Steps state)
      by_test true e = counts_inside values before f.name state (go (one_more_call state)) (ltb-true state.calls limit e) (h (one_more_call state))
      by_test false e = (grown_same limit state, λ q. not_less state.calls limit e)

pub checked_count : (w : World) (packages : List Package) (k : ℕ) → RulesCount (checked_rules w packages k)
checked_count w packages k = record {
  primitives = λ f p values state. counts_answer k f values state _ (adds_applied (record { packages = packages; symbols = state.symbols }) p (ordinary values));
  exports = counts_export k;
  known = λ x. (_, refl);
}

pub counts_calls : CountsCalls
counts_calls = record {
  counts = λ w packages k d. counts_evaluated (checked_rules w packages k) (checked_count w packages k) d;
  cut = λ w packages k d form variables state h. stays_evaluated (checked_rules w packages k) (checked_count w packages k) d form variables state h;
}
