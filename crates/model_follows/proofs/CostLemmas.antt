-- What computations of the logic cost, one after another.
use Rattle.std.proofs.Common.{◌≡◌, ℕ, zero, suc, ◌+◌, ◌≤◌, List, [], ◌∷◌, ◌++◌, true, ap, ◌∙◌, arith}
use Rattle.std.specs.Prelude.{nat_le}
use Rattle.std.proofs.lemmas.Bool.Decides.{nat_tests}
use Rattle.model_terms.specs.Cores.{Core, Cores, more}
use Rattle.model_terms.specs.Worlds.{definition}
use Rattle.model_logic.specs.Logic.{Theory, Thing, Values, found, then_found, spending, form_values, defined_value, logic_of_abstract, call_within, EndsWith}
use Rattle.model_follows.specs.Costs.{Counted, caller, form_counted, Costs, Ends}

pub costs_nothing : (v : Thing) → Costs (λ budget nest start. found v start) v 0
costs_nothing v = record { gives = λ budget nest start l k. ap (λ (n : ℕ). found v n) (omega arith) }

pub costs_then : (f : Counted) (go : Thing → Counted) (v w : Thing) (n m : ℕ) → Costs f v n → Costs (go v) w m
    → Costs (λ budget nest start. then_found (f budget nest start) (λ u calls. go u budget nest calls)) w (n + m)
costs_then f go v w n m h g = record {
  gives = λ budget nest start l k.
      rw (h.gives budget nest start (omega arith) (omega arith))
      (g.gives budget nest (start + n) (omega arith) (omega arith) ∙ ap (λ (c : ℕ). found w c) (omega arith));
}

pub ends_then : (f : Counted) (go : Thing → Counted) (v w : Thing) → Ends f v → Ends (go v) w → Ends (λ budget nest start. then_found (f budget nest start) (λ u calls. go u budget nest calls)) w
ends_then f go v w h g = (h.0 + g.0, costs_then f go v w h.0 g.0 h.1 g.1)

within : (m n : ℕ) → m ≤ n → nat_le m n ≡ true
within m n l = grind (arith, nat_tests)

pub ends_spending : (k : ℕ) (go : Counted) (w : Thing) → Ends go w → Ends (λ budget nest start. spending budget k start (λ calls. go budget nest calls)) w
ends_spending k go w g = (
  k + g.0,
  record {
    gives = λ budget nest start l h.
        rw (within (start + k) budget (omega arith))
        (g.1.gives budget nest (start + k) (omega arith) (omega arith) ∙ ap (λ (c : ℕ). found w c) (omega arith));
  },
)

-- a call
pub ends_call : (b : Theory) (name : ℕ) (args : List Thing) (w : Thing)
    → Ends (λ budget nest start. defined_value b budget (caller b budget nest) (logic_of_abstract b budget (caller b budget nest)) (definition b.world name) args start) w
    → Ends (λ budget nest start. caller b budget nest name args start) w
unfolding call_within
ends_call b name args w g = (1 + g.0, record { gives = gives })
  where
    gives : (budget nest start : ℕ) → start + (1 + g.0) ≤ budget → 1 + g.0 ≤ nest → call_within b budget nest name args start ≡ found w (start + (1 + g.0))
    gives budget zero start l k = absurd (omega arith)
    gives budget (suc nest) start l k =
        rw (within (start + 1) budget (omega arith))
        (g.1.gives budget nest (start + 1) (omega arith) (omega arith) ∙ ap (λ (c : ℕ). found w c) (omega arith))

pub ends_with : (b : Theory) (form : Core) (values : Values) (v : Thing) → Ends (form_counted b form values) v → EndsWith b form values v
ends_with b form values v h = (h.0, h.0, h.1.gives h.0 h.0 0 (omega arith) (omega arith) ∙ ap (λ (c : ℕ). found v c) (omega arith))

-- forms one after another
pub ends_more : (b : Theory) (form : Core) (forms : Cores) (values : Values) (done : List Thing) (go : List Thing → Counted) (v w : Thing)
    → Ends (form_counted b form values) v
    → Ends (λ budget nest start. form_values b budget (caller b budget nest) forms values (done ++ v ∷ []) (λ os calls. go os budget nest calls) start) w
    → Ends (λ budget nest start. form_values b budget (caller b budget nest) (more form forms) values done (λ os calls. go os budget nest calls) start) w
unfolding form_values
ends_more b form forms values done go v w h g =
    ends_then (form_counted b form values) (λ u budget nest start. form_values b budget (caller b budget nest) forms values (done ++ u ∷ []) (λ os calls. go os budget nest calls) start) v w h g
