-- Environments and windows against the variables of checked evaluation.
use Rattle.std.specs.Prelude.{◌≡◌, ℕ, zero, suc, ◌+◌, ◌<◌, List, [], ◌∷◌, ◌++◌, map, length, Bool, true, false, not, Option, Some, None, nat_eq, refl, cond, if◌then◌else◌}
use Rattle.std.specs.Option.{option_map_or}
use Rattle.std.specs.List.{AllByRecursion, filter}
use Rattle.std.proofs.Common.{sym, ap, ◌∙◌, arith, subst}
use Rattle.model_prims.specs.Kinds.{SymbolKind}
use Rattle.model_terms.specs.Worlds.{World}
use Rattle.model_terms.specs.Classes.{is_stobj_name}
use Rattle.model_terms.specs.Scopes.{ordinary_names}
use Rattle.model_eval.specs.Outcomes.{Shown, Plain, StobjNamed}
use Rattle.model_eval.specs.Keeping.{Loan}
use Rattle.model_eval.specs.Variables.{Variables, variable_in, nothing, bound, inner_variables}
use Rattle.model_slots.specs.Environments.{Environment, names_in, slot_in, LiesBelow, all_bound, ordinary_bound, formal_environment, variables_in}
use Rattle.model_slots.specs.Laws.{Holds, AreAsNamed, as_formals, FindsVariables, BindsAsEvaluation, AreBound}

module _ {S : Type 0} where
  pub value_at : (k : SymbolKind S) (window : ℕ → Shown S) (env : Environment) (x : ℕ) → variable_in k (variables_in window env) x ≡ option_map_or window (slot_in env x) (nothing k)
  value_at k window [] x = refl
  value_at k window (e ∷ es) x = go (nat_eq x e.0) (value_at k window es x)
    where
      go : (b : Bool) → variable_in k (variables_in window es) x ≡ option_map_or window (slot_in es x) (nothing k)
          → cond b (window e.1) (variable_in k (variables_in window es) x) ≡ option_map_or window (cond b (Some e.1) (slot_in es x)) (nothing k)
      go true h = refl
      go false h = h

  formals_from : (window : ℕ → Shown S) (s : ℕ) (formals : List ℕ) (actuals : List (Shown S)) → length formals ≡ length actuals → Holds window s (as_formals formals actuals)
      → inner_variables formals actuals ≡ variables_in window (all_bound s formals [])
  formals_from window s [] actuals n h = refl
  formals_from window s (x ∷ xs) [] n h = absurd (omega arith)
  formals_from window s (x ∷ xs) (Plain o ∷ vs) n h = rw (h.0, formals_from window (s + 1) xs vs (omega arith) h.1) refl
  formals_from window s (x ∷ xs) (StobjNamed y ∷ vs) n h = rw (h.0, formals_from window (s + 1) xs vs (omega arith) h.1) refl

  names_from : (w : World) (window : ℕ → Shown S) (s : ℕ) (env : Environment) (names : List ℕ) (values : List (Shown S)) → AreAsNamed w names values → Holds window s values
      → bound names values (variables_in window env) ≡ variables_in window (ordinary_bound w s names env)
  names_from w window s env [] values a h = refl
  names_from w window s env (x ∷ xs) [] a h = absurd a
  names_from w window s env (x ∷ xs) (Plain o ∷ vs) a h = rw (a.0, h.0, names_from w window (s + 1) env xs vs a.1 h.1) refl
  names_from w window s env (x ∷ xs) (StobjNamed y ∷ vs) a h = rw (a.0, names_from w window (s + 1) env xs vs a.1 h.1) refl

  children_from : (window : ℕ → Shown S) (s : ℕ) (env : Environment) (loans : List (Loan S)) → Holds window s (map (λ (l : Loan S). StobjNamed l.child) loans)
      → map (λ (l : Loan S). (l.child, StobjNamed l.child)) loans ++ variables_in window env ≡ variables_in window (all_bound s (map (λ (l : Loan S). l.child) loans) env)
  children_from window s env [] h = refl
  children_from window s env (l ∷ ls) h = rw (h.0, children_from window (s + 1) env ls h.1) refl

  local_at : (window : ℕ → Shown S) (s : ℕ) (env : Environment) (x : ℕ) → window s ≡ StobjNamed x → (x, StobjNamed x) ∷ variables_in window env ≡ variables_in window (all_bound s (x ∷ []) env)
  local_at window s env x h = rw h refl

  below_at : (window later : ℕ → Shown S) (s : ℕ) (env : Environment) → LiesBelow s env → ((i : ℕ) → i < s → later i ≡ window i) → variables_in later env ≡ variables_in window env
  below_at window later s [] l same = refl
  below_at window later s (e ∷ es) l same = rw (same e.1 l.0, below_at window later s es l.1 same) refl

  pub finds_variables : FindsVariables S
  finds_variables = record { value = value_at }

  pub binds_as_evaluation : BindsAsEvaluation S
  binds_as_evaluation = record {
    formals = λ window formals actuals n h. formals_from window 0 formals actuals n h;
    names = names_from;
    children = children_from;
    local = local_at;
    below = below_at;
  }

-- ---- slots

lies_higher : (m n : ℕ) (env : Environment) → m < suc n → LiesBelow m env → LiesBelow n env
lies_higher m n [] h l = tt
lies_higher m n (e ∷ es) h l = (omega (arith, l.0), lies_higher m n es h l.1)

all_below : (s : ℕ) (env : Environment) (names : List ℕ) → LiesBelow s env → LiesBelow (s + length names) (all_bound s names env)
all_below s env [] l = lies_higher s (s + 0) env (omega arith) l
all_below s env (x ∷ xs) l = (omega arith, subst (λ n. LiesBelow n (all_bound (s + 1) xs env)) (omega arith) (all_below (s + 1) env xs (lies_higher s (s + 1) env (omega arith) l)))

ordinary_below : (w : World) (s : ℕ) (env : Environment) (names : List ℕ) → LiesBelow s env → LiesBelow (s + length names) (ordinary_bound w s names env)
ordinary_below w s env [] l = lies_higher s (s + 0) env (omega arith) l
ordinary_below w s env (x ∷ xs) l = go (is_stobj_name w x) (subst (λ n. LiesBelow n (ordinary_bound w (s + 1) xs env)) (omega arith) (ordinary_below w (s + 1) env xs (lies_higher s (s + 1) env (omega arith) l)))
  where
    go : (b : Bool) → LiesBelow (s + suc (length xs)) (ordinary_bound w (s + 1) xs env) → LiesBelow (s + suc (length xs)) (cond b (ordinary_bound w (s + 1) xs env) ((x, s) ∷ ordinary_bound w (s + 1) xs env))
    go true h = h
    go false h = (omega arith, h)

all_named : (s : ℕ) (env : Environment) (names : List ℕ) → names_in (all_bound s names env) ≡ names ++ names_in env
all_named s env [] = refl
all_named s env (x ∷ xs) = ap (λ ys. x ∷ ys) (all_named (s + 1) env xs)

ordinary_named : (w : World) (s : ℕ) (env : Environment) (names : List ℕ) → names_in (ordinary_bound w s names env) ≡ ordinary_names w names ++ names_in env
ordinary_named w s env [] = refl
ordinary_named w s env (x ∷ xs) = go (is_stobj_name w x) (ordinary_named w (s + 1) env xs)
  where
    go : (b : Bool) → names_in (ordinary_bound w (s + 1) xs env) ≡ ordinary_names w xs ++ names_in env
        → names_in (cond b (ordinary_bound w (s + 1) xs env) ((x, s) ∷ ordinary_bound w (s + 1) xs env)) ≡ cond (not b) (x ∷ ordinary_names w xs) (ordinary_names w xs) ++ names_in env
    go true h = h
    go false h = ap (λ ys. x ∷ ys) h

pub are_bound : AreBound
are_bound = record {
  formals = λ formals. subst (λ n. LiesBelow n (formal_environment formals)) (omega arith) (all_below 0 [] formals tt);
  names = ordinary_below;
  all = all_below;
  ordinary_named = ordinary_named;
  all_named = all_named;
}
