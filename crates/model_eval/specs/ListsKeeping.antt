-- Stobjs kept as lists, each by its variable, the innermost first. A call has the lists of its stobjs, which are handed back
-- (ACL2's manual, topic STOBJ).
use Rattle.std.specs.Prelude.{ℕ, List, ◌∷◌, ◌++◌, drop, Option, Some, None}
use Rattle.model_eval.specs.Outcomes.{Shown, Stobjs, State, Outcome}
use Rattle.model_eval.specs.Keeping.{Loan, Keeping, entering, leaving, handed, put_all, ending_loans, taken_back}
use Rattle.model_eval.specs.Variables.{list_of, with_list, inner_stobjs, handed_back, first_stobj}
use Rattle.model_eval.specs.Lending.{lent, put_into_parent}

-- the stobj has again the list that it had before
abbrev pub list_restored : {S : Type 0} → Option ℕ → Stobjs S → Stobjs S → Stobjs S
list_restored None before stobjs = stobjs
list_restored (Some x) before stobjs = with_list x (list_of before x) stobjs

abbrev pub lists_keeping : {S : Type 0} → Keeping S (Stobjs S) (Stobjs S)
lists_keeping = record {
  read = list_of;
  write = with_list;
  hand_over = inner_stobjs;
  behind = λ stobjs. stobjs;
  hand_back = handed_back;
  lend = λ loans stobjs. lent loans stobjs ++ stobjs;
  put = put_into_parent;
  end_loans = drop;
  make = λ x l stobjs. (x, l) ∷ stobjs;
  unmake = drop 1;
  begin_export = λ stobjs. stobjs;
  commit = λ stobjs. stobjs;
  abandon = λ actuals before stobjs. list_restored (first_stobj actuals) before stobjs;
}

-- ---- what the laws speak of

abbrev pub inner_state : {S : Type 0} → List ℕ → List (Shown S) → State S → State S
inner_state formals actuals state = entering lists_keeping formals actuals state

abbrev pub outer_state : {S : Type 0} → List ℕ → List (Shown S) → State S → State S → State S
outer_state formals actuals state inner = leaving lists_keeping formals actuals state.stobjs inner

abbrev pub back : {S : Type 0} → List ℕ → List (Shown S) → State S → Outcome S → Outcome S
back formals actuals state outcome = handed lists_keeping formals actuals state.stobjs outcome

abbrev pub all_put : {S : Type 0} → List (Loan S) → Stobjs S → Stobjs S
all_put loans stobjs = put_all lists_keeping loans stobjs

abbrev pub without_innermost : {S : Type 0} → ℕ → State S → State S
without_innermost n state = ending_loans lists_keeping n state

abbrev pub returned : {S : Type 0} → List (Loan S) → Outcome S → Outcome S
returned loans outcome = taken_back lists_keeping loans outcome
