-- Obligations that say nothing, and false ones.
use Rattle.std.proofs.Common.{refl, ◌≡◌, ℕ, [], ◌∷◌, Bool, true, false, sym, subst}
use Rattle.std.specs.Prelude.{pos}
use Rattle.model_symbols.proofs.NameLemmas.{same_name-Decides}
use Rattle.model_symbols.specs.Opening.{opening}
use Rattle.model_objects.specs.Object.{Object, Integer}
use Rattle.model_prims.specs.Kinds.{by_name, truth_of, same_object}
use Rattle.model_prims.specs.Rows.{table}
use Rattle.model_prims.specs.Values.{recognized, related, wanted}
use Rattle.model_lists_laws.proofs.NormalLemmas.{same_itself}
use Rattle.model_terms.specs.Cores.{Core}
use Rattle.model_logic.specs.Logic.{Thing, Values, EndsWith, value_in, form_value, form_values, call_within}
use Rattle.model_abstract_laws.proofs.BudgetLemmas.{is_same_at_larger_budgets}
use Rattle.model_expansion.specs.Words.{hidden_variable_word}
use Rattle.model_stobjs.specs.Obligations.{Claim, Correspondence, Preserved}
use Rattle.model_books.specs.Opening.{opening_world, opening_session}
use Rattle.model_abstract_books.specs.Holding.{IsMet, EndsMet}
use Rattle.model_abstract_books_rows.specs.HoldingRows.{HoldingRows, HoldsAtFirst, book_at_first, variable, constant, equal}

abbrev at_first : Core → Values → Thing → Type 0
at_first f values v = EndsWith book_at_first f values v

-- ---- values

one_ends : (values : Values) → at_first (constant 1) values (Integer (pos 1))
unfolding form_value form_values call_within opening_session
one_ends values = (0, 0, refl)

same_ends : (values : Values) → at_first (equal (constant 1) (constant 1)) values (truth_of by_name true)
unfolding form_value form_values call_within opening_session opening_world table recognized related wanted
same_ends values = (1, 1, refl)

other_ends : (values : Values) → at_first (equal (constant 1) (constant 2)) values (truth_of by_name false)
unfolding form_value form_values call_within opening_session opening_world table recognized related wanted
other_ends values = (1, 1, refl)

open_ends : (values : Values)
    → at_first (equal variable variable) values (truth_of by_name (same_object by_name (value_in values hidden_variable_word) (value_in values hidden_variable_word)))
unfolding form_value form_values call_within opening_session opening_world table recognized related wanted
open_ends values = (1, 1, refl)

true_ends : (values : Values) → at_first (equal variable variable) values (truth_of by_name true)
true_ends values =
    subst (λ b. at_first (equal variable variable) values (truth_of by_name b)) (same_itself by_name same_name-Decides (value_in values hidden_variable_word)) (open_ends values)

-- a conclusion that ends with another value is not met
never_met : (claim : Claim) (f : Core) (u : Thing) → at_first f [] u → (IsMet claim u → ⊥) → EndsMet book_at_first claim f [] → ⊥
never_met claim f u ends not_met met =
    let same = is_same_at_larger_budgets.one book_at_first f [] u met.0 ends met.1 in not_met (subst (λ v. IsMet claim v) (sym same) met.2)

false_one : HoldsAtFirst Correspondence [] (equal (constant 1) (constant 2)) → ⊥
false_one h = never_met Correspondence (equal (constant 1) (constant 2)) (truth_of by_name false) (other_ends []) (λ e. cc) (h.holds [] tt)

not_preserved : HoldsAtFirst Preserved [] (constant 1) → ⊥
not_preserved h = never_met Preserved (constant 1) (Integer (pos 1)) (one_ends []) (λ e. cc) (h.holds [] tt)

pub obligations_hold_or_not : HoldingRows
obligations_hold_or_not = record {
  closed = record { holds = λ values s. (truth_of by_name true, same_ends values, refl) };
  open_one = record { holds = λ values s. (truth_of by_name true, true_ends values, refl) };
  false_one = false_one;
  not_nil = record { holds = λ values s. (Integer (pos 1), one_ends values, refl) };
  not_preserved = not_preserved;
}
