-- What the core forms of the obligations end with, as functions of the values of their variables.
use Rattle.std.specs.Prelude.{refl, ◌≡◌, ℕ, Bool, true, Option, pos, if◌then◌else◌}
use Rattle.model_objects.specs.Object.{Integer}
use Rattle.model_symbols.specs.Opening.{common_lisp_text, acl2_text, common_lisp_symbols, acl2_symbols, acl2_package, opening}
use Rattle.model_prims.specs.Kinds.{by_name, is_nil, nil_of, truth_of, same_object, is_integer}
use Rattle.model_prims.specs.Lists.{len, car, is_true_list, element, updated}
use Rattle.model_prims.specs.Rows.{table}
use Rattle.model_prims.specs.Values.{recognized, related, computed, listed, wanted}
use Rattle.model_terms.specs.Cores.{Core}
use Rattle.model_eval.specs.StobjLayouts.{layout_within}
use Rattle.model_logic.specs.Logic.{Theory, Thing, Values, Found, then_found, found, spending, value_in, logic, form_value, form_values, call_within}
use Rattle.model_logic.specs.LogicFunctions.{logic_access, logic_update, logic_effect}
use Rattle.model_books.specs.Opening.{opening_world}
use Rattle.model_abstract_books.specs.Commands.{theory_of}
use Rattle.model_abstract_books_rows.proofs.IdentitySession.{entries, known_standing, known_symbols}
use Rattle.model_abstract_books_rows.proofs.IdentityForms.{read_supposed, write_supposed, kept_supposed, created_core, created_well_core, read_core, written_core, integer_core, written_well_core}

abbrev pub known_book : Theory
known_book = theory_of known_standing known_symbols

-- a budget that suffices
abbrev pub budget : ℕ
budget = 50

abbrev pub value : Core → Values → Option Found
value f values = logic known_book budget f values

-- ---- the values of the variables: the foundation, the stobj, and an element

abbrev pub concrete_in : Values → Thing
concrete_in values = value_in values 196

abbrev pub abstract_in : Values → Thing
abstract_in values = value_in values 212

abbrev pub element_in : Values → Thing
element_in values = value_in values 210

-- ---- tests

abbrev pub counted : ℕ → (ℕ → Option Found) → Option Found
counted calls go = spending budget 1 calls go

abbrev pub told : Bool → ℕ → Option Found
told b calls = counted calls (λ calls. found (truth_of by_name b) calls)

-- what follows a value other than `NIL`
abbrev pub where_met : Option Found → (ℕ → Option Found) → Option Found
where_met o go = then_found o (λ v calls. if is_nil by_name v then found (nil_of by_name) calls else go calls)

abbrev pub is_list : Thing → Bool
is_list o = is_true_list by_name o

abbrev pub is_single : Thing → Bool
is_single o = same_object by_name (Integer (pos (len o))) (Integer (pos 1))

abbrev pub has_integer : Thing → Bool
has_integer o = is_integer (car by_name o)

abbrev pub length_told : Thing → ℕ → Option Found
length_told o calls =
    then_found (counted calls (λ calls. found (Integer (pos (len o))) calls)) (λ v calls. told (same_object by_name v (Integer (pos 1))) calls)

abbrev pub first_told : Thing → ℕ → Option Found
first_told o calls = then_found (counted calls (λ calls. found (car by_name o) calls)) (λ v calls. told (is_integer v) calls)

-- a true list, of one element, that is an integer
abbrev pub well_formed_value : Bool → Bool → Bool → ℕ → Option Found
well_formed_value t l n calls =
    counted calls (λ calls. where_met (told t calls) (λ calls. where_met (counted calls (λ calls. told l calls)) (λ calls. counted calls (λ calls. told n calls))))

-- the same, where the calls so far are not known
abbrev pub well_formed_later : Thing → ℕ → Option Found
well_formed_later o calls =
    counted calls (λ calls. where_met (told (is_list o) calls) (λ calls. where_met (length_told o calls) (λ calls. first_told o calls)))

-- what is found of the list of the stobj
abbrev pub object_value : Values → ℕ → Option Found
object_value values calls = well_formed_value (is_list (abstract_in values)) (is_single (abstract_in values)) (has_integer (abstract_in values)) calls

abbrev pub corresponding_value : Bool → (ℕ → Option Found) → Option Found
corresponding_value p go = where_met (counted 0 (λ calls. told p calls)) go

abbrev pub alike : Values → Bool
alike values = same_object by_name (concrete_in values) (abstract_in values)

-- ---- values

pub created_value : (values : Values) → value created_core values ≡ found (truth_of by_name true) 5
unfolding known_standing known_symbols entries opening_world table opening common_lisp_text acl2_text common_lisp_symbols acl2_symbols acl2_package form_value form_values call_within logic_access logic_update logic_effect layout_within recognized related computed listed wanted
created_value values = refl

pub created_well_value : (values : Values) → value created_well_core values ≡ found (truth_of by_name true) 8
unfolding known_standing known_symbols entries opening_world table opening common_lisp_text acl2_text common_lisp_symbols acl2_symbols acl2_package form_value form_values call_within logic_access logic_update logic_effect layout_within recognized related computed listed wanted
created_well_value values = refl

pub read_value : (values : Values) → value read_core values ≡ found (truth_of by_name (same_object by_name (car by_name (abstract_in values)) (element by_name 0 (concrete_in values)))) 4
unfolding known_standing known_symbols entries opening_world table opening common_lisp_text acl2_text common_lisp_symbols acl2_symbols acl2_package form_value form_values call_within logic_access logic_update logic_effect layout_within recognized related computed listed wanted
read_value values = refl

pub written_value : (values : Values) → value written_core values ≡ found (truth_of by_name (same_object by_name (updated by_name 0 (element_in values) (concrete_in values)) (updated by_name 0 (element_in values) (abstract_in values)))) 5
unfolding known_standing known_symbols entries opening_world table opening common_lisp_text acl2_text common_lisp_symbols acl2_symbols acl2_package form_value form_values call_within logic_access logic_update logic_effect layout_within recognized related computed listed wanted
written_value values = refl

pub integer_value : (values : Values) → value integer_core values ≡ found (truth_of by_name (is_integer (element_in values))) 1
unfolding known_standing known_symbols entries opening_world table opening common_lisp_text acl2_text common_lisp_symbols acl2_symbols acl2_package form_value form_values call_within logic_access logic_update logic_effect layout_within recognized related computed listed wanted
integer_value values = refl

pub written_well_value : (values : Values) → value written_well_core values ≡ well_formed_value (is_list (updated by_name 0 (element_in values) (abstract_in values))) (is_single (updated by_name 0 (element_in values) (abstract_in values))) (has_integer (updated by_name 0 (element_in values) (abstract_in values))) 2
unfolding known_standing known_symbols entries opening_world table opening common_lisp_text acl2_text common_lisp_symbols acl2_symbols acl2_package form_value form_values call_within logic_access logic_update logic_effect layout_within recognized related computed listed wanted
written_well_value values = refl

pub read_supposed_value : (values : Values) → value read_supposed values ≡ corresponding_value (alike values) (object_value values)
unfolding known_standing known_symbols entries opening_world table opening common_lisp_text acl2_text common_lisp_symbols acl2_symbols acl2_package form_value form_values call_within logic_access logic_update logic_effect layout_within recognized related computed listed wanted
read_supposed_value values = refl

pub write_supposed_value : (values : Values) → value write_supposed values ≡ corresponding_value (alike values) (λ calls. where_met (told (is_integer (element_in values)) calls) (object_value values))
unfolding known_standing known_symbols entries opening_world table opening common_lisp_text acl2_text common_lisp_symbols acl2_symbols acl2_package form_value form_values call_within logic_access logic_update logic_effect layout_within recognized related computed listed wanted
write_supposed_value values = refl

pub kept_supposed_value : (values : Values) → value kept_supposed values ≡ where_met (object_value values 0) (λ calls. where_met (told (is_integer (element_in values)) calls) (well_formed_later (abstract_in values)))
unfolding known_standing known_symbols entries opening_world table opening common_lisp_text acl2_text common_lisp_symbols acl2_symbols acl2_package form_value form_values call_within logic_access logic_update logic_effect layout_within recognized related computed listed wanted
kept_supposed_value values = refl
