-- Lists that correspond to those of the stobjs, and exports that are called on a local stobj, in the session at the end of the book.
use Rattle.model_text.specs.Token.{token_of}
use Rattle.model_text.specs.Next.{step, next_at}
use Rattle.model_prims.specs.Guards.{recognizer_guard, relation_guard, arithmetic_guard, listing_guard, naming_guard, guard}
use Rattle.model_prims.specs.Applied.{bounded, applied_to}
use Rattle.model_prims.specs.Values.{recognized, related, computed, listed, named_by, wanted}
use Rattle.model_prims.specs.Rows.{table}
use Rattle.model_lists.specs.Effects.{accessed, changed, lengthened, hash_read, hash_bound, hash_looked_up, hash_put, hash_removed}
use Rattle.model_terms.specs.Sites.{below, below_parts, below_actuals}
use Rattle.model_terms.specs.Nested.{stobj_let_holds, with_local_holds}
use Rattle.model_terms.specs.Faults.{first_in, first_at, first_fault}
use Rattle.model_terms.specs.Outputs.{outputs}
use Rattle.model_eval.specs.StobjLayouts.{layout_within}
use Rattle.model_eval.specs.GeneratedCalls.{effect}
use Rattle.model_eval.specs.Evaluated.{exec_called, called, in_order, all_borrowed, put_back, evaluated}
use Rattle.model_stobjs.specs.Obligations.{core_object, core_objects, binding_objects, obligations}
use Rattle.model_stobjs.specs.Heads.{name_in_use}
use Rattle.model_events.specs.Constants.{constant_read, package_read, current_read}
use Rattle.model_events.specs.Macros.{written_macro, macro_read}
use Rattle.model_stobjs.specs.Abstracts.{written_abstract, abstract_read}
use Rattle.model_stobjs.specs.Descriptors.{written_stobj, nesting_within, shape_of, names_made, descriptor_read}
use Rattle.model_stobjs.specs.Guards.{renamed_core, renamed_cores, with_functions, all_with_functions, binds, any_binds, generated_guard}
use Rattle.model_expansion.specs.Expansion.{macro_values, look_at, settled, grown_all, grown}
use Rattle.model_expansion.specs.Layers.{made_of}
use Rattle.model_events.specs.Events.{admitted}
use Rattle.model_events.specs.Functions.{written_fault, functions_read}
use Rattle.model_events.specs.Declarations.{declarations}
use Rattle.model_books.specs.Commands.{command}
use Rattle.model_logic.specs.Logic.{form_value, form_values, call_within}
use Rattle.model_abstract.specs.Rules.{bounded_value}
use Rattle.model_logic.specs.LogicFunctions.{logic_access, logic_update, logic_effect}
use Rattle.model_symbols.specs.Opening.{common_lisp_text, acl2_text, common_lisp_symbols, acl2_symbols, acl2_package, opening}
use Rattle.model_books.specs.Opening.{opening_world}
use Rattle.model_abstract_books_rows.proofs.IdentitySession.{concrete_object, abstract_object, known_symbols, entries, known_standing}
use Rattle.std.proofs.Common.{◌≡◌, ℕ, [], ◌∷◌, Option, Some, None, refl}
use Rattle.std.specs.Prelude.{pos}
use Rattle.model_objects.specs.Object.{Integer, Symbol, Pair}
use Rattle.model_symbols.specs.Opening.{nil_name, truth_name}
use Rattle.model_lists.specs.Lists.{Value, End, Item}
use Rattle.model_terms.specs.declared.rule.Mode.TheVariants.{Executable}
use Rattle.model_terms.specs.Worlds.{Ordinary, Scope, Stobj, Signature, Concrete, Abstract, definition}
use Rattle.model_terms.specs.Outputs.{signature_of}
use Rattle.model_eval.specs.Outcomes.{Plain, State, Outcome, Gives, Stops, Unknown}
use Rattle.model_eval.specs.Variables.{Variables}
use Rattle.model_eval.specs.Checked.{checked, begun, live}
use Rattle.model_logic.specs.Logic.{Thing, Found, logic_call, CallEndsWith}
use Rattle.model_abstract.specs.Corresponding.{Fits, IsConcrete, IsAbstracted, Correspond}
use Rattle.model_in_place.specs.Commands.{live_scope}
use Rattle.model_abstract_books_rows.specs.Rows.{usual}
use Rattle.model_headline_rows.specs.Instances.{one_integer, both_with, concrete_list, both_lists, local_exports}
use Rattle.model_headline_rows.proofs.RowSession.{known_book}

pub concrete_stands : definition known_standing.world 196 ≡ Some (Concrete concrete_object 196)
unfolding known_standing entries opening_world table
concrete_stands = refl

pub abstract_stands : definition known_standing.world 212 ≡ Some (Abstract abstract_object)
unfolding known_standing entries opening_world table
abstract_stands = refl

abbrev pub update_signature : Signature
update_signature = record { ins = Ordinary ∷ Stobj 212 ∷ []; outs = Stobj 212 ∷ [] }

abbrev pub access_signature : Signature
access_signature = record { ins = Stobj 212 ∷ []; outs = Ordinary ∷ [] }

pub update_signed : signature_of known_standing.world [] 215 ≡ Some update_signature
unfolding known_standing entries opening_world table
update_signed = refl

pub access_signed : signature_of known_standing.world [] 214 ≡ Some access_signature
unfolding known_standing entries opening_world table
access_signed = refl

-- ---- lists that correspond

abbrev calls_in : Option Found → ℕ
calls_in None = 0
calls_in (Some f) = f.calls

abbrev pub zero_list : Thing
zero_list = Pair (Integer (pos 0)) (Symbol nil_name)

well_formed : CallEndsWith known_book 204 (zero_list ∷ []) (Symbol truth_name)
unfolding bounded_value logic_access logic_update logic_effect form_value form_values call_within common_lisp_text acl2_text common_lisp_symbols acl2_symbols acl2_package opening token_of step next_at recognizer_guard relation_guard arithmetic_guard listing_guard naming_guard guard bounded applied_to recognized related computed listed named_by wanted table accessed changed lengthened hash_read hash_bound hash_looked_up hash_put hash_removed below below_parts below_actuals stobj_let_holds with_local_holds first_in first_at first_fault outputs layout_within effect exec_called called in_order all_borrowed put_back evaluated core_object core_objects binding_objects obligations name_in_use constant_read package_read current_read written_macro macro_read written_abstract abstract_read written_stobj nesting_within shape_of names_made descriptor_read renamed_core renamed_cores with_functions all_with_functions binds any_binds generated_guard macro_values look_at settled grown_all grown made_of admitted written_fault functions_read declarations opening_world command known_symbols entries known_standing
well_formed = (50, calls_in (logic_call known_book 50 204 (zero_list ∷ []) 0), refl)

corresponding : CallEndsWith known_book 211 (zero_list ∷ zero_list ∷ []) (Symbol truth_name)
unfolding bounded_value logic_access logic_update logic_effect form_value form_values call_within common_lisp_text acl2_text common_lisp_symbols acl2_symbols acl2_package opening token_of step next_at recognizer_guard relation_guard arithmetic_guard listing_guard naming_guard guard bounded applied_to recognized related computed listed named_by wanted table accessed changed lengthened hash_read hash_bound hash_looked_up hash_put hash_removed below below_parts below_actuals stobj_let_holds with_local_holds first_in first_at first_fault outputs layout_within effect exec_called called in_order all_borrowed put_back evaluated core_object core_objects binding_objects obligations name_in_use constant_read package_read current_read written_macro macro_read written_abstract abstract_read written_stobj nesting_within shape_of names_made descriptor_read renamed_core renamed_cores with_functions all_with_functions binds any_binds generated_guard macro_values look_at settled grown_all grown made_of admitted written_fault functions_read declarations opening_world command known_symbols entries known_standing
corresponding = (50, calls_in (logic_call known_book 50 211 (zero_list ∷ zero_list ∷ []) 0), refl)

concrete_fits : Fits known_book 196 (one_integer 0)
unfolding bounded_value logic_access logic_update logic_effect form_value form_values call_within common_lisp_text acl2_text common_lisp_symbols acl2_symbols acl2_package opening token_of step next_at recognizer_guard relation_guard arithmetic_guard listing_guard naming_guard guard bounded applied_to recognized related computed listed named_by wanted table accessed changed lengthened hash_read hash_bound hash_looked_up hash_put hash_removed below below_parts below_actuals stobj_let_holds with_local_holds first_in first_at first_fault outputs layout_within effect exec_called called in_order all_borrowed put_back evaluated core_object core_objects binding_objects obligations name_in_use constant_read package_read current_read written_macro macro_read written_abstract abstract_read written_stobj nesting_within shape_of names_made descriptor_read renamed_core renamed_cores with_functions all_with_functions binds any_binds generated_guard macro_values look_at settled grown_all grown made_of admitted written_fault functions_read declarations opening_world command known_symbols entries known_standing
concrete_fits = record { fields = (tt, tt); recognized = refl; known = (tt, tt) }

concrete_corresponds : IsConcrete known_book 196 (one_integer 0) (Item (Value (Integer (pos 0))) End)
concrete_corresponds = record { fits = concrete_fits; equal = refl }

abstract_corresponds : IsAbstracted known_book abstract_object (one_integer 0) (Value zero_list)
unfolding known_standing opening
abstract_corresponds = record {
  fits = concrete_fits;
  corresponding = (Symbol truth_name, corresponding, refl);
  well_formed = well_formed;
  homes = (tt, (0, refl));
}

pub concrete_correspond : Correspond known_book ((196, one_integer 0) ∷ []) concrete_list
unfolding known_standing entries opening_world table
concrete_correspond = (refl, concrete_corresponds, tt)

pub both_correspond : Correspond known_book (both_with 0 0) both_lists
unfolding known_standing entries opening_world table
both_correspond = (refl, concrete_corresponds, (refl, abstract_corresponds, tt))

-- ---- exports of a local stobj

abbrev pub concrete_scope : Scope
concrete_scope = live_scope ((196, one_integer 0) ∷ [])

abbrev pub concrete_variables : Variables ℕ
concrete_variables = live ((196, one_integer 0) ∷ [])

abbrev pub concrete_state : State ℕ
concrete_state = begun known_symbols ((196, one_integer 0) ∷ []) 0

pub local_accepted : first_fault known_standing.world Executable concrete_scope local_exports (Ordinary ∷ []) ≡ None
unfolding bounded_value logic_access logic_update logic_effect form_value form_values call_within common_lisp_text acl2_text common_lisp_symbols acl2_symbols acl2_package opening token_of step next_at recognizer_guard relation_guard arithmetic_guard listing_guard naming_guard guard bounded applied_to recognized related computed listed named_by wanted table accessed changed lengthened hash_read hash_bound hash_looked_up hash_put hash_removed below below_parts below_actuals stobj_let_holds with_local_holds first_in first_at first_fault outputs layout_within effect exec_called called in_order all_borrowed put_back evaluated core_object core_objects binding_objects obligations name_in_use constant_read package_read current_read written_macro macro_read written_abstract abstract_read written_stobj nesting_within shape_of names_made descriptor_read renamed_core renamed_cores with_functions all_with_functions binds any_binds generated_guard macro_values look_at settled grown_all grown made_of admitted written_fault functions_read declarations opening_world command known_symbols entries known_standing
local_accepted = refl

abbrev state_in : Outcome ℕ → State ℕ
state_in (Gives values state) = state
state_in (Stops stop origin state) = state
state_in Unknown = concrete_state

abbrev pub local_outcome : Outcome ℕ
local_outcome = checked known_standing.world known_standing.packages usual.steps usual.depth local_exports concrete_variables concrete_state

abbrev pub local_after : State ℕ
local_after = state_in local_outcome

pub local_ends : local_outcome ≡ Gives (Plain (Integer (pos 5)) ∷ []) local_after
unfolding bounded_value logic_access logic_update logic_effect form_value form_values call_within common_lisp_text acl2_text common_lisp_symbols acl2_symbols acl2_package opening token_of step next_at recognizer_guard relation_guard arithmetic_guard listing_guard naming_guard guard bounded applied_to recognized related computed listed named_by wanted table accessed changed lengthened hash_read hash_bound hash_looked_up hash_put hash_removed below below_parts below_actuals stobj_let_holds with_local_holds first_in first_at first_fault outputs layout_within effect exec_called called in_order all_borrowed put_back evaluated core_object core_objects binding_objects obligations name_in_use constant_read package_read current_read written_macro macro_read written_abstract abstract_read written_stobj nesting_within shape_of names_made descriptor_read renamed_core renamed_cores with_functions all_with_functions binds any_binds generated_guard macro_values look_at settled grown_all grown made_of admitted written_fault functions_read declarations opening_world command known_symbols entries known_standing
local_ends = refl
