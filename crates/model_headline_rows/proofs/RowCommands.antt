-- What commands in the session at the end of the book are, and what they leave.
use Rattle.model_text.specs.Token.{token_of}
use Rattle.model_text.specs.Next.{step, next_at}
use Rattle.model_prims.specs.Guards.{recognizer_guard, relation_guard, arithmetic_guard, listing_guard, naming_guard, guard}
use Rattle.model_prims.specs.Applied.{bounded, applied_to}
use Rattle.model_prims.specs.Values.{recognized, related, computed, listed, named_by, wanted}
use Rattle.model_prims.specs.Rows.{table}
use Rattle.model_lists.specs.Effects.{accessed, changed, lengthened, hash_read, hash_bound, hash_looked_up, hash_put, hash_removed}
use Rattle.model_terms.specs.Sites.{below, below_parts, below_actuals}
use Rattle.model_terms.specs.Nested.{stobj_let_holds, with_local_holds}
use Rattle.model_terms.specs.Faults.{first_in, first_at, first_fault}
use Rattle.model_terms.specs.Outputs.{outputs}
use Rattle.model_eval.specs.StobjLayouts.{layout_within}
use Rattle.model_eval.specs.GeneratedCalls.{effect}
use Rattle.model_eval.specs.Evaluated.{exec_called, called, in_order, all_borrowed, put_back, evaluated}
use Rattle.model_stobjs.specs.Obligations.{core_object, core_objects, binding_objects, obligations}
use Rattle.model_stobjs.specs.Heads.{name_in_use}
use Rattle.model_events.specs.Constants.{constant_read, package_read, current_read}
use Rattle.model_events.specs.Macros.{written_macro, macro_read}
use Rattle.model_stobjs.specs.Abstracts.{written_abstract, abstract_read}
use Rattle.model_stobjs.specs.Descriptors.{written_stobj, nesting_within, shape_of, names_made, descriptor_read}
use Rattle.model_stobjs.specs.Guards.{renamed_core, renamed_cores, with_functions, all_with_functions, binds, any_binds, generated_guard}
use Rattle.model_expansion.specs.Expansion.{macro_values, look_at, settled, grown_all, grown}
use Rattle.model_expansion.specs.Layers.{made_of}
use Rattle.model_events.specs.Events.{admitted}
use Rattle.model_events.specs.Functions.{written_fault, functions_read}
use Rattle.model_events.specs.Declarations.{declarations}
use Rattle.model_books.specs.Commands.{command}
use Rattle.model_logic.specs.Logic.{form_value, form_values, call_within}
use Rattle.model_abstract.specs.Rules.{bounded_value}
use Rattle.model_logic.specs.LogicFunctions.{logic_access, logic_update, logic_effect}
use Rattle.model_symbols.specs.Opening.{common_lisp_text, acl2_text, common_lisp_symbols, acl2_symbols, acl2_package, opening}
use Rattle.model_books.specs.Opening.{opening_world}
use Rattle.model_abstract_books_rows.proofs.IdentitySession.{known_symbols, entries, known_standing}
use Rattle.std.proofs.Common.{◌≡◌, ℕ, List, None, refl}
use Rattle.std.specs.Prelude.{codes, pos}
use Rattle.model_objects.specs.Object.{Integer, Symbol, Pair}
use Rattle.model_symbols.specs.Opening.{acl2, nil_name}
use Rattle.model_text.specs.Token.{Form}
use Rattle.model_terms.specs.Cores.{Core, Const, Var, Call, more, none}
use Rattle.model_terms.specs.Faults.{expression_fault}
use Rattle.model_expansion.specs.Expansion.{Makes, expanded, at_start}
use Rattle.model_events.specs.Events.{Limits, setting}
use Rattle.model_in_place.specs.Commands.{live_scope}
use Rattle.model_abstract_books_rows.specs.Rows.{usual}
use Rattle.model_headline_rows.specs.Instances.{IsReadAs, large, writing, exporting}
use Rattle.model_headline_rows.proofs.RowSession.{session_with, known_session}

-- ---- what is written

abbrev own : List ℕ → Form
own name = Symbol (record { home = acl2; name = name })

abbrev form_of_three : Form → Form → Form → Form
form_of_three a b c = Pair a (Pair b (Pair c (Symbol nil_name)))

pub writing_read : IsReadAs known_session (codes "(update-val$c 18446744073709551616 st$c)") writing
unfolding bounded_value logic_access logic_update logic_effect form_value form_values call_within common_lisp_text acl2_text common_lisp_symbols acl2_symbols acl2_package opening token_of step next_at recognizer_guard relation_guard arithmetic_guard listing_guard naming_guard guard bounded applied_to recognized related computed listed named_by wanted table accessed changed lengthened hash_read hash_bound hash_looked_up hash_put hash_removed below below_parts below_actuals stobj_let_holds with_local_holds first_in first_at first_fault outputs layout_within effect exec_called called in_order all_borrowed put_back evaluated core_object core_objects binding_objects obligations name_in_use constant_read package_read current_read written_macro macro_read written_abstract abstract_read written_stobj nesting_within shape_of names_made descriptor_read renamed_core renamed_cores with_functions all_with_functions binds any_binds generated_guard macro_values look_at settled grown_all grown made_of admitted written_fault functions_read declarations opening_world command known_symbols entries known_standing
writing_read = record { read = form_of_three (own (codes "UPDATE-VAL$C")) (Integer (pos large)) (own (codes "ST$C")); stands = refl; same = refl }

pub exporting_read : IsReadAs known_session (codes "(update-val 5 st)") exporting
unfolding bounded_value logic_access logic_update logic_effect form_value form_values call_within common_lisp_text acl2_text common_lisp_symbols acl2_symbols acl2_package opening token_of step next_at recognizer_guard relation_guard arithmetic_guard listing_guard naming_guard guard bounded applied_to recognized related computed listed named_by wanted table accessed changed lengthened hash_read hash_bound hash_looked_up hash_put hash_removed below below_parts below_actuals stobj_let_holds with_local_holds first_in first_at first_fault outputs layout_within effect exec_called called in_order all_borrowed put_back evaluated core_object core_objects binding_objects obligations name_in_use constant_read package_read current_read written_macro macro_read written_abstract abstract_read written_stobj nesting_within shape_of names_made descriptor_read renamed_core renamed_cores with_functions all_with_functions binds any_binds generated_guard macro_values look_at settled grown_all grown made_of admitted written_fault functions_read declarations opening_world command known_symbols entries known_standing
exporting_read = record { read = form_of_three (own (codes "UPDATE-VAL")) (Integer (pos 5)) (own (codes "ST")); stands = refl; same = refl }

-- ---- what commands do

pub writing_done : (command usual known_session writing).session ≡ session_with large 0
unfolding bounded_value logic_access logic_update logic_effect form_value form_values call_within common_lisp_text acl2_text common_lisp_symbols acl2_symbols acl2_package opening token_of step next_at recognizer_guard relation_guard arithmetic_guard listing_guard naming_guard guard bounded applied_to recognized related computed listed named_by wanted table accessed changed lengthened hash_read hash_bound hash_looked_up hash_put hash_removed below below_parts below_actuals stobj_let_holds with_local_holds first_in first_at first_fault outputs layout_within effect exec_called called in_order all_borrowed put_back evaluated core_object core_objects binding_objects obligations name_in_use constant_read package_read current_read written_macro macro_read written_abstract abstract_read written_stobj nesting_within shape_of names_made descriptor_read renamed_core renamed_cores with_functions all_with_functions binds any_binds generated_guard macro_values look_at settled grown_all grown made_of admitted written_fault functions_read declarations opening_world command known_symbols entries known_standing
writing_done = refl

pub writing_counted : (command usual known_session writing).calls ≡ 1
unfolding bounded_value logic_access logic_update logic_effect form_value form_values call_within common_lisp_text acl2_text common_lisp_symbols acl2_symbols acl2_package opening token_of step next_at recognizer_guard relation_guard arithmetic_guard listing_guard naming_guard guard bounded applied_to recognized related computed listed named_by wanted table accessed changed lengthened hash_read hash_bound hash_looked_up hash_put hash_removed below below_parts below_actuals stobj_let_holds with_local_holds first_in first_at first_fault outputs layout_within effect exec_called called in_order all_borrowed put_back evaluated core_object core_objects binding_objects obligations name_in_use constant_read package_read current_read written_macro macro_read written_abstract abstract_read written_stobj nesting_within shape_of names_made descriptor_read renamed_core renamed_cores with_functions all_with_functions binds any_binds generated_guard macro_values look_at settled grown_all grown made_of admitted written_fault functions_read declarations opening_world command known_symbols entries known_standing
writing_counted = refl

abbrev pub no_calls : Limits
no_calls = record usual { steps = 0 }

pub writing_stopped : (command no_calls known_session writing).session ≡ known_session
unfolding bounded_value logic_access logic_update logic_effect form_value form_values call_within common_lisp_text acl2_text common_lisp_symbols acl2_symbols acl2_package opening token_of step next_at recognizer_guard relation_guard arithmetic_guard listing_guard naming_guard guard bounded applied_to recognized related computed listed named_by wanted table accessed changed lengthened hash_read hash_bound hash_looked_up hash_put hash_removed below below_parts below_actuals stobj_let_holds with_local_holds first_in first_at first_fault outputs layout_within effect exec_called called in_order all_borrowed put_back evaluated core_object core_objects binding_objects obligations name_in_use constant_read package_read current_read written_macro macro_read written_abstract abstract_read written_stobj nesting_within shape_of names_made descriptor_read renamed_core renamed_cores with_functions all_with_functions binds any_binds generated_guard macro_values look_at settled grown_all grown made_of admitted written_fault functions_read declarations opening_world command known_symbols entries known_standing
writing_stopped = refl

pub exporting_done : (command usual known_session exporting).session ≡ session_with 0 5
unfolding bounded_value logic_access logic_update logic_effect form_value form_values call_within common_lisp_text acl2_text common_lisp_symbols acl2_symbols acl2_package opening token_of step next_at recognizer_guard relation_guard arithmetic_guard listing_guard naming_guard guard bounded applied_to recognized related computed listed named_by wanted table accessed changed lengthened hash_read hash_bound hash_looked_up hash_put hash_removed below below_parts below_actuals stobj_let_holds with_local_holds first_in first_at first_fault outputs layout_within effect exec_called called in_order all_borrowed put_back evaluated core_object core_objects binding_objects obligations name_in_use constant_read package_read current_read written_macro macro_read written_abstract abstract_read written_stobj nesting_within shape_of names_made descriptor_read renamed_core renamed_cores with_functions all_with_functions binds any_binds generated_guard macro_values look_at settled grown_all grown made_of admitted written_fault functions_read declarations opening_world command known_symbols entries known_standing
exporting_done = refl

-- ---- the core form that is written

abbrev pub writing_core : Core
writing_core = Call 203 (more (Const (Integer (pos large))) (more (Var 196) none))

pub writing_made : expanded (setting known_standing usual) writing (at_start known_symbols) ≡ Makes writing_core (at_start known_symbols)
unfolding bounded_value logic_access logic_update logic_effect form_value form_values call_within common_lisp_text acl2_text common_lisp_symbols acl2_symbols acl2_package opening token_of step next_at recognizer_guard relation_guard arithmetic_guard listing_guard naming_guard guard bounded applied_to recognized related computed listed named_by wanted table accessed changed lengthened hash_read hash_bound hash_looked_up hash_put hash_removed below below_parts below_actuals stobj_let_holds with_local_holds first_in first_at first_fault outputs layout_within effect exec_called called in_order all_borrowed put_back evaluated core_object core_objects binding_objects obligations name_in_use constant_read package_read current_read written_macro macro_read written_abstract abstract_read written_stobj nesting_within shape_of names_made descriptor_read renamed_core renamed_cores with_functions all_with_functions binds any_binds generated_guard macro_values look_at settled grown_all grown made_of admitted written_fault functions_read declarations opening_world command known_symbols entries known_standing
writing_made = refl

pub writing_accepted : expression_fault known_standing.world (live_scope known_session.stobjs) writing_core ≡ None
unfolding bounded_value logic_access logic_update logic_effect form_value form_values call_within common_lisp_text acl2_text common_lisp_symbols acl2_symbols acl2_package opening token_of step next_at recognizer_guard relation_guard arithmetic_guard listing_guard naming_guard guard bounded applied_to recognized related computed listed named_by wanted table accessed changed lengthened hash_read hash_bound hash_looked_up hash_put hash_removed below below_parts below_actuals stobj_let_holds with_local_holds first_in first_at first_fault outputs layout_within effect exec_called called in_order all_borrowed put_back evaluated core_object core_objects binding_objects obligations name_in_use constant_read package_read current_read written_macro macro_read written_abstract abstract_read written_stobj nesting_within shape_of names_made descriptor_read renamed_core renamed_cores with_functions all_with_functions binds any_binds generated_guard macro_values look_at settled grown_all grown made_of admitted written_fault functions_read declarations opening_world command known_symbols entries known_standing
writing_accepted = refl

-- ---- the world
