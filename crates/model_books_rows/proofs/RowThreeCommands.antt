-- The row of this name, computed.
use Rattle.std.specs.Prelude.{refl}
use Rattle.std.specs.Fmt.{digits}
use Rattle.model_symbols.specs.Opening.{common_lisp_text, acl2_text, common_lisp_symbols, acl2_symbols, acl2_package, opening}
use Rattle.model_text.specs.Token.{token_of}
use Rattle.model_text.specs.Next.{step, next_at}
use Rattle.model_prims.specs.Guards.{recognizer_guard, relation_guard, arithmetic_guard, listing_guard, naming_guard, guard}
use Rattle.model_prims.specs.Applied.{bounded, applied_to}
use Rattle.model_prims.specs.Values.{recognized, related, computed, listed, named_by, wanted}
use Rattle.model_prims.specs.Rows.{table}
use Rattle.model_lists.specs.Effects.{accessed, changed, lengthened, hash_read, hash_bound, hash_looked_up, hash_put, hash_removed}
use Rattle.model_terms.specs.Sites.{below, below_parts, below_actuals}
use Rattle.model_terms.specs.Nested.{stobj_let_holds, with_local_holds}
use Rattle.model_terms.specs.Faults.{first_in, first_at, first_fault}
use Rattle.model_terms.specs.Outputs.{outputs}
use Rattle.model_eval.specs.StobjLayouts.{layout_within}
use Rattle.model_eval.specs.GeneratedCalls.{effect}
use Rattle.model_eval.specs.Evaluated.{exec_called, called, in_order, all_borrowed, put_back, evaluated}
use Rattle.model_stobjs.specs.Obligations.{core_object, core_objects, binding_objects, obligations}
use Rattle.model_stobjs.specs.Heads.{name_in_use}
use Rattle.model_events.specs.Constants.{constant_read, package_read, current_read}
use Rattle.model_events.specs.Macros.{written_macro, macro_read}
use Rattle.model_stobjs.specs.Abstracts.{written_abstract, abstract_read}
use Rattle.model_stobjs.specs.Descriptors.{written_stobj, nesting_within, shape_of, names_made, descriptor_read}
use Rattle.model_stobjs.specs.Guards.{renamed_core, renamed_cores, with_functions, all_with_functions, binds, any_binds, generated_guard}
use Rattle.model_expansion.specs.Expansion.{macro_values, look_at, settled, grown_all, grown}
use Rattle.model_expansion.specs.Layers.{made_of}
use Rattle.model_events.specs.Events.{admitted}
use Rattle.model_events.specs.Functions.{written_fault, functions_read}
use Rattle.model_events.specs.Declarations.{declarations}
use Rattle.model_books.specs.Output.{summary_text, answers, output}
use Rattle.model_books.specs.Opening.{opening_world, opening_session}
use Rattle.model_books.specs.Commands.{command}
use Rattle.model_books.specs.Lines.{answer_lines}
use Rattle.model_books.specs.GeneratedBook.{generated_book}
use Rattle.model_books.specs.ProgramWords.{given}
use Rattle.model_books_rows.specs.Rows.{ThreeCommands}

pub is_computed : ThreeCommands
unfolding digits common_lisp_text acl2_text common_lisp_symbols acl2_symbols acl2_package opening token_of step next_at recognizer_guard relation_guard arithmetic_guard listing_guard naming_guard guard bounded applied_to recognized related computed listed named_by wanted table accessed changed lengthened hash_read hash_bound hash_looked_up hash_put hash_removed below below_parts below_actuals stobj_let_holds with_local_holds first_in first_at first_fault outputs layout_within effect exec_called called in_order all_borrowed put_back evaluated core_object core_objects binding_objects obligations name_in_use constant_read package_read current_read written_macro macro_read written_abstract abstract_read written_stobj nesting_within shape_of names_made descriptor_read renamed_core renamed_cores with_functions all_with_functions binds any_binds generated_guard macro_values look_at settled grown_all grown made_of admitted written_fault functions_read declarations summary_text answers output opening_world opening_session command answer_lines generated_book given
is_computed = record { is_written = refl }
