-- The calls of generated functions, computed.
use Rattle.std.proofs.Common.{◌≡◌, List, [], ◌∷◌, Bool, Option, Some, refl, sym, ap, ◌∙◌}
use Rattle.std.specs.Prelude.{map}
use Rattle.std.specs.Fmt.{digits}
use Rattle.model_symbols.specs.Opening.{common_lisp_text, acl2_text, common_lisp_symbols, acl2_symbols, acl2_package, opening}
use Rattle.model_text.specs.Token.{token_of}
use Rattle.model_text.specs.Next.{step, next_at}
use Rattle.model_prims.specs.Guards.{recognizer_guard, relation_guard, arithmetic_guard, listing_guard, naming_guard, guard}
use Rattle.model_prims.specs.Applied.{bounded, applied_to}
use Rattle.model_prims.specs.Values.{recognized, related, computed, listed, named_by, wanted}
use Rattle.model_prims.specs.Rows.{table}
use Rattle.model_lists.specs.Effects.{accessed, changed, lengthened, hash_read, hash_bound, hash_looked_up, hash_put, hash_removed}
use Rattle.model_terms.specs.Sites.{below, below_parts, below_actuals}
use Rattle.model_terms.specs.Nested.{stobj_let_holds, with_local_holds}
use Rattle.model_terms.specs.Faults.{first_in, first_at, first_fault}
use Rattle.model_terms.specs.Outputs.{outputs}
use Rattle.model_eval.specs.StobjLayouts.{layout_within}
use Rattle.model_eval.specs.GeneratedCalls.{effect}
use Rattle.model_eval.specs.Evaluated.{exec_called, called, in_order, all_borrowed, put_back, evaluated}
use Rattle.model_stobjs.specs.Obligations.{core_object, core_objects, binding_objects, obligations}
use Rattle.model_stobjs.specs.Heads.{name_in_use}
use Rattle.model_events.specs.Constants.{constant_read, package_read, current_read}
use Rattle.model_events.specs.Macros.{written_macro, macro_read}
use Rattle.model_stobjs.specs.Abstracts.{written_abstract, abstract_read}
use Rattle.model_stobjs.specs.Descriptors.{written_stobj, nesting_within, shape_of, names_made, descriptor_read}
use Rattle.model_stobjs.specs.Guards.{renamed_core, renamed_cores, with_functions, all_with_functions, binds, any_binds, generated_guard}
use Rattle.model_expansion.specs.Expansion.{macro_values, look_at, settled, grown_all, grown}
use Rattle.model_expansion.specs.Layers.{made_of}
use Rattle.model_events.specs.Events.{admitted}
use Rattle.model_events.specs.Functions.{written_fault, functions_read}
use Rattle.model_events.specs.Declarations.{declarations}
use Rattle.model_books.specs.Output.{summary_text, answers, output}
use Rattle.model_books.specs.Opening.{Session, opening_world, opening_session}
use Rattle.model_books.specs.Commands.{command}
use Rattle.model_books.specs.Lines.{Bytes, answer_lines}
use Rattle.model_books.specs.GeneratedBook.{generated_book}
use Rattle.model_books.specs.ProgramWords.{given}
use Rattle.model_books_laws.specs.GuardTests.{Question, GuardsAgree, session_of, session_after, by_guard, by_effect, guard_answers, effect_answers, answers_wanted}
use Rattle.model_books_laws.specs.GuardRows.{number_objects, number_questions, word_objects, word_questions, array_objects, array_questions, resized_objects, resized_questions, shortened_objects, shortened_questions, emptied_objects, emptied_questions, symbol_key_objects, symbol_key_questions, simple_key_objects, simple_key_questions, any_key_objects, any_key_questions, child_objects, child_questions, put_back_objects, put_back_questions, GuardsAgreeWithEffects}

-- ---- both lists at once

abbrev both_of : Session → Question → Option Bool × Option Bool
both_of s q = (by_guard s q, by_effect s q)

unfoldable both_answers : List Bytes → List Question → List (Option Bool × Option Bool)
both_answers commands questions = map (both_of (session_of commands)) questions

unfoldable both_wanted : List Question → List (Option Bool × Option Bool)
both_wanted questions = map (λ (q : Question). (Some q.answer, Some q.answer)) questions

first_parts : {A B C : Type 0} (f : A → B) (g : A → C) (xs : List A) → map (λ (p : B × C). p.0) (map (λ x. (f x, g x)) xs) ≡ map f xs
first_parts f g [] = refl
first_parts f g (x ∷ xs) = ap (λ ys. f x ∷ ys) (first_parts f g xs)

second_parts : {A B C : Type 0} (f : A → B) (g : A → C) (xs : List A) → map (λ (p : B × C). p.1) (map (λ x. (f x, g x)) xs) ≡ map g xs
second_parts f g [] = refl
second_parts f g (x ∷ xs) = ap (λ ys. g x ∷ ys) (second_parts f g xs)

apart : (commands : List Bytes) (questions : List Question) → both_answers commands questions ≡ both_wanted questions → GuardsAgree commands questions
unfolding both_answers both_wanted guard_answers effect_answers answers_wanted
apart commands questions e =
    let s = session_of commands in
    let wanted : Question → Option Bool = λ q. Some q.answer in
    record {
      guards = sym (first_parts (by_guard s) (by_effect s) questions) ∙ (ap (map (λ (p : Option Bool × Option Bool). p.0)) e ∙ first_parts wanted wanted questions);
      effects = sym (second_parts (by_guard s) (by_effect s) questions) ∙ (ap (map (λ (p : Option Bool × Option Bool). p.1)) e ∙ second_parts wanted wanted questions);
    }

-- ---- the rows

number_agree : both_answers number_objects number_questions ≡ both_wanted number_questions
unfolding number_objects number_questions session_after both_answers both_wanted digits common_lisp_text acl2_text common_lisp_symbols acl2_symbols acl2_package opening token_of step next_at recognizer_guard relation_guard arithmetic_guard listing_guard naming_guard guard bounded applied_to recognized related computed listed named_by wanted table accessed changed lengthened hash_read hash_bound hash_looked_up hash_put hash_removed below below_parts below_actuals stobj_let_holds with_local_holds first_in first_at first_fault outputs layout_within effect exec_called called in_order all_borrowed put_back evaluated core_object core_objects binding_objects obligations name_in_use constant_read package_read current_read written_macro macro_read written_abstract abstract_read written_stobj nesting_within shape_of names_made descriptor_read renamed_core renamed_cores with_functions all_with_functions binds any_binds generated_guard macro_values look_at settled grown_all grown made_of admitted written_fault functions_read declarations summary_text answers output opening_world opening_session command answer_lines generated_book given
number_agree = refl

word_agree : both_answers word_objects word_questions ≡ both_wanted word_questions
unfolding word_objects word_questions session_after both_answers both_wanted digits common_lisp_text acl2_text common_lisp_symbols acl2_symbols acl2_package opening token_of step next_at recognizer_guard relation_guard arithmetic_guard listing_guard naming_guard guard bounded applied_to recognized related computed listed named_by wanted table accessed changed lengthened hash_read hash_bound hash_looked_up hash_put hash_removed below below_parts below_actuals stobj_let_holds with_local_holds first_in first_at first_fault outputs layout_within effect exec_called called in_order all_borrowed put_back evaluated core_object core_objects binding_objects obligations name_in_use constant_read package_read current_read written_macro macro_read written_abstract abstract_read written_stobj nesting_within shape_of names_made descriptor_read renamed_core renamed_cores with_functions all_with_functions binds any_binds generated_guard macro_values look_at settled grown_all grown made_of admitted written_fault functions_read declarations summary_text answers output opening_world opening_session command answer_lines generated_book given
word_agree = refl

array_agree : both_answers array_objects array_questions ≡ both_wanted array_questions
unfolding array_objects array_questions session_after both_answers both_wanted digits common_lisp_text acl2_text common_lisp_symbols acl2_symbols acl2_package opening token_of step next_at recognizer_guard relation_guard arithmetic_guard listing_guard naming_guard guard bounded applied_to recognized related computed listed named_by wanted table accessed changed lengthened hash_read hash_bound hash_looked_up hash_put hash_removed below below_parts below_actuals stobj_let_holds with_local_holds first_in first_at first_fault outputs layout_within effect exec_called called in_order all_borrowed put_back evaluated core_object core_objects binding_objects obligations name_in_use constant_read package_read current_read written_macro macro_read written_abstract abstract_read written_stobj nesting_within shape_of names_made descriptor_read renamed_core renamed_cores with_functions all_with_functions binds any_binds generated_guard macro_values look_at settled grown_all grown made_of admitted written_fault functions_read declarations summary_text answers output opening_world opening_session command answer_lines generated_book given
array_agree = refl

resized_agree : both_answers resized_objects resized_questions ≡ both_wanted resized_questions
unfolding resized_objects resized_questions session_after both_answers both_wanted digits common_lisp_text acl2_text common_lisp_symbols acl2_symbols acl2_package opening token_of step next_at recognizer_guard relation_guard arithmetic_guard listing_guard naming_guard guard bounded applied_to recognized related computed listed named_by wanted table accessed changed lengthened hash_read hash_bound hash_looked_up hash_put hash_removed below below_parts below_actuals stobj_let_holds with_local_holds first_in first_at first_fault outputs layout_within effect exec_called called in_order all_borrowed put_back evaluated core_object core_objects binding_objects obligations name_in_use constant_read package_read current_read written_macro macro_read written_abstract abstract_read written_stobj nesting_within shape_of names_made descriptor_read renamed_core renamed_cores with_functions all_with_functions binds any_binds generated_guard macro_values look_at settled grown_all grown made_of admitted written_fault functions_read declarations summary_text answers output opening_world opening_session command answer_lines generated_book given
resized_agree = refl

shortened_agree : both_answers shortened_objects shortened_questions ≡ both_wanted shortened_questions
unfolding shortened_objects shortened_questions session_after both_answers both_wanted digits common_lisp_text acl2_text common_lisp_symbols acl2_symbols acl2_package opening token_of step next_at recognizer_guard relation_guard arithmetic_guard listing_guard naming_guard guard bounded applied_to recognized related computed listed named_by wanted table accessed changed lengthened hash_read hash_bound hash_looked_up hash_put hash_removed below below_parts below_actuals stobj_let_holds with_local_holds first_in first_at first_fault outputs layout_within effect exec_called called in_order all_borrowed put_back evaluated core_object core_objects binding_objects obligations name_in_use constant_read package_read current_read written_macro macro_read written_abstract abstract_read written_stobj nesting_within shape_of names_made descriptor_read renamed_core renamed_cores with_functions all_with_functions binds any_binds generated_guard macro_values look_at settled grown_all grown made_of admitted written_fault functions_read declarations summary_text answers output opening_world opening_session command answer_lines generated_book given
shortened_agree = refl

emptied_agree : both_answers emptied_objects emptied_questions ≡ both_wanted emptied_questions
unfolding emptied_objects emptied_questions session_after both_answers both_wanted digits common_lisp_text acl2_text common_lisp_symbols acl2_symbols acl2_package opening token_of step next_at recognizer_guard relation_guard arithmetic_guard listing_guard naming_guard guard bounded applied_to recognized related computed listed named_by wanted table accessed changed lengthened hash_read hash_bound hash_looked_up hash_put hash_removed below below_parts below_actuals stobj_let_holds with_local_holds first_in first_at first_fault outputs layout_within effect exec_called called in_order all_borrowed put_back evaluated core_object core_objects binding_objects obligations name_in_use constant_read package_read current_read written_macro macro_read written_abstract abstract_read written_stobj nesting_within shape_of names_made descriptor_read renamed_core renamed_cores with_functions all_with_functions binds any_binds generated_guard macro_values look_at settled grown_all grown made_of admitted written_fault functions_read declarations summary_text answers output opening_world opening_session command answer_lines generated_book given
emptied_agree = refl

symbol_key_agree : both_answers symbol_key_objects symbol_key_questions ≡ both_wanted symbol_key_questions
unfolding symbol_key_objects symbol_key_questions session_after both_answers both_wanted digits common_lisp_text acl2_text common_lisp_symbols acl2_symbols acl2_package opening token_of step next_at recognizer_guard relation_guard arithmetic_guard listing_guard naming_guard guard bounded applied_to recognized related computed listed named_by wanted table accessed changed lengthened hash_read hash_bound hash_looked_up hash_put hash_removed below below_parts below_actuals stobj_let_holds with_local_holds first_in first_at first_fault outputs layout_within effect exec_called called in_order all_borrowed put_back evaluated core_object core_objects binding_objects obligations name_in_use constant_read package_read current_read written_macro macro_read written_abstract abstract_read written_stobj nesting_within shape_of names_made descriptor_read renamed_core renamed_cores with_functions all_with_functions binds any_binds generated_guard macro_values look_at settled grown_all grown made_of admitted written_fault functions_read declarations summary_text answers output opening_world opening_session command answer_lines generated_book given
symbol_key_agree = refl

simple_key_agree : both_answers simple_key_objects simple_key_questions ≡ both_wanted simple_key_questions
unfolding simple_key_objects simple_key_questions session_after both_answers both_wanted digits common_lisp_text acl2_text common_lisp_symbols acl2_symbols acl2_package opening token_of step next_at recognizer_guard relation_guard arithmetic_guard listing_guard naming_guard guard bounded applied_to recognized related computed listed named_by wanted table accessed changed lengthened hash_read hash_bound hash_looked_up hash_put hash_removed below below_parts below_actuals stobj_let_holds with_local_holds first_in first_at first_fault outputs layout_within effect exec_called called in_order all_borrowed put_back evaluated core_object core_objects binding_objects obligations name_in_use constant_read package_read current_read written_macro macro_read written_abstract abstract_read written_stobj nesting_within shape_of names_made descriptor_read renamed_core renamed_cores with_functions all_with_functions binds any_binds generated_guard macro_values look_at settled grown_all grown made_of admitted written_fault functions_read declarations summary_text answers output opening_world opening_session command answer_lines generated_book given
simple_key_agree = refl

any_key_agree : both_answers any_key_objects any_key_questions ≡ both_wanted any_key_questions
unfolding any_key_objects any_key_questions session_after both_answers both_wanted digits common_lisp_text acl2_text common_lisp_symbols acl2_symbols acl2_package opening token_of step next_at recognizer_guard relation_guard arithmetic_guard listing_guard naming_guard guard bounded applied_to recognized related computed listed named_by wanted table accessed changed lengthened hash_read hash_bound hash_looked_up hash_put hash_removed below below_parts below_actuals stobj_let_holds with_local_holds first_in first_at first_fault outputs layout_within effect exec_called called in_order all_borrowed put_back evaluated core_object core_objects binding_objects obligations name_in_use constant_read package_read current_read written_macro macro_read written_abstract abstract_read written_stobj nesting_within shape_of names_made descriptor_read renamed_core renamed_cores with_functions all_with_functions binds any_binds generated_guard macro_values look_at settled grown_all grown made_of admitted written_fault functions_read declarations summary_text answers output opening_world opening_session command answer_lines generated_book given
any_key_agree = refl

child_agree : both_answers child_objects child_questions ≡ both_wanted child_questions
unfolding child_objects child_questions session_after both_answers both_wanted digits common_lisp_text acl2_text common_lisp_symbols acl2_symbols acl2_package opening token_of step next_at recognizer_guard relation_guard arithmetic_guard listing_guard naming_guard guard bounded applied_to recognized related computed listed named_by wanted table accessed changed lengthened hash_read hash_bound hash_looked_up hash_put hash_removed below below_parts below_actuals stobj_let_holds with_local_holds first_in first_at first_fault outputs layout_within effect exec_called called in_order all_borrowed put_back evaluated core_object core_objects binding_objects obligations name_in_use constant_read package_read current_read written_macro macro_read written_abstract abstract_read written_stobj nesting_within shape_of names_made descriptor_read renamed_core renamed_cores with_functions all_with_functions binds any_binds generated_guard macro_values look_at settled grown_all grown made_of admitted written_fault functions_read declarations summary_text answers output opening_world opening_session command answer_lines generated_book given
child_agree = refl

put_back_say : guard_answers put_back_objects put_back_questions ≡ answers_wanted put_back_questions
unfolding put_back_objects put_back_questions session_after guard_answers answers_wanted digits common_lisp_text acl2_text common_lisp_symbols acl2_symbols acl2_package opening token_of step next_at recognizer_guard relation_guard arithmetic_guard listing_guard naming_guard guard bounded applied_to recognized related computed listed named_by wanted table accessed changed lengthened hash_read hash_bound hash_looked_up hash_put hash_removed below below_parts below_actuals stobj_let_holds with_local_holds first_in first_at first_fault outputs layout_within effect exec_called called in_order all_borrowed put_back evaluated core_object core_objects binding_objects obligations name_in_use constant_read package_read current_read written_macro macro_read written_abstract abstract_read written_stobj nesting_within shape_of names_made descriptor_read renamed_core renamed_cores with_functions all_with_functions binds any_binds generated_guard macro_values look_at settled grown_all grown made_of admitted written_fault functions_read declarations summary_text answers output opening_world opening_session command answer_lines generated_book given
put_back_say = refl

pub guards_agree : GuardsAgreeWithEffects
guards_agree = record {
  number = apart number_objects number_questions number_agree;
  word = apart word_objects word_questions word_agree;
  array = apart array_objects array_questions array_agree;
  resized = apart resized_objects resized_questions resized_agree;
  shortened = apart shortened_objects shortened_questions shortened_agree;
  emptied = apart emptied_objects emptied_questions emptied_agree;
  symbol_key = apart symbol_key_objects symbol_key_questions symbol_key_agree;
  simple_key = apart simple_key_objects simple_key_questions simple_key_agree;
  any_key = apart any_key_objects any_key_questions any_key_agree;
  child = apart child_objects child_questions child_agree;
  put_back = record { guards = put_back_say };
}
