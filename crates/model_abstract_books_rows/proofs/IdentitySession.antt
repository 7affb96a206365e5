-- The session at the end of the book, with its definitions and symbols written out.
use Rattle.std.specs.Fmt.{digits}
use Rattle.model_text.specs.Token.{token_of}
use Rattle.model_text.specs.Next.{step, next_at}
use Rattle.model_prims.specs.Guards.{recognizer_guard, relation_guard, arithmetic_guard, listing_guard, naming_guard, guard}
use Rattle.model_prims.specs.Applied.{bounded, applied_to}
use Rattle.model_prims.specs.Values.{recognized, related, computed, listed, named_by, wanted}
use Rattle.model_prims.specs.Rows.{table}
use Rattle.model_lists.specs.Effects.{accessed, changed, lengthened, hash_read, hash_bound, hash_looked_up, hash_put, hash_removed}
use Rattle.model_terms.specs.Sites.{below, below_parts, below_actuals}
use Rattle.model_terms.specs.Nested.{stobj_let_holds, with_local_holds}
use Rattle.model_terms.specs.Faults.{first_in, first_at, first_fault}
use Rattle.model_terms.specs.Outputs.{outputs}
use Rattle.model_eval.specs.StobjLayouts.{layout_within}
use Rattle.model_eval.specs.GeneratedCalls.{effect}
use Rattle.model_eval.specs.Evaluated.{exec_called, called, in_order, all_borrowed, put_back, evaluated}
use Rattle.model_stobjs.specs.Obligations.{core_object, core_objects, binding_objects, obligations}
use Rattle.model_stobjs.specs.Heads.{name_in_use}
use Rattle.model_events.specs.Constants.{constant_read, package_read, current_read}
use Rattle.model_events.specs.Macros.{written_macro, macro_read}
use Rattle.model_stobjs.specs.Abstracts.{written_abstract, abstract_read}
use Rattle.model_stobjs.specs.Descriptors.{written_stobj, nesting_within, shape_of, names_made, descriptor_read}
use Rattle.model_stobjs.specs.Guards.{renamed_core, renamed_cores, with_functions, all_with_functions, binds, any_binds, generated_guard}
use Rattle.model_expansion.specs.Expansion.{macro_values, look_at, settled, grown_all, grown}
use Rattle.model_expansion.specs.Layers.{made_of}
use Rattle.model_events.specs.Events.{admitted}
use Rattle.model_events.specs.Functions.{written_fault, functions_read}
use Rattle.model_events.specs.Declarations.{declarations}
use Rattle.model_books.specs.Output.{summary_text, answers, output}
use Rattle.model_books.specs.Commands.{command}
use Rattle.model_books.specs.Lines.{answer_lines}
use Rattle.model_books.specs.GeneratedBook.{generated_book}
use Rattle.model_books.specs.ProgramWords.{given}
use Rattle.model_abstract_books.specs.Foundations.{prints_foundations}
use Rattle.model_abstract_books.specs.Answers.{answer_named, is_excepted}
use Rattle.model_abstract_books.specs.Commands.{abstract_command}
use Rattle.model_abstract_books_rows.specs.Books.{played, book_played}
use Rattle.model_logic.specs.Logic.{form_value, form_values, call_within}
use Rattle.model_abstract.specs.Rules.{bounded_value}
use Rattle.model_logic.specs.LogicFunctions.{logic_access, logic_update, logic_effect}
use Rattle.std.specs.Prelude.{refl, ◌≡◌, ℕ, List, [], ◌∷◌, ◌++◌, map, Bool, true, false, Option, Some, None, pos, codes}
use Rattle.model_objects.specs.Object.{Integer, Symbol}
use Rattle.model_symbols.specs.Symbols.{QualifiedName}
use Rattle.model_symbols.specs.Opening.{common_lisp_text, acl2_text, common_lisp_symbols, acl2_symbols, acl2_package, opening, words, symbols_of, acl2, keyword}
use Rattle.model_lists.specs.Types.{cons_word, integer_word}
use Rattle.model_terms.specs.declared.role.Role.{Role}
use Rattle.model_terms.specs.declared.role.Role.TheVariants as role
use Rattle.model_terms.specs.declared.role.AbstractRole.{AbstractRole}
use Rattle.model_terms.specs.declared.role.AbstractRole.TheVariants as abstract_role
use Rattle.model_terms.specs.Cores.{Core, Cores, cores, Var, Const, If, Call, more, none}
use Rattle.model_terms.specs.Worlds.{World, Out, Ordinary, Stobj, Signature, Scalar, Descriptor, AbstractDescriptor, Definition, Defined, Concrete, Generated, Abstract, OfAbstract}
use Rattle.model_expansion.specs.Words.{car_word, equal_word, integerp_word}
use Rattle.model_expansion.specs.TypeTerms.{true_core, false_core}
use Rattle.model_events.specs.Events.{Environment}
use Rattle.model_books.specs.Opening.{opening_world, opening_session, first_package}
use Rattle.model_abstract_books_rows.specs.Identity.{identity_book, identity_session}

-- ---- symbols, in the order in which they are read and made

abbrev new_names : List ℕ → List ℕ → List QualifiedName
new_names home text = symbols_of home (words text)

abbrev pub new_symbols : List QualifiedName
new_symbols =
    new_names acl2 (codes "ST$C VAL$C") ++ (new_names keyword (codes "TYPE INITIALLY")
    ++ (new_names acl2 (codes "ST$CP CREATE-ST$C VAL$CP UPDATE-VAL$C ST$AP X CREATE-ST$A VAL$A") ++ (new_names keyword (codes "GUARD")
    ++ (new_names acl2 (codes "UPDATE-VAL$A V ST$CORR ST") ++ (new_names keyword (codes "EXPORTS") ++ new_names acl2 (codes "VAL UPDATE-VAL STP CREATE-ST"))))))

unfoldable pub known_symbols : List QualifiedName
known_symbols = opening.symbols ++ new_symbols

-- ---- definitions; the new symbols have the numbers from 196 on: 196 is `ST$C`, 204 is `ST$AP`, 205 is `X`, 207 is `VAL$A`, 209 is
-- `UPDATE-VAL$A`, 210 is `V`, 211 is `ST$CORR`, 212 is `ST`; 141 is `TRUE-LISTP`, 143 is `LEN`, 145 is `UPDATE-NTH`

abbrev variables : List ℕ → Cores
variables xs = cores (map Var xs)

abbrev call : ℕ → List ℕ → Core
call f xs = Call f (variables xs)

abbrev kinds : List Out → List Out → Signature
kinds ins outs = record { ins = ins; outs = outs }

abbrev pub concrete_object : Descriptor
concrete_object = record {
  name = 196;
  recognizer = 200;
  creator = 201;
  fields = record { name = 197; shape = Scalar (Symbol integer_word) (Integer (pos 0)); made = 202 ∷ 197 ∷ 203 ∷ [] } ∷ [];
  congruent_to = None;
}

abbrev generated : ℕ → Option ℕ → Role → List Out → List Out → Definition
generated name field does ins outs = Generated (record { name = name; stobj = 196; field = field; role = does; signature = kinds ins outs })

abbrev defined : ℕ → List ℕ → Core → Core → Bool → Definition
defined name formals guard body executable =
    Defined (record { name = name; formals = formals; signature = kinds (map (λ x. Ordinary) formals) (Ordinary ∷ []); guard = guard; body = body; executable = executable })

abbrev pub well_formed_body : Core
well_formed_body =
    If (call 141 (205 ∷ [])) (If (Call equal_word (more (call 143 (205 ∷ [])) (more (Const (Integer (pos 1))) none))) (Call integerp_word (more (call car_word (205 ∷ [])) none)) false_core) false_core

abbrev pub abstract_object : AbstractDescriptor
abstract_object = record {
  name = 212;
  foundation = 196;
  corr = 211;
  recognizer = record { name = 216; logic = 204; exec = 200 };
  creator = record { name = 217; logic = 206; exec = 201 };
  exports = record { name = 214; logic = 207; exec = 197 } ∷ record { name = 215; logic = 209; exec = 203 } ∷ [];
}

abbrev of_abstract : ℕ → AbstractRole → List ℕ → List Out → List Out → Core → ℕ → ℕ → Definition
of_abstract name does formals ins outs guard logic exec =
    OfAbstract (record { name = name; stobj = 212; role = does; formals = formals; signature = kinds ins outs; guard = guard; logic = logic; exec = exec })

unfoldable pub entries : World
entries =
    Concrete concrete_object 196
    ∷ generated 200 None role.Recognizer (Stobj 196 ∷ []) (Ordinary ∷ [])
    ∷ generated 201 None role.Creator [] (Stobj 196 ∷ [])
    ∷ generated 202 (Some 0) role.FieldRecognizer (Ordinary ∷ []) (Ordinary ∷ [])
    ∷ generated 197 (Some 0) role.Access (Stobj 196 ∷ []) (Ordinary ∷ [])
    ∷ generated 203 (Some 0) role.Update (Ordinary ∷ Stobj 196 ∷ []) (Stobj 196 ∷ [])
    ∷ defined 204 (205 ∷ []) true_core well_formed_body true
    ∷ defined 206 [] true_core (Call cons_word (more (Const (Integer (pos 0))) (more false_core none))) true
    ∷ defined 207 (205 ∷ []) (call 204 (205 ∷ [])) (call car_word (205 ∷ [])) true
    ∷ defined 209 (210 ∷ 205 ∷ []) (If (call integerp_word (210 ∷ [])) (call 204 (205 ∷ [])) false_core) (Call 145 (more (Const (Integer (pos 0))) (variables (210 ∷ 205 ∷ [])))) true
    ∷ defined 211 (196 ∷ 205 ∷ []) true_core (call equal_word (196 ∷ 205 ∷ [])) false
    ∷ Abstract abstract_object
    ∷ of_abstract 216 abstract_role.Recognizer (212 ∷ []) (Stobj 212 ∷ []) (Ordinary ∷ []) true_core 204 200
    ∷ of_abstract 217 abstract_role.Creator [] [] (Stobj 212 ∷ []) true_core 206 201
    ∷ of_abstract 214 abstract_role.Export (212 ∷ []) (Stobj 212 ∷ []) (Ordinary ∷ []) (call 216 (212 ∷ [])) 207 197
    ∷ of_abstract 215 abstract_role.Export (210 ∷ 212 ∷ []) (Ordinary ∷ Stobj 212 ∷ []) (Stobj 212 ∷ []) (If (call integerp_word (210 ∷ [])) (call 216 (212 ∷ [])) false_core) 209 203
    ∷ []

unfoldable pub known_standing : Environment
known_standing = record { world = opening_world ++ entries; packages = opening.packages; current = first_package }

-- ---- the session, computed

pub symbols_known : identity_session.symbols ≡ known_symbols
unfolding bounded_value logic_access logic_update logic_effect identity_book identity_session answer_named is_excepted abstract_command played prints_foundations book_played form_value form_values call_within digits common_lisp_text acl2_text common_lisp_symbols acl2_symbols acl2_package opening token_of step next_at recognizer_guard relation_guard arithmetic_guard listing_guard naming_guard guard bounded applied_to recognized related computed listed named_by wanted table accessed changed lengthened hash_read hash_bound hash_looked_up hash_put hash_removed below below_parts below_actuals stobj_let_holds with_local_holds first_in first_at first_fault outputs layout_within effect exec_called called in_order all_borrowed put_back evaluated core_object core_objects binding_objects obligations name_in_use constant_read package_read current_read written_macro macro_read written_abstract abstract_read written_stobj nesting_within shape_of names_made descriptor_read renamed_core renamed_cores with_functions all_with_functions binds any_binds generated_guard macro_values look_at settled grown_all grown made_of admitted written_fault functions_read declarations summary_text answers output opening_world opening_session command answer_lines generated_book given known_symbols entries known_standing
symbols_known = refl

pub standing_known : identity_session.environment ≡ known_standing
unfolding bounded_value logic_access logic_update logic_effect identity_book identity_session answer_named is_excepted abstract_command played prints_foundations book_played form_value form_values call_within digits common_lisp_text acl2_text common_lisp_symbols acl2_symbols acl2_package opening token_of step next_at recognizer_guard relation_guard arithmetic_guard listing_guard naming_guard guard bounded applied_to recognized related computed listed named_by wanted table accessed changed lengthened hash_read hash_bound hash_looked_up hash_put hash_removed below below_parts below_actuals stobj_let_holds with_local_holds first_in first_at first_fault outputs layout_within effect exec_called called in_order all_borrowed put_back evaluated core_object core_objects binding_objects obligations name_in_use constant_read package_read current_read written_macro macro_read written_abstract abstract_read written_stobj nesting_within shape_of names_made descriptor_read renamed_core renamed_cores with_functions all_with_functions binds any_binds generated_guard macro_values look_at settled grown_all grown made_of admitted written_fault functions_read declarations summary_text answers output opening_world opening_session command answer_lines generated_book given known_symbols entries known_standing
standing_known = refl
