-- Each row, by computing.
use Rattle.std.specs.Prelude.{refl}
use Rattle.model_prims.specs.Guards.{guard, recognizer_guard, relation_guard, arithmetic_guard, listing_guard, naming_guard}
use Rattle.model_prims.specs.Values.{wanted, recognized, related, computed, listed, named_by}
use Rattle.model_prims.specs.Applied.{applied_to, bounded}
use Rattle.model_lists.specs.Effects.{accessed, changed, lengthened, hash_read, hash_bound, hash_looked_up, hash_put, hash_removed}
use Rattle.model_eval.specs.StobjLayouts.{layout_within}
use Rattle.model_eval.specs.GeneratedCalls.{effect}
use Rattle.model_eval.specs.Evaluated.{exec_called, called, in_order, all_borrowed, put_back, evaluated}
use Rattle.model_eval_rows.specs.Books.{AreRight}
use Rattle.model_eval_rows.specs.Counting.{counting_rows}
use Rattle.model_eval_rows.specs.Types.{TypesAreRight, type_rows}
use Rattle.model_eval_rows.specs.ShownLists.{ShownAreRight, shown_rows}
use Rattle.model_eval_rows.specs.Several.{child_rows, congruent_rows}
use Rattle.model_eval_rows.specs.Abstract.{abstract_rows}
use Rattle.model_eval_rows.specs.StackMachine.{machine_rows}
use Rattle.model_eval_rows.specs.Undone.{undone_rows, SymbolsAreUndone}
use Rattle.model_eval_rows.specs.Nested.{export_rows, family_rows, counted_rows}
use Rattle.model_symbols.specs.Opening.{opening, acl2_package, common_lisp_symbols, acl2_symbols, common_lisp_text, acl2_text}
use Rattle.model_eval_rows.specs.Words.{AreNamed}
use Rattle.model_eval_rows.specs.Fields.{array_rows, hash_rows}

pub counting : AreRight counting_rows
unfolding counting_rows guard recognizer_guard relation_guard arithmetic_guard listing_guard naming_guard wanted recognized related computed listed named_by applied_to bounded accessed changed lengthened hash_read hash_bound hash_looked_up hash_put hash_removed layout_within effect exec_called called in_order all_borrowed put_back evaluated
counting = record { all = refl }

pub arrays : AreRight array_rows
unfolding array_rows guard recognizer_guard relation_guard arithmetic_guard listing_guard naming_guard wanted recognized related computed listed named_by applied_to bounded accessed changed lengthened hash_read hash_bound hash_looked_up hash_put hash_removed layout_within effect exec_called called in_order all_borrowed put_back evaluated
arrays = record { all = refl }

pub hash_fields : AreRight hash_rows
unfolding hash_rows guard recognizer_guard relation_guard arithmetic_guard listing_guard naming_guard wanted recognized related computed listed named_by applied_to bounded accessed changed lengthened hash_read hash_bound hash_looked_up hash_put hash_removed layout_within effect exec_called called in_order all_borrowed put_back evaluated
hash_fields = record { all = refl }

pub children : AreRight child_rows
unfolding child_rows guard recognizer_guard relation_guard arithmetic_guard listing_guard naming_guard wanted recognized related computed listed named_by applied_to bounded accessed changed lengthened hash_read hash_bound hash_looked_up hash_put hash_removed layout_within effect exec_called called in_order all_borrowed put_back evaluated
children = record { all = refl }

pub congruent : AreRight congruent_rows
unfolding congruent_rows guard recognizer_guard relation_guard arithmetic_guard listing_guard naming_guard wanted recognized related computed listed named_by applied_to bounded accessed changed lengthened hash_read hash_bound hash_looked_up hash_put hash_removed layout_within effect exec_called called in_order all_borrowed put_back evaluated
congruent = record { all = refl }

pub abstract_stobjs : AreRight abstract_rows
unfolding abstract_rows guard recognizer_guard relation_guard arithmetic_guard listing_guard naming_guard wanted recognized related computed listed named_by applied_to bounded accessed changed lengthened hash_read hash_bound hash_looked_up hash_put hash_removed layout_within effect exec_called called in_order all_borrowed put_back evaluated
abstract_stobjs = record { all = refl }

pub types : TypesAreRight type_rows
unfolding type_rows recognized
types = record { all = refl }

pub shown_lists : ShownAreRight shown_rows
unfolding shown_rows
shown_lists = record { shown = refl; cells = refl }

pub stack_machine : AreRight machine_rows
unfolding machine_rows guard recognizer_guard relation_guard arithmetic_guard listing_guard naming_guard wanted recognized related computed listed named_by applied_to bounded accessed changed lengthened hash_read hash_bound hash_looked_up hash_put hash_removed layout_within effect exec_called called in_order all_borrowed put_back evaluated
stack_machine = record { all = refl }

pub exports_in_exports : AreRight export_rows
unfolding export_rows guard recognizer_guard relation_guard arithmetic_guard listing_guard naming_guard wanted recognized related computed listed named_by applied_to bounded accessed changed lengthened hash_read hash_bound hash_looked_up hash_put hash_removed layout_within effect exec_called called in_order all_borrowed put_back evaluated
exports_in_exports = record { all = refl }

pub children_of_children : AreRight family_rows
unfolding family_rows guard recognizer_guard relation_guard arithmetic_guard listing_guard naming_guard wanted recognized related computed listed named_by applied_to bounded accessed changed lengthened hash_read hash_bound hash_looked_up hash_put hash_removed layout_within effect exec_called called in_order all_borrowed put_back evaluated
children_of_children = record { all = refl }

pub many_calls : AreRight counted_rows
unfolding counted_rows guard recognizer_guard relation_guard arithmetic_guard listing_guard naming_guard wanted recognized related computed listed named_by applied_to bounded accessed changed lengthened hash_read hash_bound hash_looked_up hash_put hash_removed layout_within effect exec_called called in_order all_borrowed put_back evaluated
many_calls = record { all = refl }

pub undone : AreRight undone_rows
unfolding undone_rows guard recognizer_guard relation_guard arithmetic_guard listing_guard naming_guard wanted recognized related computed listed named_by applied_to bounded accessed changed lengthened hash_read hash_bound hash_looked_up hash_put hash_removed layout_within effect exec_called called in_order all_borrowed put_back evaluated
undone = record { all = refl }

pub symbols_undone : SymbolsAreUndone
unfolding guard recognizer_guard relation_guard arithmetic_guard listing_guard naming_guard wanted recognized related computed listed named_by applied_to bounded accessed changed lengthened hash_read hash_bound hash_looked_up hash_put hash_removed layout_within effect exec_called called in_order all_borrowed put_back evaluated
symbols_undone = record { stops = λ symbols e. rw e refl }

pub words : AreNamed
unfolding opening acl2_package common_lisp_symbols acl2_symbols common_lisp_text acl2_text
words = record { names = refl }
