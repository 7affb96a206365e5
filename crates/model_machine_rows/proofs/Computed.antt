-- Each row, by computing.
use Rattle.std.specs.Prelude.{◌≡◌, map, Some, refl}
use Rattle.model_eval.specs.PlacesKeeping.{Closed}
use Rattle.model_prims.specs.Guards.{guard, recognizer_guard, relation_guard, arithmetic_guard, listing_guard, naming_guard}
use Rattle.model_prims.specs.Values.{wanted, recognized, related, computed, listed, named_by}
use Rattle.model_prims.specs.Applied.{applied_to, bounded}
use Rattle.model_lists.specs.Effects.{accessed, changed, lengthened, hash_read, hash_bound, hash_looked_up, hash_put, hash_removed}
use Rattle.model_eval.specs.StobjLayouts.{layout_within}
use Rattle.model_eval.specs.GeneratedCalls.{effect}
use Rattle.model_eval.specs.Evaluated.{exec_called, called, in_order, all_borrowed, put_back, evaluated}
use Rattle.model_eval_rows.specs.Books.{Row, AreRight}
use Rattle.model_machine_rows.specs.Rows.{AreRightInPlace}
use Rattle.model_machine_rows.specs.Stopping.{stopping_rows, remembered, StopsRestore}
use Rattle.model_eval_rows.specs.Counting.{counting_rows}
use Rattle.model_eval_rows.specs.Fields.{array_rows, hash_rows}
use Rattle.model_eval_rows.specs.Several.{child_rows, congruent_rows}
use Rattle.model_eval_rows.specs.Abstract.{abstract_rows}
use Rattle.model_eval_rows.specs.StackMachine.{machine_rows}
use Rattle.model_eval_rows.specs.Nested.{export_rows, family_rows, counted_rows}

pub counting : AreRightInPlace counting_rows
unfolding counting_rows guard recognizer_guard relation_guard arithmetic_guard listing_guard naming_guard wanted recognized related computed listed named_by applied_to bounded accessed changed lengthened hash_read hash_bound hash_looked_up hash_put hash_removed layout_within effect exec_called called in_order all_borrowed put_back evaluated
counting = record { all = refl }

pub arrays : AreRightInPlace array_rows
unfolding array_rows guard recognizer_guard relation_guard arithmetic_guard listing_guard naming_guard wanted recognized related computed listed named_by applied_to bounded accessed changed lengthened hash_read hash_bound hash_looked_up hash_put hash_removed layout_within effect exec_called called in_order all_borrowed put_back evaluated
arrays = record { all = refl }

pub hash_fields : AreRightInPlace hash_rows
unfolding hash_rows guard recognizer_guard relation_guard arithmetic_guard listing_guard naming_guard wanted recognized related computed listed named_by applied_to bounded accessed changed lengthened hash_read hash_bound hash_looked_up hash_put hash_removed layout_within effect exec_called called in_order all_borrowed put_back evaluated
hash_fields = record { all = refl }

pub children : AreRightInPlace child_rows
unfolding child_rows guard recognizer_guard relation_guard arithmetic_guard listing_guard naming_guard wanted recognized related computed listed named_by applied_to bounded accessed changed lengthened hash_read hash_bound hash_looked_up hash_put hash_removed layout_within effect exec_called called in_order all_borrowed put_back evaluated
children = record { all = refl }

pub congruent : AreRightInPlace congruent_rows
unfolding congruent_rows guard recognizer_guard relation_guard arithmetic_guard listing_guard naming_guard wanted recognized related computed listed named_by applied_to bounded accessed changed lengthened hash_read hash_bound hash_looked_up hash_put hash_removed layout_within effect exec_called called in_order all_borrowed put_back evaluated
congruent = record { all = refl }

pub abstract_stobjs : AreRightInPlace abstract_rows
unfolding abstract_rows guard recognizer_guard relation_guard arithmetic_guard listing_guard naming_guard wanted recognized related computed listed named_by applied_to bounded accessed changed lengthened hash_read hash_bound hash_looked_up hash_put hash_removed layout_within effect exec_called called in_order all_borrowed put_back evaluated
abstract_stobjs = record { all = refl }

pub machine : AreRightInPlace machine_rows
unfolding machine_rows guard recognizer_guard relation_guard arithmetic_guard listing_guard naming_guard wanted recognized related computed listed named_by applied_to bounded accessed changed lengthened hash_read hash_bound hash_looked_up hash_put hash_removed layout_within effect exec_called called in_order all_borrowed put_back evaluated
machine = record { all = refl }

pub exports : AreRightInPlace export_rows
unfolding export_rows guard recognizer_guard relation_guard arithmetic_guard listing_guard naming_guard wanted recognized related computed listed named_by applied_to bounded accessed changed lengthened hash_read hash_bound hash_looked_up hash_put hash_removed layout_within effect exec_called called in_order all_borrowed put_back evaluated
exports = record { all = refl }

pub family : AreRightInPlace family_rows
unfolding family_rows guard recognizer_guard relation_guard arithmetic_guard listing_guard naming_guard wanted recognized related computed listed named_by applied_to bounded accessed changed lengthened hash_read hash_bound hash_looked_up hash_put hash_removed layout_within effect exec_called called in_order all_borrowed put_back evaluated
family = record { all = refl }

pub counted : AreRightInPlace counted_rows
unfolding counted_rows guard recognizer_guard relation_guard arithmetic_guard listing_guard naming_guard wanted recognized related computed listed named_by applied_to bounded accessed changed lengthened hash_read hash_bound hash_looked_up hash_put hash_removed layout_within effect exec_called called in_order all_borrowed put_back evaluated
counted = record { all = refl }

stopping_on_lists : AreRight stopping_rows
unfolding stopping_rows guard recognizer_guard relation_guard arithmetic_guard listing_guard naming_guard wanted recognized related computed listed named_by applied_to bounded accessed changed lengthened hash_read hash_bound hash_looked_up hash_put hash_removed layout_within effect exec_called called in_order all_borrowed put_back evaluated
stopping_on_lists = record { all = refl }

stopping_in_place : AreRightInPlace stopping_rows
unfolding stopping_rows guard recognizer_guard relation_guard arithmetic_guard listing_guard naming_guard wanted recognized related computed listed named_by applied_to bounded accessed changed lengthened hash_read hash_bound hash_looked_up hash_put hash_removed layout_within effect exec_called called in_order all_borrowed put_back evaluated
stopping_in_place = record { all = refl }

stopping_forgotten : map remembered stopping_rows ≡ map (λ (r : Row). Some Closed) stopping_rows
unfolding stopping_rows guard recognizer_guard relation_guard arithmetic_guard listing_guard naming_guard wanted recognized related computed listed named_by applied_to bounded accessed changed lengthened hash_read hash_bound hash_looked_up hash_put hash_removed layout_within effect exec_called called in_order all_borrowed put_back evaluated
stopping_forgotten = refl

pub stopping : StopsRestore stopping_rows
stopping = record { on_lists = stopping_on_lists; in_place = stopping_in_place; forgotten = stopping_forgotten }
