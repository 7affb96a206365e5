-- Each row, by computing.
use Rattle.std.specs.Prelude.{refl}
use Rattle.model_prims.specs.Guards.{guard, recognizer_guard, relation_guard, arithmetic_guard, listing_guard, naming_guard}
use Rattle.model_prims.specs.Values.{wanted, recognized, related, computed, listed, named_by}
use Rattle.model_prims.specs.Applied.{applied_to, bounded}
use Rattle.model_lists.specs.Effects.{accessed, changed, lengthened, hash_read, hash_bound, hash_looked_up, hash_put, hash_removed}
use Rattle.model_eval.specs.StobjLayouts.{layout_within}
use Rattle.model_eval.specs.GeneratedCalls.{effect}
use Rattle.model_slots.specs.Resolved.{resolved, all_resolved}
use Rattle.model_window.specs.Turns.{turn}
use Rattle.model_window_rows.specs.Rows.{AreRightByTurns}
use Rattle.model_eval_rows.specs.Counting.{counting_rows}
use Rattle.model_eval_rows.specs.Several.{child_rows, congruent_rows}
use Rattle.model_eval_rows.specs.Abstract.{abstract_rows}
use Rattle.model_eval_rows.specs.StackMachine.{machine_rows}
use Rattle.model_eval_rows.specs.Nested.{export_rows, family_rows, counted_rows}

pub counting : AreRightByTurns counting_rows
unfolding counting_rows guard recognizer_guard relation_guard arithmetic_guard listing_guard naming_guard wanted recognized related computed listed named_by applied_to bounded accessed changed lengthened hash_read hash_bound hash_looked_up hash_put hash_removed layout_within effect resolved all_resolved turn
counting = record { all = refl }

pub children : AreRightByTurns child_rows
unfolding child_rows guard recognizer_guard relation_guard arithmetic_guard listing_guard naming_guard wanted recognized related computed listed named_by applied_to bounded accessed changed lengthened hash_read hash_bound hash_looked_up hash_put hash_removed layout_within effect resolved all_resolved turn
children = record { all = refl }

pub congruent : AreRightByTurns congruent_rows
unfolding congruent_rows guard recognizer_guard relation_guard arithmetic_guard listing_guard naming_guard wanted recognized related computed listed named_by applied_to bounded accessed changed lengthened hash_read hash_bound hash_looked_up hash_put hash_removed layout_within effect resolved all_resolved turn
congruent = record { all = refl }

pub abstract_stobjs : AreRightByTurns abstract_rows
unfolding abstract_rows guard recognizer_guard relation_guard arithmetic_guard listing_guard naming_guard wanted recognized related computed listed named_by applied_to bounded accessed changed lengthened hash_read hash_bound hash_looked_up hash_put hash_removed layout_within effect resolved all_resolved turn
abstract_stobjs = record { all = refl }

pub machine : AreRightByTurns machine_rows
unfolding machine_rows guard recognizer_guard relation_guard arithmetic_guard listing_guard naming_guard wanted recognized related computed listed named_by applied_to bounded accessed changed lengthened hash_read hash_bound hash_looked_up hash_put hash_removed layout_within effect resolved all_resolved turn
machine = record { all = refl }

pub exports : AreRightByTurns export_rows
unfolding export_rows guard recognizer_guard relation_guard arithmetic_guard listing_guard naming_guard wanted recognized related computed listed named_by applied_to bounded accessed changed lengthened hash_read hash_bound hash_looked_up hash_put hash_removed layout_within effect resolved all_resolved turn
exports = record { all = refl }

pub family : AreRightByTurns family_rows
unfolding family_rows guard recognizer_guard relation_guard arithmetic_guard listing_guard naming_guard wanted recognized related computed listed named_by applied_to bounded accessed changed lengthened hash_read hash_bound hash_looked_up hash_put hash_removed layout_within effect resolved all_resolved turn
family = record { all = refl }

pub counted : AreRightByTurns counted_rows
unfolding counted_rows guard recognizer_guard relation_guard arithmetic_guard listing_guard naming_guard wanted recognized related computed listed named_by applied_to bounded accessed changed lengthened hash_read hash_bound hash_looked_up hash_put hash_removed layout_within effect resolved all_resolved turn
counted = record { all = refl }
