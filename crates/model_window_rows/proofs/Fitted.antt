-- Each row, by computing.
use Rattle.std.specs.Prelude.{refl}
use Rattle.model_prims.specs.Guards.{guard, recognizer_guard, relation_guard, arithmetic_guard, listing_guard, naming_guard}
use Rattle.model_prims.specs.Values.{wanted, recognized, related, computed, listed, named_by}
use Rattle.model_prims.specs.Applied.{applied_to, bounded}
use Rattle.model_lists.specs.Effects.{accessed, changed, lengthened, hash_read, hash_bound, hash_looked_up, hash_put, hash_removed}
use Rattle.model_eval.specs.StobjLayouts.{layout_within}
use Rattle.model_eval.specs.GeneratedCalls.{effect}
use Rattle.model_machine.specs.Turns.{turn_of}
use Rattle.model_window.specs.Following.{worlds_after}
use Rattle.model_window_rows.specs.Fitting.{TheyFit}
use Rattle.model_eval_rows.specs.Counting.{counting_rows}
use Rattle.model_eval_rows.specs.Several.{child_rows, congruent_rows}
use Rattle.model_eval_rows.specs.Abstract.{abstract_rows}
use Rattle.model_eval_rows.specs.StackMachine.{machine_rows}
use Rattle.model_eval_rows.specs.Nested.{export_rows, family_rows, counted_rows}

pub counting_fit : TheyFit counting_rows
unfolding counting_rows guard recognizer_guard relation_guard arithmetic_guard listing_guard naming_guard wanted recognized related computed listed named_by applied_to bounded accessed changed lengthened hash_read hash_bound hash_looked_up hash_put hash_removed layout_within effect turn_of worlds_after
counting_fit = record { all = refl }

pub children_fit : TheyFit child_rows
unfolding child_rows guard recognizer_guard relation_guard arithmetic_guard listing_guard naming_guard wanted recognized related computed listed named_by applied_to bounded accessed changed lengthened hash_read hash_bound hash_looked_up hash_put hash_removed layout_within effect turn_of worlds_after
children_fit = record { all = refl }

pub congruent_fit : TheyFit congruent_rows
unfolding congruent_rows guard recognizer_guard relation_guard arithmetic_guard listing_guard naming_guard wanted recognized related computed listed named_by applied_to bounded accessed changed lengthened hash_read hash_bound hash_looked_up hash_put hash_removed layout_within effect turn_of worlds_after
congruent_fit = record { all = refl }

pub abstract_stobjs_fit : TheyFit abstract_rows
unfolding abstract_rows guard recognizer_guard relation_guard arithmetic_guard listing_guard naming_guard wanted recognized related computed listed named_by applied_to bounded accessed changed lengthened hash_read hash_bound hash_looked_up hash_put hash_removed layout_within effect turn_of worlds_after
abstract_stobjs_fit = record { all = refl }

pub machine_fit : TheyFit machine_rows
unfolding machine_rows guard recognizer_guard relation_guard arithmetic_guard listing_guard naming_guard wanted recognized related computed listed named_by applied_to bounded accessed changed lengthened hash_read hash_bound hash_looked_up hash_put hash_removed layout_within effect turn_of worlds_after
machine_fit = record { all = refl }

pub exports_fit : TheyFit export_rows
unfolding export_rows guard recognizer_guard relation_guard arithmetic_guard listing_guard naming_guard wanted recognized related computed listed named_by applied_to bounded accessed changed lengthened hash_read hash_bound hash_looked_up hash_put hash_removed layout_within effect turn_of worlds_after
exports_fit = record { all = refl }

pub family_fit : TheyFit family_rows
unfolding family_rows guard recognizer_guard relation_guard arithmetic_guard listing_guard naming_guard wanted recognized related computed listed named_by applied_to bounded accessed changed lengthened hash_read hash_bound hash_looked_up hash_put hash_removed layout_within effect turn_of worlds_after
family_fit = record { all = refl }

pub counted_fit : TheyFit counted_rows
unfolding counted_rows guard recognizer_guard relation_guard arithmetic_guard listing_guard naming_guard wanted recognized related computed listed named_by applied_to bounded accessed changed lengthened hash_read hash_bound hash_looked_up hash_put hash_removed layout_within effect turn_of worlds_after
counted_fit = record { all = refl }
