-- Each example, by computing.
use Rattle.std.specs.Prelude.{◌≡◌, ℕ, ◌+◌, refl}
use Rattle.model_prims_rows.specs.Examples.{AreRight, value}
use Rattle.model_objects.specs.Object.{Object, Pair, weight}
use Rattle.model_prims_rows.specs.Tests.{recognizer_examples, relation_examples}
use Rattle.model_prims_rows.specs.Arithmetic.{sum_examples, division_examples, power_examples, bit_examples}
use Rattle.model_prims_rows.specs.Lists.{part_examples, list_examples, search_examples, paired, HasWeightLimit}
use Rattle.model_prims_rows.specs.Names.{name_examples, choice_examples}
use Rattle.model_prims_rows.specs.Logic.{AreLogic, logic_examples}
use Rattle.model_prims_rows.specs.Table.{IsOfOpening, IsConstant, AreConstants}
use Rattle.model_symbols.specs.Opening.{opening, acl2_package, common_lisp_symbols, acl2_symbols, common_lisp_text, acl2_text}
use Rattle.model_prims.specs.Rows.{table, exported_symbols, main_symbols}
use Rattle.model_prims.specs.Guards.{guard, recognizer_guard, relation_guard, arithmetic_guard, listing_guard, naming_guard}
use Rattle.model_prims.specs.Values.{wanted, recognized, related, computed, listed, named_by}
use Rattle.model_prims.specs.Applied.{Stops, Large, applied_to, bounded}

pub recognizers : AreRight recognizer_examples
unfolding recognizer_examples opening acl2_package common_lisp_symbols acl2_symbols common_lisp_text acl2_text table guard recognizer_guard relation_guard arithmetic_guard listing_guard naming_guard wanted recognized related computed listed named_by applied_to bounded
recognizers = record { all = refl }

pub relations : AreRight relation_examples
unfolding relation_examples opening acl2_package common_lisp_symbols acl2_symbols common_lisp_text acl2_text table guard recognizer_guard relation_guard arithmetic_guard listing_guard naming_guard wanted recognized related computed listed named_by applied_to bounded
relations = record { all = refl }

pub sums : AreRight sum_examples
unfolding sum_examples opening acl2_package common_lisp_symbols acl2_symbols common_lisp_text acl2_text table guard recognizer_guard relation_guard arithmetic_guard listing_guard naming_guard wanted recognized related computed listed named_by applied_to bounded
sums = record { all = refl }

pub divisions : AreRight division_examples
unfolding division_examples opening acl2_package common_lisp_symbols acl2_symbols common_lisp_text acl2_text table guard recognizer_guard relation_guard arithmetic_guard listing_guard naming_guard wanted recognized related computed listed named_by applied_to bounded
divisions = record { all = refl }

pub powers : AreRight power_examples
unfolding power_examples opening acl2_package common_lisp_symbols acl2_symbols common_lisp_text acl2_text table guard recognizer_guard relation_guard arithmetic_guard listing_guard naming_guard wanted recognized related computed listed named_by applied_to bounded
powers = record { all = refl }

pub bits : AreRight bit_examples
unfolding bit_examples opening acl2_package common_lisp_symbols acl2_symbols common_lisp_text acl2_text table guard recognizer_guard relation_guard arithmetic_guard listing_guard naming_guard wanted recognized related computed listed named_by applied_to bounded
bits = record { all = refl }

pub parts : AreRight part_examples
unfolding part_examples opening acl2_package common_lisp_symbols acl2_symbols common_lisp_text acl2_text table guard recognizer_guard relation_guard arithmetic_guard listing_guard naming_guard wanted recognized related computed listed named_by applied_to bounded
parts = record { all = refl }

pub lists : AreRight list_examples
unfolding list_examples opening acl2_package common_lisp_symbols acl2_symbols common_lisp_text acl2_text table guard recognizer_guard relation_guard arithmetic_guard listing_guard naming_guard wanted recognized related computed listed named_by applied_to bounded
lists = record { all = refl }

pub searches : AreRight search_examples
unfolding search_examples opening acl2_package common_lisp_symbols acl2_symbols common_lisp_text acl2_text table guard recognizer_guard relation_guard arithmetic_guard listing_guard naming_guard wanted recognized related computed listed named_by applied_to bounded
searches = record { all = refl }

pub heaviest : (a d : Object ℕ) → 1 + (weight a + weight d) ≡ 1048576 → paired a d ≡ value (Pair a d)
unfolding opening acl2_package common_lisp_symbols acl2_symbols common_lisp_text acl2_text table guard recognizer_guard relation_guard arithmetic_guard listing_guard naming_guard wanted recognized related computed listed named_by applied_to bounded
heaviest a d e = rw e refl

pub heavier : (a d : Object ℕ) → 1 + (weight a + weight d) ≡ 1048577 → paired a d ≡ Stops Large
unfolding opening acl2_package common_lisp_symbols acl2_symbols common_lisp_text acl2_text table guard recognizer_guard relation_guard arithmetic_guard listing_guard naming_guard wanted recognized related computed listed named_by applied_to bounded
heavier a d e = rw e refl

pub weights : HasWeightLimit
weights = record { heaviest = heaviest; heavier = heavier }

pub names : AreRight name_examples
unfolding name_examples opening acl2_package common_lisp_symbols acl2_symbols common_lisp_text acl2_text table guard recognizer_guard relation_guard arithmetic_guard listing_guard naming_guard wanted recognized related computed listed named_by applied_to bounded
names = record { all = refl }

pub choices : AreRight choice_examples
unfolding choice_examples opening acl2_package common_lisp_symbols acl2_symbols common_lisp_text acl2_text table guard recognizer_guard relation_guard arithmetic_guard listing_guard naming_guard wanted recognized related computed listed named_by applied_to bounded
choices = record { all = refl }

pub logic : AreLogic logic_examples
unfolding logic_examples opening acl2_package common_lisp_symbols acl2_symbols common_lisp_text acl2_text table guard recognizer_guard relation_guard arithmetic_guard listing_guard naming_guard wanted recognized related computed listed named_by applied_to bounded
logic = record { all = refl }

pub of_opening : IsOfOpening
unfolding opening acl2_package common_lisp_symbols acl2_symbols common_lisp_text acl2_text table guard recognizer_guard relation_guard arithmetic_guard listing_guard naming_guard wanted recognized related computed listed named_by applied_to bounded
of_opening = record { known = refl; different = refl; rows = refl }

exported : IsConstant exported_symbols
unfolding opening acl2_package common_lisp_symbols acl2_symbols common_lisp_text acl2_text
exported = record { listed = refl; small = refl; known = refl; alike = refl }

main : IsConstant main_symbols
unfolding opening acl2_package common_lisp_symbols acl2_symbols common_lisp_text acl2_text
main = record { listed = refl; small = refl; known = refl; alike = refl }

pub constants : AreConstants
unfolding opening acl2_package common_lisp_symbols acl2_symbols common_lisp_text acl2_text
constants = record { exported = exported; main = main; apart = refl }
