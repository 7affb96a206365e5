-- Each row, by computing.
use Rattle.std.specs.Prelude.{refl}
use Rattle.model_objects.specs.Object.{Symbol}
use Rattle.model_symbols.specs.Opening.{truth_name}
use Rattle.model_prims.specs.Guards.{guard, recognizer_guard, relation_guard, arithmetic_guard, listing_guard, naming_guard}
use Rattle.model_prims.specs.Values.{wanted, recognized, related, computed, listed, named_by}
use Rattle.model_lists.specs.Effects.{accessed, changed, lengthened}
use Rattle.model_eval.specs.StobjLayouts.{layout_within}
use Rattle.model_eval.specs.GeneratedCalls.{effect}
use Rattle.model_eval.specs.Evaluated.{exec_called, called, in_order, all_borrowed, put_back, evaluated}
use Rattle.model_logic.specs.LogicFunctions.{logic_access, logic_update, logic_effect}
use Rattle.model_logic.specs.Logic.{form_value, form_values, call_within}
use Rattle.model_abstract.specs.Rules.{bounded_value}
use Rattle.model_abstract_rows.specs.Logic.{LogicIsRight, logic_rows, odd_rows}
use Rattle.model_abstract_rows.specs.Abstractly.{AbstractlyRight, BoundsAreKept, Corresponds}
use Rattle.model_abstract_rows.specs.Abstractly as abstractly

pub logic_values : LogicIsRight logic_rows
unfolding logic_rows recognized related computed listed named_by wanted layout_within logic_access logic_update logic_effect form_value form_values call_within
logic_values = record { all = refl }

pub odd_lists : LogicIsRight odd_rows
unfolding odd_rows recognized related computed listed named_by wanted layout_within logic_access logic_update logic_effect form_value form_values call_within
odd_lists = record { all = refl }

pub abstract_values : AbstractlyRight abstractly.abstract_rows
unfolding abstractly.abstract_rows guard recognizer_guard relation_guard arithmetic_guard listing_guard naming_guard wanted recognized related computed listed named_by accessed changed lengthened layout_within effect exec_called called in_order all_borrowed put_back evaluated logic_access logic_update logic_effect form_value form_values call_within bounded_value
abstract_values = record { all = refl }

pub bounds : BoundsAreKept
unfolding bounded_value
bounds = record { shifted = refl; argument = refl }

pub corresponding : Corresponds
unfolding guard recognizer_guard relation_guard arithmetic_guard listing_guard naming_guard wanted recognized related computed listed named_by accessed changed lengthened layout_within effect exec_called called in_order all_borrowed put_back evaluated logic_access logic_update logic_effect form_value form_values call_within bounded_value
corresponding = record {
  at_seven = (
    refl,
    record {
      fits = record { fields = (tt, tt); recognized = refl; known = (tt, tt) };
      corresponding = (Symbol truth_name, (10, 2, refl), refl);
      well_formed = (10, 6, refl);
      homes = (tt, (0, refl));
    },
    tt,
  );
}
