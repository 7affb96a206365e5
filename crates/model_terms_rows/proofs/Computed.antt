-- Each row, computed.
use Rattle.std.specs.Prelude.{refl}
use Rattle.model_terms.specs.Outputs.{outputs}
use Rattle.model_terms.specs.Sites.{below}
use Rattle.model_terms.specs.Nested.{stobj_let_holds, with_local_holds}
use Rattle.model_terms.specs.Faults.{first_in, first_fault}
use Rattle.model_terms_rows.specs.Book.{book}
use Rattle.model_terms_rows.specs.Examples.{AreRight}
use Rattle.model_terms_rows.specs.Calls.{stobj_positions, kept_back}
use Rattle.model_terms_rows.specs.Values.{misplaced, unequal}
use Rattle.model_terms_rows.specs.Bindings.{lets, several_values}
use Rattle.model_terms_rows.specs.Children.{accepted_children, refused_children, refused_parts}
use Rattle.model_terms_rows.specs.Locals.{local_stobjs}
use Rattle.model_terms_rows.specs.Modes.{macros, functions_that_do_not_run}

pub stobj_positions_are_right : AreRight stobj_positions
unfolding book outputs below stobj_let_holds with_local_holds first_in first_fault
stobj_positions_are_right = record { all = refl }

pub kept_back_are_right : AreRight kept_back
unfolding book outputs below stobj_let_holds with_local_holds first_in first_fault
kept_back_are_right = record { all = refl }

pub misplaced_are_right : AreRight misplaced
unfolding book outputs below stobj_let_holds with_local_holds first_in first_fault
misplaced_are_right = record { all = refl }

pub unequal_are_right : AreRight unequal
unfolding book outputs below stobj_let_holds with_local_holds first_in first_fault
unequal_are_right = record { all = refl }

pub lets_are_right : AreRight lets
unfolding book outputs below stobj_let_holds with_local_holds first_in first_fault
lets_are_right = record { all = refl }

pub several_values_are_right : AreRight several_values
unfolding book outputs below stobj_let_holds with_local_holds first_in first_fault
several_values_are_right = record { all = refl }

pub accepted_children_are_right : AreRight accepted_children
unfolding book outputs below stobj_let_holds with_local_holds first_in first_fault
accepted_children_are_right = record { all = refl }

pub refused_children_are_right : AreRight refused_children
unfolding book outputs below stobj_let_holds with_local_holds first_in first_fault
refused_children_are_right = record { all = refl }

pub refused_parts_are_right : AreRight refused_parts
unfolding book outputs below stobj_let_holds with_local_holds first_in first_fault
refused_parts_are_right = record { all = refl }

pub local_stobjs_are_right : AreRight local_stobjs
unfolding book outputs below stobj_let_holds with_local_holds first_in first_fault
local_stobjs_are_right = record { all = refl }

pub macros_are_right : AreRight macros
unfolding book outputs below stobj_let_holds with_local_holds first_in first_fault
macros_are_right = record { all = refl }

pub functions_that_do_not_run_are_right : AreRight functions_that_do_not_run
unfolding book outputs below stobj_let_holds with_local_holds first_in first_fault
functions_that_do_not_run_are_right = record { all = refl }
