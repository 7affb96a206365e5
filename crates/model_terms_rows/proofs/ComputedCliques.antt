-- Whole definitions, computed.
use Rattle.std.specs.Prelude.{refl}
use Rattle.model_terms.specs.Outputs.{outputs}
use Rattle.model_terms.specs.Sites.{below}
use Rattle.model_terms.specs.Nested.{stobj_let_holds, with_local_holds}
use Rattle.model_terms.specs.Faults.{first_in, first_fault}
use Rattle.model_terms_rows.specs.Book.{book}
use Rattle.model_terms_rows.specs.Cliques.{AreAdmitted, rounds_examples, head_examples, unrunnable_examples, AreMacros, macro_examples, AreConstants, AreExpressions, AreOutputs}

pub rounds_are_right : AreAdmitted rounds_examples
unfolding book outputs below stobj_let_holds with_local_holds first_in first_fault
rounds_are_right = record { signatures = refl; answers = refl }

pub heads_are_right : AreAdmitted head_examples
unfolding book outputs below stobj_let_holds with_local_holds first_in first_fault
heads_are_right = record { signatures = refl; answers = refl }

pub unrunnable_are_right : AreAdmitted unrunnable_examples
unfolding book outputs below stobj_let_holds with_local_holds first_in first_fault
unrunnable_are_right = record { signatures = refl; answers = refl }

pub macros_are_right : AreMacros macro_examples
unfolding book outputs below stobj_let_holds with_local_holds first_in first_fault
macros_are_right = record { answers = refl }

pub constants_are_right : AreConstants
unfolding book outputs below stobj_let_holds with_local_holds first_in first_fault
constants_are_right = record { plain = refl; called = refl; unbound = refl; of_stobj_name = refl; two_values = refl }

pub outputs_are_right : AreOutputs
unfolding book outputs
outputs_are_right =
    record {
      unknown = refl;
      other_branch = refl;
      first_branch = refl;
      out_of_scope = refl;
      parts = refl;
      renamed = refl;
      own = refl;
      own_again = refl;
      unseen = refl;
      consumer = refl;
    }

pub expressions_are_right : AreExpressions
unfolding book outputs below stobj_let_holds with_local_holds first_in first_fault
expressions_are_right = record { two_bound = refl; exchanged = refl; twice = refl; given_twice = refl; nested = refl; value_and_object = refl }
