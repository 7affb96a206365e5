-- A function that gives a stobj that it is not given, computed.
use Rattle.std.proofs.Common.{refl}
use Rattle.model_terms.specs.Outputs.{outputs}
use Rattle.model_terms.specs.Sites.{below}
use Rattle.model_terms.specs.Faults.{first_in, first_fault}
use Rattle.model_slots.specs.Resolved.{resolved}
use Rattle.model_fitting.specs.Circular.{IsAcceptedWithTree}

pub accepted_with_tree : IsAcceptedWithTree
unfolding outputs below first_in first_fault resolved
accepted_with_tree = record { signature = refl; accepted = refl; tree = refl }
