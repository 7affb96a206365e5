-- Guards and bodies of functions have trees in the worlds in which they were checked.
use Rattle.std.specs.Prelude.{length}
use Rattle.model_terms.specs.declared.rule.Mode.TheVariants.{Executable}
use Rattle.model_accepted.specs.Threaded.{formal_entries}
use Rattle.model_slots.specs.Environments.{formal_environment}
use Rattle.model_slots_laws.proofs.AcceptedLemmas.{accepted_have_trees, formed_stand}
use Rattle.model_fitting.specs.Laws.{CheckedHaveTrees}

pub checked_have_trees : CheckedHaveTrees
checked_have_trees = record {
  form = λ w c formals ins form expected i.
      accepted_have_trees.form c Executable (formal_entries formals ins) form expected i.accepted (formed_stand.stand c form i.formed) (formal_environment formals) (length formals);
}
