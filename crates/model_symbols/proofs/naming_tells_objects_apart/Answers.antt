use Rattle.model_symbols.proofs.LawLemmas.{names_objects}
use Rattle.model_symbols.proofs.naming_tells_objects_apart.Goals as goal

pub returns : goal.returns
returns c = names_objects
