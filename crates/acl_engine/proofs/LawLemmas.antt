-- An outcome stands for one outcome of the definitions.
use Rattle.std.proofs.Common.{sym, ◌∙◌}
use Rattle.acl_engine.specs.Laws.{TellsOneOutcome}

pub tells_one : TellsOneOutcome
tells_one = record { one = λ h symbols stobjs o e e' n a b. sym (a.is n) ∙ b.is n }
