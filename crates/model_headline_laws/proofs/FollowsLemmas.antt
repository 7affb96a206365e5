-- The logic follows checked evaluation, from the printed obligations.
use Rattle.model_headline.specs.Logic.{LogicFollows}
use Rattle.model_headline_laws.proofs.LogicLemmas.{follows_in}
use Rattle.model_headline_laws.proofs.ExportHolding.{obligations_tell_values}

pub logic_follows : LogicFollows
logic_follows = record { follows = λ s made hold. (follows_in s made (obligations_tell_values.tell s made hold)).follows }
