-- The symbol that evaluation names by its number.
use Rattle.std.specs.Prelude.{◌≡◌, codes}
use Rattle.model_symbols.specs.Symbols.{symbol_at}
use Rattle.model_symbols.specs.Opening.{opening, acl2}
use Rattle.model_eval.specs.Evaluated.{stobj_let_word}

-- `STOBJ-LET` has the number that it is taken to have
pub record IsStobjLetWord : Type 0 where
  pub word : symbol_at opening.symbols stobj_let_word ≡ record { home = acl2; name = codes "STOBJ-LET" }
