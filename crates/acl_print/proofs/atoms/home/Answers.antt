use Rattle.std.proofs.Common.{◌∙◌}
use Rattle.acl_print.proofs.SymbolLemmas.{home_named}
use Rattle.acl_print.proofs.atoms.home.Goals as goal

pub returns : goal.returns
returns c = c.package_name.ensures ∙ home_named _ _ _ c.package.ensures.known
