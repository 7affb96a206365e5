use Rattle.std.proofs.Common.{◌∙◌}
use Rattle.acl_commands.proofs.PartLemmas.{home_called}
use Rattle.acl_commands.proofs.parts.home.Goals as goal

pub returns : goal.returns
returns c = c.package_name.ensures ∙ home_called _ _ _ c.package.ensures.known
