use Rattle.std.specs.Prelude.{length}
use Rattle.std.proofs.Common.{sym, subst}
use Rattle.model_expansion_parts.specs.Known.{KnowsSupplies}
use Rattle.acl_worlds.specs.Contents.{Content, seen_world}
use Rattle.acl_expand_rows.proofs.SupplyLemmas.{supplies_with}
use Rattle.acl_expand_rows.proofs.world.put.Goals as goal

pub returns-in_ok-add-in-None-clause-supplies : goal.returns-in_ok-add-in-None-clause-supplies
returns-in_ok-add-in-None-clause-supplies c =
    let n = length c.args._syms.now.symbols in
    subst (λ (w : Content). KnowsSupplies n (seen_world c.args._heap.now w)) (sym c.in_ok-add-in-None.ensures.ok)
    (supplies_with n c.args._heap.now c.args.world.now c.args.d c.requires.supplies c.requires.supplied)
