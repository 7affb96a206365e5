use Rattle.std.specs.Prelude.{map}
use Rattle.std.proofs.Common.{ap, ◌∙◌, set}
use Rattle.std.proofs.lemmas.List.{map-set}
use Rattle.acl_pool.specs.Packing.{unpacked}
use Rattle.acl_pool.proofs.PackingLemmas.{unpacked-packed}
use Rattle.acl_pool.proofs.cells.Cells.set.Goals as goal

pub returns : goal.returns
returns c =
    let ws = c.self.inside.words in
    ap (map unpacked) c.set.ensures
    ∙ (map-set unpacked ws c.args.at c.pack.result
    ∙ (ap (set (map unpacked ws) c.args.at) (ap unpacked c.pack.ensures ∙ unpacked-packed c.args.cell)
    ∙ ap (λ cs. set cs c.args.at c.args.cell) c.self.view_is))
