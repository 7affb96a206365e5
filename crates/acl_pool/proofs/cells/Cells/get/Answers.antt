use Rattle.std.specs.Prelude.{[], length, ◌<◌}
use Rattle.std.proofs.Common.{arith, ap, sym, ◌∙◌}
use Rattle.std.proofs.lemmas.List.{length-map}
use Rattle.acl_pool.specs.Packing.{unpacked}
use Rattle.acl_pool.specs.Cells.{cell_at}
use Rattle.acl_pool.proofs.PackingLemmas.{read_unpacked}
use Rattle.acl_pool.proofs.cells.Cells.get.Goals as goal

pub returns : goal.returns
returns c =
    let ws = c.self.inside.words in
    let l : c.args.at < length ws = omega (arith, length-map ws unpacked, ap length c.self.view_is) in
    c.unpack.ensures ∙ (ap unpacked (c.get.ensures []) ∙ (sym (read_unpacked ws c.args.at l) ∙ ap (λ cs. cell_at cs c.args.at) c.self.view_is))
