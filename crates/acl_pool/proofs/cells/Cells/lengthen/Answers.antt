use Rattle.std.specs.Prelude.{[], ◌∷◌, ◌++◌, length, map, replicate, ◌-◌, ◌≤◌, take}
use Rattle.std.proofs.Common.{◌≡◌, arith, ap, ap₂, sym, ◌∙◌}
use Rattle.std.proofs.lemmas.List.{length-map, map-append, take_all}
use Rattle.acl_pool.specs.Packing.{unpacked}
use Rattle.acl_pool.specs.Cells.{blank}
use Rattle.acl_pool.proofs.PackingLemmas.{map-replicate}
use Rattle.acl_pool.proofs.cells.Cells.lengthen.Goals as goal

pub returns-clause-cells : goal.returns-clause-cells
returns-clause-cells c =
    let ws = c.self.inside.words in
    let e : length ws ≡ length c.args.self.now = sym (length-map ws unpacked) ∙ ap length c.self.view_is in
    let l : length ws ≤ c.args.n = omega (arith, e, c.requires) in
    ap (map unpacked) c.in_ok-resize.ensures.elements
    ∙ (map-append unpacked (take c.args.n ws) (replicate (c.args.n - length ws) (0 ∷ 0 ∷ 0 ∷ 0 ∷ []))
    ∙ ap₂ ◌++◌ (ap (map unpacked) (take_all c.args.n ws l) ∙ c.self.view_is) (map-replicate (c.args.n - length ws) ∙ ap (λ k. replicate (c.args.n - k) blank) e))
