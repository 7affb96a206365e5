use Rattle.std.specs.Prelude.{◌^◌}
use Rattle.std.proofs.Common.{◌∙◌, rules, arith, ◌≡◌, ◌<◌, refl, ap, take, drop, List}
use Rattle.acl_fields.specs.Views.{view}
use Rattle.acl_fields.specs.Held.{nodes_cells}
use Rattle.acl_fields.specs.declared.node.Node.{Node as Memory}
use Rattle.acl_store.proofs.CountLemmas.{end_counted, sum_at, sum_over}
use Rattle.acl_store.proofs.SliceLemmas.{slice_end}
use Rattle.acl_store.proofs.store.Store.cells_from.Goals as goal

pub unreachable-requires : goal.unreachable-requires
unreachable-requires c =
    let d : c.deref.result.now ≡ c.args.self.now.nodes.items = search rules in
    let e = ap (λ (ns : List Memory). nodes_cells (view ns)) (slice_end c.deref.result.now c.args.m.0 ∙ ap (drop c.args.m.0) d) in
    let s = sum_over c.count_nodes.result _ c.in-None.is c.count_nodes.ensures in
    let l = (end_counted c.args.self.now.nodes.items (take c.args.m.0 (view c.args.self.now.nodes.items)) c.args.self.now.notes.items c.args.m.0 c.args.self.now.held refl c.requires.counted).1 in
    let w = c.is_word.ensures in omega (arith, s, e, l, w)
