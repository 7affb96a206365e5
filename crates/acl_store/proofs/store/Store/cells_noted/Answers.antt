use Rattle.std.specs.Prelude.{◌^◌}
use Rattle.std.proofs.Common.{rules, arith, ◌≡◌, ◌<◌, refl, []}
use Rattle.acl_fields.specs.Views.{view}
use Rattle.acl_store.proofs.CountLemmas.{forgotten, sum_at, sum_over}
use Rattle.acl_store.proofs.store.Store.cells_noted.Goals as goal

pub unreachable-requires : goal.unreachable-requires
unreachable-requires c =
    let s = sum_over c.count_notes.result _ c.in-None.is c.count_notes.ensures in
    let l = (forgotten (view c.args.self.now.nodes.items) c.args.self.now.notes.items [] c.args.self.now.held refl c.requires).1 in
    let w = c.is_word.ensures in omega (arith, s, l, w)
