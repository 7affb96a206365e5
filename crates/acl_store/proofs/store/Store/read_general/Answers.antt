use Rattle.std.proofs.Common.{rules}
use Rattle.acl_fields.specs.Fields.{IsHeld}
use Rattle.acl_store.proofs.StoreLemmas.{some_within, asked, reads_object}
use Rattle.acl_heap.specs.Growth.{reset_grown}
use Rattle.acl_store.proofs.store.Store.read_general.Goals as goal

pub index-requires : goal.index-requires
index-requires c = let h = some_within _ c.args.self.now.nodes.items c.args.n.0 c.args.field c.requires in search (rules, h)

pub copy_out-requires : goal.copy_out-requires
copy_out-requires c = asked c.args.self.now.nodes.items c.args.n.0 c.args.field c.index.result.now (some_within _ c.args.self.now.nodes.items c.args.n.0 c.args.field c.requires) c.index.ensures (λ p. IsHeld p c.args.index) c.requires

pub returns-in-Ok-clause-ok : goal.returns-in-Ok-clause-ok
returns-in-Ok-clause-ok c = reads_object c.args.self.now.nodes.items c.args.n.0 c.args.field c.index.result.now (some_within _ c.args.self.now.nodes.items c.args.n.0 c.args.field c.requires) c.index.ensures c.args.index c.copy_out.new.heap c.in-Ok.w c.requires c.in-Ok.ensures.ok

pub returns-in-Err-clause-refused : goal.returns-in-Err-clause-refused
returns-in-Err-clause-refused c = reset_grown c.in-Err.ensures.grows c.mark-mark.ensures c.reset.ensures
