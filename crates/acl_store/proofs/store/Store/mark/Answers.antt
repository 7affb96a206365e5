use Rattle.std.proofs.Common.{rules, ◌≡◌, ◌∙◌, sym, length}
use Rattle.std.proofs.lemmas.List.{length-map}
use Rattle.acl_fields.specs.Views.{node_of}
use Rattle.acl_store.proofs.store.Store.mark.Goals as goal

pub returns : goal.returns
returns c = let e : c.len.result ≡ length c.args.self.now.nodes.items = search rules in e ∙ sym (length-map c.args.self.now.nodes.items node_of)
