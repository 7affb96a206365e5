use Rattle.acl_syms.proofs.PackageLemmas.{keys_put}
use Rattle.acl_syms.proofs.packages.enlist.Goals as goal

pub returns-clause-ok : goal.returns-clause-ok
returns-clause-ok c = keys_put (λ k. k.items) c.args.names.now.keys c.insert_full.new.self.keys c.args.name c.requires c.in_ok-insert_full.ensures.keys
