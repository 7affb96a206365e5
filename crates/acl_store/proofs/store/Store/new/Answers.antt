use Rattle.std.proofs.Common.{ap}
use Rattle.acl_fields.specs.Views.{view}
use Rattle.acl_store.proofs.StoreLemmas.{nothing_there}
use Rattle.acl_store.proofs.store.Store.new.Goals as goal

pub returns-clause-empty : goal.returns-clause-empty
returns-clause-empty c = ap view c.new-nodes.ensures.items

pub returns-clause-holds : goal.returns-clause-holds
returns-clause-holds c = nothing_there c.new-nodes.result.items c.new-nodes.ensures.items
