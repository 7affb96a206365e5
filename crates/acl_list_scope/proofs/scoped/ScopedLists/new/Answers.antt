use Rattle.acl_list_scope.proofs.KeptLemmas.{nothing_kept}
use Rattle.acl_list_scope.proofs.scoped.ScopedLists.new.Goals as goal

pub returns : goal.returns
returns c = nothing_kept _ _ _ c.new-2.ensures.items c.new-3.ensures.items
