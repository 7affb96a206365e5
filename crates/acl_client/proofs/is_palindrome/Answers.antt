use Rattle.acl_heap.specs.Growth.{Extends-then, reset_grown}
use Rattle.acl_client.proofs.is_palindrome.Goals as goal

pub returns : goal.returns
returns c = reset_grown (Extends-then c.in_ok-list.ensures.grows c.in_ok-turned.ensures.grows) c.mark-mark.ensures c.reset.ensures
