use Rattle.acl_hash.proofs.MakeLemmas.{writes_pair}
use Rattle.acl_hash.proofs.bytes.put_item.Goals as goal

pub returns-in_ok-put_pair-in-Pair : goal.returns-in_ok-put_pair-in-Pair
returns-in_ok-put_pair-in-Pair c =
    let sees = c.in-Pair.ensures.sees in
    writes_pair c.in-Pair.a c.in-Pair.d sees.0 sees.1 sees.2 c.in_ok-put_pair-in-Pair.ensures.out c.in_ok-put_pair-in-Pair.ensures.left
