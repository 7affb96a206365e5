use Rattle.std.proofs.Common.{◌∷◌, ap, ◌∙◌}
use Rattle.std.specs.Map.Iter.{deref_pair}
use Rattle.std.proofs.lemmas.Map.Iter.{rest_more}
use Rattle.acl_maps.proofs.ListLemmas.{copy_begins, copy_takes}
use Rattle.acl_maps.proofs.listing.copy_entries.Goals as goal

pub loop-key-init : goal.loop-key-init
loop-key-init c = (tt, tt, copy_begins (c.into_iter-key-iterator.ensures.into_iter_gives ∙ c.iter-key-items.ensures.rest) c.new-copied.ensures.items)

pub loop-key-preserved-in-Continue-branch-2 : goal.loop-key-preserved-in-Continue-branch-2
loop-key-preserved-in-Continue-branch-2 c =
    let first = rest_more deref_pair c.loop-key._key-iterator c.next.new.self c.next.result (c.in-Some._key, c.in-Some.place) c.in-Some.is c.next.ensures.steps in
    let at = first ∙ ap (λ o. (c.in-Some._key.now, o) ∷ c.next.new.self) c.in-Some-place.is in
    (tt, tt, copy_takes c.loop-key.invariant.2 at c.in_ok-pair.ensures.grows c.in_ok-pair.ensures.key c.in_ok-pair.ensures.value c.in_ok-push.ensures.items)
