use Rattle.std.specs.Prelude.{◌∷◌, []}
use Rattle.std.proofs.Common.{rules}
use Rattle.model_objects.specs.Object.{Integer}
use Rattle.acl_heap.specs.Objects.{Denotes}
use Rattle.acl_heap.specs.Growth.{reset_grown}
use Rattle.acl_client.specs.Lists.{list_of}
use Rattle.acl_client.proofs.three_kept.Goals as goal

pub returns : goal.returns
returns c =
    let made : Denotes c.three.new.heap c.in_ok-kept.kept (list_of (Integer c.args.a ∷ Integer c.args.b ∷ Integer c.args.c ∷ [])) = search rules in
    rw (reset_grown c.in_ok-_turned.ensures.grows c.mark-top.ensures c.reset.ensures) made
