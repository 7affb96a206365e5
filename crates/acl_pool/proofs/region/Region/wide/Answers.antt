use Rattle.std.specs.Prelude.{◌≡◌, ◌+◌, ◌*◌, ◌^◌}
use Rattle.std.specs.Int.{w128}
use Rattle.std.proofs.Common.{rules, sym, ap, subst, ◌∙◌, to_z, of_z}
use Rattle.model_objects.specs.Object.{Object, Integer}
use Rattle.acl_heap.specs.Objects.{Denotes}
use Rattle.acl_pool.specs.declared.cell.Cell.{Cell}
use Rattle.acl_pool.proofs.UnpackLemmas.{wide_value}
use Rattle.acl_pool.proofs.region.Region.wide.Goals as goal

pub returns-in-Ok-clause-ok : goal.returns-in-Ok-clause-ok
returns-in-Ok-clause-ok c =
    let v = (wide_value c.args.self.now c.args.part c.requires.shows c.requires.wide).1 in
    let back : to_z w128 (of_z w128 c.cast_signed.result) ≡ c.cast_signed.result = search rules in
    let e = ap (λ (d : Cell). to_z w128 (d.right * 2 ^ 64 + d.left)) c.read-cell.ensures in
    subst (λ (o : Object _). Denotes c.int.new.self c.in-Ok.w o) (ap Integer (back ∙ (c.cast_signed.ensures ∙ e)) ∙ sym v) c.in-Ok.ensures.ok
