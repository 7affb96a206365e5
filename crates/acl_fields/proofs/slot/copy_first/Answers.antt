use Rattle.std.proofs.Common.{rules, ◌∙◌, ◌<◌, ap, set, length, List}
use Rattle.std.proofs.lemmas.List.{length-set}
use Rattle.acl_fields.proofs.SlotLemmas.{copied_step}
use Rattle.acl_fields.proofs.slot.copy_first.Goals as goal

pub loop-i-preserved : goal.loop-i-preserved
loop-i-preserved g c =
    let low : c.loop-i.i < length c.args.from.now = search rules in
    let fits : c.loop-i.i < length c.args.to.now = search rules in (
      c.set.ensures
          ∙ (ap (λ (zs : List _). set zs c.loop-i.i c.get.result) c.loop-i.invariant.0
          ∙ copied_step c.args.from.now c.args.to.now c.loop-i.i c.get.result low fits (c.get.ensures c.get.result)),
      ap length c.set.ensures ∙ (length-set c.loop-i.to c.loop-i.i c.get.result ∙ c.loop-i.invariant.1),
    )
