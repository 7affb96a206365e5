use Rattle.std.specs.Prelude.{take}
use Rattle.std.proofs.Common.{sym, ap, subst, ◌∙◌}
use Rattle.model_objects.specs.Object.{Object, Text}
use Rattle.acl_heap.specs.Objects.{Denotes}
use Rattle.acl_pool.specs.declared.cell.Part.{Part}
use Rattle.acl_pool.specs.declared.cell.Cell.{Cell}
use Rattle.acl_pool.specs.Trees.{bytes_of}
use Rattle.acl_pool.specs.Unpacking.{HasBytes, part_tree}
use Rattle.acl_pool.proofs.UnpackLemmas.{text_parts, right_of}
use Rattle.acl_pool.proofs.region.Region.text.Goals as goal

pub read_bytes-requires : goal.read_bytes-requires
read_bytes-requires c =
    let t = text_parts c.args.self.now c.args.part c.requires.shows c.requires.text in
    subst (λ (p : Part). HasBytes c.args.self.now p c.read-cell.result.left) (sym c.right.ensures)
    (subst (λ (d : Cell). HasBytes c.args.self.now (right_of d) d.left) (sym c.read-cell.ensures) t.bytes)

pub returns-in-Ok-clause-ok : goal.returns-in-Ok-clause-ok
returns-in-Ok-clause-ok c =
    let t = text_parts c.args.self.now c.args.part c.requires.shows c.requires.text in
    let e = ap (λ (d : Cell). take d.left (bytes_of (part_tree c.args.self.now (right_of d)))) c.read-cell.ensures in
    let f = ap (λ (p : Part). take c.read-cell.result.left (bytes_of (part_tree c.args.self.now p))) c.right.ensures in
    subst (λ (o : Object _). Denotes c.string.new.self c.in-Ok.w o) (ap Text (c.deref.ensures.value ∙ (c.in_ok-bytes.ensures ∙ (f ∙ e))) ∙ sym t.object) c.in-Ok.ensures.ok
