use Rattle.std.proofs.Common.{rules, ◌≡◌, ◌∙◌, w64, to_z, of_z, ap}
use Rattle.acl_fields.specs.Fields.{with_element}
use Rattle.acl_fields.specs.Parts.{part_of}
use Rattle.acl_fields.proofs.NodeLemmas.{parts_put}
use Rattle.acl_fields.proofs.node.Node.put.Goals as goal

pub returns-clause-parts : goal.returns-clause-parts
returns-clause-parts c = let d : to_z w64 (of_z w64 c.args.value) ≡ c.args.value = search rules in
    parts_put c.args.self.now.slots.items c.args.field c.index_mut.result.now c.put.new.self _ (λ p. with_element p c.args.index c.args.value) c.index_mut.ensures.value c.requires.is
    (c.put.ensures ∙ ap (with_element (part_of c.index_mut.result.now) c.args.index) d)
