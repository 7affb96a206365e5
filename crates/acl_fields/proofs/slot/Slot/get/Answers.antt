use Rattle.std.proofs.Common.{rules, ◌≡◌, ◌∙◌, w64, to_z, pos, subst, sym}
use Rattle.acl_fields.specs.Fields.{element}
use Rattle.acl_fields.specs.Parts.{part_of}
use Rattle.acl_fields.specs.declared.slot.Slot.{Slot}
use Rattle.acl_fields.proofs.SlotLemmas.{byte_got}
use Rattle.acl_fields.proofs.slot.Slot.get.Goals as goal

pub returns-in-Bytes : goal.returns-in-Bytes
returns-in-Bytes c = let e : to_z w64 c.get.result ≡ pos c.get.result = search rules in
    subst (λ (s : Slot). to_z w64 c.get.result ≡ element (part_of s) c.args.index) (sym c.in-Bytes.is) (e ∙ byte_got c.in-Bytes.a.elements c.args.index c.get.result c.get.ensures)
