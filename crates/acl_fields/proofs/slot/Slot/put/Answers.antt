use Rattle.std.proofs.Common.{rules, ◌≡◌, ◌∙◌, w64, to_z, of_z, pos, ℤ, nat_abs, subst, sym, ap, map, List}
use Rattle.acl_base.specs.declared.layout.Kind.TheVariants.{Byte}
use Rattle.acl_nodes.specs.Nodes.{Own}
use Rattle.acl_fields.specs.Fields.{Many, IsKept, with_element}
use Rattle.acl_fields.specs.Parts.{part_of}
use Rattle.acl_fields.specs.declared.slot.Slot.{Slot}
use Rattle.acl_fields.specs.declared.slot.Slot.TheVariants as slots
use Rattle.acl_fields.proofs.SlotLemmas.{byte_put, whole_byte}
use Rattle.acl_fields.proofs.slot.Slot.put.Goals as goal

pub returns-in-Bytes : goal.returns-in-Bytes
returns-in-Bytes c =
    let fits : IsKept (part_of (slots.Bytes c.in-Bytes.a)) c.args.value = subst (λ (s : Slot). IsKept (part_of s) c.args.value) c.in-Bytes.is c.requires.fits in
    let d : to_z w64 (of_z w64 c.args.value) ≡ c.args.value = search rules in
    let e : pos (nat_abs (to_z w64 (of_z w64 c.args.value))) ≡ c.args.value = ap (λ (v : ℤ). pos (nat_abs v)) d ∙ whole_byte c.args.value fits.0 in
    subst (λ (s : Slot). Own (Many Byte (pos c.in-Bytes.a.initial) (map pos c.set.new.self)) ≡ with_element (part_of s) c.args.index c.args.value) (sym c.in-Bytes.is)
    (ap (λ (vs : List ℤ). Own (Many Byte (pos c.in-Bytes.a.initial) vs)) (byte_put c.in-Bytes.a.elements c.set.new.self c.args.index (nat_abs (to_z w64 (of_z w64 c.args.value))) c.args.value c.set.ensures e))
