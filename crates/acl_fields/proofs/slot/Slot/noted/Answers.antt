use Rattle.std.proofs.Common.{rules, ◌≡◌, ◌<◌, w32, w64, to_z, of_z, pos, length, map, subst, sym}
use Rattle.acl_base.specs.declared.layout.Kind.TheVariants.{Byte, I32, I64}
use Rattle.acl_fields.specs.Fields.{InRange, IsElement}
use Rattle.acl_fields.specs.Notes.{IsNote}
use Rattle.acl_fields.specs.Parts.{part_of}
use Rattle.acl_fields.specs.declared.notes.OldPart.TheVariants.{Element}
use Rattle.acl_fields.specs.declared.slot.Slot.{Slot}
use Rattle.acl_fields.proofs.NoteLemmas.{element_note}
use Rattle.acl_fields.proofs.SlotLemmas.{byte_got, int_got}
use Rattle.acl_fields.proofs.slot.Slot.noted.Goals as goal

pub returns-in-Bytes : goal.returns-in-Bytes
returns-in-Bytes c =
    let there : c.args.index < length (map pos c.in-Bytes.a.elements) = subst (λ (s : Slot). IsElement (part_of s) c.args.index) c.in-Bytes.is c.requires in
    let d : to_z w64 c.get.result ≡ pos c.get.result = search rules in
    let r : InRange Byte (pos c.get.result) = search rules in
    subst (λ (s : Slot). IsNote (Element c.args.index (to_z w64 c.get.result)) (part_of s) c.args.index) (sym c.in-Bytes.is)
    (element_note Byte (pos c.in-Bytes.a.initial) (pos c.get.result) (to_z w64 c.get.result) (map pos c.in-Bytes.a.elements) c.args.index there d (byte_got c.in-Bytes.a.elements c.args.index c.get.result c.get.ensures) r)

pub returns-in-Ints : goal.returns-in-Ints
returns-in-Ints c =
    let there : c.args.index < length c.in-Ints.a.elements = subst (λ (s : Slot). IsElement (part_of s) c.args.index) c.in-Ints.is c.requires in
    let d : to_z w64 (of_z w64 (to_z w32 (of_z w32 c.get-in-Ints.result))) ≡ c.get-in-Ints.result = search rules in
    let r : InRange I32 c.get-in-Ints.result = search rules in
    subst (λ (s : Slot). IsNote (Element c.args.index (to_z w64 (of_z w64 (to_z w32 (of_z w32 c.get-in-Ints.result))))) (part_of s) c.args.index) (sym c.in-Ints.is)
    (element_note I32 c.in-Ints.a.initial c.get-in-Ints.result (to_z w64 (of_z w64 (to_z w32 (of_z w32 c.get-in-Ints.result)))) c.in-Ints.a.elements c.args.index there d (int_got c.in-Ints.a.elements c.args.index c.get-in-Ints.result c.get-in-Ints.ensures) r)

pub returns-in-Longs : goal.returns-in-Longs
returns-in-Longs c =
    let there : c.args.index < length c.in-Longs.a.elements = subst (λ (s : Slot). IsElement (part_of s) c.args.index) c.in-Longs.is c.requires in
    let d : to_z w64 (of_z w64 c.get-in-Longs.result) ≡ c.get-in-Longs.result = search rules in
    subst (λ (s : Slot). IsNote (Element c.args.index (to_z w64 (of_z w64 c.get-in-Longs.result))) (part_of s) c.args.index) (sym c.in-Longs.is)
    (element_note I64 c.in-Longs.a.initial c.get-in-Longs.result (to_z w64 (of_z w64 c.get-in-Longs.result)) c.in-Longs.a.elements c.args.index there d (int_got c.in-Longs.a.elements c.args.index c.get-in-Longs.result c.get-in-Longs.ensures) tt)
