use Rattle.std.proofs.Common.{rules, ◌≡◌, ◌∙◌, w64, to_z, of_z, pos, ℤ, nat_abs, map, subst, sym, ap}
use Rattle.acl_base.specs.declared.layout.Kind.{Kind}
use Rattle.acl_base.specs.declared.layout.Kind.TheVariants.{Byte}
use Rattle.acl_nodes.specs.Nodes.{Own}
use Rattle.acl_fields.specs.Fields.{Many, number_of}
use Rattle.acl_fields.specs.Layouts.{IsInitial}
use Rattle.acl_making.specs.Making.{many_of}
use Rattle.acl_fields.proofs.SlotLemmas.{byte_array, whole_byte}
use Rattle.acl_making.proofs.making.make_array.Goals as goal

pub returns-in_ok-array-in-Byte-clause-array : goal.returns-in_ok-array-in-Byte-clause-array
returns-in_ok-array-in-Byte-clause-array c =
    let initial : IsInitial c.args.heap.now Byte c.args.w = subst (λ (k : Kind). IsInitial c.args.heap.now k c.args.w) c.in-Byte.is c.requires in
    let d : to_z w64 (of_z w64 c.number-initial.result) ≡ c.number-initial.result = search rules in
    let e : pos (nat_abs (to_z w64 (of_z w64 c.number-initial.result))) ≡ number_of c.args.w = ap (λ (v : ℤ). pos (nat_abs v)) (d ∙ c.number-initial.ensures) ∙ whole_byte (number_of c.args.w) initial.1.0 in
    subst (λ (k : Kind). Own (Many Byte (pos c.in_ok-array-in-Byte.array.initial) (map pos c.in_ok-array-in-Byte.array.elements)) ≡ many_of c.args.heap.now k c.args.w c.args.n) (sym c.in-Byte.is)
    (byte_array (number_of c.args.w) c.args.n (nat_abs (to_z w64 (of_z w64 c.number-initial.result))) c.in_ok-array-in-Byte.array.initial c.in_ok-array-in-Byte.array.elements e
    c.in_ok-array-in-Byte.ensures.initial c.in_ok-array-in-Byte.ensures.elements)
