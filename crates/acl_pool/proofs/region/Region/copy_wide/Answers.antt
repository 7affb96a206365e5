use Rattle.std.specs.Prelude.{◌≡◌, ◌%◌, ◌/◌, ◌^◌, Bool, if◌then◌else◌}
use Rattle.std.specs.Int.{w128, cast_signed, cast_unsigned}
use Rattle.std.proofs.Common.{ap, ap₂, sym, subst, ◌∙◌, arith, rules}
use Rattle.acl_base.specs.declared.Word.TheVariants as word
use Rattle.acl_pool.specs.declared.cell.Kind.TheVariants.{Bits, Big}
use Rattle.acl_pool.specs.declared.cell.Part.{Part}
use Rattle.acl_pool.specs.declared.cell.Cell.{Cell}
use Rattle.acl_pool.specs.declared.cell.Role.TheVariants as role
use Rattle.acl_pool.specs.Trees.{Atom, Bare, Node}
use Rattle.acl_pool.specs.Building.{Gives}
use Rattle.acl_pool.proofs.BuildLemmas.{roomy_first, wide_whole, bits_cell}
use Rattle.acl_pool.proofs.region.Region.copy_wide.Goals as goal

pub place-at-requires : goal.place-at-requires
place-at-requires c = roomy_first c.args.self.now 1 c.requires.room (omega arith)

pub returns-clause-gives : goal.returns-clause-gives
returns-clause-gives c =
    let b = cast_unsigned w128 c.args.n in
    let back : cast_signed w128 (cast_unsigned w128 c.args.n) ≡ c.args.n = search rules in
    let same : c.cast_unsigned-bits.result ≡ b = c.cast_unsigned-bits.ensures ∙ ap (cast_unsigned w128) back in
    let low : c.bits.result ≡ record { kind = Bits; bits = b % 2 ^ 64 } = c.bits.ensures ∙ ap (λ x. let p : Part = record { kind = Bits; bits = x % 2 ^ 64 } in p) same in
    let high : c.bits-2.result ≡ record { kind = Bits; bits = b / 2 ^ 64 } = c.bits-2.ensures ∙ ap (λ x. let p : Part = record { kind = Bits; bits = x / 2 ^ 64 } in p) same in
    let e : c.of.result ≡ bits_cell (b % 2 ^ 64) (record { kind = Bits; bits = b / 2 ^ 64 }) =
    c.of.ensures ∙ ap₂ (λ (p q : Part). let d : Cell = record { left = p.bits; right = q.bits; link = 0; left_kind = p.kind; right_kind = q.kind; role = role.Inside } in d) low high in
    subst (λ (x : Bool). Gives c.args.self.now c.place-at.new.self (record { kind = Big; bits = c.place-at.result }) (if x then Atom (word.Small c.args.n) else Node Big (Bare (b % 2 ^ 64)) (Bare (b / 2 ^ 64))) 1) (sym c.requires.wide)
    (wide_whole c.args.self.now c.place-at.new.self (b % 2 ^ 64) (b / 2 ^ 64) c.place-at.result c.of.result c.requires.room.enough c.place-at.ensures e)
