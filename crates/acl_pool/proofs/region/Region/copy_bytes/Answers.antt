use Rattle.std.specs.Prelude.{◌≡◌, ◌+◌, ◌-◌, ◌*◌, ◌/◌, drop, length}
use Rattle.std.proofs.Common.{refl, sym, ap, subst, ◌∙◌, arith}
use Rattle.acl_pool.specs.declared.cell.Part.{Part}
use Rattle.acl_pool.specs.declared.cell.Cell.{Cell}
use Rattle.acl_pool.specs.declared.cell.Role.TheVariants as role
use Rattle.acl_pool.specs.Trees.{Bare, numbers, chain}
use Rattle.acl_pool.specs.Building.{Gives}
use Rattle.acl_pool.proofs.BuildLemmas.{gives_none, roomy_place, bytes_step, bits_cell}
use Rattle.acl_pool.proofs.region.Region.copy_bytes.Goals as goal

pub loop-done-init : goal.loop-done-init
loop-done-init c = (refl, subst (λ (p : Part). Gives c.args.self.now c.args.self.now p (Bare 0) 0) (sym c.bits-rest.ensures) (gives_none c.args.self.now 0))

pub place-at-requires : goal.place-at-requires
place-at-requires c =
    roomy_place c.args.self.now c.loop-done.self c.loop-done.rest (chain (numbers c.loop-done.done (drop (8 * ((length c.args.bytes.now + 7) / 8 - c.loop-done.done)) c.args.bytes.now))) ((length c.args.bytes.now + 7) / 8) c.loop-done.done c.requires.room c.loop-done.invariant.1
    (omega (arith, c.loop-done-test.true))

pub loop-done-preserved : goal.loop-done-preserved
loop-done-preserved c =
    let e : c.of.result ≡ bits_cell c.eight-first.result c.loop-done.rest =
    c.of.ensures ∙ ap (λ (p : Part). let d : Cell = record { left = p.bits; right = c.loop-done.rest.bits; link = 0; left_kind = p.kind; right_kind = c.loop-done.rest.kind; role = role.Inside } in d) c.bits.ensures in (
      refl,
      bytes_step c.args.self.now c.loop-done.self c.place-at.new.self c.loop-done.rest c.args.bytes.now ((length c.args.bytes.now + 7) / 8) c.loop-done.done c.eight-first.result c.place-at.result c.of.result
          (omega (arith, c.loop-done-test.true)) c.requires.room.enough c.loop-done.invariant.1 c.place-at.ensures e c.eight-first.ensures,
    )
