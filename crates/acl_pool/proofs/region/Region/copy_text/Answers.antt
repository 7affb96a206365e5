use Rattle.std.specs.Prelude.{◌≡◌, ◌+◌, ◌/◌, length}
use Rattle.std.proofs.Common.{ap, ◌∙◌, arith}
use Rattle.acl_pool.specs.declared.cell.Part.{Part}
use Rattle.acl_pool.specs.declared.cell.Cell.{Cell}
use Rattle.acl_pool.specs.declared.cell.Role.TheVariants as role
use Rattle.acl_pool.specs.Trees.{numbers, chain}
use Rattle.acl_pool.proofs.BuildLemmas.{roomy_place, text_whole, bits_cell}
use Rattle.acl_pool.proofs.region.Region.copy_text.Goals as goal

pub place-at-requires : goal.place-at-requires
place-at-requires c =
    roomy_place c.args.self.now c.copy_bytes-rest.new.self c.copy_bytes-rest.result (chain (numbers ((length c.args.bytes.now + 7) / 8) c.args.bytes.now)) (1 + (length c.args.bytes.now + 7) / 8) ((length c.args.bytes.now + 7) / 8) c.requires.room c.copy_bytes-rest.ensures
    (omega arith)

pub returns-clause-gives : goal.returns-clause-gives
returns-clause-gives c =
    let e : c.of.result ≡ bits_cell (length c.args.bytes.now) c.copy_bytes-rest.result =
    c.of.ensures ∙ ap (λ (p : Part). let d : Cell = record { left = p.bits; right = c.copy_bytes-rest.result.bits; link = 0; left_kind = p.kind; right_kind = c.copy_bytes-rest.result.kind; role = role.Inside } in d) c.bits.ensures in
    text_whole c.args.self.now c.copy_bytes-rest.new.self c.place-at.new.self c.copy_bytes-rest.result (chain (numbers ((length c.args.bytes.now + 7) / 8) c.args.bytes.now)) ((length c.args.bytes.now + 7) / 8) (length c.args.bytes.now) c.place-at.result c.of.result
    c.requires.room.enough c.copy_bytes-rest.ensures c.place-at.ensures e
