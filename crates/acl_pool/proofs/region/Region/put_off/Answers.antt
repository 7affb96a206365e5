use Rattle.std.specs.Prelude.{◌≡◌}
use Rattle.std.proofs.Common.{refl, ap, ◌∙◌, arith}
use Rattle.acl_pool.specs.declared.cell.Kind.TheVariants.{Heap}
use Rattle.acl_pool.specs.declared.cell.Part.{Part}
use Rattle.acl_pool.specs.declared.cell.Cell.{Cell}
use Rattle.acl_pool.specs.declared.cell.Role.TheVariants as role
use Rattle.acl_pool.proofs.BuildLemmas.{roomy_first}
use Rattle.acl_pool.proofs.BeginLemmas.{starts_wait, wait_cell}
use Rattle.acl_pool.proofs.region.Region.put_off.Goals as goal

pub place-at-requires : goal.place-at-requires
place-at-requires c = roomy_first c.args.self.now 1 c.requires.room (omega arith)

pub returns : goal.returns
returns c =
    let e : c.of.result ≡ wait_cell c.args.n c.args.waiting.now.first =
    c.of.ensures ∙ ap (λ (p : Part). let d : Cell = record { left = c.args.n; right = p.bits; link = c.args.waiting.now.first; left_kind = Heap; right_kind = p.kind; role = role.Inside } in d) c.bits.ensures in
    starts_wait c.args.heap.now c.args.self.now c.place-at.new.self c.args.waiting.now _ c.args.n c.place-at.result c.of.result c.requires.lies c.requires.pair c.requires.room c.place-at.ensures e refl
