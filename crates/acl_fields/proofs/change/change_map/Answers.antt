use Rattle.std.proofs.Common.{◌≡◌, ◌+◌, ◌∙◌, [], ap, arith}
use Rattle.acl_maps.specs.Cells.{Cells}
use Rattle.acl_maps.specs.Held.{cells_held}
use Rattle.acl_maps.proofs.HeldLemmas.{nothing_held}
use Rattle.acl_fields.specs.Held.{change_cells}
use Rattle.acl_fields.specs.declared.change.Change.{Change}
use Rattle.acl_fields.specs.declared.change.Change.TheVariants.{Clear}
use Rattle.acl_fields.proofs.change.change_map.Goals as goal

cleared : (new old r : Cells) (x : Change) → x ≡ Clear → new ≡ [] → r ≡ old → cells_held new + cells_held r ≡ cells_held old + change_cells x
cleared new old r x e a b =
    let n = ap cells_held a ∙ nothing_held in
    let p = ap cells_held b in
    let z = ap change_cells e in omega (arith, n, p, z)

pub returns-clause-counted : goal.returns-clause-counted
returns-clause-counted c = cleared c.replace-old.new.dest c.args.m.now c.replace-old.result c.args.change c.in-Clear.is (c.replace-old.ensures.after ∙ c.new.ensures) c.replace-old.ensures.value
