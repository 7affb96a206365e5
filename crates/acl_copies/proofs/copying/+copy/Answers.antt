use Rattle.std.specs.Prelude.{◌≡◌, ◌≤◌, ◌<◌, length}
use Rattle.std.proofs.Common.{rules, sym, ap, ◌∙◌, arith}
use Rattle.acl_copies.proofs.CopyLemmas.{one_more, all_done}
use Rattle.acl_copies.proofs.copying.+copy.Goals as goal

pub parts_copied-parts-preserved : goal.parts_copied-parts-preserved
parts_copied-parts-preserved t c =
    one_more c.args.parts.now c.parts.part-index c.parts.done _ c.part-item.result _ c.parts.invariant c.parts-test.true c.part-item.is c.in_ok-copy.ensures c.in_ok-push.ensures.ok

pub parts_copied-returns : goal.parts_copied-returns
parts_copied-returns t c = all_done c.args.parts.now c.parts.part-index c.parts.done c.parts.invariant (omega arith)

pub bound_copied-returns : goal.bound_copied-returns
bound_copied-returns t c = all_done c.args.bindings.now c.bindings.binding-index c.bindings.done c.bindings.invariant (omega arith)
