use Rattle.std.specs.Prelude.{true, false, refl}
use Rattle.acl_print.specs.declared.Task.TheVariants.{Form, Tail}
use Rattle.acl_print.proofs.TaskLemmas.{pair_steps}
use Rattle.acl_print.proofs.step.Goals as goal

pub returns-in_ok-push_parts-in-Form : goal.returns-in_ok-push_parts-in-Form
returns-in_ok-push_parts-in-Form c =
    let e = c.in-Pair.ensures.sees in
    rw (c.in-Form.is, c.in_ok-push-in-Form.ensures.items, c.in_ok-push_parts-in-Form.ensures)
    (pair_steps c.args.syms.now c.args.current.0 c.args.heap.now c.args.out.now.items false (Form c.in-Form.word) c.args.tasks.now.items c.in-Pair.first c.in-Pair.rest
    refl e.0 e.1 e.2 (rw c.in-Form.is at c.requires.whole) c.requires.ready)

pub returns-in_ok-push_parts-in-Tail : goal.returns-in_ok-push_parts-in-Tail
returns-in_ok-push_parts-in-Tail c =
    let e = c.in-Pair-seen.ensures.sees in
    rw (c.in-Tail.is, c.in_ok-push-in-Tail.ensures.items, c.in_ok-push_parts-in-Tail.ensures)
    (pair_steps c.args.syms.now c.args.current.0 c.args.heap.now c.args.out.now.items true (Tail c.in-Tail.word) c.args.tasks.now.items c.in-Pair-seen.first c.in-Pair-seen.rest
    refl e.0 e.1 e.2 (rw c.in-Tail.is at c.requires.whole) c.requires.ready)
