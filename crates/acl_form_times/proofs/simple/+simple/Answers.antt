use Rattle.std.specs.Prelude.{◌≤◌, length}
use Rattle.std.proofs.Common.{rules}
use Rattle.acl_worlds.specs.Contents.{seen_world}
use Rattle.acl_form_times.proofs.SimpleLemmas.{var_simple, const_simple, if_simple, let_simple, call_simple, all_next, all_end, bound_next, bound_end}
use Rattle.acl_form_times.proofs.simple.+simple.Goals as goal

pub is_simple-returns-in-Var : goal.is_simple-returns-in-Var
is_simple-returns-in-Var t c = λ y. var_simple (seen_world c.args.heap.now c.args.world.now) c.args.heap.now c.args.core.now c.in-Var.field-0 c.in-Var.is

pub is_simple-returns-in-Const : goal.is_simple-returns-in-Const
is_simple-returns-in-Const t c = λ y. const_simple (seen_world c.args.heap.now c.args.world.now) c.args.heap.now c.args.core.now c.in-Const.word c.in-Const.is (c.is_small.ensures y)

pub is_simple-returns-in-If : goal.is_simple-returns-in-If
is_simple-returns-in-If t c =
    if_simple (seen_world c.args.heap.now c.args.world.now) c.args.heap.now _ _ _ _ _ _ _ _ _ _ c.in-If.is c.get.ensures c.get-in-If.ensures c.get-in-If-2.ensures c.is_simple-first.ensures c.is_simple-second.ensures c.is_simple-third.ensures

pub is_simple-returns-in-Let : goal.is_simple-returns-in-Let
is_simple-returns-in-Let t c =
    let_simple (seen_world c.args.heap.now c.args.world.now) c.args.heap.now c.args.core.now _ _ _ _ _ _ c.in-Let.is c.get-in-Let.ensures c.as_slice.ensures c.bound_are_simple-first.ensures c.is_simple-second-in-Let.ensures

pub is_simple-returns-in-Call : goal.is_simple-returns-in-Call
is_simple-returns-in-Call t c =
    call_simple (seen_world c.args.heap.now c.args.world.now) c.args.heap.now c.args.core.now _ _ _ _ _ c.in-Call.is c.as_slice-in-Call.ensures c.stands-first.ensures c.are_simple-second.ensures

pub are_simple-loop-part-init : goal.are_simple-loop-part-init
are_simple-loop-part-init t c = λ a. a

pub are_simple-loop-part-preserved : goal.are_simple-loop-part-preserved
are_simple-loop-part-preserved t c = λ a. c.loop-part.invariant (all_next (seen_world c.args.heap.now c.args.world.now) c.args.heap.now c.args.parts.now c.loop-part.part-index c.part-item.result c.loop-part-test.true c.part-item.is (c.is_simple.ensures c.if-not-is_simple.false) a)

pub are_simple-returns : goal.are_simple-returns
are_simple-returns t c = λ y. let past : length c.args.parts.now ≤ c.loop-part.part-index = search rules in c.loop-part.invariant (all_end (seen_world c.args.heap.now c.args.world.now) c.args.heap.now c.args.parts.now c.loop-part.part-index past)

pub bound_are_simple-loop-binding-init : goal.bound_are_simple-loop-binding-init
bound_are_simple-loop-binding-init t c = λ a. a

pub bound_are_simple-loop-binding-preserved : goal.bound_are_simple-loop-binding-preserved
bound_are_simple-loop-binding-preserved t c = λ a. c.loop-binding.invariant (bound_next (seen_world c.args.heap.now c.args.world.now) c.args.heap.now c.args.bindings.now c.loop-binding.binding-index c.binding-item.result c.loop-binding-test.true c.binding-item.is (c.is_simple.ensures c.if-not-is_simple.false) a)

pub bound_are_simple-returns : goal.bound_are_simple-returns
bound_are_simple-returns t c = λ y. let past : length c.args.bindings.now ≤ c.loop-binding.binding-index = search rules in c.loop-binding.invariant (bound_end (seen_world c.args.heap.now c.args.world.now) c.args.heap.now c.args.bindings.now c.loop-binding.binding-index past)
