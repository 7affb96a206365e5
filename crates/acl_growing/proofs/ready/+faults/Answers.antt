-- Forms in a row, and what is bound.
use Rattle.std.specs.Prelude.{◌≤◌, length}
use Rattle.std.proofs.Common.{sym, ◌∙◌, arith}
use Rattle.acl_expand.specs.Looks.{setting_at}
use Rattle.acl_growing.proofs.ReadyLemmas.{let_fails, let_goes, stobj_let_fails, stobj_let_goes, call_ends, part_fails, part_goes, parts_past, binding_fails, binding_goes, bound_past}
use Rattle.acl_growing.proofs.ready.+faults.Goals as goal

pub form_fault-returns-in-Some-bound_fault : goal.form_fault-returns-in-Some-bound_fault
form_fault-returns-in-Some-bound_fault t c =
    let k = rw c.as_slice.ensures at c.in-Some-bound_fault.ensures in
    let_fails (setting_at c.args.heap.now c.args.world.now c.args.syms.now c.args.limits.steps c.args.limits.depth) c.args.heap.now c.args.left (omega arith) c.args.form.now c.in-Let.bindings c.in-Let.body _ c.in-Let.is k

pub form_fault-returns-in-None-bound_fault : goal.form_fault-returns-in-None-bound_fault
form_fault-returns-in-None-bound_fault t c =
    let k = rw c.as_slice.ensures at c.in-None-bound_fault.ensures in
    let j = rw c.get-in-None-bound_fault.ensures at c.form_fault-in-None-bound_fault.ensures in
    let_goes (setting_at c.args.heap.now c.args.world.now c.args.syms.now c.args.limits.steps c.args.limits.depth) c.args.heap.now c.args.left (omega arith) c.args.form.now c.in-Let.bindings c.in-Let.body _ c.in-Let.is k j

pub form_fault-returns-in-Some-bound_fault-2 : goal.form_fault-returns-in-Some-bound_fault-2
form_fault-returns-in-Some-bound_fault-2 t c =
    let k = rw c.as_slice-in-StobjLet.ensures at c.in-Some-bound_fault-2.ensures in
    stobj_let_fails (setting_at c.args.heap.now c.args.world.now c.args.syms.now c.args.limits.steps c.args.limits.depth) c.args.heap.now c.args.left (omega arith) c.args.form.now c.in-StobjLet.bindings c.in-StobjLet.vars c.in-StobjLet.producer c.in-StobjLet.consumer _ c.in-StobjLet.is k

pub form_fault-returns-in-None-bound_fault-2 : goal.form_fault-returns-in-None-bound_fault-2
form_fault-returns-in-None-bound_fault-2 t c =
    let k = rw c.as_slice-in-StobjLet.ensures at c.in-None-bound_fault-2.ensures in
    let j = rw (c.get-in-None-bound_fault-2.ensures, c.get-in-None-bound_fault-2-2.ensures) at c.two_fault-in-None-bound_fault-2.ensures in
    stobj_let_goes (setting_at c.args.heap.now c.args.world.now c.args.syms.now c.args.limits.steps c.args.limits.depth) c.args.heap.now c.args.left (omega arith) c.args.form.now c.in-StobjLet.bindings c.in-StobjLet.vars c.in-StobjLet.producer c.in-StobjLet.consumer _ c.in-StobjLet.is k j

pub form_fault-returns-in-Call : goal.form_fault-returns-in-Call
form_fault-returns-in-Call t c =
    let j = rw c.as_slice-in-Call.ensures at c.call_fault.ensures in
    call_ends (setting_at c.args.heap.now c.args.world.now c.args.syms.now c.args.limits.steps c.args.limits.depth) c.args.heap.now c.args.left (omega arith) c.args.form.now c.in-Call.function c.in-Call.actuals _ c.in-Call.is j

pub parts_fault-returns-in-Some : goal.parts_fault-returns-in-Some
parts_fault-returns-in-Some t c =
    let x = setting_at c.args.heap.now c.args.world.now c.args.syms.now c.args.limits.steps c.args.limits.depth in
    sym (c.parts.invariant ∙ part_fails x c.args.heap.now c.args.left c.args.parts.now c.parts.part-index _ c.part-item.result _ (omega arith) c.part-item.is c.in-Some.ensures)

pub parts_fault-parts-preserved : goal.parts_fault-parts-preserved
parts_fault-parts-preserved t c =
    let x = setting_at c.args.heap.now c.args.world.now c.args.syms.now c.args.limits.steps c.args.limits.depth in
    c.parts.invariant ∙ part_goes x c.args.heap.now c.args.left c.args.parts.now c.parts.part-index _ c.part-item.result (omega arith) c.part-item.is c.in-None.ensures

pub parts_fault-returns : goal.parts_fault-returns
parts_fault-returns t c =
    let x = setting_at c.args.heap.now c.args.world.now c.args.syms.now c.args.limits.steps c.args.limits.depth in
    let past : length c.args.parts.now ≤ c.parts.part-index = omega arith in
    sym (c.parts.invariant ∙ parts_past x c.args.heap.now c.args.left c.args.parts.now c.parts.part-index past)

pub bound_fault-returns-in-Some : goal.bound_fault-returns-in-Some
bound_fault-returns-in-Some t c =
    let x = setting_at c.args.heap.now c.args.world.now c.args.syms.now c.args.limits.steps c.args.limits.depth in
    sym (c.bindings.invariant ∙ binding_fails x c.args.heap.now c.args.left c.args.bindings.now c.bindings.binding-index _ c.binding-item.result _ (omega arith) c.binding-item.is c.in-Some.ensures)

pub bound_fault-bindings-preserved : goal.bound_fault-bindings-preserved
bound_fault-bindings-preserved t c =
    let x = setting_at c.args.heap.now c.args.world.now c.args.syms.now c.args.limits.steps c.args.limits.depth in
    c.bindings.invariant ∙ binding_goes x c.args.heap.now c.args.left c.args.bindings.now c.bindings.binding-index _ c.binding-item.result (omega arith) c.binding-item.is c.in-None.ensures

pub bound_fault-returns : goal.bound_fault-returns
bound_fault-returns t c =
    let x = setting_at c.args.heap.now c.args.world.now c.args.syms.now c.args.limits.steps c.args.limits.depth in
    let past : length c.args.bindings.now ≤ c.bindings.binding-index = omega arith in
    sym (c.bindings.invariant ∙ bound_past x c.args.heap.now c.args.left c.args.bindings.now c.bindings.binding-index past)
