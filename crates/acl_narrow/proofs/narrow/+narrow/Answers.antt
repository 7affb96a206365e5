use Rattle.std.specs.Prelude.{◌≤◌, ◌^◌, suc, length, nat_le}
use Rattle.std.proofs.Common.{sym, ap, ◌∙◌, arith}
use Rattle.acl_narrow.proofs.NarrowLemmas.{var_narrow, const_narrow, if_narrow, let_narrow, mv_narrow, mv_let_narrow, stobj_let_narrow, local_narrow, equal_narrow, call_narrow, part_goes, parts_past, binding_goes, bound_past}
use Rattle.acl_narrow.proofs.narrow.+narrow.Goals as goal

pub is_narrow-returns-in-Var : goal.is_narrow-returns-in-Var
is_narrow-returns-in-Var t c = sym (var_narrow c.args.heap.now c.args.left (omega arith) c.args.core.now _ c.in-Var.is)

pub is_narrow-returns-in-Const : goal.is_narrow-returns-in-Const
is_narrow-returns-in-Const t c = sym (const_narrow c.args.heap.now c.args.left (omega arith) c.args.core.now _ c.in-Const.is)

pub is_narrow-returns-in-If : goal.is_narrow-returns-in-If
is_narrow-returns-in-If t c =
    let p = rw c.get.ensures at c.is_narrow-first.ensures in
    let q = rw (c.get-in-If.ensures, c.get-in-If-2.ensures) at c.two_narrow-others.ensures in
    if_narrow c.args.heap.now c.args.left (omega arith) c.args.core.now _ _ _ _ _ c.in-If.is p q

pub is_narrow-returns-in-Let : goal.is_narrow-returns-in-Let
is_narrow-returns-in-Let t c =
    let q = rw c.as_slice.ensures at c.bound_narrow-bound.ensures in
    let r = rw c.get-in-Let.ensures at c.is_narrow-last.ensures in
    let_narrow c.args.heap.now c.args.left (omega arith) c.args.core.now _ _ _ _ _ c.in-Let.is (ap (λ n. nat_le (suc n) (2 ^ 32)) c.len-few.ensures) q r

pub is_narrow-returns-in-Mv : goal.is_narrow-returns-in-Mv
is_narrow-returns-in-Mv t c =
    let q = rw c.as_slice-in-Mv.ensures at c.parts_narrow-all.ensures in
    mv_narrow c.args.heap.now c.args.left (omega arith) c.args.core.now _ _ _ c.in-Mv.is (ap (λ n. nat_le n (2 ^ 32)) c.len-few-in-Mv.ensures) q

pub is_narrow-returns-in-MvLet : goal.is_narrow-returns-in-MvLet
is_narrow-returns-in-MvLet t c =
    let q = rw (c.get-in-MvLet.ensures, c.get-in-MvLet-2.ensures) at c.two_narrow-both.ensures in
    mv_let_narrow c.args.heap.now c.args.left (omega arith) c.args.core.now _ _ _ _ _ c.in-MvLet.is (ap (λ n. nat_le n (2 ^ 32)) c.len-few-in-MvLet.ensures) q

pub is_narrow-returns-in-StobjLet : goal.is_narrow-returns-in-StobjLet
is_narrow-returns-in-StobjLet t c =
    let r = rw c.as_slice-in-StobjLet.ensures at c.bound_narrow-bound-in-StobjLet.ensures in
    let q = rw (c.get-in-StobjLet.ensures, c.get-in-StobjLet-2.ensures) at c.two_narrow-both-in-StobjLet.ensures in
    stobj_let_narrow c.args.heap.now c.args.left (omega arith) c.args.core.now _ _ _ _ _ _ _ _ c.in-StobjLet.is (ap (λ n. nat_le (suc n) (2 ^ 32)) c.len-few-in-StobjLet.ensures) (ap (λ n. nat_le n (2 ^ 32)) c.len-named.ensures) r q

pub is_narrow-returns-in-WithLocal : goal.is_narrow-returns-in-WithLocal
is_narrow-returns-in-WithLocal t c =
    let q = rw (c.get-in-WithLocal.ensures, c.get-in-WithLocal-2.ensures) at c.two_narrow-both-in-WithLocal.ensures in
    local_narrow c.args.heap.now c.args.left (omega arith) c.args.core.now _ _ _ _ _ _ c.in-WithLocal.is (ap (λ n. nat_le n (2 ^ 32)) c.len-few-in-WithLocal.ensures) q

pub is_narrow-returns-in-MustBeEqual : goal.is_narrow-returns-in-MustBeEqual
is_narrow-returns-in-MustBeEqual t c =
    let q = rw (c.get-in-MustBeEqual.ensures, c.get-in-MustBeEqual-2.ensures) at c.two_narrow.ensures in
    q ∙ equal_narrow c.args.heap.now c.args.left (omega arith) c.args.core.now _ _ c.in-MustBeEqual.is

pub is_narrow-returns-in-Call : goal.is_narrow-returns-in-Call
is_narrow-returns-in-Call t c =
    let q = rw c.as_slice-in-Call.ensures at c.parts_narrow-all-in-Call.ensures in
    call_narrow c.args.heap.now c.args.left (omega arith) c.args.core.now _ _ _ _ c.in-Call.is (ap (λ n. nat_le n (2 ^ 32)) c.len-few-in-Call.ensures) q

pub parts_narrow-parts-preserved : goal.parts_narrow-parts-preserved
parts_narrow-parts-preserved t c =
    c.parts.invariant ∙ part_goes c.args.heap.now c.args.left c.args.parts.now c.parts.part-index c.part-item.result (omega arith) c.part-item.is (sym c.if-not-is_narrow.false ∙ c.is_narrow.ensures)

pub parts_narrow-returns : goal.parts_narrow-returns
parts_narrow-returns t c =
    let past : length c.args.parts.now ≤ c.parts.part-index = omega arith in
    sym (c.parts.invariant ∙ parts_past c.args.heap.now c.args.left c.args.parts.now c.parts.part-index past)

pub bound_narrow-bindings-preserved : goal.bound_narrow-bindings-preserved
bound_narrow-bindings-preserved t c =
    c.bindings.invariant ∙ binding_goes c.args.heap.now c.args.left c.args.bindings.now c.bindings.binding-index c.binding-item.result (omega arith) c.binding-item.is (sym c.if-not-is_narrow.false ∙ c.is_narrow.ensures)

pub bound_narrow-returns : goal.bound_narrow-returns
bound_narrow-returns t c =
    let past : length c.args.bindings.now ≤ c.bindings.binding-index = omega arith in
    sym (c.bindings.invariant ∙ bound_past c.args.heap.now c.args.left c.args.bindings.now c.bindings.binding-index past)
