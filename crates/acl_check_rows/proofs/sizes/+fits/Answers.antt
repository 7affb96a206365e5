use Rattle.std.specs.Prelude.{◌<◌, ◌≤◌, length}
use Rattle.std.proofs.Common.{rules}
use Rattle.acl_check_rows.proofs.SmallLemmas.{few_is, var_small, const_small, if_small, let_small, mv_small, mv_let_small, stobj_let_small, with_local_small, must_be_equal_small, call_small, all_next, all_end, bound_next, bound_end}
use Rattle.acl_check_rows.proofs.sizes.+fits.Goals as goal

pub fits-returns-in-Var : goal.fits-returns-in-Var
fits-returns-in-Var t c =
    let l : 0 < c.args.d = search rules in
    λ y. var_small c.args.heap.now c.args.d c.args.core.now c.in-Var.field-0 c.in-Var.is l

pub fits-returns-in-Const : goal.fits-returns-in-Const
fits-returns-in-Const t c =
    let l : 0 < c.args.d = search rules in
    λ y. const_small c.args.heap.now c.args.d c.args.core.now c.in-Const.word c.in-Const.is l (c.is_small.ensures y)

pub fits-returns-in-If : goal.fits-returns-in-If
fits-returns-in-If t c =
    let l : 0 < c.args.d = search rules in
    if_small c.args.heap.now c.args.d _ _ _ _ _ _ _ _ _ _ c.in-If.is c.get.ensures c.get-in-If.ensures c.get-in-If-2.ensures l c.fits-first.ensures c.fits-second.ensures c.fits-third.ensures

pub fits-returns-in-Let : goal.fits-returns-in-Let
fits-returns-in-Let t c =
    let l : 0 < c.args.d = search rules in
    let_small c.args.heap.now c.args.d c.args.core.now _ _ _ _ 0 _ _ _ c.in-Let.is c.get-in-Let.ensures c.as_slice.ensures l (few_is _ _ c.len-few.ensures) c.bound_fit-first.ensures c.fits-second-in-Let.ensures

pub fits-returns-in-Mv : goal.fits-returns-in-Mv
fits-returns-in-Mv t c =
    let l : 0 < c.args.d = search rules in
    mv_small c.args.heap.now c.args.d _ _ _ _ _ c.in-Mv.is c.as_slice-in-Mv.ensures l (few_is _ _ c.len-few-in-Mv.ensures) c.all_fit-all.ensures

pub fits-returns-in-MvLet : goal.fits-returns-in-MvLet
fits-returns-in-MvLet t c =
    let l : 0 < c.args.d = search rules in
    mv_let_small c.args.heap.now c.args.d _ _ _ _ _ _ _ _ c.in-MvLet.is c.get-in-MvLet.ensures c.get-in-MvLet-2.ensures l c.fits-first-in-MvLet.ensures c.fits-second-in-MvLet.ensures

pub fits-returns-in-StobjLet : goal.fits-returns-in-StobjLet
fits-returns-in-StobjLet t c =
    let l : 0 < c.args.d = search rules in
    stobj_let_small c.args.heap.now c.args.d _ _ _ _ _ _ _ _ _ _ _ c.in-StobjLet.is c.as_slice-in-StobjLet.ensures c.get-in-StobjLet.ensures c.get-in-StobjLet-2.ensures l c.bound_fit-bound.ensures c.fits-first-in-StobjLet.ensures c.fits-second-in-StobjLet.ensures

pub fits-returns-in-WithLocal : goal.fits-returns-in-WithLocal
fits-returns-in-WithLocal t c =
    let l : 0 < c.args.d = search rules in
    with_local_small c.args.heap.now c.args.d _ _ _ _ _ _ _ _ _ c.in-WithLocal.is c.get-in-WithLocal.ensures c.get-in-WithLocal-2.ensures l c.fits-first-in-WithLocal.ensures c.fits-second-in-WithLocal.ensures

pub fits-returns-in-MustBeEqual : goal.fits-returns-in-MustBeEqual
fits-returns-in-MustBeEqual t c =
    let l : 0 < c.args.d = search rules in
    must_be_equal_small c.args.heap.now c.args.d _ _ _ _ _ _ _ c.in-MustBeEqual.is c.get-in-MustBeEqual.ensures c.get-in-MustBeEqual-2.ensures l c.fits-first-in-MustBeEqual.ensures c.fits-second-in-MustBeEqual.ensures

pub fits-returns-in-Call : goal.fits-returns-in-Call
fits-returns-in-Call t c =
    let l : 0 < c.args.d = search rules in
    call_small c.args.heap.now c.args.d _ _ _ _ _ _ c.in-Call.is c.as_slice-in-Call.ensures l (few_is _ _ c.len-few-in-Call.ensures) c.all_fit-all-in-Call.ensures

pub all_fit-loop-part-init : goal.all_fit-loop-part-init
all_fit-loop-part-init t c = λ a. a

pub all_fit-loop-part-preserved : goal.all_fit-loop-part-preserved
all_fit-loop-part-preserved t c = λ a. c.loop-part.invariant (all_next c.args.heap.now c.args.d c.args.parts.now c.loop-part.part-index c.part-item.result c.loop-part-test.true c.part-item.is (c.fits.ensures c.if-not-fits.false) a)

pub all_fit-returns : goal.all_fit-returns
all_fit-returns t c = λ y. let past : length c.args.parts.now ≤ c.loop-part.part-index = search rules in c.loop-part.invariant (all_end c.args.heap.now c.args.d c.args.parts.now c.loop-part.part-index past)

pub bound_fit-loop-binding-init : goal.bound_fit-loop-binding-init
bound_fit-loop-binding-init t c = λ a. a

pub bound_fit-loop-binding-preserved : goal.bound_fit-loop-binding-preserved
bound_fit-loop-binding-preserved t c = λ a. c.loop-binding.invariant (bound_next c.args.heap.now c.args.d c.args.bindings.now c.loop-binding.binding-index c.binding-item.result c.loop-binding-test.true c.binding-item.is (c.fits.ensures c.if-not-fits.false) a)

pub bound_fit-returns : goal.bound_fit-returns
bound_fit-returns t c = λ y. let past : length c.args.bindings.now ≤ c.loop-binding.binding-index = search rules in c.loop-binding.invariant (bound_end c.args.heap.now c.args.d c.args.bindings.now c.loop-binding.binding-index past)
