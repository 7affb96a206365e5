use Rattle.acl_rawmem.proofs.Steps.{◌<◌, [], ◌∷◌, length, refl, w64, proved, tables, ‵, ◌⊛◌, raw, fact, ftrue, flft, named, qed, ◌∵◌, ◌$◌, !, split, drop, move, keep, heard, enter, alloc_all, pass_all, Val, MutRef, mut_vals, mut_Tells, uint_vals, uint_Tells, usize, yes, no, plain, a_type, dcons, dnil, bounded, param, copied, IsCopy, copied_copy, copied_laws, elem_out, Is, ap, ◌∙◌, List, cell_at, rewrite, first, blocks, sets, of_opd, load, through, fld, stop, look_in, sub, whole, bin, get, size_lit, is, place_is, vptr, sym, assigns_last, store_raw, exec, env, at_ret, unit_lit, elem_put, group, nothing, join, frame, done, flt_i, ◌*◌, ◌^◌, ◌+◌, ◌≡◌, arith, size, lone, returns, look_at, free_all, suffices, ends_at, vunit, feq_i, ℕ, block_ptr, param_laws, use1, fsep, lies_at, Array, full_share, in_a_block, shares, shows, flt_l, id⊢, Ty, Ptr, Fml, fsplit, fsplit3, fjoin, opens, closes, peeks, Stays, walk_of, stay_ref, stay_dropped, Goes-ref, Goes-dropped}
use Rattle.acl_rawmem.specs.Owned.{owned}
use lib.ListN.{set, length-set}
use Rattle.std.proofs.VecSteps.Shapes.{after}
use mir.MapTy.{inst_fn}
use types.Share.{arr_parts}
use denote.ArrayMemory.{Array-apart, Array-whole}
use Rattle.acl_rawmem.proofs.block.Block.TheLaws.{lowers}
use Rattle.acl_rawmem.proofs.Elements.{says_both, rest, opened_at, closed, bytes_below, one_below}
use contract.BorrowLft.{◌⊑◌}
use Rattle.acl_rawmem.specs.contracts.block.Block.write as f
use Rattle.acl_rawmem.proofs.block.Block.write.Statement.{statement}
use Rattle.acl_rawmem.proofs.block.Block.write.Code as code
use Rattle.acl_rawmem.specs.contracts.block.Block.{the_row}

pub write_spec : {M : Type 1} → statement M
write_spec 𝓤 𝓛 𝓜 𝓡 w T A LT LA CT gc dc ga da dd mc ma md =
    let E = f.ended T A gc dc ga da dd in
    let c = f.clauses T A gc dc ga da dd 𝓛 𝓜.mem 𝓡.returns in
    let R = the_row (copied 0 T) (param 1 A) ga in
    let C : IsCopy (copied 0 T) = copied_copy 0 T CT in
    let stayed : Stays E.signature.params E.kept = (stay_ref (0 ∷ []) tt (plain (λ _. R)), (stay_dropped _ yes, (stay_dropped _ no, tt))) in
    let W = walk_of 𝓛 E stayed c in
    let args = bounded (a_type ∷ a_type ∷ []) (T, (A, tt)) (dcons dc (dcons da (dcons dd dnil))) in
    proved 𝓛 E stayed c 𝓜 𝓡 (Goes-ref 𝓛 3 0 tt (plain (λ _. R)), (Goes-dropped 𝓛 3 (plain (λ _. usize)) yes (λ κs x w. refl), (Goes-dropped 𝓛 3 (plain (λ _. copied 0 T)) no (λ κs x w. refl), tt)))
    (f.Key.name args) (inst_fn args code.function) (code.unfolded 𝓤 𝓛.H 𝓜 𝓡 w (T, (A, tt)) dc da dd)
    (λ κs. (mut_vals, (uint_vals w64, ((λ x. C.val x ∷ []), tt)))) (λ κs. (mut_Tells (named 0) κs.0 R, (uint_Tells w64, (C.tells, tt)))) (λ κs qs bounds a _ are.
    let vs = mut_vals a.0 in let i = a.1.0 in let x = a.1.1.0 in
    let y : W.Ghost = ((κs, qs, bounds, a, (vs, (uint_vals w64 i, (C.val x ∷ [], tt)))), tt) in
    let h = a.0.now in let b = a.0.ref_ptr.0 in let o = a.0.ref_ptr.1 in
    let holds : Ty → Ptr → Fml = ga.dealloc_token h.heap in
    qed 𝓛 (((‵ (flft κs.0 qs.0) ⊛ ‵ (flft κs.1.0 qs.1.0) ⊛ ‵ (flft κs.1.1.0 qs.1.1.0) ⊛ ‵ ftrue) ⊛ ‵ ((MutRef (named 0) κs.0 R).own_val a.0 vs) ⊛ ‵ (usize.own_val i (uint_vals w64 i)) ⊛ ‵ ((copied 0 T).own_val x (C.val x ∷ [])) ⊛ ‵ ftrue) ∷ (raw (fact 𝓤 (κs.1.0 ⊑ T.lives)) ⊛ raw (fact 𝓤 (κs.1.1.0 ⊑ A.lives)) ⊛ raw (fact 𝓤 (i < length h.items))) ∷ []) ∵
    split ! $ split ! $ move ! (2 ∷ []) $ split ! $ move ! (1 ∷ []) $ split ! $ drop ! $ split ! $ move ! (5 ∷ []) $ split ! $ drop ! $ split ! $ drop ! $ heard ! _ (λ within.
    keep ! (2 ∷ 3 ∷ 0 ∷ 4 ∷ []) $
    enter ! _ _ _ _ _ $ alloc_all ! (λ l. pass_all ! refl ((tt, tt), ((tt, record { fits = are.1.0.1 }), (((copied_laws 0 T LT).lawful 𝓛).typed x _ are.1.1.0))) $
    fsplit3 ! $ move ! (1 ∷ 2 ∷ 3 ∷ []) $ opens ! tt R b o (λ us.
    move ! (1 ∷ []) $ peeks ! R _ (shows 𝓛 R) h us (λ told. fsplit ! $ move ! (1 ∷ []) $
    use1 𝓛 (‵ (fsep (lies_at (Array (copied 0 T) (length h.items)) full_share h.at h.items) (rest holds (copied 0 T) h.at h.room (length h.items)))) (opened_at 𝓛 holds (copied 0 T) h.at h.room h.items i within) $ fsplit ! $
    in_a_block ! h.at (λ p. lies_at (Array (copied 0 T) (length h.items)) full_share p h.items) (id⊢ 𝓤 _) (λ b' o' e.
    use1 𝓛 (‵ ((arr_parts (shares (copied 0 T)) (length h.items)).part full_share h.items b' o')) (Array-apart 𝓛 (copied 0 T) full_share tt (length h.items) h.items b' o') $ fsplit ! $ drop ! $
    move ! (1 ∷ []) $ fsplit ! $ fsplit ! $ flt_l ! (λ few. flt_l ! (λ small.
    move ! (1 ∷ []) $ elem_out ! (copied 0 T) (Is (copied 0 T)) (shows 𝓛 (copied 0 T)) (λ z. C.val z ∷ []) C.tells full_share h.items i x b' o' within (λ was.
    let 𝓣 = tables 𝓤 𝓛.H 𝓜 𝓡 𝓡.env in let ys = set h.items i x in
    let as_long : length ys ≡ length h.items = length-set h.items i x in
    let word = (lowers (copied 0 T) (param 1 A) ga (copied_laws 0 T LT) (param_laws 1 A LA)).val_is h us told ∙ ap (λ (p : Ptr). (lowers (copied 0 T) (param 1 A) ga (copied_laws 0 T LT) (param_laws 1 A LA)).lowered (record h { at = p }) ∷ []) e in
    let Cell = λ (ws : List Val). ‵ (cell_at full_share R.mir ws b o) in
    rewrite ! 5 Cell word refl $
    -- [the element; what it owns; the others; the room; the fields; the struct's cell; the open borrow]
    first ! $ blocks ! $
    sets ! (of_opd ! (load ! (through ! refl (fld ! refl (stop !))) (look_in ! 5 (sub ! 0 refl (whole !))))) refl (tt, tt) $
    sets ! (bin ! (get ! refl) (size_lit ! (record { fits = one_below i _ _ _ within few small })) (record { fits = bytes_below i _ _ _ within few small })) refl (tt, record { fits = bytes_below i _ _ _ within few small }) $
    sets ! (is ! (bin ! (get ! refl) (get ! refl) tt) (ap (λ m. vptr b' m) (sym (place_is _ o' i)))) refl (tt, tt) $
    assigns_last ! (of_opd ! (get ! refl)) (through ! refl (stop !)) (store_raw ! 0 refl (((copied_laws 0 T LT).lawful 𝓛).typed x _ are.1.1.0).0) $
    exec ! 𝓣.C 𝓣.Λ (env (inst_fn args code.function).locals l) (after 1 (inst_fn args code.function).body) (at_ret _ (W.post y)) $
    sets ! (of_opd ! (unit_lit !)) refl (tt, tt) $
    move ! (0 ∷ 10 ∷ 2 ∷ []) $ elem_put ! (copied 0 T) full_share h.items i x (C.val x ∷ []) b' o' within $
    feq_i ! ℕ (length ys) _ refl $ fjoin ! $ use1 𝓛 (‵ (lies_at (Array (copied 0 T) (length ys)) full_share (block_ptr b' o') ys)) (Array-whole 𝓛 (copied 0 T) full_share (length ys) ys b' o') $
    rewrite ! 0 (λ (p : Ptr). ‵ (lies_at (Array (copied 0 T) (length ys)) full_share p ys)) (sym e) refl $
    move ! (2 ∷ []) $ flt_i ! (h.room * size (lone T.mir)) (2 ^ 63) small $ flt_i ! (length h.items) (h.room + 1) few $ fjoin ! $ fjoin ! $
    rewrite ! 0 (λ (k : ℕ). ‵ (rest holds (copied 0 T) h.at h.room k)) (sym as_long) refl $ move ! (1 ∷ 0 ∷ []) $ fjoin ! $
    use1 𝓛 (‵ (owned holds (copied 0 T) h.at h.room ys)) (closed 𝓛 holds (copied 0 T) h.at h.room ys (omega arith)) $
    move ! (1 ∷ []) $ drop ! $ move ! (1 ∷ 0 ∷ []) $ fjoin ! $ rewrite ! 1 Cell (sym word) refl $ move ! (1 ∷ []) $ closes ! tt R (record h { items = ys }) us b o $
    returns ! (look_at ! 0 refl) $ free_all ! refl $
    -- [three parts of self; the token; the other tokens]
    move ! (3 ∷ []) $
    suffices ! _ (ends_at 𝓛 E stayed c y vunit tt (record h { items = ys }, (tt, (tt, tt))) (tt, (tt, (tt, tt)))) $
    says_both ! refl (refl, refl) $
    group ! 3 $ nothing ! $ nothing ! $ join ! $ nothing ! $ join ! $ move ! (1 ∷ 0 ∷ []) $ join ! $ move ! (1 ∷ 2 ∷ []) $ join ! $ frame ! $ frame ! $
    feq_i ! _ (vunit ∷ []) _ refl $ done !)))))))))
