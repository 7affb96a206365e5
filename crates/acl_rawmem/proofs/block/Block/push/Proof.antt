use Rattle.acl_rawmem.proofs.Steps.{◌<◌, [], ◌∷◌, length, refl, w64, proved, tables, ‵, ◌⊛◌, raw, fact, ftrue, flft, named, qed, ◌∵◌, ◌$◌, !, split, drop, move, keep, heard, enter, alloc_all, pass_all, Val, MutRef, mut_vals, mut_Tells, uint_vals, uint_Tells, usize, yes, no, plain, a_type, dcons, dnil, bounded, param, copied, IsCopy, copied_copy, copied_laws, ap, ◌∙◌, List, cell_at, rewrite, first, blocks, sets, of_opd, load, through, fld, stop, look_in, sub, whole, bin, get, size_lit, place_is, sym, assigns_last, exec, env, at_ret, unit_lit, init, froom, use2, place, part_at, row, suc, ◌-◌, ◌++◌, group, nothing, join, frame, done, flt_i, ◌*◌, ◌^◌, ◌+◌, ◌≡◌, arith, size, lone, returns, look_at, free_all, suffices, ends_at, vunit, feq_i, ℕ, block_ptr, param_laws, use1, fsep, lies_at, Array, full_share, in_a_block, shares, shows, flt_l, id⊢, Ty, Ptr, Fml, fsplit, fsplit3, fjoin, opens, closes, peeks, Stays, walk_of, stay_ref, stay_dropped, Goes-ref, Goes-dropped}
use mir.Syntax.{ty_array}
use denote.Copied.{told_in}
use Rattle.acl_rawmem.specs.Owned.{owned, room_after}
use lib.ListN.{length-append}
use Rattle.std.proofs.VecSteps.Shapes.{after}
use mir.MapTy.{inst_fn}
use types.Share.{arr_parts}
use denote.ArrayMemory.{Array-apart, Array-whole}
use Rattle.acl_rawmem.proofs.block.Block.TheLaws.{lowers}
use Rattle.acl_rawmem.proofs.Elements.{says_both, rest, opened, longer, behind, closed, bytes_below, one_below}
use contract.BorrowLft.{◌⊑◌}
use Rattle.acl_rawmem.specs.contracts.block.Block.push as f
use Rattle.acl_rawmem.proofs.block.Block.push.Statement.{statement}
use Rattle.acl_rawmem.proofs.block.Block.push.Code as code
use Rattle.acl_rawmem.specs.contracts.block.Block.{the_row}

pub push_spec : {M : Type 1} → statement M
push_spec 𝓤 𝓛 𝓜 𝓡 w T A LT LA CT gc dc ga da dd mc ma md =
    let E = f.ended T A gc dc ga da dd in
    let c = f.clauses T A gc dc ga da dd 𝓛 𝓜.mem 𝓡.returns in
    let R = the_row (copied 0 T) (param 1 A) ga in
    let C : IsCopy (copied 0 T) = copied_copy 0 T CT in
    let stayed : Stays E.signature.params E.kept = (stay_ref (0 ∷ []) tt (plain (λ _. R)), (stay_dropped _ yes, (stay_dropped _ no, tt))) in
    let W = walk_of 𝓛 E stayed c in
    let args = bounded (a_type ∷ a_type ∷ []) (T, (A, tt)) (dcons dc (dcons da (dcons dd dnil))) in
    proved 𝓛 E stayed c 𝓜 𝓡 (Goes-ref 𝓛 3 0 tt (plain (λ _. R)), (Goes-dropped 𝓛 3 (plain (λ _. usize)) yes (λ κs x w. refl), (Goes-dropped 𝓛 3 (plain (λ _. copied 0 T)) no (λ κs x w. refl), tt)))
    (f.Key.name args) (inst_fn args code.function) (code.unfolded 𝓤 𝓛.H 𝓜 𝓡 w (T, (A, tt)) dc da dd)
    (λ κs. (mut_vals, (uint_vals w64, ((λ x. C.val x ∷ []), tt)))) (λ κs. (mut_Tells (named 0) κs.0 R, (uint_Tells w64, (C.tells, tt)))) (λ κs qs bounds a _ are.
    let vs = mut_vals a.0 in let i = a.1.0 in let x = a.1.1.0 in
    let y : W.Ghost = ((κs, qs, bounds, a, (vs, (uint_vals w64 i, (C.val x ∷ [], tt)))), tt) in
    let h = a.0.now in let b = a.0.ref_ptr.0 in let o = a.0.ref_ptr.1 in
    let holds : Ty → Ptr → Fml = ga.dealloc_token h.heap in
    let R₀ = copied 0 T in
    qed 𝓛 (((‵ (flft κs.0 qs.0) ⊛ ‵ (flft κs.1.0 qs.1.0) ⊛ ‵ (flft κs.1.1.0 qs.1.1.0) ⊛ ‵ ftrue) ⊛ ‵ ((MutRef (named 0) κs.0 R).own_val a.0 vs) ⊛ ‵ (usize.own_val i (uint_vals w64 i)) ⊛ ‵ (R₀.own_val x (C.val x ∷ [])) ⊛ ‵ ftrue) ∷ (raw (fact 𝓤 (κs.1.0 ⊑ T.lives)) ⊛ raw (fact 𝓤 (κs.1.1.0 ⊑ A.lives)) ⊛ raw (fact 𝓤 ((i ≡ length h.items) × (i < h.room)))) ∷ []) ∵
    split ! $ split ! $ move ! (2 ∷ []) $ split ! $ move ! (1 ∷ []) $ split ! $ drop ! $ split ! $ move ! (5 ∷ []) $ split ! $ drop ! $ split ! $ drop ! $ heard ! _ (λ free.
    keep ! (2 ∷ 3 ∷ 0 ∷ 4 ∷ []) $
    enter ! _ _ _ _ _ $ alloc_all ! (λ l. pass_all ! refl ((tt, tt), ((tt, record { fits = are.1.0.1 }), (((copied_laws 0 T LT).lawful 𝓛).typed x _ are.1.1.0))) $
    fsplit3 ! $ move ! (1 ∷ 2 ∷ 3 ∷ []) $ opens ! tt R b o (λ us.
    move ! (1 ∷ []) $ peeks ! R _ (shows 𝓛 R) h us (λ told. fsplit ! $ move ! (1 ∷ []) $
    use1 𝓛 (‵ (fsep (lies_at (Array R₀ (length h.items)) full_share h.at h.items) (rest holds R₀ h.at h.room (length h.items)))) (opened 𝓛 holds R₀ h.at h.room h.items (omega (arith, free.1))) $ fsplit ! $
    in_a_block ! h.at (λ p. lies_at (Array R₀ (length h.items)) full_share p h.items) (id⊢ 𝓤 _) (λ b' o' e.
    use1 𝓛 (‵ ((arr_parts (shares R₀) (length h.items)).part full_share h.items b' o')) (Array-apart 𝓛 R₀ full_share tt (length h.items) h.items b' o') $ fsplit ! $ drop ! $
    move ! (1 ∷ []) $ fsplit ! $ fsplit ! $ flt_l ! (λ few. flt_l ! (λ small. fsplit ! $
    let 𝓣 = tables 𝓤 𝓛.H 𝓜 𝓡 𝓡.env in let s = size (lone T.mir) in let ys = h.items ++ x ∷ [] in let left = h.room - suc i in
    let one_free : h.room - i ≡ suc left = omega (arith, free.1) in let as_long : length ys ≡ suc i = omega (arith, free.0, length-append h.items (x ∷ [])) in
    let word = (lowers R₀ (param 1 A) ga (copied_laws 0 T LT) (param_laws 1 A LA)).val_is h us told ∙ ap (λ (p : Ptr). (lowers R₀ (param 1 A) ga (copied_laws 0 T LT) (param_laws 1 A LA)).lowered (record h { at = p }) ∷ []) e in
    let Cell = λ (ws : List Val). ‵ (cell_at full_share R.mir ws b o) in let typed = (((copied_laws 0 T LT).lawful 𝓛).typed x _ are.1.1.0).0 in
    -- [the room; the right to free; the elements; the fields; the struct's cell; the open borrow]
    rewrite ! 0 (λ (k : ℕ). ‵ (room_after R₀ k (h.room - k) h.at)) (sym free.0) refl $ rewrite ! 0 (λ (p : Ptr). ‵ (room_after R₀ i (h.room - i) p)) e refl $
    rewrite ! 0 (λ (m : ℕ). ‵ (froom (ty_array (lone T.mir) m) b' (i * s + o'))) one_free refl $
    use1 𝓛 (‵ (froom (lone T.mir) b' (i * s + o')) ⊛ ‵ (froom (ty_array (lone T.mir) left) b' (i * s + o' + s))) (𝓛.laws.room_uncons (lone T.mir) left b' (i * s + o')) $ split ! $
    rewrite ! 5 Cell word refl $
    -- [the place; the room behind it; the right to free; the elements; the fields; the struct's cell; the open borrow]
    first ! $ blocks ! $
    sets ! (of_opd ! (load ! (through ! refl (fld ! refl (stop !))) (look_in ! 5 (sub ! 0 refl (whole !))))) refl (tt, tt) $
    sets ! (bin ! (get ! refl) (size_lit ! (record { fits = one_below 0 1 h.room s (omega arith) (omega (arith, free.1)) small })) (record { fits = bytes_below i (suc i) h.room s (omega arith) (omega (arith, free.1)) small })) refl (tt, record { fits = bytes_below i (suc i) h.room s (omega arith) (omega (arith, free.1)) small }) $
    sets ! (bin ! (get ! refl) (get ! refl) tt) refl (tt, tt) $
    assigns_last ! (of_opd ! (get ! refl)) (through ! refl (stop !)) (init ! 0 refl typed) $
    exec ! 𝓣.C 𝓣.Λ (env (inst_fn args code.function).locals l) (after 1 (inst_fn args code.function).body) (at_ret _ (W.post y)) $
    sets ! (of_opd ! (unit_lit !)) refl (tt, tt) $
    use1 𝓛 (‵ (cell_at full_share R₀.mir (C.val x ∷ []) b' (i * s + o'))) (𝓛.laws.at_raw full_share (lone T.mir) b' (i * s + o') (C.val x)) $
    move ! (0 ∷ 10 ∷ []) $ use2 𝓛 (‵ (part_at R₀ full_share x b' (i * s + o'))) (told_in 𝓛 R₀ (λ z. C.val z ∷ []) C.tells full_share x b' (i * s + o') (C.val x ∷ [])) $
    rewrite ! 0 (λ (m : ℕ). ‵ (part_at R₀ full_share x b' m)) (sym (place_is s o' i) ∙ ap (λ k. place s o' k) free.0) refl $
    move ! (3 ∷ 0 ∷ []) $ fjoin ! $ use1 𝓛 (‵ (row R₀ full_share ys b' o')) (longer 𝓛 R₀ h.items x b' o') $
    feq_i ! ℕ (length ys) _ refl $ fjoin ! $ use1 𝓛 (‵ (lies_at (Array R₀ (length ys)) full_share (block_ptr b' o') ys)) (Array-whole 𝓛 R₀ full_share (length ys) ys b' o') $
    rewrite ! 0 (λ (p : Ptr). ‵ (lies_at (Array R₀ (length ys)) full_share p ys)) (sym e) refl $
    -- [the elements; the room behind; the right to free; the fields; the struct's cell; the open borrow]
    move ! (1 ∷ []) $ rewrite ! 0 (λ (m : ℕ). ‵ (froom (ty_array (lone T.mir) left) b' m)) (behind i s o') refl $ rewrite ! 0 (λ (p : Ptr). ‵ (room_after R₀ (suc i) left p)) (sym e) refl $
    move ! (0 ∷ 2 ∷ []) $ fjoin ! $ flt_i ! (h.room * s) (2 ^ 63) small $ flt_i ! (suc i) (h.room + 1) (omega (arith, free.1)) $ fjoin ! $ fjoin ! $
    rewrite ! 0 (λ (k : ℕ). ‵ (rest holds R₀ h.at h.room k)) (sym as_long) refl $ move ! (1 ∷ 0 ∷ []) $ fjoin ! $
    use1 𝓛 (‵ (owned holds R₀ h.at h.room ys)) (closed 𝓛 holds R₀ h.at h.room ys (omega (arith, free.1))) $
    move ! (1 ∷ 0 ∷ []) $ fjoin ! $ rewrite ! 1 Cell (sym word) refl $ move ! (1 ∷ []) $ closes ! tt R (record h { items = ys }) us b o $
    returns ! (look_at ! 0 refl) $ free_all ! refl $
    -- [three parts of self; the token; the other tokens]
    move ! (3 ∷ []) $
    suffices ! _ (ends_at 𝓛 E stayed c y vunit tt (record h { items = ys }, (tt, (tt, tt))) (tt, (tt, (tt, tt)))) $
    says_both ! refl (refl, refl) $
    group ! 3 $ nothing ! $ nothing ! $ join ! $ nothing ! $ join ! $ move ! (1 ∷ 0 ∷ []) $ join ! $ move ! (1 ∷ 2 ∷ []) $ join ! $ frame ! $ frame ! $
    feq_i ! _ (vunit ∷ []) _ refl $ done !))))))))
