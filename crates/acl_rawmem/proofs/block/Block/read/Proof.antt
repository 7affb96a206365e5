use Rattle.acl_rawmem.proofs.Steps.{feq, look, look_raw, sets_last, looks_slice, shuts_slice, elem_back, says, use1, feq_l, ptr_val, RawPtr, looks, shuts, ◌<◌, [], ◌∷◌, length, refl, w64, proved, tables, ‵, ◌⊛◌, raw, fact, ftrue, flft, named, qed, ◌∵◌, ◌$◌, !, split, drop, move, keep, heard, enter, alloc_all, pass_all, Val, uint_vals, uint_Tells, usize, yes, plain, a_type, dcons, dnil, bounded, param, copied, IsCopy, copied_copy, copied_laws, elem_out, Is, ap, List, cell_at, rewrite, first, blocks, sets, of_opd, load, through, fld, stop, bin, get, size_lit, is, place_is, vptr, sym, exec, env, at_ret, nothing, join, frame, done, ◌+◌, returns, look_at, free_all, suffices, ends_at, feq_i, ℕ, use1, fsep, in_a_block, shows, flt_l, id⊢, Ptr, fsplit, Stays, walk_of, stay_dropped, Goes-dropped}
use lib.ListN.{get_or}
use mir.Syntax.{ty_ptr}
use denote.RawPtr.{in_block, block_of, count_of}
use denote.Slice.{elements_shared}
use Rattle.acl_rawmem.specs.Owned.{lent, fits}
use Rattle.std.proofs.VecSteps.Shapes.{after}
use mir.MapTy.{inst_fn}
use Rattle.acl_rawmem.proofs.Elements.{lent_out, some_of, same_at, bytes_below, one_below}
use contract.BorrowLft.{◌⊑◌}
use Rattle.acl_rawmem.specs.contracts.block.Block.read as f
use Rattle.acl_rawmem.proofs.block.Block.read.Statement.{statement}
use Rattle.acl_rawmem.proofs.block.Block.read.Code as code
use denote.Builtin.{RefOf}
use denote.Memory.{hidden_shr}
use base.Fml.{fhide}
use denote.Struct.Struct.{Struct}
use denote.Struct.Owning as Owning
use denote.Struct.Lending as lending
use denote.Struct.Laws.{RawPtr-copy}
use denote.Opens.{hide, unhide}
use Rattle.std.specs.contracts.marker.PhantomData.{the_row as phantom_row}
use denote.Ref.{shr_vals, shr_Tells}
use Rattle.acl_rawmem.specs.contracts.block.Block.{the_row, the_type, struct, the_codes, the_heap, the_lent}

pub read_spec : {M : Type 1} → statement M
read_spec {M} 𝓤 𝓛 𝓜 𝓡 w T A LT LA CT gc dc ga da dd mc ma md =
    let E = f.ended T A gc dc ga da dd in
    let c = f.clauses T A gc dc ga da dd 𝓛 𝓜.mem 𝓡.returns in
    let R₀ = copied 0 T in let A₀ = param 1 A in let R = the_row R₀ A₀ ga in
    let C : IsCopy R₀ = copied_copy 0 T CT in
    let stayed : Stays E.signature.params E.kept = (stay_dropped _ yes, (stay_dropped _ yes, tt)) in
    let W = walk_of 𝓛 E stayed c in
    let args = bounded (a_type ∷ a_type ∷ []) (T, (A, tt)) (dcons dc (dcons da (dcons dd dnil))) in
    proved 𝓛 E stayed c 𝓜 𝓡 (Goes-dropped 𝓛 3 (RefOf (0 ∷ []) tt (plain (λ _. R)) (λ _. tt)) yes (λ κs x w. refl), (Goes-dropped 𝓛 3 (plain (λ _. usize)) yes (λ κs x w. refl), tt))
    (f.Key.name args) (inst_fn args code.function) (code.unfolded 𝓤 𝓛.H 𝓜 𝓡 w (T, (A, tt)) dc da dd)
    (λ κs. (shr_vals, (uint_vals w64, tt))) (λ κs. (shr_Tells (named 0) κs.0 R, (uint_Tells w64, tt))) (λ κs qs bounds a _ are.
    let vs = shr_vals a.0 in let i = a.1.0 in
    let y : W.Ghost = ((κs, qs, bounds, a, (vs, (uint_vals w64 i, tt))), tt) in
    let h = a.0.now in let b = a.0.ref_ptr.0 in let o = a.0.ref_ptr.1 in
    qed 𝓛 (((‵ (flft κs.0 qs.0) ⊛ ‵ (flft κs.1.0 qs.1.0) ⊛ ‵ (flft κs.1.1.0 qs.1.1.0) ⊛ ‵ ftrue) ⊛ (‵ (feq (List Val) vs vs) ⊛ ‵ (hidden_shr R κs.0 h b o)) ⊛ ‵ (usize.own_val i (uint_vals w64 i)) ⊛ ‵ ftrue) ∷ (raw (fact 𝓤 (κs.1.0 ⊑ T.lives)) ⊛ raw (fact 𝓤 (κs.1.1.0 ⊑ A.lives)) ⊛ raw (fact 𝓤 (i < length h.items))) ∷ []) ∵
    split ! $ split ! $ move ! (2 ∷ []) $ split ! $ split ! $ drop ! $ move ! (4 ∷ []) $ split ! $ drop ! $ split ! $ drop ! $ heard ! _ (λ within.
    keep ! (0 ∷ 2 ∷ 3 ∷ []) $
    enter ! _ _ _ _ _ $ alloc_all ! (λ l. pass_all ! refl ((tt, tt), ((tt, record { fits = are.1.0.1 }), tt)) $
    use1 𝓛 (‵ (hidden_shr (Struct (Owning.shape (the_type R₀ A₀ ga))) κs.0 (Owning.to (the_type R₀ A₀ ga) h) b o) ⊛ ‵ (fhide (lent R₀ h.at h.room h.items κs.0)))
    (lending.lent_out 𝓛 (struct R₀ A₀ ga) (the_codes T.Denot A.Denot T.coded A.coded (phantom_row A₀).coded) (the_heap R₀ A₀ ga) (the_lent R₀ A₀ ga) κs.0 h b o) $ split ! $
    unhide ! $ fsplit ! $ fsplit ! $ hide ! $ move ! (0 ∷ 4 ∷ []) $ looks ! tt RawPtr ((RawPtr-copy.copied M 𝓤 𝓛).opens) h.at b (o + 0) (λ q' us.
    -- [the pointer's cell; what it owns; its way back; the pointer again; the other field; what is left of the place; the elements]
    move ! (1 ∷ []) $ feq_l ! (λ is_at. rewrite ! 0 (λ (ws : List Val). ‵ (cell_at q' (ty_ptr ∷ []) ws b (o + 0))) is_at refl $
    move ! (5 ∷ []) $ use1 𝓛 (‵ (fsep (fsep (in_block h.at ftrue) (fsep (feq ℕ (length h.items) (length h.items)) (elements_shared R₀ h.items (block_of h.at) (count_of h.at) κs.0))) (fits R₀ (length h.items) h.room)))
    (lent_out 𝓛 R₀ h.at h.room h.items κs.0 i within) $ fsplit ! $ fsplit ! $
    in_a_block ! h.at (λ p. in_block p ftrue) (id⊢ 𝓤 _) (λ b' o' e. drop ! $ fsplit ! $ drop ! $
    rewrite ! 0 (λ (p : Ptr). ‵ (elements_shared R₀ h.items (block_of p) (count_of p) κs.0)) e refl $ hide ! $
    move ! (1 ∷ []) $ fsplit ! $ flt_l ! (λ few. flt_l ! (λ small.
    let 𝓣 = tables 𝓤 𝓛.H 𝓜 𝓡 𝓡.env in let d = some_of h.items i within in let r = get_or h.items i d in
    let At = λ (p : Ptr). ‵ (cell_at q' (ty_ptr ∷ []) (ptr_val p ∷ []) b (o + 0)) in
    rewrite ! 1 At e refl $ first ! $ blocks ! $
    sets ! (of_opd ! (load ! (through ! refl (fld ! refl (stop !))) (look ! 1 refl))) refl (tt, tt) $
    sets ! (bin ! (get ! refl) (size_lit ! (record { fits = one_below i _ _ _ within few small })) (record { fits = bytes_below i _ _ _ within few small })) refl (tt, record { fits = bytes_below i _ _ _ within few small }) $
    sets ! (is ! (bin ! (get ! refl) (get ! refl) tt) (ap (λ m. vptr b' m) (sym (place_is _ o' i)))) refl (tt, tt) $
    rewrite ! 1 At (sym e) refl $ feq_i ! (List Val) (ptr_val h.at ∷ []) _ refl $ move ! (2 ∷ 0 ∷ 3 ∷ []) $ shuts ! tt RawPtr q' h.at (ptr_val h.at ∷ []) b (o + 0) $
    move ! (1 ∷ 0 ∷ []) $ looks_slice ! tt R₀ (C.copied M 𝓤 𝓛) h.items b' o' (λ s.
    elem_out ! R₀ (Is R₀) (shows 𝓛 R₀) (λ z. C.val z ∷ []) C.tells s h.items i d b' o' within (λ was.
    -- [the element; what it owns; the others; the way back; the elements again; the pointer; the other field; what is left; the other tokens]
    let ok = (((copied_laws 0 T LT).lawful 𝓛).typed r _ was).0 in
    sets_last ! (of_opd ! (load ! (through ! refl (stop !)) (look_raw ! 0 refl))) refl ok $
    exec ! 𝓣.C 𝓣.Λ (env (inst_fn args code.function).locals l) (after 1 (inst_fn args code.function).body) (at_ret _ (W.post y)) $
    sets ! (of_opd ! (get ! refl)) refl ok $
    move ! (1 ∷ []) $ use1 𝓛 (‵ (R₀.own_val r (C.val r ∷ [])) ⊛ ‵ (R₀.own_val r (C.val r ∷ []))) ((C.copies M 𝓤 𝓛).twice r (C.val r ∷ [])) $ split ! $
    move ! (2 ∷ 0 ∷ 3 ∷ []) $ elem_back ! R₀ s h.items i d (C.val r ∷ []) b' o' within $ move ! (0 ∷ 2 ∷ []) $ shuts_slice ! tt R₀ s h.items b' o' $
    returns ! (look_at ! 0 refl) $ free_all ! refl $ keep ! (0 ∷ 6 ∷ 1 ∷ []) $ join ! $
    suffices ! _ (ends_at 𝓛 E stayed c y (C.val r) r (tt, (tt, tt)) (tt, (tt, tt))) $ says ! (λ d'. same_at h.items i d d' within) $
    frame ! $ nothing ! $ nothing ! $ join ! $ nothing ! $ join ! $ frame ! $ done !))))))))))
