use Rattle.acl_rawmem.proofs.Steps.{◌≡◌, ℕ, ◌-◌, ◌*◌, ◌^◌, ◌<◌, List, [], ◌∷◌, length, refl, sym, ap, subst, ◌∙◌, arith, proved, full_share, emp, id⊢, Fml, ftrue, flft, feq, froom, fsep, Ty, w64, named, a_type, dcons, dnil, Val, vunit, size, fact, tables, ‵, raw, ◌⊛◌, later, at_ret, ◌$◌, ◌∵◌, !, qed, done, move, keep, drop, use0, use1, split, join, fsplit, fjoin, feq_i, feq_l, flt_l, pick, await, rewrite, suffices, frame, group, align_word, enter, of_opd, lit, unit_lit, size_lit, bin, stop, fld, no_more, and_then, first, blocks, branches, skips, exec, returns, get_in, lands_last, alloc_all, pass_all, free_all, look_at, get, sets, env, whole, sub, usize, unit, yes, no, lone, Array, uint_Makes, uint_vals, uint_Tells, Ptr, RawPtr, lies_at, in_a_block, rawptr_vals, rawptr_Lawful, bounded, param, copied, IsCopy, param_laws, copied_laws, copied_copy, plain, nothing, owned, heard, only, calls_at_last, triple_of, Stays, walk_of, stay_dropped, Goes-dropped, ends_at, framed}
use mir.Syntax.{ty_array, ty_unit}
use Rattle.acl_rawmem.specs.Owned.{room_after}
use Rattle.std.specs.Allocator.{array_of, HasLayout}
use lib.Dec.{T as Passes, ltb→lt}
use mir.Val.{has_ty, WT}
use prog.Memory.{align, capped}
use prog.Capped.{capped_fits, capped_is}
use prog.RawLaws.{size-raw, align-raw}
use contract.Monad.{fact_i}
use types.Kit.{some as some_i}
use contract.Lifetimes.{Lfts}
use denote.Triple.Entry.{Args}
use denote.RawPtr.{room_for, rawptr_Makes}
use Rattle.std.proofs.VecSteps.Shapes.{after}
use mir.MapTy.{inst_fn}
use Rattle.acl_rawmem.proofs.block.Block.TheLaws.{lowers}
use Rattle.std.specs.contracts.alloc.Allocator.deallocate as g
use Rattle.acl_rawmem.proofs.block.Block.TheLaws.{the_row_laws}
use Rattle.acl_rawmem.proofs.Elements.{rest, opened, emptied, one_below}
use contract.BorrowLft.{◌⊑◌}
use Rattle.acl_rawmem.specs.contracts.block.Block.give_back as f
use Rattle.acl_rawmem.proofs.block.Block.give_back.Statement.{statement}
use Rattle.acl_rawmem.proofs.block.Block.give_back.Code as code
use denote.Builtin.{RefOf}
use denote.Memory.{hidden_shr}
use denote.Ref.{shr_vals, shr_Tells}
use Rattle.acl_rawmem.specs.contracts.block.Block.{the_row}

pub give_back_spec : {M : Type 1} → statement M
give_back_spec {M} 𝓤 𝓛 𝓜 𝓡 w T A LT LA CT gc dc ga da dd mc ma md =
    let E = f.ended T A gc dc ga da dd in
    let c = f.clauses T A gc dc ga da dd 𝓛 𝓜.mem 𝓡.returns in
    let R₀ = copied 0 T in let A₀ = param 1 A in let R = the_row R₀ A₀ ga in
    let lw = lowers R₀ A₀ ga (copied_laws 0 T LT) (param_laws 1 A LA) in
    let stayed : Stays E.signature.params E.kept = (stay_dropped _ no, (stay_dropped _ yes, (stay_dropped _ yes, tt))) in
    let W = walk_of 𝓛 E stayed c in
    let args = bounded (a_type ∷ a_type ∷ []) (T, (A, tt)) (dcons dc (dcons da (dcons dd dnil))) in
    let G = triple_of 𝓛 (g.signature A) (g.spec A ga da dd 𝓛 𝓜.mem 𝓡.returns) in
    proved 𝓛 E stayed c 𝓜 𝓡 (Goes-dropped 𝓛 3 (plain (λ _. R)) no (λ κs x w. refl), (Goes-dropped 𝓛 3 (RefOf (0 ∷ []) tt (plain (λ _. A₀)) (λ _. tt)) yes (λ κs x w. refl), (Goes-dropped 𝓛 3 (plain (λ _. usize)) yes (λ κs x w. refl), tt)))
    (f.Key.name args) (inst_fn args code.function) (code.unfolded 𝓤 𝓛.H 𝓜 𝓡 w (T, (A, tt)) dc da dd)
    (λ κs. ((λ d. lw.lowered d ∷ []), (shr_vals, (uint_vals w64, tt)))) (λ κs. (lw.val_is, (shr_Tells (named 0) κs.0 A₀, (uint_Tells w64, tt)))) (λ κs qs bounds a _ are.
    let h = a.0 in let r = a.1.0 in let n = a.1.1.0 in let s = size (lone T.mir) in let holds : Ty → Ptr → Fml = ga.dealloc_token h.heap in
    let y : W.Ghost = ((κs, qs, bounds, a, (lw.lowered h ∷ [], (shr_vals r, (uint_vals w64 n, tt)))), tt) in
    let 𝓣 = tables 𝓤 𝓛.H 𝓜 𝓡 𝓡.env in
    qed 𝓛 (((‵ (flft κs.0 qs.0) ⊛ ‵ (flft κs.1.0 qs.1.0) ⊛ ‵ (flft κs.1.1.0 qs.1.1.0) ⊛ ‵ ftrue) ⊛ ‵ (R.own_val h (lw.lowered h ∷ [])) ⊛ (‵ (feq (List Val) (shr_vals r) (shr_vals r)) ⊛ ‵ (hidden_shr A₀ κs.0 r.now r.ref_ptr.0 r.ref_ptr.1)) ⊛ ‵ (usize.own_val n (uint_vals w64 n)) ⊛ ‵ ftrue) ∷ (raw (fact 𝓤 (κs.1.0 ⊑ T.lives)) ⊛ raw (fact 𝓤 (κs.1.1.0 ⊑ A.lives)) ⊛ raw (fact 𝓤 ((n ≡ h.room) × (r.now ≡ h.heap)))) ∷ []) ∵
    split ! $ split ! $ move ! (2 ∷ []) $ split ! $ move ! (1 ∷ []) $ split ! $ move ! (5 ∷ []) $ split ! $ drop ! $ split ! $ heard ! _ (λ lives. heard ! _ (λ same.
    keep ! (0 ∷ 2 ∷ 3 ∷ 4 ∷ []) $
    -- [the handle; self; the token; the other tokens]
    let typed_at = ((rawptr_Lawful 𝓛).typed h.at _ refl).0 in let C : IsCopy R₀ = copied_copy 0 T CT in
    enter ! _ _ _ _ _ $ alloc_all ! (λ l. pass_all ! refl ((((the_row_laws R₀ A₀ ga (copied_laws 0 T LT) (param_laws 1 A LA)).lawful 𝓛).typed h _ are.0).0, ((tt, tt), ((tt, record { fits = are.1.1.0.1 }), tt))) $
    sets ! (of_opd ! (get_in ! (fld ! refl (stop !)) (sub ! 0 refl (whole !)))) refl typed_at $
    sets ! (bin ! (lit ! tt) (get ! refl) tt) refl (tt, tt) $
    first ! $ branches ! (get ! refl)
    (λ holds_some.
    let some : 0 < h.room = omega (arith, ltb→lt 0 n holds_some, same.0) in let τ = array_of R₀ h.room in
    move ! (1 ∷ []) $ fsplit ! $ drop ! $
    use1 𝓛 (‵ (fsep (lies_at (Array R₀ (length h.items)) full_share h.at h.items) (rest holds R₀ h.at h.room (length h.items)))) (opened 𝓛 holds R₀ h.at h.room h.items some) $ fsplit ! $
    in_a_block ! h.at (λ p. lies_at (Array R₀ (length h.items)) full_share p h.items) (id⊢ 𝓤 _) (λ b o e.
    move ! (1 ∷ []) $ fsplit ! $ fsplit ! $ flt_l ! (λ few. flt_l ! (λ small. fsplit ! $
    rewrite ! 0 (λ (p : Ptr). ‵ (room_after R₀ (length h.items) (h.room - length h.items) p)) e refl $
    move ! (2 ∷ 0 ∷ []) $ fjoin ! $ use1 𝓛 (‵ (froom τ b o)) (emptied 𝓛 R₀ h.room h.items b o few) $
    rewrite ! 0 (λ (p : Ptr). ‵ (room_for τ p)) (sym e) refl $ fjoin ! $
    -- [the block; the handle; the token; the other tokens]
    let bytes = n * s in let al = capped (align (lone T.mir)) in
    let less : bytes < 2 ^ 64 = subst (λ (k : ℕ). k * s < 2 ^ 64) (sym same.0) (omega (arith, small)) in
    blocks ! $
    sets ! (of_opd ! (get ! refl)) refl typed_at $
    sets ! (bin ! (get ! refl) (size_lit ! (record { fits = one_below 0 1 h.room s (omega arith) (omega arith) small })) (record { fits = less })) refl (tt, record { fits = less }) $
    let layout_is : HasLayout τ bytes al = (ap capped (size-raw (ty_array (lone T.mir) h.room)) ∙ capped_is (h.room * s) (omega (arith, small)) ∙ ap (λ (k : ℕ). k * s) (sym same.0), ap capped (align-raw (ty_array (lone T.mir) h.room))) in
    let κs' : Lfts 2 = (κs.0, (κs.1.1.0, tt)) in let args' : Args (g.signature A) κs' = (r, (h.at, (bytes, (al, tt)))) in
    let z : G.Ghost = ((κs', (qs.0, (qs.1.1.0, tt)), bounds, args', (shr_vals r, (rawptr_vals h.at, (uint_vals w64 bytes, (uint_vals w64 al, tt))))), τ) in
    rewrite ! 0 (λ (d : A.Denot). ‵ (fsep (room_for τ h.at) (ga.dealloc_token d τ h.at))) (sym same.1) refl $
    use0 𝓛 (raw (fact 𝓤 (HasLayout τ bytes al))) (fact_i 𝓤 (HasLayout τ bytes al) (emp 𝓤) layout_is) $ join ! $ use0 𝓛 (raw (fact 𝓤 (κs.1.1.0 ⊑ A.lives))) (fact_i 𝓤 (κs.1.1.0 ⊑ A.lives) (emp 𝓤) lives) $ join ! $
    nothing ! $ owned ! usize _ (uint_Makes 𝓛 w64) al _ (refl, capped_fits (align (lone T.mir))) $ join ! $ owned ! usize _ (uint_Makes 𝓛 w64) bytes _ (refl, less) $ join ! $
    owned ! RawPtr _ (rawptr_Makes 𝓛) h.at _ refl $ join ! $ move ! (2 ∷ 0 ∷ []) $ join ! $
    move ! (3 ∷ []) $ split ! $ move ! (4 ∷ 1 ∷ []) $ join ! $ move ! (0 ∷ 2 ∷ 3 ∷ []) $ join ! $ join ! $ use1 𝓛 (raw (G.pre z)) (id⊢ 𝓤 _) $
    calls_at_last ! (framed 𝓤 𝓛.H 𝓜 𝓣) G (ma.deallocate dd) z (and_then ! (get ! refl) (and_then ! (get ! refl) (and_then ! (get ! refl) (and_then ! (align_word !) (no_more !))))) (λ v.
    use1 𝓛 (later (some_i (λ (u : Unit {0}). ((‵ (flft κs.0 qs.0) ⊛ ‵ (flft κs.1.1.0 qs.1.1.0) ⊛ ‵ ftrue) ⊛ ‵ (unit.own_val u (v ∷ []))) ⊛ raw ((g.spec A ga da dd 𝓛 𝓜.mem 𝓡.returns κs' args').ensures τ u)))) (id⊢ 𝓤 _) $
    await ! tt $ pick ! (λ u. split ! $ split ! $ move ! (2 ∷ []) $ drop ! $ move ! (1 ∷ []) $ feq_l ! (λ is_unit.
    -- [the tokens of the call; the one of T]
    lands_last ! refl (subst (λ (u : Val). Passes (has_ty ty_unit u) × WT u) (sym (ap only is_unit)) (tt, tt)) $ exec ! 𝓣.C 𝓣.Λ (env (inst_fn args code.function).locals l) (after 3 (inst_fn args code.function).body) (at_ret _ (W.post y)) $
    sets ! (of_opd ! (unit_lit !)) refl (tt, tt) $ returns ! (look_at ! 0 refl) $ free_all ! refl $
    suffices ! _ (ends_at 𝓛 E stayed c y vunit tt (tt, (tt, (tt, tt))) (tt, (tt, (tt, tt)))) $
    split ! $ move ! (2 ∷ 1 ∷ []) $ join ! $ move ! (1 ∷ 0 ∷ []) $ join ! $ feq_i ! _ (vunit ∷ []) _ refl $ nothing ! $ nothing ! $ join ! $ nothing ! $ join ! $ nothing ! $ join ! $ move ! (2 ∷ 0 ∷ 1 ∷ []) $ group ! 3 $ frame ! $ done !)))))))
    (λ holds_none. skips ! $ exec ! 𝓣.C 𝓣.Λ (env (inst_fn args code.function).locals l) (after 3 (inst_fn args code.function).body) (at_ret _ (W.post y)) $
    sets ! (of_opd ! (unit_lit !)) refl (tt, tt) $ returns ! (look_at ! 0 refl) $ free_all ! refl $
    suffices ! _ (ends_at 𝓛 E stayed c y vunit tt (tt, (tt, (tt, tt))) (tt, (tt, (tt, tt)))) $
    drop ! $ drop ! $ join ! $ feq_i ! _ (vunit ∷ []) _ refl $ nothing ! $ nothing ! $ join ! $ nothing ! $ join ! $ nothing ! $ join ! $ move ! (2 ∷ 0 ∷ 1 ∷ []) $ group ! 3 $ frame ! $ done !)))))
