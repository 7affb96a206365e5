use Rattle.acl_rawmem.proofs.Steps.{◌≡◌, ℕ, ◌*◌, ◌^◌, ◌<◌, List, [], ◌∷◌, refl, sym, ap, ◌∙◌, lit<, arith, proved, emp, id⊢, Fml, ftrue, flft, feq, Ty, w64, named, a_type, dcons, dnil, Val, size, fact, tables, ‵, raw, ◌⊛◌, later, at_ret, ◌$◌, ◌∵◌, !, qed, done, move, keep, drop, use0, use1, split, join, fsplit, fjoin, feq_i, pick, await, rewrite, suffices, frame, align_word, enter, of_opd, lit, size_lit, bin, stop, fld, no_more, and_then, first, branches, skips, exec, returns, returns_within, get_tag, get_in, alloc_all, pass_all, free_all, look_at, get, sets, sets_last, lands_as, env, whole, usize, yes, lone, uint_Makes, uint_vals, uint_Tells, Ptr, RawPtr, block_ptr, in_a_block, ptr_val, bounded, param, copied, plain, nothing, heard, only, calls_at, triple_of, Stays, walk_of, stay_dropped, Goes-dropped, ends_at, framed}
use mir.Syntax.{ty_array}
use Rattle.std.specs.Allocator.{array_of, HasLayout}
use lib.Dec.{eqb→eq}
use types.Part.{agg}
use Rattle.std.specs.contracts.result.Result.{the_row as outcome}
use Rattle.std.specs.contracts.alloc.AllocError.{the_row as the_error}
use Rattle.acl_rawmem.specs.declared.block.Block.{Block}
use Rattle.std.specs.declared.result.Result.{Result}
use Rattle.std.specs.declared.result.Result.TheVariants.{Ok, Err}
use Rattle.std.specs.declared.alloc.AllocError.{AllocError}
use denote.RawPtr.{null_ptr}
use denote.Steps.{owned as owned_for}
use mir.Val.{vstruct, vcons, vnil}
use types.Match.{live, vrt, in_variant, by_variants}
use denote.Struct.Owning.{shape, to}
use denote.Triple.Clauses.{lasts}
use Rattle.acl_rawmem.specs.Owned.{owned}
use Rattle.std.specs.Allocator.{block_if_ok}
use Rattle.acl_rawmem.proofs.Outcomes.{ok_in, err_in, ok_out, err_out, error_in, by_outcome, begun, fields_in}
use prog.Memory.{align, capped}
use prog.Capped.{capped_fits, capped_is}
use prog.RawLaws.{size-raw, align-raw}
use contract.Monad.{fact_i}
use types.Kit.{some as some_i}
use contract.Lifetimes.{Lfts}
use denote.Triple.Entry.{Args}
use denote.RawPtr.{room_for}
use Rattle.std.proofs.VecSteps.Shapes.{after}
use mir.MapTy.{inst_fn}
use Rattle.std.specs.contracts.alloc.Allocator.allocate as g
use Rattle.acl_rawmem.proofs.Elements.{says_both, positive, one_below}
use contract.BorrowLft.{◌⊑◌}
use Rattle.acl_rawmem.specs.contracts.block.Block.allocate as f
use Rattle.acl_rawmem.proofs.block.Block.allocate.Statement.{statement}
use Rattle.acl_rawmem.proofs.block.Block.allocate.Code as code
use denote.Builtin.{RefOf}
use denote.Memory.{hidden_shr}
use denote.Struct.Struct.{Struct}
use denote.Ref.{shr_vals, shr_Tells}
use Rattle.acl_rawmem.specs.contracts.block.Block.{the_row, the_type}

pub allocate_spec : {M : Type 1} → statement M
allocate_spec {M} 𝓤 𝓛 𝓜 𝓡 w T A LT LA CT gc dc ga da dd mc ma md =
    let E = f.ended T A gc dc ga da dd in
    let c = f.clauses T A gc dc ga da dd 𝓛 𝓜.mem 𝓡.returns in
    let R₀ = copied 0 T in let A₀ = param 1 A in let R = the_row R₀ A₀ ga in
    let stayed : Stays E.signature.params E.kept = (stay_dropped _ yes, (stay_dropped _ yes, tt)) in
    let W = walk_of 𝓛 E stayed c in
    let args = bounded (a_type ∷ a_type ∷ []) (T, (A, tt)) (dcons dc (dcons da (dcons dd dnil))) in
    let G = triple_of 𝓛 (g.signature A) (g.spec A ga da dd 𝓛 𝓜.mem 𝓡.returns) in
    proved 𝓛 E stayed c 𝓜 𝓡 (Goes-dropped 𝓛 3 (RefOf (0 ∷ []) tt (plain (λ _. A₀)) (λ _. tt)) yes (λ κs x w. refl), (Goes-dropped 𝓛 3 (plain (λ _. usize)) yes (λ κs x w. refl), tt))
    (f.Key.name args) (inst_fn args code.function) (code.unfolded 𝓤 𝓛.H 𝓜 𝓡 w (T, (A, tt)) dc da dd)
    (λ κs. (shr_vals, (uint_vals w64, tt))) (λ κs. (shr_Tells (named 0) κs.0 A₀, (uint_Tells w64, tt))) (λ κs qs bounds a _ are.
    let r = a.0 in let n = a.1.0 in let s = size (lone T.mir) in let holds : Ty → Ptr → Fml = ga.dealloc_token r.now in
    let y : W.Ghost = ((κs, qs, bounds, a, (shr_vals r, (uint_vals w64 n, tt))), tt) in
    let 𝓣 = tables 𝓤 𝓛.H 𝓜 𝓡 𝓡.env in
    qed 𝓛 (((‵ (flft κs.0 qs.0) ⊛ ‵ (flft κs.1.0 qs.1.0) ⊛ ‵ (flft κs.1.1.0 qs.1.1.0) ⊛ ‵ ftrue) ⊛ (‵ (feq (List Val) (shr_vals r) (shr_vals r)) ⊛ ‵ (hidden_shr A₀ κs.0 r.now r.ref_ptr.0 r.ref_ptr.1)) ⊛ ‵ (usize.own_val n (uint_vals w64 n)) ⊛ ‵ ftrue) ∷ (raw (fact 𝓤 (κs.1.0 ⊑ T.lives)) ⊛ raw (fact 𝓤 (κs.1.1.0 ⊑ A.lives)) ⊛ raw (fact 𝓤 (n * s < 2 ^ 63))) ∷ []) ∵
    split ! $ split ! $ move ! (2 ∷ []) $ split ! $ move ! (4 ∷ []) $ split ! $ drop ! $ split ! $ heard ! _ (λ lives. heard ! _ (λ small.
    keep ! (0 ∷ 2 ∷ 3 ∷ []) $
    -- [the handle; the token; the other tokens]
    enter ! _ _ _ _ _ $ alloc_all ! (λ l. pass_all ! refl ((tt, tt), ((tt, record { fits = are.1.0.1 }), tt)) $
    let Out = outcome R the_error in
    let made : Ptr → Block T.Denot A.Denot = λ p. record { at = p; by = record {}; heap = r.now; room = n; items = [] } in
    let value : Ptr → Val = λ p. vstruct (vcons (ptr_val p) (vcons (vstruct vnil) vnil)) in
    sets ! (bin ! (get ! refl) (lit ! tt) tt) refl (tt, tt) $
    first ! $ branches ! (get ! refl)
    (λ holds_none. let none : n ≡ 0 = eqb→eq n 0 holds_none in
    sets ! (agg ! (no_more !)) refl (tt, tt) $
    sets ! (agg ! (and_then ! (lit ! tt) (and_then ! (get ! refl) (no_more !)))) refl (tt, (record { fits = lit< tt }, (tt, tt))) $
    sets ! (agg ! (and_then ! (lit ! tt) (and_then ! (get ! refl) (no_more !)))) refl (tt, (record { fits = lit< tt }, ((record { fits = lit< tt }, (tt, tt)), tt))) $
    returns_within ! (W.post y) refl (look_at ! 0 refl) $ free_all ! refl $
    let d = made null_ptr in let v = live 0 (vcons (value null_ptr) vnil) in
    feq_i ! (List T.Denot) [] _ refl $ rewrite ! 0 (λ (m : ℕ). ‵ (owned holds R₀ null_ptr m [])) (sym none) refl $
    use0 𝓛 (‵ ((Struct (shape (the_type R₀ A₀ ga))).own_val (to (the_type R₀ A₀ ga) d) (value null_ptr ∷ []))) (fields_in 𝓛 R₀ A₀ ga d) $ fjoin ! $
    use1 𝓛 (‵ (Out.own_val (Ok d) (v ∷ []))) (ok_in 𝓛 R the_error d (value null_ptr)) $ keep ! (2 ∷ 3 ∷ 0 ∷ []) $ join ! $
    suffices ! _ (ends_at 𝓛 E stayed c y v (Ok d) (tt, (tt, tt)) (tt, (tt, tt))) $ says_both ! (refl, refl, refl) (λ _. refl) $
    frame ! $ nothing ! $ nothing ! $ join ! $ nothing ! $ join ! $ frame ! $ done !)
    (λ holds_some. let some : 0 < n = positive n holds_some in skips ! $ exec ! 𝓣.C 𝓣.Λ (env (inst_fn args code.function).locals l) (after 2 (inst_fn args code.function).body) (at_ret (env (inst_fn args code.function).locals l) (W.post y)) $
    let τ = array_of R₀ n in let bytes = n * s in let al = capped (align (lone T.mir)) in let less : bytes < 2 ^ 64 = omega (arith, small) in
    let layout_is : HasLayout τ bytes al = (ap capped (size-raw (ty_array (lone T.mir) n)) ∙ capped_is (n * s) less, ap capped (align-raw (ty_array (lone T.mir) n))) in
    let κs' : Lfts 2 = (κs.0, (κs.1.1.0, tt)) in let args' : Args (g.signature A) κs' = (r, (bytes, (al, tt))) in
    let z : G.Ghost = ((κs', (qs.0, (qs.1.1.0, tt)), bounds, args', (shr_vals r, (uint_vals w64 bytes, (uint_vals w64 al, tt)))), τ) in
    sets ! (bin ! (get ! refl) (size_lit ! (record { fits = one_below 0 1 n s (omega arith) (omega arith) small })) (record { fits = less })) refl (tt, record { fits = less }) $
    use0 𝓛 (raw (fact 𝓤 (HasLayout τ bytes al))) (fact_i 𝓤 (HasLayout τ bytes al) (emp 𝓤) layout_is) $ use0 𝓛 (raw (fact 𝓤 (κs.1.1.0 ⊑ A.lives))) (fact_i 𝓤 (κs.1.1.0 ⊑ A.lives) (emp 𝓤) lives) $ join ! $
    nothing ! $ owned_for ! usize _ (uint_Makes 𝓛 w64) al _ (refl, capped_fits (align (lone T.mir))) $ join ! $ owned_for ! usize _ (uint_Makes 𝓛 w64) bytes _ (refl, less) $ join ! $
    -- [the arguments; the facts; the handle; the token; the other tokens]
    move ! (2 ∷ 0 ∷ []) $ join ! $ move ! (3 ∷ []) $ split ! $ move ! (4 ∷ 1 ∷ []) $ join ! $ move ! (0 ∷ 2 ∷ 3 ∷ []) $ join ! $ join ! $ use1 𝓛 (raw (G.pre z)) (id⊢ 𝓤 _) $
    calls_at ! (framed 𝓤 𝓛.H 𝓜 𝓣) G (ma.allocate dd) z (and_then ! (get ! refl) (and_then ! (get ! refl) (and_then ! (align_word !) (no_more !)))) (λ v.
    let Got = λ (o : Result Ptr AllocError). ‵ ((outcome RawPtr the_error).own_val o (v ∷ [])) ⊛ ‵ (block_if_ok holds τ o) in
    use1 𝓛 (later (some_i (λ (o : Result Ptr AllocError). ((‵ (flft κs.0 qs.0) ⊛ ‵ (flft κs.1.1.0 qs.1.1.0) ⊛ ‵ ftrue) ⊛ ‵ ((outcome RawPtr the_error).own_val o (v ∷ []))) ⊛ some_i (λ (ws : Unit {0} × (Unit {0} × (Unit {0} × Unit {0}))). ‵ (lasts (g.ended A ga da dd) κs' args' ws) ⊛ ‵ (block_if_ok holds τ o))))) (id⊢ 𝓤 _) $
    await ! tt $ pick ! (λ o. split ! $ split ! $ move ! (2 ∷ []) $ pick ! (λ ws. split ! $ drop ! $
    -- [the block; the tokens of the call; the outcome; the one of T]
    move ! (2 ∷ 0 ∷ []) $ join ! $ by_outcome Got o
    (λ p. split ! $ use1 𝓛 (raw (fact 𝓤 (v ∷ [] ≡ live 0 (vcons (ptr_val p) vnil) ∷ []))) (ok_out 𝓛 the_error p v) $ heard ! _ (λ is_v.
    fsplit ! $ in_a_block ! p (λ q. room_for τ q) (id⊢ 𝓤 _) (λ b o' e.
    lands_as ! (ap only is_v ∙ ap (λ (q : Ptr). live 0 (vcons (ptr_val q) vnil)) e) refl (tt, (record { fits = lit< tt }, (tt, tt))) $
    first ! $ by_variants ! 14 (whole !) (get_tag ! (vrt ! refl (fld ! refl (stop !))) (whole !)) tt (
      (λ _.
          sets ! (of_opd ! (get_in ! (vrt ! refl (fld ! refl (stop !))) (in_variant ! 0 0 refl refl (whole !)))) refl (tt, tt) $
          sets ! (of_opd ! (get ! refl)) refl (tt, tt) $
          sets ! (agg ! (no_more !)) refl (tt, tt) $
          sets ! (agg ! (and_then ! (get ! refl) (and_then ! (get ! refl) (no_more !)))) refl (tt, (tt, (tt, tt))) $
          sets_last ! (agg ! (and_then ! (lit ! tt) (and_then ! (get ! refl) (no_more !)))) refl (tt, (record { fits = lit< tt }, ((tt, (tt, tt)), tt))) $
          exec ! 𝓣.C 𝓣.Λ (env (inst_fn args code.function).locals l) (after 5 (inst_fn args code.function).body) (at_ret _ (W.post y)) $
          sets ! (of_opd ! (get ! refl)) refl (tt, (record { fits = lit< tt }, ((tt, (tt, tt)), tt))) $ returns ! (look_at ! 0 refl) $ free_all ! refl $
          let at = block_ptr b o' in let d = made at in let ret = live 0 (vcons (value at) vnil) in
          rewrite ! 1 (λ (q : Ptr). ‵ (holds τ q)) e refl $ fjoin ! $ use1 𝓛 (‵ (owned holds R₀ at n [])) (begun 𝓛 holds R₀ n at b o' refl some small) $
          use0 𝓛 (‵ ((Struct (shape (the_type R₀ A₀ ga))).own_val (to (the_type R₀ A₀ ga) d) (value at ∷ []))) (fields_in 𝓛 R₀ A₀ ga d) $ fjoin ! $
          use1 𝓛 (‵ (Out.own_val (Ok d) (ret ∷ []))) (ok_in 𝓛 R the_error d (value at)) $ move ! (1 ∷ []) $ split ! $ move ! (3 ∷ 1 ∷ []) $ join ! $ move ! (1 ∷ 0 ∷ []) $ join ! $
          suffices ! _ (ends_at 𝓛 E stayed c y ret (Ok d) (tt, (tt, tt)) (tt, (tt, tt))) $ says_both ! (refl, refl, refl) (λ _. refl) $
          frame ! $ nothing ! $ nothing ! $ join ! $ nothing ! $ join ! $ frame ! $ done !),
      ((λ bad. let no : ⊥ = omega (arith, bad) in absurd no), tt),
    ))))
    (λ e. split ! $ use1 𝓛 (raw (fact 𝓤 (v ∷ [] ≡ live 1 (vcons (vstruct vnil) vnil) ∷ []))) (err_out 𝓛 RawPtr e v) $ heard ! _ (λ is_v. drop ! $
    lands_as ! (ap only is_v) refl (tt, (record { fits = lit< tt }, (tt, tt))) $
    first ! $ by_variants ! 12 (whole !) (get_tag ! (vrt ! refl (fld ! refl (stop !))) (whole !)) tt (
      (λ bad. let no : ⊥ = omega (arith, bad) in absurd no),
      (
        (λ _.
            sets ! (of_opd ! (get_in ! (vrt ! refl (fld ! refl (stop !))) (in_variant ! 1 0 refl refl (whole !)))) refl (tt, tt) $
            sets_last ! (agg ! (and_then ! (lit ! tt) (and_then ! (get ! refl) (no_more !)))) refl (tt, (record { fits = lit< tt }, (tt, tt))) $
            exec ! 𝓣.C 𝓣.Λ (env (inst_fn args code.function).locals l) (after 5 (inst_fn args code.function).body) (at_ret _ (W.post y)) $
            sets ! (of_opd ! (get ! refl)) refl (tt, (record { fits = lit< tt }, (tt, tt))) $ returns ! (look_at ! 0 refl) $ free_all ! refl $
            let ret = live 1 (vcons (vstruct vnil) vnil) in
            use0 𝓛 (‵ (the_error.own_val e (vstruct vnil ∷ []))) (error_in 𝓛 R e) $ use1 𝓛 (‵ (Out.own_val (Err e) (ret ∷ []))) (err_in 𝓛 R the_error e (vstruct vnil)) $ move ! (1 ∷ []) $ split ! $ move ! (3 ∷ 1 ∷ []) $ join ! $ move ! (1 ∷ 0 ∷ []) $ join ! $
            suffices ! _ (ends_at 𝓛 E stayed c y ret (Err e) (tt, (tt, tt)) (tt, (tt, tt))) $ says_both ! tt (λ (none : n ≡ 0). absurd (omega (arith, none, some))) $
            frame ! $ nothing ! $ nothing ! $ join ! $ nothing ! $ join ! $ frame ! $ done !),
        tt,
      ),
    )))))))))))
