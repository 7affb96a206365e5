use Rattle.acl_rawmem.proofs.Steps.{flft, split, keep, ◌⊛◌, [], ◌∷◌, refl, w64, proved, ‵, raw, fact, ftrue, qed, ◌∵◌, ◌$◌, !, enter, alloc_all, pass_all, sets, of_opd, usize, a_type, dnil, bounded, Stays, walk_of, lone, size, returns, look_at, free_all, suffices, ends_at, says, nothing, owned, uint_Makes, vint, frame, done}
use contract.BorrowLft.{◌⊑◌}
use mir.MapTy.{inst_fn}
use prog.Memory.{capped}
use prog.Capped.{capped_fits}
use types.Run.{size_word}
use Rattle.acl_rawmem.specs.contracts.filling.element_size as f
use Rattle.acl_rawmem.proofs.filling.element_size.Statement.{statement}
use Rattle.acl_rawmem.proofs.filling.element_size.Code as code

pub element_size_spec : {M : Type 1} → statement M
element_size_spec 𝓤 𝓛 𝓜 𝓡 w T LT =
    let E = f.ended T in
    let c = f.clauses T 𝓛 𝓜.mem 𝓡.returns in
    let stayed : Stays E.signature.params E.kept = tt in
    let W = walk_of 𝓛 E stayed c in
    let args = bounded (a_type ∷ []) (T, tt) dnil in
    proved 𝓛 E stayed c 𝓜 𝓡 tt (f.Key.name args) (inst_fn args code.function) (code.unfolded 𝓤 𝓛.H 𝓜 𝓡 w (T, tt))
    (λ κs. tt) (λ κs. tt) (λ κs qs bounds a _ are.
    let n = capped (size (lone T.mir)) in
    let y : W.Ghost = ((κs, qs, bounds, a, tt), tt) in
    qed 𝓛 (((‵ (flft κs.0 qs.0) ⊛ ‵ ftrue) ⊛ ‵ ftrue) ∷ (raw (fact 𝓤 (κs.0 ⊑ T.lives)) ⊛ ‵ ftrue) ∷ []) ∵ split ! $ keep ! (0 ∷ []) $
    enter ! _ _ _ _ _ $ alloc_all ! (λ l. pass_all ! refl tt $
    sets ! (of_opd ! (size_word !)) refl (tt, record { fits = capped_fits (size (lone T.mir)) }) $
    returns ! (look_at ! 0 refl) $ free_all ! refl $
    suffices ! _ (ends_at 𝓛 E stayed c y (vint w64 n) n tt tt) $ says ! refl $
    frame ! $ owned ! usize _ (uint_Makes 𝓛 w64) n _ (refl, capped_fits (size (lone T.mir))) $ nothing ! $ frame ! $ done !))
