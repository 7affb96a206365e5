-- What is owned of an outcome, and of a block that has just been made.
use Rattle.std.proofs.Common.{◌≡◌, ℕ, ◌+◌, ◌-◌, ◌*◌, ◌^◌, ◌<◌, List, [], ◌∷◌, ◌++◌, refl, ap, sym, ◌∙◌, arith}
use seplogic.Ra.Ura.{Ura}
use base.Fml.{Fml, ftrue, fsep, feq, fex, froom}
use base.Fraction.{full_share}
use base.Logic.{ent, emp}
use native.Mathlib.Nat.{zero-mul}
use mir.Syntax.{Ty, ty_array}
use mir.Raw.{raw as raw_ty}
use mir.Val.{Val, vstruct, vcons, vnil, of_list}
use prog.Memory.{size}
use contract.Monad.{fact, fact_i}
use types.Logic.{Logic, sem}
use types.Kit.{Item, Goal, Seq, ‵, raw, ◌$◌, ◌∵◌, !, qed, move, keep, use0, use1, rewrite, fsplit, fjoin, fpick, fpack, feq_l, feq_i, flt_i, done}
use types.Match.{live}
use denote.RattleType.{RattleType}
use denote.Array.{Array}
use denote.ArrayMemory.{Array-whole}
use denote.Memory.{lone}
use denote.Steps.{nothing}
use denote.RawPtr.{Ptr, RawPtr, block_ptr, ptr_val, lies_at}
use Rattle.std.specs.Allocator.{array_of}
use Rattle.std.specs.declared.alloc.AllocError.{AllocError}
use Rattle.std.specs.contracts.alloc.AllocError.{the_row as the_error}
use Rattle.std.specs.declared.result.Result.{Result}
use Rattle.std.specs.declared.result.Result.TheVariants.{Ok, Err}
use Rattle.std.specs.contracts.result.Result.{the_row as outcome}
use Rattle.std.specs.declared.alloc.Allocator.{Ghosts}
use Rattle.acl_rawmem.specs.declared.block.Block.{Block}
use Rattle.acl_rawmem.specs.contracts.block.Block.{the_type}
use denote.Struct.Owning.{shape, to}
use denote.Struct.Struct.{Struct, within}
use Rattle.acl_rawmem.specs.Owned.{owned, room_after}
use Rattle.acl_rawmem.proofs.Elements.{closed}

module _ {M : Type 1} {𝓤 : Ura M} (𝓛 : Logic 𝓤) (R E : RattleType) where
  pub ok_in : (x : R.Denot) (w : Val) → ent 𝓤 (sem 𝓛 (R.own_val x (w ∷ []))) (sem 𝓛 ((outcome R E).own_val (Ok x) (live 0 (vcons w vnil) ∷ [])))
  ok_in x w =
      let Fields : List Val × Unit {0} → Fml = λ vss. fsep (feq (List Val) (w ∷ []) (vss.0 ++ [])) (fsep (R.own_val x vss.0) ftrue) in
      qed 𝓛 (‵ (R.own_val x (w ∷ [])) ∷ []) ∵ nothing ! $ move ! (1 ∷ 0 ∷ []) $ fjoin ! $ feq_i ! (List Val) (w ∷ []) _ refl $ fjoin ! $
      fpack ! (List Val × Unit {0}) Fields (w ∷ [], tt) $ feq_i ! (List Val) (live 0 (vcons w vnil) ∷ []) _ refl $ fjoin ! $
      fpack ! (List Val) (λ us. fsep (feq (List Val) (live 0 (vcons w vnil) ∷ []) (live 0 (of_list us) ∷ [])) (fex (List Val × Unit {0}) (λ vss. fsep (feq (List Val) us (vss.0 ++ [])) (fsep (R.own_val x vss.0) ftrue)))) (w ∷ []) $ done !

  pub err_in : (x : E.Denot) (w : Val) → ent 𝓤 (sem 𝓛 (E.own_val x (w ∷ []))) (sem 𝓛 ((outcome R E).own_val (Err x) (live 1 (vcons w vnil) ∷ [])))
  err_in x w =
      let Fields : List Val × Unit {0} → Fml = λ vss. fsep (feq (List Val) (w ∷ []) (vss.0 ++ [])) (fsep (E.own_val x vss.0) ftrue) in
      qed 𝓛 (‵ (E.own_val x (w ∷ [])) ∷ []) ∵ nothing ! $ move ! (1 ∷ 0 ∷ []) $ fjoin ! $ feq_i ! (List Val) (w ∷ []) _ refl $ fjoin ! $
      fpack ! (List Val × Unit {0}) Fields (w ∷ [], tt) $ feq_i ! (List Val) (live 1 (vcons w vnil) ∷ []) _ refl $ fjoin ! $
      fpack ! (List Val) (λ us. fsep (feq (List Val) (live 1 (vcons w vnil) ∷ []) (live 1 (of_list us) ∷ [])) (fex (List Val × Unit {0}) (λ vss. fsep (feq (List Val) us (vss.0 ++ [])) (fsep (E.own_val x vss.0) ftrue)))) (w ∷ []) $ done !

-- the machine value of a pointer that was given, and of an error that says nothing
module _ {M : Type 1} {𝓤 : Ura M} (𝓛 : Logic 𝓤) (E : RattleType) where
  pub ok_out : (p : Ptr) (v : Val) → ent 𝓤 (sem 𝓛 ((outcome RawPtr E).own_val (Ok p) (v ∷ []))) (fact 𝓤 (v ∷ [] ≡ live 0 (vcons (ptr_val p) vnil) ∷ []))
  ok_out p v = qed 𝓛 (‵ ((outcome RawPtr E).own_val (Ok p) (v ∷ [])) ∷ []) ∵
      fpick ! (λ us. fsplit ! $ feq_l ! (λ is_live. fpick ! (λ vss. fsplit ! $ feq_l ! (λ are. fsplit ! $ feq_l ! (λ is_at. use0 𝓛 (raw (fact 𝓤 (v ∷ [] ≡ live 0 (vcons (ptr_val p) vnil) ∷ [])))
      (fact_i 𝓤 _ (emp 𝓤) (is_live ∙ ap (λ (xs : List Val). live 0 (of_list xs) ∷ []) (are ∙ ap (λ (xs : List Val). xs ++ []) is_at))) $ keep ! (0 ∷ []) $ done !)))))

module _ {M : Type 1} {𝓤 : Ura M} (𝓛 : Logic 𝓤) (R : RattleType) where
  pub error_in : (e : AllocError) → ent 𝓤 (emp 𝓤) (sem 𝓛 (the_error.own_val e (vstruct vnil ∷ [])))
  error_in e = qed 𝓛 [] ∵ nothing ! $ feq_i ! (List Val) (vstruct vnil ∷ []) _ refl $ fjoin ! $ fpack ! (Unit {0}) (λ vss. fsep (feq (List Val) (vstruct vnil ∷ []) (vstruct vnil ∷ [])) ftrue) tt $ done !

  pub err_out : (e : AllocError) (v : Val) → ent 𝓤 (sem 𝓛 ((outcome R the_error).own_val (Err e) (v ∷ []))) (fact 𝓤 (v ∷ [] ≡ live 1 (vcons (vstruct vnil) vnil) ∷ []))
  err_out e v = qed 𝓛 (‵ ((outcome R the_error).own_val (Err e) (v ∷ [])) ∷ []) ∵
      fpick ! (λ us. fsplit ! $ feq_l ! (λ is_live. fpick ! (λ vss. fsplit ! $ feq_l ! (λ are. fsplit ! $ fpick ! (λ none. fsplit ! $ feq_l ! (λ is_at. use0 𝓛 (raw (fact 𝓤 (v ∷ [] ≡ live 1 (vcons (vstruct vnil) vnil) ∷ [])))
      (fact_i 𝓤 _ (emp 𝓤) (is_live ∙ ap (λ (xs : List Val). live 1 (of_list xs) ∷ []) (are ∙ ap (λ (xs : List Val). xs ++ []) is_at))) $ keep ! (0 ∷ []) $ done !))))))

-- a step by cases of an outcome
pub by_outcome : {M : Type 1} {𝓤 : Ura M} {𝓛 : Logic 𝓤} {K : Type 0} {Γ : List (Item 𝓤)} {G : Goal 𝓤 𝓛.H} {X Y : Type 0} → (F : Result X Y → Item 𝓤) (r : Result X Y)
    → ((x : X) → Seq K 𝓛 (F (Ok x) ∷ Γ) G) → ((y : Y) → Seq K 𝓛 (F (Err y) ∷ Γ) G) → Seq K 𝓛 (F r ∷ Γ) G
by_outcome F (Ok x) f g = f x
by_outcome F (Err y) f g = g y

-- a block that was given for n elements is a block with none
module _ {M : Type 1} {𝓤 : Ura M} (𝓛 : Logic 𝓤) (holds : Ty → Ptr → Fml) (R : RattleType) where
  pub begun : (n : ℕ) (p : Ptr) (b o : ℕ) → p ≡ block_ptr b o → 0 < n → n * size (lone R.mir) < 2 ^ 63
      → ent 𝓤 (sem 𝓛 (fsep (froom (array_of R n) b o) (holds (array_of R n) p))) (sem 𝓛 (owned holds R p n []))
  begun n p b o e some small =
      let τ = lone R.mir in let whole : n ≡ n - 0 = omega arith in let at : o ≡ 0 * size τ + o = omega (arith, zero-mul (size τ)) in
      qed 𝓛 (‵ (fsep (froom (raw_ty (ty_array τ n)) b o) (holds (array_of R n) p)) ∷ []) ∵ fsplit ! $
      use1 𝓛 (‵ (froom (ty_array τ n) b o)) (𝓛.laws.raw-room (ty_array τ n) b o) $
      rewrite ! 0 (λ (m : ℕ). ‵ (froom (ty_array τ m) b o)) whole refl $ rewrite ! 0 (λ (m : ℕ). ‵ (froom (ty_array τ (n - 0)) b m)) at refl $
      rewrite ! 0 (λ (q : Ptr). ‵ (room_after R 0 (n - 0) q)) (sym e) refl $ fjoin ! $
      flt_i ! (n * size τ) (2 ^ 63) small $ flt_i ! 0 (n + 1) (omega arith) $ fjoin ! $ fjoin ! $
      nothing ! $ feq_i ! ℕ 0 _ refl $ fjoin ! $
      use1 𝓛 (‵ (lies_at (Array R 0) full_share (block_ptr b o) [])) (Array-whole 𝓛 R full_share 0 [] b o) $
      rewrite ! 0 (λ (q : Ptr). ‵ (lies_at (Array R 0) full_share q [])) (sym e) refl $ fjoin ! $
      use1 𝓛 (‵ (owned holds R p n [])) (closed 𝓛 holds R p n [] some) $ done !

-- the two fields of a block own nothing
module _ {M : Type 1} {𝓤 : Ura M} (𝓛 : Logic 𝓤) (T A : RattleType) (g : Ghosts A.Denot) where
  pub fields_in : (d : Block T.Denot A.Denot) → ent 𝓤 (emp 𝓤) (sem 𝓛 ((Struct (shape (the_type T A g))).own_val (to (the_type T A g) d) (vstruct (vcons (ptr_val d.at) (vcons (vstruct vnil) vnil)) ∷ [])))
  fields_in d =
      let ws : List Val = vstruct (vcons (ptr_val d.at) (vcons (vstruct vnil) vnil)) ∷ [] in
      qed 𝓛 [] ∵ nothing ! $ nothing ! $ feq_i ! (List Val) (vstruct vnil ∷ []) _ refl $ fjoin ! $
      fpack ! (Unit {0}) (λ vss. fsep (feq (List Val) (vstruct vnil ∷ []) (vstruct vnil ∷ [])) ftrue) tt $ fjoin ! $
      feq_i ! (List Val) (ptr_val d.at ∷ []) _ refl $ fjoin ! $ feq_i ! (List Val) ws _ refl $ fjoin ! $
      fpack ! (List Val × (List Val × Unit {0})) (within (shape (the_type T A g)) (to (the_type T A g) d) ws) (ptr_val d.at ∷ [], (vstruct vnil ∷ [], tt)) $ done !
