-- The elements of a block, and what else it owns.
use Rattle.std.proofs.Common.{◌≡◌, ℕ, zero, suc, ◌+◌, ◌-◌, ◌*◌, ◌^◌, ◌<◌, ◌≤◌, List, [], ◌∷◌, ◌++◌, length, refl, subst, sym, ◌∙◌, arith}
use native.Mathlib.Nat.{mul-le-mul_right, suc-mul, zero-mul}
use seplogic.Ra.Ura.{Ura}
use mathlib.Core.Bool.{not}
use lib.Dec.{T as Passes, eqb}
use lib.ListN.{get_or}
use base.Fml.{Fml, Lft, ftrue, fhide, fsep, feq, froom}
use denote.Slice.{elements_shared}
use denote.Memory.{mem, part_at, lone}
use denote.Index.{row, place}
use base.Fraction.{full_share}
use base.Logic.{SProp, ent, sep, id⊢, assoc∗}
use mir.Syntax.{Ty, ty_array}
use mir.Raw.{raw as raw_ty}
use prog.Memory.{size}
use denote.RawPtr.Room.{past, room_glue}
use denote.Struct.Members.{part_room}
use types.Logic.{Logic, sem}
use contract.Monad.{fact}
use denote.Triple.Walked.{says}
use types.Kit.{Item, Step, step, prop, suffices, ‵, ◌$◌, ◌∵◌, !, qed, move, use1, use2, rewrite, fsplit, fjoin, feq_l, done}
use denote.RattleType.{RattleType}
use denote.RawPtr.{Ptr, lies_at, in_block, block_of, count_of}
use denote.Array.{Array}
use Rattle.std.specs.Allocator.{array_of}
use Rattle.acl_rawmem.specs.Owned.{owned, lent, fits, room_after}

-- what a block of n elements owns beside the first k
abbrev pub rest : (Ty → Ptr → Fml) → RattleType → Ptr → ℕ → ℕ → Fml
rest holds R p n k = fsep (fits R k n) (fsep (room_after R k (n - k) p) (holds (array_of R n) p))

module _ {M : Type 1} {𝓤 : Ura M} (𝓛 : Logic 𝓤) (holds : Ty → Ptr → Fml) (R : RattleType) (p : Ptr) where
  pub opened : (n : ℕ) (xs : List R.Denot) → 0 < n → ent 𝓤 (sem 𝓛 (owned holds R p n xs)) (sem 𝓛 (fsep (lies_at (Array R (length xs)) full_share p xs) (rest holds R p n (length xs))))
  opened zero xs some = absurd (omega arith)
  opened (suc n) xs some = id⊢ 𝓤 _

  pub closed : (n : ℕ) (xs : List R.Denot) → 0 < n → ent 𝓤 (sem 𝓛 (fsep (lies_at (Array R (length xs)) full_share p xs) (rest holds R p n (length xs)))) (sem 𝓛 (owned holds R p n xs))
  closed zero xs some = absurd (omega arith)
  closed (suc n) xs some = id⊢ 𝓤 _

  -- where there is an element there is a block
  pub opened_at : (n : ℕ) (xs : List R.Denot) (i : ℕ) → i < length xs → ent 𝓤 (sem 𝓛 (owned holds R p n xs)) (sem 𝓛 (fsep (lies_at (Array R (length xs)) full_share p xs) (rest holds R p n (length xs))))
  opened_at zero xs i within = qed 𝓛 (‵ (feq (List R.Denot) xs []) ∷ []) ∵ feq_l ! (λ e. absurd (none e within))
    where
      none : xs ≡ [] → i < length xs → ⊥
      none e h = omega (arith, subst (λ ys. i < length ys) e h)
  opened_at (suc n) xs i within = id⊢ 𝓤 _

module _ {M : Type 1} {𝓤 : Ura M} (𝓛 : Logic 𝓤) (R : RattleType) where
  -- one element more, behind the others
  pub longer : (xs : List R.Denot) (x : R.Denot) (b o : ℕ) → ent 𝓤 (sem 𝓛 (fsep (row R full_share xs b o) (part_at R full_share x b (place (mem R).size o (length xs))))) (sem 𝓛 (row R full_share (xs ++ x ∷ []) b o))
  longer [] x b o = qed 𝓛 (‵ (fsep ftrue (part_at R full_share x b o)) ∷ []) ∵ fsplit ! $ move ! (1 ∷ 0 ∷ []) $ fjoin ! $ done !
  longer (y ∷ xs) x b o = qed 𝓛 (‵ (fsep (fsep (part_at R full_share y b o) (row R full_share xs b (o + (mem R).size))) (part_at R full_share x b (place (mem R).size (o + (mem R).size) (length xs)))) ∷ []) ∵
      fsplit ! $ fsplit ! $ move ! (1 ∷ 2 ∷ []) $ fjoin ! $ use1 𝓛 (‵ (row R full_share (xs ++ x ∷ []) b (o + (mem R).size))) (longer xs x b (o + (mem R).size)) $ move ! (1 ∷ 0 ∷ []) $ fjoin ! $ done !

-- some element of a list that has one
abbrev pub some_of : {X : Type 0} (xs : List X) (i : ℕ) → i < length xs → X
some_of [] i within = absurd (omega arith)
some_of (x ∷ xs) i within = x

-- which element is at i does not rest on the default
pub same_at : {X : Type 0} (xs : List X) (i : ℕ) (d d' : X) → i < length xs → get_or xs i d ≡ get_or xs i d'
same_at [] i d d' within = absurd (omega arith)
same_at (x ∷ xs) zero d d' within = refl
same_at (x ∷ xs) (suc i) d d' within = same_at xs i d d' (omega arith)

-- what a reader has, where there is an element
pub lent_out : {M : Type 1} {𝓤 : Ura M} (𝓛 : Logic 𝓤) (R : RattleType) (p : Ptr) (n : ℕ) (xs : List R.Denot) (κ : Lft) (i : ℕ) → i < length xs
    → ent 𝓤 (sem 𝓛 (fhide (lent R p n xs κ))) (sem 𝓛 (fsep (fsep (in_block p ftrue) (fsep (feq ℕ (length xs) (length xs)) (elements_shared R xs (block_of p) (count_of p) κ))) (fits R (length xs) n)))
lent_out {𝓤 = 𝓤} 𝓛 R p zero xs κ i within = qed 𝓛 (‵ (feq (List R.Denot) xs []) ∷ []) ∵ feq_l ! (λ e. absurd (none e within))
  where
    none : xs ≡ [] → i < length xs → ⊥
    none e h = omega (arith, subst (λ ys. i < length ys) e h)
lent_out {𝓤 = 𝓤} 𝓛 R p (suc n) xs κ i within = id⊢ 𝓤 _

-- a block of less than 2 ^ 63 bytes has less than 2 ^ 64 before each of its elements, and in each
pub bytes_below : (i k n s : ℕ) → i < k → k < n + 1 → n * s < 2 ^ 63 → i * s < 2 ^ 64
bytes_below i k n s within few small = let fewer : i ≤ n = omega arith in omega (arith, mul-le-mul_right {m = i} {n = n} s fewer)

pub one_below : (i k n s : ℕ) → i < k → k < n + 1 → n * s < 2 ^ 63 → s < 2 ^ 64
one_below i k n s within few small = let one : 1 ≤ n = omega arith in omega (arith, mul-le-mul_right {m = 1} {n = n} s one)

past_is : (τ : Ty) (k o : ℕ) → past τ k o ≡ k * size τ + o
past_is τ zero o = omega (arith, zero-mul (size τ))
past_is τ (suc k) o = past_is τ k (o + size τ) ∙ omega (arith, suc-mul k (size τ))

-- the elements and the room behind them are room for all
pub emptied : {M : Type 1} {𝓤 : Ura M} (𝓛 : Logic 𝓤) (R : RattleType) (n : ℕ) (xs : List R.Denot) (b o : ℕ) → length xs < n + 1
    → ent 𝓤 (sem 𝓛 (fsep (part_at (Array R (length xs)) full_share xs b o) (froom (ty_array (lone R.mir) (n - length xs)) b (length xs * size (lone R.mir) + o)))) (sem 𝓛 (froom (raw_ty (ty_array (lone R.mir) n)) b o))
emptied {𝓤 = 𝓤} 𝓛 R n xs b o few =
    let τ = lone R.mir in let k = length xs in let all : k + (n - k) ≡ n = omega arith in
    qed 𝓛 (‵ (fsep (part_at (Array R k) full_share xs b o) (froom (ty_array τ (n - k)) b (k * size τ + o))) ∷ []) ∵ fsplit ! $
    use1 𝓛 (‵ (froom (ty_array τ k) b o)) (part_room 𝓛 (record { row = Array R k; ty = ty_array τ k }) xs b o) $
    rewrite ! 1 (λ (m : ℕ). ‵ (froom (ty_array τ (n - k)) b m)) (sym (past_is τ k o)) refl $
    use2 𝓛 (‵ (froom (ty_array τ (k + (n - k))) b o)) (room_glue 𝓛 τ k (n - k) b o) $
    rewrite ! 0 (λ (m : ℕ). ‵ (froom (ty_array τ m) b o)) all refl $
    use1 𝓛 (‵ (froom (raw_ty (ty_array τ n)) b o)) (𝓛.laws.room-raw (ty_array τ n) b o) $ done !

-- the place behind k elements and one more
pub behind : (k s o : ℕ) → k * s + o + s ≡ suc k * s + o
behind k s o = omega (arith, suc-mul k s)

pub positive : (n : ℕ) → Passes (not (eqb n 0)) → 0 < n
positive zero h = absurd h
positive (suc n) h = omega arith

-- a goal that ends in two facts: both are shown
pub says_both : {M : Type 1} {𝓤 : Ura M} {𝓛 : Logic 𝓤} {K : Type 0} {Γ : List (Item 𝓤)} → K → {φ ψ : Type 0} {P : SProp 𝓤} → φ → ψ → Step K 𝓛 Γ (prop P) Γ (prop (sep 𝓤 P (sep 𝓤 (fact 𝓤 φ) (fact 𝓤 ψ))))
says_both {𝓤 = 𝓤} t {φ} {ψ} {P} x y = step (λ s. suffices t (sep 𝓤 (sep 𝓤 P (fact 𝓤 φ)) (fact 𝓤 ψ)) (assoc∗ 𝓤 P (fact 𝓤 φ) (fact 𝓤 ψ)) $ says t y $ says t x $ s)
