-- The tree of an object stands for the object.
use Rattle.std.specs.Prelude.{◌≡◌, ℕ, ◌+◌, ◌*◌, ◌/◌, ◌%◌, ◌^◌, ◌<◌, ◌≤◌, List, [], ◌∷◌, ◌++◌, length, take, drop, zero, suc, true, false, if◌then◌else◌}
use Rattle.std.specs.Int.{w64, w128, cast_signed, cast_unsigned, to_le_bytes, from_le_bytes}
use Rattle.std.proofs.Common.{get_or, refl, sym, ap, ap₂, subst, ◌∙◌, arith, length-drop, get_or-drop, div-add-mod'}
use Rattle.std.proofs.lemmas.Nat.{le_bytes_8}
use Rattle.std.proofs.lemmas.Int.{to_z-of_z}
use Rattle.model_objects.specs.Object.{Object, Integer, Symbol, Text, Pair, fits_64}
use Rattle.acl_base.specs.declared.Word.TheVariants as word
use Rattle.acl_pool.specs.declared.cell.Kind.TheVariants.{Big}
use Rattle.acl_pool.specs.Trees.{AreBytes, IsNarrow, Atom, Bare, Node, bytes_of, seen, tree_of, number, numbers, chain}

abbrev first_eight : List ℕ → List ℕ
first_eight bs = get_or bs 0 0 ∷ get_or bs 1 0 ∷ get_or bs 2 0 ∷ get_or bs 3 0 ∷ get_or bs 4 0 ∷ get_or bs 5 0 ∷ get_or bs 6 0 ∷ get_or bs 7 0 ∷ []

first_bytes : (bs : List ℕ) → AreBytes bs → AreBytes (first_eight bs)
first_bytes bs f zero = f 0
first_bytes bs f (suc zero) = f 1
first_bytes bs f (suc (suc zero)) = f 2
first_bytes bs f (suc (suc (suc zero))) = f 3
first_bytes bs f (suc (suc (suc (suc zero)))) = f 4
first_bytes bs f (suc (suc (suc (suc (suc zero))))) = f 5
first_bytes bs f (suc (suc (suc (suc (suc (suc zero)))))) = f 6
first_bytes bs f (suc (suc (suc (suc (suc (suc (suc zero))))))) = f 7
first_bytes bs f (suc (suc (suc (suc (suc (suc (suc (suc i)))))))) = omega arith

-- the bytes of a number are those that it was made of
pub number_back : (bs : List ℕ) → AreBytes bs → to_le_bytes w64 (number bs) ≡ first_eight bs
number_back bs f = le_bytes_8 (first_eight bs) (number bs) refl (first_bytes bs f) refl

-- eight bytes, and behind them what is left
pub take_eight : (bs more : List ℕ) → take (length (drop 8 bs)) more ≡ drop 8 bs → take (length bs) (first_eight bs ++ more) ≡ bs
take_eight [] more e = refl
take_eight (a ∷ []) more e = refl
take_eight (a ∷ b ∷ []) more e = refl
take_eight (a ∷ b ∷ c ∷ []) more e = refl
take_eight (a ∷ b ∷ c ∷ d ∷ []) more e = refl
take_eight (a ∷ b ∷ c ∷ d ∷ x ∷ []) more e = refl
take_eight (a ∷ b ∷ c ∷ d ∷ x ∷ f ∷ []) more e = refl
take_eight (a ∷ b ∷ c ∷ d ∷ x ∷ f ∷ g ∷ []) more e = refl
take_eight (a ∷ b ∷ c ∷ d ∷ x ∷ f ∷ g ∷ h ∷ bs) more e = ap (λ (xs : List ℕ). a ∷ b ∷ c ∷ d ∷ x ∷ f ∷ g ∷ h ∷ xs) e

pub bytes_back : (k : ℕ) (bs : List ℕ) → AreBytes bs → length bs ≤ 8 * k → take (length bs) (bytes_of (chain (numbers k bs))) ≡ bs
bytes_back zero [] f l = refl
bytes_back zero (b ∷ bs) f l = absurd (omega arith)
bytes_back (suc k) bs f l =
    let more = bytes_of (chain (numbers k (drop 8 bs))) in
    let rest : take (length (drop 8 bs)) more ≡ drop 8 bs = bytes_back k (drop 8 bs) (λ i. subst (λ n. n < 256) (sym (get_or-drop 8 bs i 0)) (f (8 + i))) (omega (arith, length-drop 8 bs, l)) in
    ap (λ (xs : List ℕ). take (length bs) (xs ++ more)) (number_back bs f) ∙ take_eight bs more rest

pub seen_tree : (o : Object ℕ) → IsNarrow o → seen (tree_of o) ≡ o
seen_tree (Integer n) f =
    elim (fits_64 n) as (λ b. seen (if b then Atom (word.Small n) else Node Big (Bare (cast_unsigned w128 n % 2 ^ 64)) (Bare (cast_unsigned w128 n / 2 ^ 64))) ≡ Integer n)
    [ true ↦ refl | false ↦ ap Integer (ap (cast_signed w128) (div-add-mod' (cast_unsigned w128 n) (2 ^ 64)) ∙ to_z-of_z w128 n f) ]
seen_tree (Symbol s) f = refl
seen_tree (Text bytes) f = ap Text (bytes_back ((length bytes + 7) / 8) bytes f (omega arith))
seen_tree (Pair a d) f = ap₂ Pair (seen_tree a f.0) (seen_tree d f.1)

-- the number of the bytes from a place on
pub number_from : (bs : List ℕ) (at : ℕ) → number (drop at bs) ≡ from_le_bytes w64 (get_or bs at 0 ∷ get_or bs (at + 1) 0 ∷ get_or bs (at + 2) 0 ∷ get_or bs (at + 3) 0 ∷ get_or bs (at + 4) 0 ∷ get_or bs (at + 5) 0 ∷ get_or bs (at + 6) 0 ∷ get_or bs (at + 7) 0 ∷ [])
number_from bs at =
    let zero_on : at + 0 ≡ at = omega arith in
    let e : first_eight (drop at bs) ≡ get_or bs at 0 ∷ get_or bs (at + 1) 0 ∷ get_or bs (at + 2) 0 ∷ get_or bs (at + 3) 0 ∷ get_or bs (at + 4) 0 ∷ get_or bs (at + 5) 0 ∷ get_or bs (at + 6) 0 ∷ get_or bs (at + 7) 0 ∷ [] =
    rw (get_or-drop at bs 0 0, get_or-drop at bs 1 0, get_or-drop at bs 2 0, get_or-drop at bs 3 0, get_or-drop at bs 4 0, get_or-drop at bs 5 0, get_or-drop at bs 6 0, get_or-drop at bs 7 0, zero_on) refl in
    ap (λ (xs : List ℕ). from_le_bytes w64 xs) e
