-- Parts that are put one after another.
use Rattle.std.specs.Prelude.{◌≡◌, ℕ, zero, suc, ◌+◌, ◌<◌, ◌≤◌, List, [], ◌∷◌, ◌++◌, length, map, take, drop, get_or, Option, Some, refl}
use Rattle.std.proofs.Common.{sym, ap, ◌∙◌, arith, subst, length-append, drop-cons, add-one, append_assoc}
use Rattle.std.proofs.Math.ListN.{drop_of_length-le}
use Rattle.std.proofs.lemmas.List.{append-nil, length-map}
use Rattle.acl_base.specs.declared.TermId.{TermId}
use Rattle.acl_heap.specs.Objects.{Objects}
use Rattle.model_slots.specs.Trees as trees
use Rattle.model_slots.specs.Resolved.{both}
use Rattle.acl_code.specs.declared.term.Parts.{Parts}
use Rattle.acl_code.specs.declared.term.Term.{Term}
use Rattle.acl_code.specs.declared.term.Term.TheVariants as term
use Rattle.acl_code.specs.Constants.{ConstantsAreKnown}
use Rattle.acl_code.specs.Tables.{trees_in, tree_over, forest, tree_at, AllIn, Grown, Within, TermsLie, seen_term, seen_parts}
use Rattle.acl_code.proofs.TableLemmas.{tree_later, forest_length, grown_then}

-- the parts that are put, and those that are left
abbrev pub PartsSoFar : Objects → List Term → List Term → List TermId → ℕ → Type 0
PartsSoFar h start now ids i =
    (forest h now ++ map (tree_at h start) (drop i ids) ≡ forest h start ++ map (tree_at h start) ids) × AllIn start (drop i ids) × Grown start now × TermsLie h now
    × ((n : ℕ) → ConstantsAreKnown n h start → ConstantsAreKnown n h now)

pub left_at : {X : Type 0} (xs : List X) (i : ℕ) (d : X) → i < length xs → drop i xs ≡ get_or xs i d ∷ drop (i + 1) xs
left_at xs i d l = rw (add-one i, drop-cons xs i d l) refl

pub parts_step : (h : Objects) (start now new : List Term) (ids : List TermId) (i : ℕ) (d : TermId) → i < length ids → PartsSoFar h start now ids i
    → forest h new ≡ forest h now ++ tree_at h now (get_or ids i d) ∷ [] → Grown now new → TermsLie h new
    → ((n : ℕ) → ConstantsAreKnown n h now → ConstantsAreKnown n h new) → PartsSoFar h start new ids (i + 1)
parts_step h start now new ids i d l s e g m k =
    let at : drop i ids ≡ get_or ids i d ∷ drop (i + 1) ids = left_at ids i d l in
    let all : AllIn start (get_or ids i d ∷ drop (i + 1) ids) = subst (λ ts. AllIn start ts) at s.1 in (
      ap (λ ts. ts ++ map (tree_at h start) (drop (i + 1) ids)) e
          ∙ (append_assoc (forest h now) (tree_at h now (get_or ids i d) ∷ []) (map (tree_at h start) (drop (i + 1) ids))
          ∙ (ap (λ t. forest h now ++ t ∷ map (tree_at h start) (drop (i + 1) ids)) (tree_later h start now (get_or ids i d) s.2 all.0)
          ∙ (ap (λ ts. forest h now ++ map (tree_at h start) ts) (sym at) ∙ s.0))),
      all.1,
      grown_then start now new s.2 g,
      m,
      λ n c. k n (s.4 n c),
    )

range_all : {X : Type 0} (xs ys : List X) (m n : ℕ) → m ≡ length xs → n ≡ length ys → take n (drop m (xs ++ ys)) ≡ ys
range_all [] ys zero n e f = rw f (take_all ys)
  where
    take_all : {X : Type 0} (xs : List X) → take (length xs) xs ≡ xs
    take_all [] = refl
    take_all (x ∷ xs) = ap (λ ys. x ∷ ys) (take_all xs)
range_all [] ys (suc m) n e f = absurd (omega arith)
range_all (x ∷ xs) ys zero n e f = absurd (omega arith)
range_all (x ∷ xs) ys (suc m) n e f = range_all xs ys m n (omega arith) f

pub parts_whole : (h : Objects) (start now : List Term) (ids : List TermId) (i : ℕ) → length ids ≤ i → PartsSoFar h start now ids i → forest h now ≡ forest h start ++ map (tree_at h start) ids
parts_whole h start now ids i l s =
    sym (append-nil (forest h now)) ∙ (ap (λ ts. forest h now ++ map (tree_at h start) ts) (sym (drop_of_length-le ids l)) ∙ s.0)

pub parts_are : (h : Objects) (start now : List Term) (ids : List TermId) (i : ℕ) (p : Parts) → length ids ≤ i → PartsSoFar h start now ids i → p.first.0 ≡ length start → p.count ≡ length ids
    → trees_in (forest h now) p ≡ map (tree_at h start) ids
parts_are h start now ids i p l s a b =
    ap (λ ts. trees_in ts p) (parts_whole h start now ids i l s)
    ∙ range_all (forest h start) (map (tree_at h start) ids) p.first.0 p.count (a ∙ sym (forest_length h start)) (b ∙ sym (length-map ids (tree_at h start)))

pub parts_end : (h : Objects) (start now : List Term) (ids : List TermId) (i : ℕ) → length ids ≤ i → PartsSoFar h start now ids i → length start + length ids < length now + 1
parts_end h start now ids i l s =
    let n : length (forest h now) ≡ length now = forest_length h now in
    let m : length (forest h start) ≡ length start = forest_length h start in
    let k : length (map (tree_at h start) ids) ≡ length ids = length-map ids (tree_at h start) in
    let e : length (forest h now) ≡ length (forest h start) + length (map (tree_at h start) ids) = ap length (parts_whole h start now ids i l s) ∙ length-append (forest h start) (map (tree_at h start) ids) in
    omega (arith, n, m, k, e)

-- ---- finished forms with parts

pub let_built : (h : Objects) (old mid new : List Term) (at : ℕ) (bs : Option (List TermId)) (o : Option TermId) (ids : List TermId) (b : TermId) (p : Parts) (t : TermId)
    → bs ≡ Some ids → o ≡ Some b → Within old o → Grown old mid → trees_in (forest h mid) p ≡ map (tree_at h old) ids → tree_at h new t ≡ tree_over h (forest h mid) (term.Let at p b)
    → Some (tree_at h new t) ≡ both (trees.Let at) (seen_parts h old bs) (seen_term h old o)
let_built h old mid new at bs o ids b p t eb eo w g a e =
    let l : b.0 < length old = subst (Within old) eo w in
    rw (eb, eo, e, a, tree_later h old mid b g l) refl
