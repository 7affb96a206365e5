-- Marks that are set.
use Rattle.std.specs.Prelude.{◌≡◌, ℕ, zero, suc, ◌+◌, ◌<◌, ◌≤◌, ◌≢◌, ◌⊎◌, List, [], ◌∷◌, ◌++◌, length, take, Some, slice_get, refl}
use Rattle.std.specs.List.{AllByRecursion}
use Rattle.std.proofs.Common.{sym, ap, ◌∙◌, arith, add-one, subst, get_or, set, inl, inr, get_or-set_other, get_or-set_same, length-set}
use Rattle.acl_lists.specs.declared.cell.ListId.{ListId}
use Rattle.acl_lists.specs.declared.cell.Cell.{Cell}
use Rattle.acl_lists.specs.declared.cell.Cell.TheVariants as cell
use Rattle.acl_lists.specs.Tables.{StandsOver, IsTable, AllBelow}
use Rattle.acl_lists.specs.Compacting.{IsMarked, AllMarked, PartsMarked, IsPart, MoreMarks, IsRoot, IsPartOfMarked}

pub split_below : (n i : ℕ) → n < i + 1 → (n < i) ⊎ (n ≡ i)
split_below zero zero h = inr refl
split_below zero (suc i) h = let l : 0 < suc i = omega arith in inl l
split_below (suc n) zero h = absurd (omega (arith, h))
split_below (suc n) (suc i) h = let l : n < i + 1 = omega (arith, h) in elim (split_below n i l) [
  | inl a ↦ let b : suc n < suc i = omega (arith, a) in inl b
  | inr b ↦ inr (ap suc b)
]

-- ---- one mark

same_or_not : (i n : ℕ) → (i ≡ n) ⊎ (i ≢ n)
same_or_not zero zero = inl refl
same_or_not zero (suc n) = inr (λ e. absurd (omega (arith, e)))
same_or_not (suc i) zero = inr (λ e. absurd (omega (arith, e)))
same_or_not (suc i) (suc n) = elim (same_or_not i n) [
  | inl e ↦ inl (ap suc e)
  | inr d ↦ inr (λ e. let f : i ≡ n = omega (arith, e) in d f)
]

pub marks_one : (old new : List ℕ) (n : ℕ) → n < length old → new ≡ set old n 1 → IsMarked new n
marks_one old new n l e = let d : get_or new n 0 ≡ 1 = ap (λ ms. get_or ms n 0) e ∙ get_or-set_same old n 1 0 l in omega (arith, d)

stays_one : (old new : List ℕ) (n : ℕ) → n < length old → new ≡ set old n 1 → (i : ℕ) → IsMarked old i → IsMarked new i
stays_one old new n l e i m = elim (same_or_not i n) [
  | inl s ↦ subst (λ k. IsMarked new k) (sym s) (marks_one old new n l e)
  | inr d ↦ let f : get_or new i 0 ≡ get_or old i 0 = ap (λ ms. get_or ms i 0) e ∙ get_or-set_other old n i 1 0 d in omega (arith, f, m)
]

pub marks_more : (old new : List ℕ) (n : ℕ) → n < length old → new ≡ set old n 1 → MoreMarks old new
marks_more old new n l e = record { long = ap length e ∙ length-set old n 1; stays = stays_one old new n l e }

pub marks_only : (old new : List ℕ) (n : ℕ) → new ≡ set old n 1 → (i : ℕ) → IsMarked new i → IsMarked old i ⊎ (i ≡ n)
marks_only old new n e i m = elim (same_or_not i n) [
  | inl s ↦ inr s
  | inr d ↦ let f : get_or new i 0 ≡ get_or old i 0 = ap (λ ms. get_or ms i 0) e ∙ get_or-set_other old n i 1 0 d in let r : IsMarked old i = omega (arith, f, m) in inl r
]

-- ---- more marks

pub more_same : (ms : List ℕ) → MoreMarks ms ms
more_same ms = record { long = refl; stays = λ i m. m }

pub more_then : (a b c : List ℕ) → MoreMarks a b → MoreMarks b c → MoreMarks a c
more_then a b c p q = record { long = q.long ∙ p.long; stays = λ i m. q.stays i (p.stays i m) }

pub parts_stay : (old new : List ℕ) (c : Cell) → MoreMarks old new → PartsMarked old c → PartsMarked new c
parts_stay old new (cell.Value o) g p = tt
parts_stay old new cell.NoPairs g p = tt
parts_stay old new (cell.Pair key value older) g p = (g.stays key.0 p.0, g.stays value.0 p.1, g.stays older.0 p.2)
parts_stay old new cell.End g p = tt
parts_stay old new (cell.Item first rest) g p = (g.stays first.0 p.0, g.stays rest.0 p.1)

pub all_stay : (old new : List ℕ) (ns : List ListId) → MoreMarks old new → AllMarked old ns → AllMarked new ns
all_stay old new [] g a = tt
all_stay old new (n ∷ ns) g a = (g.stays n.0 a.0, all_stay old new ns g a.1)

-- ---- roots

pub all_at : {X : Type 0} (P : X → Type 0) (xs : List X) (i : ℕ) (d : X) → AllByRecursion P xs → i < length xs → P (get_or xs i d)
all_at P [] i d a l = absurd (omega (arith, l))
all_at P (x ∷ xs) zero d a l = a.0
all_at P (x ∷ xs) (suc i) d a l = let m : i < length xs = omega (arith, l) in all_at P xs i d a.1 m

all_push : {X : Type 0} (P : X → Type 0) (xs : List X) (y : X) → AllByRecursion P xs → P y → AllByRecursion P (xs ++ y ∷ [])
all_push P [] y a p = (p, tt)
all_push P (x ∷ xs) y a p = (a.0, all_push P xs y a.1 p)

take_suc : {X : Type 0} (xs : List X) (i : ℕ) (d : X) → i < length xs → take (suc i) xs ≡ take i xs ++ get_or xs i d ∷ []
take_suc [] i d l = absurd (omega (arith, l))
take_suc (x ∷ xs) zero d l = refl
take_suc (x ∷ xs) (suc i) d l = let m : i < length xs = omega (arith, l) in ap (λ ys. x ∷ ys) (take_suc xs i d m)

take_next : {X : Type 0} (xs : List X) (i : ℕ) (d : X) → i < length xs → take (i + 1) xs ≡ take i xs ++ get_or xs i d ∷ []
take_next xs i d l = ap (λ k. take k xs) (add-one i) ∙ take_suc xs i d l

pub roots_next : (old new : List ℕ) (roots : List ListId) (i : ℕ) (d : ListId) → i < length roots → MoreMarks old new → AllMarked old (take i roots) → IsMarked new (get_or roots i d).0
    → AllMarked new (take (i + 1) roots)
roots_next old new roots i d l g a m =
    subst (AllMarked new) (sym (take_next roots i d l)) (all_push (λ (n : ListId). IsMarked new n.0) (take i roots) (get_or roots i d) (all_stay old new (take i roots) g a) m)

take_long : {X : Type 0} (n : ℕ) (xs : List X) → length xs ≤ n → take n xs ≡ xs
take_long zero [] l = refl
take_long (suc n) [] l = refl
take_long zero (x ∷ xs) l = absurd (omega (arith, l))
take_long (suc n) (x ∷ xs) l = let m : length xs ≤ n = omega (arith, l) in ap (λ ys. x ∷ ys) (take_long n xs m)

pub roots_whole : (ms : List ℕ) (roots : List ListId) (i : ℕ) → length roots ≤ i → AllMarked ms (take i roots) → AllMarked ms roots
roots_whole ms roots i l a = subst (AllMarked ms) (take_long i roots l) a

pub root_below : (old new : List ℕ) (roots : List ListId) (i : ℕ) (d : ListId) → AllBelow (length old) roots → MoreMarks old new → i < length roots → (get_or roots i d).0 < length new
root_below old new roots i d a g l = let b : (get_or roots i d).0 < length old = all_at (λ (n : ListId). n.0 < length old) roots i d a l in omega (arith, b, g.long)

-- ---- from the last cell down

pub record ClosedFrom (cs : List Cell) (start now : List ℕ) (from : ℕ) : Type 0 where
  pub more : MoreMarks start now
  pub parts : (i : ℕ) (c : Cell) → from ≤ i → slice_get cs i ≡ Some c → IsMarked now i → PartsMarked now c
  pub only : (i : ℕ) → IsMarked now i → IsMarked start i ⊎ IsPartOfMarked cs now i

in_length : {X : Type 0} (xs : List X) (i : ℕ) (x : X) → slice_get xs i ≡ Some x → i < length xs
in_length [] i x e = cc
in_length (y ∷ xs) zero x e = omega arith
in_length (y ∷ xs) (suc i) x e = let l : i < length xs = in_length xs i x e in omega (arith, l)

pub part_below : (n i : ℕ) (c : Cell) → StandsOver n c → IsPart i c → i < n
part_below n i (cell.Value o) s p = absurd p
part_below n i cell.NoPairs s p = absurd p
part_below n i (cell.Pair key value older) s p = elim p [
  | inl a ↦ omega (arith, a, s.0)
  | inr q ↦ elim q [
    | inl a ↦ omega (arith, a, s.1)
    | inr a ↦ omega (arith, a, s.2)
  ]
]
part_below n i cell.End s p = absurd p
part_below n i (cell.Item first rest) s p = elim p [
  | inl a ↦ omega (arith, a, s.0)
  | inr a ↦ omega (arith, a, s.1)
]

pub over_more : (m n : ℕ) (c : Cell) → m ≤ n → StandsOver m c → StandsOver n c
over_more m n (cell.Value o) l s = tt
over_more m n cell.NoPairs l s = tt
over_more m n (cell.Pair key value older) l s =
    let a : key.0 < n = omega (arith, l, s.0) in let b : value.0 < n = omega (arith, l, s.1) in let d : older.0 < n = omega (arith, l, s.2) in (a, b, d)
over_more m n cell.End l s = tt
over_more m n (cell.Item first rest) l s = let a : first.0 < n = omega (arith, l, s.0) in let b : rest.0 < n = omega (arith, l, s.1) in (a, b)

same_cell : (cs : List Cell) (i j : ℕ) (c d : Cell) → slice_get cs i ≡ Some c → slice_get cs j ≡ Some d → j ≡ i → d ≡ c
same_cell cs i j c d e f s = let g : Some d ≡ Some c = sym f ∙ (ap (slice_get cs) s ∙ e) in cc

closed_at : (cs : List Cell) (start now new : List ℕ) (from at : ℕ) (it : Cell) → ClosedFrom cs start now from → from ≡ at + 1 → IsTable cs → slice_get cs at ≡ Some it → MoreMarks now new
    → PartsMarked new it → ((i : ℕ) → IsMarked new i → IsMarked now i ⊎ IsPart i it) → (i : ℕ) (c : Cell) → at ≤ i → slice_get cs i ≡ Some c → IsMarked new i → PartsMarked new c
closed_at cs start now new from at it s f t e g p only i c l h m = elim (same_or_not i at) [
  | inl same ↦ subst (PartsMarked new) (sym (same_cell cs at i it c e h same)) p
  | inr other ↦ let above : from ≤ i = omega (arith, f, l, other) in elim (only i m) [
    | inl before ↦ parts_stay now new c g (s.parts i c above h before)
    | inr part ↦ let b : i < at = part_below at i it (t.over at it e) part in absurd (omega (arith, b, l))
  ]
]

only_at : (cs : List Cell) (start now new : List ℕ) (from at : ℕ) (it : Cell) → ClosedFrom cs start now from → slice_get cs at ≡ Some it → IsMarked now at → MoreMarks now new
    → ((i : ℕ) → IsMarked new i → IsMarked now i ⊎ IsPart i it) → (i : ℕ) → IsMarked new i → IsMarked start i ⊎ IsPartOfMarked cs new i
only_at cs start now new from at it s e h g only i m = elim (only i m) [
  | inl before ↦ elim (s.only i before) [
    | inl first ↦ inl first
    | inr r ↦ inr (record { at = r.at; whole = r.whole; there = r.there; marked = g.stays r.at r.marked; part = r.part })
  ]
  | inr part ↦ inr (record { at = at; whole = it; there = e; marked = g.stays at h; part = part })
]

pub closed_marked : (cs : List Cell) (start now new : List ℕ) (from at next : ℕ) (it : Cell) → ClosedFrom cs start now from → from ≡ at + 1 → next ≡ at → IsTable cs → slice_get cs at ≡ Some it → IsMarked now at → MoreMarks now new
    → PartsMarked new it → ((i : ℕ) → IsMarked new i → IsMarked now i ⊎ IsPart i it) → ClosedFrom cs start new next
closed_marked cs start now new from at next it s f n t e h g p only = rw n (record {
  more = more_then start now new s.more g;
  parts = closed_at cs start now new from at it s f t e g p only;
  only = only_at cs start now new from at it s e h g only;
})

pub closed_unmarked : (cs : List Cell) (start now : List ℕ) (from at next : ℕ) → ClosedFrom cs start now from → from ≡ at + 1 → next ≡ at → (IsMarked now at → ⊥) → ClosedFrom cs start now next
closed_unmarked cs start now from at next s f n unmarked = rw n (record {
  more = s.more;
  parts = λ i c l h m. elim (same_or_not i at) [
    | inl same ↦ absurd (unmarked (subst (λ k. IsMarked now k) same m))
    | inr other ↦ let above : from ≤ i = omega (arith, f, l, other) in s.parts i c above h m
  ];
  only = s.only;
})

pub cell_got : {X : Type 0} (xs : List X) (i : ℕ) (x d : X) → i < length xs → x ≡ get_or xs i d → slice_get xs i ≡ Some x
cell_got [] i x d l e = absurd (omega (arith, l))
cell_got (y ∷ xs) zero x d l e = ap Some (sym e)
cell_got (y ∷ xs) (suc i) x d l e = let m : i < length xs = omega (arith, l) in cell_got xs i x d m e

-- ---- what is marked by roots

pub record RootsSoFar (roots : List ListId) (start now : List ℕ) (i : ℕ) : Type 0 where
  pub more : MoreMarks start now
  pub marked : AllMarked now (take i roots)
  pub only : (j : ℕ) → IsMarked now j → IsMarked start j ⊎ IsRoot roots j

pub roots_start : (roots : List ListId) (ms : List ℕ) → RootsSoFar roots ms ms 0
roots_start roots ms = record { more = more_same ms; marked = tt; only = λ j m. inl m }

get_there : {X : Type 0} (xs : List X) (i : ℕ) (d : X) → i < length xs → slice_get xs i ≡ Some (get_or xs i d)
get_there xs i d l = cell_got xs i (get_or xs i d) d l refl

pub roots_step : (roots : List ListId) (start now new : List ℕ) (i : ℕ) (d : ListId) → RootsSoFar roots start now i → i < length roots → MoreMarks now new → IsMarked new (get_or roots i d).0
    → ((j : ℕ) → IsMarked new j → IsMarked now j ⊎ (j ≡ (get_or roots i d).0)) → RootsSoFar roots start new (i + 1)
roots_step roots start now new i d s l g m only = record {
  more = more_then start now new s.more g;
  marked = roots_next now new roots i d l g s.marked m;
  only = λ j b. elim (only j b) [
    | inl before ↦ s.only j before
    | inr e ↦ inr (record { at = i; root = get_or roots i d; there = get_there roots i d l; is = e })
  ];
}

pub roots_done : (roots : List ListId) (start now : List ℕ) (i : ℕ) → RootsSoFar roots start now i → length roots ≤ i → AllMarked now roots
roots_done roots start now i s l = roots_whole now roots i l s.marked

pub root_fits : (roots : List ListId) (start now : List ℕ) (i : ℕ) (d : ListId) → RootsSoFar roots start now i → AllBelow (length start) roots → i < length roots → (get_or roots i d).0 < length now
root_fits roots start now i d s b l = root_below start now roots i d b s.more l
