-- How the cells of a heap make its objects: one more cell, one cell read, and the cells cut back.
use Rattle.std.specs.Prelude.{◌≡◌, ℕ, zero, suc, ◌+◌, ◌<◌, List, [], ◌∷◌, ◌++◌, length, take, refl}
use Rattle.std.proofs.Common.{get_or, subst, inl, inr, sym, ap, ◌∙◌, arith}
use Rattle.std.proofs.lemmas.List.{get_or_push, get_or_append_left, take_all, length_push}
use Rattle.std.proofs.lemmas.Bool.{cases_lt}
use Rattle.model_objects.specs.Object.{Object}
use Rattle.acl_heap.specs.Objects.{Objects, nothing, Extends, IsCellObject, IsHeap}
use Rattle.acl_heap.specs.Growth.{Extends-self, Extends-append, Extends-then, read_later, take_grown}
use Rattle.acl_heap.specs.Cells.{object_at, objects_from, IsCell, AreCells, Reads}
use Rattle.acl_heap.specs.declared.Cell.{Cell}
use Rattle.acl_heap.specs.declared.Cell.TheVariants.{PairCell, TextCell, WideCell}

pub length-objects_from : (h : Objects) (cs : List Cell) → length (objects_from h cs) ≡ length h + length cs
length-objects_from h [] = omega arith
length-objects_from h (c ∷ cs) = omega (arith, length-objects_from (h ++ object_at h c ∷ []) cs, length_push h (object_at h c))

pub Extends-objects_from : (h : Objects) (cs : List Cell) → Extends h (objects_from h cs)
Extends-objects_from h [] = Extends-self h
Extends-objects_from h (c ∷ cs) = Extends-then (Extends-append h (object_at h c ∷ [])) (Extends-objects_from (h ++ object_at h c ∷ []) cs)

pub objects_from-push : (h : Objects) (cs : List Cell) (c : Cell) → objects_from h (cs ++ c ∷ []) ≡ objects_from h cs ++ object_at (objects_from h cs) c ∷ []
objects_from-push h [] c = refl
objects_from-push h (b ∷ cs) c = objects_from-push (h ++ object_at h b ∷ []) cs c

pub AreCells-push : (h : Objects) (cs : List Cell) (c : Cell) → AreCells h cs → IsCell (objects_from h cs) c → AreCells h (cs ++ c ∷ [])
AreCells-push h [] c a i = (i, tt)
AreCells-push h (b ∷ cs) c a i = (a.0, AreCells-push (h ++ object_at h b ∷ []) cs c a.1 i)

pub object_at-later : {a b : Objects} (c : Cell) → IsCell a c → Extends a b → object_at b c ≡ object_at a c
object_at-later (PairCell x y w) i e = rw (e.same x i.0, e.same y i.1) refl
object_at-later (TextCell v) i e = refl
object_at-later (WideCell n) i e = refl

pub IsCell-later : {a b : Objects} (c : Cell) → IsCell a c → Extends a b → IsCell b c
IsCell-later (PairCell x y w) i e = (omega (arith, i.0, e.longer), omega (arith, i.1, e.longer), rw (e.same x i.0, e.same y i.1) i.2)
IsCell-later (TextCell v) i e = i
IsCell-later (WideCell n) i e = i

-- the cell at a place past those of h
pub read : (h : Objects) (cs : List Cell) (c : Cell) (n k : ℕ) → AreCells h cs → n < length cs → c ≡ get_or cs n c → k ≡ length h + n → Reads (objects_from h cs) k c
read h [] c n k a l e q = absurd (omega arith)
read h (b ∷ cs) c zero k a l e q =
    let g = Extends-objects_from (h ++ object_at h b ∷ []) cs in
    let f = Extends-then (Extends-append h (object_at h b ∷ [])) g in
    let k_is : k ≡ length h = omega arith in
    let low : length h < length (h ++ object_at h b ∷ []) = omega (arith, length_push h (object_at h b)) in
    record {
      is = rw (k_is, e) (read_later (length h) g low ∙ get_or_push h (object_at h b) nothing (length h) refl ∙ sym (object_at-later b a.0 f));
      cell = rw e (IsCell-later b a.0 f);
    }
read h (b ∷ cs) c (suc n) k a l e q =
    read (h ++ object_at h b ∷ []) cs c n k a.1 (omega arith) e (omega (arith, length_push h (object_at h b)))

-- ---- a cell on top, as the word of its kind

pub made : (h : Objects) (n : ℕ) (o : Object ℕ) → n ≡ length h → (n < length (h ++ o ∷ [])) × (get_or (h ++ o ∷ []) n nothing ≡ o)
made h n o at = (omega (arith, length_push h o), get_or_push h o nothing n (sym at))

-- for `grind`, which looks for the first call
pub grows : (h : Objects) (o : Object ℕ) → (h ++ o ∷ [] ≡ h ++ o ∷ []) × Extends h (h ++ o ∷ []) × (length (h ++ o ∷ []) ≡ length h + 1) × (get_or (h ++ o ∷ []) (length h) nothing ≡ o)
grows h o = (refl, Extends-append h (o ∷ []), length_push h o, get_or_push h o nothing (length h) refl)

pub ruleset pushed = (grows, Extends-self)

-- ---- the cells cut back

pub objects_from-take : (h : Objects) (n : ℕ) (cs : List Cell) → objects_from h (take n cs) ≡ take (length h + n) (objects_from h cs)
objects_from-take h zero cs =
    sym (ap (λ n. take n (objects_from h cs)) (omega arith) ∙ take_grown (Extends-objects_from h cs))
objects_from-take h (suc n) [] = sym (take_all (length h + suc n) h (omega arith))
objects_from-take h (suc n) (c ∷ cs) =
    objects_from-take (h ++ object_at h c ∷ []) n cs
    ∙ ap (λ k. take k (objects_from h (c ∷ cs))) (omega (arith, length_push h (object_at h c)))

pub AreCells-take : (h : Objects) (n : ℕ) (cs : List Cell) → AreCells h cs → AreCells h (take n cs)
AreCells-take h zero cs a = tt
AreCells-take h (suc n) [] a = tt
AreCells-take h (suc n) (c ∷ cs) a = (a.0, AreCells-take (h ++ object_at h c ∷ []) n cs a.1)

pub objects-take : (n : ℕ) (cs : List Cell) → objects_from [] (take n cs) ≡ take n (objects_from [] cs)
objects-take n cs = objects_from-take [] n cs ∙ ap (λ k. take k (objects_from [] cs)) (omega arith)

-- ---- what the cells hold

IsCellObject-at : (h : Objects) (c : Cell) → IsCell h c → IsCellObject (object_at h c)
IsCellObject-at h (PairCell a d size) i = i.2.most
IsCellObject-at h (TextCell v) i = i
IsCellObject-at h (WideCell n) i = i

IsHeap-push : (h : Objects) (o : Object ℕ) → IsHeap h → IsCellObject o → IsHeap (h ++ o ∷ [])
IsHeap-push h o i p = record {
  cell = λ n l. elim (cases_lt n (length h)) [
    | inr high ↦
        let at : length h ≡ n = omega (arith, length_push h o) in
        subst (λ (x : Object ℕ). IsCellObject x) (sym (get_or_push h o nothing n at)) p
    | inl low ↦ subst (λ (x : Object ℕ). IsCellObject x) (sym (get_or_append_left h (o ∷ []) nothing n low)) (i.cell n low)
  ];
}

pub IsHeap-objects_from : (h : Objects) (cs : List Cell) → AreCells h cs → IsHeap h → IsHeap (objects_from h cs)
IsHeap-objects_from h [] a i = i
IsHeap-objects_from h (c ∷ cs) a i = IsHeap-objects_from (h ++ object_at h c ∷ []) cs a.1 (IsHeap-push h (object_at h c) i (IsCellObject-at h c a.0))
