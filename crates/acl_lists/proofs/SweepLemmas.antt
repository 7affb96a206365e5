-- Marked cells that are moved down, one after another.
use Rattle.std.specs.Prelude.{◌≡◌, ℕ, zero, suc, ◌+◌, ◌-◌, ◌<◌, ◌≤◌, ◌≢◌, ◌⊎◌, List, [], ◌∷◌, ◌++◌, length, map, take, replicate, slice_index, Some, slice_get, refl}
use Rattle.std.proofs.Common.{sym, ap, ◌∙◌, arith, subst, get_or, set, inl, inr, get_or-set_other, get_or-set_same, length-set, length-append}
use Rattle.model_lists.specs.Lists.{End}
use Rattle.acl_lists.specs.declared.cell.ListId.{ListId}
use Rattle.acl_lists.specs.declared.cell.Cell.{Cell}
use Rattle.acl_lists.specs.declared.cell.Cell.TheVariants as cell
use Rattle.acl_lists.specs.Tables.{list_at, list_over, forest, StandsOver, IsTable, Grown, AllIn}
use Rattle.acl_lists.specs.Compacting.{IsMarked, AllMarked, PartsMarked, IsClosed, IsMoved, IsSwept, IsPart, IsRoot, IsPartOfMarked, AllUsed, new_number, renumbered}
use Rattle.acl_lists.proofs.TableLemmas.{table_push, list_later, list_pushed, list_over_table, grown_push}
use Rattle.acl_lists.proofs.MarkLemmas.{split_below}

-- a marked cell below this number was moved there
pub record Came (i : ℕ) (ms ns : List ℕ) (k : ℕ) : Type 0 where
  pub from : ListId
  pub below : from.0 < i
  pub marked : IsMarked ms from.0
  pub is : slice_index ns from.0 ≡ k + 1

pub record SweptSoFar (cs : List Cell) (ms : List ℕ) (xs : List Cell) (ns : List ℕ) (kept i : ℕ) : Type 0 where
  pub few : kept ≤ i
  pub long : length xs ≡ length cs
  pub numbers_long : length ns ≡ length cs
  pub cells_left : (j : ℕ) → i ≤ j → slice_get xs j ≡ slice_get cs j
  pub marks_left : (j : ℕ) → i ≤ j → slice_index ns j ≡ slice_index ms j
  pub table : IsTable (take kept xs)
  pub moved : (n : ListId) → n.0 < i → IsMarked ms n.0 → IsMoved cs (take kept xs) ns n
  pub came : (k : ℕ) → k < kept → Came i ms ns k

pub sweep_skip : (cs : List Cell) (ms : List ℕ) (xs : List Cell) (ns : List ℕ) (kept i : ℕ) → SweptSoFar cs ms xs ns kept i → (IsMarked ns i → ⊥) → SweptSoFar cs ms xs ns kept (i + 1)
sweep_skip cs ms xs ns kept i s unmarked = record {
  few = omega (arith, s.few);
  long = s.long;
  numbers_long = s.numbers_long;
  cells_left = λ j h. let l : i ≤ j = omega (arith, h) in s.cells_left j l;
  marks_left = λ j h. let l : i ≤ j = omega (arith, h) in s.marks_left j l;
  table = s.table;
  moved = λ n h m. elim (split_below n.0 i h) [
    | inl a ↦ s.moved n a m
    | inr b ↦ let l : i ≤ i = omega arith in absurd (unmarked (subst (λ k. 0 < k) (sym (s.marks_left i l)) (subst (λ k. IsMarked ms k) b m)))
  ];
  came = λ k h. let r = s.came k h in record { from = r.from; below = omega (arith, r.below); marked = r.marked; is = r.is };
}

-- ---- one cell

there : {X : Type 0} (xs : List X) (i : ℕ) → i < length xs → (x : X) × (slice_get xs i ≡ Some x)
there [] i l = absurd (omega (arith, l))
there (x ∷ xs) zero l = (x, refl)
there (x ∷ xs) (suc i) l = let m : i < length xs = omega (arith, l) in there xs i m

length_taken : {X : Type 0} (n : ℕ) (xs : List X) → n ≤ length xs → length (take n xs) ≡ n
length_taken zero xs l = refl
length_taken (suc n) [] l = absurd (omega (arith, l))
length_taken (suc n) (x ∷ xs) l = let m : n ≤ length xs = omega (arith, l) in ap suc (length_taken n xs m)

moved_below : (cs ks : List Cell) (ns : List ℕ) (n : ListId) → IsMoved cs ks ns n → (new_number ns n).0 < length ks
moved_below cs ks ns n m = omega (arith, m.numbered, m.below)

number_same : (ns new : List ℕ) (n : ListId) → slice_index new n.0 ≡ slice_index ns n.0 → new_number new n ≡ new_number ns n
number_same ns new n e = ap number_from e
  where
    number_from : ℕ → ListId
    number_from k = record { 0 = k - 1 }

renumbered_same : (ns new : List ℕ) (m : ℕ) (c : Cell) → StandsOver m c → ((j : ℕ) → j < m → slice_index new j ≡ slice_index ns j) → renumbered new c ≡ renumbered ns c
renumbered_same ns new m (cell.Value o) s e = refl
renumbered_same ns new m cell.NoPairs s e = refl
renumbered_same ns new m (cell.Pair key value older) s e =
    rw (number_same ns new key (e key.0 s.0), number_same ns new value (e value.0 s.1), number_same ns new older (e older.0 s.2)) refl
renumbered_same ns new m cell.End s e = refl
renumbered_same ns new m (cell.Item first rest) s e = rw (number_same ns new first (e first.0 s.0), number_same ns new rest (e rest.0 s.1)) refl

get_grown : (old new : List Cell) (i : ℕ) → Grown old new → i < length old → slice_get new i ≡ slice_get old i
get_grown old new i g l = sym (get_taken (length old) new i l) ∙ ap (λ cs. slice_get cs i) g.same
  where
    get_taken : {X : Type 0} (n : ℕ) (xs : List X) (i : ℕ) → i < n → slice_get (take n xs) i ≡ slice_get xs i
    get_taken zero xs i l = absurd (omega (arith, l))
    get_taken (suc n) [] i l = refl
    get_taken (suc n) (x ∷ xs) zero l = refl
    get_taken (suc n) (x ∷ xs) (suc i) l = let m : i < n = omega (arith, l) in get_taken n xs i m

get_last : {X : Type 0} (xs : List X) (x : X) (n : ℕ) → n ≡ length xs → slice_get (xs ++ x ∷ []) n ≡ Some x
get_last [] x zero e = refl
get_last [] x (suc n) e = absurd (omega (arith, e))
get_last (y ∷ xs) x zero e = absurd (omega (arith, e))
get_last (y ∷ xs) x (suc n) e = let m : n ≡ length xs = omega (arith, e) in get_last xs x n m

moved_later : (cs ks more : List Cell) (ns new : List ℕ) (n : ListId) → IsTable cs → IsMoved cs ks ns n → Grown ks more → ((j : ℕ) → j < n.0 + 1 → slice_index new j ≡ slice_index ns j) → IsMoved cs more new n
moved_later cs ks more ns new n t m g same =
    let e : slice_index new n.0 ≡ slice_index ns n.0 = same n.0 (omega arith) in
    record {
      numbered = omega (arith, m.numbered, e);
      below = omega (arith, m.below, e, g.longer);
      same =
          ap (λ (k : ℕ). get_or (forest more) (k - 1) End) e
          ∙ (list_later ks more (new_number ns n) g (moved_below cs ks ns n m) ∙ m.same);
      cell = λ c h.
          ap (λ (k : ℕ). slice_get more (k - 1)) e
          ∙ (get_grown ks more (new_number ns n).0 g (moved_below cs ks ns n m)
          ∙ (m.cell c h ∙ ap Some (sym (renumbered_same ns new n.0 c (t.over n.0 c h) (λ j l. same j (omega (arith, l)))))));
    }

moved_last : (cs ks more : List Cell) (c d : Cell) (ns new : List ℕ) (n : ListId) → IsTable cs → slice_get cs n.0 ≡ Some d → c ≡ renumbered ns d → more ≡ ks ++ c ∷ [] → slice_index new n.0 ≡ length ks + 1
    → list_over (forest ks) c ≡ list_at cs n → ((j : ℕ) → j < n.0 → slice_index new j ≡ slice_index ns j) → IsMoved cs more new n
moved_last cs ks more c d ns new n t at r e k is same =
    let z : (new_number new n).0 ≡ length ks = omega (arith, k) in record {
      numbered = omega (arith, k);
      below = omega (arith, k, ap length e, length-append ks (c ∷ []));
      same = list_pushed ks more c (new_number new n) e z ∙ is;
      cell = λ f h.
          let s : Some d ≡ Some f = sym at ∙ h in
          let g : d ≡ f = cc in
          ap (λ xs. slice_get xs (new_number new n).0) e
          ∙ (get_last ks c (new_number new n).0 z
          ∙ ap Some (r ∙ (ap (renumbered ns) g ∙ sym (renumbered_same ns new n.0 f (t.over n.0 f h) same))));
    }

-- ---- over new numbers

module _ (cs ks : List Cell) (ms ns : List ℕ) (i : ℕ) (moved : (n : ListId) → n.0 < i → IsMarked ms n.0 → IsMoved cs ks ns n) where
  numbered : (c : Cell) → StandsOver i c → PartsMarked ms c → PartsMarked ns c
  numbered (cell.Value o) s p = tt
  numbered cell.NoPairs s p = tt
  numbered (cell.Pair key value older) s p = ((moved key s.0 p.0).numbered, (moved value s.1 p.1).numbered, (moved older s.2 p.2).numbered)
  numbered cell.End s p = tt
  numbered (cell.Item first rest) s p = ((moved first s.0 p.0).numbered, (moved rest s.1 p.1).numbered)

  below : (n : ListId) → n.0 < i → IsMarked ms n.0 → (new_number ns n).0 < length ks
  below n l m = moved_below cs ks ns n (moved n l m)

  over_new : (c : Cell) → StandsOver i c → PartsMarked ms c → StandsOver (length ks) (renumbered ns c)
  over_new (cell.Value o) s p = tt
  over_new cell.NoPairs s p = tt
  over_new (cell.Pair key value older) s p = (below key s.0 p.0, below value s.1 p.1, below older s.2 p.2)
  over_new cell.End s p = tt
  over_new (cell.Item first rest) s p = (below first s.0 p.0, below rest s.1 p.1)

  list_new : (c : Cell) → StandsOver i c → PartsMarked ms c → list_over (forest ks) (renumbered ns c) ≡ list_over (forest cs) c
  list_new (cell.Value o) s p = refl
  list_new cell.NoPairs s p = refl
  list_new (cell.Pair key value older) s p = rw ((moved key s.0 p.0).same, (moved value s.1 p.1).same, (moved older s.2 p.2).same) refl
  list_new cell.End s p = refl
  list_new (cell.Item first rest) s p = rw ((moved first s.0 p.0).same, (moved rest s.1 p.1).same) refl

pub parts_numbered : (cs : List Cell) (ms : List ℕ) (xs : List Cell) (ns : List ℕ) (kept i : ℕ) (c : Cell) → SweptSoFar cs ms xs ns kept i → IsTable cs → IsClosed cs ms → IsMarked ns i
    → slice_get xs i ≡ Some c → PartsMarked ns c
parts_numbered cs ms xs ns kept i c s t d m e =
    let l : i ≤ i = omega arith in
    let is_there : slice_get cs i ≡ Some c = sym (s.cells_left i l) ∙ e in
    let marked : IsMarked ms i = subst (λ k. 0 < k) (s.marks_left i l) m in
    numbered cs (take kept xs) ms ns i s.moved c (t.over i c is_there) (d.parts i c is_there marked)

new_moved : (cs : List Cell) (ms : List ℕ) (xs more : List Cell) (ns : List ℕ) (kept i : ℕ) (c : Cell) → SweptSoFar cs ms xs ns kept i → IsTable cs → IsClosed cs ms → i < length cs → slice_get cs i ≡ Some c
    → IsMarked ms i → more ≡ take kept xs ++ renumbered ns c ∷ [] → (n : ListId) → n.0 < i + 1 → IsMarked ms n.0 → IsMoved cs more (set ns i (kept + 1)) n
new_moved cs ms xs more ns kept i c s t d l e m g n h b =
    let many : length (take kept xs) ≡ kept = length_taken kept xs (omega (arith, s.few, l, s.long)) in
    let fits : i < length ns = omega (arith, l, s.numbers_long) in
    elim (split_below n.0 i h) [
      | inl a ↦
          moved_later cs (take kept xs) more ns (set ns i (kept + 1)) n t (s.moved n a b) (grown_push (take kept xs) more (renumbered ns c) g)
          (λ j b2. let other : j ≢ i = λ q. absurd (omega (arith, q, a, b2)) in get_or-set_other ns i j (kept + 1) 0 other)
      | inr q ↦
          let number : slice_index (set ns i (kept + 1)) n.0 ≡ kept + 1 = ap (λ k. get_or (set ns i (kept + 1)) k 0) q ∙ get_or-set_same ns i (kept + 1) 0 fits in
          let at : slice_get cs n.0 ≡ Some c = ap (slice_get cs) q ∙ e in
          let new : slice_index (set ns i (kept + 1)) n.0 ≡ length (take kept xs) + 1 = omega (arith, number, many) in
          moved_last cs (take kept xs) more (renumbered ns c) c ns (set ns i (kept + 1)) n t at refl g new
          (list_new cs (take kept xs) ms ns i s.moved c (t.over i c e) (d.parts i c e m) ∙ sym (list_over_table cs c n t at))
          (λ j b2. let other : j ≢ i = λ p. absurd (omega (arith, p, q, b2)) in get_or-set_other ns i j (kept + 1) 0 other)
    ]

new_came : (ms ns : List ℕ) (kept i : ℕ) → ((k : ℕ) → k < kept → Came i ms ns k) → i < length ns → IsMarked ms i → (k : ℕ) → k < kept + 1 → Came (i + 1) ms (set ns i (kept + 1)) k
new_came ms ns kept i came l m k h = elim (split_below k kept h) [
  | inl a ↦
      let r = came k a in
      let other : r.from.0 ≢ i = λ q. absurd (omega (arith, q, r.below)) in
      record { from = r.from; below = omega (arith, r.below); marked = r.marked; is = get_or-set_other ns i r.from.0 (kept + 1) 0 other ∙ r.is }
  | inr q ↦
      let number : slice_index (set ns i (kept + 1)) i ≡ kept + 1 = get_or-set_same ns i (kept + 1) 0 l in
      record { from = record { 0 = i }; below = omega arith; marked = m; is = omega (arith, number, q) }
]

pub sweep_move : (cs : List Cell) (ms : List ℕ) (xs ys : List Cell) (ns new : List ℕ) (kept i : ℕ) → SweptSoFar cs ms xs ns kept i → IsTable cs → IsClosed cs ms → i < length cs → IsMarked ns i
    → length ys ≡ length xs → ((c : Cell) → slice_get xs i ≡ Some c → take (kept + 1) ys ≡ take kept xs ++ renumbered ns c ∷ []) → ((j : ℕ) → i < j → slice_get ys j ≡ slice_get xs j)
    → new ≡ set ns i (kept + 1) → SweptSoFar cs ms ys new (kept + 1) (i + 1)
sweep_move cs ms xs ys ns new kept i s t d l m long moved left e =
    let same : i ≤ i = omega arith in
    let r = there cs i l in
    let at : slice_get xs i ≡ Some r.0 = s.cells_left i same ∙ r.1 in
    let marked : IsMarked ms i = subst (λ k. 0 < k) (s.marks_left i same) m in
    let over : StandsOver (length (take kept xs)) (renumbered ns r.0) = over_new cs (take kept xs) ms ns i s.moved r.0 (t.over i r.0 r.1) (d.parts i r.0 r.1 marked) in
    rw e (record {
      few = omega (arith, s.few);
      long = long ∙ s.long;
      numbers_long = length-set ns i (kept + 1) ∙ s.numbers_long;
      cells_left = λ j h. let b : i < j = omega (arith, h) in let a : i ≤ j = omega (arith, h) in left j b ∙ s.cells_left j a;
      marks_left = λ j h.
          let a : i ≤ j = omega (arith, h) in
          let other : j ≢ i = λ q. absurd (omega (arith, q, h)) in
          get_or-set_other ns i j (kept + 1) 0 other ∙ s.marks_left j a;
      table = subst IsTable (sym (moved r.0 at)) (table_push (take kept xs) (renumbered ns r.0) s.table over);
      moved = new_moved cs ms xs (take (kept + 1) ys) ns kept i r.0 s t d l r.1 marked (moved r.0 at);
      came = new_came ms ns kept i s.came (omega (arith, l, s.numbers_long)) marked;
    })

pub sweep_whole : (cs : List Cell) (ms : List ℕ) (xs : List Cell) (ns : List ℕ) (kept i : ℕ) → SweptSoFar cs ms xs ns kept i → i ≡ length cs → IsSwept cs ms (take kept xs) ns
sweep_whole cs ms xs ns kept i s l = record {
  table = s.table;
  moved = λ n h m. let b : n.0 < i = omega (arith, h, l) in s.moved n b m;
  came = λ k h.
      let fits : k < kept = omega (arith, h, length_taken kept xs (omega (arith, s.few, s.long, l))) in
      let r = s.came k fits in
      record { from = r.from; within = omega (arith, r.below, l); marked = r.marked; is = omega (arith, r.is) };
}

-- ---- roots

pub still_marked : (cs : List Cell) (ms : List ℕ) (ks : List Cell) (ns : List ℕ) (roots : List ListId) → IsSwept cs ms ks ns → AllIn cs roots → AllMarked ms roots → AllMarked ns roots
still_marked cs ms ks ns [] s b m = tt
still_marked cs ms ks ns (n ∷ roots) s b m = ((s.moved n b.0 m.0).numbered, still_marked cs ms ks ns roots s b.1 m.1)

pub roots_in : (cs : List Cell) (ms : List ℕ) (ks : List Cell) (ns : List ℕ) (roots : List ListId) → IsSwept cs ms ks ns → AllIn cs roots → AllMarked ms roots → AllIn ks (map (new_number ns) roots)
roots_in cs ms ks ns [] s b m = tt
roots_in cs ms ks ns (n ∷ roots) s b m = (moved_below cs ks ns n (s.moved n b.0 m.0), roots_in cs ms ks ns roots s b.1 m.1)

pub roots_stand : (cs : List Cell) (ms : List ℕ) (ks : List Cell) (ns : List ℕ) (roots : List ListId) → IsSwept cs ms ks ns → AllIn cs roots → AllMarked ms roots
    → map (list_at ks) (map (new_number ns) roots) ≡ map (list_at cs) roots
roots_stand cs ms ks ns [] s b m = refl
roots_stand cs ms ks ns (n ∷ roots) s b m = rw ((s.moved n b.0 m.0).same, roots_stand cs ms ks ns roots s b.1 m.1) refl

pub swept_table : (cs : List Cell) (ms : List ℕ) (ks : List Cell) (ns : List ℕ) → IsSwept cs ms ks ns → IsTable ks
swept_table cs ms ks ns s = s.table

pub taken_short : {X : Type 0} (n : ℕ) (xs : List X) → n ≤ length xs → length (take n xs) ≤ length xs
taken_short n xs l = omega (arith, l, length_taken n xs l)

-- ---- what is kept

get_mapped : {X Y : Type 0} (f : X → Y) (xs : List X) (i : ℕ) (x : X) → slice_get xs i ≡ Some x → slice_get (map f xs) i ≡ Some (f x)
get_mapped f [] i x e = cc
get_mapped f (y ∷ xs) zero x e = let s : y ≡ x = cc in ap (λ z. Some (f z)) s
get_mapped f (y ∷ xs) (suc i) x e = get_mapped f xs i x e

new_part : (ns : List ℕ) (i : ℕ) (c : Cell) → IsPart i c → IsPart (slice_index ns i - 1) (renumbered ns c)
new_part ns i (cell.Value o) p = absurd p
new_part ns i cell.NoPairs p = absurd p
new_part ns i (cell.Pair key value older) p = elim p [
  | inl a ↦ inl (ap (λ k. slice_index ns k - 1) a)
  | inr q ↦ elim q [
    | inl a ↦ inr (inl (ap (λ k. slice_index ns k - 1) a))
    | inr a ↦ inr (inr (ap (λ k. slice_index ns k - 1) a))
  ]
]
new_part ns i cell.End p = absurd p
new_part ns i (cell.Item first rest) p = elim p [
  | inl a ↦ inl (ap (λ k. slice_index ns k - 1) a)
  | inr a ↦ inr (ap (λ k. slice_index ns k - 1) a)
]

in_length : {X : Type 0} (xs : List X) (i : ℕ) (x : X) → slice_get xs i ≡ Some x → i < length xs
in_length [] i x e = cc
in_length (y ∷ xs) zero x e = omega arith
in_length (y ∷ xs) (suc i) x e = let l : i < length xs = in_length xs i x e in omega (arith, l)

no_mark : (n i : ℕ) → IsMarked (replicate n 0) i → ⊥
no_mark zero i m = absurd (omega (arith, m))
no_mark (suc n) zero m = absurd (omega (arith, m))
no_mark (suc n) (suc i) m = no_mark n i m

pub all_used : (cs ks : List Cell) (first second third ns : List ℕ) (roots : List ListId) (n : ℕ) → first ≡ replicate n 0 → ((i : ℕ) → IsMarked second i → IsMarked first i ⊎ IsRoot roots i)
    → ((i : ℕ) → IsMarked third i → IsMarked second i ⊎ IsPartOfMarked cs third i) → IsSwept cs third ks ns → AllUsed ks (map (new_number ns) roots)
all_used cs ks first second third ns roots n z by_roots by_parts s k h =
    let r = s.came k h in
    elim (by_parts r.from.0 r.marked) [
      | inl early ↦ elim (by_roots r.from.0 early) [
        | inl none ↦ absurd (no_mark n r.from.0 (subst (λ ms. IsMarked ms r.from.0) z none))
        | inr root ↦
            let e : k ≡ (new_number ns root.root).0 = r.is ∙ ap (λ j. slice_index ns j - 1) root.is in
            inl (record { at = root.at; root = new_number ns root.root; there = get_mapped (new_number ns) roots root.at root.root root.there; is = e })
      ]
      | inr part ↦
          let old : ListId = record { 0 = part.at } in
          let within : old.0 < length cs = in_length cs part.at part.whole part.there in
          let m = s.moved old within part.marked in
          inr (record {
            at = slice_index ns part.at - 1;
            whole = renumbered ns part.whole;
            there = m.cell part.whole part.there;
            part = subst (λ j. IsPart j (renumbered ns part.whole)) (sym r.is) (new_part ns r.from.0 part.whole part.part);
          })
    ]
