-- Lists that are made of others.
use Rattle.std.specs.Prelude.{◌≡◌, ℕ, zero, suc, ◌+◌, ◌-◌, ◌<◌, ◌≤◌, List, [], ◌∷◌, ◌++◌, length, map, take, refl}
use Rattle.std.proofs.Common.{sym, ap, ◌∙◌, arith, subst, add-one, length-append}
use Rattle.std.proofs.lemmas.List.{length-map}
use Rattle.model_lists.specs.Lists.{StobjList, Value, Pairs, End, Item, size, with_item, resized}
use Rattle.model_lists.specs.Layouts.{repeated}
use Rattle.acl_lists.specs.declared.cell.ListId.{ListId}
use Rattle.acl_lists.specs.declared.cell.Cell.{Cell}
use Rattle.acl_lists.specs.Tables.{list_at, onto, AllIn, Grown, Passed}
use Rattle.acl_lists.proofs.TableLemmas.{list_later, grown_same, grown_then, grown_none}

-- ---- numbers and items, with one more at the end

all_last : (cs : List Cell) (ns : List ListId) (n : ListId) → AllIn cs ns → n.0 < length cs → AllIn cs (ns ++ n ∷ [])
all_last cs [] n a l = (l, tt)
all_last cs (m ∷ ns) n a l = (a.0, all_last cs ns n a.1 l)

all_but_last : (cs : List Cell) (ns : List ListId) (n : ListId) → AllIn cs (ns ++ n ∷ []) → AllIn cs ns × (n.0 < length cs)
all_but_last cs [] n a = (tt, a.0)
all_but_last cs (m ∷ ns) n a = let r = all_but_last cs ns n a.1 in ((a.0, r.0), r.1)

pub all_later : (old new : List Cell) (ns : List ListId) → Grown old new → AllIn old ns → AllIn new ns
all_later old new [] g a = tt
all_later old new (n ∷ ns) g a = let l : n.0 < length new = omega (arith, g.longer, a.0) in (l, all_later old new ns g a.1)

pub map_later : (old new : List Cell) (ns : List ListId) → Grown old new → AllIn old ns → map (list_at new) ns ≡ map (list_at old) ns
map_later old new [] g a = refl
map_later old new (n ∷ ns) g a = rw (list_later old new n g a.0, map_later old new ns g a.1) refl

onto_last : (cs : List Cell) (ns : List ListId) (n : ListId) (l : StobjList ℕ) → onto (map (list_at cs) (ns ++ n ∷ [])) l ≡ onto (map (list_at cs) ns) (Item (list_at cs n) l)
onto_last cs [] n l = refl
onto_last cs (m ∷ ns) n l = ap (λ r. Item (list_at cs m) r) (onto_last cs ns n l)

-- ---- the first items

pub passed_none : (cs : List Cell) (list : ListId) → list.0 < length cs → Passed cs list [] list
passed_none cs list l = record { items_in = tt; rest_in = l; same = refl }

pub passed_more : (cs : List Cell) (list : ListId) (firsts more : List ListId) (rest first next : ListId) → Passed cs list firsts rest
    → list_at cs rest ≡ Item (list_at cs first) (list_at cs next) → first.0 < rest.0 → next.0 < rest.0 → more ≡ firsts ++ first ∷ [] → Passed cs list more next
passed_more cs list firsts more rest first next p e f n m =
    let fits : first.0 < length cs = omega (arith, f, p.rest_in) in
    let next_fits : next.0 < length cs = omega (arith, n, p.rest_in) in
    subst (λ ns. Passed cs list ns next) (sym m) (record {
      items_in = all_last cs firsts first p.items_in fits;
      rest_in = next_fits;
      same = onto_last cs firsts first (list_at cs next) ∙ (ap (onto (map (list_at cs) firsts)) (sym e) ∙ p.same);
    })

pub passed_rest : (cs : List Cell) (list : ListId) (firsts : List ListId) (rest : ListId) → Passed cs list firsts rest → rest.0 < length cs
passed_rest cs list firsts rest p = p.rest_in

pub passed_later : (old new : List Cell) (list : ListId) (firsts : List ListId) (rest : ListId) → Passed old list firsts rest → Grown old new → AllIn new firsts
passed_later old new list firsts rest p g = all_later old new firsts g p.items_in

-- ---- items before a list

pub record OntoSoFar (start now : List Cell) (left : List ListId) (at : ListId) (whole : StobjList ℕ) : Type 0 where
  pub grown : Grown start now
  pub left_in : AllIn start left
  pub at_in : at.0 < length now
  pub same : onto (map (list_at start) left) (list_at now at) ≡ whole

pub onto_start : (start : List Cell) (left : List ListId) (at : ListId) → AllIn start left → at.0 < length start
    → OntoSoFar start start left at (onto (map (list_at start) left) (list_at start at))
onto_start start left at a l = record { grown = grown_same start; left_in = a; at_in = l; same = refl }

pub onto_first : (start now : List Cell) (before left : List ListId) (first at : ListId) (whole : StobjList ℕ) → OntoSoFar start now before at whole
    → before ≡ left ++ first ∷ [] → first.0 < length now
onto_first start now before left first at whole s e =
    let r = all_but_last start left first (subst (AllIn start) e s.left_in) in omega (arith, r.1, s.grown.longer)

pub onto_at : (start now : List Cell) (left : List ListId) (at : ListId) (whole : StobjList ℕ) → OntoSoFar start now left at whole → at.0 < length now
onto_at start now left at whole s = s.at_in

pub onto_grown : (start now : List Cell) (left : List ListId) (at : ListId) (whole : StobjList ℕ) → OntoSoFar start now left at whole → Grown start now
onto_grown start now left at whole s = s.grown

pub onto_step : (start now new : List Cell) (before left : List ListId) (first at next : ListId) (whole : StobjList ℕ) → OntoSoFar start now before at whole
    → before ≡ left ++ first ∷ [] → next.0 < length new → list_at new next ≡ Item (list_at now first) (list_at now at) → Grown now new
    → OntoSoFar start new left next whole
onto_step start now new before left first at next whole s e l is g =
    let r = all_but_last start left first (subst (AllIn start) e s.left_in) in
    record {
      grown = grown_then start now new s.grown g;
      left_in = r.0;
      at_in = l;
      same =
          ap (onto (map (list_at start) left)) (is ∙ ap (λ x. Item x (list_at now at)) (list_later start now first s.grown r.1))
          ∙ (sym (onto_last start left first (list_at now at)) ∙ (ap (λ ns. onto (map (list_at start) ns) (list_at now at)) (sym e) ∙ s.same));
    }

pub onto_whole : (start now : List Cell) (left : List ListId) (at : ListId) (whole : StobjList ℕ) → OntoSoFar start now left at whole → left ≡ [] → list_at now at ≡ whole
onto_whole start now left at whole s e = ap (λ ns. onto (map (list_at start) ns) (list_at now at)) (sym e) ∙ s.same

-- ---- the same item, many times

pub record RepeatedSoFar (start now : List Cell) (item at : ListId) (count : ℕ) : Type 0 where
  pub grown : Grown start now
  pub at_in : at.0 < length now
  pub same : list_at now at ≡ repeated count (list_at start item)

pub repeat_start : (start now : List Cell) (item at : ListId) → Grown start now → at.0 < length now → list_at now at ≡ End → RepeatedSoFar start now item at 0
repeat_start start now item at g l e = record { grown = g; at_in = l; same = e }

pub repeat_item : (start now : List Cell) (item at : ListId) (count : ℕ) → RepeatedSoFar start now item at count → item.0 < length start → item.0 < length now
repeat_item start now item at count s l = omega (arith, l, s.grown.longer)

pub repeat_step : (start now new : List Cell) (item at next : ListId) (count : ℕ) → RepeatedSoFar start now item at count → item.0 < length start → next.0 < length new
    → list_at new next ≡ Item (list_at now item) (list_at now at) → Grown now new → RepeatedSoFar start new item next (count + 1)
repeat_step start now new item at next count s i l e g = record {
  grown = grown_then start now new s.grown g;
  at_in = l;
  same = rw (add-one count) (rw (e, list_later start now item s.grown i, s.same) refl);
}

-- ---- what is cut back

pub cut_back : (old mid new : List Cell) (n : ℕ) → Grown old mid → n ≡ length old → new ≡ take n mid → new ≡ old
cut_back old mid new n g l e = e ∙ (ap (λ k. take k mid) l ∙ g.same)

pub cut_grown : (old mid new : List Cell) (n : ℕ) → Grown old mid → n ≡ length old → new ≡ take n mid → Grown old new
cut_grown old mid new n g l e = grown_none old new (cut_back old mid new n g l e)

pub cut_within : (old mid : List Cell) (n : ℕ) → Grown old mid → n ≡ length old → n ≤ length mid
cut_within old mid n g l = omega (arith, g.longer, l)

-- ---- another item

written : (xs : List (StobjList ℕ)) (x y rest : StobjList ℕ) (index : ℕ) → length xs ≡ index → with_item index y (onto xs (Item x rest)) ≡ onto xs (Item y rest)
written [] x y rest zero e = refl
written [] x y rest (suc n) e = absurd (omega (arith, e))
written (z ∷ xs) x y rest zero e = absurd (omega (arith, e))
written (z ∷ xs) x y rest (suc n) e = let d : length xs ≡ n = omega (arith, e) in ap (λ r. Item z r) (written xs x y rest n d)

none_written : (l y : StobjList ℕ) (index : ℕ) → size l ≡ 0 → with_item index y l ≡ l
none_written (Value o) y zero e = refl
none_written (Value o) y (suc n) e = refl
none_written (Pairs ps) y zero e = refl
none_written (Pairs ps) y (suc n) e = refl
none_written End y zero e = refl
none_written End y (suc n) e = refl
none_written (Item x rest) y n e = absurd (omega (arith, e))

missing : (xs : List (StobjList ℕ)) (l y : StobjList ℕ) (index : ℕ) → length xs ≤ index → size l ≡ 0 → with_item index y (onto xs l) ≡ onto xs l
missing [] l y n h e = none_written l y n e
missing (x ∷ xs) l y zero h e = absurd (omega (arith, h))
missing (x ∷ xs) l y (suc n) h e = let d : length xs ≤ n = omega (arith, h) in ap (λ r. Item x r) (missing xs l y n d e)

pub item_missing : (cs : List Cell) (list item : ListId) (firsts : List ListId) (rest : ListId) (index : ℕ) → Passed cs list firsts rest → length firsts ≤ index
    → size (list_at cs rest) ≡ 0 → list_at cs list ≡ with_item index (list_at cs item) (list_at cs list)
item_missing cs list item firsts rest index p h e =
    let few : length (map (list_at cs) firsts) ≤ index = omega (arith, h, length-map firsts (list_at cs)) in
    sym (ap (with_item index (list_at cs item)) (sym p.same) ∙ (missing (map (list_at cs) firsts) (list_at cs rest) (list_at cs item) index few e ∙ p.same))

not_short : (l first rest : StobjList ℕ) (n index : ℕ) → l ≡ Item first rest → n ≤ index → (n < index → size l ≡ 0) → n ≡ index
not_short l first rest n index e h f = grind (arith, e, h, f, ap size e)

pub item_written : (old mid new : List Cell) (list item : ListId) (firsts : List ListId) (rest first behind next n : ListId) (index : ℕ) → Passed old list firsts rest → length firsts ≤ index
    → (length firsts < index → size (list_at old rest) ≡ 0) → list_at old rest ≡ Item (list_at old first) (list_at old behind) → Grown old mid
    → list_at mid next ≡ Item (list_at old item) (list_at old behind) → list_at new n ≡ onto (map (list_at mid) firsts) (list_at mid next)
    → list_at new n ≡ with_item index (list_at old item) (list_at old list)
item_written old mid new list item firsts rest first behind next n index p h f e g m is =
    let all : length firsts ≡ index = not_short (list_at old rest) (list_at old first) (list_at old behind) (length firsts) index e h f in
    let many : length (map (list_at old) firsts) ≡ index = length-map firsts (list_at old) ∙ all in
    is
    ∙ (rw (map_later old mid firsts g p.items_in, m) refl
    ∙ (sym (written (map (list_at old) firsts) (list_at old first) (list_at old item) (list_at old behind) index many)
    ∙ ap (with_item index (list_at old item)) (ap (onto (map (list_at old) firsts)) (sym e) ∙ p.same)))

-- ---- another length

all_fill : (n : ℕ) (fill l : StobjList ℕ) → size l ≡ 0 → resized n fill l ≡ repeated n fill
all_fill zero fill l e = refl
all_fill (suc n) fill (Value o) e = ap (λ r. Item fill r) (all_fill n fill End refl)
all_fill (suc n) fill (Pairs ps) e = ap (λ r. Item fill r) (all_fill n fill End refl)
all_fill (suc n) fill End e = ap (λ r. Item fill r) (all_fill n fill End refl)
all_fill (suc n) fill (Item x rest) e = absurd (omega (arith, e))

longer : (xs : List (StobjList ℕ)) (n : ℕ) (fill l : StobjList ℕ) → length xs ≤ n → (length xs < n → size l ≡ 0) → resized n fill (onto xs l) ≡ onto xs (repeated (n - length xs) fill)
longer [] zero fill l h f = let z : 0 - 0 ≡ 0 = omega arith in ap (λ k. repeated k fill) (sym z)
longer [] (suc n) fill l h f =
    let some : 0 < suc n = omega arith in let z : suc n - 0 ≡ suc n = omega arith in all_fill (suc n) fill l (f some) ∙ ap (λ k. repeated k fill) (sym z)
longer (x ∷ xs) zero fill l h f = absurd (omega (arith, h))
longer (x ∷ xs) (suc n) fill l h f =
    let few : length xs ≤ n = omega (arith, h) in
    let z : suc n - suc (length xs) ≡ n - length xs = omega arith in
    ap (λ r. Item x r) (longer xs n fill l few (λ b. let some : suc (length xs) < suc n = omega (arith, b) in f some) ∙ ap (λ k. onto xs (repeated k fill)) (sym z))

pub sized : (old mid new : List Cell) (list fill : ListId) (firsts : List ListId) (rest end n : ListId) (count more : ℕ) → Passed old list firsts rest → length firsts ≤ count
    → (length firsts < count → size (list_at old rest) ≡ 0) → Grown old mid → more ≡ count - length firsts → list_at mid end ≡ repeated more (list_at old fill)
    → list_at new n ≡ onto (map (list_at mid) firsts) (list_at mid end)
    → list_at new n ≡ resized count (list_at old fill) (list_at old list)
sized old mid new list fill firsts rest end n count more p h f g k m is =
    let same : length (map (list_at old) firsts) ≡ length firsts = length-map firsts (list_at old) in
    let few : length (map (list_at old) firsts) ≤ count = omega (arith, h, same) in
    let left : more ≡ count - length (map (list_at old) firsts) = omega (arith, k, same) in
    is
    ∙ (rw (map_later old mid firsts g p.items_in, m, left) refl
    ∙ (sym (longer (map (list_at old) firsts) count (list_at old fill) (list_at old rest) few (λ b. let some : length firsts < count = omega (arith, b, same) in f some))
    ∙ ap (resized count (list_at old fill)) p.same))

pub one_longer : {X : Type 0} (xs ys : List X) (x : X) (n : ℕ) → length xs ≡ n → ys ≡ xs ++ x ∷ [] → length ys ≡ n + 1
one_longer xs ys x n e f = omega (arith, e, ap length f, length-append xs (x ∷ []))
