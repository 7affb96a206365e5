-- How many cells fields, notes and nodes hold.
use Rattle.std.proofs.Common.{◌≡◌, ℕ, zero, suc, ◌+◌, ◌-◌, ◌*◌, ◌<◌, ◌≤◌, ℤ, pos, List, [], ◌∷◌, ◌++◌, map, length, take, replicate, set, get_or, Option, Some, None, refl, sym, ap, ◌∙◌, subst, arith}
use Rattle.std.specs.Prelude.{◌^◌}
use Rattle.std.specs.Option.{option_map}
use Rattle.std.specs.List.{sum_by}
use Rattle.std.proofs.lemmas.List.Sums.{sum_by-cons, sum_by-append}
use Rattle.std.proofs.lemmas.List.Folds.{sum_by-replicate}
use Rattle.acl_heap.specs.Objects.{nothing}
use Rattle.model_objects.specs.Object.{Object, Integer, cells}
use Rattle.model_prims.specs.Kinds.{by_number}
use Rattle.model_lists.specs.Lists.{value_at}
use Rattle.acl_owned.specs.Owned.{IsSum}
use Rattle.acl_owned.proofs.ArrayLemmas.{cut_only, long_only}
use Rattle.acl_owned.proofs.CountLemmas.{count_step, count_over}
use Rattle.acl_nodes.specs.Nodes.{Part, Own, Child, Children}
use Rattle.acl_maps.specs.Cells.{Cells, full, hole, opened_in, found_in, with_cell, emptied}
use Rattle.acl_maps.specs.Held.{entry_cells, cells_held, place_cells}
use Rattle.acl_maps.proofs.HeldLemmas.{with_held as cell_held, nothing_held}
use Rattle.acl_fields.specs.Fields.{Field, One, Many, Any, Anys, Table, integer, plain, IsElement, IsHeld, held, with_element, with_held}
use Rattle.acl_fields.specs.Parts.{part_of}
use Rattle.acl_fields.specs.Notes.{IsNote}
use Rattle.acl_fields.specs.Held.{part_cells, parts_cells, noted_cells}
use Rattle.acl_fields.specs.declared.notes.OldPart.{OldPart}
use Rattle.acl_fields.specs.declared.notes.OldPart.TheVariants as noted
use Rattle.acl_fields.specs.declared.slot.Slot.{Slot}

-- ---- sums

-- what is fewer than 2^64 is not too much
pub sum_fits : (n : ℕ) → n < 2 ^ 64 → 2 ^ 64 ≤ 0 + n → ⊥
sum_fits n a b = omega (arith, a, b)

abbrev slot_cells : Slot → ℕ
slot_cells s = part_cells (part_of s)

pub slots_step : (ss : List Slot) (start m n i : ℕ) (s : Slot) → i < length ss → s ≡ get_or ss i s → m ≡ start + sum_by (λ s. part_cells (part_of s)) (take i ss) → n ≡ m + part_cells (part_of s)
    → n ≡ start + sum_by (λ s. part_cells (part_of s)) (take (i + 1) ss)
slots_step ss start m n i s h e g k = count_step slot_cells ss start m n i s h e g k

pub slots_over : (ss : List Slot) (start m i : ℕ) (s : Slot) → i < length ss → s ≡ get_or ss i s → m ≡ start + sum_by (λ s. part_cells (part_of s)) (take i ss) → 2 ^ 64 ≤ m + part_cells (part_of s)
    → 2 ^ 64 ≤ start + sum_by (λ s. part_cells (part_of s)) ss
slots_over ss start m i s h e g k = count_over slot_cells ss start m i s h e g k

slots_sum : (ss : List Slot) → sum_by slot_cells ss ≡ parts_cells (map part_of ss)
slots_sum [] = refl
slots_sum (s ∷ ss) = sum_by-cons slot_cells s ss ∙ (ap (λ (n : ℕ). part_cells (part_of s) + n) (slots_sum ss) ∙ sym (sum_by-cons part_cells (part_of s) (map part_of ss)))

pub slots_counted : (ss : List Slot) (start : ℕ) (r : Option ℕ) → IsSum r (start + sum_by (λ s. part_cells (part_of s)) ss) → IsSum r (start + parts_cells (map part_of ss))
slots_counted ss start r e = subst (λ (m : ℕ). IsSum r (start + m)) (slots_sum ss) e

-- ---- arrays of other lengths

none_first : (k : ℕ) → sum_by (cells {S = ℕ}) (take k []) ≡ 0
none_first zero = refl
none_first (suc k) = refl

-- the sum of more of the first elements is no less
sum_first : (os : List (Object ℕ)) (i j : ℕ) → i ≤ j → sum_by cells (take i os) ≤ sum_by cells (take j os)
sum_first [] i j h = let a = none_first i in let b = none_first j in omega (arith, a, b)
sum_first (o ∷ os) zero j h = omega arith
sum_first (o ∷ os) (suc i) zero h = absurd (omega (arith, h))
sum_first (o ∷ os) (suc i) (suc j) h =
    let l : i ≤ j = omega (arith, h) in
    let a = sum_by-cons cells o (take i os) in
    let b = sum_by-cons cells o (take j os) in
    let c = sum_first os i j l in omega (arith, a, b, c)

pub first_over : (os : List (Object ℕ)) (start m i n : ℕ) (o : Object ℕ) → n ≤ length os → i < n → o ≡ get_or os i o → m ≡ start + sum_by cells (take i os) → 2 ^ 64 ≤ m + cells o → 2 ^ 64 ≤ start + sum_by cells (take n os)
first_over os start m i n o w h e g k =
    let l : i < length os = omega (arith, h, w) in
    let j : i + 1 ≤ n = omega (arith, h) in
    let s = count_step cells os start m (m + cells o) i o l e g refl in
    let f = sum_first os (i + 1) n j in omega (arith, s, f, k)

pub copies_counted : (n c m start : ℕ) (r : Option ℕ) → m ≡ n * c → IsSum r (start + m) → IsSum r (start + n * c)
copies_counted n c m start r e s = subst (λ (k : ℕ). IsSum r (start + k)) e s

pub copies_over : (n c start : ℕ) → 2 ^ 64 ≤ n * c → 2 ^ 64 ≤ start + n * c
copies_over n c start h = omega (arith, h)

pub cut_sum : (os : List (Object ℕ)) (n start : ℕ) (x : Object ℕ) (r : Option ℕ) → n < length os → IsSum r (start + sum_by cells (take n os)) → IsSum r (start + sum_by cells (take n os ++ replicate (n - length os) x))
cut_sum os n start x r h s = subst (λ (ys : List (Object ℕ)). IsSum r (start + sum_by cells ys)) (cut_only os n x h) s

long_is : (os : List (Object ℕ)) (n c : ℕ) (x : Object ℕ) → length os ≤ n → c ≡ cells x → sum_by cells os + (n - length os) * c ≡ sum_by cells (take n os ++ replicate (n - length os) x)
long_is os n c x h e =
    ap (λ (k : ℕ). sum_by cells os + (n - length os) * k) e
    ∙ (ap (λ (k : ℕ). sum_by cells os + k) (sym (sum_by-replicate cells (n - length os) x))
    ∙ (sym (sum_by-append cells os (replicate (n - length os) x)) ∙ ap (sum_by cells) (long_only os n x h)))

pub long_sum : (os : List (Object ℕ)) (n c start first : ℕ) (x : Object ℕ) (r : Option ℕ) → length os ≤ n → c ≡ cells x → first ≡ start + sum_by cells os → IsSum r (first + (n - length os) * c)
    → IsSum r (start + sum_by cells (take n os ++ replicate (n - length os) x))
long_sum os n c start first x r h e f s =
    let l = long_is os n c x h e in
    let t : first + (n - length os) * c ≡ start + sum_by cells (take n os ++ replicate (n - length os) x) = total ((n - length os) * c) (sum_by cells (take n os ++ replicate (n - length os) x)) (sum_by cells os) f l in
    subst (IsSum r) t s
  where
    total : (a b s : ℕ) → first ≡ start + s → s + a ≡ b → first + a ≡ start + b
    total a b s e f = omega (arith, e, f)

pub long_over : (os : List (Object ℕ)) (n start : ℕ) (x : Object ℕ) → length os ≤ n → 2 ^ 64 ≤ start + sum_by cells os → 2 ^ 64 ≤ start + sum_by cells (take n os ++ replicate (n - length os) x)
long_over os n start x h k = let l = long_is os n (cells x) x h refl in more ((n - length os) * cells x) (sum_by cells (take n os ++ replicate (n - length os) x)) (sum_by cells os) l k
  where
    more : (a b s : ℕ) → s + a ≡ b → 2 ^ 64 ≤ start + s → 2 ^ 64 ≤ start + b
    more a b s e k = omega (arith, e, k)

-- ---- changes of a hash field

pub put_counted : (k x v : Object ℕ) (new old : Cells) (h : Object ℕ × Option (Object ℕ)) → x ≡ k → new ≡ with_cell k (Some (full v)) old → h ≡ (k, value_at by_number k old)
    → cells_held new + noted_cells (noted.Entry h) ≡ cells_held old + (cells x + cells v)
put_counted k x v new old h e a b =
    let n = ap cells_held a in
    let p : place_cells h ≡ entry_cells k (found_in k old) = ap place_cells b in
    let w = cell_held k (Some (full v)) old in
    let c = ap cells e in omega (arith, n, p, w, c)

pub empty_counted : (k : Object ℕ) (new old : Cells) (h : Object ℕ × Option (Object ℕ)) → new ≡ emptied k old → h ≡ (k, value_at by_number k old) → cells_held new + noted_cells (noted.Entry h) ≡ cells_held old + 0
empty_counted k new old h a b =
    let n = ap cells_held a in
    let p : place_cells h ≡ entry_cells k (found_in k old) = ap place_cells b in
    let w = emptied_held in omega (arith, n, p, w)
  where
    none_left : (o : Option (Object ℕ)) → entry_cells k (opened_in (option_map (λ c. hole) o)) ≡ 0
    none_left None = refl
    none_left (Some c) = refl

    emptied_held : cells_held (emptied k old) + entry_cells k (found_in k old) ≡ cells_held old + 0
    emptied_held = cell_held k (option_map (λ c. hole) (value_at by_number k old)) old ∙ ap (λ (m : ℕ). cells_held old + m) (none_left (value_at by_number k old))

pub clear_counted : (new old : Cells) (s : Slot) → new ≡ [] → part_of s ≡ Own (Table old) → cells_held new + noted_cells (noted.Whole s) ≡ cells_held old + 0
clear_counted new old s a b =
    let n : cells_held new ≡ 0 = ap cells_held a ∙ nothing_held in
    let p : part_cells (part_of s) ≡ cells_held old = ap part_cells b in omega (arith, n, p)

pub remove_counted : (k : Object ℕ) (new old : Cells) (r : ℕ) → new ≡ with_cell k None old → r ≡ entry_cells k (found_in k old) → cells_held (with_cell k None old) + r ≡ cells_held old
remove_counted k new old r a b = let w = cell_held k None old in omega (arith, w, b)

pub back_counted : (h : Object ℕ × Option (Object ℕ)) (old : Cells) (r : ℕ) → r ≡ entry_cells h.0 (found_in h.0 old) → cells_held (with_cell h.0 h.1 old) + r ≡ cells_held old + place_cells h
back_counted h old r b = let w = cell_held h.0 h.1 old in omega (arith, w, b)

-- ---- an object in place of another

set_sum : (os : List (Object ℕ)) (i : ℕ) (o : Object ℕ) → i < length os → sum_by cells (set os i o) + cells (get_or os i nothing) ≡ sum_by cells os + cells o
set_sum [] i o h = absurd (omega (arith, h))
set_sum (x ∷ os) zero o h = let a = sum_by-cons cells o os in let b = sum_by-cons cells x os in omega (arith, a, b)
set_sum (x ∷ os) (suc i) o h =
    let l : i < length os = omega (arith, h) in
    let a = sum_by-cons cells x (set os i o) in
    let b = sum_by-cons cells x os in
    let c = set_sum os i o l in omega (arith, a, b, c)

pub held_changed : (p : Part Field) (i : ℕ) (o : Object ℕ) → IsHeld p i → part_cells (with_held p i o) + cells (held p i) ≡ part_cells p + cells o
held_changed (Own (One v)) i o h = absurd h
held_changed (Own (Many kind x vs)) i o h = absurd h
held_changed (Own (Any y)) i o h = omega arith
held_changed (Own (Anys x os)) i o h = set_sum os i o h
held_changed (Own (Table cs)) i o h = absurd h
held_changed (Child c) i o h = absurd h
held_changed (Children cs) i o h = absurd h

plain_same : {x y : Object ℕ} → plain x ≡ plain y → x ≡ y
plain_same e = cc

-- a note of an object has its cells
pub note_cells : (q : OldPart) (p : Part Field) (i : ℕ) → IsHeld p i → IsNote q p i → noted_cells q ≡ cells (held p i)
note_cells (noted.Element j v) (Own (One x)) i h n = absurd h
note_cells (noted.Element j v) (Own (Many kind x vs)) i h n = absurd h
note_cells (noted.Element j v) (Own (Any o)) i h n = absurd n.suits.0
note_cells (noted.Element j v) (Own (Anys x os)) i h n = absurd n.suits.1
note_cells (noted.Element j v) (Own (Table cs)) i h n = absurd h
note_cells (noted.Element j v) (Child c) i h n = absurd h
note_cells (noted.Element j v) (Children cs) i h n = absurd h
note_cells (noted.Held j o) (Own (One x)) i h n = absurd h
note_cells (noted.Held j o) (Own (Many kind x vs)) i h n = absurd h
note_cells (noted.Held j o) (Own (Any y)) i h n = absurd n.suits.0
note_cells (noted.Held j o) (Own (Anys x os)) i h n = sym (ap cells (plain_same n.shows))
note_cells (noted.Held j o) (Own (Table cs)) i h n = absurd h
note_cells (noted.Held j o) (Child c) i h n = absurd h
note_cells (noted.Held j o) (Children cs) i h n = absurd h
note_cells (noted.Entry e) (Own (One x)) i h n = absurd h
note_cells (noted.Entry e) (Own (Many kind x vs)) i h n = absurd h
note_cells (noted.Entry e) (Own (Any y)) i h n = absurd n.suits
note_cells (noted.Entry e) (Own (Anys x os)) i h n = absurd n.suits
note_cells (noted.Entry e) (Own (Table cs)) i h n = absurd h
note_cells (noted.Entry e) (Child c) i h n = absurd h
note_cells (noted.Entry e) (Children cs) i h n = absurd h
note_cells (noted.Whole s) (Own (One x)) i h n = absurd h
note_cells (noted.Whole s) (Own (Many kind x vs)) i h n = absurd h
note_cells (noted.Whole s) (Own (Any y)) i h n = ap part_cells n.same
note_cells (noted.Whole s) (Own (Anys x os)) i h n = absurd (longer (n.path 0))
  where
    longer : 0 ∷ [] ≡ 0 ∷ i ∷ [] → ⊥
    longer e = cc
note_cells (noted.Whole s) (Own (Table cs)) i h n = absurd h
note_cells (noted.Whole s) (Child c) i h n = absurd h
note_cells (noted.Whole s) (Children cs) i h n = absurd h

pub note_fits : (q : OldPart) (p : Part Field) (i : ℕ) → IsHeld p i → IsNote q p i → part_cells p < 2 ^ 64 → noted_cells q < 2 ^ 64
note_fits q p i h n w =
    let a = note_cells q p i h n in
    let b = held_changed p i (Integer (pos 0)) h in
    let z : cells {S = ℕ} (Integer (pos 0)) ≡ 0 = refl in omega (arith, a, b, z, w)

pub held_counted : (q : OldPart) (p : Part Field) (i r : ℕ) (o : Object ℕ) → IsHeld p i → IsNote q p i → r ≡ noted_cells q → part_cells (with_held p i o) + r ≡ part_cells p + cells o
held_counted q p i r o h n e =
    let a = note_cells q p i h n in
    let b = held_changed p i o h in omega (arith, a, b, e)

-- ---- integers

element_same : (p : Part Field) (i : ℕ) (v : ℤ) → part_cells (with_element p i v) ≡ part_cells p
element_same (Own (One x)) i v = refl
element_same (Own (Many kind x vs)) i v = refl
element_same (Own (Any o)) i v = refl
element_same (Own (Anys x os)) i v = refl
element_same (Own (Table cs)) i v = refl
element_same (Child c) i v = refl
element_same (Children cs) i v = refl

pub element_cells : (p : Part Field) (i : ℕ) (v : ℤ) → part_cells (with_element p i v) ≡ part_cells p
element_cells p i v = element_same p i v

pub element_counted : (p : Part Field) (i : ℕ) (v : ℤ) → part_cells (with_element p i v) + 0 ≡ part_cells p + 0
element_counted p i v = ap (λ (n : ℕ). n + 0) (element_same p i v)

pub whole_counted : (s : Slot) (p : Part Field) (r : ℕ) → r ≡ part_cells p → part_cells (part_of s) + r ≡ part_cells p + part_cells (part_of s)
whole_counted s p r e = omega (arith, e)

-- a note of an integer has no cells
pub integer_note : (q : OldPart) (p : Part Field) (i : ℕ) → IsElement p i → IsNote q p i → noted_cells q ≡ 0
integer_note (noted.Element j v) p i h n = refl
integer_note (noted.Held j o) (Own (One x)) i h n = absurd n.suits.0
integer_note (noted.Held j o) (Own (Many kind x vs)) i h n = absurd n.suits.1
integer_note (noted.Held j o) (Own (Any y)) i h n = absurd h
integer_note (noted.Held j o) (Own (Anys x os)) i h n = absurd h
integer_note (noted.Held j o) (Own (Table cs)) i h n = absurd h
integer_note (noted.Held j o) (Child c) i h n = absurd h
integer_note (noted.Held j o) (Children cs) i h n = absurd h
integer_note (noted.Entry e) (Own (One x)) i h n = absurd n.suits
integer_note (noted.Entry e) (Own (Many kind x vs)) i h n = absurd n.suits
integer_note (noted.Entry e) (Own (Any y)) i h n = absurd h
integer_note (noted.Entry e) (Own (Anys x os)) i h n = absurd h
integer_note (noted.Entry e) (Own (Table cs)) i h n = absurd h
integer_note (noted.Entry e) (Child c) i h n = absurd h
integer_note (noted.Entry e) (Children cs) i h n = absurd h
integer_note (noted.Whole s) (Own (One x)) i h n = ap part_cells n.same
integer_note (noted.Whole s) (Own (Many kind x vs)) i h n = ap part_cells n.same
integer_note (noted.Whole s) (Own (Any y)) i h n = absurd h
integer_note (noted.Whole s) (Own (Anys x os)) i h n = absurd h
integer_note (noted.Whole s) (Own (Table cs)) i h n = absurd h
integer_note (noted.Whole s) (Child c) i h n = absurd h
integer_note (noted.Whole s) (Children cs) i h n = absurd h
