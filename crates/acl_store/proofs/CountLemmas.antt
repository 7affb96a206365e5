-- How many cells a store holds.
use Rattle.std.proofs.Common.{◌≡◌, ℕ, zero, suc, ◌+◌, ◌-◌, ◌<◌, ◌≤◌, List, [], ◌∷◌, ◌++◌, length, take, drop, set, get_or, Option, Some, None, refl, sym, ap, ◌∙◌, subst, arith}
use Rattle.std.specs.Prelude.{◌^◌, slice_get, IsSome, IsSomeAnd, IfSome}
use Rattle.std.specs.List.{sum_by}
use Rattle.std.proofs.lemmas.List.Sums.{sum_by-cons, sum_by_push}
use Rattle.acl_heap.specs.Objects.{Objects, nothing}
use Rattle.model_objects.specs.Object.{Object, cells}
use Rattle.acl_owned.specs.Owned.{IsSum}
use Rattle.acl_owned.proofs.CountLemmas.{count_step, count_over, count_end}
use Rattle.acl_nodes.specs.Nodes.{Part, Own, Child, Children, part_at, with_part}
use Rattle.acl_nodes.specs.Making.{Extends}
use Rattle.acl_maps.proofs.HeldLemmas.{nothing_held}
use Rattle.acl_fields.specs.Changes.{tabled}
use Rattle.acl_fields.specs.Fields.{Field, One, Many, Any, Anys, Table, table_in, IsElement, with_element, IsHeld, held, with_held, IsSized, IsFilled, sized}
use Rattle.acl_fields.specs.Held.{part_cells, parts_cells, node_cells, nodes_cells, noted_cells}
use Rattle.acl_fields.specs.Notes.{IsNote, IsWhole, back}
use Rattle.acl_fields.specs.Parts.{part_of}
use Rattle.acl_fields.specs.Views.{parts_of, node_of, view}
use Rattle.acl_fields.specs.declared.node.Node.{Node as Memory}
use Rattle.acl_fields.specs.declared.notes.OldPart.{OldPart}
use Rattle.acl_fields.specs.declared.notes.OldPart.TheVariants.{Element, Held, Entry, Whole}
use Rattle.acl_fields.specs.declared.slot.Slot.{Slot}
use Rattle.acl_fields.proofs.HeldLemmas.{element_cells, held_changed, note_cells, integer_note}
use Rattle.acl_store.specs.Calls as calls
use Rattle.acl_store.specs.Calls.{Nodes, IsInline, IsPut, IsGeneral, IsObjectPut, IsSizedTo}
use Rattle.acl_store.specs.Counts.{notes_cells, cells_in, IsCounted}
use Rattle.acl_store.specs.Journals.{IsNoted, IsNotedAt}
use Rattle.acl_store.specs.Tables.{IsHash, IsTabled}
use Rattle.acl_store.specs.declared.notes.Old.{Old}
use Rattle.acl_store.proofs.StoreLemmas.{puts_it, by_part}

-- ---- sums

abbrev memory_cells : Memory → ℕ
memory_cells n = node_cells (node_of n)

abbrev old_cells : Old → ℕ
old_cells o = noted_cells o.part

nodes_sum : (ns : List Memory) → sum_by memory_cells ns ≡ nodes_cells (view ns)
nodes_sum [] = refl
nodes_sum (n ∷ ns) = sum_by-cons memory_cells n ns ∙ (ap (λ (k : ℕ). node_cells (node_of n) + k) (nodes_sum ns) ∙ sym (sum_by-cons node_cells (node_of n) (view ns)))

pub nodes_step : (ns : List Memory) (start m n i : ℕ) (x : Memory) → i < length ns → x ≡ get_or ns i x → m ≡ start + sum_by (λ n. node_cells (node_of n)) (take i ns) → n ≡ m + node_cells (node_of x)
    → n ≡ start + sum_by (λ n. node_cells (node_of n)) (take (i + 1) ns)
nodes_step ns start m n i x h e g k = count_step memory_cells ns start m n i x h e g k

pub nodes_over : (ns : List Memory) (start m i : ℕ) (x : Memory) → i < length ns → x ≡ get_or ns i x → m ≡ start + sum_by (λ n. node_cells (node_of n)) (take i ns) → 2 ^ 64 ≤ m + node_cells (node_of x)
    → 2 ^ 64 ≤ start + nodes_cells (view ns)
nodes_over ns start m i x h e g k = subst (λ (s : ℕ). 2 ^ 64 ≤ start + s) (nodes_sum ns) (count_over memory_cells ns start m i x h e g k)

pub nodes_end : (ns : List Memory) (start m n : ℕ) → length ns ≤ n → m ≡ start + sum_by (λ n. node_cells (node_of n)) (take n ns) → m ≡ start + nodes_cells (view ns)
nodes_end ns start m n h e = count_end memory_cells ns start m n h e ∙ ap (λ (s : ℕ). start + s) (nodes_sum ns)

pub notes_step : (os : List Old) (start m n i : ℕ) (x : Old) → i < length os → x ≡ get_or os i x → m ≡ start + sum_by (λ o. noted_cells o.part) (take i os) → n ≡ m + noted_cells x.part
    → n ≡ start + sum_by (λ o. noted_cells o.part) (take (i + 1) os)
notes_step os start m n i x h e g k = count_step old_cells os start m n i x h e g k

pub notes_over : (os : List Old) (start m i : ℕ) (x : Old) → i < length os → x ≡ get_or os i x → m ≡ start + sum_by (λ o. noted_cells o.part) (take i os) → 2 ^ 64 ≤ m + noted_cells x.part → 2 ^ 64 ≤ start + notes_cells os
notes_over os start m i x h e g k = count_over old_cells os start m i x h e g k

pub one_more : (os news : List Old) (o : Old) → news ≡ os ++ o ∷ [] → notes_cells news ≡ notes_cells os + noted_cells o.part
one_more os news o e = ap notes_cells e ∙ sum_by_push old_cells os o

-- ---- one part

set_part : (ps : List (Part Field)) (f : ℕ) (p q : Part Field) → slice_get ps f ≡ Some p → parts_cells (set ps f q) + part_cells p ≡ parts_cells ps + part_cells q
set_part [] f p q e = absurd (none e)
  where
    none : None ≡ Some p → ⊥
    none h = cc
set_part (x ∷ ps) zero p q e =
    let a = sum_by-cons part_cells q ps in
    let b = sum_by-cons part_cells x ps in
    let c : part_cells x ≡ part_cells p = ap part_cells (same e) in omega (arith, a, b, c)
  where
    same : Some x ≡ Some p → x ≡ p
    same h = cc
set_part (x ∷ ps) (suc f) p q e =
    let a = sum_by-cons part_cells x (set ps f q) in
    let b = sum_by-cons part_cells x ps in
    let c = set_part ps f p q e in omega (arith, a, b, c)

pub part_changed : (ns : Nodes) (n f : ℕ) (p q : Part Field) → part_at ns n f ≡ Some p → nodes_cells (with_part n f q ns) + part_cells p ≡ nodes_cells ns + part_cells q
part_changed [] n f p q e = absurd (none e)
  where
    none : None ≡ Some p → ⊥
    none h = cc
part_changed (x ∷ ns) zero f p q e =
    let a = sum_by-cons node_cells (record x { parts = set x.parts f q }) ns in
    let b = sum_by-cons node_cells x ns in
    let c = set_part x.parts f p q e in omega (arith, a, b, c)
part_changed (x ∷ ns) (suc n) f p q e =
    let a = sum_by-cons node_cells x (with_part n f q ns) in
    let b = sum_by-cons node_cells x ns in
    let c = part_changed ns n f p q e in omega (arith, a, b, c)

part_within : (ps : List (Part Field)) (f : ℕ) (p : Part Field) → slice_get ps f ≡ Some p → part_cells p ≤ parts_cells ps
part_within [] f p e = absurd (none e)
  where
    none : None ≡ Some p → ⊥
    none h = cc
part_within (x ∷ ps) zero p e = let b = sum_by-cons part_cells x ps in let c : part_cells x ≡ part_cells p = ap part_cells (same e) in omega (arith, b, c)
  where
    same : Some x ≡ Some p → x ≡ p
    same h = cc
part_within (x ∷ ps) (suc f) p e = let b = sum_by-cons part_cells x ps in let c = part_within ps f p e in omega (arith, b, c)

-- what a field holds is held
pub part_held : (ns : Nodes) (n f : ℕ) (p : Part Field) → part_at ns n f ≡ Some p → part_cells p ≤ nodes_cells ns
part_held [] n f p e = absurd (none e)
  where
    none : None ≡ Some p → ⊥
    none h = cc
part_held (x ∷ ns) zero f p e = let b = sum_by-cons node_cells x ns in let c = part_within x.parts f p e in omega (arith, b, c)
part_held (x ∷ ns) (suc n) f p e = let b = sum_by-cons node_cells x ns in let c = part_held ns n f p e in omega (arith, b, c)

-- by the part
by : (r : Option (Part Field)) (P : Part Field → Type 0) (R : Type 0) → IsSomeAnd r P → ((p : Part Field) → r ≡ Some p → P p → R) → R
by None P R h g = absurd h
by (Some p) P R h g = g p refl h

given : (r : Option (Part Field)) (p : Part Field) (Q : Part Field → Type 0) → r ≡ Some p → IfSome r Q → Q p
given None p Q e q = absurd (none e)
  where
    none : None ≡ Some p → ⊥
    none h = cc
given (Some s) p Q e q = subst Q (same e) q
  where
    same : Some s ≡ Some p → s ≡ p
    same h = cc

-- a part that is put, with so many cells more and so many less
pub moved : (ns after : Nodes) (n f r m : ℕ) (P : Part Field → Type 0) (g : Part Field → Part Field) → IsSomeAnd (part_at ns n f) P → IfSome (part_at ns n f) (λ p. after ≡ with_part n f (g p) ns)
    → IfSome (part_at ns n f) (λ p. part_cells (g p) + r ≡ part_cells p + m) → nodes_cells after + r ≡ nodes_cells ns + m
moved ns after n f r m P g h a c = by (part_at ns n f) P (nodes_cells after + r ≡ nodes_cells ns + m) h (λ p at i.
    let e : nodes_cells after ≡ nodes_cells (with_part n f (g p) ns) = ap nodes_cells (given (part_at ns n f) p (λ s. after ≡ with_part n f (g s) ns) at a) in
    let s = given (part_at ns n f) p (λ s. part_cells (g s) + r ≡ part_cells s + m) at c in
    let k = part_changed ns n f p (g p) at in omega (arith, e, s, k))

-- ---- calls

pub few_at : (ns : Nodes) (os : List Old) (n f h : ℕ) (P : Part Field → Type 0) → h < 2 ^ 64 → IsCounted h ns os → IsSomeAnd (part_at ns n f) P → IsSomeAnd (part_at ns n f) (λ p. part_cells p < 2 ^ 64)
few_at ns os n f h P w c i = go (part_at ns n f) refl i
  where
    go : (r : Option (Part Field)) → part_at ns n f ≡ r → IsSomeAnd r P → IsSomeAnd r (λ p. part_cells p < 2 ^ 64)
    go None e i = absurd i
    go (Some p) e i = let l = part_held ns n f p e in omega (arith, l, c, w)

pub inline_counted : (ns after : Nodes) (os : List Old) (n f i h : ℕ) (v : _) → IsInline ns n f i → IsPut ns n f i v after → IsCounted h ns os → IsCounted h after os
inline_counted ns after os n f i h v p q c = by (part_at ns n f) (λ s. IsElement s i) (IsCounted h after os) p (λ s at j.
    let e : nodes_cells after ≡ nodes_cells (with_part n f (with_element s i v) ns) = ap nodes_cells (given (part_at ns n f) s (λ s. after ≡ with_part n f (with_element s i v) ns) at q) in
    let k = part_changed ns n f s (with_element s i v) at in
    let l = element_cells s i v in omega (arith, e, k, l, c))

-- an object in place of one that ends
pub ended_is : (ns after : Nodes) (n f i : ℕ) (o : Object ℕ) (q : OldPart) → IsGeneral ns n f i → IsObjectPut ns n f i o after → IfSome (part_at ns n f) (λ p. IsNote q p i) → nodes_cells after + noted_cells q ≡ nodes_cells ns + cells o
ended_is ns after n f i o q p a b = by (part_at ns n f) (λ s. IsHeld s i) (nodes_cells after + noted_cells q ≡ nodes_cells ns + cells o) p (λ s at j.
    let e : nodes_cells after ≡ nodes_cells (with_part n f (with_held s i o) ns) = ap nodes_cells (given (part_at ns n f) s (λ s. after ≡ with_part n f (with_held s i o) ns) at a) in
    let k = part_changed ns n f s (with_held s i o) at in
    let l = held_changed s i o j in
    let m = note_cells q s i j (given (part_at ns n f) s (λ s. IsNote q s i) at b) in omega (arith, e, k, l, m))

pub object_counted : (ns after : Nodes) (olds news : List Old) (n f i h m : ℕ) (o : Object ℕ) → IsGeneral ns n f i → IsObjectPut ns n f i o after → IsNotedAt ns n f i olds news → IsCounted h ns olds → m ≡ h + cells o → IsCounted m after news
object_counted ns after olds news n f i h m o p a b c d =
    let e = ended_is ns after n f i o b.note.part p a b.is in
    let g = one_more olds news b.note b.last in omega (arith, e, g, c, d)

pub ended_counted : (ns after : Nodes) (os : List Old) (n f i h m : ℕ) (o : Object ℕ) (q : OldPart) → IsGeneral ns n f i → IsObjectPut ns n f i o after → IfSome (part_at ns n f) (λ p. IsNote q p i) → IsCounted h ns os → m ≡ h + cells o
    → IsCounted (m - noted_cells q) after os × (noted_cells q ≤ m)
ended_counted ns after os n f i h m o q p a b c d =
    let e = ended_is ns after n f i o q p a b in (omega (arith, e, c, d), omega (arith, e, c, d))

-- a hash field that is changed
pub change_counted : (ns after : Nodes) (olds news : List Old) (h m x : ℕ) → cells_in after news ≡ cells_in ns olds + x → IsCounted h ns olds → m ≡ h + x → IsCounted m after news
change_counted ns after olds news h m x e c d = omega (arith, e, c, d)

pub local_counted : (ns after : Nodes) (os : List Old) (h m x q : ℕ) → nodes_cells after + q ≡ nodes_cells ns + x → IsCounted h ns os → m ≡ h + x → IsCounted (m - q) after os × (q ≤ m)
local_counted ns after os h m x q e c d = (omega (arith, e, c, d), omega (arith, e, c, d))

pub noted_change : (ns after : Nodes) (olds news : List Old) (x : ℕ) (o : Old) → nodes_cells after + noted_cells o.part ≡ nodes_cells ns + x → news ≡ olds ++ o ∷ [] → cells_in after news ≡ cells_in ns olds + x
noted_change ns after olds news x o e g = let k = one_more olds news o g in omega (arith, e, k)

pub less_counted : (ns after : Nodes) (os : List Old) (h r : ℕ) → nodes_cells after + r ≡ nodes_cells ns → IsCounted h ns os → IsCounted (h - r) after os × (r ≤ h)
less_counted ns after os h r e c = (omega (arith, e, c), omega (arith, e, c))

-- ---- arrays

resized_is : (hs : Objects) (ns after : Nodes) (n f m : ℕ) (p : Part Field) → part_at ns n f ≡ Some p → IsSizedTo hs ns n f m after → nodes_cells after + part_cells p ≡ nodes_cells ns + part_cells (sized hs p m)
resized_is hs ns after n f m p at a =
    let e : nodes_cells after ≡ nodes_cells (with_part n f (sized hs p m) ns) = ap nodes_cells (given (part_at ns n f) p (λ s. after ≡ with_part n f (sized hs s m) ns) at a) in
    let k = part_changed ns n f p (sized hs p m) at in omega (arith, e, k)

-- the old array goes into the journal
pub array_counted : (hs : Objects) (ns after : Nodes) (olds news : List Old) (n f m h k : ℕ) → calls.IsArray hs ns n f → IsSizedTo hs ns n f m after → IsNoted ns n f olds news
    → IfSome (part_at ns n f) (λ p. k ≡ h + part_cells (sized hs p m)) → IsCounted h ns olds → IsCounted k after news
array_counted hs ns after olds news n f m h k p a b d c = by (part_at ns n f) (λ s. IsSized s × IsFilled hs s) (IsCounted k after news) p (λ s at j.
    let e = resized_is hs ns after n f m s at a in
    let g = one_more olds news b.note b.last in
    let w : noted_cells b.note.part ≡ part_cells s = whole_cells b.note.part s (given (part_at ns n f) s (IsWhole b.note.part) at b.whole) in
    let x = given (part_at ns n f) s (λ s. k ≡ h + part_cells (sized hs s m)) at d in omega (arith, e, g, w, x, c))
  where
    whole_cells : (q : OldPart) (s : Part Field) → IsWhole q s → noted_cells q ≡ part_cells s
    whole_cells (Element i v) s w = absurd w
    whole_cells (Held i o) s w = absurd w
    whole_cells (Entry x) s w = absurd w
    whole_cells (Whole t) s w = ap part_cells w

-- the old array ends
pub cut_counted : (hs : Objects) (ns after : Nodes) (os : List Old) (n f m h k r : ℕ) → calls.IsArray hs ns n f → IsSizedTo hs ns n f m after
    → IfSome (part_at ns n f) (λ p. k ≡ h + part_cells (sized hs p m)) → IfSome (part_at ns n f) (λ p. r ≡ part_cells p) → IsCounted h ns os → IsCounted (k - r) after os × (r ≤ k)
cut_counted hs ns after os n f m h k r p a d l c = by (part_at ns n f) (λ s. IsSized s × IsFilled hs s) (IsCounted (k - r) after os × (r ≤ k)) p (λ s at j.
    let e = resized_is hs ns after n f m s at a in
    let x = given (part_at ns n f) s (λ s. k ≡ h + part_cells (sized hs s m)) at d in
    let y = given (part_at ns n f) s (λ s. r ≡ part_cells s) at l in
    let z = part_held ns n f s at in (omega (arith, e, x, y, z, c), omega (arith, x, y, z, c)))

-- ---- new nodes, and fewer

plus_none : (n : ℕ) → n ≡ 0 + n
plus_none n = omega arith

split_nodes : (ns : Nodes) (m : ℕ) → nodes_cells ns ≡ nodes_cells (take m ns) + nodes_cells (drop m ns)
split_nodes [] zero = refl
split_nodes [] (suc m) = refl
split_nodes (x ∷ ns) zero = plus_none (nodes_cells (x ∷ ns))
split_nodes (x ∷ ns) (suc m) =
    let a = sum_by-cons node_cells x ns in
    let b = sum_by-cons node_cells x (take m ns) in
    let c = split_nodes ns m in omega (arith, a, b, c)

view_drop : (ns : List Memory) (m : ℕ) → view (drop m ns) ≡ drop m (view ns)
view_drop ns zero = refl
view_drop [] (suc m) = refl
view_drop (n ∷ ns) (suc m) = view_drop ns m

pub new_counted : (old new : List Memory) (os : List Old) (m h k : ℕ) → m ≡ length old → Extends (view old) (view new) → IsCounted h (view old) os → k ≡ h + nodes_cells (view (drop m new)) → IsCounted k (view new) os
new_counted old new os m h k l g c d =
    let s = split_nodes (view new) m in
    let t : nodes_cells (take m (view new)) ≡ nodes_cells (view old) = ap nodes_cells (ap (λ (j : ℕ). take j (view new)) (l ∙ sym (length_view old)) ∙ g.1) in
    let v : nodes_cells (view (drop m new)) ≡ nodes_cells (drop m (view new)) = ap nodes_cells (view_drop new m) in
    omega (arith, s, t, v, c, d)
  where
    length_view : (ms : List Memory) → length (view ms) ≡ length ms
    length_view [] = refl
    length_view (x ∷ ms) = ap suc (length_view ms)

pub end_counted : (ns : List Memory) (after : Nodes) (os : List Old) (m h : ℕ) → after ≡ take m (view ns) → IsCounted h (view ns) os → IsCounted (h - nodes_cells (view (drop m ns))) after os × (nodes_cells (view (drop m ns)) ≤ h)
end_counted ns after os m h e c =
    let s = split_nodes (view ns) m in
    let t = ap nodes_cells e in
    let v : nodes_cells (view (drop m ns)) ≡ nodes_cells (drop m (view ns)) = ap nodes_cells (view_drop ns m) in
    (omega (arith, s, t, v, c), omega (arith, s, t, v, c))

-- ---- the journal

pub forgotten : (ns : Nodes) (os news : List Old) (h : ℕ) → news ≡ [] → IsCounted h ns os → IsCounted (h - notes_cells os) ns news × (notes_cells os ≤ h)
forgotten ns os news h e c = let z : notes_cells news ≡ 0 = ap notes_cells e in (omega (arith, z, c), omega (arith, c))

pub integer_is : (ns : Nodes) (n f i : ℕ) (q : OldPart) → IsInline ns n f i → IfSome (part_at ns n f) (λ p. IsNote q p i) → noted_cells q ≡ 0
integer_is ns n f i q p c = by (part_at ns n f) (λ s. IsElement s i) (noted_cells q ≡ 0) p (λ s at j. integer_note q s i j (given (part_at ns n f) s (λ s. IsNote q s i) at c))

pub none_counted : (ns : Nodes) (olds news : List Old) (o : Old) (h : ℕ) → news ≡ olds ++ o ∷ [] → noted_cells o.part ≡ 0 → IsCounted h ns olds → IsCounted h ns news
none_counted ns olds news o h e z c = let g = one_more olds news o e in omega (arith, z, g, c)

-- the newest note is put back, and what it takes the place of ends
pub back_counted : (ns after : Nodes) (olds rest : List Old) (o : Old) (h r : ℕ) → olds ≡ rest ++ o ∷ [] → nodes_cells after + r ≡ nodes_cells ns + noted_cells o.part → IsCounted h ns olds → IsCounted (h - r) after rest × (r ≤ h)
back_counted ns after olds rest o h r e g c = let k = one_more rest olds o e in (omega (arith, k, g, c), omega (arith, k, g, c))

-- ---- sums that fit

pub sum_at : (r : Option ℕ) (m n : ℕ) → r ≡ Some m → IsSum r n → m ≡ n
sum_at r m n e s = subst (λ (o : Option ℕ). IsSum o n) e s

pub sum_over : (r : Option ℕ) (n : ℕ) → r ≡ None → IsSum r n → 2 ^ 64 ≤ n
sum_over r n e s = subst (λ (o : Option ℕ). IsSum o n) e s

-- ---- in memory

table_none : IsSome (table_in (Own (Any nothing))) → ⊥
table_none h = cc

pub moved_memory : (ns : List Memory) (k f : ℕ) (node new : Memory) (low : k < length ns) (e : node ≡ get_or ns k node) (r m : ℕ) (P : Part Field → Type 0) (g : Part Field → Part Field) → IsSomeAnd (part_at (view ns) k f) P → new.layout ≡ node.layout
    → IfSome (slice_get node.slots.items f) (λ s. parts_of new ≡ set (parts_of node) f (g (part_of s))) → IfSome (slice_get node.slots.items f) (λ s. part_cells (g (part_of s)) + r ≡ part_cells (part_of s) + m)
    → nodes_cells (view (set ns k new)) + r ≡ nodes_cells (view ns) + m
moved_memory ns k f node new low e r m P g h l q c = moved (view ns) (view (set ns k new)) k f r m P g h (puts_it ns k f node low e P g new h l q)
    (by_part ns k f node low e P (λ s. part_cells (g s) + r ≡ part_cells s + m) (λ s. part_cells (g s) + r ≡ part_cells s + m) (λ s at a b. b) h c)

pub ended_memory : (ns : List Memory) (k f i : ℕ) (o : Object ℕ) (q : OldPart) (node new : Memory) (low : k < length ns) (e : node ≡ get_or ns k node) → IsGeneral (view ns) k f i → new.layout ≡ node.layout
    → IfSome (slice_get node.slots.items f) (λ s. parts_of new ≡ set (parts_of node) f (with_held (part_of s) i o)) → IfSome (slice_get node.slots.items f) (λ s. IsNote q (part_of s) i)
    → nodes_cells (view (set ns k new)) + noted_cells q ≡ nodes_cells (view ns) + cells o
ended_memory ns k f i o q node new low e h l p c = ended_is (view ns) (view (set ns k new)) k f i o q h (puts_it ns k f node low e (λ s. IsHeld s i) (λ s. with_held s i o) new h l p)
    (by_part ns k f node low e (λ s. IsHeld s i) (λ s. IsNote q s i) (λ s. IsNote q s i) (λ s at a b. b) h c)

-- a key less, or all
pub gone_memory : (ns : List Memory) (k f : ℕ) (node new : Memory) (low : k < length ns) (e : node ≡ get_or ns k node) (r : ℕ) (P : Part Field → Type 0) (g : Part Field → Part Field) → IsSomeAnd (part_at (view ns) k f) P → new.layout ≡ node.layout
    → IfSome (slice_get node.slots.items f) (λ s. parts_of new ≡ set (parts_of node) f (g (part_of s))) → IfSome (slice_get node.slots.items f) (λ s. part_cells (g (part_of s)) + r ≡ part_cells (part_of s))
    → nodes_cells (view (set ns k new)) + r ≡ nodes_cells (view ns)
gone_memory ns k f node new low e r P g h l q c =
    let m = moved_memory ns k f node new low e r 0 P g h l q (more (slice_get node.slots.items f) c) in omega (arith, m)
  where
    more : (x : Option Slot) → IfSome x (λ s. part_cells (g (part_of s)) + r ≡ part_cells (part_of s)) → IfSome x (λ s. part_cells (g (part_of s)) + r ≡ part_cells (part_of s) + 0)
    more None c = c
    more (Some s) c = omega (arith, c)

pub cleared_is : (ns after : Nodes) (n f r : ℕ) → IsHash ns n f → IsTabled ns n f (λ cs. []) after → IfSome (part_at ns n f) (λ p. r ≡ part_cells p) → nodes_cells after + r ≡ nodes_cells ns
cleared_is ns after n f r p a c = by (part_at ns n f) (λ s. IsSome (table_in s)) (nodes_cells after + r ≡ nodes_cells ns) p (λ s at j.
    let e : nodes_cells after ≡ nodes_cells (with_part n f (tabled (λ cs. []) s) ns) = ap nodes_cells (given (part_at ns n f) s (λ s. after ≡ with_part n f (tabled (λ cs. []) s) ns) at a) in
    let k = part_changed ns n f s (tabled (λ cs. []) s) at in
    let z = empty_cells s j in
    let x = given (part_at ns n f) s (λ s. r ≡ part_cells s) at c in omega (arith, e, k, z, x))
  where
    empty_cells : (s : Part Field) → IsSome (table_in s) → part_cells (tabled (λ cs. []) s) ≡ 0
    empty_cells (Own (One v)) j = refl
    empty_cells (Own (Many kind x vs)) j = refl
    empty_cells (Own (Any o)) j = absurd (table_none j)
    empty_cells (Own (Anys x os)) j = absurd (table_none j)
    empty_cells (Own (Table cs)) j = nothing_held
    empty_cells (Child c) j = refl
    empty_cells (Children cs) j = refl
