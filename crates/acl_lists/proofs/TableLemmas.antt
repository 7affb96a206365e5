-- Tables that grow and are cut, and their lists.
use Rattle.std.specs.Prelude.{◌≡◌, ℕ, zero, suc, ◌+◌, ◌<◌, ◌≤◌, List, [], ◌∷◌, ◌++◌, length, take, drop, get_or, Some, slice_get, refl}
use Rattle.std.proofs.Common.{sym, ap, ◌∙◌, arith, subst, length-append, append_assoc, inl, inr}
use Rattle.std.proofs.lemmas.List.{get_or_append_left, append-nil}
use Rattle.std.proofs.Math.Seq.{get_or-append_seam}
use Rattle.model_symbols.proofs.Positions.{slice_get-push}
use Rattle.model_objects.specs.Object.{Object}
use Rattle.model_lists.specs.Lists.{StobjList, Value, Pairs, End, Item, pairs_of, scalar_of}
use Rattle.model_prims.specs.Kinds.{by_number}
use Rattle.acl_lists.specs.declared.cell.ListId.{ListId}
use Rattle.acl_lists.specs.declared.cell.Cell.{Cell}
use Rattle.acl_lists.specs.declared.cell.Cell.TheVariants as cell
use Rattle.acl_lists.specs.Tables.{list_in, list_over, lists_after, forest, list_at, StandsOver, IsTable, Grown}

-- ---- what holds of every table

pub empty_table : IsTable []
empty_table = record { over = λ i t h. cc }

pub table_push : (ts : List Cell) (t : Cell) → IsTable ts → StandsOver (length ts) t → IsTable (ts ++ t ∷ [])
table_push ts t i s = record {
  over = λ n u h. elim (slice_get-push ts t n u h) [
    | inl a ↦ i.over n u a
    | inr b ↦ subst (λ m. StandsOver m u) (sym b.0) (subst (λ v. StandsOver (length ts) v) (sym b.1) s)
  ];
}

get_taken : {X : Type 0} (n : ℕ) (xs : List X) (i : ℕ) (x : X) → slice_get (take n xs) i ≡ Some x → slice_get xs i ≡ Some x
get_taken zero xs i x h = cc
get_taken (suc n) [] i x h = cc
get_taken (suc n) (y ∷ xs) zero x h = h
get_taken (suc n) (y ∷ xs) (suc i) x h = get_taken n xs i x h

pub table_take : (n : ℕ) (ts : List Cell) → IsTable ts → IsTable (take n ts)
table_take n ts i = record { over = λ k t h. i.over k t (get_taken n ts k t h) }

-- ---- growth

take_left : {X : Type 0} (n : ℕ) (xs ys : List X) → n ≤ length xs → take n (xs ++ ys) ≡ take n xs
take_left zero xs ys l = refl
take_left (suc n) [] ys l = absurd (omega arith)
take_left (suc n) (x ∷ xs) ys l = ap (λ zs. x ∷ zs) (take_left n xs ys (omega arith))

take_all : {X : Type 0} (xs : List X) → take (length xs) xs ≡ xs
take_all [] = refl
take_all (x ∷ xs) = ap (λ ys. x ∷ ys) (take_all xs)

take_less : {X : Type 0} (m n : ℕ) (xs : List X) → m ≤ n → take m (take n xs) ≡ take m xs
take_less zero n xs l = refl
take_less (suc m) zero xs l = absurd (omega arith)
take_less (suc m) (suc n) [] l = refl
take_less (suc m) (suc n) (x ∷ xs) l = ap (λ ys. x ∷ ys) (take_less m n xs (omega arith))

take_drop : {X : Type 0} (n : ℕ) (xs : List X) → xs ≡ take n xs ++ drop n xs
take_drop zero xs = refl
take_drop (suc n) [] = refl
take_drop (suc n) (x ∷ xs) = ap (λ ys. x ∷ ys) (take_drop n xs)

pub grown_same : (ts : List Cell) → Grown ts ts
grown_same ts = record { longer = omega arith; same = take_all ts }

pub grown_none : (old new : List Cell) → new ≡ old → Grown old new
grown_none old new e = rw e (grown_same old)

pub grown_push : (old new : List Cell) (t : Cell) → new ≡ old ++ t ∷ [] → Grown old new
grown_push old new t e = rw e (record { longer = omega (arith, length-append old (t ∷ [])); same = take_left (length old) old (t ∷ []) (omega arith) ∙ take_all old })

pub grown_then : (a b c : List Cell) → Grown a b → Grown b c → Grown a c
grown_then a b c p q = record {
  longer = omega (arith, p.longer, q.longer);
  same = sym (take_less (length a) (length b) c p.longer) ∙ (ap (take (length a)) q.same ∙ p.same);
}

-- ---- lists

after_join : (done : List (StobjList ℕ)) (ts us : List Cell) → lists_after done (ts ++ us) ≡ lists_after (lists_after done ts) us
after_join done [] us = refl
after_join done (t ∷ ts) us = after_join (done ++ list_over done t ∷ []) ts us

after_length : (done : List (StobjList ℕ)) (ts : List Cell) → length (lists_after done ts) ≡ length done + length ts
after_length done [] = omega arith
after_length done (u ∷ ts) = omega (arith, after_length (done ++ list_over done u ∷ []) ts, length-append done (list_over done u ∷ []))

after_earlier : (done : List (StobjList ℕ)) (ts : List Cell) (i : ℕ) → i < length done → get_or (lists_after done ts) i End ≡ get_or done i End
after_earlier done [] i l = refl
after_earlier done (t ∷ ts) i l =
    after_earlier (done ++ list_over done t ∷ []) ts i (omega (arith, length-append done (list_over done t ∷ [])))
    ∙ get_or_append_left done (list_over done t ∷ []) End i l

pub forest_length : (ts : List Cell) → length (forest ts) ≡ length ts
unfolding forest
forest_length ts = let e : length (lists_after [] ts) ≡ 0 + length ts = after_length [] ts in omega (arith, e)

forest_join : (ts us : List Cell) → forest (ts ++ us) ≡ lists_after (forest ts) us
unfolding forest
forest_join ts us = after_join [] ts us

-- a number of the table stands for the same list in a grown table
pub list_later : (old new : List Cell) (t : ListId) → Grown old new → t.0 < length old → list_at new t ≡ list_at old t
list_later old new t g l =
    let e : new ≡ old ++ drop (length old) new = take_drop (length old) new ∙ ap (λ ts. ts ++ drop (length old) new) g.same in
    let n : length (forest old) ≡ length old = forest_length old in
    ap (λ ts. get_or (forest ts) t.0 End) e
    ∙ (ap (λ ts. get_or ts t.0 End) (forest_join old (drop (length old) new))
    ∙ after_earlier (forest old) (drop (length old) new) t.0 (omega (arith, n)))

-- a number stands for its cell over the lists before it
pub list_seam : (before after : List Cell) (c : Cell) (t : ListId) → t.0 ≡ length before → list_at (before ++ c ∷ after) t ≡ list_over (forest before) c
list_seam before after c t e =
    let n : length (forest before) ≡ length before = forest_length before in
    let m : length (forest before ++ list_over (forest before) c ∷ []) ≡ length (forest before) + 1 = length-append (forest before) (list_over (forest before) c ∷ []) in
    ap (λ ts. get_or ts t.0 End) (forest_join before (c ∷ after))
    ∙ (after_earlier (forest before ++ list_over (forest before) c ∷ []) after t.0 (omega (arith, n, m, e))
    ∙ (ap (λ i. get_or (forest before ++ list_over (forest before) c ∷ []) i End) (e ∙ sym n)
    ∙ get_or-append_seam (forest before) (list_over (forest before) c) [] End))

pub list_pushed : (old new : List Cell) (c : Cell) (t : ListId) → new ≡ old ++ c ∷ [] → t.0 ≡ length old → list_at new t ≡ list_over (forest old) c
list_pushed old new c t e n = rw e (list_seam old [] c t n)

-- ---- a look at a cell

get_split : (n : ℕ) (ts : List Cell) (u : Cell) → slice_get ts n ≡ Some u → (ts ≡ take n ts ++ u ∷ drop (suc n) ts) × (n ≡ length (take n ts))
get_split n [] u e = cc
get_split zero (t ∷ ts) u e = let s : t ≡ u = cc in (ap (λ v. v ∷ ts) s, refl)
get_split (suc n) (t ∷ ts) u e = let r = get_split n ts u e in (ap (λ vs. t ∷ vs) r.0, ap suc r.1)

there : (ts : List Cell) (u : Cell) (t : ListId) → slice_get ts t.0 ≡ Some u → list_at ts t ≡ list_over (forest (take t.0 ts)) u
there ts u t e =
    let r = get_split t.0 ts u e in
    ap (λ vs. list_at vs t) r.0 ∙ list_seam (take t.0 ts) (drop (suc t.0) ts) u t r.1

-- ---- parts

pub last_within : (old new : List Cell) (u : Cell) (t : ListId) → new ≡ old ++ u ∷ [] → t.0 ≡ length old → t.0 < length new
last_within old new u t e n = rw e (omega (arith, n, length-append old (u ∷ [])))

-- ---- over the lists of the table

get_early : (done : List (StobjList ℕ)) (more : List (StobjList ℕ)) (n : ℕ) (t : ListId) → n ≤ length done → t.0 < n → list_in (done ++ more) t ≡ list_in done t
get_early done more n t l b = get_or_append_left done more End t.0 (omega (arith, l, b))

over_early : (done more : List (StobjList ℕ)) (n : ℕ) (u : Cell) → n ≤ length done → StandsOver n u → list_over (done ++ more) u ≡ list_over done u
over_early done more n (cell.Value v) l o = refl
over_early done more n cell.NoPairs l o = refl
over_early done more n (cell.Pair key value older) l o = rw (get_early done more n key l o.0, get_early done more n value l o.1, get_early done more n older l o.2) refl
over_early done more n cell.End l o = refl
over_early done more n (cell.Item first rest) l o = rw (get_early done more n first l o.0, get_early done more n rest l o.1) refl

after_rest : (done : List (StobjList ℕ)) (ts : List Cell) → (more : List (StobjList ℕ)) × (lists_after done ts ≡ done ++ more)
after_rest done [] = ([], sym (append-nil done))
after_rest done (t ∷ ts) =
    let r = after_rest (done ++ list_over done t ∷ []) ts in
    (list_over done t ∷ r.0, r.1 ∙ append_assoc done (list_over done t ∷ []) r.0)

pub list_over_table : (ts : List Cell) (u : Cell) (t : ListId) → IsTable ts → slice_get ts t.0 ≡ Some u → list_at ts t ≡ list_over (forest ts) u
list_over_table ts u t i e =
    let s = get_split t.0 ts u e in
    let r = after_rest (forest (take t.0 ts)) (u ∷ drop (suc t.0) ts) in
    let n : length (forest (take t.0 ts)) ≡ length (take t.0 ts) = forest_length (take t.0 ts) in
    let all : forest ts ≡ forest (take t.0 ts) ++ r.0 = ap forest s.0 ∙ (forest_join (take t.0 ts) (u ∷ drop (suc t.0) ts) ∙ r.1) in
    there ts u t e
    ∙ (sym (over_early (forest (take t.0 ts)) r.0 t.0 u (omega (arith, n, s.1)) (i.over t.0 u e))
    ∙ ap (λ vs. list_over vs u) (sym all))

-- ---- by what a look gives

pub item_seen : (cs : List Cell) (n first rest : ListId) → IsTable cs → slice_get cs n.0 ≡ Some (cell.Item first rest) → list_at cs n ≡ Item (list_at cs first) (list_at cs rest)
item_seen cs n first rest t e = list_over_table cs (cell.Item first rest) n t e

pub item_below : (cs : List Cell) (n first rest : ListId) → IsTable cs → slice_get cs n.0 ≡ Some (cell.Item first rest) → (first.0 < n.0) × (rest.0 < n.0)
item_below cs n first rest t e = t.over n.0 (cell.Item first rest) e

pub value_seen : (cs : List Cell) (n : ListId) (o : Object ℕ) → IsTable cs → slice_get cs n.0 ≡ Some (cell.Value o) → list_at cs n ≡ Value o
value_seen cs n o t e = list_over_table cs (cell.Value o) n t e

pub no_pairs_seen : (cs : List Cell) (n : ListId) → IsTable cs → slice_get cs n.0 ≡ Some cell.NoPairs → list_at cs n ≡ Pairs []
no_pairs_seen cs n t e = list_over_table cs cell.NoPairs n t e

pub pair_seen : (cs : List Cell) (n : ListId) (key value older : ListId) → IsTable cs → slice_get cs n.0 ≡ Some (cell.Pair key value older)
    → list_at cs n ≡ Pairs ((scalar_of by_number (list_at cs key), scalar_of by_number (list_at cs value)) ∷ pairs_of (list_at cs older))
pair_seen cs n key value older t e = list_over_table cs (cell.Pair key value older) n t e

pub end_seen : (cs : List Cell) (n : ListId) → IsTable cs → slice_get cs n.0 ≡ Some cell.End → list_at cs n ≡ End
end_seen cs n t e = list_over_table cs cell.End n t e
