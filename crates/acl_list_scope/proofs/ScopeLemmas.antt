-- Bindings, and what they stand for.
use Rattle.std.specs.Prelude.{◌≡◌, ◌≢◌, ℕ, zero, suc, ◌+◌, ◌-◌, ◌≤◌, ◌⊎◌, List, [], ◌∷◌, ◌++◌, length, take, drop, Option, Some, None, slice_get, refl}
use Rattle.std.proofs.Common.{sym, ap, ◌∙◌, arith, subst, inl, inr, set}
use Rattle.std.proofs.lemmas.Bool.Decides.{nat_tests}
use Rattle.std.proofs.lemmas.List.{take-append-drop}
use Rattle.model_symbols.proofs.Positions.{slice_get-push}
use Rattle.acl_syms.proofs.GrowthLemmas.{slice_get-set}
use Rattle.model_lists.specs.Lists.{StobjList, End}
use Rattle.model_eval.specs.Outcomes.{Stobjs}
use Rattle.model_eval.specs.Variables.{list_of, with_list}
use Rattle.acl_base.specs.declared.SymId.{SymId}
use Rattle.acl_lists.specs.declared.cell.ListId.{ListId}
use Rattle.acl_lists.specs.declared.cell.Cell.{Cell}
use Rattle.acl_lists.specs.Tables.{Grown}
use Rattle.acl_lists.specs.Pairs.{Within}
use Rattle.acl_lists.proofs.TableLemmas.{list_later}
use Rattle.acl_list_scope.specs.declared.binding.Binding.{Binding}
use Rattle.acl_list_parts.specs.Parts.{list_given}
use Rattle.acl_list_scope.specs.Scopes.{last_first, named, scope, AreWithin, Lacks, IsLast}

-- ---- in order

pub first_join : {X Y : Type 0} (f : X → Y) (ys : List Y) (xs zs : List X) → last_first f ys (xs ++ zs) ≡ last_first f (last_first f ys xs) zs
first_join f ys [] zs = refl
first_join f ys (x ∷ xs) zs = first_join f (f x ∷ ys) xs zs

drop_one : {X : Type 0} (n : ℕ) (xs : List X) → drop (suc n) xs ≡ drop 1 (drop n xs)
drop_one zero xs = refl
drop_one (suc n) [] = refl
drop_one (suc n) (x ∷ xs) = drop_one n xs

pub first_without : {X Y : Type 0} (f : X → Y) (ys : List Y) (xs : List X) → drop (length xs) (last_first f ys xs) ≡ ys
first_without f ys [] = refl
first_without f ys (x ∷ xs) =
    let n : length (x ∷ xs) ≡ suc (length xs) = omega arith in
    ap (λ k. drop k (last_first f (f x ∷ ys) xs)) n ∙ (drop_one (length xs) (last_first f (f x ∷ ys) xs) ∙ ap (drop 1) (first_without f (f x ∷ ys) xs))

first_long : {X Y : Type 0} (f : X → Y) (ys : List Y) (xs : List X) → length (last_first f ys xs) ≡ length xs + length ys
first_long f ys [] = omega arith
first_long f ys (x ∷ xs) = omega (arith, first_long f (f x ∷ ys) xs)

pub drop_all : {X : Type 0} (n : ℕ) (xs : List X) → length xs ≤ n → drop n xs ≡ []
drop_all zero [] l = refl
drop_all zero (x ∷ xs) l = absurd (omega (arith, l))
drop_all (suc n) [] l = refl
drop_all (suc n) (x ∷ xs) l = drop_all n xs (omega (arith, l))

-- ---- the last binding of a variable

pub get_here : {X : Type 0} (xs : List X) (i : ℕ) (x : X) → slice_get xs i ≡ Some x → drop i xs ≡ x ∷ drop (suc i) xs
get_here [] i x h = cc
get_here (y ∷ xs) zero x h = let e : y ≡ x = cc in ap (λ z. z ∷ xs) e
get_here (y ∷ xs) (suc i) x h = get_here xs i x h

long_taken : {X : Type 0} (xs : List X) (i : ℕ) (x : X) → slice_get xs i ≡ Some x → i ≡ length (take i xs)
long_taken [] i x h = cc
long_taken (y ∷ xs) zero x h = refl
long_taken (y ∷ xs) (suc i) x h = ap suc (long_taken xs i x h)

pub lacks_none : (x : ℕ) (bs : List Binding) → Lacks x (drop (length bs) bs)
lacks_none x [] = tt
lacks_none x (b ∷ bs) = lacks_none x bs

pub lacks_more : (x : ℕ) (bs : List Binding) (i : ℕ) (b : Binding) → slice_get bs i ≡ Some b → (x ≢ b.variable.0) → Lacks x (drop (i + 1) bs) → Lacks x (drop i bs)
lacks_more x bs i b h n l = let e : suc i ≡ i + 1 = omega arith in subst (Lacks x) (sym (get_here bs i b h)) (n, subst (λ k. Lacks x (drop k bs)) (sym e) l)

pub last_found : (x : ℕ) (bs : List Binding) (i : ℕ) (b : Binding) → slice_get bs i ≡ Some b → x ≡ b.variable.0 → Lacks x (drop (i + 1) bs) → IsLast x bs i
last_found x bs i b h e l = record {
  before = take i bs;
  binding = b;
  after = drop (i + 1) bs;
  whole = let e : suc i ≡ i + 1 = omega arith in sym (take-append-drop i bs) ∙ ap (λ cs. take i bs ++ cs) (get_here bs i b h ∙ ap (λ k. b ∷ drop k bs) e);
  at = long_taken bs i b h;
  same = e;
  lacks = l;
}

list_behind : (cs : List Cell) (x : ℕ) (os : Stobjs ℕ) (bs : List Binding) → Lacks x bs → list_of (last_first (named cs) os bs) x ≡ list_of os x
list_behind cs x os [] l = refl
list_behind cs x os (b ∷ bs) l = list_behind cs x (named cs b ∷ os) bs l.1 ∙ other cs x os b l.0 where
  other : (cs : List Cell) (x : ℕ) (os : Stobjs ℕ) (b : Binding) → (x ≢ b.variable.0) → list_of (named cs b ∷ os) x ≡ list_of os x
  other cs x os b n = grind (arith, nat_tests)

with_behind : (cs : List Cell) (x : ℕ) (l : StobjList ℕ) (os : Stobjs ℕ) (bs : List Binding) → Lacks x bs → with_list x l (last_first (named cs) os bs) ≡ last_first (named cs) (with_list x l os) bs
with_behind cs x l os [] h = refl
with_behind cs x l os (b ∷ bs) h = with_behind cs x l (named cs b ∷ os) bs h.1 ∙ ap (λ ys. last_first (named cs) ys bs) (other cs x l os b h.0) where
  other : (cs : List Cell) (x : ℕ) (l : StobjList ℕ) (os : Stobjs ℕ) (b : Binding) → (x ≢ b.variable.0) → with_list x l (named cs b ∷ os) ≡ named cs b ∷ with_list x l os
  other cs x l os b n = grind (arith, nat_tests)

here : (cs : List Cell) (x : ℕ) (os : Stobjs ℕ) (b : Binding) → x ≡ b.variable.0 → list_of (named cs b ∷ os) x ≡ list_given cs b.list
here cs x os b e = grind (arith, nat_tests)

here_with : (cs : List Cell) (x : ℕ) (l : StobjList ℕ) (os : Stobjs ℕ) (b : Binding) → x ≡ b.variable.0 → with_list x l (named cs b ∷ os) ≡ (b.variable.0, l) ∷ os
here_with cs x l os b e = grind (arith, nat_tests)

get_seam : {X : Type 0} (xs ys : List X) (x y : X) (i : ℕ) → i ≡ length xs → slice_get (xs ++ x ∷ ys) i ≡ Some y → y ≡ x
get_seam [] ys x y i e h = let z : i ≡ zero = e in let k : slice_get (x ∷ ys) zero ≡ Some y = subst (λ j. slice_get (x ∷ ys) j ≡ Some y) z h in cc
get_seam (z ∷ xs) ys x y zero e h = absurd (omega (arith, e))
get_seam (z ∷ xs) ys x y (suc i) e h = get_seam xs ys x y i (omega (arith, e)) h

set_seam : {X : Type 0} (xs ys : List X) (x y : X) → set (xs ++ x ∷ ys) (length xs) y ≡ xs ++ y ∷ ys
set_seam [] ys x y = refl
set_seam (z ∷ xs) ys x y = ap (λ k. z ∷ k) (set_seam xs ys x y)

split_scope : (cs : List Cell) (before : List Binding) (b : Binding) (after : List Binding) → scope cs (before ++ b ∷ after) ≡ last_first (named cs) (named cs b ∷ last_first (named cs) [] before) after
unfolding scope
split_scope cs before b after = first_join (named cs) [] before (b ∷ after)

pub list_found : (cs : List Cell) (bs : List Binding) (x : ℕ) (i : ℕ) (b : Binding) → IsLast x bs i → slice_get bs i ≡ Some b → list_given cs b.list ≡ list_of (scope cs bs) x
list_found cs bs x i b l h =
    let same : b ≡ l.binding = get_seam l.before l.after l.binding b i l.at (subst (λ ys. slice_get ys i ≡ Some b) l.whole h) in
    sym (ap (λ ys. list_of (scope cs ys) x) l.whole
    ∙ (ap (λ ys. list_of ys x) (split_scope cs l.before l.binding l.after)
    ∙ (list_behind cs x _ l.after l.lacks
    ∙ (here cs x (last_first (named cs) [] l.before) l.binding l.same ∙ ap (λ (c : Binding). list_given cs c.list) (sym same)))))

pub list_lacking : (cs : List Cell) (bs : List Binding) (x : ℕ) → Lacks x bs → End ≡ list_of (scope cs bs) x
unfolding scope
list_lacking cs bs x l = sym (list_behind cs x [] bs l)

pub list_written : (cs : List Cell) (old new : List Binding) (x : SymId) (n : Option ListId) (i : ℕ) → IsLast x.0 old i
    → new ≡ set old i (record { variable = x; list = n }) → scope cs new ≡ with_list x.0 (list_given cs n) (scope cs old)
list_written cs old new x n i l e =
    let b : Binding = record { variable = x; list = n } in
    let whole : new ≡ l.before ++ b ∷ l.after =
    e ∙ (ap (λ ys. set ys i b) l.whole ∙ (ap (λ j. set (l.before ++ l.binding ∷ l.after) j b) l.at ∙ set_seam l.before l.after l.binding b)) in
    ap (scope cs) whole
    ∙ (split_scope cs l.before b l.after
    ∙ (ap (λ y. last_first (named cs) ((y, list_given cs n) ∷ last_first (named cs) [] l.before) l.after) l.same
    ∙ (ap (λ ys. last_first (named cs) ys l.after) (sym (here_with cs x.0 (list_given cs n) (last_first (named cs) [] l.before) l.binding l.same))
    ∙ (sym (with_behind cs x.0 (list_given cs n) _ l.after l.lacks)
    ∙ (ap (with_list x.0 (list_given cs n)) (sym (split_scope cs l.before l.binding l.after))
    ∙ ap (λ ys. with_list x.0 (list_given cs n) (scope cs ys)) (sym l.whole))))))

pub nothing_written : (cs : List Cell) (bs : List Binding) (x : ℕ) (l : StobjList ℕ) → Lacks x bs → scope cs bs ≡ with_list x l (scope cs bs)
unfolding scope
nothing_written cs bs x l h = sym (with_behind cs x l [] bs h)

-- ---- numbers of the table

pub within_found : (cs : List Cell) (bs : List Binding) (i : ℕ) (b : Binding) → AreWithin cs bs → slice_get bs i ≡ Some b → Within cs b.list
within_found cs bs i b w h = w.each i b h

pub within_written : (cs : List Cell) (old new : List Binding) (x : SymId) (n : Option ListId) (i : ℕ) → AreWithin cs old → Within cs n
    → new ≡ set old i (record { variable = x; list = n }) → AreWithin cs new
within_written cs old new x n i w h e = record {
  each = λ j b g. elim (slice_get-set old i (record { variable = x; list = n }) j b (subst (λ ys. slice_get ys j ≡ Some b) e g)) [
    | inl a ↦ subst (λ (c : Binding). Within cs c.list) (sym a.1) h
    | inr o ↦ w.each j b o.0
  ];
}

-- ---- one more, and some fewer

pub scope_push : (cs : List Cell) (old new : List Binding) (b : Binding) → new ≡ old ++ b ∷ [] → scope cs new ≡ named cs b ∷ scope cs old
unfolding scope
scope_push cs old new b e = ap (last_first (named cs) []) e ∙ first_join (named cs) [] old (b ∷ [])

pub within_push : (cs : List Cell) (old new : List Binding) (b : Binding) → AreWithin cs old → Within cs b.list → new ≡ old ++ b ∷ [] → AreWithin cs new
within_push cs old new b w h e = record {
  each = λ j c g. elim (slice_get-push old b j c (subst (λ ys. slice_get ys j ≡ Some c) e g)) [
    | inl a ↦ w.each j c a
    | inr o ↦ subst (λ (d : Binding). Within cs d.list) (sym o.1) h
  ];
}

get_taken : {X : Type 0} (n : ℕ) (xs : List X) (i : ℕ) (x : X) → slice_get (take n xs) i ≡ Some x → slice_get xs i ≡ Some x
get_taken zero xs i x h = cc
get_taken (suc n) [] i x h = cc
get_taken (suc n) (y ∷ xs) zero x h = h
get_taken (suc n) (y ∷ xs) (suc i) x h = get_taken n xs i x h

pub within_cut : (cs : List Cell) (old new : List Binding) (n : ℕ) → AreWithin cs old → new ≡ take n old → AreWithin cs new
within_cut cs old new n w e = record { each = λ j b g. w.each j b (get_taken n old j b (subst (λ ys. slice_get ys j ≡ Some b) e g)) }

scope_cut_at : (cs : List Cell) (bs : List Binding) (m n : ℕ) → length (drop m bs) ≡ n → scope cs (take m bs) ≡ drop n (scope cs bs)
unfolding scope
scope_cut_at cs bs m n l =
    sym (ap (drop n) (ap (last_first (named cs) []) (sym (take-append-drop m bs)) ∙ first_join (named cs) [] (take m bs) (drop m bs))
    ∙ (ap (λ k. drop k (last_first (named cs) (last_first (named cs) [] (take m bs)) (drop m bs))) (sym l)
    ∙ first_without (named cs) (last_first (named cs) [] (take m bs)) (drop m bs)))

scope_none : (cs : List Cell) (bs : List Binding) (n : ℕ) → length bs ≤ n → [] ≡ drop n (scope cs bs)
unfolding scope
scope_none cs bs n l = let e : length (last_first (named cs) [] bs) ≡ length bs + 0 = first_long (named cs) [] bs in sym (drop_all n (last_first (named cs) [] bs) (omega (arith, e, l)))

long_left : {X : Type 0} (m : ℕ) (xs : List X) → length (drop m xs) ≡ length xs - m
long_left zero xs = omega arith
long_left (suc m) [] = omega arith
long_left (suc m) (x ∷ xs) = omega (arith, long_left m xs)

less_or : (n m : ℕ) → (n ≤ m) ⊎ (m ≤ n)
less_or zero m = inl (omega arith)
less_or (suc n) zero = inr (omega arith)
less_or (suc n) (suc m) = elim (less_or n m) [ inl a ↦ inl (omega (arith, a)) | inr b ↦ inr (omega (arith, b)) ]

pub scope_cut : (cs : List Cell) (old new : List Binding) (m n : ℕ) → m ≡ length old - n → new ≡ take m old → scope cs new ≡ drop n (scope cs old)
unfolding scope
scope_cut cs old new m n k e = elim (less_or n (length old)) [
  | inl few ↦ let l : length (drop m old) ≡ n = omega (arith, long_left m old, k, few) in ap (scope cs) e ∙ scope_cut_at cs old m n l
  | inr all ↦ let z : m ≡ zero = omega (arith, k, all) in ap (scope cs) (e ∙ ap (λ j. take j old) z) ∙ scope_none cs old n all
]

pub within_none : (cs : List Cell) → AreWithin cs []
within_none cs = record { each = λ i b h. cc }

pub scope_empty : (cs : List Cell) → scope cs [] ≡ []
unfolding scope
scope_empty cs = refl

-- ---- a table that grows

given_later : (old new : List Cell) (n : Option ListId) → Grown old new → Within old n → list_given new n ≡ list_given old n
given_later old new None g w = refl
given_later old new (Some n) g w = list_later old new n g w

rest_within : (cs : List Cell) (b : Binding) (bs : List Binding) → AreWithin cs (b ∷ bs) → AreWithin cs bs
rest_within cs b bs w = record { each = λ i c h. w.each (suc i) c h }

later_first : (old new : List Cell) (os : Stobjs ℕ) (bs : List Binding) → Grown old new → AreWithin old bs → last_first (named new) os bs ≡ last_first (named old) os bs
later_first old new os [] g w = refl
later_first old new os (b ∷ bs) g w =
    ap (λ l. last_first (named new) ((b.variable.0, l) ∷ os) bs) (given_later old new b.list g (w.each zero b refl))
    ∙ later_first old new (named old b ∷ os) bs g (rest_within old b bs w)

pub scope_later : (old new : List Cell) (bs : List Binding) → Grown old new → AreWithin old bs → scope new bs ≡ scope old bs
unfolding scope
scope_later old new bs g w = later_first old new [] bs g w

still : (old new : List Cell) (n : Option ListId) → Grown old new → Within old n → Within new n
still old new None g w = tt
still old new (Some n) g w = omega (arith, g.longer, w)

pub within_later : (old new : List Cell) (bs : List Binding) → Grown old new → AreWithin old bs → AreWithin new bs
within_later old new bs g w = record { each = λ i b h. still old new b.list g (w.each i b h) }
