-- The objects in scope as values, the innermost first.
use Rattle.std.specs.Prelude.{◌≡◌, ℕ, zero, suc, ◌+◌, ◌-◌, ◌<◌, ◌≤◌, List, [], ◌∷◌, ◌++◌, length, drop, Some, slice_get, refl}
use Rattle.std.proofs.Common.{sym, ap, ◌∙◌, arith, subst}
use Rattle.std.proofs.lemmas.List.{append_assoc}
use Rattle.model_eval.specs.Outcomes.{Stobjs, StobjNamed}
use Rattle.model_eval.specs.Outcomes as outcomes
use Rattle.model_slots.specs.Laws.{Holds}
use Rattle.model_live_forms.specs.Trees.{live_values}
use Rattle.acl_heap.specs.Objects.{Objects}
use Rattle.acl_terms.specs.declared.outcome.Shown.{Shown}
use Rattle.acl_terms.specs.declared.outcome.Shown.TheVariants as shown
use Rattle.acl_keep.specs.Seen.{seen_shown, all_seen}
use Rattle.acl_lists.specs.declared.cell.Cell.{Cell}
use Rattle.acl_list_scope.specs.declared.binding.Binding.{Binding}
use Rattle.acl_list_scope.specs.Scopes.{last_first, named, scope}
use Rattle.acl_machine.specs.Cells.{cell, memory_of}
use Rattle.acl_live_lists.specs.Live.{object_bound, objects_bound}

-- ---- in order

pub first_behind : {X Y : Type 0} (f : X → Y) (ys : List Y) (xs : List X) → last_first f ys xs ≡ last_first f [] xs ++ ys
first_behind f ys [] = refl
first_behind f ys (x ∷ xs) =
    first_behind f (f x ∷ ys) xs ∙ (sym (append_assoc (last_first f [] xs) (f x ∷ []) ys) ∙ ap (λ zs. zs ++ ys) (sym (first_behind f (f x ∷ []) xs)))

drop_at : {X : Type 0} (k : ℕ) (xs : List X) (x : X) → slice_get xs k ≡ Some x → drop k xs ≡ x ∷ drop (suc k) xs
drop_at k [] x e = cc
drop_at zero (y ∷ xs) x e = let q : y ≡ x = cc in ap (λ z. z ∷ xs) q
drop_at (suc k) (y ∷ xs) x e = drop_at k xs x e

drop_none : {X : Type 0} (xs : List X) → drop (length xs) xs ≡ []
drop_none [] = refl
drop_none (x ∷ xs) = drop_none xs

one_before : (bs : List Binding) (done : ℕ) (b : Binding) → done < length bs → slice_get bs (length bs - 1 - done) ≡ Some b → drop (length bs - (done + 1)) bs ≡ b ∷ drop (length bs - done) bs
one_before bs done b l e =
    let k : length bs - (done + 1) ≡ length bs - 1 - done = omega (arith, l) in
    let n : suc (length bs - 1 - done) ≡ length bs - done = omega (arith, l) in
    ap (λ m. drop m bs) k ∙ (drop_at (length bs - 1 - done) bs b e ∙ ap (λ m. b ∷ drop m bs) n)

-- ---- the loop

pub objects_none : (vs : List Shown) (bs : List Binding) → vs ≡ [] → vs ≡ objects_bound (drop (length bs - 0) bs)
objects_none vs bs e =
    let z : length bs - 0 ≡ length bs = omega arith in
    e ∙ ap objects_bound (sym (ap (λ m. drop m bs) z ∙ drop_none bs))

pub objects_more : (vs new : List Shown) (bs : List Binding) (done : ℕ) (b : Binding) → done < length bs → slice_get bs (length bs - 1 - done) ≡ Some b → new ≡ vs ++ shown.Object b.variable ∷ []
    → vs ≡ objects_bound (drop (length bs - done) bs) → new ≡ objects_bound (drop (length bs - (done + 1)) bs)
objects_more vs new bs done b l g e i =
    e ∙ (ap (λ xs. xs ++ shown.Object b.variable ∷ []) i
    ∙ (sym (first_behind object_bound (shown.Object b.variable ∷ []) (drop (length bs - done) bs)) ∙ ap objects_bound (sym (one_before bs done b l g))))

pub objects_all : (vs : List Shown) (bs : List Binding) (done : ℕ) → length bs ≤ done → vs ≡ objects_bound (drop (length bs - done) bs) → vs ≡ objects_bound bs
objects_all vs bs done l i = let z : length bs - done ≡ 0 = omega (arith, l) in i ∙ ap (λ m. objects_bound (drop m bs)) z

-- ---- as what they stand for

seen_on : (h : Objects) (cs : List Cell) (bs : List Binding) (vs : List Shown) (os : Stobjs ℕ) → all_seen h vs ≡ live_values os → all_seen h (last_first object_bound vs bs) ≡ live_values (last_first (named cs) os bs)
seen_on h cs [] vs os e = e
seen_on h cs (b ∷ bs) vs os e = seen_on h cs bs (object_bound b ∷ vs) (named cs b ∷ os) (ap (λ ws. StobjNamed b.variable.0 ∷ ws) e)

pub objects_seen : (h : Objects) (cs : List Cell) (bs : List Binding) → all_seen h (objects_bound bs) ≡ live_values (scope cs bs)
unfolding scope
objects_seen h cs bs = seen_on h cs bs [] [] refl

holds_from : (h : Objects) (vs : List Shown) (window : ℕ → outcomes.Shown ℕ) (s : ℕ) → ((i : ℕ) → window (s + i) ≡ seen_shown h (cell vs i)) → Holds window s (all_seen h vs)
holds_from h [] window s same = tt
holds_from h (v ∷ vs) window s same =
    let here : s ≡ s + 0 = omega arith in
    (ap window here ∙ same 0, holds_from h vs window (s + 1) (λ i. let next : (s + 1) + i ≡ s + suc i = omega arith in ap window next ∙ same (suc i)))

-- they lie in the first slots
pub objects_lie : (h : Objects) (cs : List Cell) (bs : List Binding) → Holds (memory_of h (objects_bound bs)) 0 (live_values (scope cs bs))
objects_lie h cs bs =
    subst (λ ws. Holds (memory_of h (objects_bound bs)) 0 ws) (objects_seen h cs bs)
    (holds_from h (objects_bound bs) (memory_of h (objects_bound bs)) 0 (λ i. let e : 0 + i ≡ i = omega arith in ap (memory_of h (objects_bound bs)) e))
