-- A round that changes anything makes one more function known.
use Rattle.std.proofs.Common.{◌≡◌, ℕ, zero, suc, ◌+◌, ◌<◌, ◌≤◌, List, [], ◌∷◌, ◌++◌, length, refl, ap, sym, ◌∙◌, arith}
use Rattle.std.specs.Prelude.{Option, Some, None, Bool, true, false, nat_eq, is_some, if◌then◌else◌}
use Rattle.std.specs.List.{AllByRecursion, filter_map}
use Rattle.std.specs.Map.{lookup}
use Rattle.std.proofs.lemmas.Bool.{eq-eqb}
use Rattle.model_terms.specs.Worlds.{World, Out, Signature}
use Rattle.model_terms.specs.Outputs.{Known, outputs}
use Rattle.model_terms.specs.Rounds.{Member, formal_scope, signed, learned, round, rounds}
use Rattle.model_terms_laws.specs.Laws.{Settles}

knows : Known → ℕ → Bool
knows known x = is_some (lookup (nat_eq x) known)

-- how many of some functions are unknown
unknown : Known → List Member → ℕ
unknown known [] = 0
unknown known (m ∷ ms) = (if knows known m.name then 0 else 1) + unknown known ms

-- ---- what is known stays known

knows_more : (x : ℕ) (e : ℕ × Signature) (es : Known) → knows es x ≡ true → knows (e ∷ es) x ≡ true
unfolding knows
knows_more x e es h = go (nat_eq x e.0) refl
  where
    go : (b : Bool) → nat_eq x e.0 ≡ b → is_some (lookup (nat_eq x) (e ∷ es)) ≡ true
    go true t = rw t refl
    go false t = rw t h

knows_old_at : (x : ℕ) (e : ℕ × Signature) (es new : Known) → knows (e ∷ es) x ≡ true → (knows es x ≡ true → knows (es ++ new) x ≡ true) → (b : Bool) → nat_eq x e.0 ≡ b → knows ((e ∷ es) ++ new) x ≡ true
unfolding knows
knows_old_at x e es new h later true t = rw t refl
knows_old_at x e es new h later false t = rw t (later (rw t at h))

knows_old : (x : ℕ) (known new : Known) → knows known x ≡ true → knows (known ++ new) x ≡ true
unfolding knows
knows_old x [] new h = cc
knows_old x (e ∷ es) new h = knows_old_at x e es new h (knows_old x es new) (nat_eq x e.0) refl

knows_new_at : (x : ℕ) (e : ℕ × Signature) (es new : Known) → knows (es ++ new) x ≡ true → (b : Bool) → nat_eq x e.0 ≡ b → knows ((e ∷ es) ++ new) x ≡ true
unfolding knows
knows_new_at x e es new h true t = rw t refl
knows_new_at x e es new h false t = rw t h

knows_new : (x : ℕ) (known new : Known) → knows new x ≡ true → knows (known ++ new) x ≡ true
knows_new x [] new h = h
knows_new x (e ∷ es) new h = knows_new_at x e es new (knows_new x es new h) (nat_eq x e.0) refl

-- ---- what is learned in a round is known after it

Learned : World → Known → List Member → Member → Type 0
Learned w known ms m = is_some (learned w known m) ≡ true → knows (filter_map (learned w known) ms) m.name ≡ true

-- what a function learns has its own name
own_name : (w : World) (known : Known) (m : Member) (e : ℕ × Signature) → learned w known m ≡ Some e → e.0 ≡ m.name
own_name w known m e h = go (is_some (lookup (nat_eq m.name) known)) refl (outputs w known (formal_scope w m) m.body) refl
  where
    go : (b : Bool) → is_some (lookup (nat_eq m.name) known) ≡ b → (o : Option (List Out)) → outputs w known (formal_scope w m) m.body ≡ o → e.0 ≡ m.name
    go true t o q = let bad : ◌≡◌ {A = Option (ℕ × Signature)} None (Some e) = rw t at h in cc
    go false t None q = let bad : ◌≡◌ {A = Option (ℕ × Signature)} None (Some e) = rw q at (rw t at h) in cc
    go false t (Some os) q = let good : ◌≡◌ {A = Option (ℕ × Signature)} (Some (m.name, signed w m os)) (Some e) = rw q at (rw t at h) in let same : (m.name, signed w m os) ≡ e = cc in ap (λ (x : ℕ × Signature). x.0) (sym same)

learned_more : (w : World) (known : Known) (m : Member) (ms : List Member) (q : Member) (o : Option (ℕ × Signature)) → learned w known m ≡ o → Learned w known ms q → Learned w known (m ∷ ms) q
unfolding Learned
learned_more w known m ms q None h all l = rw h (all l)
learned_more w known m ms q (Some e) h all l = rw h (knows_more q.name e (filter_map (learned w known) ms) (all l))

learned_first : (w : World) (known : Known) (m : Member) (ms : List Member) (o : Option (ℕ × Signature)) → learned w known m ≡ o → Learned w known (m ∷ ms) m
unfolding Learned knows
learned_first w known m ms None h l = let bad : false ≡ true = rw h at l in cc
learned_first w known m ms (Some e) h l = rw (h, eq-eqb m.name e.0 (sym (own_name w known m e h))) refl

all_more : (w : World) (known : Known) (m : Member) (ms qs : List Member) → AllByRecursion (Learned w known ms) qs → AllByRecursion (Learned w known (m ∷ ms)) qs
all_more w known m ms [] all = tt
all_more w known m ms (q ∷ qs) all = (learned_more w known m ms q (learned w known m) refl all.0, all_more w known m ms qs all.1)

all_learned : (w : World) (known : Known) (ms : List Member) → AllByRecursion (Learned w known ms) ms
all_learned w known [] = tt
all_learned w known (m ∷ ms) = (learned_first w known m ms (learned w known m) refl, all_more w known m ms ms (all_learned w known ms))

-- ---- fewer are unknown

-- how many of some functions learn their outputs
learning : World → Known → List Member → ℕ
learning w known [] = 0
learning w known (m ∷ ms) = (if is_some (learned w known m) then 1 else 0) + learning w known ms

known_learns_nothing : (w : World) (known : Known) (m : Member) → knows known m.name ≡ true → learned w known m ≡ None
unfolding knows
known_learns_nothing w known m h = rw h refl

-- of one function
one : Bool → ℕ
one known = if known then 0 else 1

at_one : (w : World) (known new : Known) (m : Member) → (is_some (learned w known m) ≡ true → knows new m.name ≡ true)
    → one (knows (known ++ new) m.name) + (if is_some (learned w known m) then 1 else 0) ≤ one (knows known m.name)
unfolding one
at_one w known new m l = go (knows known m.name) refl (is_some (learned w known m)) refl
  where
    go : (b : Bool) → knows known m.name ≡ b → (c : Bool) → is_some (learned w known m) ≡ c
        → (if knows (known ++ new) m.name then 0 else 1) + (if is_some (learned w known m) then 1 else 0) ≤ (if knows known m.name then 0 else 1)
    go true h c k = let there : knows (known ++ new) m.name ≡ true = knows_old m.name known new h in rw (there, h, known_learns_nothing w known m h) (omega arith)
    go false h true k = let there : knows (known ++ new) m.name ≡ true = knows_new m.name known new (l k) in rw (there, h, k) (omega arith)
    go false h false k = rw (h, k) (at_most (knows (known ++ new) m.name))
      where
        at_most : (b : Bool) → (if b then 0 else 1) + 0 ≤ 1
        at_most true = omega arith
        at_most false = omega arith

fewer : (w : World) (known new : Known) (ms : List Member) → AllByRecursion (λ m. is_some (learned w known m) ≡ true → knows new m.name ≡ true) ms
    → unknown (known ++ new) ms + learning w known ms ≤ unknown known ms
unfolding unknown learning one
fewer w known new [] all = omega arith
fewer w known new (m ∷ ms) all = omega (arith, at_one w known new m all.0, fewer w known new ms all.1)

none_first : (w : World) (known : Known) (m : Member) (ms : List Member) → filter_map (learned w known) ms ≡ [] → (o : Option (ℕ × Signature)) → learned w known m ≡ o
    → ◌≡◌ {A = ℕ} (if is_some (learned w known m) then 1 else 0) 0 → filter_map (learned w known) (m ∷ ms) ≡ []
none_first w known m ms none None h e = rw h none
none_first w known m ms none (Some x) h e = let bad : ◌≡◌ {A = ℕ} 1 0 = rw h at e in absurd (omega (arith, bad))

nothing_learned : (w : World) (known : Known) (ms : List Member) → learning w known ms ≡ 0 → filter_map (learned w known) ms ≡ []
unfolding learning
nothing_learned w known [] h = refl
nothing_learned w known (m ∷ ms) h =
    let later : learning w known ms ≡ 0 = omega (arith, h) in
    let here : ◌≡◌ {A = ℕ} (if is_some (learned w known m) then 1 else 0) 0 = omega (arith, h) in
    none_first w known m ms (nothing_learned w known ms later) (learned w known m) refl here

-- ---- rounds

append_none : (known : Known) → known ++ [] ≡ known
append_none [] = refl
append_none (e ∷ es) = ap (λ xs. e ∷ xs) (append_none es)

unchanged : (w : World) (ms : List Member) (known : Known) → learning w known ms ≡ 0 → round w ms known ≡ known
unchanged w ms known h = ap (λ new. known ++ new) (nothing_learned w known ms h) ∙ append_none known

after_round : (w : World) (ms : List Member) (known : Known) → unknown (round w ms known) ms + learning w known ms ≤ unknown known ms
unfolding Learned
after_round w ms known = fewer w known (filter_map (learned w known) ms) ms (all_learned w known ms)

stays : (w : World) (ms : List Member) (n : ℕ) (known : Known) → round w ms known ≡ known → rounds w ms n known ≡ known
stays w ms zero known e = refl
stays w ms (suc n) known e = ap (rounds w ms n) e ∙ stays w ms n known e

stays_so : (w : World) (ms : List Member) (n : ℕ) (known : Known) → round w ms known ≡ known → round w ms (rounds w ms n known) ≡ rounds w ms n known
stays_so w ms n known e = ap (round w ms) (stays w ms n known e) ∙ (e ∙ sym (stays w ms n known e))

settles_step : (w : World) (ms : List Member) (n : ℕ) (known : Known) → (0 < learning w known ms → round w ms (rounds w ms n (round w ms known)) ≡ rounds w ms n (round w ms known))
    → (k : ℕ) → learning w known ms ≡ k → round w ms (rounds w ms (suc n) known) ≡ rounds w ms (suc n) known
settles_step w ms n known later zero e = stays_so w ms (suc n) known (unchanged w ms known e)
settles_step w ms n known later (suc k) e = later (omega (arith, e))

settles_from : (w : World) (ms : List Member) (n : ℕ) (known : Known) → unknown known ms ≤ n → round w ms (rounds w ms n known) ≡ rounds w ms n known
settles_from w ms zero known h = unchanged w ms known (omega (arith, h, after_round w ms known))
settles_from w ms (suc n) known h =
    settles_step w ms n known (λ l. settles_from w ms n (round w ms known) (omega (arith, h, l, after_round w ms known))) (learning w known ms) refl

at_most_all : (ms : List Member) → unknown [] ms ≤ length ms
unfolding unknown knows
at_most_all [] = omega arith
at_most_all (m ∷ ms) = omega (arith, at_most_all ms)

pub settles : Settles
settles = record { settled = λ w ms. settles_from w ms (length ms) [] (at_most_all ms) }
