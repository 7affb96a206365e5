-- Cells still fit when one of them is written, taken or given back.
use Rattle.std.specs.Prelude.{◌≡◌, ◌≢◌, ℕ, ◌<◌, List, length, Bool, true, false, Some}
use Rattle.std.proofs.Common.{set, sym, ap, subst, ◌∙◌, arith, inl, inr, length-set}
use Rattle.acl_heap.specs.Objects.{Objects, nothing, IsPair}
use Rattle.std.proofs.Common.{get_or}
use Rattle.acl_pool.specs.declared.cell.Kind.TheVariants.{Heap}
use Rattle.acl_pool.specs.declared.cell.Role.TheVariants as role
use Rattle.acl_pool.specs.declared.cell.Cell.{Cell}
use Rattle.acl_pool.specs.Cells.{Alone, Under, Listed, Marks, Fits, target_at, halves, cell_at}
use Rattle.acl_pool.proofs.MarkLemmas.{nat_or, with_at, with_same, with_other, halves_same, cell_same, cell_other, chain_set, some_or, owner_after, owner_left, owner_right, owner_kept}

-- a cell may be written at a place
pub record MayWrite (h : Objects) (cs : List Cell) (top : ℕ) (m : Marks) (i : ℕ) (c : Cell) : Type 0 where
  pub alone : (s : Bool) (n : ℕ) → target_at s c ≡ Some n → (n < top) × (m.owner n ≡ Alone) × ((cell_at cs n).role ≡ role.Inside) × (n ≢ i)
  pub apart : (n : ℕ) → target_at true c ≡ Some n → target_at false c ≡ Some n → ⊥
  pub inside : c.role ≡ role.Inside
  pub here : i < top
  pub unlisted : m.owner i ≢ Listed
  pub same : (p : ℕ) (s : Bool) → m.owner i ≡ Under p s → m.shown i ≡ halves h m.shown c
  pub fresh : m.fresh i ≡ true
  pub waits : c.left_kind ≡ Heap → (c.left < length h) × IsPair (get_or h c.left nothing)

abbrev pub marks_written : Objects → Marks → ℕ → Cell → Marks
marks_written h m i c = record { shown = with_at i (halves h m.shown c) m.shown; owner = owner_after c i m.owner; given = m.given; fresh = m.fresh }

module _ {h : Objects} {cs : List Cell} {top first : ℕ} {m : Marks} {i : ℕ} {c : Cell} (f : Fits h cs top first m) (w : MayWrite h cs top m i c) where
  within : i < length cs
  within = omega (arith, f.room, w.here)

  -- what no cell but one that shows the same points to
  target_shown : (j : ℕ) (s : Bool) (n : ℕ) → j < top → target_at s (cell_at cs j) ≡ Some n → with_at i (halves h m.shown c) m.shown n ≡ m.shown n
  target_shown j s n l e = elim (nat_or n i) as (λ b. with_at i (halves h m.shown c) m.shown n ≡ m.shown n)
      [ inl g ↦ subst (λ k. with_at i (halves h m.shown c) m.shown k ≡ m.shown k) (sym g) (with_same i (halves h m.shown c) m.shown ∙ sym (w.same j s (subst (λ k. m.owner k ≡ Under j s) g (f.owned j s n l e).1))) | inr g ↦ with_other i (halves h m.shown c) m.shown n g ]

  owner_target : (s : Bool) (n : ℕ) → target_at s c ≡ Some n → owner_after c i m.owner n ≡ Under i s
  owner_target true n e = owner_left c i m.owner n e
  owner_target false n e = owner_right c i m.owner n (λ g. w.apart n g e) e

  owner_busy : (n : ℕ) → m.owner n ≢ Alone → owner_after c i m.owner n ≡ m.owner n
  owner_busy n busy = owner_kept c i m.owner n (λ s e. busy (w.alone s n e).1)

  shows_here : with_at i (halves h m.shown c) m.shown i ≡ halves h (with_at i (halves h m.shown c) m.shown) (cell_at (set cs i c) i)
  shows_here = with_same i (halves h m.shown c) m.shown
      ∙ sym (ap (halves h (with_at i (halves h m.shown c) m.shown)) (cell_same cs i c within)
      ∙ halves_same h m.shown (with_at i (halves h m.shown c) m.shown) c (λ s n e. with_other i (halves h m.shown c) m.shown n (w.alone s n e).3))

  shows_there : (j : ℕ) → j < top → j ≢ i → with_at i (halves h m.shown c) m.shown j ≡ halves h (with_at i (halves h m.shown c) m.shown) (cell_at (set cs i c) j)
  shows_there j l n = with_other i (halves h m.shown c) m.shown j n
      ∙ (f.shows j l
      ∙ sym (ap (halves h (with_at i (halves h m.shown c) m.shown)) (cell_other cs i c j n)
      ∙ halves_same h m.shown (with_at i (halves h m.shown c) m.shown) (cell_at cs j) (λ s k e. target_shown j s k l e)))

  written_shows : (j : ℕ) → j < top → with_at i (halves h m.shown c) m.shown j ≡ halves h (with_at i (halves h m.shown c) m.shown) (cell_at (set cs i c) j)
  written_shows j l = elim (nat_or j i) as (λ b. with_at i (halves h m.shown c) m.shown j ≡ halves h (with_at i (halves h m.shown c) m.shown) (cell_at (set cs i c) j))
      [ inl e ↦ subst (λ k. with_at i (halves h m.shown c) m.shown k ≡ halves h (with_at i (halves h m.shown c) m.shown) (cell_at (set cs i c) k)) (sym e) shows_here | inr n ↦ shows_there j l n ]

  written_owned : (j : ℕ) (s : Bool) (n : ℕ) → j < top → target_at s (cell_at (set cs i c) j) ≡ Some n → (n < top) × (owner_after c i m.owner n ≡ Under j s)
  written_owned j s n l t = elim (nat_or j i) as (λ b. (n < top) × (owner_after c i m.owner n ≡ Under j s)) [
    | inl e ↦ (let u : target_at s c ≡ Some n = subst (λ (d : Cell). target_at s d ≡ Some n) (cell_same cs i c within) (subst (λ k. target_at s (cell_at (set cs i c) k) ≡ Some n) e t) in
        ((w.alone s n u).0, owner_target s n u ∙ ap (λ k. Under k s) (sym e)))
    | inr e ↦ (let u : target_at s (cell_at cs j) ≡ Some n = subst (λ (d : Cell). target_at s d ≡ Some n) (cell_other cs i c j e) t in
        let o = f.owned j s n l u in
        (o.0, owner_busy n (λ a. let b : Alone ≡ Under j s = sym a ∙ o.1 in cc) ∙ o.1))
  ]

  written_roots : (j : ℕ) → j < top → (cell_at (set cs i c) j).role ≢ role.Inside → owner_after c i m.owner j ≡ Alone
  written_roots j l r = elim (nat_or j i) as (λ b. owner_after c i m.owner j ≡ Alone) [
    | inl e ↦ absurd (r (subst (λ k. (cell_at (set cs i c) k).role ≡ role.Inside) (sym e) (ap (λ (d : Cell). d.role) (cell_same cs i c within) ∙ w.inside)))
    | inr e ↦ (let old : (cell_at cs j).role ≢ role.Inside = λ g. r (ap (λ (d : Cell). d.role) (cell_other cs i c j e) ∙ g) in
        owner_kept c i m.owner j (λ s t. old (w.alone s j t).2) ∙ f.roots j l old)
  ]

  written_fresh : (n : ℕ) → m.fresh n ≡ true → (owner_after c i m.owner n ≢ Listed) × ((p : ℕ) (s : Bool) → owner_after c i m.owner n ≡ Under p s → m.fresh p ≡ true)
  written_fresh n fr = elim (some_or (target_at true c) n) as (λ b. (owner_after c i m.owner n ≢ Listed) × ((p : ℕ) (s : Bool) → owner_after c i m.owner n ≡ Under p s → m.fresh p ≡ true))
      [ inl e ↦ under true e | inr left_out ↦ elim (some_or (target_at false c) n) as (λ b. (owner_after c i m.owner n ≢ Listed) × ((p : ℕ) (s : Bool) → owner_after c i m.owner n ≡ Under p s → m.fresh p ≡ true)) [ inl e ↦ under false e | inr out ↦ kept left_out out ] ]
    where
      under : (s : Bool) → target_at s c ≡ Some n → (owner_after c i m.owner n ≢ Listed) × ((p : ℕ) (t : Bool) → owner_after c i m.owner n ≡ Under p t → m.fresh p ≡ true)
      under s e = (λ g. let k : Under i s ≡ Listed = sym (owner_target s n e) ∙ g in cc, λ p t g. let k : Under i s ≡ Under p t = sym (owner_target s n e) ∙ g in let q : i ≡ p = cc in subst (λ x. m.fresh x ≡ true) q w.fresh)

      kept : (target_at true c ≡ Some n → ⊥) → (target_at false c ≡ Some n → ⊥) → (owner_after c i m.owner n ≢ Listed) × ((p : ℕ) (t : Bool) → owner_after c i m.owner n ≡ Under p t → m.fresh p ≡ true)
      kept left_out out =
          let o : owner_after c i m.owner n ≡ m.owner n = owner_kept c i m.owner n (λ s. elim s as (λ b. target_at b c ≡ Some n → ⊥) [ true ↦ left_out | false ↦ out ]) in
          (λ g. (f.fresh_owned n fr).0 (sym o ∙ g), λ p t g. (f.fresh_owned n fr).1 p t (sym o ∙ g))

  written_waits : (j : ℕ) → j < top → (cell_at (set cs i c) j).left_kind ≡ Heap → (m.fresh j ≡ true) × ((cell_at (set cs i c) j).left < length h) × IsPair (get_or h (cell_at (set cs i c) j).left nothing)
  written_waits j l k = elim (nat_or j i) as (λ b. (m.fresh j ≡ true) × ((cell_at (set cs i c) j).left < length h) × IsPair (get_or h (cell_at (set cs i c) j).left nothing)) [
    | inl e ↦ subst (λ x. (m.fresh x ≡ true) × ((cell_at (set cs i c) x).left < length h) × IsPair (get_or h (cell_at (set cs i c) x).left nothing)) (sym e)
        (subst (λ (d : Cell). (m.fresh i ≡ true) × (d.left < length h) × IsPair (get_or h d.left nothing)) (sym (cell_same cs i c within))
        (let v = w.waits (subst (λ (d : Cell). d.left_kind ≡ Heap) (cell_same cs i c within) (subst (λ x. (cell_at (set cs i c) x).left_kind ≡ Heap) e k)) in (w.fresh, v.0, v.1)))
    | inr e ↦ subst (λ (d : Cell). (m.fresh j ≡ true) × (d.left < length h) × IsPair (get_or h d.left nothing)) (sym (cell_other cs i c j e))
        (f.waits j l (subst (λ (d : Cell). d.left_kind ≡ Heap) (cell_other cs i c j e) k))
  ]

  pub written : Fits h (set cs i c) top first (marks_written h m i c)
  written = record {
    room = omega (arith, f.room, length-set cs i c);
    shows = written_shows;
    owned = written_owned;
    roots = written_roots;
    chained = chain_set cs i c first m.given (λ k. w.unlisted (f.listed i k).1) f.chained;
    listed = λ k l. ((f.listed k l).0, owner_busy k (λ a. let b : Alone ≡ Listed = sym a ∙ (f.listed k l).1 in cc) ∙ (f.listed k l).1);
    fresh_owned = written_fresh;
    waits = written_waits;
  }
