-- Cells still fit when a tree is put into the list of those that were given back, or taken out of it, and when a root is named.
use Rattle.std.specs.Prelude.{◌≡◌, ◌≢◌, ℕ, ◌<◌, List, ◌∷◌, length, Bool, true, false, Some}
use Rattle.std.proofs.Common.{get_or, set, refl, sym, ap, subst, ◌∙◌, arith, inl, inr, length-set}
use Rattle.acl_heap.specs.Objects.{Objects, nothing, IsPair}
use Rattle.acl_pool.specs.declared.cell.Kind.{Kind}
use Rattle.acl_pool.specs.declared.cell.Kind.TheVariants.{Small, Sym, Bits, Big, Str, Cons, Heap}
use Rattle.acl_pool.specs.declared.cell.Role.{Role}
use Rattle.acl_pool.specs.declared.cell.Role.TheVariants as role
use Rattle.acl_pool.specs.declared.cell.Cell.{Cell}
use Rattle.acl_pool.specs.Cells.{Halves, Owner, Alone, Under, Listed, Marks, Fits, target_at, halves, halves_with, cell_at, In, IsChain}
use Rattle.acl_pool.proofs.MarkLemmas.{nat_or, with_at, with_same, with_other, cell_same, cell_other, chain_set}

-- another link and another role
abbrev pub relinked : Cell → ℕ → Role → Cell
relinked c link role = record c { link = link; role = role }

halves_with_relinked : (h : Objects) (shown : ℕ → Halves) (c : Cell) (link : ℕ) (r : Role) (k : Kind) → halves_with h shown k (relinked c link r) ≡ halves_with h shown k c
halves_with_relinked h shown c link r Small = refl
halves_with_relinked h shown c link r Sym = refl
halves_with_relinked h shown c link r Bits = refl
halves_with_relinked h shown c link r Big = refl
halves_with_relinked h shown c link r Str = refl
halves_with_relinked h shown c link r Cons = refl
halves_with_relinked h shown c link r Heap = refl

halves_relinked : (h : Objects) (shown : ℕ → Halves) (c : Cell) (link : ℕ) (r : Role) → halves h shown (relinked c link r) ≡ halves h shown c
halves_relinked h shown c link r = halves_with_relinked h shown c link r c.left_kind

abbrev pub marks_given : Marks → ℕ → Marks
marks_given m n = record { shown = m.shown; owner = with_at n Listed m.owner; given = n ∷ m.given; fresh = m.fresh }

abbrev pub marks_orphaned : Marks → ℕ → Marks
marks_orphaned m n = record { shown = m.shown; owner = with_at n Alone m.owner; given = m.given; fresh = m.fresh }

abbrev pub marks_popped : Marks → ℕ → List ℕ → Marks
marks_popped m n ns = record { shown = m.shown; owner = with_at n Alone m.owner; given = ns; fresh = with_at n true m.fresh }

pub alone_unless : (n : ℕ) (owner : ℕ → Owner) (j : ℕ) → owner j ≡ Alone → with_at n Alone owner j ≡ Alone
alone_unless n owner j e = elim (nat_or j n) as (λ b. with_at n Alone owner j ≡ Alone) [ inl g ↦ subst (λ k. with_at n Alone owner k ≡ Alone) (sym g) (with_same n Alone owner) | inr g ↦ with_other n Alone owner j g ∙ e ]

pub fresh_more : (n : ℕ) (fresh : ℕ → Bool) (j : ℕ) → fresh j ≡ true → with_at n true fresh j ≡ true
fresh_more n fresh j e = elim (nat_or j n) as (λ b. with_at n true fresh j ≡ true) [ inl g ↦ subst (λ k. with_at n true fresh k ≡ true) (sym g) (with_same n true fresh) | inr g ↦ with_other n true fresh j g ∙ e ]

module _ {h : Objects} {cs : List Cell} {top first : ℕ} {m : Marks} (f : Fits h cs top first m) where
  -- what is said of the parts of a cell is true of it with another link
  parts_kept : (P : Cell → Type 0) (n : ℕ) (link : ℕ) (r : Role) (j : ℕ) → n < top → P (cell_at (set cs n (relinked (cell_at cs n) link r)) j) → ((c : Cell) → P (relinked c link r) → P c) → P (cell_at cs j)
  parts_kept P n link r j l p back = elim (nat_or j n) as (λ b. P (cell_at cs j)) [
    | inl e ↦ subst (λ k. P (cell_at cs k)) (sym e) (back (cell_at cs n) (subst P (cell_same cs n (relinked (cell_at cs n) link r) (omega (arith, f.room, l))) (subst (λ k. P (cell_at (set cs n (relinked (cell_at cs n) link r)) k)) e p)))
    | inr e ↦ subst P (cell_other cs n (relinked (cell_at cs n) link r) j e) p
  ]

  parts_led : (P : Cell → Type 0) (n : ℕ) (link : ℕ) (r : Role) (j : ℕ) → n < top → P (cell_at cs j) → ((c : Cell) → P c → P (relinked c link r)) → P (cell_at (set cs n (relinked (cell_at cs n) link r)) j)
  parts_led P n link r j l p on = elim (nat_or j n) as (λ b. P (cell_at (set cs n (relinked (cell_at cs n) link r)) j)) [
    | inl e ↦ subst (λ k. P (cell_at (set cs n (relinked (cell_at cs n) link r)) k)) (sym e) (subst P (sym (cell_same cs n (relinked (cell_at cs n) link r) (omega (arith, f.room, l)))) (on (cell_at cs n) (subst (λ k. P (cell_at cs k)) e p)))
    | inr e ↦ subst P (sym (cell_other cs n (relinked (cell_at cs n) link r) j e)) p
  ]

  target_kept : (s : Bool) (link : ℕ) (r : Role) (x : ℕ) (c : Cell) → target_at s (relinked c link r) ≡ Some x → target_at s c ≡ Some x
  target_kept true link r x c e = e
  target_kept false link r x c e = e

  pub given_back : (n : ℕ) → n < top → m.owner n ≡ Alone → m.fresh n ≡ false → Fits h (set cs n (relinked (cell_at cs n) first role.Inside)) top n (marks_given m n)
  given_back n l alone stale =
      let c = relinked (cell_at cs n) first role.Inside in
      let busy : (k : ℕ) (o : Owner) → m.owner k ≡ o → o ≢ Alone → k ≢ n = λ k o e a g. a (sym e ∙ subst (λ x. m.owner x ≡ Alone) (sym g) alone) in
      record {
        room = omega (arith, f.room, length-set cs n c);
        shows = λ j k. parts_led (λ (d : Cell). m.shown j ≡ halves h m.shown d) n first role.Inside j l (f.shows j k) (λ d e. e ∙ sym (halves_relinked h m.shown d first role.Inside));
        owned = λ j s x k t.
            let o = f.owned j s x k (parts_kept (λ (d : Cell). target_at s d ≡ Some x) n first role.Inside j l t (target_kept s first role.Inside x)) in
            (o.0, with_other n Listed m.owner x (busy x (Under j s) o.1 (λ e. cc)) ∙ o.1);
        roots = λ j k r. elim (nat_or j n) as (λ b. with_at n Listed m.owner j ≡ Alone) [
          | inl e ↦ absurd (r (subst (λ x. (cell_at (set cs n c) x).role ≡ role.Inside) (sym e) (ap (λ (d : Cell). d.role) (cell_same cs n c (omega (arith, f.room, l))))))
          | inr e ↦ with_other n Listed m.owner j e ∙ f.roots j k (λ g. r (ap (λ (d : Cell). d.role) (cell_other cs n c j e) ∙ g))
        ];
        chained = (refl, λ k. busy n Listed (f.listed n k).1 (λ e. cc) refl, subst (λ (d : Cell). IsChain (set cs n c) d.link m.given) (sym (cell_same cs n c (omega (arith, f.room, l)))) (chain_set cs n c first m.given (λ k. busy n Listed (f.listed n k).1 (λ e. cc) refl) f.chained));
        listed = λ k b. elim b as (λ b. (k < top) × (with_at n Listed m.owner k ≡ Listed)) [
          | inl e ↦ subst (λ x. (x < top) × (with_at n Listed m.owner x ≡ Listed)) (sym e) (l, with_same n Listed m.owner)
          | inr b ↦ ((f.listed k b).0, with_other n Listed m.owner k (busy k Listed (f.listed k b).1 (λ e. cc)) ∙ (f.listed k b).1)
        ];
        fresh_owned = λ k fr.
            let other : k ≢ n = λ e. let g : m.fresh n ≡ true = subst (λ x. m.fresh x ≡ true) e fr in cc in
            let o = with_other n Listed m.owner k other in
            (λ g. (f.fresh_owned k fr).0 (sym o ∙ g), λ p s g. (f.fresh_owned k fr).1 p s (sym o ∙ g));
        waits = λ j k w.
            let v = f.waits j k (parts_kept (λ (d : Cell). d.left_kind ≡ Heap) n first role.Inside j l w (λ d e. e)) in
            parts_led (λ (d : Cell). (m.fresh j ≡ true) × (d.left < length h) × IsPair (get_or h d.left nothing)) n first role.Inside j l v (λ d e. e);
      }

  pub named : (n : ℕ) (count : ℕ) (r : Role) → n < top → m.owner n ≡ Alone → Fits h (set cs n (relinked (cell_at cs n) count r)) top first m
  named n count r l alone =
      let c = relinked (cell_at cs n) count r in
      record {
        room = omega (arith, f.room, length-set cs n c);
        shows = λ j k. parts_led (λ (d : Cell). m.shown j ≡ halves h m.shown d) n count r j l (f.shows j k) (λ d e. e ∙ sym (halves_relinked h m.shown d count r));
        owned = λ j s x k t. f.owned j s x k (parts_kept (λ (d : Cell). target_at s d ≡ Some x) n count r j l t (target_kept s count r x));
        roots = λ j k e. elim (nat_or j n) as (λ b. m.owner j ≡ Alone) [
          | inl g ↦ subst (λ x. m.owner x ≡ Alone) (sym g) alone
          | inr g ↦ f.roots j k (λ i. e (ap (λ (d : Cell). d.role) (cell_other cs n c j g) ∙ i))
        ];
        chained = chain_set cs n c first m.given (λ k. let e : Alone ≡ Listed = sym alone ∙ (f.listed n k).1 in cc) f.chained;
        listed = f.listed;
        fresh_owned = f.fresh_owned;
        waits = λ j k w.
            let v = f.waits j k (parts_kept (λ (d : Cell). d.left_kind ≡ Heap) n count r j l w (λ d e. e)) in
            parts_led (λ (d : Cell). (m.fresh j ≡ true) × (d.left < length h) × IsPair (get_or h d.left nothing)) n count r j l v (λ d e. e);
      }

  pub orphaned : (n i : ℕ) (s : Bool) → m.owner n ≡ Under i s → (target_at s (cell_at cs i) ≡ Some n → ⊥) → Fits h cs top first (marks_orphaned m n)
  orphaned n i s under out = record {
    room = f.room;
    shows = f.shows;
    owned = λ j t x k e.
        let o = f.owned j t x k e in
        let other : x ≢ n = λ g.
        let u : Under j t ≡ Under i s = sym o.1 ∙ (ap m.owner g ∙ under) in
        let ji : j ≡ i = cc in
        let ts : t ≡ s = cc in
        out (subst (λ y. target_at s (cell_at cs y) ≡ Some n) ji (subst (λ y. target_at y (cell_at cs j) ≡ Some n) ts (subst (λ y. target_at t (cell_at cs j) ≡ Some y) g e))) in
        (o.0, with_other n Alone m.owner x other ∙ o.1);
    roots = λ j k r. alone_unless n m.owner j (f.roots j k r);
    chained = f.chained;
    listed = λ k b.
        let o = f.listed k b in
        (o.0, with_other n Alone m.owner k (λ g. let u : Listed ≡ Under i s = sym o.1 ∙ (ap m.owner g ∙ under) in cc) ∙ o.1);
    fresh_owned = λ k fr. elim (nat_or k n) as (λ b. (with_at n Alone m.owner k ≢ Listed) × ((p : ℕ) (t : Bool) → with_at n Alone m.owner k ≡ Under p t → m.fresh p ≡ true)) [
      | inl g ↦ (let a : with_at n Alone m.owner k ≡ Alone = subst (λ x. with_at n Alone m.owner x ≡ Alone) (sym g) (with_same n Alone m.owner) in
          (λ e. let b : Alone ≡ Listed = sym a ∙ e in cc, λ p t e. let b : Alone ≡ Under p t = sym a ∙ e in cc))
      | inr g ↦ (let o = with_other n Alone m.owner k g in (λ e. (f.fresh_owned k fr).0 (sym o ∙ e), λ p t e. (f.fresh_owned k fr).1 p t (sym o ∙ e)))
    ];
    waits = f.waits;
  }

  pub popped : (i : ℕ) (ns : List ℕ) → m.given ≡ i ∷ ns → (first ≡ i) × Fits h cs top (cell_at cs i).link (marks_popped m i ns)
  popped i ns is =
      let ch : IsChain cs first (i ∷ ns) = subst (IsChain cs first) is f.chained in
      let inner : (k : ℕ) → In k (i ∷ ns) → (k < top) × (m.owner k ≡ Listed) = λ k b. f.listed k (subst (In k) (sym is) b) in
      let listed : m.owner i ≡ Listed = (inner i (inl refl)).1 in
      let busy : (k : ℕ) (o : Owner) → m.owner k ≡ o → o ≢ Listed → k ≢ i = λ k o e a g. a (sym e ∙ subst (λ x. m.owner x ≡ Listed) (sym g) listed) in (
        ch.0,
        record {
          room = f.room;
          shows = f.shows;
          owned = λ j s x k e. let o = f.owned j s x k e in (o.0, with_other i Alone m.owner x (busy x (Under j s) o.1 (λ g. cc)) ∙ o.1);
          roots = λ j k r. alone_unless i m.owner j (f.roots j k r);
          chained = ch.2;
          listed = λ k b. let o = inner k (inr b) in (o.0, with_other i Alone m.owner k (λ g. ch.1 (subst (λ x. In x ns) g b)) ∙ o.1);
          fresh_owned = λ k fr. elim (nat_or k i) as (λ b. (with_at i Alone m.owner k ≢ Listed) × ((p : ℕ) (t : Bool) → with_at i Alone m.owner k ≡ Under p t → with_at i true m.fresh p ≡ true)) [
            | inl g ↦ (let a : with_at i Alone m.owner k ≡ Alone = subst (λ x. with_at i Alone m.owner x ≡ Alone) (sym g) (with_same i Alone m.owner) in
                (λ e. let b : Alone ≡ Listed = sym a ∙ e in cc, λ p t e. let b : Alone ≡ Under p t = sym a ∙ e in cc))
            | inr g ↦ (let o = with_other i Alone m.owner k g in
                let older : m.fresh k ≡ true = sym (with_other i true m.fresh k g) ∙ fr in
                (λ e. (f.fresh_owned k older).0 (sym o ∙ e), λ p t e. fresh_more i m.fresh p ((f.fresh_owned k older).1 p t (sym o ∙ e))))
          ];
          waits = λ j k w. let v = f.waits j k w in (fresh_more i m.fresh j v.0, v.1, v.2);
        },
      )
