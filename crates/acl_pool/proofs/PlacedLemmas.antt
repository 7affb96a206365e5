-- A cell that is taken and written: what it leaves.
use Rattle.std.specs.Prelude.{◌≡◌, ◌≢◌, ℕ, ◌+◌, ◌-◌, ◌<◌, List, ◌∷◌, length, Bool, true, false, Some, ◌⊎◌}
use Rattle.std.specs.List.{sum_by}
use Rattle.std.proofs.Common.{get_or, set, refl, sym, ap, ap₂, subst, ◌∙◌, arith, inl, inr, length-set}
use Rattle.std.proofs.lemmas.List.Sums.{sum_by-cons}
use Rattle.acl_heap.specs.Objects.{Objects, nothing, IsPair}
use Rattle.acl_pool.specs.declared.cell.Kind.{Kind}
use Rattle.acl_pool.specs.declared.cell.Kind.TheVariants.{Heap}
use Rattle.acl_pool.specs.declared.cell.Role.TheVariants as role
use Rattle.acl_pool.specs.declared.cell.Cell.{Cell}
use Rattle.acl_pool.specs.declared.region.Region.{Region}
use Rattle.acl_pool.specs.Trees.{size}
use Rattle.acl_pool.specs.Cells.{size_of, tree_with, both, halves, cell_at, blank, Owner, Alone, Under, Listed, Marks, Fits, target, target_at, In, IsChain}
use Rattle.acl_pool.specs.Steps.{give_with, taken, HasPlace}
use Rattle.acl_pool.specs.Building.{Building, room, IsNewCell, IsKept, Placed}
use Rattle.acl_pool.proofs.MarkLemmas.{nat_or, with_at, with_same, with_other, tree_same, halves_same, cell_same, cell_other, chain_set, owner_after, owner_left, owner_right, owner_kept}
use Rattle.acl_pool.proofs.FitsLemmas.{MayWrite, marks_written, written}
use Rattle.acl_pool.proofs.GivenLemmas.{marks_popped, popped, alone_unless, fresh_more}
use Rattle.acl_pool.proofs.PlaceLemmas.{halves_both}
use Rattle.acl_pool.proofs.BackLemmas.{is_within}
use Rattle.acl_pool.proofs.TakeLemmas.{stale, stale_child, marks_give, IsOrphan, child_fits, leaves, Steady, steady, size_given, sum_same, given_some}

pub owner_target : (c : Cell) (i : ℕ) (owner : ℕ → Owner) → ((n : ℕ) → target_at true c ≡ Some n → target_at false c ≡ Some n → ⊥) → (s : Bool) (n : ℕ) → target_at s c ≡ Some n → owner_after c i owner n ≡ Under i s
owner_target c i owner apart true n e = owner_left c i owner n e
owner_target c i owner apart false n e = owner_right c i owner n (λ g. apart n g e) e

pub head_of : {h : Objects} {r : Region} {m : Marks} (b : Building h r m) → 0 < r.spare → (rest : List ℕ) × (m.given ≡ r.given ∷ rest)
head_of {h} {r} {m} b l =
    let g = given_some (λ k. size_of (m.shown k)) m.given (omega (arith, b.spares, l)) in
    let p = popped b.fits g.0 g.1.0 g.1.1 in
    (g.1.0, subst (λ i. m.given ≡ i ∷ g.1.0) (sym p.0) g.1.1)

head_listed : {h : Objects} {r : Region} {m : Marks} (b : Building h r m) (rest : List ℕ) → m.given ≡ r.given ∷ rest → (r.given < r.top) × (m.owner r.given ≡ Listed)
head_listed {h} {r} {m} b rest is = b.fits.listed r.given (subst (In r.given) (sym is) (inl refl))

pub has_place : {h : Objects} {r : Region} {m : Marks} (b : Building h r m) → 0 < room r → HasPlace r
has_place {h} {r} {m} b l =
    let c = cell_at r.cells r.given in
    let at : (s : 0 < r.spare) → r.given < r.top = λ s. let g = head_of b s in (head_listed b g.0 g.1).0 in
    record {
      given = λ s. let k = at s in omega (arith, b.fits.room, k);
      left = λ s. is_within r c.left_kind c.left (λ x t. let o : x < r.top = (b.fits.owned r.given true x (at s) t).0 in omega (arith, b.fits.room, o));
      right = λ s. is_within r c.right_kind c.right (λ x t. let o : x < r.top = (b.fits.owned r.given false x (at s) t).0 in omega (arith, b.fits.room, o));
      new = λ e. omega (arith, e, l);
      bounded = b.bounded;
    }

module _ {h : Objects} {r : Region} {m : Marks} (b : Building h r m) (c : Cell) (nc : IsNewCell h r m c) (some : 0 < r.spare) (rest : List ℕ) (is : m.given ≡ r.given ∷ rest) where
  i : ℕ
  i = r.given

  abbrev pub old : Cell
  old = cell_at r.cells r.given

  abbrev pub m1 : Marks
  m1 = marks_popped m r.given rest

  abbrev pub m2 : Marks
  m2 = marks_written h m1 r.given c

  abbrev pub r2 : Region
  r2 = taken r c

  abbrev pub r3 : Region
  r3 = give_with r2 old.left_kind old.left

  abbrev pub m3 : Marks
  m3 = marks_give old.left_kind old.left m2

  abbrev pub r4 : Region
  r4 = give_with r3 old.right_kind old.right

  abbrev pub m4 : Marks
  m4 = marks_give old.right_kind old.right m3

  listed : m.owner r.given ≡ Listed
  listed = (head_listed b rest is).1

  below : r.given < r.top
  below = (head_listed b rest is).0

  within : r.given < length r.cells
  within = omega (arith, below, b.fits.room)

  busy : (x : ℕ) (o : Owner) → m.owner x ≡ o → o ≢ Listed → x ≢ r.given
  busy x o e a g = a (sym e ∙ subst (λ y. m.owner y ≡ Listed) (sym g) listed)

  may : MayWrite h r.cells r.top m1 r.given c
  may = record {
    alone = λ s n t. let a = nc.alone s n t in (a.0, alone_unless r.given m.owner n a.1, a.2, busy n Alone a.1 (λ e. cc));
    apart = nc.apart;
    inside = nc.inside;
    here = below;
    unlisted = λ e. let g : Alone ≡ Listed = sym (with_same r.given Alone m.owner) ∙ e in cc;
    same = λ p s e. let g : Alone ≡ Under p s = sym (with_same r.given Alone m.owner) ∙ e in cc;
    fresh = with_same r.given true m.fresh;
    waits = nc.waits;
  }

  f2 : Fits h r2.cells r2.top r2.given m2
  f2 = written (popped b.fits r.given rest is).1 may

  keeps_owner : (x : ℕ) → x ≢ r.given → ((s : Bool) → target_at s c ≡ Some x → ⊥) → m2.owner x ≡ m.owner x
  keeps_owner x n out = owner_kept c r.given m1.owner x out ∙ with_other r.given Alone m.owner x n

  no_target : (x : ℕ) (o : Owner) → m.owner x ≡ o → o ≢ Alone → (s : Bool) → target_at s c ≡ Some x → ⊥
  no_target x o e a s t = a (sym e ∙ (nc.alone s x t).1)

  cell_2 : cell_at r2.cells r.given ≡ c
  cell_2 = cell_same r.cells r.given c within

  fresh_2 : (x : ℕ) (s : Bool) → m.owner x ≡ Under r.given s → m2.fresh x ≡ false
  fresh_2 x s u = with_other r.given true m.fresh x (busy x (Under r.given s) u (λ e. cc)) ∙ stale_child b.fits r.given x s listed u

  under_2 : (x : ℕ) (s : Bool) → m.owner x ≡ Under r.given s → m2.owner x ≡ Under r.given s
  under_2 x s u = keeps_owner x (busy x (Under r.given s) u (λ e. cc)) (no_target x (Under r.given s) u (λ e. cc)) ∙ u

  orphan_left : (x : ℕ) → target old.left_kind old.left ≡ Some x → IsOrphan r2 m2 r.given true x
  orphan_left x t =
      let o = b.fits.owned r.given true x below t in
      record {
        below = o.0;
        under = under_2 x true o.1;
        lost = λ e. no_target x (Under r.given true) o.1 (λ g. cc) true (subst (λ (d : Cell). target_at true d ≡ Some x) cell_2 e);
        fresh = fresh_2 x true o.1;
      }

  f3 : Fits h r3.cells r3.top r3.given m3
  f3 = child_fits f2 r.given true old.left_kind old.left orphan_left

  length_2 : length r2.cells ≡ length r.cells
  length_2 = length-set r.cells r.given c

  left_in : (x : ℕ) → target old.left_kind old.left ≡ Some x → x < length r2.cells
  left_in x t = let o : x < r.top = (b.fits.owned r.given true x below t).0 in omega (arith, o, b.fits.room, length_2)

  right_in_r : (x : ℕ) → target old.right_kind old.right ≡ Some x → x < length r.cells
  right_in_r x t = let o : x < r.top = (b.fits.owned r.given false x below t).0 in omega (arith, o, b.fits.room)

  steady_3 : Steady r2 r3 m2 m3
  steady_3 = steady r2 m2 old.left_kind old.left left_in

  steady_4 : Steady r3 r4 m3 m4
  steady_4 = steady r3 m3 old.right_kind old.right (λ x t. let o : x < length r.cells = right_in_r x t in omega (arith, o, length_2, steady_3.same_length))

  not_child : (s : Bool) → target_at s old ≡ Some r.given → ⊥
  not_child s t = let u : Listed ≡ Under r.given s = sym listed ∙ (b.fits.owned r.given s r.given below t).1 in cc

  orphan_right : (x : ℕ) → target old.right_kind old.right ≡ Some x → IsOrphan r3 m3 r.given false x
  orphan_right x t =
      let o = b.fits.owned r.given false x below t in
      let out : target old.left_kind old.left ≡ Some x → ⊥ = λ g. let u : Under r.given false ≡ Under r.given true = sym o.1 ∙ (b.fits.owned r.given true x below g).1 in cc in
      let lx = leaves r2 m2 old.left_kind old.left x out in
      let li = leaves r2 m2 old.left_kind old.left r.given (not_child true) in
      record {
        below = subst (λ n. x < n) (sym steady_3.top) o.0;
        under = lx.owner ∙ under_2 x false o.1;
        lost = λ e. no_target x (Under r.given false) o.1 (λ g. cc) false (subst (λ (d : Cell). target_at false d ≡ Some x) (li.cell ∙ cell_2) e);
        fresh = steady_3.fresh x ∙ fresh_2 x false o.1;
      }

  f4 : Fits h r4.cells r4.top r4.given m4
  f4 = child_fits f3 r.given false old.right_kind old.right orphan_right

  cell_both : (j : ℕ) → ((s : Bool) → target_at s old ≡ Some j → ⊥) → cell_at r4.cells j ≡ cell_at r2.cells j
  cell_both j out = (leaves r3 m3 old.right_kind old.right j (out false)).cell ∙ (leaves r2 m2 old.left_kind old.left j (out true)).cell

  owner_both : (j : ℕ) → ((s : Bool) → target_at s old ≡ Some j → ⊥) → m4.owner j ≡ m2.owner j
  owner_both j out = (leaves r3 m3 old.right_kind old.right j (out false)).owner ∙ (leaves r2 m2 old.left_kind old.left j (out true)).owner

  shown_both : (j : ℕ) → m4.shown j ≡ m2.shown j
  shown_both j = steady_4.shown j ∙ steady_3.shown j

  fresh_both : (j : ℕ) → m4.fresh j ≡ m2.fresh j
  fresh_both j = steady_4.fresh j ∙ steady_3.fresh j

  kept_apart : (j : ℕ) → IsKept m j → (j ≢ r.given) × ((s : Bool) → target_at s old ≡ Some j → ⊥)
  kept_apart j k = elim k as (λ x. (j ≢ r.given) × ((s : Bool) → target_at s old ≡ Some j → ⊥)) [
    | inl a ↦ (busy j Alone a (λ e. cc), λ s t. let u : Alone ≡ Under r.given s = sym a ∙ (b.fits.owned r.given s j below t).1 in cc)
    | inr f ↦ (λ e. let u : true ≡ false = sym f ∙ (ap m.fresh e ∙ stale b.fits r.given listed) in cc, λ s t. let u : true ≡ false = sym f ∙ stale_child b.fits r.given j s listed (b.fits.owned r.given s j below t).1 in cc)
  ]

  calm_old : old.left_kind ≢ Heap
  calm_old k = let u : true ≡ false = sym (b.fits.waits r.given below k).0 ∙ stale b.fits r.given listed in cc

  shown_old : m.shown r.given ≡ both m.shown old
  shown_old = b.fits.shows r.given below ∙ halves_both h m.shown old old.left_kind calm_old

  tree_2 : (s : Bool) (k : Kind) (n : ℕ) → ((x : ℕ) → target k n ≡ Some x → target_at s old ≡ Some x) → tree_with m2.shown k n ≡ tree_with m.shown k n
  tree_2 s k n f = tree_same m.shown m2.shown k n (λ x t. with_other r.given (halves h m.shown c) m.shown x (busy x (Under r.given s) (b.fits.owned r.given s x below (f x t)).1 (λ e. cc)))

  rest_out : In r.given rest → ⊥
  rest_out = (subst (IsChain r.cells r.given) is b.fits.chained).1

  sum_rest : sum_by (λ k. size_of (m2.shown k)) rest ≡ sum_by (λ k. size_of (m.shown k)) rest
  sum_rest = sum_same (λ k. size_of (m2.shown k)) (λ k. size_of (m.shown k)) rest (λ k l. ap size_of (with_other r.given (halves h m.shown c) m.shown k (λ e. rest_out (subst (λ x. In x rest) e l))))

  sum_3 : sum_by (λ k. size_of (m3.shown k)) m3.given ≡ size (tree_with m.shown old.left_kind old.left) + sum_by (λ k. size_of (m.shown k)) rest
  sum_3 = size_given m2 old.left_kind old.left ∙ ap₂ (λ a b. a + b) (ap size (tree_2 true old.left_kind old.left (λ x t. t))) sum_rest

  sum_4 : sum_by (λ k. size_of (m4.shown k)) m4.given ≡ size (tree_with m.shown old.right_kind old.right) + (size (tree_with m.shown old.left_kind old.left) + sum_by (λ k. size_of (m.shown k)) rest)
  sum_4 = size_given m3 old.right_kind old.right
      ∙ ap₂ (λ a b. a + b) (ap size (tree_same m2.shown m3.shown old.right_kind old.right (λ x t. steady_3.shown x) ∙ tree_2 false old.right_kind old.right (λ x t. t))) sum_3

  spares_4 : r4.spare ≡ sum_by (λ k. size_of (m4.shown k)) m4.given
  spares_4 =
      let a : sum_by (λ k. size_of (m.shown k)) m.given ≡ size_of (m.shown r.given) + sum_by (λ k. size_of (m.shown k)) rest = ap (sum_by (λ k. size_of (m.shown k))) is ∙ sum_by-cons (λ k. size_of (m.shown k)) r.given rest in
      let d : size_of (m.shown r.given) ≡ size_of (both m.shown old) = ap size_of shown_old in
      let e : r.spare ≡ sum_by (λ k. size_of (m.shown k)) m.given = b.spares in
      let f : r4.spare ≡ r.spare - 1 = steady_4.spare ∙ steady_3.spare in
      omega (arith, a, d, e, f, sum_4)

  pub placed_4 : Placed h r r4 m m4 c r.given
  placed_4 = record {
    built = record { fits = f4; spares = spares_4; bounded = omega (arith, b.bounded, length_2, steady_3.same_length, steady_4.same_length) };
    cell = cell_both r.given not_child ∙ cell_2;
    shown = shown_both r.given ∙ with_same r.given (halves h m.shown c) m.shown;
    owner = owner_both r.given not_child ∙ (owner_kept c r.given m1.owner r.given (no_target r.given Listed listed (λ e. cc)) ∙ with_same r.given Alone m.owner);
    fresh = fresh_both r.given ∙ with_same r.given true m.fresh;
    below = subst (λ n. r.given < n) (sym (steady_4.top ∙ steady_3.top)) below;
    older = λ j l. inr (subst (λ n. j < n) (steady_4.top ∙ steady_3.top) l);
    kept = λ j l k. let a = kept_apart j k in (a.0, cell_both j a.1 ∙ cell_other r.cells r.given c j a.0, shown_both j ∙ with_other r.given (halves h m.shown c) m.shown j a.0);
    owners = λ j l k out. let a = kept_apart j k in owner_both j a.1 ∙ keeps_owner j a.0 out;
    targets = λ s j t. owner_both j (kept_apart j (inl (nc.alone s j t).1)).1 ∙ owner_target c r.given m1.owner nc.apart s j t;
    fresh_more = λ j e. fresh_both j ∙ fresh_more r.given m.fresh j e;
    fresh_less = λ j e. elim (nat_or j r.given) as (λ x. (j ≡ r.given) ⊎ (m.fresh j ≡ true)) [ inl g ↦ inl g | inr n ↦ inr (sym (fresh_both j ∙ with_other r.given true m.fresh j n) ∙ e) ];
    roots = λ j l e.
        let q : (cell_at r2.cells j).role ≢ role.Inside = steady_3.roots j (steady_4.roots j e) in (
          subst (λ n. j < n) (steady_4.top ∙ steady_3.top) l,
          elim (nat_or j r.given) as (λ x. (cell_at r.cells j).role ≢ role.Inside) [
            | inl g ↦ absurd (q (subst (λ k. (cell_at r2.cells k).role ≡ role.Inside) (sym g) (ap (λ (d : Cell). d.role) cell_2 ∙ nc.inside)))
            | inr n ↦ (λ g. q (ap (λ (d : Cell). d.role) (cell_other r.cells r.given c j n) ∙ g))
          ],
        );
    spare = steady_4.spare ∙ steady_3.spare;
    top = let t : r4.top ≡ r.top = steady_4.top ∙ steady_3.top in omega (arith, t, some);
    same_length = steady_4.same_length ∙ (steady_3.same_length ∙ length_2);
  }

-- the first cell that was never taken becomes a blank one
abbrev pub marks_longer : Marks → ℕ → Marks
marks_longer m n = record { shown = with_at n (both m.shown blank) m.shown; owner = with_at n Alone m.owner; given = m.given; fresh = with_at n true m.fresh }

blank_target : (s : Bool) (n : ℕ) → target_at s blank ≡ Some n → ⊥
blank_target true n e = cc
blank_target false n e = cc

module _ {h : Objects} {cs : List Cell} {top first : ℕ} {m : Marks} (f : Fits h cs top first m) (l : top < length cs) where
  split : (j : ℕ) → j < top + 1 → (j ≡ top) ⊎ (j < top)
  split j k = grind arith

  same : cell_at (set cs top blank) top ≡ blank
  same = cell_same cs top blank l

  other : (j : ℕ) → j < top → cell_at (set cs top blank) j ≡ cell_at cs j
  other j k = cell_other cs top blank j (omega arith)

  pub longer_fits : Fits h (set cs top blank) (top + 1) first (marks_longer m top)
  longer_fits = record {
    room = omega (arith, l, length-set cs top blank);
    shows = λ j k. elim (split j k) as (λ x. (marks_longer m top).shown j ≡ halves h (marks_longer m top).shown (cell_at (set cs top blank) j)) [
      | inl e ↦ subst (λ y. (marks_longer m top).shown y ≡ halves h (marks_longer m top).shown (cell_at (set cs top blank) y)) (sym e) (with_same top (both m.shown blank) m.shown ∙ sym (ap (halves h (marks_longer m top).shown) same))
      | inr g ↦ with_other top (both m.shown blank) m.shown j (omega arith) ∙ (f.shows j g ∙ sym (ap (halves h (marks_longer m top).shown) (other j g)
          ∙ halves_same h m.shown (marks_longer m top).shown (cell_at cs j) (λ s x t. let o : x < top = (f.owned j s x g t).0 in with_other top (both m.shown blank) m.shown x (omega arith))))
    ];
    owned = λ j s n k t. elim (split j k) as (λ x. (n < top + 1) × ((marks_longer m top).owner n ≡ Under j s)) [
      | inl e ↦ absurd (blank_target s n (subst (λ (d : Cell). target_at s d ≡ Some n) same (subst (λ y. target_at s (cell_at (set cs top blank) y) ≡ Some n) e t)))
      | inr g ↦ (let o = f.owned j s n g (subst (λ (d : Cell). target_at s d ≡ Some n) (other j g) t) in let p : n < top = o.0 in (omega arith, with_other top Alone m.owner n (omega arith) ∙ o.1))
    ];
    roots = λ j k e. elim (split j k) as (λ x. with_at top Alone m.owner j ≡ Alone) [
      | inl g ↦ subst (λ y. with_at top Alone m.owner y ≡ Alone) (sym g) (with_same top Alone m.owner)
      | inr g ↦ alone_unless top m.owner j (f.roots j g (λ i. e (ap (λ (d : Cell). d.role) (other j g) ∙ i)))
    ];
    chained = chain_set cs top blank first m.given (λ k. let o : top < top = (f.listed top k).0 in omega arith) f.chained;
    listed = λ k b. let o = f.listed k b in let p : k < top = o.0 in (omega arith, with_other top Alone m.owner k (omega arith) ∙ o.1);
    fresh_owned = λ k fr. elim (nat_or k top) as (λ x. (with_at top Alone m.owner k ≢ Listed) × ((p : ℕ) (t : Bool) → with_at top Alone m.owner k ≡ Under p t → with_at top true m.fresh p ≡ true)) [
      | inl g ↦ (let a : with_at top Alone m.owner k ≡ Alone = subst (λ x. with_at top Alone m.owner x ≡ Alone) (sym g) (with_same top Alone m.owner) in
          (λ e. let u : Alone ≡ Listed = sym a ∙ e in cc, λ p t e. let u : Alone ≡ Under p t = sym a ∙ e in cc))
      | inr g ↦ (let o = with_other top Alone m.owner k g in
          let older : m.fresh k ≡ true = sym (with_other top true m.fresh k g) ∙ fr in
          (λ e. (f.fresh_owned k older).0 (sym o ∙ e), λ p t e. fresh_more top m.fresh p ((f.fresh_owned k older).1 p t (sym o ∙ e))))
    ];
    waits = λ j k w. elim (split j k) as (λ x. (with_at top true m.fresh j ≡ true) × ((cell_at (set cs top blank) j).left < length h) × IsPair (get_or h (cell_at (set cs top blank) j).left nothing)) [
      | inl e ↦ absurd (let u : blank.left_kind ≡ Heap = subst (λ (d : Cell). d.left_kind ≡ Heap) same (subst (λ y. (cell_at (set cs top blank) y).left_kind ≡ Heap) e w) in cc)
      | inr g ↦ (let v = f.waits j g (subst (λ (d : Cell). d.left_kind ≡ Heap) (other j g) w) in
          subst (λ (d : Cell). (with_at top true m.fresh j ≡ true) × (d.left < length h) × IsPair (get_or h d.left nothing)) (sym (other j g)) (fresh_more top m.fresh j v.0, v.1, v.2))
    ];
  }
