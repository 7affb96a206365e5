-- A cell that was never taken, and any cell that is taken.
use Rattle.std.specs.Prelude.{◌≡◌, ◌≢◌, ℕ, ◌+◌, ◌<◌, List, ◌∷◌, length, Bool, true, Some, ◌⊎◌}
use Rattle.std.proofs.Common.{set, sym, ap, subst, ◌∙◌, arith, inl, inr, length-set, set-set}
use Rattle.acl_heap.specs.Objects.{Objects}
use Rattle.acl_pool.specs.declared.cell.Role.TheVariants as role
use Rattle.acl_pool.specs.declared.cell.Cell.{Cell}
use Rattle.acl_pool.specs.declared.region.Region.{Region}
use Rattle.acl_pool.specs.Cells.{size_of, both, halves, cell_at, blank, Alone, Under, Listed, Marks, Fits, target_at}
use Rattle.acl_pool.specs.Steps.{placed_again, placed_new, Places}
use Rattle.acl_pool.specs.Building.{Building, room, IsNewCell, Placed}
use Rattle.acl_pool.proofs.MarkLemmas.{nat_or, with_same, with_other, halves_same, cell_same, cell_other, owner_kept}
use Rattle.acl_pool.proofs.FitsLemmas.{MayWrite, marks_written, written}
use Rattle.acl_pool.proofs.GivenLemmas.{alone_unless, fresh_more}
use Rattle.acl_pool.proofs.TakeLemmas.{sum_same}
use Rattle.acl_pool.proofs.PlacedLemmas.{owner_target, head_of, placed_4, m4, marks_longer, longer_fits}

at_or : (j n : ℕ) → j < n + 1 → (j ≡ n) ⊎ (j < n)
at_or j n l = grind arith

module _ {h : Objects} {r : Region} {m : Marks} (b : Building h r m) (c : Cell) (nc : IsNewCell h r m c) (none : r.spare ≡ 0) (l : r.top < length r.cells) where
  abbrev pub m1 : Marks
  m1 = marks_longer m r.top

  abbrev pub m2 : Marks
  m2 = marks_written h m1 r.top c

  below_not : (j : ℕ) → j < r.top → j ≢ r.top
  below_not j k = omega arith

  may : MayWrite h (set r.cells r.top blank) (r.top + 1) m1 r.top c
  may = record {
    alone = λ s n t. let a = nc.alone s n t in let k : n < r.top = a.0 in
        (omega arith, alone_unless r.top m.owner n a.1, ap (λ (d : Cell). d.role) (cell_other r.cells r.top blank n (below_not n k)) ∙ a.2, below_not n k);
    apart = nc.apart;
    inside = nc.inside;
    here = omega arith;
    unlisted = λ e. let g : Alone ≡ Listed = sym (with_same r.top Alone m.owner) ∙ e in cc;
    same = λ p s e. let g : Alone ≡ Under p s = sym (with_same r.top Alone m.owner) ∙ e in cc;
    fresh = with_same r.top true m.fresh;
    waits = nc.waits;
  }

  fits : Fits h (set r.cells r.top c) (r.top + 1) r.given m2
  fits = subst (λ (cs : List Cell). Fits h cs (r.top + 1) r.given m2) (set-set r.cells r.top blank c) (written (longer_fits b.fits l) may)

  shown_old : (j : ℕ) → j ≢ r.top → m2.shown j ≡ m.shown j
  shown_old j n = with_other r.top (halves h m1.shown c) m1.shown j n ∙ with_other r.top (both m.shown blank) m.shown j n

  halves_old : halves h m1.shown c ≡ halves h m.shown c
  halves_old = halves_same h m.shown m1.shown c (λ s n t. with_other r.top (both m.shown blank) m.shown n (below_not n (nc.alone s n t).0))

  target_below : (s : Bool) (n : ℕ) → target_at s c ≡ Some n → n < r.top
  target_below s n t = (nc.alone s n t).0

  pub placed_first : Placed h r (placed_new r c) m m2 c r.top
  unfolding placed_new
  placed_first = record {
    built = record {
      fits = fits;
      spares = b.spares ∙ sum_same (λ k. size_of (m.shown k)) (λ k. size_of (m2.shown k)) m.given (λ k i. ap size_of (sym (shown_old k (below_not k (b.fits.listed k i).0))));
      bounded = omega (arith, b.bounded, length-set r.cells r.top c);
    };
    cell = cell_same r.cells r.top c l;
    shown = with_same r.top (halves h m1.shown c) m1.shown ∙ halves_old;
    owner = owner_kept c r.top m1.owner r.top (λ s t. let k = target_below s r.top t in absurd (omega (arith, k))) ∙ with_same r.top Alone m.owner;
    fresh = with_same r.top true m.fresh;
    below = omega arith;
    older = λ j k. at_or j r.top k;
    kept = λ j k e. (below_not j k, cell_other r.cells r.top c j (below_not j k), shown_old j (below_not j k));
    owners = λ j k e out. owner_kept c r.top m1.owner j out ∙ with_other r.top Alone m.owner j (below_not j k);
    targets = λ s j t. owner_target c r.top m1.owner nc.apart s j t;
    fresh_more = λ j e. fresh_more r.top m.fresh j e;
    fresh_less = λ j e. elim (nat_or j r.top) as (λ x. (j ≡ r.top) ⊎ (m.fresh j ≡ true)) [ inl g ↦ inl g | inr n ↦ inr (sym (with_other r.top true m.fresh j n) ∙ e) ];
    roots = λ j k e. elim (nat_or j r.top) as (λ x. (j < r.top) × ((cell_at r.cells j).role ≢ role.Inside)) [
      | inl g ↦ absurd (e (subst (λ y. (cell_at (set r.cells r.top c) y).role ≡ role.Inside) (sym g) (ap (λ (d : Cell). d.role) (cell_same r.cells r.top c l) ∙ nc.inside)))
      | inr n ↦ (omega (arith, n, k), λ g. e (ap (λ (d : Cell). d.role) (cell_other r.cells r.top c j n) ∙ g))
    ];
    spare = omega (arith, none);
    top = omega (arith, none);
    same_length = length-set r.cells r.top c;
  }

moved : {h : Objects} {r : Region} {m after : Marks} {c : Cell} (good later : Region) (k n : ℕ) → Placed h r good m after c k → later ≡ good → n ≡ k → Placed h r later m after c n
moved {h} {r} {m} {after} {c} good later k n p e f = subst (λ (x : Region). Placed h r x m after c n) (sym e) (subst (λ y. Placed h r good m after c y) (sym f) p)

again : {h : Objects} {r : Region} {m : Marks} (b : Building h r m) (c : Cell) (nc : IsNewCell h r m c) (some : 0 < r.spare) (rest : List ℕ) (is : m.given ≡ r.given ∷ rest) (later : Region) (n : ℕ) → later ≡ placed_again r c → n ≡ r.given → (after : Marks) × Placed h r later m after c n
unfolding placed_again
again {h} {r} {m} b c nc some rest is later n e f = (m4 b c nc some rest is, moved (placed_again r c) later r.given n (placed_4 b c nc some rest is) e f)

zero_or : (n : ℕ) → (n ≡ 0) ⊎ (0 < n)
zero_or n = grind arith

-- whatever cell is taken
pub placed : {h : Objects} {r : Region} {m : Marks} (b : Building h r m) (c : Cell) (nc : IsNewCell h r m c) → 0 < room r → (later : Region) (n : ℕ) → Places r later c n → (after : Marks) × Placed h r later m after c n
placed {h} {r} {m} b c nc l later n p = elim (zero_or r.spare) as (λ x. (after : Marks) × Placed h r later m after c n) [
  | inl e ↦ (let q = p.first e in
      let k : r.top < length r.cells = omega (arith, e, l) in
      (marks_written h (marks_longer m r.top) r.top c, moved (placed_new r c) later r.top n (placed_first b c nc e k) q.0 q.1))
  | inr s ↦ (let q = p.again s in
      let g = head_of b s in
      again b c nc s g.0 g.1 later n q.0 q.1)
]
