-- A root given back: what the region holds then.
use Rattle.std.specs.Prelude.{◌≡◌, ◌≢◌, ℕ, ◌+◌, ◌-◌, ◌<◌, ◌≤◌, [], ◌∷◌, length, false, Some, None, ◌⊎◌}
use Rattle.std.specs.List.{sum_by}
use Rattle.std.proofs.Common.{get_or, set, refl, sym, ap, subst, ◌∙◌, arith, inl, inr, length-set}
use Rattle.std.proofs.lemmas.List.Sums.{sum_by-cons}
use Rattle.model_objects.specs.Object.{Object, cells}
use Rattle.acl_base.specs.declared.Word.{Word}
use Rattle.acl_base.specs.declared.Word.TheVariants as word
use Rattle.acl_pool.specs.declared.cell.Kind.{Kind}
use Rattle.acl_pool.specs.declared.cell.Kind.TheVariants.{Small, Sym, Bits, Big, Str, Cons, Heap}
use Rattle.acl_pool.specs.declared.cell.Role.TheVariants as role
use Rattle.acl_pool.specs.declared.cell.Cell.{Cell}
use Rattle.acl_pool.specs.declared.region.Region.{Region}
use Rattle.acl_pool.specs.declared.Root.{Root}
use Rattle.acl_pool.specs.Roots.{Held, standing, IsLive, cells_at, used, GivesBack, IsPool}
use Rattle.acl_pool.specs.declared.cell.Part.{Part}
use Rattle.acl_pool.specs.Trees.{part_of, Bare}
use Rattle.acl_pool.specs.Cells.{size_of, cell_at, rooted, held_of, Marks, Readable, Sound, IsSound, IsRootCell, target, Alone}
use Rattle.acl_pool.specs.Steps.{give_with, give_at, IsWithin}
use Rattle.acl_pool.proofs.MarkLemmas.{nat_or, cell_same, cell_other}
use Rattle.acl_pool.proofs.GivenLemmas.{relinked, marks_given, given_back}
use Rattle.acl_pool.proofs.PlaceLemmas.{place_is, place_past, length_places, place_in, sum_but, points, points_at, points_some, stays_by, same_root}

pub give_with_is : (r : Region) (k : Kind) (n i : ℕ) → target k n ≡ Some i → give_with r k n ≡ give_at r i
give_with_is r Small n i e = cc
give_with_is r Sym n i e = cc
give_with_is r Bits n i e = cc
give_with_is r Big n i e = let g : n ≡ i = cc in ap (give_at r) g
give_with_is r Str n i e = let g : n ≡ i = cc in ap (give_at r) g
give_with_is r Cons n i e = let g : n ≡ i = cc in ap (give_at r) g
give_with_is r Heap n i e = cc

pub is_within : (r : Region) (k : Kind) (n : ℕ) → ((i : ℕ) → target k n ≡ Some i → i < length r.cells) → IsWithin r k n
is_within r Small n f = tt
is_within r Sym n f = tt
is_within r Bits n f = tt
is_within r Big n f = f n refl
is_within r Str n f = f n refl
is_within r Cons n f = f n refl
is_within r Heap n f = tt

-- the region once a root at a place was given back
abbrev pub region_after : Region → ℕ → ℕ → Region
region_after r i n = record { cells = set r.cells i (relinked (cell_at r.cells i) r.given role.Inside); top = r.top; given = i; spare = r.spare + n }

module _ {r : Region} {used : ℕ} {m : Marks} (s : Sound r used m) (i n : ℕ) (o : Object ℕ) (here : get_or (held_of r).places i None ≡ Some o) (takes : n ≡ cells o) where
  pub below : i < r.top
  below = (place_in s.reads i o here).0

  alone : m.owner i ≡ Alone
  alone = s.reads.fits.roots i below (place_in s.reads i o here).1

  within : i < length r.cells
  within = omega (arith, s.reads.fits.room, below)

  reads_after : Readable (region_after r i n) (marks_given m i)
  reads_after = record {
    fits = given_back s.reads.fits i below alone (s.reads.calm i);
    calm = s.reads.calm;
    roots = λ j l e. elim (nat_or j i) as (λ b. IsRootCell (cell_at (region_after r i n).cells j) (m.shown j)) [
      | inl g ↦ absurd (e (subst (λ k. (cell_at (region_after r i n).cells k).role ≡ role.Inside) (sym g) (ap (λ (c : Cell). c.role) (cell_same r.cells i (relinked (cell_at r.cells i) r.given role.Inside) within))))
      | inr g ↦ (let same = cell_other r.cells i (relinked (cell_at r.cells i) r.given role.Inside) j g in
          subst (λ (c : Cell). IsRootCell c (m.shown j)) (sym same) (s.reads.roots j l (λ k. e (ap (λ (c : Cell). c.role) same ∙ k))))
    ];
  }

  pub gone_at : get_or (held_of (region_after r i n)).places i None ≡ None
  gone_at = place_is reads_after i below ∙ ap (λ (c : Cell). rooted c.role (m.shown i)) (cell_same r.cells i (relinked (cell_at r.cells i) r.given role.Inside) within)

  pub other_at : (k : ℕ) → k ≢ i → get_or (held_of (region_after r i n)).places k None ≡ get_or (held_of r).places k None
  other_at k e = elim (below_or k r.top) as (λ b. get_or (held_of (region_after r i n)).places k None ≡ get_or (held_of r).places k None) [
    | inl l ↦ place_is reads_after k l ∙ (ap (λ (c : Cell). rooted c.role (m.shown k)) (cell_other r.cells i (relinked (cell_at r.cells i) r.given role.Inside) k e) ∙ sym (place_is s.reads k l))
    | inr l ↦ place_past reads_after k l ∙ sym (place_past s.reads k l)
  ]
    where
      below_or : (j k : ℕ) → (j < k) ⊎ (k ≤ j)
      below_or j k = grind arith

  sums : sum_by cells_at (held_of (region_after r i n)).places + n ≡ used
  sums =
      let e = sum_but cells_at None (held_of r).places (held_of (region_after r i n)).places i (length_places s.reads ∙ sym (length_places reads_after)) (omega (arith, length_places s.reads, below)) other_at in
      let a : cells_at (get_or (held_of r).places i None) ≡ n = ap cells_at here ∙ sym takes in
      let b : cells_at (get_or (held_of (region_after r i n)).places i None) ≡ 0 = ap cells_at gone_at in
      omega (arith, e, a, b, s.uses)

  pub sound_after : Sound (region_after r i n) (used - n) (marks_given m i)
  sound_after = record {
    reads = reads_after;
    spares =
        let a : size_of (m.shown i) ≡ cells o = (place_in s.reads i o here).2 in
        let b : sum_by (λ k. size_of (m.shown k)) (i ∷ m.given) ≡ size_of (m.shown i) + sum_by (λ k. size_of (m.shown k)) m.given = sum_by-cons (λ k. size_of (m.shown k)) i m.given in
        let d : r.spare ≡ sum_by (λ k. size_of (m.shown k)) m.given = s.spares in
        sym (b ∙ omega (arith, d, takes, a));
    uses = omega (arith, sums);
    counts = omega (arith, sums, s.counts);
    bounded = omega (arith, s.bounded, length-set r.cells i (relinked (cell_at r.cells i) r.given role.Inside));
  }

  pub enough : n ≤ used
  enough = omega (arith, sums)

  pub gives_back : (q : Root) → IsLive (held_of r) q → points q.word i → q.cells ≡ n → 0 < n → GivesBack (held_of r) (held_of (region_after r i n)) q
  gives_back q live at same some =
      let p = held_of r in
      let later = held_of (region_after r i n) in
      record {
        gone = λ l there. let e : None ≡ Some (standing later i) = sym gone_at ∙ (points_at later q.word i there.stands at).stands in cc;
        stays = λ u lives differs. stays_by p later u lives (λ k pk. other_at k (λ e. differs (same_root p u q i lives live (subst (points u.word) e pk) at)));
        no_more = λ u lives. (stays_by later p u lives (λ k pk. sym (other_at k (λ e. let g : None ≡ Some (standing later i) = sym gone_at ∙ (points_at later u.word i lives.stands (subst (points u.word) e pk)).stands in cc)))).live;
        value = λ e. absurd (omega (arith, e, same, some));
        uses = omega (arith, sums, same, s.uses);
        spares = ap (λ k. r.spare + k) (sym same);
      }

-- what is known of a live root of one cell or more
pub record Rooted (r : Region) (used : ℕ) (q : Root) (i : ℕ) : Type 0 where
  pub place : target (part_of q.word).kind (part_of q.word).bits ≡ Some i
  pub at : points q.word i
  pub here : get_or (held_of r).places i None ≡ Some (standing (held_of r) i)
  pub takes : q.cells ≡ cells (standing (held_of r) i)

pub rooted_at : (r : Region) (used : ℕ) (q : Root) → IsLive (held_of r) q → 0 < q.cells → (i : ℕ) × Rooted r used q i
rooted_at r used q live l =
    let p = held_of r in
    let some = points_some p q.word (omega (arith, live.takes, l)) in
    let at = points_at p q.word some.0 live.stands some.1 in
    (some.0, record { place = at.target; at = some.1; here = at.stands; takes = live.takes ∙ at.takes })

pub gives_nothing : (p : Held) (q : Root) → q.cells ≡ 0 → GivesBack p p q
gives_nothing p q e = record {
  gone = λ l live. absurd (omega (arith, e, l));
  stays = λ u live n. record { live = live; same = refl };
  no_more = λ u live. live;
  value = λ z. refl;
  uses = omega (arith, e);
  spares = omega (arith, e);
}

pub target_points : (w : Word) (i : ℕ) → target (part_of w).kind (part_of w).bits ≡ Some i → points w i
unfolding points
target_points (word.Small n) i e = cc
target_points (word.Big n) i e = cc
target_points (word.Sym n) i e = cc
target_points (word.Str n) i e = cc
target_points (word.Cons n) i e = cc

-- the part of a live root lies in the region
pub root_within : (r : Region) (used : ℕ) (q : Root) (part : Part) → IsSound r used → IsLive (held_of r) q → part ≡ part_of q.word → IsWithin r part.kind part.bits
root_within r used q part s live e =
    is_within r part.kind part.bits (λ i t.
    let at = points_at (held_of r) q.word i live.stands (target_points q.word i (subst (λ (p : Part). target p.kind p.bits ≡ Some i) e t)) in
    let l : i < r.top = (place_in s.1.reads i (standing (held_of r) i) at.stands).0 in
    omega (arith, s.1.reads.fits.room, l))

abbrev pub with_spare : Region → ℕ → Region
with_spare r n = record { cells = r.cells; top = r.top; given = r.given; spare = r.spare + n }

-- a root of one cell or more given back
pub root_given : (r : Region) (used : ℕ) (q : Root) (part : Part) (after : Region) → IsSound r used → IsLive (held_of r) q → 0 < q.cells → part ≡ part_of q.word → after ≡ give_with r part.kind part.bits
    → IsSound (with_spare after q.cells) (used - q.cells) × GivesBack (held_of r) (held_of (with_spare after q.cells)) q × (q.cells ≤ used) × (after.spare + q.cells ≤ r.top)
root_given r used q part after s live some e is =
    let k = rooted_at r used q live some in
    let t : target part.kind part.bits ≡ Some k.0 = subst (λ (p : Part). target p.kind p.bits ≡ Some k.0) (sym e) k.1.place in
    let g : after ≡ give_at r k.0 = is ∙ give_with_is r part.kind part.bits k.0 t in
    let o = standing (held_of r) k.0 in
    let more : q.cells ≤ used = enough s.1 k.0 q.cells o k.1.here k.1.takes in
    subst (λ (x : Region). IsSound (with_spare x q.cells) (used - q.cells) × GivesBack (held_of r) (held_of (with_spare x q.cells)) q × (q.cells ≤ used) × (x.spare + q.cells ≤ r.top)) (sym g) (
      (marks_given s.0 k.0, sound_after s.1 k.0 q.cells o k.1.here k.1.takes),
      gives_back s.1 k.0 q.cells o k.1.here k.1.takes q live k.1.at refl some,
      more,
      omega (arith, more, s.1.counts),
    )

pub sound_new : IsSound (record { cells = []; top = 0; given = 0; spare = 0 }) 0
sound_new = (
  record { shown = λ i. (Bare 0, Bare 0); owner = λ i. Alone; given = []; fresh = λ i. false },
  record {
    reads = record {
      fits = record {
        room = omega arith;
        shows = λ i l. absurd (omega arith);
        owned = λ i s n l. absurd (omega arith);
        roots = λ i l. absurd (omega arith);
        chained = tt;
        listed = λ k b. absurd b;
        fresh_owned = λ n e. absurd (cc);
        waits = λ i l. absurd (omega arith);
      };
      calm = λ n. refl;
      roots = λ i l. absurd (omega arith);
    };
    spares = refl;
    uses = refl;
    counts = refl;
    bounded = omega arith;
  },
)

pub pool_is : (r : Region) (used : ℕ) → IsSound r used → IsPool (held_of r)
pool_is r used s = record { place = λ n o e. (place_in s.1.reads n o e).3 }
