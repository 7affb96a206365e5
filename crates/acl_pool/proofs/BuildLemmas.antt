-- Trees that are built cell by cell.
use Rattle.std.specs.Prelude.{◌≡◌, ◌≢◌, ℕ, ◌+◌, ◌-◌, ◌<◌, ◌≤◌, List, Bool, true, false, Some}
use Rattle.std.proofs.Common.{refl, sym, ap, subst, ◌∙◌, arith, inl, inr}
use Rattle.acl_heap.specs.Objects.{Objects}
use Rattle.acl_pool.specs.declared.cell.Kind.{Kind}
use Rattle.acl_pool.specs.declared.cell.Kind.TheVariants.{Bits, Big, Str, Heap}
use Rattle.acl_pool.specs.declared.cell.Role.TheVariants as role
use Rattle.acl_pool.specs.declared.cell.Part.{Part}
use Rattle.acl_pool.specs.declared.cell.Cell.{Cell}
use Rattle.acl_pool.specs.declared.region.Region.{Region}
use Rattle.acl_pool.specs.Trees.{Tree, Bare, Node}
use Rattle.acl_pool.specs.Cells.{Halves, tree_with, cell_at, Alone, Marks, target, target_at}
use Rattle.acl_pool.specs.Building.{Building, room, IsNewCell, IsKept, Placed, Builds, Gives, IsRoomy}
use Rattle.acl_pool.specs.Steps.{HasPlace, Places}
use Rattle.acl_pool.proofs.PlacedLemmas.{has_place}
use Rattle.acl_pool.proofs.NewLemmas.{placed}
use Rattle.acl_pool.specs.Trees.{number, numbers, chain}
use Rattle.std.proofs.Common.{drop-drop}
use Rattle.std.specs.Prelude.{drop, ◌*◌, suc}

-- a part that points to no cell takes none
pub builds_none : {h : Objects} {r : Region} {m : Marks} (b : Building h r m) (part : Part) (t : Tree) → tree_with m.shown part.kind part.bits ≡ t → ((n : ℕ) → target part.kind part.bits ≡ Some n → ⊥) → part.kind ≢ Heap → Builds h r r m m part t 0
builds_none {h} {r} {m} b part t e out plain = record {
  built = b;
  shows = e;
  free = λ n g. absurd (out n g);
  new = λ n g. absurd (out n g);
  plain = plain;
  kept = λ j l k. (refl, refl, refl);
  fresh_more = λ j f. f;
  roots = λ j l e. (l, e);
  heaps = λ j l e. (l, (b.fits.waits j l e).0);
  spare = omega arith;
  top = omega arith;
  same_length = refl;
}

-- the cell of bare bits and a part
abbrev pub bits_cell : ℕ → Part → Cell
bits_cell n part = record { left = n; right = part.bits; link = 0; left_kind = Bits; right_kind = part.kind; role = role.Inside }

pub bits_new : {h : Objects} {r later : Region} {m after : Marks} {part : Part} {t : Tree} {k : ℕ} (b : Builds h r later m after part t k) (n : ℕ) → IsNewCell h later after (bits_cell n part)
bits_new {h} {r} {later} {m} {after} {part} {t} {k} b n = record {
  alone = λ s x g. alone s x g;
  apart = λ x g. cc;
  inside = refl;
  waits = λ g. cc;
}
  where
    alone : (s : Bool) (x : ℕ) → target_at s (bits_cell n part) ≡ Some x → (x < later.top) × (after.owner x ≡ Alone) × ((cell_at later.cells x).role ≡ role.Inside)
    alone true x g = cc
    alone false x g = let f = b.free x g in (f.0, f.1, f.2)

-- a node of bare bits and the tree that was built
pub builds_node : {h : Objects} {r later last : Region} {m after end : Marks} {part : Part} {t : Tree} {k : ℕ} (b : Builds h r later m after part t k) (n at : ℕ) (kind : Kind)
    → Placed h later last after end (bits_cell n part) at → ((shown : ℕ → Halves) (x : ℕ) → tree_with shown kind x ≡ Node kind (shown x).0 (shown x).1) → ((x y : ℕ) → target kind x ≡ Some y → x ≡ y) → kind ≢ Heap
    → Builds h r last m end (record { kind = kind; bits = at }) (Node kind (Bare n) t) (k + 1)
builds_node {h} {r} {later} {last} {m} {after} {end} {part} {t} {k} b n at kind p node points plain =
    let kept_still : (j : ℕ) → j < r.top → IsKept m j → (j < later.top) × IsKept after j = λ j l e. (omega (arith, l, b.top), elim e as (λ x. IsKept after j) [ inl a ↦ inl ((b.kept j l e).2 ∙ a) | inr f ↦ inr (b.fresh_more j f) ]) in
    let not_target : (j : ℕ) → j < r.top → IsKept m j → (s : Bool) → target_at s (bits_cell n part) ≡ Some j → ⊥ = λ j l e s g. elim s as (λ s. target_at s (bits_cell n part) ≡ Some j → ⊥) [ true ↦ (λ g. cc) | false ↦ (λ g. b.new j g j l e refl) ] g in
    record {
      built = p.built;
      shows = node end.shown at ∙ ap (λ (x : Halves). Node kind x.0 x.1) p.shown ∙ ap (Node kind (Bare n)) b.shows;
      free = λ x g. subst (λ y. (y < last.top) × (end.owner y ≡ Alone) × ((cell_at last.cells y).role ≡ role.Inside) × (end.fresh y ≡ true)) (points at x g) (p.below, p.owner, ap (λ (d : Cell). d.role) p.cell, p.fresh);
      new = λ x g j l e. let q = kept_still j l e in subst (λ y. j ≢ y) (points at x g) (p.kept j q.0 q.1).0;
      plain = plain;
      kept = λ j l e. let q = kept_still j l e in let a = p.kept j q.0 q.1 in let o = b.kept j l e in (a.1 ∙ o.0, a.2 ∙ o.1, p.owners j q.0 q.1 (not_target j l e) ∙ o.2);
      fresh_more = λ j f. p.fresh_more j (b.fresh_more j f);
      roots = λ j l e. let q = p.roots j l e in b.roots j q.0 q.1;
      heaps = λ j l e.
          let none : j ≡ at → ⊥ = λ g. let u : Bits ≡ Heap = sym (ap (λ (d : Cell). d.left_kind) p.cell) ∙ subst (λ y. (cell_at last.cells y).left_kind ≡ Heap) g e in cc in
          let low : j < later.top = elim (p.older j l) as (λ x. j < later.top) [ inl g ↦ absurd (none g) | inr k ↦ k ] in
          let fresh : after.fresh j ≡ true = elim (p.fresh_less j (p.built.fits.waits j l e).0) as (λ x. after.fresh j ≡ true) [ inl g ↦ absurd (none g) | inr f ↦ f ] in
          b.heaps j low (sym (ap (λ (d : Cell). d.left_kind) (p.kept j low (inr fresh)).1) ∙ e);
      spare = omega (arith, p.spare, b.spare);
      top = omega (arith, p.top, b.top, b.spare);
      same_length = p.same_length ∙ b.same_length;
    }

pub gives_none : (r : Region) (n : ℕ) → Gives r r (record { kind = Bits; bits = n }) (Bare n) 0
unfolding Gives
gives_none r n h m b = (m, builds_none b (record { kind = Bits; bits = n }) (Bare n) refl (λ x e. cc) (λ e. cc))

room_left : {h : Objects} {r later : Region} {m after : Marks} {part : Part} {t : Tree} {k : ℕ} → Builds h r later m after part t k → k < room r → 0 < room later
room_left {h} {r} {later} {m} {after} {part} {t} {k} b l = omega (arith, b.spare, b.top, b.same_length, l)

pub roomy_place : (r later : Region) (part : Part) (t : Tree) (n k : ℕ) → IsRoomy r n → Gives r later part t k → k < n → HasPlace later
unfolding Gives
roomy_place r later part t n k roomy g l =
    let b = g roomy.heap roomy.marks roomy.built in
    has_place b.1.built (room_left b.1 (omega (arith, roomy.enough, l)))

gives_kind : (r later last : Region) (part : Part) (t : Tree) (k n at : ℕ) (kind : Kind) → k < room r → Gives r later part t k → Places later last (bits_cell n part) at
    → ((shown : ℕ → Halves) (x : ℕ) → tree_with shown kind x ≡ Node kind (shown x).0 (shown x).1) → ((x y : ℕ) → target kind x ≡ Some y → x ≡ y) → kind ≢ Heap
    → Gives r last (record { kind = kind; bits = at }) (Node kind (Bare n) t) (k + 1)
unfolding Gives
gives_kind r later last part t k n at kind l g p node points plain h m b =
    let d = g h m b in
    let q = placed d.1.built (bits_cell n part) (bits_new d.1 n) (room_left d.1 l) last at p in
    (q.0, builds_node d.1 n at kind q.1 node points plain)

pub gives_text : (r later last : Region) (part : Part) (t : Tree) (k n at : ℕ) → k < room r → Gives r later part t k → Places later last (bits_cell n part) at → Gives r last (record { kind = Str; bits = at }) (Node Str (Bare n) t) (k + 1)
gives_text r later last part t k n at l g p = gives_kind r later last part t k n at Str l g p (λ shown x. refl) (λ x y e. cc) (λ e. cc)

pub gives_wide : (r later last : Region) (part : Part) (t : Tree) (k n at : ℕ) → k < room r → Gives r later part t k → Places later last (bits_cell n part) at → Gives r last (record { kind = Big; bits = at }) (Node Big (Bare n) t) (k + 1)
gives_wide r later last part t k n at l g p = gives_kind r later last part t k n at Big l g p (λ shown x. refl) (λ x y e. cc) (λ e. cc)

-- one more number in front
pub chain_more : (bs : List ℕ) (at done next : ℕ) → at + 8 ≡ next → Node Str (Bare (number (drop at bs))) (chain (numbers done (drop next bs))) ≡ chain (numbers (done + 1) (drop at bs))
chain_more bs at done next e =
    let one : done + 1 ≡ suc done = omega arith in
    subst (λ k. Node Str (Bare (number (drop at bs))) (chain (numbers done (drop next bs))) ≡ chain (numbers k (drop at bs))) (sym one)
    (ap (λ (xs : List ℕ). Node Str (Bare (number (drop at bs))) (chain (numbers done xs))) (ap (λ k. drop k bs) (sym e) ∙ sym (drop_on at bs)))
  where
    drop_on : (at : ℕ) (bs : List ℕ) → drop 8 (drop at bs) ≡ drop (at + 8) bs
    drop_on at bs = drop-drop 8 at bs

pub bytes_step : (r later last : Region) (rest : Part) (bs : List ℕ) (count done n at : ℕ) (cell : Cell) → done < count → count ≤ room r → Gives r later rest (chain (numbers done (drop (8 * (count - done)) bs))) done
    → Places later last cell at → cell ≡ bits_cell n rest → n ≡ number (drop (8 * (count - 1 - done)) bs) → Gives r last (record { kind = Str; bits = at }) (chain (numbers (done + 1) (drop (8 * (count - (done + 1))) bs))) (done + 1)
bytes_step r later last rest bs count done n at cell l room g p e f =
    let q : Places later last (bits_cell n rest) at = subst (λ (d : Cell). Places later last d at) e p in
    let a = gives_text r later last rest (chain (numbers done (drop (8 * (count - done)) bs))) done n at (omega (arith, l, room)) g q in
    let same : 8 * (count - 1 - done) ≡ 8 * (count - (done + 1)) = omega arith in
    subst (λ (t : Tree). Gives r last (record { kind = Str; bits = at }) t (done + 1))
    (ap (λ k. Node Str (Bare k) (chain (numbers done (drop (8 * (count - done)) bs)))) f ∙ (chain_more bs (8 * (count - 1 - done)) done (8 * (count - done)) (omega (arith, l)) ∙ ap (λ k. chain (numbers (done + 1) (drop k bs))) same)) a

pub text_whole : (r later last : Region) (rest : Part) (t : Tree) (k n at : ℕ) (cell : Cell) → 1 + k ≤ room r → Gives r later rest t k → Places later last cell at → cell ≡ bits_cell n rest → Gives r last (record { kind = Str; bits = at }) (Node Str (Bare n) t) (1 + k)
text_whole r later last rest t k n at cell l g p e =
    subst (λ x. Gives r last (record { kind = Str; bits = at }) (Node Str (Bare n) t) x) (omega arith)
    (gives_text r later last rest t k n at (omega (arith, l)) g (subst (λ (d : Cell). Places later last d at) e p))

pub wide_whole : (r last : Region) (low high at : ℕ) (cell : Cell) → 1 ≤ room r → Places r last cell at → cell ≡ bits_cell low (record { kind = Bits; bits = high }) → Gives r last (record { kind = Big; bits = at }) (Node Big (Bare low) (Bare high)) 1
wide_whole r last low high at cell l p e = gives_wide r r last (record { kind = Bits; bits = high }) (Bare high) 0 low at (omega (arith, l)) (gives_none r high) (subst (λ (d : Cell). Places r last d at) e p)

pub roomy_first : (r : Region) (n : ℕ) → IsRoomy r n → 0 < n → HasPlace r
roomy_first r n roomy l = has_place roomy.built (omega (arith, roomy.enough, l))
