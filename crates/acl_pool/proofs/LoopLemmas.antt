-- The copy of an object, from the first step to the last.
use Rattle.std.specs.Prelude.{◌≡◌, ◌≢◌, ℕ, ◌<◌, ◌≤◌, List, [], ◌∷◌, length, true, false}
use Rattle.std.proofs.Common.{sym, subst, ◌∙◌, arith, inl, inr, append-nil}
use Rattle.model_objects.specs.Object.{Object, cells, max_weight}
use Rattle.acl_heap.specs.Objects.{Objects}
use Rattle.acl_pool.specs.declared.cell.Kind.TheVariants.{Heap}
use Rattle.acl_pool.specs.declared.cell.Part.{Part}
use Rattle.acl_pool.specs.declared.copying.Waiting.{Waiting}
use Rattle.acl_pool.specs.declared.region.Region.{Region}
use Rattle.acl_pool.specs.Cells.{Marks, cell_at, In, IsChain}
use Rattle.acl_pool.specs.Building.{Building, room, IsRoomy}
use Rattle.acl_pool.specs.Copying.{Starts, Copying, IsCopying, Continues, IsCalm, HasRoom, Copies, Copied}
use Rattle.acl_pool.proofs.MarkLemmas.{calm_halves}
use Rattle.acl_pool.proofs.PlaceLemmas.{size_tree}

pub calm_kind : {r : Region} {m : Marks} (c : IsCalm r m) (i : ℕ) → i < r.top → (cell_at r.cells i).left_kind ≢ Heap
calm_kind c i l k = let a : true ≡ false = sym (c.built.fits.waits i l k).0 ∙ c.calm i in cc

-- no pair waits: the cells fit whatever the heap
pub building_any : (h : Objects) {r : Region} {m : Marks} → IsCalm r m → Building h r m
building_any h {r} {m} c =
    let f = c.built.fits in
    record {
      fits = record {
        room = f.room;
        shows = λ i l. f.shows i l ∙ calm_halves [] h m.shown (cell_at r.cells i) (cell_at r.cells i).left_kind (calm_kind c i l);
        owned = f.owned;
        roots = f.roots;
        chained = f.chained;
        listed = f.listed;
        fresh_owned = f.fresh_owned;
        waits = λ i l k. absurd (calm_kind c i l k);
      };
      spares = c.built.spares;
      bounded = c.built.bounded;
    }

pub roomy_calm : (r : Region) (n : ℕ) → HasRoom r n → IsRoomy r n
roomy_calm r n c = record { heap = []; marks = c.marks; built = c.calm.built; enough = c.enough }

pub copies_begun : (h : Objects) (r later : Region) (w behind : Waiting) (part : Part) (o : Object ℕ) → w.count ≡ 0 → cells o ≤ max_weight → cells o ≤ room r → Starts h r later w behind part o → Copies h r later behind part o
unfolding Starts Copies
copies_begun h r later w behind part o none light enough s m c =
    let d = s m (building_any h c) in
    let b = d.1.1.1 in
    let fits : r.top ≤ length r.cells = c.built.fits.room in (
      d.0,
      (
        d.1.0,
        (
          d.1.1.0,
          record {
            built = b.built;
            shows = b.shows;
            free = b.free;
            new = λ n t j l e. b.new n t j l (inl e);
            plain = b.plain;
            kept = λ j l e. let k = b.kept j l (inl e) in (k.0, k.1, k.2 ∙ e);
            calm = calm_kind c;
            roots = b.roots;
            heaps = λ j l g. elim (b.heaps j l g) as (λ x. In j d.1.0) [ inl i ↦ i | inr f ↦ (let a : true ≡ false = sym f.1 ∙ c.calm j in cc) ];
            spare = b.spare;
            top = b.top;
            same_length = b.same_length;
            sizes = b.sizes;
            few = b.few;
            waits = b.waits;
            chained = subst (λ (ns : List ℕ). IsChain later.cells behind.first ns) (append-nil d.1.0) (b.chained [] (λ j i. absurd i) tt);
            counts = omega (arith, b.counts, none);
            narrow = b.narrow;
            enough = omega (arith, size_tree o, enough);
            light = omega (arith, size_tree o, light);
          },
        ),
      ),
    )

pub copies_on : (h : Objects) (r later last : Region) (w behind : Waiting) (part : Part) (o : Object ℕ) → Copies h r later w part o → Continues h later last w behind → Copies h r last behind part o
unfolding Copies Continues
copies_on h r later last w behind part o s g m c = let d = s m c in g r m d.0 part o d.1.0 d.1.1.0 d.1.1.1

pub copying_now : (h : Objects) (r later : Region) (w : Waiting) (part : Part) (o : Object ℕ) (n : ℕ) → HasRoom r n → Copies h r later w part o → IsCopying h later w
unfolding Copies
copying_now h r later w part o n c s =
    let d = s c.marks c.calm in
    record { start = r; marks = c.marks; now = d.0; part = part; object = o; work = d.1.0; taken = d.1.1.0; copying = d.1.1.1 }

none_left : {h : Objects} {r later : Region} {m now : Marks} {w : Waiting} {part : Part} {o : Object ℕ} (work : List ℕ) {taken : ℕ} → Copying h r later m now w part o work taken → w.count ≡ 0 → Copying h r later m now w part o [] taken
none_left [] cp e = cp
none_left (n ∷ ns) cp e = absurd (omega (arith, cp.counts, e))

pub copied_whole : (h : Objects) (r later : Region) (w : Waiting) (part : Part) (o : Object ℕ) → w.count ≡ 0 → Copies h r later w part o → Copied h r later part o
unfolding Copies Copied
copied_whole h r later w part o e s m c = let d = s m c in (d.0, (w, (d.1.1.0, none_left d.1.0 d.1.1.1 e)))
