-- The pairs of a map, copied into a heap.
use Rattle.std.specs.Prelude.{◌≡◌, ℕ, List, [], ◌∷◌, ◌++◌, Bool, true, false, cond, Option, Some, None, refl, if◌then◌else◌}
use Rattle.std.proofs.Common.{ap, sym, ◌∙◌, subst}
use Rattle.std.specs.List.{IsDistinct}
use Rattle.std.specs.Map.{keys_of}
use Rattle.std.proofs.lemmas.List.{append_assoc, append-nil}
use Rattle.std.proofs.lemmas.Map.{lookup-none}
use Rattle.std.proofs.lemmas.Map.Entries.{none_past_head}
use Rattle.model_objects.specs.Object.{Object}
use Rattle.model_symbols.specs.Symbols.{QualifiedName}
use Rattle.model_symbols.specs.Growth.{AreDistinct}
use Rattle.model_prims.specs.Kinds.{by_number, same_object}
use Rattle.model_prims.proofs.Same.{same_tells, same_itself}
use Rattle.model_lists.specs.Lists.{value_at}
use Rattle.acl_base.specs.declared.Word.{Word}
use Rattle.acl_heap.specs.Objects.{Objects, Denotes, Extends}
use Rattle.acl_heap.specs.Growth.{Extends-self, Extends-then}
use Rattle.acl_heap.specs.Equal.{AllLie}
use Rattle.acl_hash.specs.Same.{same_key, same_equiv}
use Rattle.acl_hash.specs.Sorting.{pairs_in, named_pairs, KnowsPairs}
use Rattle.acl_hash.proofs.ListLemmas.{pairs_later, lie_later, value_known}
use Rattle.acl_hash.proofs.SortLemmas.{pairs_both, lie_both, one_order}
use Rattle.acl_maps.specs.Cells.{Places, place_at, HasKey, AreKeyed, opened_in, pairs_in as pairs_of_cells, cells_of, value_of}
use Rattle.acl_maps.specs.Listing.{listed, IsListing}
use Rattle.acl_maps.specs.declared.entry.OwnedEntry.{OwnedEntry}
use Rattle.acl_maps.proofs.CellLemmas.{cells_found}
use Rattle.acl_maps.proofs.CountLemmas.{pairs_found, opened_cell}

-- ---- copying under way

pub record IsCopying (all left : Places) (start h : Objects) (ws : List (Word × Word)) : Type 0 where
  pub grows : Extends start h
  pub lie : AllLie h ws
  pub same : pairs_in h ws ++ listed left ≡ listed all

pub copy_begins : {ps left : Places} {h : Objects} {ws : List (Word × Word)} → left ≡ ps → ws ≡ [] → IsCopying ps left h h ws
copy_begins {ps} {left} {h} {ws} l e =
    subst (λ (qs : Places). IsCopying ps qs h h ws) (sym l)
    (subst (IsCopying ps ps h h) (sym e) (record { grows = Extends-self h; lie = tt; same = refl }))

pub copy_skips : {all left rest : Places} {start h : Objects} {ws : List (Word × Word)} {k : Object ℕ} → IsCopying all left start h ws → left ≡ (k, None) ∷ rest → IsCopying all rest start h ws
copy_skips {all} {left} {rest} {start} {h} {ws} {k} c e = record { grows = c.grows; lie = c.lie; same = ap (λ (ps : Places). pairs_in h ws ++ listed ps) (sym e) ∙ c.same }

pub copy_takes : {all left rest : Places} {start h h' : Objects} {ws ws' : List (Word × Word)} {k : Object ℕ} {e : OwnedEntry} {w : Word × Word} → IsCopying all left start h ws → left ≡ (k, Some e) ∷ rest
    → Extends h h' → Denotes h' w.0 e.key → Denotes h' w.1 e.value → ws' ≡ ws ++ w ∷ [] → IsCopying all rest start h' ws'
copy_takes {all} {left} {rest} {start} {h} {h'} {ws} {ws'} {k} {e} {w} c at x key value more =
    subst (IsCopying all rest start h') (sym more)
    (record {
      grows = Extends-then c.grows x;
      lie = lie_both h' ws (w ∷ []) (lie_later ws x c.lie) (key.lies, value.lies, tt);
      same = pairs_same;
    })
  where
    entry_pair : pairs_in h' (w ∷ []) ≡ (e.key, e.value) ∷ []
    entry_pair = rw (key.is, value.is) refl

    pairs_same : pairs_in h' (ws ++ w ∷ []) ++ listed rest ≡ listed all
    pairs_same =
        ap (λ (ps : List (Object ℕ × Object ℕ)). ps ++ listed rest) (pairs_both h' ws (w ∷ []) ∙ rw (pairs_later ws x c.lie, entry_pair) refl)
        ∙ (append_assoc (pairs_in h ws) ((e.key, e.value) ∷ []) (listed rest)
        ∙ (ap (λ (ps : Places). pairs_in h ws ++ listed ps) (sym at) ∙ c.same))

pub copy_ends : {all left : Places} {start h : Objects} {ws : List (Word × Word)} → IsCopying all left start h ws → left ≡ [] → pairs_in h ws ≡ listed all
copy_ends {all} {left} {start} {h} {ws} c e = sym (append-nil (pairs_in h ws)) ∙ (ap (λ (ps : Places). pairs_in h ws ++ listed ps) (sym e) ∙ c.same)

-- ---- what each key finds

pub rest_distinct : (k : Object ℕ) (o : Option OwnedEntry) (ps : Places) → IsDistinct same_key (keys_of ((k, o) ∷ ps)) → IsDistinct same_key (keys_of ps)
unfolding IsDistinct
rest_distinct k o ps d = d.1

pub gone : (k : Object ℕ) (o : Option OwnedEntry) (ps : Places) → IsDistinct same_key (keys_of ((k, o) ∷ ps)) → place_at ps k ≡ None
gone k o ps d = lookup-none (same_key k) ps (none_past_head same_equiv k (k, o) ps d (same_itself k))

-- the first entry has its key, and the others have theirs
pub first_keyed : (k : Object ℕ) (o : Option OwnedEntry) (ps : Places) → AreKeyed ((k, o) ∷ ps) → HasKey k (Some o)
first_keyed k o ps a = subst (HasKey k) (ap (λ (b : Bool). cond b (Some o) (place_at ps k)) (same_itself k)) (a.each k)

pub rest_keyed : (k : Object ℕ) (o : Option OwnedEntry) (ps : Places) → IsDistinct same_key (keys_of ((k, o) ∷ ps)) → AreKeyed ((k, o) ∷ ps) → AreKeyed ps
rest_keyed k o ps d a = record { each = λ q. go q (same_key q k) refl (a.each q) }
  where
    go : (q : Object ℕ) (b : Bool) → same_key q k ≡ b → HasKey q (cond (same_key q k) (Some o) (place_at ps q)) → HasKey q (place_at ps q)
    go q true e h = subst (HasKey q) (sym (ap (place_at ps) (same_tells q k e) ∙ gone k o ps d)) tt
    go q false e h = subst (HasKey q) (ap (λ (b : Bool). cond b (Some o) (place_at ps q)) e) h

pub listed_finds : (ps : Places) → IsDistinct same_key (keys_of ps) → AreKeyed ps → (q : Object ℕ) → value_at by_number q (listed ps) ≡ value_of (place_at ps q)
listed_finds [] d a q = refl
listed_finds ((k, None) ∷ ps) d a q = go (same_key q k) refl (listed_finds ps (rest_distinct k None ps d) (rest_keyed k None ps d a) q)
  where
    go : (b : Bool) → same_key q k ≡ b → value_at by_number q (listed ps) ≡ value_of (place_at ps q) → value_at by_number q (listed ps) ≡ value_of (cond b (Some None) (place_at ps q))
    go true e i = i ∙ ap value_of (ap (place_at ps) (same_tells q k e) ∙ gone k None ps d)
    go false e i = i
listed_finds ((k, Some e) ∷ ps) d a q =
    ap (λ (x : Object ℕ). if same_object by_number q x then Some e.value else value_at by_number q (listed ps)) (first_keyed k (Some e) ps a)
    ∙ go (same_key q k) (listed_finds ps (rest_distinct k (Some e) ps d) (rest_keyed k (Some e) ps d a) q)
  where
    go : (b : Bool) → value_at by_number q (listed ps) ≡ value_of (place_at ps q) → (if b then Some e.value else value_at by_number q (listed ps)) ≡ value_of (cond b (Some (Some e)) (place_at ps q))
    go true i = refl
    go false i = i

pub cells_find : (ps : Places) → IsDistinct same_key (keys_of ps) → AreKeyed ps → (q : Object ℕ) → value_at by_number q (listed ps) ≡ value_at by_number q (pairs_of_cells (cells_of ps))
cells_find ps d a q = listed_finds ps d a q ∙ (sym (opened_cell (place_at ps q)) ∙ (ap opened_in (sym (cells_found q ps)) ∙ sym (pairs_found q (cells_of ps))))

-- pairs of places are known where those of the cells are
known_from : (symbols : List QualifiedName) (list : List (Object ℕ × Object ℕ)) → KnowsPairs symbols list → (ps : Places) → IsDistinct same_key (keys_of ps) → AreKeyed ps
    → ((q v : Object ℕ) → value_at by_number q (listed ps) ≡ Some v → value_at by_number q list ≡ Some v) → KnowsPairs symbols (listed ps)
known_from symbols list g [] d a h = tt
known_from symbols list g ((k, None) ∷ ps) d a h = known_from symbols list g ps (rest_distinct k None ps d) (rest_keyed k None ps d a) h
known_from symbols list g ((k, Some e) ∷ ps) d a h =
    let w = value_known symbols e.key list e.value g (h e.key e.value (ap (λ (b : Bool). if b then Some e.value else value_at by_number e.key (listed ps)) (same_itself e.key))) in (
      w.0,
      w.1,
      known_from symbols list g ps (rest_distinct k (Some e) ps d) (rest_keyed k (Some e) ps d a) (λ q v f. h q v (later q v f)),
    )
  where
    later : (q v : Object ℕ) → value_at by_number q (listed ps) ≡ Some v → value_at by_number q (listed ((k, Some e) ∷ ps)) ≡ Some v
    later q v f = go (same_key q e.key) refl
      where
        go : (b : Bool) → same_key q e.key ≡ b → (if same_key q e.key then Some e.value else value_at by_number q (listed ps)) ≡ Some v
        go true s = absurd (none_some (sym (listed_finds ps (rest_distinct k (Some e) ps d) (rest_keyed k (Some e) ps d a) q ∙ ap value_of (ap (place_at ps) (same_tells q e.key s ∙ first_keyed k (Some e) ps a) ∙ gone k (Some e) ps d)) ∙ f))
          where
            none_some : value_of None ≡ Some v → ⊥
            none_some x = cc
        go false s = ap (λ (b : Bool). if b then Some e.value else value_at by_number q (listed ps)) s ∙ f

pub listed_known : (symbols : List QualifiedName) (ps : Places) → IsDistinct same_key (keys_of ps) → AreKeyed ps → KnowsPairs symbols (pairs_of_cells (cells_of ps)) → KnowsPairs symbols (listed ps)
listed_known symbols ps d a g = known_from symbols (pairs_of_cells (cells_of ps)) g ps d a (λ q v f. sym (cells_find ps d a q) ∙ f)

pub is_listing : (symbols : List QualifiedName) (ps : Places) (h : Objects) (ws : List (Word × Word)) → AreDistinct symbols → IsDistinct same_key (keys_of ps) → AreKeyed ps → KnowsPairs symbols (pairs_of_cells (cells_of ps))
    → AllLie h ws → pairs_in h ws ≡ named_pairs symbols (listed ps) → IsListing symbols (cells_of ps) h ws
is_listing symbols ps h ws t d a g l e = record {
  lie = l;
  normal = λ list f m. e ∙ one_order symbols t (listed ps) list (listed_known symbols ps d a g) m (λ q. cells_find ps d a q ∙ (pairs_found q (cells_of ps) ∙ sym (f q)));
}
