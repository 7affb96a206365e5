-- The pairs of a field, copied out of its pool.
use Rattle.std.specs.Prelude.{◌≡◌, ℕ, ◌<◌, List, [], ◌∷◌, ◌++◌, length, Bool, true, false, cond, Option, Some, None, refl, if◌then◌else◌}
use Rattle.std.proofs.Common.{ap, sym, ◌∙◌, arith, subst}
use Rattle.std.specs.Option.{option_flatten, option_map}
use Rattle.std.specs.List.{IsDistinct}
use Rattle.std.specs.Map.{keys_of}
use Rattle.std.proofs.lemmas.List.{append_assoc, append-nil}
use Rattle.model_objects.specs.Object.{Object}
use Rattle.model_objects.specs.Named.{Knows}
use Rattle.model_symbols.specs.Symbols.{QualifiedName}
use Rattle.model_symbols.specs.Growth.{AreDistinct}
use Rattle.model_prims.specs.Kinds.{by_number, same_object}
use Rattle.model_prims.proofs.Same.{same_tells}
use Rattle.model_lists.specs.Lists.{value_at}
use Rattle.acl_base.specs.declared.Word.{Word}
use Rattle.acl_heap.specs.Objects.{Objects, object_of, Lies, Denotes, Extends}
use Rattle.acl_heap.specs.Growth.{Extends-self, Extends-then}
use Rattle.acl_heap.specs.Equal.{AllLie}
use Rattle.acl_pool.specs.Roots.{Held, object_at}
use Rattle.acl_pool.specs.declared.Root.{Root}
use Rattle.acl_hash.specs.declared.entry.Entry.{Entry}
use Rattle.acl_hash.specs.Same.{same_key, same_equiv}
use Rattle.acl_hash.specs.Places.{Places, place_at, entry_at, part_of}
use Rattle.acl_hash.specs.Pools.{Fits, Shows, shown_at, EntryFits, Puts}
use Rattle.acl_hash.specs.Sorting.{pairs_in, named_pairs, KnowsPairs, KnowsField, IsListing, listed}
use Rattle.acl_hash.proofs.FieldLemmas.{IsAt, entry_fits, entry_here, entry_there, first_entry, rest_distinct, without_first}
use Rattle.acl_hash.proofs.SortLemmas.{pairs_both, lie_both, value_named, one_order}

-- ---- each place

-- each key has this with what its place holds
abbrev EachPlace : (Object ℕ → Option Entry → Type 0) → Places → Type 0
EachPlace P [] = Unit {0}
EachPlace P ((k, o) ∷ ps) = P k o × EachPlace P ps

pub each_place : (P : Object ℕ → Option Entry → Type 0) → ((k : Object ℕ) → P k None) → (ps : Places) → IsDistinct same_key (keys_of ps) → ((k : Object ℕ) → P k (entry_at ps k)) → EachPlace P ps
each_place P none [] d h = tt
each_place P none ((k, o) ∷ ps) d h = (subst (P k) (first_entry k o ps) (h k), each_place P none ps (rest_distinct k o ps d) rest)
  where
    at : IsAt ((k, o) ∷ ps) ps k None
    at = without_first k o ps d

    rest : (q : Object ℕ) → P q (entry_at ps q)
    rest q = go (same_key k q) refl
      where
        go : (t : Bool) → same_key k q ≡ t → P q (entry_at ps q)
        go true e = subst (P q) (sym (entry_here at q e)) (none q)
        go false e = subst (P q) (sym (entry_there at q e)) (h q)

-- ---- what the entries stand for

module _ (p : Held) where
  abbrev IsKeyed : Object ℕ → Option Entry → Type 0
  IsKeyed k o = (r : Root) → part_of true o ≡ Some r → object_at p r ≡ k

  listed_shows : (ps : Places) → IsDistinct same_key (keys_of ps) → EachPlace IsKeyed ps → Shows p ps (listed p ps)
  listed_shows [] d h q = refl
  listed_shows ((k, None) ∷ ps) d h q = go (same_key q k) refl (listed_shows ps (rest_distinct k None ps d) h.1 q)
    where
      found : Bool → Option (Object ℕ)
      found b = option_map (object_at p) (part_of false (option_flatten (cond b (Some None) (place_at ps q))))

      gone : same_key q k ≡ true → shown_at p ps q ≡ None
      gone e = ap (λ (o : Option Entry). option_map (object_at p) (part_of false o)) (entry_here (without_first k None ps d) q (same_equiv.symm k q ∙ e))

      go : (t : Bool) → same_key q k ≡ t → shown_at p ps q ≡ value_at by_number q (listed p ps) → found (same_key q k) ≡ value_at by_number q (listed p ps)
      go true e i = ap found e ∙ (sym (gone e) ∙ i)
      go false e i = ap found e ∙ i
  listed_shows ((k, Some e) ∷ ps) d h q =
      go (same_key q k) (listed_shows ps (rest_distinct k (Some e) ps d) h.1 q)
      ∙ ap (λ (x : Object ℕ). if same_object by_number q x then Some (object_at p e.value) else value_at by_number q (listed p ps)) (sym (h.0 e.key refl))
    where
      go : (t : Bool) → shown_at p ps q ≡ value_at by_number q (listed p ps)
          → option_map (object_at p) (part_of false (option_flatten (cond t (Some (Some e)) (place_at ps q)))) ≡ (if t then Some (object_at p e.value) else value_at by_number q (listed p ps))
      go true i = refl
      go false i = i

  module _ (symbols : List QualifiedName) where
    abbrev Knowing : Object ℕ → Option Entry → Type 0
    Knowing k o = (b : Bool) (r : Root) → part_of b o ≡ Some r → Knows (length symbols) (object_at p r)

    listed_known : (ps : Places) → EachPlace Knowing ps → KnowsPairs symbols (listed p ps)
    listed_known [] h = tt
    listed_known ((k, None) ∷ ps) h = listed_known ps h.1
    listed_known ((k, Some e) ∷ ps) h = (h.0 true e.key refl, h.0 false e.value refl, listed_known ps h.1)

no_part : (b : Bool) (r : Root) → part_of b None ≡ Some r → ⊥
no_part b r e = cc

pub field_shows : {p : Held} {ps : Places} → Fits p ps → IsDistinct same_key (keys_of ps) → Shows p ps (listed p ps)
field_shows {p} {ps} f d = listed_shows p ps d (each_place (IsKeyed p) (λ k r e. absurd (no_part true r e)) ps d (λ k. f.key k))

pub field_known : (symbols : List QualifiedName) (p : Held) (ps : Places) → KnowsField symbols p ps → IsDistinct same_key (keys_of ps) → KnowsPairs symbols (listed p ps)
field_known symbols p ps k d = listed_known p symbols ps (each_place (Knowing p symbols) (λ q b r e. absurd (no_part b r e)) ps d k)

-- ---- words in a heap that grows

pub pairs_later : {a b : Objects} (ws : List (Word × Word)) → Extends a b → AllLie a ws → pairs_in b ws ≡ pairs_in a ws
pairs_later [] e l = refl
pairs_later (w ∷ ws) e l = rw (e.same w.0 l.0, e.same w.1 l.1, pairs_later ws e l.2) refl

pub lie_later : {a b : Objects} (ws : List (Word × Word)) → Extends a b → AllLie a ws → AllLie b ws
lie_later [] e l = tt
lie_later (w ∷ ws) e l = (omega (arith, l.0, e.longer), omega (arith, l.1, e.longer), lie_later ws e l.2)

-- ---- copying under way

pub record IsCopying (p : Held) (all left : Places) (start h : Objects) (ws : List (Word × Word)) : Type 0 where
  pub grows : Extends start h
  pub lie : AllLie h ws
  pub fits : EachPlace (λ k o. EntryFits p o) left
  pub same : pairs_in h ws ++ listed p left ≡ listed p all

none_fits : (p : Held) → EntryFits p None
none_fits p = record { live = λ b r e. absurd (no_part b r e); two = λ r pos e f. no_part true r e }

pub copy_begins : {p : Held} {ps left : Places} {h : Objects} {ws : List (Word × Word)} → Fits p ps → IsDistinct same_key (keys_of ps) → left ≡ ps → ws ≡ [] → IsCopying p ps left h h ws
copy_begins {p} {ps} {left} {h} {ws} f d l e =
    subst (λ (qs : Places). IsCopying p ps qs h h ws) (sym l)
    (subst (IsCopying p ps ps h h) (sym e)
    (record {
      grows = Extends-self h;
      lie = tt;
      fits = each_place (λ k o. EntryFits p o) (λ k. none_fits p) ps d (entry_fits f);
      same = refl;
    }))

pub copy_fits : {p : Held} {all left rest : Places} {start h : Objects} {ws : List (Word × Word)} {k : Object ℕ} {o : Option Entry} → IsCopying p all left start h ws → left ≡ (k, o) ∷ rest → EntryFits p o
copy_fits {p} {all} {left} {rest} {start} {h} {ws} {k} {o} c e = (subst (EachPlace (λ k o. EntryFits p o)) e c.fits).0

pub copy_skips : {p : Held} {all left rest : Places} {start h : Objects} {ws : List (Word × Word)} {k : Object ℕ} → IsCopying p all left start h ws → left ≡ (k, None) ∷ rest → IsCopying p all rest start h ws
copy_skips {p} {all} {left} {rest} {start} {h} {ws} {k} c e = record {
  grows = c.grows;
  lie = c.lie;
  fits = (subst (EachPlace (λ k o. EntryFits p o)) e c.fits).1;
  same = ap (λ (ps : Places). pairs_in h ws ++ listed p ps) (sym e) ∙ c.same;
}

pub copy_takes : {p : Held} {all left rest : Places} {start h h' : Objects} {ws ws' : List (Word × Word)} {k : Object ℕ} {e : Entry} {w : Word × Word} → IsCopying p all left start h ws → left ≡ (k, Some e) ∷ rest
    → Extends h h' → Denotes h' w.0 (object_at p e.key) → Denotes h' w.1 (object_at p e.value) → ws' ≡ ws ++ w ∷ [] → IsCopying p all rest start h' ws'
copy_takes {p} {all} {left} {rest} {start} {h} {h'} {ws} {ws'} {k} {e} {w} c at x key value more =
    subst (IsCopying p all rest start h') (sym more)
    (record {
      grows = Extends-then c.grows x;
      lie = lie_both h' ws (w ∷ []) (lie_later ws x c.lie) (key.lies, value.lies, tt);
      fits = (subst (EachPlace (λ k o. EntryFits p o)) at c.fits).1;
      same = pairs_same;
    })
  where
    entry_pair : pairs_in h' (w ∷ []) ≡ (object_at p e.key, object_at p e.value) ∷ []
    entry_pair = rw (key.is, value.is) refl

    pairs_same : pairs_in h' (ws ++ w ∷ []) ++ listed p rest ≡ listed p all
    pairs_same =
        ap (λ (ps : List (Object ℕ × Object ℕ)). ps ++ listed p rest) (pairs_both h' ws (w ∷ []) ∙ rw (pairs_later ws x c.lie, entry_pair) refl)
        ∙ (append_assoc (pairs_in h ws) ((object_at p e.key, object_at p e.value) ∷ []) (listed p rest)
        ∙ (ap (λ (ps : Places). pairs_in h ws ++ listed p ps) (sym at) ∙ c.same))

pub copy_ends : {p : Held} {all left : Places} {start h : Objects} {ws : List (Word × Word)} → IsCopying p all left start h ws → left ≡ [] → pairs_in h ws ≡ listed p all
copy_ends {p} {all} {left} {start} {h} {ws} c e = sym (append-nil (pairs_in h ws)) ∙ (ap (λ (ps : Places). pairs_in h ws ++ listed p ps) (sym e) ∙ c.same)

-- ---- the pairs of the field

pub is_listing : {symbols : List QualifiedName} {p : Held} {ps : Places} {h : Objects} {ws : List (Word × Word)} → AreDistinct symbols → Fits p ps → KnowsField symbols p ps → IsDistinct same_key (keys_of ps)
    → AllLie h ws → pairs_in h ws ≡ named_pairs symbols (listed p ps) → IsListing symbols p ps h ws
is_listing {symbols} {p} {ps} {h} {ws} a f k d l e =
    let shows : Shows p ps (listed p ps) = field_shows f d in
    let known : KnowsPairs symbols (listed p ps) = field_known symbols p ps k d in
    record {
      lie = l;
      shown = λ q. shows q ∙ (sym (value_named symbols a q (listed p ps) known) ∙ ap (value_at by_number q) (sym e));
      normal = λ list g m. e ∙ one_order symbols a (listed p ps) list known m (λ q. sym (shows q) ∙ g q);
    }

-- ---- known fields

pub empty_known : (symbols : List QualifiedName) (p : Held) (ps : Places) → ps ≡ [] → KnowsField symbols p ps
empty_known symbols p ps e k b r h = absurd (no_part b r (subst (λ (qs : Places). part_of b (entry_at qs k) ≡ Some r) e h))

pub value_known : (symbols : List QualifiedName) (q : Object ℕ) (list : List (Object ℕ × Object ℕ)) (v : Object ℕ) → KnowsPairs symbols list → value_at by_number q list ≡ Some v
    → Knows (length symbols) q × Knows (length symbols) v
value_known symbols q [] v h e = absurd (none e)
  where
    none : None ≡ Some v → ⊥
    none f = cc
value_known symbols q (a ∷ list) v h e = go (same_object by_number q a.0) refl e (value_known symbols q list v h.2)
  where
    same_value : Some a.1 ≡ Some v → a.1 ≡ v
    same_value f = cc

    go : (t : Bool) → same_object by_number q a.0 ≡ t → (if t then Some a.1 else value_at by_number q list) ≡ Some v
        → (value_at by_number q list ≡ Some v → Knows (length symbols) q × Knows (length symbols) v) → Knows (length symbols) q × Knows (length symbols) v
    go true s f i = (subst (Knows (length symbols)) (sym (same_tells q a.0 s)) h.0, subst (Knows (length symbols)) (same_value f) h.1)
    go false s f i = i f

-- a field that shows known pairs is known
pub shows_known : (symbols : List QualifiedName) (p : Held) (ps : Places) (list : List (Object ℕ × Object ℕ)) → Fits p ps → Shows p ps list → KnowsPairs symbols list → KnowsField symbols p ps
shows_known symbols p ps list f s g k b r e = go (entry_at ps k) refl b e
  where
    found : (x : Entry) → entry_at ps k ≡ Some x → Knows (length symbols) k × Knows (length symbols) (object_at p x.value)
    found x h = value_known symbols k list (object_at p x.value) g (sym (s k) ∙ ap (λ (o : Option Entry). option_map (object_at p) (part_of false o)) h)

    inner : (x : Root) → Some x ≡ Some r → x ≡ r
    inner x h = cc

    go : (o : Option Entry) → entry_at ps k ≡ o → (c : Bool) → part_of c o ≡ Some r → Knows (length symbols) (object_at p r)
    go None h c i = absurd (no_part c r i)
    go (Some x) h true i = subst (Knows (length symbols)) (sym (f.key k r (ap (part_of true) h ∙ i))) (found x h).0
    go (Some x) h false i = subst (λ (y : Root). Knows (length symbols) (object_at p y)) (inner x.value i) (found x h).1

-- a key that is put comes in front of the pairs that are shown
pub puts_show : (old new : Held) (ps qs : Places) (key value : Object ℕ) (list : List (Object ℕ × Object ℕ)) → Shows old ps list → Puts old new ps qs key value → Shows new qs ((key, value) ∷ list)
puts_show old new ps qs key value list s p q =
    p.shows q ∙ (ap (λ (b : Bool). if b then Some value else shown_at old ps q) (turned key q) ∙ ap (λ (o : Option (Object ℕ)). if same_key q key then Some value else o) (s q))
  where
    turned : (x y : Object ℕ) → same_key x y ≡ same_key y x
    turned x y = same_equiv.symm x y
