-- A field of a node's own is overwritten, as a whole or in a part.
use Rattle.std.proofs.Common.{◌≡◌, ℕ, ◌<◌, List, [], ◌∷◌, length, Some, sym, ap, ◌∙◌, subst, arith, inl, inr}
use Rattle.std.specs.Prelude.{◌≢◌, ◌⊎◌}
use Rattle.model_lists.specs.Lists.{StobjList, size}
use Rattle.model_eval.specs.PlacesKeeping.{Place, below, list_at, with_under, with_list_at}
use Rattle.model_places.specs.Places.{IsPlace}
use Rattle.model_places.proofs.PathLemmas.{at_same, at_other, place_below, write_below}
use Rattle.acl_nodes.specs.Kept.{Kept, place_at, field_at, with_field, spine, IsClear}
use Rattle.acl_nodes.specs.Nodes.{Part, Own, Child, Children, Node, part_at, width, IsOwn, IsChanged}
use Rattle.acl_nodes.specs.Holding.{Shows, Holds}
use Rattle.acl_nodes.proofs.ClearLemmas.{size_spine, written_clear, field_clear, clear_apart, below_both}
use Rattle.acl_nodes.proofs.NodeLemmas.{nat_or, part_within, part_width}

some_same : {X : Type 0} {x y : X} → Some x ≡ Some y → x ≡ y
some_same e = cc

pub swapped : {j k g f : ℕ} → (j ≢ k) ⊎ (g ≢ f) → (k ≢ j) ⊎ (f ≢ g)
swapped (inl d) = inl (λ e. d (sym e))
swapped (inr d) = inr (λ e. d (sym e))

module _ {O : Type 0} (shown : O → StobjList ℕ → Type 0) where
  -- a field's place is there
  pub field_there : {nodes : List (Node O)} {kept : Kept} (h : Holds shown nodes kept) (k f : ℕ) (part : Part O) → part_at nodes k f ≡ Some part → IsPlace kept.roots (field_at kept.places k f)
  field_there {nodes} {kept} h k f part e =
      let within : k < length nodes = part_within nodes k f part e in
      let fits : size (list_at kept.roots (place_at kept.places k)) ≡ width nodes k = size_spine (width nodes k) (list_at kept.roots (place_at kept.places k)) (h.widths k within) in
      let fewer : f < size (list_at kept.roots (place_at kept.places k)) = let w = part_width nodes k f part e in omega (arith, w, fits) in
      place_below (place_at kept.places k) (f ∷ []) kept.roots (h.there k within) (fewer, tt)

  -- another field is clear of a field of a node's own
  pub fields_clear : {nodes : List (Node O)} {kept : Kept} (h : Holds shown nodes kept) (j g k f : ℕ) (part other : Part O) → part_at nodes j g ≡ Some other → part_at nodes k f ≡ Some part → IsOwn part
      → (j ≢ k) ⊎ (g ≢ f) → IsClear (field_at kept.places j g) (field_at kept.places k f)
  fields_clear {nodes} {kept} h j g k f part other e e' o d =
      let first : j < length nodes = part_within nodes j g other e in
      let second : k < length nodes = part_within nodes k f part e' in
      field_clear (place_at kept.places j) (place_at kept.places k) g f kept.roots (h.clear j k f part first e' o) (h.there j first) (h.there k second)
      (λ t. differ d (h.distinct j k first second t.0) t.1)
    where
      differ : (j ≢ k) ⊎ (g ≢ f) → j ≡ k → g ≡ f → ⊥
      differ (inl d) a b = d a
      differ (inr d) a b = d b

  abbrev Written : List (Node O) → Kept → ℕ → ℕ → StobjList ℕ → Type 0
  Written nodes kept n f l = (k : ℕ) → k < length nodes → IsPlace (with_field n f l kept).roots (place_at kept.places k) × (spine (list_at (with_field n f l kept).roots (place_at kept.places k)) ≡ spine (list_at kept.roots (place_at kept.places k)))

  places_written : (nodes : List (Node O)) (kept : Kept) (h : Holds shown nodes kept) (n f : ℕ) (old : Part O) (l : StobjList ℕ) → part_at nodes n f ≡ Some old → IsOwn old → Written nodes kept n f l
  places_written nodes kept h n f old l at was k within =
      written_clear (place_at kept.places k) (field_at kept.places n f) l kept.roots (h.clear k n f old within at was) (h.there k within) (field_there h n f old at)

  -- what another field shows
  other_shown : (nodes : List (Node O)) (kept : Kept) (h : Holds shown nodes kept) (n f : ℕ) (old : Part O) (l : StobjList ℕ) → part_at nodes n f ≡ Some old → IsOwn old
      → (k g : ℕ) (part : Part O) → part_at nodes k g ≡ Some part → (k ≢ n) ⊎ (g ≢ f) → Shows shown kept k (field_at kept.places k g) part → Shows shown (with_field n f l kept) k (field_at kept.places k g) part
  other_shown nodes kept h n f old l at was k g (Own o) e d s = subst (shown o) (sym (at_other (field_at kept.places k g) (field_at kept.places n f) l kept.roots
      (clear_apart (field_at kept.places k g) (field_at kept.places n f) kept.roots (field_there h k g (Own o) e) (field_there h n f old at)
      (fields_clear h k g n f old (Own o) e at was d) (fields_clear h n f k g (Own o) old at e tt (swapped d))) (field_there h n f old at))) s
  other_shown nodes kept h n f old l at was k g (Child c) e d s = s
  other_shown nodes kept h n f old l at was k g (Children cs) e d s =
      ((written_clear (field_at kept.places k g) (field_at kept.places n f) l kept.roots (fields_clear h k g n f old (Children cs) e at was d) (field_there h k g (Children cs) e) (field_there h n f old at)).1 ∙ s.0, s.1)

  -- the nodes after a write
  pub written : (nodes after : List (Node O)) (kept : Kept) (h : Holds shown nodes kept) (n f : ℕ) (old : Part O) (new : O) (l : StobjList ℕ)
      → part_at nodes n f ≡ Some old → IsOwn old → shown new l → IsChanged n f (Own new) nodes after → Holds shown after (with_field n f l kept)
  written nodes after kept h n f old new l at was is c = record {
    counted = h.counted ∙ sym c.counted;
    there = λ k w. (places_written nodes kept h n f old l at was k (subst (λ (m : ℕ). k < m) c.counted w)).0;
    widths = λ k w. let v : k < length nodes = subst (λ (m : ℕ). k < m) c.counted w in
        (places_written nodes kept h n f old l at was k v).1 ∙ (h.widths k v ∙ ap Some (sym (c.widths k)));
    shows = λ k g part e. shows k g part e (nat_or k n) (nat_or g f);
    clear = λ j k g part w e o. clear j k g part (subst (λ (m : ℕ). j < m) c.counted w) e o (nat_or k n) (nat_or g f);
    distinct = λ j k w v e. h.distinct j k (subst (λ (m : ℕ). j < m) c.counted w) (subst (λ (m : ℕ). k < m) c.counted v) e;
  }
    where
      other : (k g : ℕ) (part : Part O) → part_at after k g ≡ Some part → (k ≢ n) ⊎ (g ≢ f) → part_at nodes k g ≡ Some part
      other k g part e d = sym (c.others k g d) ∙ e

      apart_shown : (k g : ℕ) (part : Part O) → part_at after k g ≡ Some part → (k ≢ n) ⊎ (g ≢ f) → Shows shown (with_field n f l kept) k (field_at kept.places k g) part
      apart_shown k g part e d = other_shown nodes kept h n f old l at was k g part (other k g part e d) d (h.shows k g part (other k g part e d))

      same_shown : Shows shown (with_field n f l kept) n (field_at kept.places n f) (Own new)
      same_shown = subst (shown new) (sym (at_same (field_at kept.places n f) l kept.roots (field_there h n f old at))) is

      shows : (k g : ℕ) (part : Part O) → part_at after k g ≡ Some part → (k ≡ n) ⊎ (k ≢ n) → (g ≡ f) ⊎ (g ≢ f) → Shows shown (with_field n f l kept) k (field_at kept.places k g) part
      shows k g part e (inr d) b = apart_shown k g part e (inl d)
      shows k g part e (inl a) (inr d) = apart_shown k g part e (inr d)
      shows k g part e (inl a) (inl b) = both
        where
          is_new : Own new ≡ part
          is_new = some_same (sym c.changed ∙ (ap (λ (i : ℕ). part_at after i f) (sym a) ∙ (ap (λ (i : ℕ). part_at after k i) (sym b) ∙ e)))

          both : Shows shown (with_field n f l kept) k (field_at kept.places k g) part
          both = subst (λ (s : Part O). Shows shown (with_field n f l kept) k (field_at kept.places k g) s) is_new
              (subst (λ (i : ℕ). Shows shown (with_field n f l kept) i (field_at kept.places i g) (Own new)) (sym a)
              (subst (λ (i : ℕ). Shows shown (with_field n f l kept) n (field_at kept.places n i) (Own new)) (sym b) same_shown))

      clear : (j k g : ℕ) (part : Part O) → j < length nodes → part_at after k g ≡ Some part → IsOwn part → (k ≡ n) ⊎ (k ≢ n) → (g ≡ f) ⊎ (g ≢ f) → IsClear (place_at kept.places j) (field_at kept.places k g)
      clear j k g part w e o (inr d) b = h.clear j k g part w (other k g part e (inl d)) o
      clear j k g part w e o (inl a) (inr d) = h.clear j k g part w (other k g part e (inr d)) o
      clear j k g part w e o (inl a) (inl b) =
          subst (λ (i : ℕ). IsClear (place_at kept.places j) (field_at kept.places i g)) (sym a)
          (subst (λ (i : ℕ). IsClear (place_at kept.places j) (field_at kept.places n i)) (sym b) (h.clear j n f old w at was))

  -- a list in a field is overwritten: the field shows what it showed, with this list at the path
  pub part_written : (nodes after : List (Node O)) (kept : Kept) (h : Holds shown nodes kept) (n f : ℕ) (path : List ℕ) (old new : O) (x : StobjList ℕ)
      → part_at nodes n f ≡ Some (Own old) → ((l : StobjList ℕ) → shown old l → shown new (with_under path x l)) → IsChanged n f (Own new) nodes after
      → Holds shown after (record kept { roots = with_list_at (below (place_at kept.places n) (f ∷ path)) x kept.roots })
  part_written nodes after kept h n f path old new x at is c =
      subst (λ (rs : List (StobjList ℕ)). Holds shown after (record kept { roots = rs })) (sym same)
      (written nodes after kept h n f (Own old) new (with_under path x (list_at kept.roots (field_at kept.places n f))) at tt (is (list_at kept.roots (field_at kept.places n f)) (h.shows n f (Own old) at)) c)
    where
      same : with_list_at (below (place_at kept.places n) (f ∷ path)) x kept.roots ≡ with_list_at (field_at kept.places n f) (with_under path x (list_at kept.roots (field_at kept.places n f))) kept.roots
      same = ap (λ (p : Place). with_list_at p x kept.roots) (sym (below_both (place_at kept.places n) (f ∷ []) path))
          ∙ write_below (field_at kept.places n f) path x kept.roots (field_there h n f (Own old) at)
