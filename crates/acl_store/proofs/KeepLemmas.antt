-- What is remembered through new nodes, fewer nodes and arrays of other lengths.
use Rattle.std.proofs.Common.{◌≡◌, ℕ, zero, suc, ◌<◌, ◌≤◌, List, [], ◌∷◌, ◌++◌, length, reverse, take, Option, Some, None, refl, sym, ap, ◌∙◌, subst, arith, inl, inr, set}
use Rattle.std.specs.Prelude.{option_map, IsSomeAnd, IfSome}
use Rattle.std.proofs.lemmas.List.{append-nil}
use Rattle.acl_base.specs.declared.layout.Layout.{Layout}
use Rattle.acl_heap.specs.Objects.{Objects}
use Rattle.model_lists.specs.Lists.{StobjList, resized}
use Rattle.model_eval.specs.PlacesKeeping.{Place, below, list_at}
use Rattle.acl_nodes.specs.Holding.{Shows}
use Rattle.acl_nodes.specs.Kept.{Kept, place_at, field_at, with_field}
use Rattle.acl_nodes.specs.Nodes.{Part, Own, Child, Children, part_at, with_part, IsOwn}
use Rattle.acl_nodes.specs.Making.{Extends}
use Rattle.acl_nodes.specs.Notes as notes
use Rattle.acl_nodes.specs.Notes.{Note, Among}
use Rattle.acl_nodes.proofs.ClearLemmas.{below_both}
use Rattle.acl_nodes.proofs.NodeLemmas.{part_within, with_changed, with_same, with_other}
use Rattle.acl_nodes.proofs.CutLemmas.{cut_holds, length_take, taken_same}
use Rattle.acl_nodes.proofs.ExtendLemmas.{extended_part}
use Rattle.acl_nodes.proofs.MovedLemmas.{first_within, created_remembered, cut_remembered}
use Rattle.acl_nodes.proofs.NoteLemmas.{note_remembered, write_remembered}
use Rattle.acl_fields.specs.Fields.{Field, One, Many, Any, Anys, Table, shown, IsSized, IsFilled, sized, filling}
use Rattle.acl_store.specs.Calls.{Nodes, Holds, Creates, IsArray, IsSizedTo}
use Rattle.acl_fields.specs.Notes.{bare, back, path_noted, ShowsOwn, Restored, SuitsPart, IsWhole}
use Rattle.acl_store.specs.Journals.{note_for, notes_with, put_back, Fit, AreLists, IsNoted, Remembers, StayWritable, CreateRemembers, ResizeRemembers, CutRemembers}
use Rattle.acl_store.specs.declared.notes.Old.{Old}
use Rattle.acl_fields.specs.declared.notes.OldPart.{OldPart}
use Rattle.acl_fields.specs.declared.notes.OldPart.TheVariants.{Element, Held, Entry, Whole}
use Rattle.acl_store.proofs.StoreLemmas.{resize_part}
use Rattle.acl_store.proofs.JournalLemmas.{form, keep_alike, put_is, with_again, newest_is}

keep_same : (first : ℕ) (olds : List Old) (ls : List (StobjList ℕ)) (ns after : Nodes) → ((n : Note) → Among n (notes_with olds ls) → n.node < first) → ((k f : ℕ) → k < first → part_at after k f ≡ part_at ns k f)
    → Fit ns olds → AreLists ns olds ls → Fit after olds × AreLists after olds ls
keep_same first olds ls ns after w same f m = keep_alike first olds ls ns after w (λ k g l. ap (option_map form) (same k g l)) f m

-- ---- new nodes, fewer nodes

pub creates_keep : (h : Objects) (layouts : List Layout) (id : ℕ) (ns after : Nodes) (c : ℕ) (olds : List Old) (first : ℕ) → Creates h layouts id ns after c → Extends ns after
    → CreateRemembers h layouts id ns olds first after c
unfolding Creates CreateRemembers
creates_keep h layouts id ns after c olds first m e lists b kept before r =
    let d = m lists b kept r.holds in (
      d,
      record {
        holds = d.holds;
        fit = (same r).0;
        lists = r.lists;
        restore = (same r).1;
        notes = created_remembered shown ns after (notes_with olds r.lists) first c kept before (lists id) r.holds d r.notes;
      },
    )
  where
    same : (r : Remembers ns olds first kept before) → Fit after olds × AreLists after olds r.lists
    same r = keep_same first olds r.lists ns after r.notes.early
        (λ k f w. let l = first_within shown ns (notes_with olds r.lists) first (length ns) kept before r.holds r.notes in let low : k < length ns = omega (arith, w, l) in extended_part ns after k f e low) r.fit r.restore

pub cuts_keep : (ns after : Nodes) (m : ℕ) (olds : List Old) (first : ℕ) → m ≤ length ns → after ≡ take m ns → CutRemembers ns olds first m after
unfolding CutRemembers
cuts_keep ns after m olds first u e h kept before r q g d =
    subst (λ (ms : Nodes). Remembers ms olds first (record { roots = take q kept.roots; places = take m kept.places }) before) (sym e) (record {
      holds = cut_holds shown ns m u kept r.holds q d;
      fit = same.0;
      lists = r.lists;
      restore = same.1;
      notes = subst (λ (n : ℕ). notes.Remembers (notes_with olds r.lists) first n (record { roots = take q kept.roots; places = take m kept.places }) before) (sym (length_take ns m u))
          (cut_remembered (notes_with olds r.lists) first (length ns) m q kept before r.notes h u g);
    })
  where
    same : Fit (take m ns) olds × AreLists (take m ns) olds r.lists
    same = keep_same first olds r.lists ns (take m ns) r.notes.early (λ k f w. let low : k < m = omega (arith, w, h) in taken_same ns m k f low) r.fit r.restore

-- ---- arrays of other lengths

sized_owns : (hs : Objects) (p : Part Field) (m : ℕ) → IsSized p → IsOwn p × IsOwn (sized hs p m)
sized_owns hs (Own (One v)) m s = (tt, tt)
sized_owns hs (Own (Many kind x vs)) m s = (tt, tt)
sized_owns hs (Own (Any o)) m s = absurd s
sized_owns hs (Own (Anys x os)) m s = (tt, tt)
sized_owns hs (Own (Table cs)) m s = absurd s
sized_owns hs (Child c) m s = absurd s
sized_owns hs (Children cs) m s = absurd s

sized_bare : (hs : Objects) (p : Part Field) (m : ℕ) → bare (sized hs p m) ≡ bare p
sized_bare hs (Own (One w)) m = refl
sized_bare hs (Own (Many kind x vs)) m = refl
sized_bare hs (Own (Any o)) m = refl
sized_bare hs (Own (Anys x os)) m = refl
sized_bare hs (Own (Table cs)) m = refl
sized_bare hs (Child c) m = refl
sized_bare hs (Children cs) m = refl

pub own_shown : (kept : Kept) (k : ℕ) (at : Place) (p : Part Field) → IsOwn p → Shows shown kept k at p → ShowsOwn p (list_at kept.roots at)
own_shown kept k at (Own o) i s = s
own_shown kept k at (Child c) i s = absurd i
own_shown kept k at (Children cs) i s = absurd i

set_twice : {X : Type 0} (xs : List X) (i : ℕ) (x y : X) → set (set xs i x) i y ≡ set xs i y
set_twice [] i x y = refl
set_twice (z ∷ xs) zero x y = refl
set_twice (z ∷ xs) (suc i) x y = ap (λ (zs : List _). z ∷ zs) (set_twice xs i x y)

with_twice : (ns : Nodes) (k f : ℕ) (p q : Part Field) → with_part k f q (with_part k f p ns) ≡ with_part k f q ns
with_twice [] k f p q = refl
with_twice (n ∷ ns) zero f p q = ap (λ (ps : List (Part Field)). record n { parts = ps } ∷ ns) (set_twice n.parts f p q)
with_twice (n ∷ ns) (suc k) f p q = ap (λ (ms : Nodes). n ∷ ms) (with_twice ns k f p q)

-- on a local node
pub field_local : (ns : Nodes) (olds : List Old) (first n f : ℕ) (p new : Part Field) (x : StobjList ℕ) → part_at ns n f ≡ Some p → first ≤ n → (kept before : Kept) → Remembers ns olds first kept before
    → Holds (with_part n f new ns) (with_field n f x kept) → Remembers (with_part n f new ns) olds first (with_field n f x kept) before
field_local ns olds first n f p new x at h kept before r holds = record {
  holds = holds;
  fit = same.0;
  lists = r.lists;
  restore = same.1;
  notes = subst (λ (c : ℕ). notes.Remembers (notes_with olds r.lists) first c (with_field n f x kept) before) (sym (with_changed ns n f p new at).counted)
      (write_remembered (notes_with olds r.lists) first (length ns) n (f ∷ []) x kept before r.notes (inr (h, part_within ns n f p at)));
}
  where
    same : Fit (with_part n f new ns) olds × AreLists (with_part n f new ns) olds r.lists
    same = keep_same first olds r.lists ns (with_part n f new ns) r.notes.early (λ k g w. with_other ns n f new k g (inl (λ e. absurd (omega (arith, w, h, e))))) r.fit r.restore

whole_suits : (q : OldPart) (p new : Part Field) → IsWhole q p → IsOwn p → IsOwn new → bare new ≡ bare p → SuitsPart q new
whole_suits (Element i v) p new w a b e = absurd w
whole_suits (Held i v) p new w a b e = absurd w
whole_suits (Entry h) p new w a b e = absurd w
whole_suits (Whole s) p new w a b e = (b, subst IsOwn (sym w) a, ap bare w ∙ sym e)

whole_back : (q : OldPart) (p new : Part Field) → IsWhole q p → back q new ≡ p
whole_back (Element i v) p new w = absurd w
whole_back (Held i v) p new w = absurd w
whole_back (Entry e) p new w = absurd w
whole_back (Whole s) p new w = w

whole_path : (q : OldPart) (p : Part Field) (f : ℕ) → IsWhole q p → path_noted q f ≡ f ∷ []
whole_path (Element i v) p f w = absurd w
whole_path (Held i v) p f w = absurd w
whole_path (Entry e) p f w = absurd w
whole_path (Whole s) p f w = refl

whole_restored : (q : OldPart) (p new : Part Field) (l : StobjList ℕ) → IsWhole q p → ShowsOwn p l → Restored q new l
whole_restored (Element i v) p new l w s = absurd w
whole_restored (Held i v) p new l w s = absurd w
whole_restored (Entry e) p new l w s = absurd w
whole_restored (Whole t) p new l w s = subst (λ (q : Part Field). ShowsOwn q l) (sym w) s

-- a note of a whole field or of an entry in it, which gives the old field back
pub record IsFieldNote (o : Old) (p new : Part Field) (l : StobjList ℕ) : Type 0 where
  pub suits : SuitsPart o.part new
  pub back_is : back o.part new ≡ p
  pub path : path_noted o.part o.field ≡ o.field ∷ []
  pub restored : Restored o.part new l

-- on an older node, where the field was noted
pub field_noted : (ns : Nodes) (olds : List Old) (first : ℕ) (o : Old) (p new : Part Field) (x : StobjList ℕ) → part_at ns o.node o.field ≡ Some p → o.node < first
    → (kept before : Kept) → Remembers ns olds first kept before → IsFieldNote o p new (list_at kept.roots (field_at kept.places o.node o.field)) → Holds (with_part o.node o.field new ns) (with_field o.node o.field x kept)
    → Remembers (with_part o.node o.field new ns) (o ∷ olds) first (with_field o.node o.field x kept) before
field_noted ns olds first o p new x at h kept before r n holds = record {
  holds = holds;
  fit = (
    subst (λ (t : Option (Part Field)). IsSomeAnd t (SuitsPart o.part)) (sym again) n.suits,
    subst (λ (ms : Nodes). Fit ms olds) (sym was) r.fit,
  );
  lists = there ∷ r.lists;
  restore = (
    subst (λ (t : Option (Part Field)). IfSome t (λ s. Restored o.part s there)) (sym again) n.restored,
    subst (λ (ms : Nodes). AreLists ms olds r.lists) (sym was) r.restore,
  );
  notes = subst (λ (c : ℕ). notes.Remembers (note_for o there ∷ notes_with olds r.lists) first c (with_field o.node o.field x kept) before) (sym (with_changed ns o.node o.field p new at).counted)
      (write_remembered (note_for o there ∷ notes_with olds r.lists) first (length ns) o.node (o.field ∷ []) x kept before
      (note_remembered (notes_with olds r.lists) first (length ns) kept before (note_for o there) r.notes (ap (λ (path : List ℕ). list_at kept.roots (below (place_at kept.places o.node) path)) n.path) h)
      (inl (record {
        note = note_for o there;
        is_there = inl refl;
        rest = [];
        is = ap (below (place_at kept.places o.node)) (sym (append-nil (path_noted o.part o.field) ∙ n.path)) ∙ sym (below_both (place_at kept.places o.node) (path_noted o.part o.field) []);
      })));
}
  where
    there : StobjList ℕ
    there = list_at kept.roots (field_at kept.places o.node o.field)

    again : part_at (with_part o.node o.field new ns) o.node o.field ≡ Some new
    again = with_same ns o.node o.field p new at

    was : put_back o (with_part o.node o.field new ns) ≡ ns
    was = put_is (with_part o.node o.field new ns) o new again
        ∙ (ap (λ (q : Part Field). with_part o.node o.field q (with_part o.node o.field new ns)) n.back_is
        ∙ (with_twice ns o.node o.field new p ∙ with_again ns o.node o.field p at))

-- ---- calls

pub sizes_local : (hs : Objects) (ns after : Nodes) (olds : List Old) (first n f m : ℕ) → first ≤ n → IsArray hs ns n f → IsSizedTo hs ns n f m after → ResizeRemembers hs ns olds first n f m after olds
unfolding ResizeRemembers
sizes_local hs ns after olds first n f m h p q kept before r = by (part_at ns n f) refl p q
  where
    by : (t : Option (Part Field)) → part_at ns n f ≡ t → IsSomeAnd t (λ s. IsSized s × IsFilled hs s) → IfSome t (λ s. after ≡ with_part n f (sized hs s m) ns)
        → IfSome t (λ s. Remembers after olds first (with_field n f (resized m (filling hs s) (list_at kept.roots (field_at kept.places n f))) kept) before)
    by None at p q = absurd p
    by (Some s) at p q = subst (λ (ms : Nodes). Remembers ms olds first (with_field n f (resized m (filling hs s) (list_at kept.roots (field_at kept.places n f))) kept) before) (sym q)
        (field_local ns olds first n f s (sized hs s m) (resized m (filling hs s) (list_at kept.roots (field_at kept.places n f))) at h kept before r (resize_part hs ns kept r.holds n f m s at p.0))

sizes_old : (hs : Objects) (ns after : Nodes) (olds : List Old) (first m : ℕ) (o : Old) → o.node < first → IsArray hs ns o.node o.field → IfSome (part_at ns o.node o.field) (IsWhole o.part) → IsSizedTo hs ns o.node o.field m after
    → ResizeRemembers hs ns olds first o.node o.field m after (o ∷ olds)
unfolding ResizeRemembers
sizes_old hs ns after olds first m o h p w q kept before r = by (part_at ns o.node o.field) refl p w q
  where
    note : (s : Part Field) → part_at ns o.node o.field ≡ Some s → IsSized s → IsWhole o.part s → IsFieldNote o s (sized hs s m) (list_at kept.roots (field_at kept.places o.node o.field))
    note s at z w = let own = sized_owns hs s m z in record {
      suits = whole_suits o.part s (sized hs s m) w own.0 own.1 (sized_bare hs s m);
      back_is = whole_back o.part s (sized hs s m) w;
      path = whole_path o.part s o.field w;
      restored = whole_restored o.part s (sized hs s m) (list_at kept.roots (field_at kept.places o.node o.field)) w (own_shown kept o.node (field_at kept.places o.node o.field) s own.0 (r.holds.shows o.node o.field s at));
    }

    by : (t : Option (Part Field)) → part_at ns o.node o.field ≡ t → IsSomeAnd t (λ s. IsSized s × IsFilled hs s) → IfSome t (IsWhole o.part) → IfSome t (λ s. after ≡ with_part o.node o.field (sized hs s m) ns)
        → IfSome t (λ s. Remembers after (o ∷ olds) first (with_field o.node o.field (resized m (filling hs s) (list_at kept.roots (field_at kept.places o.node o.field))) kept) before)
    by None at p w q = absurd p
    by (Some s) at p w q = subst (λ (ms : Nodes). Remembers ms (o ∷ olds) first (with_field o.node o.field (resized m (filling hs s) (list_at kept.roots (field_at kept.places o.node o.field))) kept) before) (sym q)
        (field_noted ns olds first o s (sized hs s m) (resized m (filling hs s) (list_at kept.roots (field_at kept.places o.node o.field))) at h kept before r (note s at p.0 w) (resize_part hs ns kept r.holds o.node o.field m s at p.0))

pub sizes_noted : (hs : Objects) (ns after : Nodes) (olds news : List Old) (first n f m : ℕ) → n < first → IsArray hs ns n f → IsNoted ns n f olds news → IsSizedTo hs ns n f m after
    → ResizeRemembers hs ns (reverse olds) first n f m after (reverse news)
sizes_noted hs ns after olds news first n f m h p i q =
    subst (λ (os : List Old). ResizeRemembers hs ns (reverse olds) first n f m after os) (sym (newest_is news olds i.note i.last))
    (subst (λ (k : ℕ). ResizeRemembers hs ns (reverse olds) first k f m after (i.note ∷ reverse olds)) i.is_node
    (subst (λ (g : ℕ). ResizeRemembers hs ns (reverse olds) first i.note.node g m after (i.note ∷ reverse olds)) i.is_field
    (sizes_old hs ns after (reverse olds) first m i.note (subst (λ (k : ℕ). k < first) (sym i.is_node) h)
    (at (λ k g. IsArray hs ns k g) p) (at (λ k g. IfSome (part_at ns k g) (IsWhole i.note.part)) i.whole) (at (λ k g. IsSizedTo hs ns k g m after) q))))
  where
    at : (P : ℕ → ℕ → Type 0) → P n f → P i.note.node i.note.field
    at P x = subst (λ (k : ℕ). P k i.note.field) (sym i.is_node) (subst (P n) (sym i.is_field) x)

pub stay_self : (olds : List Old) (first : ℕ) → StayWritable olds first olds
unfolding StayWritable
stay_self olds first n path m = m

stay_more : (olds : List Old) (first : ℕ) (o : Old) → StayWritable olds first (o ∷ olds)
unfolding StayWritable
stay_more olds first o n path (inl m) = inl (m.0, inr m.1, m.2, m.3)
stay_more olds first o n path (inr l) = inr l

pub stay_pushed : (olds news : List Old) (first : ℕ) (o : Old) → news ≡ olds ++ o ∷ [] → StayWritable (reverse olds) first (reverse news)
stay_pushed olds news first o e = subst (StayWritable (reverse olds) first) (sym (newest_is news olds o e)) (stay_more (reverse olds) first o)

pub stay_noted : (ns : Nodes) (n f : ℕ) (olds news : List Old) (first : ℕ) → IsNoted ns n f olds news → StayWritable (reverse olds) first (reverse news)
stay_noted ns n f olds news first i = stay_pushed olds news first i.note i.last
