-- Notes, and what is put back.
use Rattle.std.proofs.Common.{◌≡◌, ℕ, zero, suc, ◌<◌, ◌≤◌, ℤ, pos, List, [], ◌∷◌, ◌++◌, map, length, reverse, take, Option, Some, None, refl, sym, ap, ◌∙◌, subst, arith, inl, inr, set}
use Rattle.std.specs.Prelude.{◌≢◌, ◌⊎◌, slice_get, option_map, IsSomeAnd, IfSome}
use Rattle.std.proofs.lemmas.List.{length-map, append-nil, reverse-append}
use Rattle.model_objects.specs.Object.{Object}
use Rattle.model_lists.specs.Lists.{StobjList}
use Rattle.model_eval.specs.PlacesKeeping.{Place, Nowhere, At, below, list_at, with_list_at}
use Rattle.model_places.specs.Places.{IsPlace}
use Rattle.acl_nodes.specs.Kept.{Kept, place_at, IsRooted}
use Rattle.acl_nodes.specs.Nodes.{Part, Own, Child, Children, part_at, with_part, IsOwn, IsChanged}
use Rattle.acl_nodes.specs.Notes as notes
use Rattle.acl_nodes.specs.Notes.{Note, Among, IsCovered, place_noted}
use Rattle.acl_nodes.proofs.NodeLemmas.{nat_or, part_within, with_changed, with_same, with_other}
use Rattle.acl_nodes.proofs.ClearLemmas.{below_both}
use Rattle.acl_nodes.proofs.FieldLemmas.{part_written}
use Rattle.acl_nodes.proofs.CutLemmas.{list_left, taken_place}
use Rattle.acl_nodes.proofs.NoteLemmas.{note_remembered, back_remembered, write_remembered}
use Rattle.acl_heap.specs.Objects.{nothing}
use Rattle.acl_fields.specs.Fields.{Field, One, Many, Any, Anys, Table, IsTable, table_in, shown, integer, IsElement, with_element, with_held, HasValue, value_in}
use Rattle.acl_maps.specs.Cells.{Cells, with_cell, IsSuited}
use Rattle.acl_fields.specs.Parts.{part_of, path_in}
use Rattle.acl_store.specs.Calls.{Nodes, Holds, place_in, IsInline, IsPut}
use Rattle.acl_fields.specs.Notes.{bare, retabled, back, path_noted, ShowsOwn, Restored, SuitsPart, IsNote}
use Rattle.acl_store.specs.Journals.{StayShaped, note_for, notes_with, Suits, put_part, put_back, Fit, AreLists, AmongOld, Remembers, MayBeWritten, Begins, NoteRemembers, StepsBack, Restores, WriteRemembers}
use Rattle.acl_store.specs.declared.notes.Old.{Old}
use Rattle.acl_fields.specs.declared.notes.OldPart.{OldPart}
use Rattle.acl_fields.specs.declared.notes.OldPart.TheVariants.{Element, Held, Entry, Whole}
use Rattle.acl_store.proofs.StoreLemmas.{read_value, element_value, write_part, write_held}

none_some : {X : Type 0} {x : X} → None ≡ Some x → ⊥
none_some e = cc

some_same : {X : Type 0} {x y : X} → Some x ≡ Some y → x ≡ y
some_same e = cc

-- ---- the same part again

set_got : {X : Type 0} (xs : List X) (i : ℕ) (x : X) → slice_get xs i ≡ Some x → set xs i x ≡ xs
set_got [] i x e = refl
set_got (y ∷ xs) zero x e = ap (λ (z : _). z ∷ xs) (sym (some_same e))
set_got (y ∷ xs) (suc i) x e = ap (λ (zs : List _). y ∷ zs) (set_got xs i x e)

pub with_again : (ns : Nodes) (k f : ℕ) (p : Part Field) → part_at ns k f ≡ Some p → with_part k f p ns ≡ ns
with_again [] k f p e = refl
with_again (n ∷ ns) zero f p e = ap (λ (ps : List (Part Field)). record n { parts = ps } ∷ ns) (set_got n.parts f p e)
with_again (n ∷ ns) (suc k) f p e = ap (λ (ms : Nodes). n ∷ ms) (with_again ns k f p e)

-- ---- a note

pub put_is : (ns : Nodes) (o : Old) (p : Part Field) → part_at ns o.node o.field ≡ Some p → put_back o ns ≡ with_part o.node o.field (back o.part p) ns
put_is ns o p e = ap (λ (r : Option (Part Field)). put_part r o ns) e

pub note_keeps : (ns : Nodes) (olds : List Old) (first i : ℕ) (o : Old) (p : Part Field) → part_at ns o.node o.field ≡ Some p → HasValue p i → IsNote o.part p i → o.node < first → NoteRemembers ns olds first (o ∷ olds)
unfolding NoteRemembers
note_keeps ns olds first i o p at is n w kept before r = record {
  holds = r.holds;
  fit = (
    subst (λ (q : Option (Part Field)). IsSomeAnd q (SuitsPart o.part)) (sym at) n.suits,
    subst (λ (ms : Nodes). Fit ms olds) (sym was) r.fit,
  );
  lists = value_in p i ∷ r.lists;
  restore = (
    subst (λ (q : Option (Part Field)). IfSome q (λ s. Restored o.part s (value_in p i))) (sym at) n.shows,
    subst (λ (ms : Nodes). AreLists ms olds r.lists) (sym was) r.restore,
  );
  notes = note_remembered (notes_with olds r.lists) first (length ns) kept before (note_for o (value_in p i)) r.notes
      (ap (λ (path : List ℕ). list_at kept.roots (below (place_at kept.places o.node) path)) (n.path o.field) ∙ read_value ns kept r.holds o.node o.field i p at is) w;
}
  where
    was : put_back o ns ≡ ns
    was = put_is ns o p at ∙ (ap (λ (q : Part Field). with_part o.node o.field q ns) n.same ∙ with_again ns o.node o.field p at)

-- ---- putting back

-- the whole field
whole_holds : (ns : Nodes) (kept : Kept) (h : Holds ns kept) (k f : ℕ) (p q : Part Field) (l : StobjList ℕ) → part_at ns k f ≡ Some p → IsOwn p → ShowsOwn q l
    → Holds (with_part k f q ns) (record kept { roots = with_list_at (below (place_at kept.places k) (f ∷ [])) l kept.roots })
whole_holds ns kept h k f (Own o) (Own n) l at a b = part_written shown ns (with_part k f (Own n) ns) kept h k f [] o n l at (λ m e. b) (with_changed ns k f (Own o) (Own n) at)
whole_holds ns kept h k f (Own o) (Child c) l at a b = absurd b
whole_holds ns kept h k f (Own o) (Children cs) l at a b = absurd b
whole_holds ns kept h k f (Child c) q l at a b = absurd a
whole_holds ns kept h k f (Children cs) q l at a b = absurd a

pub table_own : (p : Part Field) (cs : Cells) → table_in p ≡ Some cs → IsOwn p
table_own (Own (One w)) cs e = tt
table_own (Own (Many kind x vs)) cs e = tt
table_own (Own (Any o)) cs e = tt
table_own (Own (Anys x os)) cs e = tt
table_own (Own (Table ds)) cs e = tt
table_own (Child c) cs e = absurd (none_some e)
table_own (Children ds) cs e = absurd (none_some e)

entry_holds : (ns : Nodes) (kept : Kept) (h : Holds ns kept) (k f : ℕ) (e : Object ℕ × Option (Object ℕ)) (p : Part Field) (l : StobjList ℕ) (t : Option Cells) → part_at ns k f ≡ Some p → table_in p ≡ t → IsSomeAnd t (IsSuited e)
    → IfSome t (λ cs. IsTable (with_cell e.0 e.1 cs) l) → Holds (with_part k f (retabled t e p) ns) (record kept { roots = with_list_at (below (place_at kept.places k) (f ∷ [])) l kept.roots })
entry_holds ns kept h k f e p l None at i s r = absurd s
entry_holds ns kept h k f e p l (Some cs) at i s r = whole_holds ns kept h k f p (Own (Table (with_cell e.0 e.1 cs))) l at (table_own p cs i) r

back_holds : (ns : Nodes) (kept : Kept) (h : Holds ns kept) (k f : ℕ) (q : OldPart) (p : Part Field) (l : StobjList ℕ) → part_at ns k f ≡ Some p → SuitsPart q p → Restored q p l
    → Holds (with_part k f (back q p) ns) (record kept { roots = with_list_at (below (place_at kept.places k) (path_noted q f)) l kept.roots })
back_holds ns kept h k f (Element i v) (Own (One w)) l at s r = absurd s.0
back_holds ns kept h k f (Element i v) (Own (Many kind x vs)) l at s r =
    subst (λ (m : StobjList ℕ). Holds (with_part k f (with_element (Own (Many kind x vs)) i v) ns) (record kept { roots = with_list_at (below (place_at kept.places k) (f ∷ i ∷ [])) m kept.roots })) (sym r)
    (write_part ns kept h k f i v (Own (Many kind x vs)) at s.1)
back_holds ns kept h k f (Element i v) (Own (Any o)) l at s r = absurd s.0
back_holds ns kept h k f (Element i v) (Own (Anys x os)) l at s r = absurd s.1
back_holds ns kept h k f (Element i v) (Own (Table cs)) l at s r = absurd s.0
back_holds ns kept h k f (Element i v) (Child c) l at s r = absurd s.0
back_holds ns kept h k f (Element i v) (Children cs) l at s r = absurd s.0
back_holds ns kept h k f (Held i v) (Own (One w)) l at s r = absurd s.0
back_holds ns kept h k f (Held i v) (Own (Many kind x vs)) l at s r = absurd s.1
back_holds ns kept h k f (Held i v) (Own (Any o)) l at s r = absurd s.0
back_holds ns kept h k f (Held i v) (Own (Anys x os)) l at s r =
    subst (λ (m : StobjList ℕ). Holds (with_part k f (with_held (Own (Anys x os)) i v) ns) (record kept { roots = with_list_at (below (place_at kept.places k) (f ∷ i ∷ [])) m kept.roots })) (sym r)
    (write_held ns kept h k f i v (Own (Anys x os)) at s.1)
back_holds ns kept h k f (Held i v) (Own (Table cs)) l at s r = absurd s.0
back_holds ns kept h k f (Held i v) (Child c) l at s r = absurd s.0
back_holds ns kept h k f (Held i v) (Children cs) l at s r = absurd s.0
back_holds ns kept h k f (Entry e) p l at s r = entry_holds ns kept h k f e p l (table_in p) at refl s r
back_holds ns kept h k f (Whole s) p l at t r = whole_holds ns kept h k f p (part_of s) l at t.0 r

-- ---- what stays

bare_element : (p : Part Field) (i : ℕ) (v : ℤ) → bare (with_element p i v) ≡ bare p
bare_element (Own (One w)) i v = refl
bare_element (Own (Many kind x vs)) i v = refl
bare_element (Own (Any o)) i v = refl
bare_element (Own (Anys x os)) i v = refl
bare_element (Own (Table cs)) i v = refl
bare_element (Child c) i v = refl
bare_element (Children cs) i v = refl

bare_held : (p : Part Field) (i : ℕ) (v : Object ℕ) → bare (with_held p i v) ≡ bare p
bare_held (Own (One w)) i v = refl
bare_held (Own (Many kind x vs)) i v = refl
bare_held (Own (Any o)) i v = refl
bare_held (Own (Anys x os)) i v = refl
bare_held (Own (Table cs)) i v = refl
bare_held (Child c) i v = refl
bare_held (Children cs) i v = refl

bare_table : (h : Object ℕ × Option (Object ℕ)) (p : Part Field) → bare (retabled (table_in p) h p) ≡ bare p
bare_table h (Own (One w)) = refl
bare_table h (Own (Many kind x vs)) = refl
bare_table h (Own (Any o)) = refl
bare_table h (Own (Anys x os)) = refl
bare_table h (Own (Table cs)) = refl
bare_table h (Child c) = refl
bare_table h (Children cs) = refl

bare_back : (q : OldPart) (p : Part Field) → SuitsPart q p → bare (back q p) ≡ bare p
bare_back (Element i v) p s = bare_element p i v
bare_back (Held i v) p s = bare_held p i v
bare_back (Entry h) p s = bare_table h p
bare_back (Whole t) p s = s.2

shape_self : (ns : Nodes) → StayShaped ns ns
shape_self ns = record { counted = refl; layouts = λ k. refl; widths = λ k. refl; fields = λ k f. refl }

shape_then : (a b c : Nodes) → StayShaped a b → StayShaped b c → StayShaped a c
shape_then a b c s t = record {
  counted = t.counted ∙ s.counted;
  layouts = λ k. t.layouts k ∙ s.layouts k;
  widths = λ k. t.widths k ∙ s.widths k;
  fields = λ k f. t.fields k f ∙ s.fields k f;
}

shape_put : (ns after : Nodes) (n g : ℕ) (p q : Part Field) → part_at ns n g ≡ Some p → bare q ≡ bare p → IsChanged n g q ns after → StayShaped ns after
shape_put ns after n g p q at e c = record {
  counted = c.counted;
  layouts = c.layouts;
  widths = c.widths;
  fields = λ k f. by k f (nat_or k n) (nat_or f g);
}
  where
    by : (k f : ℕ) → (k ≡ n) ⊎ (k ≢ n) → (f ≡ g) ⊎ (f ≢ g) → option_map bare (part_at after k f) ≡ option_map bare (part_at ns k f)
    by k f (inr d) b = ap (option_map bare) (c.others k f (inl d))
    by k f (inl a) (inr d) = ap (option_map bare) (c.others k f (inr d))
    by k f (inl a) (inl b) = subst (λ (i : ℕ). option_map bare (part_at after i f) ≡ option_map bare (part_at ns i f)) (sym a)
        (subst (λ (i : ℕ). option_map bare (part_at after n i) ≡ option_map bare (part_at ns n i)) (sym b) (ap (option_map bare) c.changed ∙ (ap Some e ∙ sym (ap (option_map bare) at))))

pub shape_back : (ns : Nodes) (o : Old) (p : Part Field) → part_at ns o.node o.field ≡ Some p → SuitsPart o.part p → StayShaped ns (put_back o ns)
shape_back ns o p at s = subst (StayShaped ns) (sym (put_is ns o p at))
    (shape_put ns (with_part o.node o.field (back o.part p) ns) o.node o.field p (back o.part p) at (bare_back o.part p s) (with_changed ns o.node o.field p (back o.part p) at))

pub step_back : (ns : Nodes) (o : Old) (os : List Old) → Suits ns o → StepsBack ns (o ∷ os) (put_back o ns) os
step_back ns o os u = by (part_at ns o.node o.field) refl u
  where
    Back : ℕ → Kept → Kept → Type 0
    Back first kept before = (roots : List (StobjList ℕ)) × Remembers (put_back o ns) os first (record kept { roots = roots }) before

    step : (p : Part Field) → part_at ns o.node o.field ≡ Some p → SuitsPart o.part p → (first : ℕ) (kept before : Kept) → Holds ns kept → Fit ns (o ∷ os) → (ls : List (StobjList ℕ)) → AreLists ns (o ∷ os) ls
        → notes.Remembers (notes_with (o ∷ os) ls) first (length ns) kept before → Back first kept before
    step p at s first kept before h f [] a n = absurd a
    step p at s first kept before h f (l ∷ ls) a n = (
      with_list_at (place_noted kept.places (note_for o l)) l kept.roots,
      record {
        holds = subst (λ (ms : Nodes). Holds ms (record kept { roots = with_list_at (place_noted kept.places (note_for o l)) l kept.roots })) (sym (put_is ns o p at))
            (back_holds ns kept h o.node o.field o.part p l at s (subst (λ (q : Option (Part Field)). IfSome q (λ t. Restored o.part t l)) at a.0));
        fit = f.1;
        lists = ls;
        restore = a.1;
        notes = subst (λ (n : ℕ). notes.Remembers (notes_with os ls) first n (record kept { roots = with_list_at (place_noted kept.places (note_for o l)) l kept.roots }) before)
            (sym (ap length (put_is ns o p at) ∙ (with_changed ns o.node o.field p (back o.part p) at).counted)) (back_remembered (notes_with os ls) first (length ns) kept before (note_for o l) n);
      },
    )

    by : (r : Option (Part Field)) → part_at ns o.node o.field ≡ r → IsSomeAnd r (SuitsPart o.part) → StepsBack ns (o ∷ os) (put_back o ns) os
    by None at s = absurd s
    by (Some p) at s = record {
      fits = λ f. f.1;
      stays = λ f. shape_back ns o p at s;
      remembers = λ first kept before r. step p at s first kept before r.holds r.fit r.lists r.restore r.notes;
    }

pub steps_self : (ns : Nodes) (os : List Old) → StepsBack ns os ns os
steps_self ns os = record { fits = λ f. f; stays = λ f. shape_self ns; remembers = λ first kept before r. (kept.roots, r) }

pub steps_then : (a b c : Nodes) (xs ys zs : List Old) → StepsBack a xs b ys → StepsBack b ys c zs → StepsBack a xs c zs
steps_then a b c xs ys zs s t = record {
  fits = λ f. t.fits (s.fits f);
  stays = λ f. shape_then a b c (s.stays f) (t.stays (s.fits f));
  remembers = λ first kept before r. let u = s.remembers first kept before r in t.remembers first (record kept { roots = u.0 }) before u.1;
}

take_all : {X : Type 0} (xs : List X) → take (length xs) xs ≡ xs
take_all [] = refl
take_all (x ∷ xs) = ap (λ (ys : List _). x ∷ ys) (take_all xs)

list_within : (r : ℕ) (a b : List (StobjList ℕ)) (p : Place) → IsRooted r p → take r a ≡ take r b → list_at a p ≡ list_at b p
list_within r a b p h e = sym (list_left a r p h) ∙ (ap (λ (ls : List (StobjList ℕ)). list_at ls p) e ∙ list_left b r p h)

pub restores : (first : ℕ) (ns after : Nodes) (olds others : List Old) → others ≡ [] → StepsBack ns olds after others → Restores ns olds first after
unfolding Restores
restores first ns after olds others e steps kept before r =
    let s = steps.remembers first kept before r in
    let first_roots : take (length before.roots) s.0 ≡ before.roots = ap (λ (os : List Old). take (length before.roots) (notes.undone kept.places (notes_with os s.1.lists) s.0)) (sym e) ∙ s.1.notes.roots in (
      s.0,
      s.1.holds,
      first_roots,
      λ k w.
          list_within (length before.roots) s.0 before.roots (place_at kept.places k) (r.notes.old k w) (first_roots ∙ sym (take_all before.roots))
          ∙ ap (list_at before.roots) (sym (taken_place kept.places first k w) ∙ ap (λ (ps : List Place). place_at ps k) r.notes.places),
    )

place_rooted : (roots : List (StobjList ℕ)) (p : Place) → IsPlace roots p → IsRooted (length roots) p
place_rooted roots Nowhere h = absurd h
place_rooted roots (At r p) h = h.0

pub begins : (ns : Nodes) (olds : List Old) (first : ℕ) → olds ≡ [] → first ≡ length ns → Begins ns olds first
unfolding Begins
begins ns olds first e g kept h = subst (λ (os : List Old). Remembers ns os first kept kept) (sym e) (record {
  holds = h;
  fit = tt;
  lists = [];
  restore = tt;
  notes = record {
    counted = g ∙ sym h.counted;
    places = ap (λ (m : ℕ). take m kept.places) (g ∙ sym h.counted) ∙ take_all kept.places;
    roots = take_all kept.roots;
    early = λ n a. absurd a;
    old = λ k w. let low : k < length ns = omega (arith, w, g) in place_rooted kept.roots (place_at kept.places k) (h.there k low);
    local = λ k w u. absurd (omega (arith, w, u, g));
  };
})

-- ---- forms

-- a part with zeros for its values
abbrev pub form : Part Field → Part Field
form (Own (One v)) = Own (One (pos 0))
form (Own (Many kind x vs)) = Own (Many kind x (map (λ v. pos 0) vs))
form (Own (Any o)) = Own (Any nothing)
form (Own (Anys x os)) = Own (Anys x (map (λ o. nothing) os))
form (Own (Table cs)) = Own (Table cs)
form (Child c) = Child c
form (Children cs) = Children cs

form_table : (p : Part Field) → table_in (form p) ≡ table_in p
form_table (Own (One w)) = refl
form_table (Own (Many kind x vs)) = refl
form_table (Own (Any o)) = refl
form_table (Own (Anys x os)) = refl
form_table (Own (Table cs)) = refl
form_table (Child c) = refl
form_table (Children cs) = refl

bare_form : (p : Part Field) → bare (form p) ≡ bare p
bare_form (Own (One w)) = refl
bare_form (Own (Many kind x vs)) = refl
bare_form (Own (Any o)) = refl
bare_form (Own (Anys x os)) = refl
bare_form (Own (Table cs)) = refl
bare_form (Child c) = refl
bare_form (Children cs) = refl

to_form : (q : OldPart) (p : Part Field) → SuitsPart q p → SuitsPart q (form p)
to_form (Element i v) (Own (One w)) s = absurd s.0
to_form (Element i v) (Own (Many kind x vs)) s = (s.0, subst (λ (n : ℕ). i < n) (sym (length-map vs (λ v. pos 0))) s.1, s.2)
to_form (Element i v) (Own (Any o)) s = s
to_form (Element i v) (Own (Anys x os)) s = s
to_form (Element i v) (Own (Table cs)) s = s
to_form (Element i v) (Child c) s = s
to_form (Element i v) (Children cs) s = s
to_form (Held i v) (Own (One w)) s = s
to_form (Held i v) (Own (Many kind x vs)) s = s
to_form (Held i v) (Own (Any o)) s = s
to_form (Held i v) (Own (Anys x os)) s = (s.0, subst (λ (n : ℕ). i < n) (sym (length-map os (λ o. nothing))) s.1)
to_form (Held i v) (Own (Table cs)) s = s
to_form (Held i v) (Child c) s = s
to_form (Held i v) (Children cs) s = s
to_form (Entry e) p s = subst (λ (t : Option Cells). IsSomeAnd t (IsSuited e)) (sym (form_table p)) s
to_form (Whole t) (Own o) s = (own_form o, s.1, s.2 ∙ sym (bare_form (Own o)))
  where
    own_form : (o : Field) → IsOwn (form (Own o))
    own_form (One w) = tt
    own_form (Many kind x vs) = tt
    own_form (Any x) = tt
    own_form (Anys x os) = tt
    own_form (Table cs) = tt
to_form (Whole t) (Child c) s = s
to_form (Whole t) (Children cs) s = s

from_form : (q : OldPart) (p : Part Field) → SuitsPart q (form p) → SuitsPart q p
from_form (Element i v) (Own (One w)) s = absurd s.0
from_form (Element i v) (Own (Many kind x vs)) s = (s.0, subst (λ (n : ℕ). i < n) (length-map vs (λ v. pos 0)) s.1, s.2)
from_form (Element i v) (Own (Any o)) s = s
from_form (Element i v) (Own (Anys x os)) s = s
from_form (Element i v) (Own (Table cs)) s = s
from_form (Element i v) (Child c) s = s
from_form (Element i v) (Children cs) s = s
from_form (Held i v) (Own (One w)) s = s
from_form (Held i v) (Own (Many kind x vs)) s = s
from_form (Held i v) (Own (Any o)) s = s
from_form (Held i v) (Own (Anys x os)) s = (s.0, subst (λ (n : ℕ). i < n) (length-map os (λ o. nothing)) s.1)
from_form (Held i v) (Own (Table cs)) s = s
from_form (Held i v) (Child c) s = s
from_form (Held i v) (Children cs) s = s
from_form (Entry e) p s = subst (λ (t : Option Cells). IsSomeAnd t (IsSuited e)) (form_table p) s
from_form (Whole t) (Own o) s = (tt, s.1, s.2 ∙ bare_form (Own o))
from_form (Whole t) (Child c) s = s
from_form (Whole t) (Children cs) s = s

same_set : {X Y : Type 0} (z : Y) (xs : List X) (i : ℕ) (x : X) → map (λ w. z) (set xs i x) ≡ map (λ w. z) xs
same_set z [] i x = refl
same_set z (y ∷ xs) zero x = refl
same_set z (y ∷ xs) (suc i) x = ap (λ (ws : List _). z ∷ ws) (same_set z xs i x)

pub element_form : (p : Part Field) (i : ℕ) (v : ℤ) → form (with_element p i v) ≡ form p
element_form (Own (One w)) i v = refl
element_form (Own (Many kind x vs)) i v = ap (λ (ws : List ℤ). Own (Many kind x ws)) (same_set (pos 0) vs i v)
element_form (Own (Any o)) i v = refl
element_form (Own (Anys x os)) i v = refl
element_form (Own (Table cs)) i v = refl
element_form (Child c) i v = refl
element_form (Children cs) i v = refl

pub held_form : (p : Part Field) (i : ℕ) (v : Object ℕ) → form (with_held p i v) ≡ form p
held_form (Own (One w)) i v = refl
held_form (Own (Many kind x vs)) i v = refl
held_form (Own (Any o)) i v = refl
held_form (Own (Anys x os)) i v = ap (λ (ws : List (Object ℕ)). Own (Anys x ws)) (same_set nothing os i v)
held_form (Own (Table cs)) i v = refl
held_form (Child c) i v = refl
held_form (Children cs) i v = refl

same_table : (p r : Part Field) → form r ≡ form p → table_in r ≡ table_in p
same_table p r e = sym (form_table r) ∙ (ap table_in e ∙ form_table p)

retabled_form : (h : Object ℕ × Option (Object ℕ)) (p r : Part Field) (a b : Option Cells) → a ≡ b → form r ≡ form p → form (retabled a h r) ≡ form (retabled b h p)
retabled_form h p r None None q e = e
retabled_form h p r None (Some cs) q e = absurd (none_some q)
retabled_form h p r (Some cs) None q e = absurd (none_some (sym q))
retabled_form h p r (Some cs) (Some ds) q e = ap (λ (xs : Cells). form (Own (Table (with_cell h.0 h.1 xs)))) (some_same q)

back_form : (q : OldPart) (p r : Part Field) → form r ≡ form p → form (back q r) ≡ form (back q p)
back_form (Element i v) p r e = element_form r i v ∙ (e ∙ sym (element_form p i v))
back_form (Held i v) p r e = held_form r i v ∙ (e ∙ sym (held_form p i v))
back_form (Entry h) p r e = retabled_form h p r (table_in r) (table_in p) (same_table p r e) e
back_form (Whole s) p r e = refl

abbrev pub Alike : ℕ → Nodes → Nodes → Type 0
Alike first ns after = (k f : ℕ) → k < first → option_map form (part_at after k f) ≡ option_map form (part_at ns k f)

suits_alike : (q : OldPart) (r t : Option (Part Field)) → option_map form t ≡ option_map form r → IsSomeAnd r (SuitsPart q) → IsSomeAnd t (SuitsPart q)
suits_alike q None t e s = absurd s
suits_alike q (Some p) None e s = absurd (none_some e)
suits_alike q (Some p) (Some u) e s = from_form q u (subst (SuitsPart q) (sym (some_same e)) (to_form q p s))

put_alike : (first : ℕ) (ns after : Nodes) (n g : ℕ) (p u x y : Part Field) → part_at ns n g ≡ Some p → part_at after n g ≡ Some u → form y ≡ form x → Alike first ns after
    → Alike first (with_part n g x ns) (with_part n g y after)
put_alike first ns after n g p u x y at to e a k f w = by (nat_or k n) (nat_or f g)
  where
    other : (k ≢ n) ⊎ (f ≢ g) → option_map form (part_at (with_part n g y after) k f) ≡ option_map form (part_at (with_part n g x ns) k f)
    other d = ap (option_map form) (with_other after n g y k f d) ∙ (a k f w ∙ sym (ap (option_map form) (with_other ns n g x k f d)))

    here : option_map form (part_at (with_part n g y after) n g) ≡ option_map form (part_at (with_part n g x ns) n g)
    here = ap (option_map form) (with_same after n g u y to) ∙ (ap Some e ∙ sym (ap (option_map form) (with_same ns n g p x at)))

    by : (k ≡ n) ⊎ (k ≢ n) → (f ≡ g) ⊎ (f ≢ g) → option_map form (part_at (with_part n g y after) k f) ≡ option_map form (part_at (with_part n g x ns) k f)
    by (inr d) b = other (inl d)
    by (inl c) (inr d) = other (inr d)
    by (inl c) (inl b) = subst (λ (i : ℕ). option_map form (part_at (with_part n g y after) i f) ≡ option_map form (part_at (with_part n g x ns) i f)) (sym c)
        (subst (λ (i : ℕ). option_map form (part_at (with_part n g y after) n i) ≡ option_map form (part_at (with_part n g x ns) n i)) (sym b) here)

backs_alike : (first : ℕ) (ns after : Nodes) (o : Old) → o.node < first → Suits ns o → Alike first ns after → Alike first (put_back o ns) (put_back o after)
backs_alike first ns after o w s a = by (part_at ns o.node o.field) (part_at after o.node o.field) refl refl s (a o.node o.field w)
  where
    by : (r t : Option (Part Field)) → part_at ns o.node o.field ≡ r → part_at after o.node o.field ≡ t → IsSomeAnd r (SuitsPart o.part) → option_map form t ≡ option_map form r
        → Alike first (put_part (part_at ns o.node o.field) o ns) (put_part (part_at after o.node o.field) o after)
    by None t at to s e = absurd s
    by (Some p) None at to s e = absurd (none_some e)
    by (Some p) (Some u) at to s e = rw at (rw to (put_alike first ns after o.node o.field p u (back o.part p) (back o.part u) at to (back_form o.part p u (some_same e)) a))

restored_alike : (q : OldPart) (p u : Part Field) (l : StobjList ℕ) → form u ≡ form p → Restored q p l → Restored q u l
restored_alike (Element i v) p u l e r = r
restored_alike (Held i v) p u l e r = r
restored_alike (Entry h) p u l e r = subst (λ (t : Option Cells). IfSome t (λ cs. IsTable (with_cell h.0 h.1 cs) l)) (sym (same_table p u e)) r
restored_alike (Whole s) p u l e r = r

list_alike : (q : OldPart) (r t : Option (Part Field)) (l : StobjList ℕ) → option_map form t ≡ option_map form r → IfSome r (λ p. Restored q p l) → IfSome t (λ p. Restored q p l)
list_alike q None None l e s = s
list_alike q None (Some u) l e s = absurd (none_some (sym e))
list_alike q (Some p) None l e s = absurd (none_some e)
list_alike q (Some p) (Some u) l e s = restored_alike q p u l (some_same e) s

pub keep_alike : (first : ℕ) (os : List Old) (ls : List (StobjList ℕ)) (ns after : Nodes) → ((n : Note) → Among n (notes_with os ls) → n.node < first) → Alike first ns after → Fit ns os → AreLists ns os ls
    → Fit after os × AreLists after os ls
keep_alike first [] [] ns after w a f m = (tt, tt)
keep_alike first [] (l ∷ ls) ns after w a f m = absurd m
keep_alike first (o ∷ os) [] ns after w a f m = absurd m
keep_alike first (o ∷ os) (l ∷ ls) ns after w a f m =
    let low = w (note_for o l) (inl refl) in
    let rest = keep_alike first os ls (put_back o ns) (put_back o after) (λ n i. w n (inr i)) (backs_alike first ns after o low f.0 a) f.1 m.1 in (
      (suits_alike o.part (part_at ns o.node o.field) (part_at after o.node o.field) (a o.node o.field low) f.0, rest.0),
      (list_alike o.part (part_at ns o.node o.field) (part_at after o.node o.field) l (a o.node o.field low) m.0, rest.1),
    )

-- ---- a write

among_note : (m : Old) (olds : List Old) (ls : List (StobjList ℕ)) (ns : Nodes) → AreLists ns olds ls → AmongOld m olds → (l : StobjList ℕ) × Among (note_for m l) (notes_with olds ls)
among_note m [] ls ns a i = absurd i
among_note m (o ∷ os) [] ns a i = absurd a
among_note m (o ∷ os) (l ∷ ls) ns a (inl e) = (l, inl (ap (λ (x : Old). note_for x l) e))
among_note m (o ∷ os) (l ∷ ls) ns a (inr i) = let x = among_note m os ls (put_back o ns) a.1 i in (x.0, inr x.1)

pub covered : (olds : List Old) (ls : List (StobjList ℕ)) (ns : Nodes) (first n count : ℕ) (path : List ℕ) (kept : Kept) → AreLists ns olds ls → n < count → MayBeWritten olds first n path
    → IsCovered kept.places (notes_with olds ls) (below (place_at kept.places n) path) ⊎ ((first ≤ n) × (n < count))
covered olds ls ns first n count path kept a w (inr l) = inr (l, w)
covered olds ls ns first n count path kept a w (inl m) = let x = among_note m.0 olds ls ns a m.1 in inl (record {
  note = note_for m.0 x.0;
  is_there = x.1;
  rest = m.3.0;
  is = ap (below (place_at kept.places n)) m.3.1 ∙ (sym (below_both (place_at kept.places n) (path_noted m.0.part m.0.field) m.3.0)
      ∙ ap (λ (k : ℕ). below (below (place_at kept.places k) (path_noted m.0.part m.0.field)) m.3.0) (sym m.2));
})

-- a part of the same form, which holds with another list at a path
pub write_keeps : (ns after : Nodes) (olds : List Old) (first n f : ℕ) (path : List ℕ) (x : StobjList ℕ) (p new : Part Field) → part_at ns n f ≡ Some p → form new ≡ form p → after ≡ with_part n f new ns
    → (kept before : Kept) → Holds (with_part n f new ns) (record kept { roots = with_list_at (below (place_at kept.places n) path) x kept.roots }) → Remembers ns olds first kept before → MayBeWritten olds first n path
    → Remembers after olds first (record kept { roots = with_list_at (below (place_at kept.places n) path) x kept.roots }) before
write_keeps ns after olds first n f path x p new at same e kept before h r may = subst (λ (ms : Nodes). Remembers ms olds first (record kept { roots = with_list_at (below (place_at kept.places n) path) x kept.roots }) before) (sym e) (record {
  holds = h;
  fit = (keep_alike first olds r.lists ns (with_part n f new ns) r.notes.early alike r.fit r.restore).0;
  lists = r.lists;
  restore = (keep_alike first olds r.lists ns (with_part n f new ns) r.notes.early alike r.fit r.restore).1;
  notes = subst (λ (m : ℕ). notes.Remembers (notes_with olds r.lists) first m (record kept { roots = with_list_at (below (place_at kept.places n) path) x kept.roots }) before)
      (sym (with_changed ns n f p new at).counted)
      (write_remembered (notes_with olds r.lists) first (length ns) n path x kept before r.notes (covered olds r.lists ns first n (length ns) path kept r.restore (part_within ns n f p at) may));
})
  where
    alike : Alike first ns (with_part n f new ns)
    alike k g w = subst (λ (ms : Nodes). option_map form (part_at (with_part n f new ns) k g) ≡ option_map form (part_at ms k g)) (with_again ns n f p at)
        (put_alike first ns ns n f p p p new at at same (λ j h u. refl) k g w)

pub writes_keep : (ns after : Nodes) (olds : List Old) (first n f i : ℕ) (v : ℤ) → IsInline ns n f i → IsPut ns n f i v after → WriteRemembers ns olds first n f i v after
unfolding WriteRemembers
writes_keep ns after olds first n f i v p q kept before r = by (part_at ns n f) refl p q
  where
    by : (o : Option (Part Field)) → part_at ns n f ≡ o → IsSomeAnd o (λ s. IsElement s i) → IfSome o (λ s. after ≡ with_part n f (with_element s i v) ns)
        → IfSome o (λ s. MayBeWritten olds first n (path_in s f i) → Remembers after olds first (record kept { roots = with_list_at (place_in kept s n f i) (integer v) kept.roots }) before)
    by None at p q = absurd p
    by (Some s) at p q = λ may. write_keeps ns after olds first n f (path_in s f i) (integer v) s (with_element s i v) at (element_form s i v) q kept before (write_part ns kept r.holds n f i v s at p) r may

-- ---- calls

pub restores_all : (first : ℕ) (ns after : Nodes) (olds items : List Old) → items ≡ [] → StepsBack ns olds after (reverse items) → Restores ns olds first after
restores_all first ns after olds items e s = restores first ns after olds (reverse items) (ap reverse e) s

pub newest_is : (olds rest : List Old) (o : Old) → olds ≡ rest ++ o ∷ [] → reverse olds ≡ o ∷ reverse rest
newest_is olds rest o e = ap reverse e ∙ reverse-append rest (o ∷ [])

pub newest_fits : (ns : Nodes) (olds rest : List Old) (o : Old) → olds ≡ rest ++ o ∷ [] → Fit ns (reverse olds) → Suits ns o
newest_fits ns olds rest o e f = (subst (Fit ns) (newest_is olds rest o e) f).0

backs_is : (ns after : Nodes) (o : Old) (r : Option (Part Field)) → IsSomeAnd r (SuitsPart o.part) → IfSome r (λ p. after ≡ with_part o.node o.field (back o.part p) ns) → after ≡ put_part r o ns
backs_is ns after o None s q = absurd s
backs_is ns after o (Some p) s q = q

pub newest_back : (ns after : Nodes) (olds rest : List Old) (o : Old) → olds ≡ rest ++ o ∷ [] → Fit ns (reverse olds)
    → IfSome (part_at ns o.node o.field) (λ p. after ≡ with_part o.node o.field (back o.part p) ns) → StepsBack ns (reverse olds) after (reverse rest)
newest_back ns after olds rest o e f q =
    subst (λ (os : List Old). StepsBack ns os after (reverse rest)) (sym (newest_is olds rest o e))
    (subst (λ (ms : Nodes). StepsBack ns (o ∷ reverse rest) ms (reverse rest)) (sym (backs_is ns after o (part_at ns o.node o.field) (newest_fits ns olds rest o e f) q))
    (step_back ns o (reverse rest) (newest_fits ns olds rest o e f)))

pub notes_self : (ns : Nodes) (olds : List Old) (first : ℕ) → NoteRemembers ns olds first olds
unfolding NoteRemembers
notes_self ns olds first kept before r = r

pub notes_keep : (ns : Nodes) (olds news : List Old) (first n f i : ℕ) (o : Old) → news ≡ olds ++ o ∷ [] → o.node ≡ n → o.field ≡ f → IsInline ns n f i → IfSome (part_at ns n f) (λ p. IsNote o.part p i) → n < first
    → NoteRemembers ns (reverse olds) first (reverse news)
notes_keep ns olds news first n f i o e a b p q w =
    subst (NoteRemembers ns (reverse olds) first) (sym (newest_is news olds o e)) (by (part_at ns o.node o.field) refl
    (subst (λ (r : Option (Part Field)). IsSomeAnd r (λ s. IsElement s i)) (sym same) p) (subst (λ (r : Option (Part Field)). IfSome r (λ s. IsNote o.part s i)) (sym same) q))
  where
    same : part_at ns o.node o.field ≡ part_at ns n f
    same = ap (λ (k : ℕ). part_at ns k o.field) a ∙ ap (part_at ns n) b

    by : (r : Option (Part Field)) → part_at ns o.node o.field ≡ r → IsSomeAnd r (λ s. IsElement s i) → IfSome r (λ s. IsNote o.part s i) → NoteRemembers ns (reverse olds) first (o ∷ reverse olds)
    by None at p q = absurd p
    by (Some s) at p q = note_keeps ns (reverse olds) first i o s at (element_value s i p).0 q (subst (λ (k : ℕ). k < first) (sym a) w)

pub may_write : (ns : Nodes) (olds news : List Old) (first n f i : ℕ) (o : Old) → news ≡ olds ++ o ∷ [] → o.node ≡ n → o.field ≡ f → IsInline ns n f i → IfSome (part_at ns n f) (λ p. IsNote o.part p i)
    → IfSome (part_at ns n f) (λ p. MayBeWritten (reverse news) first n (path_in p f i))
may_write ns olds news first n f i o e a b p q = by (part_at ns n f) p q
  where
    by : (r : Option (Part Field)) → IsSomeAnd r (λ s. IsElement s i) → IfSome r (λ s. IsNote o.part s i) → IfSome r (λ s. MayBeWritten (reverse news) first n (path_in s f i))
    by None p q = absurd p
    by (Some s) p q = subst (λ (os : List Old). MayBeWritten os first n (path_in s f i)) (sym (newest_is news olds o e))
        (inl (o, inl refl, a, ([], sym (append-nil (path_noted o.part o.field) ∙ (ap (path_noted o.part) b ∙ q.path f)))))

pub local_may : (r : Option (Part Field)) (olds : List Old) (first n f i : ℕ) → first ≤ n → IfSome r (λ p. MayBeWritten olds first n (path_in p f i))
local_may None olds first n f i h = local_none
  where
    local_none : IfSome None (λ (p : Part Field). MayBeWritten olds first n (path_in p f i))
    local_none = tt
local_may (Some p) olds first n f i h = inr h

pub begun : (ns : Nodes) (items : List Old) (first : ℕ) → items ≡ [] → first ≡ length ns → Begins ns (reverse items) first
begun ns items first e g = begins ns (reverse items) first (ap reverse e) g

pub shape_kept : (ns after : Nodes) (olds others : List Old) → Fit ns olds → StepsBack ns olds after others → StayShaped ns after
shape_kept ns after olds others f s = s.stays f
