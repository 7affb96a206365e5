-- Notes of a field, as it is.
use Rattle.std.proofs.Common.{◌≡◌, ℕ, zero, suc, ◌<◌, ℤ, pos, List, [], ◌∷◌, Option, length, refl, sym, ap, subst, arith, set, get_or}
use Rattle.acl_base.specs.declared.layout.Kind.{Kind}
use Rattle.acl_base.specs.declared.Word.{Word}
use Rattle.acl_heap.specs.Objects.{nothing}
use Rattle.model_objects.specs.Object.{Object}
use Rattle.acl_nodes.specs.Nodes.{Part, Own, IsOwn}
use Rattle.acl_maps.specs.Cells.{Cells, with_cell, IsSuited}
use Rattle.acl_fields.specs.Fields.{InRange, Field, Many, Any, Anys, Table, IsTable, integer, plain}
use Rattle.acl_fields.specs.Parts.{part_of}
use Rattle.acl_fields.specs.Notes.{bare, ShowsOwn, IsNote}
use Rattle.acl_fields.specs.Changes.{GivesBack}
use Rattle.acl_fields.specs.declared.notes.OldPart.TheVariants.{Element, Held, Entry, Whole}
use Rattle.acl_fields.specs.declared.slot.Slot.{Slot}

-- ---- integers

pub set_same : (vs : List ℤ) (i : ℕ) (v : ℤ) → v ≡ get_or vs i (pos 0) → i < length vs → set vs i v ≡ vs
set_same [] i v e h = refl
set_same (x ∷ vs) zero v e h = ap (λ (z : ℤ). z ∷ vs) e
set_same (x ∷ vs) (suc i) v e h = let fewer : i < length vs = omega (arith, h) in ap (λ (zs : List ℤ). x ∷ zs) (set_same vs i v e fewer)

pub element_note : (kind : Kind) (x v w : ℤ) (vs : List ℤ) (i : ℕ) → i < length vs → w ≡ v → v ≡ get_or vs i (pos 0) → InRange kind v → IsNote (Element i w) (Own (Many kind x vs)) i
element_note kind x v w vs i h d e r = subst (λ (u : ℤ). IsNote (Element i u) (Own (Many kind x vs)) i) (sym d) (record {
  suits = (tt, h, r);
  same = ap (λ (us : List ℤ). Own (Many kind x us)) (set_same vs i v e h);
  path = λ f. refl;
  shows = ap integer (sym e);
})

-- ---- objects

same_set : {X : Type 0} (xs : List X) (i : ℕ) (x d : X) → x ≡ get_or xs i d → i < length xs → set xs i x ≡ xs
same_set [] i x d e h = refl
same_set (y ∷ xs) zero x d e h = ap (λ (z : _). z ∷ xs) e
same_set (y ∷ xs) (suc i) x d e h = let fewer : i < length xs = omega (arith, h) in ap (λ (zs : List _). y ∷ zs) (same_set xs i x d e fewer)

pub held_note : (x : Word) (os : List (Object ℕ)) (i : ℕ) (o : Object ℕ) → i < length os → o ≡ get_or os i nothing → IsNote (Held i o) (Own (Anys x os)) i
held_note x os i o h e = record {
  suits = (tt, h);
  same = ap (λ (ws : List (Object ℕ)). Own (Anys x ws)) (same_set os i o nothing e h);
  path = λ f. refl;
  shows = ap plain (sym e);
}

pub any_note : (s : Slot) (o : Object ℕ) (i : ℕ) → part_of s ≡ Own (Any o) → IsNote (Whole s) (Own (Any o)) i
any_note s o i e = record {
  suits = (tt, subst IsOwn (sym e) tt, ap bare e);
  same = e;
  path = λ f. refl;
  shows = subst (λ (p : Part Field). ShowsOwn p (plain o)) (sym e) refl;
}

-- ---- hash fields

pub entry_gives : (h : Object ℕ × Option (Object ℕ)) (new old : Cells) → with_cell h.0 h.1 new ≡ old → IsSuited h new → GivesBack (Entry h) (Own (Table new)) (Own (Table old))
entry_gives h new old b s = record {
  suits = s;
  is = ap (λ (cs : Cells). Own (Table cs)) b;
  path = λ f. refl;
  restored = λ l t. subst (λ (cs : Cells). IsTable cs l) (sym b) t;
}

pub table_gives : (s : Slot) (new old : Cells) → part_of s ≡ Own (Table old) → GivesBack (Whole s) (Own (Table new)) (Own (Table old))
table_gives s new old e = record {
  suits = (tt, subst IsOwn (sym e) tt, ap bare e);
  is = e;
  path = λ f. refl;
  restored = λ l t. subst (λ (p : Part Field). ShowsOwn p l) (sym e) t;
}
