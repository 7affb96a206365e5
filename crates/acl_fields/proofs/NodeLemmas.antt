-- A node with another field.
use Rattle.std.proofs.Common.{◌≡◌, ℕ, zero, suc, List, [], ◌∷◌, map, length, Option, Some, None, refl, sym, ap, ◌∙◌, subst, set, get_or}
use Rattle.std.specs.Prelude.{slice_get, option_map, IsSomeAnd, IfSome}
use Rattle.std.proofs.lemmas.List.{map-set}
use Rattle.std.proofs.lemmas.Option.{slice_get_read, slice_get_within}
use Rattle.acl_nodes.specs.Nodes.{Part}
use Rattle.acl_fields.specs.Fields.{Field}
use Rattle.acl_fields.specs.Parts.{part_of}
use Rattle.acl_fields.specs.declared.slot.Slot.{Slot}

pub parts_set : (ss : List Slot) (f : ℕ) (s : Slot) (p : Part Field) → part_of s ≡ p → map part_of (set ss f s) ≡ set (map part_of ss) f p
parts_set ss f s p e = map-set part_of ss f s ∙ ap (set (map part_of ss) f) e

set_same : {X : Type 0} (xs : List X) (f : ℕ) (x : X) → slice_get xs f ≡ Some x → set xs f x ≡ xs
set_same [] f x e = refl
set_same (y ∷ xs) zero x e = ap (λ (z : _). z ∷ xs) (some_same e)
  where
    some_same : Some y ≡ Some x → x ≡ y
    some_same h = cc
set_same (y ∷ xs) (suc f) x e = ap (λ (zs : List _). y ∷ zs) (set_same xs f x e)

got_map : (ss : List Slot) (f : ℕ) (s : Slot) → slice_get ss f ≡ Some s → slice_get (map part_of ss) f ≡ Some (part_of s)
got_map [] f s e = absurd (none_some e)
  where
    none_some : None ≡ Some s → ⊥
    none_some h = cc
got_map (x ∷ ss) zero s e = ap (option_map part_of) e
got_map (x ∷ ss) (suc f) s e = got_map ss f s e

pub parts_same : (ss : List Slot) (f : ℕ) (s old : Slot) → slice_get ss f ≡ Some old → part_of s ≡ part_of old → map part_of (set ss f s) ≡ map part_of ss
parts_same ss f s old g e = parts_set ss f s (part_of old) e ∙ set_same (map part_of ss) f (part_of old) (got_map ss f old g)

some_same : {X : Type 0} {x y : X} → Some x ≡ Some y → x ≡ y
some_same e = cc

-- the field that is there
pub slot_there : {X : Type 0} (ss : List X) (f : ℕ) (old : X) (P : X → Type 0) → old ≡ get_or ss f old → IsSomeAnd (slice_get ss f) P → slice_get ss f ≡ Some old
slot_there ss f old P e h = by (slice_get ss f) refl h
  where
    by : (r : Option _) → slice_get ss f ≡ r → IsSomeAnd r P → slice_get ss f ≡ Some old
    by None g p = absurd p
    by (Some s) g p = slice_get_read ss (length ss) f old refl (slice_get_within ss f s g) e

pub parts_put : (ss : List Slot) (f : ℕ) (old new : Slot) (P : Slot → Type 0) (g : Part Field → Part Field) → old ≡ get_or ss f old → IsSomeAnd (slice_get ss f) P → part_of new ≡ g (part_of old)
    → IfSome (slice_get ss f) (λ s. map part_of (set ss f new) ≡ set (map part_of ss) f (g (part_of s)))
parts_put ss f old new P g e h k = subst (λ (r : Option Slot). IfSome r (λ s. map part_of (set ss f new) ≡ set (map part_of ss) f (g (part_of s)))) (sym (slot_there ss f old P e h))
    (parts_set ss f new (g (part_of old)) k)

pub parts_kept : (ss : List Slot) (f : ℕ) (old new : Slot) (P : Slot → Type 0) → old ≡ get_or ss f old → IsSomeAnd (slice_get ss f) P → part_of new ≡ part_of old → map part_of (set ss f new) ≡ map part_of ss
parts_kept ss f old new P e h k = parts_same ss f new old (slot_there ss f old P e h) k

pub part_given : (ss : List Slot) (f : ℕ) (old t : Slot) (P : Slot → Type 0) → old ≡ get_or ss f old → IsSomeAnd (slice_get ss f) P → part_of t ≡ part_of old → IfSome (slice_get ss f) (λ s. part_of t ≡ part_of s)
part_given ss f old t P e h k = subst (λ (r : Option Slot). IfSome r (λ s. part_of t ≡ part_of s)) (sym (slot_there ss f old P e h)) k

pub slot_given : (ss : List Slot) (f : ℕ) (old : Slot) (P Q : Slot → Type 0) → old ≡ get_or ss f old → IsSomeAnd (slice_get ss f) P → Q old → IfSome (slice_get ss f) Q
slot_given ss f old P Q e h k = subst (λ (r : Option Slot). IfSome r Q) (sym (slot_there ss f old P e h)) k
