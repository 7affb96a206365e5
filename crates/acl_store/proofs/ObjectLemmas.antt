-- Objects of any kind that are put into fields.
use Rattle.std.proofs.Common.{◌≡◌, ℕ, ◌<◌, ◌≤◌, List, [], ◌∷◌, reverse, Option, Some, None, refl, sym, ap, ◌∙◌, subst, inl, inr}
use Rattle.std.specs.Prelude.{IsSomeAnd, IfSome}
use Rattle.std.proofs.lemmas.List.{append-nil}
use Rattle.model_objects.specs.Object.{Object}
use Rattle.model_eval.specs.PlacesKeeping.{with_list_at}
use Rattle.acl_nodes.specs.Kept.{Kept}
use Rattle.acl_nodes.specs.Nodes.{Part, part_at, with_part}
use Rattle.acl_nodes.proofs.NodeLemmas.{with_changed}
use Rattle.acl_fields.specs.Fields.{Field, plain, IsHeld, with_held}
use Rattle.acl_fields.specs.Layouts.{Follow}
use Rattle.acl_fields.specs.Parts.{path_in}
use Rattle.acl_store.specs.Calls.{Nodes, Holds, place_in, IsGeneral, IsObjectPut, WritesObject, StayTyped}
use Rattle.acl_fields.specs.Notes.{path_noted, IsNote}
use Rattle.acl_store.specs.Journals.{IsNotedAt, Remembers, NoteRemembers, ObjectRemembers, StayWritable}
use Rattle.acl_store.specs.declared.notes.Old.{Old}
use Rattle.acl_store.proofs.StoreLemmas.{by_some, out_of, held_value, write_held, held_matches, follow_changed}
use Rattle.acl_store.proofs.JournalLemmas.{held_form, newest_is, note_keeps, write_keeps}
use Rattle.acl_store.proofs.KeepLemmas.{stay_pushed}

-- ---- calls

pub writes_object : (ns after : Nodes) (n f i : ℕ) (o : Object ℕ) → IsGeneral ns n f i → IsObjectPut ns n f i o after → WritesObject ns n f i o after
writes_object ns after n f i o p q kept h = by_some (part_at ns n f) (λ s. IsHeld s i) (λ s. after ≡ with_part n f (with_held s i o) ns)
    (λ s. Holds after (record kept { roots = with_list_at (place_in kept s n f i) (plain o) kept.roots }))
    (λ s at a b. subst (λ (ms : Nodes). Holds ms (record kept { roots = with_list_at (place_in kept s n f i) (plain o) kept.roots })) (sym b) (write_held ns kept h n f i o s at a)) p q

pub object_typed : (ns after : Nodes) (n f i : ℕ) (o : Object ℕ) → IsGeneral ns n f i → IsObjectPut ns n f i o after → StayTyped ns after
unfolding StayTyped
object_typed ns after n f i o p q layouts h = out_of (part_at ns n f) (λ s. IsHeld s i) (Follow layouts after) p (by_some (part_at ns n f) (λ s. IsHeld s i) (λ s. after ≡ with_part n f (with_held s i o) ns) (λ s. Follow layouts after)
    (λ s at a b. subst (Follow layouts) (sym b) (follow_changed layouts ns (with_part n f (with_held s i o) ns) n f s (with_held s i o) at (with_changed ns n f s (with_held s i o) at) (λ field e m. held_matches ns n field s i o m) h)) p q)

pub object_local : (ns after : Nodes) (olds : List Old) (first n f i : ℕ) (o : Object ℕ) → first ≤ n → IsGeneral ns n f i → IsObjectPut ns n f i o after → ObjectRemembers ns olds first n f i o after olds
unfolding ObjectRemembers
object_local ns after olds first n f i o w p q kept before r = by (part_at ns n f) refl p q
  where
    by : (t : Option (Part Field)) → part_at ns n f ≡ t → IsSomeAnd t (λ s. IsHeld s i) → IfSome t (λ s. after ≡ with_part n f (with_held s i o) ns)
        → IfSome t (λ s. Remembers after olds first (record kept { roots = with_list_at (place_in kept s n f i) (plain o) kept.roots }) before)
    by None at p q = absurd p
    by (Some s) at p q = write_keeps ns after olds first n f (path_in s f i) (plain o) s (with_held s i o) at (held_form s i o) q kept before (write_held ns kept r.holds n f i o s at p) r (inr w)

note_first : (ns : Nodes) (olds : List Old) (first i : ℕ) (t : Old) (s : Part Field) → part_at ns t.node t.field ≡ Some s → IsHeld s i → IsNote t.part s i → t.node < first
    → (kept before : Kept) → Remembers ns olds first kept before → Remembers ns (t ∷ olds) first kept before
unfolding NoteRemembers
note_first ns olds first i t s at p n w = note_keeps ns olds first i t s at (held_value s i p).0 n w

object_old : (ns after : Nodes) (olds : List Old) (first n f i : ℕ) (o : Object ℕ) (t : Old) → t.node ≡ n → t.field ≡ f → n < first → IsGeneral ns n f i → IfSome (part_at ns n f) (λ p. IsNote t.part p i) → IsObjectPut ns n f i o after
    → ObjectRemembers ns olds first n f i o after (t ∷ olds)
unfolding ObjectRemembers
object_old ns after olds first n f i o t a b w p d q kept before r = by (part_at ns n f) refl p d q
  where
    by : (x : Option (Part Field)) → part_at ns n f ≡ x → IsSomeAnd x (λ s. IsHeld s i) → IfSome x (λ s. IsNote t.part s i) → IfSome x (λ s. after ≡ with_part n f (with_held s i o) ns)
        → IfSome x (λ s. Remembers after (t ∷ olds) first (record kept { roots = with_list_at (place_in kept s n f i) (plain o) kept.roots }) before)
    by None at p d q = absurd p
    by (Some s) at p d q = write_keeps ns after (t ∷ olds) first n f (path_in s f i) (plain o) s (with_held s i o) at (held_form s i o) q kept before (write_held ns kept r.holds n f i o s at p)
        (note_first ns olds first i t s ((ap (λ (k : ℕ). part_at ns k t.field) a ∙ ap (part_at ns n) b) ∙ at) p d (subst (λ (k : ℕ). k < first) (sym a) w) kept before r)
        (inl (t, inl refl, a, ([], sym (append-nil (path_noted t.part t.field) ∙ (ap (path_noted t.part) b ∙ d.path f)))))

pub object_noted : (ns after : Nodes) (olds news : List Old) (first n f i : ℕ) (o : Object ℕ) → n < first → IsGeneral ns n f i → IsNotedAt ns n f i olds news → IsObjectPut ns n f i o after
    → ObjectRemembers ns (reverse olds) first n f i o after (reverse news)
object_noted ns after olds news first n f i o w p d q =
    subst (λ (os : List Old). ObjectRemembers ns (reverse olds) first n f i o after os) (sym (newest_is news olds d.note d.last))
    (object_old ns after (reverse olds) first n f i o d.note d.is_node d.is_field w p d.is q)

pub stay_noted_at : (ns : Nodes) (n f i : ℕ) (olds news : List Old) (first : ℕ) → IsNotedAt ns n f i olds news → StayWritable (reverse olds) first (reverse news)
stay_noted_at ns n f i olds news first d = stay_pushed olds news first d.note d.last
