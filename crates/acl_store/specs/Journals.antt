-- What a journal notes of fields, and what is remembered by it.
use Rattle.std.specs.Prelude.{◌≡◌, ◌⊎◌, ℕ, ℤ, ◌<◌, ◌≤◌, List, [], ◌∷◌, ◌++◌, length, take, Option, Some, None, IsSomeAnd, IfSome, option_map}
use Rattle.acl_base.specs.declared.layout.Layout.{Layout}
use Rattle.acl_heap.specs.Objects.{Objects}
use Rattle.model_objects.specs.Object.{Object}
use Rattle.model_lists.specs.Lists.{StobjList, resized}
use Rattle.model_eval.specs.PlacesKeeping.{list_at, with_list_at}
use Rattle.acl_nodes.specs.Kept.{Kept, place_at, field_at, with_field, IsRooted}
use Rattle.acl_nodes.specs.Making.{IsCreated}
use Rattle.acl_nodes.specs.Nodes.{Part, part_at, layout_at, width, with_part}
use Rattle.acl_nodes.specs.Notes as notes
use Rattle.acl_nodes.specs.Notes.{Note}
use Rattle.acl_fields.specs.Fields.{Field, shown, integer, plain, filling}
use Rattle.acl_fields.specs.Parts.{path_in}
use Rattle.acl_store.specs.Calls.{Nodes, Holds, place_in}
use Rattle.acl_fields.specs.Layouts.{AreBorn}
use Rattle.acl_fields.specs.Notes.{back, path_noted, Restored, bare, SuitsPart, IsNote, IsWhole}
use Rattle.acl_store.specs.declared.notes.Old.{Old}

-- ---- one note

abbrev pub note_for : Old → StobjList ℕ → Note
note_for o l = record { node = o.node; path = path_noted o.part o.field; list = l }

-- notes with their lists
abbrev pub notes_with : List Old → List (StobjList ℕ) → List Note
notes_with [] ls = []
notes_with (o ∷ os) [] = []
notes_with (o ∷ os) (l ∷ ls) = note_for o l ∷ notes_with os ls

abbrev pub Suits : Nodes → Old → Type 0
Suits ns o = IsSomeAnd (part_at ns o.node o.field) (SuitsPart o.part)

abbrev pub put_part : Option (Part Field) → Old → Nodes → Nodes
put_part None o ns = ns
put_part (Some p) o ns = with_part o.node o.field (back o.part p) ns

-- the nodes once it is put back
abbrev pub put_back : Old → Nodes → Nodes
put_back o ns = put_part (part_at ns o.node o.field) o ns

-- the notes may be put back one after the other, the first of the list first, which is the newest
abbrev pub Fit : Nodes → List Old → Type 0
Fit ns [] = Unit {0}
Fit ns (o ∷ os) = Suits ns o × Fit (put_back o ns) os

-- these are the lists that the notes bring back, the first of the list first
abbrev pub AreLists : Nodes → List Old → List (StobjList ℕ) → Type 0
AreLists ns [] [] = Unit {0}
AreLists ns [] (l ∷ ls) = ⊥
AreLists ns (o ∷ os) [] = ⊥
AreLists ns (o ∷ os) (l ∷ ls) = IfSome (part_at ns o.node o.field) (λ p. Restored o.part p l) × AreLists (put_back o ns) os ls

-- the whole field was noted, behind the others
pub record IsNoted (ns : Nodes) (n f : ℕ) (olds news : List Old) : Type 0 where
  pub note : Old
  pub last : news ≡ olds ++ note ∷ []
  pub is_node : note.node ≡ n
  pub is_field : note.field ≡ f
  pub whole : IfSome (part_at ns n f) (IsWhole note.part)

-- what was at an index was noted, behind the others
pub record IsNotedAt (ns : Nodes) (n f i : ℕ) (olds news : List Old) : Type 0 where
  pub note : Old
  pub last : news ≡ olds ++ note ∷ []
  pub is_node : note.node ≡ n
  pub is_field : note.field ≡ f
  pub is : IfSome (part_at ns n f) (λ p. IsNote note.part p i)

-- ---- what is remembered

-- put back, the notes give the lists that there were when the journal was opened, of the nodes below this number
pub record Remembers (ns : Nodes) (olds : List Old) (first : ℕ) (kept before : Kept) : Type 0 where
  pub holds : Holds ns kept
  pub fit : Fit ns olds
  pub lists : List (StobjList ℕ)
  pub restore : AreLists ns olds lists
  pub notes : notes.Remembers (notes_with olds lists) first (length ns) kept before

-- the note is one of these
abbrev pub AmongOld : Old → List Old → Type 0
AmongOld m [] = ⊥
AmongOld m (o ∷ os) = (o ≡ m) ⊎ AmongOld m os

-- the list was noted, or one that it is in, or the node is local
abbrev pub MayBeWritten : List Old → ℕ → ℕ → List ℕ → Type 0
MayBeWritten olds first n path = ((m : Old) × AmongOld m olds × (m.node ≡ n) × ((rest : List ℕ) × (path ≡ path_noted m.part m.field ++ rest))) ⊎ (first ≤ n)

unfoldable pub Begins : Nodes → List Old → ℕ → Type 0
Begins ns olds first = (kept : Kept) → Holds ns kept → Remembers ns olds first kept kept

-- a note leaves what is remembered
unfoldable pub NoteRemembers : Nodes → List Old → ℕ → List Old → Type 0
NoteRemembers ns olds first others = (kept before : Kept) → Remembers ns olds first kept before → Remembers ns others first kept before

-- the nodes have the layouts, the children and the kinds of fields that they had
pub record StayShaped (ns after : Nodes) : Type 0 where
  pub counted : length after ≡ length ns
  pub layouts : (k : ℕ) → layout_at after k ≡ layout_at ns k
  pub widths : (k : ℕ) → width after k ≡ width ns k
  pub fields : (k f : ℕ) → option_map bare (part_at after k f) ≡ option_map bare (part_at ns k f)

-- some were put back
pub record StepsBack (ns : Nodes) (olds : List Old) (after : Nodes) (others : List Old) : Type 0 where
  pub fits : Fit ns olds → Fit after others
  pub stays : Fit ns olds → StayShaped ns after
  pub remembers : (first : ℕ) (kept before : Kept) → Remembers ns olds first kept before → (roots : List (StobjList ℕ)) × Remembers after others first (record kept { roots = roots }) before

-- each node that there was stands for what it stood for
unfoldable pub Restores : Nodes → List Old → ℕ → Nodes → Type 0
Restores ns olds first after =
    (kept before : Kept) → Remembers ns olds first kept before
    → (roots : List (StobjList ℕ)) × Holds after (record kept { roots = roots }) × (take (length before.roots) roots ≡ before.roots)
    × ((k : ℕ) → k < first → list_at roots (place_at kept.places k) ≡ list_at before.roots (place_at before.places k))

-- another integer leaves what is remembered, where it was noted or the node is local
unfoldable pub WriteRemembers : Nodes → List Old → ℕ → ℕ → ℕ → ℕ → ℤ → Nodes → Type 0
WriteRemembers ns olds first n f i v after =
    (kept before : Kept) → Remembers ns olds first kept before
    → IfSome (part_at ns n f) (λ p. MayBeWritten olds first n (path_in p f i) → Remembers after olds first (record kept { roots = with_list_at (place_in kept p n f i) (integer v) kept.roots }) before)

-- what may be written may be written still
unfoldable pub StayWritable : List Old → ℕ → List Old → Type 0
StayWritable olds first others = (n : ℕ) (path : List ℕ) → MayBeWritten olds first n path → MayBeWritten others first n path

-- a new object leaves what is remembered, and its nodes are local
unfoldable pub CreateRemembers : Objects → List Layout → ℕ → Nodes → List Old → ℕ → Nodes → ℕ → Type 0
CreateRemembers h layouts id ns olds first after c =
    (lists : ℕ → StobjList ℕ) → AreBorn h layouts lists → (kept before : Kept) → Remembers ns olds first kept before
    → (d : IsCreated shown kept (lists id) after c) × Remembers after olds first (record { roots = kept.roots ++ lists id ∷ []; places = kept.places ++ d.more }) before

-- an array of another length leaves what is remembered
unfoldable pub ResizeRemembers : Objects → Nodes → List Old → ℕ → ℕ → ℕ → ℕ → Nodes → List Old → Type 0
ResizeRemembers h ns olds first n f m after others =
    (kept before : Kept) → Remembers ns olds first kept before
    → IfSome (part_at ns n f) (λ p. Remembers after others first (with_field n f (resized m (filling h p) (list_at kept.roots (field_at kept.places n f))) kept) before)

-- another object leaves what is remembered
unfoldable pub ObjectRemembers : Nodes → List Old → ℕ → ℕ → ℕ → ℕ → Object ℕ → Nodes → List Old → Type 0
ObjectRemembers ns olds first n f i o after others =
    (kept before : Kept) → Remembers ns olds first kept before
    → IfSome (part_at ns n f) (λ p. Remembers after others first (record kept { roots = with_list_at (place_in kept p n f i) (plain o) kept.roots }) before)

-- the end of local nodes leaves what is remembered, in the first roots, among which are those of before
unfoldable pub CutRemembers : Nodes → List Old → ℕ → ℕ → Nodes → Type 0
CutRemembers ns olds first m after =
    first ≤ m → (kept before : Kept) → Remembers ns olds first kept before → (r : ℕ) → length before.roots ≤ r → ((k : ℕ) → k < m → IsRooted r (place_at kept.places k))
    → Remembers after olds first (record { roots = take r kept.roots; places = take m kept.places }) before
