-- What the calls of a store are about, and what they make of the lists of its roots and of its places.
use Rattle.std.specs.Prelude.{◌≡◌, ℕ, ℤ, ◌<◌, List, Some, true, IsSomeAnd, IfSome}
use Rattle.acl_base.specs.declared.layout.Field.TheVariants as fields
use Rattle.acl_base.specs.declared.layout.Kind.{Kind}
use Rattle.acl_base.specs.declared.layout.Layout.{Layout}
use Rattle.acl_base.specs.declared.Word.{Word}
use Rattle.acl_heap.specs.Objects.{Objects, object_of, Lies}
use Rattle.model_objects.specs.Object.{Object}
use Rattle.model_lists.specs.Lists.{StobjList, size, resized}
use Rattle.model_eval.specs.PlacesKeeping.{Place, below, list_at, with_list_at}
use Rattle.acl_nodes.specs.Kept.{Kept, place_at, field_at, with_field}
use Rattle.acl_nodes.specs.Nodes.{Part, Node, part_at, layout_at, with_part}
use Rattle.acl_nodes.specs.Holding as nodes
use Rattle.acl_nodes.specs.Making.{IsCreated}
use Rattle.acl_nodes.specs.Cutting as cutting
use Rattle.acl_fields.specs.Fields.{Field, shown, integer, plain, IsSmall, number_of, IsElement, IsKept, with_element, IsHeld, with_held, IsSized, IsFilled, sized, filling, HasLength}
use Rattle.acl_fields.specs.Parts.{HasChild, path_in}
use Rattle.acl_fields.specs.Layouts.{AreBorn, Follow, field_in}

abbrev pub Nodes : Type 0
Nodes = List (Node Field)

-- the nodes hold these lists of roots, at these places
abbrev pub Holds : Nodes → Kept → Type 0
Holds ns kept = nodes.Holds shown ns kept

-- the place of an integer or of a child
abbrev pub place_in : Kept → Part Field → ℕ → ℕ → ℕ → Place
place_in kept p n f i = below (place_at kept.places n) (path_in p f i)

-- ---- what a call is about

abbrev pub IsInline : Nodes → ℕ → ℕ → ℕ → Type 0
IsInline ns n f i = IsSomeAnd (part_at ns n f) (λ p. IsElement p i)

-- the word is one of an integer that may stand in the field
abbrev pub IsWord : Nodes → ℕ → ℕ → Word → Type 0
IsWord ns n f w = IsSomeAnd (part_at ns n f) (λ p. IsSmall w × IsKept p (number_of w))

abbrev pub IsGeneral : Nodes → ℕ → ℕ → ℕ → Type 0
IsGeneral ns n f i = IsSomeAnd (part_at ns n f) (λ p. IsHeld p i)

-- an array, and what its elements begin as lies in the heap
abbrev pub IsArray : Objects → Nodes → ℕ → ℕ → Type 0
IsArray h ns n f = IsSomeAnd (part_at ns n f) (λ p. IsSized p × IsFilled h p)

abbrev pub IsMany : Nodes → ℕ → ℕ → Type 0
IsMany ns n f = IsSomeAnd (part_at ns n f) HasLength

abbrev pub IsParent : Nodes → ℕ → ℕ → ℕ → Type 0
IsParent ns n f i = IsSomeAnd (part_at ns n f) (λ p. HasChild p i)

-- ---- what comes of it, whatever the nodes hold

-- the integer at the place
abbrev pub Reads : Nodes → ℕ → ℕ → ℕ → Word → Type 0
Reads ns n f i w = IsSmall w × ((kept : Kept) → Holds ns kept → IfSome (part_at ns n f) (λ p. list_at kept.roots (place_in kept p n f i) ≡ integer (number_of w)))

-- the roots have the integer at the place
abbrev pub Writes : Nodes → ℕ → ℕ → ℕ → ℤ → Nodes → Type 0
Writes ns n f i v after =
    (kept : Kept) → Holds ns kept → IfSome (part_at ns n f) (λ p. Holds after (record kept { roots = with_list_at (place_in kept p n f i) (integer v) kept.roots }))

-- one integer of one field is another, and all else is as it was
abbrev pub IsPut : Nodes → ℕ → ℕ → ℕ → ℤ → Nodes → Type 0
IsPut ns n f i v after = IfSome (part_at ns n f) (λ p. after ≡ with_part n f (with_element p i v) ns)

-- the word is that of the object at the place, in a heap
abbrev pub ReadsObject : Nodes → ℕ → ℕ → ℕ → Objects → Word → Type 0
ReadsObject ns n f i h w = Lies h w × ((kept : Kept) → Holds ns kept → IfSome (part_at ns n f) (λ p. list_at kept.roots (place_in kept p n f i) ≡ plain (object_of h w)))

-- the roots have the object at the place
abbrev pub WritesObject : Nodes → ℕ → ℕ → ℕ → Object ℕ → Nodes → Type 0
WritesObject ns n f i o after =
    (kept : Kept) → Holds ns kept → IfSome (part_at ns n f) (λ p. Holds after (record kept { roots = with_list_at (place_in kept p n f i) (plain o) kept.roots }))

-- one object of one field is another, and all else is as it was
abbrev pub IsObjectPut : Nodes → ℕ → ℕ → ℕ → Object ℕ → Nodes → Type 0
IsObjectPut ns n f i o after = IfSome (part_at ns n f) (λ p. after ≡ with_part n f (with_held p i o) ns)

abbrev pub Measures : Nodes → ℕ → ℕ → ℕ → Type 0
Measures ns n f m = (kept : Kept) → Holds ns kept → size (list_at kept.roots (field_at kept.places n f)) ≡ m

-- the child is below the parent, and its place is that of the field, or of an item in it
abbrev pub Lends : Nodes → ℕ → ℕ → ℕ → ℕ → Type 0
Lends ns n f i c = (kept : Kept) → Holds ns kept → IfSome (part_at ns n f) (λ p. (place_at kept.places c ≡ place_in kept p n f i) × (c < n))

-- the roots have the array cut, or lengthened with what its elements began as
abbrev pub Resizes : Objects → Nodes → ℕ → ℕ → ℕ → Nodes → Type 0
Resizes h ns n f m after =
    (kept : Kept) → Holds ns kept → IfSome (part_at ns n f) (λ p. Holds after (with_field n f (resized m (filling h p) (list_at kept.roots (field_at kept.places n f))) kept))

-- one array has another length, and all else is as it was
abbrev pub IsSizedTo : Objects → Nodes → ℕ → ℕ → ℕ → Nodes → Type 0
IsSizedTo h ns n f m after = IfSome (part_at ns n f) (λ p. after ≡ with_part n f (sized h p m) ns)

-- the first places are left, and the roots that they are in, whichever more there are
abbrev pub Cuts : Nodes → ℕ → Nodes → Type 0
Cuts ns m after = cutting.Cuts shown ns m after

-- the new root's list comes last, whichever lists the layouts' objects begin as, and so do the places of its nodes, all in it
unfoldable pub Creates : Objects → List Layout → ℕ → Nodes → Nodes → ℕ → Type 0
Creates h layouts id ns after c = (lists : ℕ → StobjList ℕ) → AreBorn h layouts lists → (kept : Kept) → Holds ns kept → IsCreated shown kept (lists id) after c

-- ---- layouts

-- nodes that are as their layouts say stay so
unfoldable pub StayTyped : Nodes → Nodes → Type 0
StayTyped ns after = (layouts : List Layout) → Follow layouts ns → Follow layouts after

-- and so they do where the array is one that may be resized
unfoldable pub StayTypedIf : ℕ → ℕ → Nodes → Nodes → Type 0
StayTypedIf n f ns after = (layouts : List Layout) (kind : Kind) (w : Word) (m : ℕ) → field_in layouts (layout_at ns n) f ≡ Some (fields.Array kind w m true) → Follow layouts ns → Follow layouts after

-- the new node is of the layout
unfoldable pub IsTyped : List Layout → ℕ → Nodes → Nodes → ℕ → Type 0
IsTyped layouts id ns after c = Follow layouts ns → Follow layouts after × (layout_at after c ≡ id)
