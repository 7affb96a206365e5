-- Layouts: which of them a store keeps, what a new object begins as, and that nodes are as their layouts say.
use Rattle.std.specs.Prelude.{◌≡◌, ◌≢◌, ℕ, zero, suc, ◌<◌, ◌^◌, List, [], ◌∷◌, map, length, replicate, slice_get, Option, Some, None, IsSome, Bool, false}
use Rattle.acl_base.specs.declared.layout.Field.{Field}
use Rattle.acl_base.specs.declared.layout.Field.TheVariants as fields
use Rattle.acl_base.specs.declared.layout.Kind.{Kind}
use Rattle.acl_base.specs.declared.layout.Kind.TheVariants.{Byte, I32, I64, General}
use Rattle.acl_base.specs.declared.layout.Layout.{Layout}
use Rattle.acl_base.specs.declared.Word.{Word}
use Rattle.acl_heap.specs.Objects.{Objects, object_of, Lies}
use Rattle.model_lists.specs.Lists.{StobjList, Value, Pairs}
use Rattle.acl_nodes.specs.Kept.{items_of}
use Rattle.acl_nodes.specs.Nodes.{Part, Own, Child, Children, Node, part_at, width, layout_at}
use Rattle.acl_fields.specs.Fields as kept
use Rattle.acl_fields.specs.Fields.{One, Many, Any, Anys, Table, IsSmall, InRange, number_of, table_in}

-- the word may be what a field of the kind begins as
abbrev pub IsInitial : Objects → Kind → Word → Type 0
IsInitial h Byte w = IsSmall w × InRange Byte (number_of w)
IsInitial h I32 w = IsSmall w × InRange I32 (number_of w)
IsInitial h I64 w = IsSmall w × InRange I64 (number_of w)
IsInitial h General w = Lies h w

-- a field that a store keeps, in the layout of this number: its children have layouts of smaller numbers, its elements begin as
-- what is of its kind
abbrev pub IsField : Objects → ℕ → Field → Type 0
IsField h k (fields.Scalar kind w) = IsInitial h kind w
IsField h k (fields.Array kind w n resizable) = IsInitial h kind w
IsField h k (fields.Hash test) = Unit {0}
IsField h k (fields.Child c) = c.0 < k
IsField h k (fields.Children c n) = c.0 < k

-- the layouts of which a store keeps objects
abbrev pub AreLayouts : Objects → List Layout → Type 0
AreLayouts h layouts = (k g : ℕ) (layout : Layout) (field : Field) → slice_get layouts k ≡ Some layout → slice_get layout.fields.items g ≡ Some field → IsField h k field

-- ---- new objects

-- the list that a field begins as, by those of the layouts
abbrev pub born : Objects → (ℕ → StobjList ℕ) → Field → StobjList ℕ
born h lists (fields.Scalar kind w) = Value (object_of h w)
born h lists (fields.Array kind w n resizable) = items_of (replicate n (Value (object_of h w)))
born h lists (fields.Hash test) = Pairs []
born h lists (fields.Child c) = lists c.0
born h lists (fields.Children c n) = items_of (replicate n (lists c.0))

-- these are the lists that the layouts' objects begin as
abbrev pub AreBorn : Objects → List Layout → (ℕ → StobjList ℕ) → Type 0
AreBorn h layouts lists = (k : ℕ) (layout : Layout) → slice_get layouts k ≡ Some layout → lists k ≡ items_of (map (born h lists) layout.fields.items)

-- ---- nodes of layouts

-- the field of a layout, both by their numbers
abbrev pub field_in : List Layout → ℕ → ℕ → Option Field
field_in [] k f = None
field_in (layout ∷ layouts) zero f = slice_get layout.fields.items f
field_in (layout ∷ layouts) (suc k) f = field_in layouts k f

-- the number of fields of a layout
abbrev pub size_in : List Layout → ℕ → Option ℕ
size_in [] k = None
size_in (layout ∷ layouts) zero = Some (length layout.fields.items)
size_in (layout ∷ layouts) (suc k) = size_in layouts k

-- an integer, or an object of any kind where the kind is the general one
abbrev pub IsOne : Kind → Part kept.Field → Type 0
IsOne kind (Own (One v)) = kind ≢ General
IsOne kind (Own (Many k initial vs)) = ⊥
IsOne kind (Own (Any o)) = kind ≡ General
IsOne kind (Own (Anys initial os)) = ⊥
IsOne kind (Own (Table cs)) = ⊥
IsOne kind (Child c) = ⊥
IsOne kind (Children cs) = ⊥

-- an array of the kind with less than 2^32 elements; of n where it may not be resized
abbrev pub IsArray : Kind → Word → ℕ → Bool → Part kept.Field → Type 0
IsArray kind w n resizable (Own (One v)) = ⊥
IsArray kind w n resizable (Own (Many k initial vs)) = (k ≡ kind) × (initial ≡ number_of w) × (length vs < 2 ^ 32) × (resizable ≡ false → length vs ≡ n) × (kind ≢ General)
IsArray kind w n resizable (Own (Any o)) = ⊥
IsArray kind w n resizable (Own (Anys initial os)) = (kind ≡ General) × (initial ≡ w) × (length os < 2 ^ 32) × (resizable ≡ false → length os ≡ n)
IsArray kind w n resizable (Own (Table cs)) = ⊥
IsArray kind w n resizable (Child c) = ⊥
IsArray kind w n resizable (Children cs) = ⊥

-- an older node of the layout
abbrev pub IsOlder : List (Node kept.Field) → ℕ → ℕ → ℕ → Type 0
IsOlder nodes k id c = (c < k) × (layout_at nodes c ≡ id)

abbrev pub IsStobj : List (Node kept.Field) → ℕ → ℕ → Part kept.Field → Type 0
IsStobj nodes k id (Own o) = ⊥
IsStobj nodes k id (Child c) = IsOlder nodes k id c
IsStobj nodes k id (Children cs) = ⊥

abbrev pub AreObjects : List (Node kept.Field) → ℕ → ℕ → ℕ → Part kept.Field → Type 0
AreObjects nodes k id n (Own o) = ⊥
AreObjects nodes k id n (Child c) = ⊥
AreObjects nodes k id n (Children cs) = (length cs ≡ n) × ((i c : ℕ) → slice_get cs i ≡ Some c → IsOlder nodes k id c)

-- a part of the node of number k is as the field of its layout says
abbrev pub Matches : List (Node kept.Field) → ℕ → Field → Part kept.Field → Type 0
Matches nodes k (fields.Scalar kind w) part = IsOne kind part
Matches nodes k (fields.Array kind w n resizable) part = IsArray kind w n resizable part
Matches nodes k (fields.Hash test) part = IsSome (table_in part)
Matches nodes k (fields.Child c) part = IsStobj nodes k c.0 part
Matches nodes k (fields.Children c n) part = AreObjects nodes k c.0 n part

-- each node has the fields of its layout
pub record Follow (layouts : List Layout) (nodes : List (Node kept.Field)) : Type 0 where
  pub sizes : (k : ℕ) → k < length nodes → size_in layouts (layout_at nodes k) ≡ Some (width nodes k)
  pub fields : (k f : ℕ) (part : Part kept.Field) → part_at nodes k f ≡ Some part
      → (field : Field) × (field_in layouts (layout_at nodes k) f ≡ Some field) × Matches nodes k field part
