-- The calls of a store as operations of objects in place, and what nodes stand for.
use Rattle.std.specs.Prelude.{◌≡◌, ◌≢◌, ℕ, ◌<◌, ◌^◌, List, length, Some, Bool}
use Rattle.acl_base.specs.declared.layout.Field.{Field as LayoutField}
use Rattle.acl_base.specs.declared.layout.Field.TheVariants as fields
use Rattle.acl_base.specs.declared.layout.Kind.{Kind}
use Rattle.acl_base.specs.declared.layout.Kind.TheVariants.{General}
use Rattle.acl_base.specs.declared.layout.Layout.{Layout}
use Rattle.acl_base.specs.declared.layout.Test.{Test}
use Rattle.acl_base.specs.declared.LayoutId.{LayoutId}
use Rattle.acl_base.specs.declared.Word.{Word}
use Rattle.acl_heap.specs.Objects.{Objects}
use Rattle.model_lists.specs.Lists.{StobjList, size, item, with_item}
use Rattle.model_lists.specs.Normal.{canonical}
use Rattle.model_eval.specs.PlacesKeeping.{Places, Journal, place_of, list_at, with_list_at, places_keeping}
use Rattle.acl_nodes.specs.Kept.{Kept, place_at, field_at}
use Rattle.acl_nodes.specs.Nodes.{Part, Own, Child, Children, part_at, layout_at}
use Rattle.acl_nodes.specs.Seen.{seen}
use Rattle.acl_fields.specs.Fields.{Field, One, Many, Any, Anys, Table, list_of, HasValue, IsSmall, InRange, number_of}
use Rattle.acl_fields.specs.Layouts.{AreLayouts, Follow, field_in}
use Rattle.acl_store.specs.Calls.{Nodes, Holds, place_in, IsInline, IsWord, IsGeneral, IsArray, IsMany, IsParent}
use Rattle.acl_store.specs.Tables.{IsHash}

-- whatever the nodes hold, the list at a node's place is the one that the node stands for, through its children, but for the
-- order of pairs and for pairs that no key finds
abbrev pub NodesStand : Type 0
NodesStand = (ns : Nodes) (kept : Kept) → Holds ns kept → (k : ℕ) → k < length ns → canonical (list_at kept.roots (place_at kept.places k)) ≡ canonical (seen list_of ns k)

-- the list of an object with another value in a field
abbrev pub updated : Part Field → ℕ → ℕ → StobjList ℕ → StobjList ℕ → StobjList ℕ
updated (Own (One v)) f i x l = with_item f x l
updated (Own (Many kind initial vs)) f i x l = with_item f (with_item i x (item f l)) l
updated (Own (Any o)) f i x l = with_item f x l
updated (Own (Anys initial os)) f i x l = with_item f (with_item i x (item f l)) l
updated (Own (Table cs)) f i x l = l
updated (Child c) f i x l = l
updated (Children cs) f i x l = l

-- an object in scope at the node's place is written as an update of its list
abbrev pub WritesAreUpdates : Type 0
WritesAreUpdates =
    (ns : Nodes) (kept : Kept) → Holds ns kept → (n f i : ℕ) (p : Part Field) (v : StobjList ℕ) → part_at ns n f ≡ Some p → HasValue p i
    → (scope : Places) (journal : Journal ℕ) (x : ℕ) → place_of scope x ≡ place_at kept.places n
    → with_list_at (place_in kept p n f i) v kept.roots
    ≡ (places_keeping.write x (updated p f i v (places_keeping.read (record { scope = scope; roots = kept.roots; journal = journal }) x)) (record { scope = scope; roots = kept.roots; journal = journal })).roots

-- ---- from a layout to what a call asks for

-- the node has this field, by its layout
abbrev pub HasField : List Layout → Nodes → ℕ → ℕ → LayoutField → Type 0
HasField layouts ns n f field = (n < length ns) × (field_in layouts (layout_at ns n) f ≡ Some field)

-- nodes that are as their layouts say are such as the calls ask for; in an array, below its length
pub record LayoutsTell : Type 0 where
  pub inline : (layouts : List Layout) (ns : Nodes) (n f : ℕ) (kind : Kind) (w : Word) → Follow layouts ns → HasField layouts ns n f (fields.Scalar kind w) → kind ≢ General → IsInline ns n f 0
  pub word : (layouts : List Layout) (ns : Nodes) (n f : ℕ) (kind : Kind) (w v : Word) → Follow layouts ns → HasField layouts ns n f (fields.Scalar kind w) → kind ≢ General → IsSmall v → IsWord ns n f v
  pub general : (layouts : List Layout) (ns : Nodes) (n f : ℕ) (w : Word) → Follow layouts ns → HasField layouts ns n f (fields.Scalar General w) → IsGeneral ns n f 0
  pub elements : (layouts : List Layout) (ns : Nodes) (n f i : ℕ) (kind : Kind) (w : Word) (m : ℕ) (resizable : Bool) (kept : Kept) → Follow layouts ns → HasField layouts ns n f (fields.Array kind w m resizable)
      → Holds ns kept → kind ≢ General → i < size (list_at kept.roots (field_at kept.places n f)) → IsInline ns n f i
  pub fits : (layouts : List Layout) (ns : Nodes) (n f : ℕ) (kind : Kind) (w : Word) (m : ℕ) (resizable : Bool) (v : Word) → Follow layouts ns → HasField layouts ns n f (fields.Array kind w m resizable)
      → kind ≢ General → IsSmall v → InRange kind (number_of v) → IsWord ns n f v
  pub objects : (layouts : List Layout) (ns : Nodes) (n f i : ℕ) (w : Word) (m : ℕ) (resizable : Bool) (kept : Kept) → Follow layouts ns → HasField layouts ns n f (fields.Array General w m resizable)
      → Holds ns kept → i < size (list_at kept.roots (field_at kept.places n f)) → IsGeneral ns n f i
  pub array : (h : Objects) (layouts : List Layout) (ns : Nodes) (n f : ℕ) (kind : Kind) (w : Word) (m : ℕ) (resizable : Bool) → AreLayouts h layouts → Follow layouts ns → HasField layouts ns n f (fields.Array kind w m resizable)
      → IsArray h ns n f
  pub many : (layouts : List Layout) (ns : Nodes) (n f : ℕ) (kind : Kind) (w : Word) (m : ℕ) (resizable : Bool) → Follow layouts ns → HasField layouts ns n f (fields.Array kind w m resizable) → IsMany ns n f
  pub hash : (layouts : List Layout) (ns : Nodes) (n f : ℕ) (test : Test) → Follow layouts ns → HasField layouts ns n f (fields.Hash test) → IsHash ns n f
  pub child : (layouts : List Layout) (ns : Nodes) (n f : ℕ) (c : LayoutId) → Follow layouts ns → HasField layouts ns n f (fields.Child c) → IsParent ns n f 0
  pub children : (layouts : List Layout) (ns : Nodes) (n f i : ℕ) (c : LayoutId) (m : ℕ) → Follow layouts ns → HasField layouts ns n f (fields.Children c m) → i < m → IsParent ns n f i
  pub lengths : (layouts : List Layout) (ns : Nodes) (n f : ℕ) (c : LayoutId) (m : ℕ) → Follow layouts ns → HasField layouts ns n f (fields.Children c m) → m < 2 ^ 32 → IsMany ns n f
