-- What is pushed for a layout, whatever lists the layouts' objects begin as.
use Rattle.std.specs.Prelude.{◌≡◌, ℕ, List, map, length, replicate, slice_get, Some}
use Rattle.acl_base.specs.declared.layout.Kind.{Kind}
use Rattle.acl_base.specs.declared.layout.Kind.TheVariants.{Byte, I32, I64, General}
use Rattle.acl_base.specs.declared.Word.{Word}
use Rattle.acl_base.specs.declared.layout.Field.{Field}
use Rattle.acl_base.specs.declared.layout.Layout.{Layout}
use Rattle.acl_heap.specs.Objects.{Objects, object_of}
use Rattle.model_lists.specs.Lists.{StobjList}
use Rattle.acl_nodes.specs.Nodes.{Part, Own, Child, Node}
use Rattle.acl_nodes.specs.Making.{MakesNode, MakesPart, MakesParts, Extends}
use Rattle.acl_fields.specs.Fields as kept
use Rattle.acl_fields.specs.Fields.{One, Many, Any, Anys, shown, number_of}
use Rattle.acl_fields.specs.Layouts.{AreBorn, born, Follow, Matches, IsOlder}

-- a scalar field of the kind, and an array
abbrev pub one_of : Objects → Kind → Word → Part kept.Field
one_of h Byte w = Own (One (number_of w))
one_of h I32 w = Own (One (number_of w))
one_of h I64 w = Own (One (number_of w))
one_of h General w = Own (Any (object_of h w))

abbrev pub many_of : Objects → Kind → Word → ℕ → Part kept.Field
many_of h Byte w n = Own (Many Byte (number_of w) (replicate n (number_of w)))
many_of h I32 w n = Own (Many I32 (number_of w) (replicate n (number_of w)))
many_of h I64 w n = Own (Many I64 (number_of w) (replicate n (number_of w)))
many_of h General w n = Own (Anys w (replicate n (object_of h w)))

-- a node
pub record NodeFor (h : Objects) (layouts : List Layout) (id : ℕ) (nodes after : List (Node kept.Field)) (c : ℕ) : Type 0 where
  pub grows : Extends nodes after
  pub makes : (lists : ℕ → StobjList ℕ) → AreBorn h layouts lists → MakesNode shown (lists id) nodes after c
  pub follows : Follow layouts nodes → Follow layouts after × IsOlder after (length after) id c

-- a field
pub record PartFor (h : Objects) (layouts : List Layout) (field : Field) (nodes after : List (Node kept.Field)) (part : Part kept.Field) : Type 0 where
  pub grows : Extends nodes after
  pub makes : (lists : ℕ → StobjList ℕ) → AreBorn h layouts lists → MakesPart shown (born h lists field) nodes after part
  pub follows : Follow layouts nodes → Follow layouts after × Matches after (length after) field part

abbrev pub AllMatch : List (Node kept.Field) → List Field → List (Part kept.Field) → Type 0
AllMatch after fields made = (f : ℕ) (part : Part kept.Field) → slice_get made f ≡ Some part → (field : Field) × (slice_get fields f ≡ Some field) × Matches after (length after) field part

-- the first fields of so many
pub record PartsFor (h : Objects) (layouts : List Layout) (fields : List Field) (nodes after : List (Node kept.Field)) (made : List (Part kept.Field)) : Type 0 where
  pub grows : Extends nodes after
  pub makes : (lists : ℕ → StobjList ℕ) → AreBorn h layouts lists → MakesParts shown (map (born h lists) fields) nodes after made
  pub follows : Follow layouts nodes → Follow layouts after × AllMatch after fields made

-- the first children of so many
pub record ChildrenFor (h : Objects) (layouts : List Layout) (id n : ℕ) (nodes after : List (Node kept.Field)) (made : List ℕ) : Type 0 where
  pub grows : Extends nodes after
  pub makes : (lists : ℕ → StobjList ℕ) → AreBorn h layouts lists → MakesParts shown (replicate n (lists id)) nodes after (map Child made)
  pub follows : Follow layouts nodes → Follow layouts after × ((i c : ℕ) → slice_get made i ≡ Some c → IsOlder after (length after) id c)
