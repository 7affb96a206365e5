-- The parts of a form that are open, with the words that they hold.
use Rattle.std.specs.Prelude.{◌≡◌, ℕ, ◌+◌, ◌<◌, List, [], ◌∷◌, length, map}
use Rattle.model_objects.specs.Object.{weight}
use Rattle.model_symbols.specs.Symbols.{Table}
use Rattle.model_text.specs.Backquote as backquote
use Rattle.model_text.specs.Backquote.{item_form}
use Rattle.model_text.specs.Parts as parts
use Rattle.model_text.specs.Parts.{Part, Put, Parts, Whole, Bad}
use Rattle.acl_heap.specs.Objects.{Objects}
use Rattle.acl_forms.specs.Forms.{form_at, IsWhole, Grown}
use Rattle.acl_base.specs.declared.Word.{Word}
use Rattle.acl_read_build.specs.declared.Item.{Item}
use Rattle.acl_read_build.specs.declared.Item.TheVariants.{Plain, Made, Spliced}
use Rattle.acl_read_build.specs.declared.Slot.{Slot}
use Rattle.acl_read_build.specs.declared.Slot.TheVariants.{Quoted, Backquoted, Unquoted, Splicing, Opened, Dotted, Ended}

abbrev pub item_at : Table → Objects → Item → backquote.Item
item_at t h (Plain w) = backquote.Plain (form_at t h w)
item_at t h (Made w) = backquote.Made (form_at t h w)
item_at t h (Spliced w) = backquote.Spliced (form_at t h w)

abbrev pub items_at : Table → Objects → List Item → List backquote.Item
items_at t h is = map (item_at t h) is

abbrev pub part_at : Table → Objects → Slot → Part
part_at t h Quoted = parts.Quoted
part_at t h Backquoted = parts.Backquoted
part_at t h Unquoted = parts.Unquoted
part_at t h Splicing = parts.Splicing
part_at t h (Opened is) = parts.Opened (items_at t h is.items)
part_at t h (Dotted is d) = parts.Dotted (items_at t h is.items) d
part_at t h (Ended is d i) = parts.Ended (items_at t h is.items) d (item_at t h i)

-- the parts, the innermost first, where the code has it last
abbrev pub parts_onto : Table → Objects → List Part → List Slot → List Part
parts_onto t h ps [] = ps
parts_onto t h ps (s ∷ ss) = parts_onto t h (part_at t h s ∷ ps) ss

abbrev pub parts_at : Table → Objects → List Slot → List Part
parts_at t h ss = parts_onto t h [] ss

-- ---- words that lie in the heap, and whose symbols are known

abbrev pub IsWholeItem : Table → Objects → Item → Type 0
IsWholeItem t h (Plain w) = IsWhole t h w
IsWholeItem t h (Made w) = IsWhole t h w
IsWholeItem t h (Spliced w) = IsWhole t h w

abbrev pub AreWholeItems : Table → Objects → List Item → Type 0
AreWholeItems t h [] = Unit {0}
AreWholeItems t h (i ∷ is) = IsWholeItem t h i × AreWholeItems t h is

abbrev pub IsWholeSlot : Table → Objects → Slot → Type 0
IsWholeSlot t h Quoted = Unit {0}
IsWholeSlot t h Backquoted = Unit {0}
IsWholeSlot t h Unquoted = Unit {0}
IsWholeSlot t h Splicing = Unit {0}
IsWholeSlot t h (Opened is) = AreWholeItems t h is.items
IsWholeSlot t h (Dotted is d) = AreWholeItems t h is.items
IsWholeSlot t h (Ended is d i) = AreWholeItems t h is.items × IsWholeItem t h i

abbrev pub AreWholeSlots : Table → Objects → List Slot → Type 0
AreWholeSlots t h [] = Unit {0}
AreWholeSlots t h (s ∷ ss) = IsWholeSlot t h s × AreWholeSlots t h ss

-- the heap has grown: what words, items and slots stood for, they stand for
pub record Grows (t : Table) (h h' : Objects) : Type 0 where
  pub grown : Grown t t h h'
  pub whole : (w : Word) → IsWhole t h w → IsWhole t h' w
  pub form : (w : Word) → IsWhole t h w → form_at t h' w ≡ form_at t h w
  pub item : (i : Item) → IsWholeItem t h i → IsWholeItem t h' i
  pub same_item : (i : Item) → IsWholeItem t h i → item_at t h' i ≡ item_at t h i
  pub items : (is : List Item) → AreWholeItems t h is → AreWholeItems t h' is
  pub same_items : (is : List Item) → AreWholeItems t h is → items_at t h' is ≡ items_at t h is
  pub slots : (ss : List Slot) → AreWholeSlots t h ss → AreWholeSlots t h' ss
  pub same_parts : (ss : List Slot) → AreWholeSlots t h ss → parts_at t h' ss ≡ parts_at t h ss

-- ---- weights

abbrev pub items_weight : List backquote.Item → ℕ
items_weight [] = 0
items_weight (i ∷ is) = weight (item_form i) + items_weight is

abbrev pub part_weight : Part → ℕ
part_weight parts.Quoted = 0
part_weight parts.Backquoted = 0
part_weight parts.Unquoted = 0
part_weight parts.Splicing = 0
part_weight (parts.Opened is) = items_weight is
part_weight (parts.Dotted is d) = items_weight is
part_weight (parts.Ended is d i) = items_weight is + weight (item_form i)

abbrev pub parts_weight : List Part → ℕ
parts_weight [] = 0
parts_weight (p ∷ ps) = part_weight p + parts_weight ps

-- the weight of all that is held
abbrev pub put_weight : Put → ℕ
put_weight (Parts ps) = parts_weight ps
put_weight (Whole f) = weight f
put_weight (Bad c n) = 0

-- the lexeme may stand here
abbrev pub IsGood : Put → Type 0
IsGood (Parts ps) = Unit {0}
IsGood (Whole f) = Unit {0}
IsGood (Bad c n) = ⊥

-- the slot at the end was taken off
pub record Popped (t : Table) (h : Objects) (all ss : List Slot) (s : Slot) : Type 0 where
  pub parts : parts_at t h all ≡ part_at t h s ∷ parts_at t h ss
  pub rest : AreWholeSlots t h ss
  pub top : IsWholeSlot t h s
  pub fewer : length ss < length all

-- a slot was put on the end
pub record Pushed (t : Table) (h : Objects) (old new : List Slot) (s : Slot) : Type 0 where
  pub parts : parts_at t h new ≡ part_at t h s ∷ parts_at t h old
  pub slots : AreWholeSlots t h new
