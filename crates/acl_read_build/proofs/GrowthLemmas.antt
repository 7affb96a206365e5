-- What words, items and slots stand for stays when the heap grows.
use Rattle.std.specs.Prelude.{◌≡◌, ℕ, ◌+◌, ◌<◌, ◌≤◌, List, [], ◌∷◌, length, refl}
use Rattle.std.proofs.Common.{sym, ap, ◌∙◌, arith, subst}
use Rattle.std.proofs.lemmas.Option.{slice_get_within}
use Rattle.model_objects.specs.Object.{Object, Integer, Symbol, Text, Pair, weight, max_weight}
use Rattle.model_objects.specs.Named.{Knows}
use Rattle.model_objects.proofs.NamedLemmas.{weight-named}
use Rattle.model_symbols.specs.Symbols.{QualifiedName, Table, symbol_at, form_of}
use Rattle.model_symbols.specs.Growth.{IsSymbol}
use Rattle.model_symbols.proofs.NameLemmas.{symbol_at-is}
use Rattle.model_text.specs.Parts.{Part}
use Rattle.acl_base.specs.declared.Word.{Word}
use Rattle.acl_base.specs.declared.Word.TheVariants.{Small, Big, Sym, Str, Cons}
use Rattle.acl_heap.specs.Objects as heaps
use Rattle.acl_heap.specs.Objects.{Objects, object_of, Denotes}
use Rattle.acl_forms.specs.Forms.{form_at, IsWhole, StandsFor, Grown}
use Rattle.acl_forms.specs.Growth.{Grown-heap, Grown-then, Grown-self}
use Rattle.acl_read_build.specs.declared.Item.{Item}
use Rattle.acl_read_build.specs.declared.Item.TheVariants.{Plain, Made, Spliced}
use Rattle.acl_read_build.specs.declared.Slot.{Slot}
use Rattle.acl_read_build.specs.declared.Slot.TheVariants.{Quoted, Backquoted, Unquoted, Splicing, Opened, Dotted, Ended}
use Rattle.acl_read_build.specs.Slots.{item_at, items_at, part_at, parts_onto, IsWholeItem, AreWholeItems, IsWholeSlot, AreWholeSlots, Grows}

module _ {t : Table} {h h' : Objects} (g : Grown t t h h') where
  item_later : (i : Item) → IsWholeItem t h i → IsWholeItem t h' i
  item_later (Plain w) k = g.whole w k
  item_later (Made w) k = g.whole w k
  item_later (Spliced w) k = g.whole w k

  same_item : (i : Item) → IsWholeItem t h i → item_at t h' i ≡ item_at t h i
  same_item (Plain w) k = rw (g.form w k) refl
  same_item (Made w) k = rw (g.form w k) refl
  same_item (Spliced w) k = rw (g.form w k) refl

  items_later : (is : List Item) → AreWholeItems t h is → AreWholeItems t h' is
  items_later [] k = tt
  items_later (i ∷ is) k = (item_later i k.0, items_later is k.1)

  same_items : (is : List Item) → AreWholeItems t h is → items_at t h' is ≡ items_at t h is
  same_items [] k = refl
  same_items (i ∷ is) k = rw (same_item i k.0, same_items is k.1) refl

  slot_later : (s : Slot) → IsWholeSlot t h s → IsWholeSlot t h' s
  slot_later Quoted k = tt
  slot_later Backquoted k = tt
  slot_later Unquoted k = tt
  slot_later Splicing k = tt
  slot_later (Opened is) k = items_later is.items k
  slot_later (Dotted is d) k = items_later is.items k
  slot_later (Ended is d i) k = (items_later is.items k.0, item_later i k.1)

  same_part : (s : Slot) → IsWholeSlot t h s → part_at t h' s ≡ part_at t h s
  same_part Quoted k = refl
  same_part Backquoted k = refl
  same_part Unquoted k = refl
  same_part Splicing k = refl
  same_part (Opened is) k = rw (same_items is.items k) refl
  same_part (Dotted is d) k = rw (same_items is.items k) refl
  same_part (Ended is d i) k = rw (same_items is.items k.0, same_item i k.1) refl

  slots_later : (ss : List Slot) → AreWholeSlots t h ss → AreWholeSlots t h' ss
  slots_later [] k = tt
  slots_later (s ∷ ss) k = (slot_later s k.0, slots_later ss k.1)

  same_onto : (ps : List Part) (ss : List Slot) → AreWholeSlots t h ss → parts_onto t h' ps ss ≡ parts_onto t h ps ss
  same_onto ps [] k = refl
  same_onto ps (s ∷ ss) k = same_onto (part_at t h' s ∷ ps) ss k.1 ∙ ap (λ (p : Part). parts_onto t h (p ∷ ps) ss) (same_part s k.0)

  Grows-grown : Grows t h h'
  Grows-grown = record {
    grown = g;
    whole = g.whole;
    form = g.form;
    item = item_later;
    same_item = same_item;
    items = items_later;
    same_items = same_items;
    slots = slots_later;
    same_parts = same_onto [];
  }

pub grown : {t : Table} {h h' : Objects} → heaps.Extends h h' → Grows t h h'
grown e = Grows-grown (Grown-heap e)

pub Grows-self : (t : Table) (h : Objects) → Grows t h h
Grows-self t h = Grows-grown (Grown-self t h)

pub Grows-then : {t : Table} {a b c : Objects} → Grows t a b → Grows t b c → Grows t a c
Grows-then f g = Grows-grown (Grown-then f.grown g.grown)

-- ---- words

-- the word of a symbol
pub named : (t : Table) (h : Objects) (n : ℕ) (q : QualifiedName) → IsSymbol t.symbols n q → StandsFor t h (Sym (record { 0 = n })) (Symbol q)
named t h n q i = record { whole = record { lies = omega arith; known = slice_get_within t.symbols n q i }; is = ap Symbol (symbol_at-is t.symbols n q i) }

-- the word of a pair
pub paired : (t : Table) (h h' : Objects) (a d w : Word) → IsWhole t h a → IsWhole t h d → heaps.Extends h h' → Denotes h' w (Pair (object_of h a) (object_of h d))
    → StandsFor t h' w (Pair (form_at t h a) (form_at t h d))
paired t h h' a d w i j e p = record {
  whole = record { lies = p.lies; known = subst (λ (o : Object ℕ). Knows (length t.symbols) o) (sym p.is) (i.known, j.known) };
  is = ap (form_of t.symbols) p.is;
}

pub form_weight : (t : Table) (h : Objects) (w : Word) → weight (form_at t h w) ≡ weight (object_of h w)
form_weight t h w = weight-named (symbol_at t.symbols) (object_of h w)

pub refused_pair : (t : Table) (h : Objects) (a d : Word) → max_weight < weight (Pair (object_of h a) (object_of h d)) → max_weight < 1 + (weight (form_at t h a) + weight (form_at t h d))
refused_pair t h a d l = omega (arith, form_weight t h a, form_weight t h d, l)

pub unmoved : (t : Table) {h h' : Objects} → h' ≡ h → Grows t h h'
unmoved t {h} {h'} e = subst (λ (x : Objects). Grows t h x) (sym e) (Grows-self t h)

-- no object of a heap is too heavy
light : (o : Object ℕ) → heaps.IsCellObject o → weight o ≤ max_weight
light (Integer n) k = omega arith
light (Symbol s) k = omega arith
light (Text bytes) k = omega (arith, k)
light (Pair a d) k = omega (arith, k)

word_light : (h : Objects) (w : Word) → heaps.IsHeap h → heaps.Lies h w → weight (object_of h w) ≤ max_weight
word_light h (Small n) k l = omega arith
word_light h (Big n) k l = light (object_of h (Big n)) (k.cell n (omega arith))
word_light h (Sym s) k l = omega arith
word_light h (Str n) k l = light (object_of h (Str n)) (k.cell n (omega arith))
word_light h (Cons n) k l = light (object_of h (Cons n)) (k.cell n (omega arith))

pub not_heavy : (t : Table) (h : Objects) (w : Word) (f : Object QualifiedName) → StandsFor t h w f → heaps.IsHeap h → weight f ≤ max_weight
not_heavy t h w f s k = omega (arith, ap weight s.is, form_weight t h w, word_light h w k s.whole.lies)
