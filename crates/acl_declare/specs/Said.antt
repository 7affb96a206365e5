-- What declarations say, as the program's stands for the definitions' in a heap.
use Rattle.std.specs.Prelude.{◌≡◌, ℕ, ◌≤◌, List, [], ◌∷◌, length, map, Option, Some, None, option_map, option_and_then}
use Rattle.model_objects.specs.Object.{Object}
use Rattle.model_symbols.specs.Symbols.{QualifiedName}
use Rattle.model_expansion.specs.Forms.{each}
use Rattle.model_expansion.specs.Layers as layers
use Rattle.model_events.specs.Declarations as model
use Rattle.model_events.specs.Declarations.{both_declared, declared_formal, type_items, items_of_all}
use Rattle.acl_base.specs.declared.Word.{Word}
use Rattle.acl_heap.specs.Objects.{Objects, object_of, reach}
use Rattle.acl_terms.specs.Forms.{seen_core, core_reach, most, numbers}
use Rattle.acl_declare.specs.declared.said.GuardItem.{GuardItem}
use Rattle.acl_declare.specs.declared.said.GuardItem.TheVariants as item
use Rattle.acl_declare.specs.declared.said.Declared.{Declared}

abbrev pub seen_item : Objects → GuardItem → layers.GuardItem
seen_item h (item.FormHolds w) = layers.FormHolds (object_of h w)
seen_item h (item.Meets f) = layers.Meets (seen_core h f)

abbrev pub seen_items : Objects → List GuardItem → List layers.GuardItem
seen_items h gs = map (seen_item h) gs

abbrev pub item_reach : GuardItem → ℕ
item_reach (item.FormHolds w) = reach w
item_reach (item.Meets f) = core_reach f

abbrev pub items_reach : List GuardItem → ℕ
items_reach gs = most (map item_reach gs)

abbrev pub seen_declared : Objects → Declared → model.Declared
seen_declared h d = record { guards = seen_items h d.guards; stobjs = numbers d.stobjs }

-- how many cells a heap has at least in which all words lie
abbrev pub declared_reach : Declared → ℕ
declared_reach d = items_reach d.guards

-- what is said, and its words lie in the heap
abbrev pub SeenDeclared : Objects → Option Declared → Option model.Declared → Type 0
SeenDeclared h None o = o ≡ None
SeenDeclared h (Some d) o = (o ≡ Some (seen_declared h d)) × (declared_reach d ≤ length h)

abbrev pub asks : layers.GuardItem → model.Declared
asks g = record { guards = g ∷ []; stobjs = [] }

abbrev pub names_stobjs : List ℕ → model.Declared
names_stobjs xs = record { guards = []; stobjs = xs }

abbrev pub asks_all : List layers.GuardItem → model.Declared
asks_all gs = record { guards = gs; stobjs = [] }

-- that formals meet a type
abbrev pub typed_all : List QualifiedName → Object ℕ → List ℕ → Option model.Declared
typed_all symbols t xs = option_map (items_of_all symbols) (each (type_items symbols t) xs)

-- that the formals along a list do
abbrev pub typed_along : List QualifiedName → List ℕ → Object ℕ → List (Object ℕ) → Option model.Declared
typed_along symbols formals t os = option_and_then (typed_all symbols t) (each (declared_formal symbols formals) os)

-- what is said behind what was said
abbrev pub after_said : model.Declared → Option model.Declared → Option model.Declared
after_said a None = None
after_said a (Some d) = Some (both_declared a d)

-- the objects of words
abbrev pub words_at : Objects → List Word → List (Object ℕ)
words_at h ws = map (object_of h) ws

abbrev pub words_reach : List Word → ℕ
words_reach ws = most (map reach ws)
