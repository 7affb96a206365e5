-- The bindings of a `STOBJ-LET`, of which an index is kept by what the conditions ask of it.
use Rattle.std.specs.Prelude.{◌≤◌, List, ◌++◌, map, length, Option, option_map}
use Rattle.acl_base.specs.declared.SymId.{SymId}
use Rattle.acl_heap.specs.Objects.{Objects}
use Rattle.model_objects.specs.Object.{Integer}
use Rattle.model_terms.specs.Cores as cores
use Rattle.model_terms.specs.Nested as nested
use Rattle.acl_terms.specs.declared.form.Core.{Core}
use Rattle.acl_terms.specs.Forms.{core_reach, most}
use Rattle.acl_nest.specs.declared.bindings.ChildIndex.{ChildIndex}
use Rattle.acl_nest.specs.declared.bindings.ChildIndex.TheVariants as index
use Rattle.acl_nest.specs.declared.bindings.Reached.{Reached}
use Rattle.acl_nest.specs.declared.bindings.BoundChild.{BoundChild}
use Rattle.acl_nest.specs.Accessors.{seen_accessor}

-- ---- what is kept

-- a form that is no index at all
abbrev pub no_index : cores.Core
no_index = cores.Mv cores.none

-- variables and integers stay
abbrev pub plain : cores.Core → cores.Core
plain (cores.Var x) = cores.Var x
plain (cores.Const (Integer n)) = cores.Const (Integer n)
plain f = no_index

abbrev pub plain_reached : cores.Reached → cores.Reached
plain_reached r = record { accessor = r.accessor; index = option_map plain r.index; parent = r.parent }

abbrev pub plain_child : nested.BoundChild → nested.BoundChild
plain_child b = record { name = b.name; accessor = b.accessor; index = option_map plain b.index; parent = b.parent }

abbrev pub plain_children : Option (List nested.BoundChild) → Option (List nested.BoundChild)
plain_children bs = option_map (map plain_child) bs

-- ---- what the program's stand for

abbrev pub seen_index : ChildIndex → cores.Core
seen_index (index.Variable x) = cores.Var x.0
seen_index (index.Integer n) = cores.Const (Integer n)
seen_index index.Other = no_index

abbrev pub seen_reached : Reached → cores.Reached
seen_reached r = record { accessor = r.accessor.0; index = option_map seen_index r.index; parent = r.parent.0 }

abbrev pub seen_child : BoundChild → nested.BoundChild
seen_child b = record { name = b.name.0; accessor = seen_accessor b.accessor; index = option_map seen_index b.index; parent = b.parent.0 }

abbrev pub seen_children : List BoundChild → List nested.BoundChild
seen_children bs = map seen_child bs

-- what was found, and then what else there is, where it is there
abbrev pub found_then : List nested.BoundChild → Option (List nested.BoundChild) → Option (List nested.BoundChild)
found_then found rest = option_map (λ bs. found ++ bs) rest

-- ---- words

-- each word of the forms lies below the top of the heap
abbrev pub FormsLie : Objects → List Core → Type 0
FormsLie h fs = most (map core_reach fs) ≤ length h

abbrev pub BoundLie : Objects → List (SymId × Core) → Type 0
BoundLie h bs = most (map (λ (b : SymId × Core). core_reach b.1) bs) ≤ length h
