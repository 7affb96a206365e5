-- The ends of an expansion, as the definitions see them.
use Rattle.std.specs.Prelude.{◌≡◌, ◌≢◌, ℕ, ◌≤◌, List, map, length, Result, Ok, Err}
use Rattle.std.specs.Global.{Vec}
use Rattle.model_terms.specs.Cores as cores
use Rattle.model_expansion.specs.Layers as layers
use Rattle.model_expansion.specs.Expansion as expansion
use Rattle.model_expansion_forms.specs.Nodes.{AllNodes, HasConstant, IsBelow}
use Rattle.acl_heap.specs.Objects.{Objects}
use Rattle.acl_terms.specs.declared.fault.ExpandFault.TheVariants as fault
use Rattle.acl_terms.specs.declared.form.Core.{Core}
use Rattle.acl_terms.specs.Forms.{seen_core, seen_cores, core_reach, most}
use Rattle.acl_terms.specs.Signatures.{seen_name}
use Rattle.acl_layers.specs.Layers.{seen_kind, seen_parts, parts_reach, PartsFit}
use Rattle.acl_expand.specs.declared.progress.Refused.{Refused}
use Rattle.acl_expand.specs.Looks.{seen_fault}
use Rattle.acl_growing.specs.declared.placed.Placed.{Placed}
use Rattle.acl_growing.specs.declared.placed.Placed.TheVariants as placed

-- what stands at a place; its words lie in the heap, and what is left of a row fits it
abbrev pub seen_placed : Objects → Placed → layers.Found
seen_placed h (placed.Leaf f) = layers.Leaf (seen_core h f)
seen_placed h (placed.Node k ps) = layers.Node (seen_kind k) (seen_parts h ps)

abbrev pub placed_reach : Placed → ℕ
placed_reach (placed.Leaf f) = core_reach f
placed_reach (placed.Node k ps) = parts_reach ps

abbrev pub PlacedFits : Objects → Placed → Type 0
PlacedFits h (placed.Leaf f) = Unit {0}
PlacedFits h (placed.Node k ps) = PartsFit h ps

abbrev pub StandsPlaced : Objects → Placed → layers.Found → Type 0
StandsPlaced h q o = (o ≡ seen_placed h q) × (placed_reach q ≤ length h) × PlacedFits h q

-- what stands at a place in the end, or its fault, unless memory was refused
abbrev pub EndsPlaced : Objects → expansion.Progress → Result Placed Refused → expansion.Expanded layers.Found → Type 0
EndsPlaced h p (Ok q) o = (o ≡ expansion.Makes (seen_placed h q) p) × (placed_reach q ≤ length h) × PlacedFits h q
EndsPlaced h p (Err r) o = r.fault ≢ fault.Memory → o ≡ expansion.Fails (seen_fault h (seen_name r.inside) r.fault) p

-- the same of what is ready
abbrev pub EndsLeaf : Objects → expansion.Progress → Result Core Refused → expansion.Expanded layers.Found → Type 0
EndsLeaf h p (Ok f) o = (o ≡ expansion.Makes (layers.Leaf (seen_core h f)) p) × (core_reach f ≤ length h)
EndsLeaf h p (Err r) o = r.fault ≢ fault.Memory → o ≡ expansion.Fails (seen_fault h (seen_name r.inside) r.fault) p

-- the core form of a part, or its fault, unless memory was refused
abbrev pub EndsCore : Objects → expansion.Progress → Result Core Refused → expansion.Expanded cores.Core → Type 0
EndsCore h p (Ok f) o = (o ≡ expansion.Makes (seen_core h f) p) × (core_reach f ≤ length h)
EndsCore h p (Err r) o = r.fault ≢ fault.Memory → o ≡ expansion.Fails (seen_fault h (seen_name r.inside) r.fault) p

-- the same of parts in order
abbrev pub EndsCores : Objects → expansion.Progress → Result (Vec Core) Refused → expansion.Expanded (List cores.Core) → Type 0
EndsCores h p (Ok fs) o = (o ≡ expansion.Makes (seen_cores h fs.items) p) × (most (map core_reach fs.items) ≤ length h)
EndsCores h p (Err r) o = r.fault ≢ fault.Memory → o ≡ expansion.Fails (seen_fault h (seen_name r.inside) r.fault) p

-- the symbols in the constants of forms have numbers below n
abbrev pub KnowsForms : ℕ → List cores.Core → Type 0
KnowsForms n fs = AllNodes (HasConstant (IsBelow n)) (cores.cores fs)
