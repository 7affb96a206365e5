-- The core form that a form of the program stands for in a heap, and how far its words reach.
use Rattle.std.specs.Prelude.{ℕ, ◌≤◌, List, [], ◌∷◌, map, max, length}
use Rattle.acl_base.specs.declared.SymId.{SymId}
use Rattle.acl_heap.specs.Objects.{Objects, object_of, reach}
use Rattle.model_terms.specs.Cores as cores
use Rattle.acl_terms.specs.declared.form.Core.{Core}
use Rattle.acl_terms.specs.declared.form.Core.TheOpen as layer
use Rattle.acl_terms.specs.declared.form.Core.TheFolds.{fold-Core}

-- the numbers of names
abbrev pub numbers : List SymId → List ℕ
numbers names = map (λ (s : SymId). s.0) names

-- the names of bindings, and what stands beside them
abbrev pub bound_names : {A : Type 0} → List (SymId × A) → List ℕ
bound_names bs = map (λ b. b.0.0) bs

abbrev pub bound_parts : {A : Type 0} → List (SymId × A) → List A
bound_parts bs = map (λ b. b.1) bs

-- one layer, with its parts in place
abbrev pub layer_core : Objects → layer.Core-F cores.Core → cores.Core
layer_core h (layer.Var x) = cores.Var x.0
layer_core h (layer.Const w) = cores.Const (object_of h w)
layer_core h (layer.If a b c) = cores.If a b c
layer_core h (layer.Let bindings body) = cores.Let (bound_names bindings) (cores.cores (bound_parts bindings)) body
layer_core h (layer.Mv parts) = cores.Mv (cores.cores parts)
layer_core h (layer.MvLet names bound body) = cores.MvLet (numbers names) bound body
layer_core h (layer.StobjLet bindings vars producer consumer) = cores.StobjLet (bound_names bindings) (cores.cores (bound_parts bindings)) (numbers vars) producer consumer
layer_core h (layer.WithLocal stobj names producer body) = cores.WithLocal stobj.0 (numbers names) producer body
layer_core h (layer.MustBeEqual logic exec) = cores.MustBeEqual logic exec
layer_core h (layer.Call f parts) = cores.Call f.0 (cores.cores parts)

-- the core form that a form stands for
abbrev pub seen_core : Objects → Core → cores.Core
seen_core h = fold-Core cores.Core (layer_core h)

abbrev pub seen_cores : Objects → List Core → List cores.Core
seen_cores h fs = map (seen_core h) fs

-- the forms of bindings
abbrev pub seen_bound : Objects → List (SymId × Core) → List cores.Core
seen_bound h [] = []
seen_bound h (b ∷ bs) = seen_core h b.1 ∷ seen_bound h bs

-- ---- words

abbrev pub most : List ℕ → ℕ
most [] = 0
most (n ∷ ns) = max n (most ns)

-- how many cells a heap has at least in which the words of one layer lie
abbrev pub layer_reach : layer.Core-F ℕ → ℕ
layer_reach (layer.Var x) = 0
layer_reach (layer.Const w) = reach w
layer_reach (layer.If a b c) = max a (max b c)
layer_reach (layer.Let bindings body) = max (most (bound_parts bindings)) body
layer_reach (layer.Mv parts) = most parts
layer_reach (layer.MvLet names bound body) = max bound body
layer_reach (layer.StobjLet bindings vars producer consumer) = max (most (bound_parts bindings)) (max producer consumer)
layer_reach (layer.WithLocal stobj names producer body) = max producer body
layer_reach (layer.MustBeEqual logic exec) = max logic exec
layer_reach (layer.Call f parts) = most parts

-- the same of a form
abbrev pub core_reach : Core → ℕ
core_reach = fold-Core ℕ layer_reach

-- each word of the form lies below the top of the heap
abbrev pub CoreLies : Objects → Core → Type 0
CoreLies h f = core_reach f ≤ length h
