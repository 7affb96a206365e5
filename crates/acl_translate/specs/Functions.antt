-- What functions that are admitted together become in the table.
use Rattle.std.specs.Prelude.{◌≡◌, ℕ, ◌<◌, List, [], ◌∷◌, map, length, true, Option, Some, is_some}
use Rattle.std.specs.List.{AllByRecursion}
use Rattle.acl_heap.specs.Objects.{Objects}
use Rattle.model_terms.specs.Cores as cores
use Rattle.model_terms.specs.Rounds as rounds
use Rattle.model_terms.specs.Worlds.{World}
use Rattle.model_slots.specs.Trees.{Tree}
use Rattle.model_slots.specs.Environments.{formal_environment}
use Rattle.model_slots.specs.Resolved.{both, resolved}
use Rattle.model_slots_laws.specs.Standing.{functions_stand}
use Rattle.acl_terms.specs.Forms.{numbers, seen_core}
use Rattle.acl_code.specs.declared.term.Term.{Term}
use Rattle.acl_code.specs.Constants.{FormIsKnown}
use Rattle.acl_code.specs.Sizes.{Fits}
use Rattle.acl_code.specs.Tables.{tree_at}
use Rattle.acl_check.specs.declared.member.Member.{Member}
use Rattle.acl_translate.specs.declared.function_terms.FunctionTerms.{FunctionTerms}

-- ---- trees

-- the tree of a form under formals, the first in slot 0
abbrev pub formal_tree : World → List ℕ → cores.Core → Option Tree
formal_tree w formals f = resolved w (formal_environment formals) (length formals) f

-- the trees of a function's guard and of its body, where both have one
abbrev pub function_trees : World → rounds.Member → Option (Tree × Tree)
function_trees w m = both (λ guard body. (guard, body)) (formal_tree w m.formals m.guard) (formal_tree w m.formals m.body)

-- those of functions in their order, where all have them
abbrev pub all_function_trees : World → List rounds.Member → Option (List (Tree × Tree))
all_function_trees w [] = Some []
all_function_trees w (m ∷ ms) = both (λ trees others. trees ∷ others) (function_trees w m) (all_function_trees w ms)

-- ---- terms

-- the trees that the terms of a function stand for
abbrev pub seen_function_terms : Objects → List Term → FunctionTerms → Tree × Tree
seen_function_terms h ts f = (tree_at h ts f.guard, tree_at h ts f.body)

-- the terms of a function are numbers of the table
abbrev pub InTable : List Term → FunctionTerms → Type 0
InTable ts f = (f.guard.0 < length ts) × (f.body.0 < length ts)

-- terms of the table that stand for these two trees
pub record IsFunction (h : Objects) (ts : List Term) (f : FunctionTerms) (trees : Option (Tree × Tree)) : Type 0 where
  pub within : InTable ts f
  pub is : Some (seen_function_terms h ts f) ≡ trees

-- the same of functions
pub record AreFunctions (h : Objects) (ts : List Term) (fs : List FunctionTerms) (all : Option (List (Tree × Tree))) : Type 0 where
  pub within : AllByRecursion (InTable ts) fs
  pub are : Some (map (seen_function_terms h ts) fs) ≡ all

-- ---- what a function's guard and body call

-- each function that they call stands
pub record FunctionsStand (h : Objects) (w : World) (m : Member) : Type 0 where
  pub guard : functions_stand w (seen_core h m.guard) ≡ true
  pub body : functions_stand w (seen_core h m.body) ≡ true

-- they have trees
pub record HasTrees (h : Objects) (w : World) (m : Member) : Type 0 where
  pub guard : is_some (formal_tree w (numbers m.formals) (seen_core h m.guard)) ≡ true
  pub body : is_some (formal_tree w (numbers m.formals) (seen_core h m.body)) ≡ true

-- ---- sizes

-- the slots of a function's guard and body fit behind its formals
pub record HasRoom (h : Objects) (m : Member) : Type 0 where
  pub guard : Fits h (length m.formals) m.guard
  pub body : Fits h (length m.formals) m.body

-- ---- symbols

-- the constants in a function's guard and body have symbols below n
pub record MemberIsKnown (n : ℕ) (h : Objects) (m : Member) : Type 0 where
  pub guard : FormIsKnown n (seen_core h m.guard)
  pub body : FormIsKnown n (seen_core h m.body)
