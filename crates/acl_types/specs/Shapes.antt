-- The tests that shapes stand for in a heap.
use Rattle.std.specs.Prelude.{◌≡◌, ℕ, ◌≤◌, ◌<◌, List, [], ◌∷◌, length, max, Bool, true, false, nat_le, Option, Some, None, option_map, if◌then◌else◌}
use Rattle.model_objects.specs.Object.{Object, Integer, Symbol, Text, Pair, weight}
use Rattle.model_terms.specs.Cores.{Core, Var, Const}
use Rattle.model_lists.specs.Types.{ValueType, Nothing, Anything, Reading, reading, only_element}
use Rattle.model_expansion.specs.Words.{member_equal_word}
use Rattle.model_expansion.specs.TypeTerms.{true_core, false_core, call_core, not_core, range_test, either_test, both_test, test_of, depth_of, joined_tests}
use Rattle.acl_base.specs.declared.Word.{Word}
use Rattle.acl_heap.specs.Objects.{Objects, object_of, Lies, reach}
use Rattle.acl_terms.specs.declared.form.Core as forms
use Rattle.acl_terms.specs.Forms.{seen_core, core_reach, CoreLies}
use Rattle.acl_types.specs.declared.shape.Leaf.{Leaf}
use Rattle.acl_types.specs.declared.shape.Leaf.TheVariants as leaf
use Rattle.acl_types.specs.declared.shape.Join.{Join}
use Rattle.acl_types.specs.declared.shape.Join.TheVariants as join
use Rattle.acl_types.specs.declared.shape.Shape.{Shape}
use Rattle.acl_types.specs.declared.shape.Shape.TheVariants as shape
use Rattle.acl_types.specs.declared.shape.Step.{Step}
use Rattle.acl_types.specs.declared.shape.Step.TheVariants as step

abbrev pub type_in : Object ℕ → Option (ValueType ℕ)
type_in o = (reading (λ (x : Object ℕ). x) o).one

-- the type of a list of types
abbrev pub joined_in : Join → Object ℕ → Option (ValueType ℕ)
joined_in join.Either o = (reading (λ (x : Object ℕ). x) o).any
joined_in join.Both o = (reading (λ (x : Object ℕ). x) o).all

-- the test of a type over a variable
abbrev pub tested : ℕ → Option (ValueType ℕ) → Option Core
tested x t = option_map (test_of (Var x)) t

-- a test that is no deeper
abbrev pub within : ℕ → Option Core → Option Core
within n None = None
within n (Some f) = if nat_le (depth_of f) n then Some f else None

abbrev pub join_test : Join → Core → Core → Core
join_test join.Either a b = either_test false a b
join_test join.Both a b = both_test false a b

-- the test of a list of none
abbrev pub none_of : Join → Leaf
none_of join.Either = leaf.Never
none_of join.Both = leaf.Always

abbrev pub seen_leaf : ℕ → Objects → Leaf → Core
seen_leaf x h leaf.Always = true_core
seen_leaf x h leaf.Never = false_core
seen_leaf x h (leaf.Between low high) = range_test low high (Var x)
seen_leaf x h (leaf.Meets p) = call_core p.0 (Var x ∷ [])
seen_leaf x h (leaf.Among w) = call_core member_equal_word (Var x ∷ Const (object_of h w) ∷ [])

-- the test that is made of those of the parts
abbrev pub seen_shape : ℕ → Objects → Shape → Option Core
seen_shape x h shape.Bad = None
seen_shape x h (shape.Leaf l) = Some (seen_leaf x h l)
seen_shape x h (shape.Other a) = option_map not_core (tested x (type_in (object_of h a)))
seen_shape x h (shape.Joined j a d) = joined_tests (join_test j) (tested x (type_in (object_of h a))) (tested x (joined_in j (object_of h d)))

abbrev pub seen_step : ℕ → Objects → Step → Option Core
seen_step x h (step.Goes w) = tested x (type_in (object_of h w))
seen_step x h (step.Stays s) = seen_shape x h s

abbrev pub leaf_reach : Leaf → ℕ
leaf_reach leaf.Always = 0
leaf_reach leaf.Never = 0
leaf_reach (leaf.Between low high) = 0
leaf_reach (leaf.Meets p) = 0
leaf_reach (leaf.Among w) = reach w

abbrev pub shape_reach : Shape → ℕ
shape_reach shape.Bad = 0
shape_reach (shape.Leaf l) = leaf_reach l
shape_reach (shape.Other a) = reach a
shape_reach (shape.Joined j a d) = max (reach a) (reach d)

abbrev pub step_reach : Step → ℕ
step_reach (step.Goes w) = reach w
step_reach (step.Stays s) = shape_reach s

-- what goes on is smaller
abbrev pub StepShrinks : Objects → Step → ℕ → Type 0
StepShrinks h (step.Goes w) n = weight (object_of h w) < n
StepShrinks h (step.Stays s) n = Unit {0}

-- the only element of a list
abbrev pub SeenOnly : Objects → Option Word → Object ℕ → Type 0
SeenOnly h None o = only_element o ≡ None
SeenOnly h (Some w) o = (o ≡ Pair (object_of h w) (Symbol 1)) × Lies h w

abbrev pub SeenLeaf : ℕ → Objects → Option Leaf → Option (ValueType ℕ) → Type 0
SeenLeaf x h None t = tested x t ≡ None
SeenLeaf x h (Some l) t = (tested x t ≡ Some (seen_leaf x h l)) × (leaf_reach l ≤ length h)

-- ---- core forms of the program

-- the form stands for this one, and its words lie in the heap
abbrev pub IsCore : Objects → forms.Core → Core → Type 0
IsCore h f o = (seen_core h f ≡ o) × CoreLies h f

abbrev pub seen_test : Objects → Option forms.Core → Option Core
seen_test h t = option_map (seen_core h) t

abbrev pub test_reach : Option forms.Core → ℕ
test_reach None = 0
test_reach (Some f) = core_reach f

-- a test that stands for this one, or none
abbrev pub SeenTest : Objects → Option forms.Core → Option Core → Type 0
SeenTest h t o = (seen_test h t ≡ o) × (test_reach t ≤ length h)
