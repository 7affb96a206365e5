-- The tests of types of declarations that shapes stand for in a heap.
use Rattle.std.specs.Prelude.{◌≡◌, ℕ, ◌≤◌, ◌<◌, List, [], ◌∷◌, length, max, Option, Some, None, option_map}
use Rattle.model_objects.specs.Object.{Object, weight}
use Rattle.model_terms.specs.Cores.{Core, Var}
use Rattle.model_expansion.specs.TypeTerms.{true_core, false_core, call_core, not_core, joined_tests, plain_test, declared}
use Rattle.acl_heap.specs.Objects.{Objects, object_of, reach}
use Rattle.acl_types.specs.declared.shape.Join.{Join}
use Rattle.acl_types.specs.declared.shape.Join.TheVariants as join
use Rattle.acl_types.specs.Shapes.{join_test}
use Rattle.acl_declare.specs.declared.shape.TestShape.{TestShape}
use Rattle.acl_declare.specs.declared.shape.TestShape.TheVariants as shape
use Rattle.acl_declare.specs.declared.shape.TestStep.{TestStep}
use Rattle.acl_declare.specs.declared.shape.TestStep.TheVariants as step

-- the test of an object as a type of a declaration, however deep
abbrev pub one_test : ℕ → Object ℕ → Option Core
one_test x o = (declared (Var x) o).one

-- the test of a list of them
abbrev pub list_test : ℕ → Join → Object ℕ → Option Core
list_test x join.Either o = (declared (Var x) o).any
list_test x join.Both o = (declared (Var x) o).all

-- the test of a list of none
abbrev pub empty_test : Join → Core
empty_test join.Either = false_core
empty_test join.Both = true_core

abbrev pub predicate_test : ℕ → ℕ → Core
predicate_test x p = call_core p (Var x ∷ [])

-- the test that is made of those of the parts
abbrev pub seen_shape : ℕ → Objects → TestShape → Option Core
seen_shape x h shape.Bad = None
seen_shape x h (shape.Plain w) = plain_test (Var x) (object_of h w)
seen_shape x h (shape.Satisfies p) = Some (predicate_test x p.0)
seen_shape x h (shape.Empty j) = Some (empty_test j)
seen_shape x h (shape.Other a) = option_map not_core (one_test x (object_of h a))
seen_shape x h (shape.Joined j a d) = joined_tests (join_test j) (one_test x (object_of h a)) (list_test x j (object_of h d))

abbrev pub seen_step : ℕ → Objects → TestStep → Option Core
seen_step x h (step.Goes w) = one_test x (object_of h w)
seen_step x h (step.Stays s) = seen_shape x h s

abbrev pub shape_reach : TestShape → ℕ
shape_reach shape.Bad = 0
shape_reach (shape.Plain w) = reach w
shape_reach (shape.Satisfies p) = 0
shape_reach (shape.Empty j) = 0
shape_reach (shape.Other a) = reach a
shape_reach (shape.Joined j a d) = max (reach a) (reach d)

abbrev pub step_reach : TestStep → ℕ
step_reach (step.Goes w) = reach w
step_reach (step.Stays s) = shape_reach s

-- what goes on is smaller
abbrev pub StepShrinks : Objects → TestStep → ℕ → Type 0
StepShrinks h (step.Goes w) n = weight (object_of h w) < n
StepShrinks h (step.Stays s) n = Unit {0}
