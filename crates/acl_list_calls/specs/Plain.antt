-- The layout of a field whose children have no fields: it tells what functions of the field do, but for its recognizer.
use Rattle.std.specs.Prelude.{◌≡◌, ℕ, Bool}
use Rattle.model_lists.specs.Layouts.{Layout, NoField}
use Rattle.model_terms.specs.Worlds.{Shape}
use Rattle.model_eval.specs.StobjLayouts.{shape_layout}
use Rattle.model_prims.specs.Kinds.{by_number}
use Rattle.model_lists.specs.Effects.{Effect, when, with_key}
use Rattle.acl_base.specs.declared.Word.{Word}
use Rattle.acl_heap.specs.Objects.{Objects, object_of}
use Rattle.acl_terms.specs.declared.stobj.Shape as shapes
use Rattle.acl_terms.specs.Definitions.{seen_shape}
use Rattle.acl_new_lists.specs.Begun.{itself}

unfoldable pub plain_layout : Shape → Layout ℕ
plain_layout s = shape_layout itself (λ x. NoField) s

-- a key is taken under the layout as the test of it says
pub record Takes (h : Objects) (s : shapes.Shape) (key : Word) (passes : Bool) : Type 0 where
  pub each : (e : Effect ℕ) → with_key by_number (plain_layout (seen_shape h s)) (object_of h key) e ≡ when by_number passes e
