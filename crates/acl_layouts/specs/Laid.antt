-- Layouts of stobjs in which so many may be nested, and of their fields.
use Rattle.std.specs.Prelude.{ℕ, List}
use Rattle.model_lists.specs.Layouts.{Layout, field_layout}
use Rattle.model_terms.specs.Worlds.{World, Shape, Field}
use Rattle.model_eval.specs.StobjLayouts.{shape_layout, fields_layout, layout_within}
use Rattle.acl_new_lists.specs.Begun.{itself}

-- a field in which so many stobjs may be nested in each other
unfoldable pub laid : World → ℕ → Shape → Layout ℕ
laid w d s = shape_layout itself (layout_within itself w d) s

-- the layout of fields
unfoldable pub fields_laid : World → ℕ → List Field → Layout ℕ
fields_laid w d fs = fields_layout itself (layout_within itself w d) fs

-- that of a stobj in which so many may be nested, itself counted
unfoldable pub stobj_laid : World → ℕ → ℕ → Layout ℕ
stobj_laid w d x = layout_within itself w d x

-- a field of these, and of a stobj
unfoldable pub field_among : World → ℕ → List Field → ℕ → Layout ℕ
field_among w d fs f = field_layout f (fields_layout itself (layout_within itself w d) fs)

unfoldable pub field_within : World → ℕ → ℕ → ℕ → Layout ℕ
field_within w d x f = field_layout f (layout_within itself w d x)
