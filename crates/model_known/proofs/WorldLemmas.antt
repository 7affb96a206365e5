-- The symbols in what stobjs begin as.
use Rattle.std.specs.Prelude.{◌≡◌, ℕ, zero, suc, List, [], ◌∷◌, Option, Some, None, refl}
use Rattle.model_objects.specs.Object.{Object}
use Rattle.model_lists.specs.Lists.{StobjList, Value}
use Rattle.model_lists.specs.Layouts.{Layout, Scalar, Array, Hash, Children, NoField, Field, initial, repeated, field_layout}
use Rattle.model_terms.specs.Worlds as worlds
use Rattle.model_eval.specs.StobjLayouts.{shape_layout, fields_layout, defined_layout, layout_within}
use Rattle.model_known.specs.Known.{KnowsList, KnowsLayout, KnowsShape, KnowsFields, KnowsStarts}
use Rattle.model_known.specs.Laws.{WorldsKnow}

abbrev itself : Object ℕ → Object ℕ
itself o = o

module _ (n : ℕ) where
  repeated_known : (i : ℕ) (x : StobjList ℕ) → KnowsList n x → KnowsList n (repeated i x)
  repeated_known zero x k = tt
  repeated_known (suc i) x k = (k, repeated_known i x k)

  initial_known : (l : Layout ℕ) → KnowsLayout n l → KnowsList n (initial l)
  initial_known (Scalar t o) k = k
  initial_known (Array t o m resizable) k = repeated_known m (Value o) k
  initial_known (Hash test) k = tt
  initial_known (Children m child) k = repeated_known m (initial child) (initial_known child k)
  initial_known NoField k = tt
  initial_known (Field first others) k = (initial_known first k.0, initial_known others k.1)

  field_known : (f : ℕ) (l : Layout ℕ) → KnowsLayout n l → KnowsLayout n (field_layout f l)
  field_known zero (Scalar t o) k = tt
  field_known (suc f) (Scalar t o) k = tt
  field_known zero (Array t o m resizable) k = tt
  field_known (suc f) (Array t o m resizable) k = tt
  field_known zero (Hash test) k = tt
  field_known (suc f) (Hash test) k = tt
  field_known zero (Children m child) k = tt
  field_known (suc f) (Children m child) k = tt
  field_known zero NoField k = tt
  field_known (suc f) NoField k = tt
  field_known zero (Field first others) k = k.0
  field_known (suc f) (Field first others) k = field_known f others k.1

  module _ (w : worlds.World) (starts : KnowsStarts n w) where
    shape_known : (child : ℕ → Layout ℕ) → ((x : ℕ) → KnowsLayout n (child x)) → (s : worlds.Shape) → KnowsShape n s → KnowsLayout n (shape_layout itself child s)
    shape_known child c (worlds.Scalar written start) k = k
    shape_known child c (worlds.Array written start len resizable) k = k
    shape_known child c (worlds.Hash test) k = tt
    shape_known child c (worlds.Child stobj) k = c stobj
    shape_known child c (worlds.Children stobj len) k = c stobj

    fields_known : (child : ℕ → Layout ℕ) → ((x : ℕ) → KnowsLayout n (child x)) → (fs : List worlds.Field) → KnowsFields n fs → KnowsLayout n (fields_layout itself child fs)
    fields_known child c [] k = tt
    fields_known child c (f ∷ fs) k = (shape_known child c f.shape k.0, fields_known child c fs k.1)

    defined_known : (child : ℕ → Layout ℕ) → ((x : ℕ) → KnowsLayout n (child x)) → (x : ℕ) (o : Option worlds.Definition) → o ≡ worlds.definition w x → KnowsLayout n (defined_layout itself child o)
    defined_known child c x None e = tt
    defined_known child c x (Some (worlds.Primitive name row)) e = tt
    defined_known child c x (Some (worlds.Defined f)) e = tt
    defined_known child c x (Some (worlds.Macro name formals body)) e = tt
    defined_known child c x (Some (worlds.Constant name value)) e = tt
    defined_known child c x (Some (worlds.Concrete d class)) e = fields_known child c d.fields (starts.each x (worlds.Concrete d class) d e refl)
    defined_known child c x (Some (worlds.Generated f)) e = tt
    defined_known child c x (Some (worlds.Abstract d)) e = c d.foundation
    defined_known child c x (Some (worlds.OfAbstract f)) e = tt
    defined_known child c x (Some (worlds.Named name formals)) e = tt
    defined_known child c x (Some (worlds.Signed name formals signature executable)) e = tt

    layout_known : (d x : ℕ) → KnowsLayout n (layout_within itself w d x)
    unfolding layout_within
    layout_known zero x = tt
    layout_known (suc d) x = defined_known (layout_within itself w d) (λ y. layout_known d y) x (worlds.definition w x) refl

pub worlds_know : WorldsKnow
worlds_know = record {
  layout = λ n w x s. layout_known n w s 65 x;
  field = field_known;
  list = λ n w x s. initial_known n _ (layout_known n w s 65 x);
}
