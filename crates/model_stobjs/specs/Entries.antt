-- The definitions that a concrete stobj brings to the world (ACL2's manual, topic DEFSTOBJ).
use Rattle.std.specs.Prelude.{ℕ, ◌+◌, List, [], ◌∷◌, ◌++◌, map, Option, Some, None, unwrap_or}
use Rattle.model_terms.specs.Worlds.{World, Out, Ordinary, Stobj, Signature, Shape, Scalar, Array, Hash, Child, Children, Field, Descriptor, GeneratedFunction, Definition, Concrete, Generated}
use Rattle.model_terms.specs.Classes.{class_of}
use Rattle.model_terms.specs.declared.role.Role.{Role}
use Rattle.model_terms.specs.declared.role.Role.TheVariants as role

-- what a function does, and its signature
abbrev pub Task : Type 0
Task = Role × Signature

abbrev pub task : Role → List Out → List Out → Task
task r ins outs = (r, record { ins = ins; outs = outs })

module _ (stobj : ℕ) where
  abbrev st : Out
  st = Stobj stobj

  abbrev pub field_recognizer : Task
  field_recognizer = task role.FieldRecognizer (Ordinary ∷ []) (Ordinary ∷ [])

  abbrev pub length_task : Task
  length_task = task role.Length (st ∷ []) (Ordinary ∷ [])

  abbrev pub resize_task : Task
  resize_task = task role.Resize (Ordinary ∷ st ∷ []) (st ∷ [])

  -- the functions of a field, in the order of their names
  abbrev pub field_tasks : Shape → List Task
  field_tasks (Scalar t o) =
      field_recognizer ∷ task role.Access (st ∷ []) (Ordinary ∷ []) ∷ task role.Update (Ordinary ∷ st ∷ []) (st ∷ []) ∷ []
  field_tasks (Array t o n resizable) =
      field_recognizer ∷ length_task ∷ resize_task
      ∷ task role.Access (Ordinary ∷ st ∷ []) (Ordinary ∷ []) ∷ task role.Update (Ordinary ∷ Ordinary ∷ st ∷ []) (st ∷ []) ∷ []
  field_tasks (Hash test) =
      field_recognizer
      ∷ task role.HashGet (Ordinary ∷ st ∷ []) (Ordinary ∷ [])
      ∷ task role.HashBoundp (Ordinary ∷ st ∷ []) (Ordinary ∷ [])
      ∷ task role.HashGetBound (Ordinary ∷ st ∷ []) (Ordinary ∷ Ordinary ∷ [])
      ∷ task role.HashPut (Ordinary ∷ Ordinary ∷ st ∷ []) (st ∷ [])
      ∷ task role.HashRem (Ordinary ∷ st ∷ []) (st ∷ [])
      ∷ task role.HashCount (st ∷ []) (Ordinary ∷ [])
      ∷ task role.HashClear (st ∷ []) (st ∷ []) ∷ []
  field_tasks (Child child) =
      field_recognizer ∷ task role.Access (st ∷ []) (Stobj child ∷ []) ∷ task role.Update (Stobj child ∷ st ∷ []) (st ∷ []) ∷ []
  field_tasks (Children child n) =
      field_recognizer ∷ length_task ∷ resize_task
      ∷ task role.Access (Ordinary ∷ st ∷ []) (Stobj child ∷ []) ∷ task role.Update (Ordinary ∷ Stobj child ∷ st ∷ []) (st ∷ []) ∷ []

  abbrev pub function_of : Option ℕ → ℕ → Task → GeneratedFunction
  function_of field name t = record { name = name; stobj = stobj; field = field; role = t.0; signature = t.1 }

  abbrev pub named_tasks : ℕ → List ℕ → List Task → List GeneratedFunction
  named_tasks i [] tasks = []
  named_tasks i (x ∷ xs) [] = []
  named_tasks i (x ∷ xs) (t ∷ ts) = function_of (Some i) x t ∷ named_tasks i xs ts

  -- the functions of the fields, the first of which has this number
  abbrev pub field_functions : ℕ → List Field → List GeneratedFunction
  field_functions i [] = []
  field_functions i (f ∷ fs) = named_tasks i f.made (field_tasks f.shape) ++ field_functions (i + 1) fs

  abbrev pub recognizer_task : Task
  recognizer_task = task role.Recognizer (st ∷ []) (Ordinary ∷ [])

  abbrev pub creator_task : Task
  creator_task = task role.Creator [] (st ∷ [])

-- the functions that a stobj comes with, in order
abbrev pub generated_functions : Descriptor → List GeneratedFunction
generated_functions d =
    function_of d.name None d.recognizer (recognizer_task d.name) ∷ function_of d.name None d.creator (creator_task d.name) ∷ field_functions d.name 0 d.fields

-- the first stobj of its congruence class
abbrev pub class_for : World → Descriptor → ℕ
class_for w d = go d.congruent_to where
  go : Option ℕ → ℕ
  go None = d.name
  go (Some old) = unwrap_or (class_of w old) old

abbrev pub stobj_entries : World → Descriptor → World
stobj_entries w d = Concrete d (class_for w d) ∷ map Generated (generated_functions d)
