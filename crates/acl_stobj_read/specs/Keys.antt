-- Keys by what stands along a list.
use Rattle.std.specs.Prelude.{ℕ, List, [], ◌∷◌, Option, Some, None, codes, if◌then◌else◌}
use Rattle.model_objects.specs.Object.{Object}
use Rattle.model_symbols.specs.Symbols.{QualifiedName}
use Rattle.model_expansion.specs.Forms.{is_key}
use Rattle.acl_stobj_read.specs.declared.keys.Key.{Key}
use Rattle.acl_stobj_read.specs.declared.keys.Key.TheVariants as key

abbrev pub key_name : Key → List ℕ
key_name key.Type = codes "TYPE"
key_name key.Initially = codes "INITIALLY"
key_name key.Resizable = codes "RESIZABLE"
key_name key.Renaming = codes "RENAMING"
key_name key.Inline = codes "INLINE"
key_name key.NonMemoizable = codes "NON-MEMOIZABLE"
key_name key.NonExecutable = codes "NON-EXECUTABLE"
key_name key.CongruentTo = codes "CONGRUENT-TO"

-- the object behind the keyword of this name
abbrev pub value_along : List QualifiedName → List ℕ → List (Object ℕ) → Option (Object ℕ)
value_along symbols name [] = None
value_along symbols name (k ∷ []) = None
value_along symbols name (k ∷ (v ∷ os)) = if is_key symbols name k then Some v else value_along symbols name os
