-- The arguments of the functions of a stobj in the logic, and what is known of a field.
use Rattle.std.proofs.Common.{◌≡◌, ℕ, zero, suc, List, [], ◌∷◌, ◌++◌, Bool, true, false}
use Rattle.std.specs.Prelude.{◌&&◌}
use Rattle.model_objects.specs.Object.{Object}
use Rattle.model_objects.specs.Named.{Symbols}
use Rattle.model_prims.specs.Kinds.{by_number}
use Rattle.model_lists.specs.Layouts.{Layout, Scalar, Array, Hash, Children, NoField, Field, field_layout}
use Rattle.model_lists_laws.specs.Laws.{HasInitials}
use Rattle.model_terms.specs.declared.role.Role.{Role}
use Rattle.model_terms.specs.declared.role.Role.TheVariants as role
use Rattle.model_logic.specs.Logic.{Thing}
use Rattle.model_follows.specs.FollowedWorlds.{LayoutSymbols}

abbrev pub EachSymbols : (ℕ → Type 0) → List (Object ℕ) → Type 0
EachSymbols P [] = Unit {0}
EachSymbols P (o ∷ os) = Symbols P o × EachSymbols P os

-- the arguments in the logic
abbrev pub role_args : Role → List Thing → Thing → List Thing
role_args role.Recognizer things o = things ++ (o ∷ [])
role_args role.Creator things o = things
role_args role.FieldRecognizer things o = things
role_args role.Access things o = things ++ (o ∷ [])
role_args role.Update things o = things ++ (o ∷ [])
role_args role.Length things o = things ++ (o ∷ [])
role_args role.Resize things o = things ++ (o ∷ [])
role_args role.HashGet things o = things ++ (o ∷ [])
role_args role.HashBoundp things o = things ++ (o ∷ [])
role_args role.HashGetBound things o = things ++ (o ∷ [])
role_args role.HashPut things o = things ++ (o ∷ [])
role_args role.HashRem things o = things ++ (o ∷ [])
role_args role.HashCount things o = things ++ (o ∷ [])
role_args role.HashClear things o = things ++ (o ∷ [])

pub layout_field_known : (P : ℕ → Type 0) (n : ℕ) (l : Layout ℕ) → LayoutSymbols P l → LayoutSymbols P (field_layout n l)
layout_field_known P n (Scalar t o) k = tt
layout_field_known P n (Array t o m resizable) k = tt
layout_field_known P n (Hash test) k = tt
layout_field_known P n (Children m child) k = tt
layout_field_known P n NoField k = tt
layout_field_known P zero (Field first others) k = k.0
layout_field_known P (suc n) (Field first others) k = layout_field_known P n others k.1

pub initial_field : (n : ℕ) (l : Layout ℕ) → HasInitials by_number l → HasInitials by_number (field_layout n l)
initial_field n (Scalar t o) k = tt
initial_field n (Array t o m resizable) k = tt
initial_field n (Hash test) k = tt
initial_field n (Children m child) k = tt
initial_field n NoField k = tt
initial_field zero (Field first others) k = k.0
initial_field (suc n) (Field first others) k = initial_field n others k.1

pub both_hold : (a b : Bool) → a ≡ true → b ≡ true → (a && b) ≡ true
both_hold true b e h = h
both_hold false b e h = e
