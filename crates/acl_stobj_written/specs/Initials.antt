-- Whether an object meets a type as it is written.
use Rattle.std.specs.Prelude.{ℕ, Bool, false}
use Rattle.std.specs.Option.{option_map_or}
use Rattle.model_objects.specs.Object.{Object}
use Rattle.model_prims.specs.Kinds.{by_number}
use Rattle.model_lists.specs.Types.{ValueType, meets}
use Rattle.model_expansion.specs.TypeTerms.{accepted_type}

-- none meets a type that is not accepted
abbrev pub meets_accepted : Object ℕ → Object ℕ → Bool
meets_accepted t o = option_map_or (λ (v : ValueType ℕ). meets by_number v o) (accepted_type t) false
