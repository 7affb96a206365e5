-- The draft of a constant, and why its definition is refused before its form is expanded.
use Rattle.std.specs.Prelude.{◌≡◌, ℕ, ◌≤◌, List, [], ◌∷◌, length, Option, Some, None, option_map, option_and_then}
use Rattle.std.specs.Option.{option_or}
use Rattle.model_objects.specs.Object.{Object}
use Rattle.model_symbols.specs.Symbols.{QualifiedName}
use Rattle.model_terms.specs.Worlds.{World}
use Rattle.model_expansion.specs.Words.{defconst_word}
use Rattle.model_expansion.specs.Forms.{elements, symbol_or_nil}
use Rattle.model_expansion.specs.Faults as faults
use Rattle.model_expansion.specs.Faults.{Refusal}
use Rattle.model_stobjs.specs.Heads.{name_in_use}
use Rattle.model_events.specs.Constants.{name_and_form, bad_constant_name}
use Rattle.acl_heap.specs.Objects.{Objects, object_of, Lies}
use Rattle.acl_constants.specs.declared.draft.ConstantDraft.{ConstantDraft}

-- the first refusal of a name
abbrev pub name_refusal : World → List QualifiedName → Object ℕ → Option Refusal
name_refusal w symbols o = option_or (bad_constant_name symbols o) (name_in_use w (symbol_or_nil o ∷ []))

abbrev pub shape_refusal : World → List QualifiedName → Option (Object ℕ × Object ℕ) → Option Refusal
shape_refusal w symbols None = Some (faults.Expand (faults.BadShape defconst_word))
shape_refusal w symbols (Some c) = name_refusal w symbols c.0

-- the first refusal of what stands behind the head, before the form is expanded
abbrev pub constant_refusal : World → List QualifiedName → Object ℕ → Option Refusal
constant_refusal w symbols o = shape_refusal w symbols (option_and_then name_and_form (elements o))

abbrev pub named : Object ℕ × Object ℕ → ℕ × Object ℕ
named c = (symbol_or_nil c.0, c.1)

-- the name and the form of a constant, which is not refused
pub record ReadsConstant (w : World) (symbols : List QualifiedName) (o : Object ℕ) (h : Objects) (d : ConstantDraft) : Type 0 where
  pub right : constant_refusal w symbols o ≡ None
  pub parts : option_map named (option_and_then name_and_form (elements o)) ≡ Some (d.name.0, object_of h d.form)
  pub lies : Lies h d.form
