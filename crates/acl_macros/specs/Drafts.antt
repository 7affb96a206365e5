-- The draft of a macro, and why its definition is refused before it is expanded.
use Rattle.std.specs.Prelude.{◌≡◌, ℕ, ◌≤◌, List, [], ◌∷◌, map, max, length, Option, Some, None, option_map}
use Rattle.std.specs.Option.{option_or}
use Rattle.model_objects.specs.Object.{Object}
use Rattle.model_symbols.specs.Symbols.{QualifiedName}
use Rattle.model_terms.specs.Worlds as worlds
use Rattle.model_terms.specs.Worlds.{World}
use Rattle.model_expansion.specs.Words.{defmacro_word}
use Rattle.model_expansion.specs.Forms.{symbol_or_nil}
use Rattle.model_expansion.specs.Faults as faults
use Rattle.model_expansion.specs.Faults.{Refusal}
use Rattle.model_stobjs.specs.Heads.{name_in_use, bad_name}
use Rattle.model_events.specs.Declarations.{formals_fault}
use Rattle.model_events.specs.Macros as written
use Rattle.model_events.specs.Macros.{macro_formals, bad_declaration, written_fault, written_macro}
use Rattle.acl_heap.specs.Objects.{Objects, object_of, reach}
use Rattle.acl_terms.specs.Forms.{most}
use Rattle.acl_terms.specs.Definitions as definitions
use Rattle.acl_terms.specs.declared.definition.OptionalFormal.{OptionalFormal}
use Rattle.acl_macros.specs.declared.draft.MacroDraft.{MacroDraft}

abbrev pub named_formals : Objects → List OptionalFormal → List worlds.OptionalFormal
named_formals h fs = map (definitions.seen_optional h) fs

abbrev pub defaults_reach : List OptionalFormal → ℕ
defaults_reach fs = most (map (λ (o : OptionalFormal). reach o.default) fs)

-- a macro before its body is expanded
pub record Draft : Type 0 where
  pub name : ℕ
  pub formals : worlds.MacroFormals
  pub body : Object ℕ

abbrev pub draft_of : written.WrittenMacro → Draft
draft_of m = record { name = symbol_or_nil m.name; formals = macro_formals m.formals; body = m.body }

abbrev pub seen_draft : Objects → MacroDraft → Draft
seen_draft h d = record { name = d.name.0; formals = definitions.seen_formals h d.formals; body = object_of h d.body }

abbrev pub draft_reach : MacroDraft → ℕ
draft_reach d = max (definitions.formals_reach d.formals) (reach d.body)

-- ---- refusals

-- the first refusal before declarations are read
abbrev pub early_refusal : World → List QualifiedName → Object ℕ → List (Object ℕ) → Option Refusal
early_refusal w symbols name formals =
    option_or (bad_name symbols (name ∷ [])) (option_or (name_in_use w (symbol_or_nil name ∷ [])) (formals_fault symbols formals))

abbrev pub shape_refusal : World → List QualifiedName → Option written.WrittenMacro → Option Refusal
shape_refusal w symbols None = Some (faults.Expand (faults.BadShape defmacro_word))
shape_refusal w symbols (Some m) = written_fault symbols w m

-- the first refusal of what stands behind the head
abbrev pub macro_refusal : World → List QualifiedName → Object ℕ → Option Refusal
macro_refusal w symbols o = shape_refusal w symbols (written_macro o)

-- ---- drafts

-- the draft of a macro of which no declaration is wrong
pub record ReadsDeclared (symbols : List QualifiedName) (m : written.WrittenMacro) (h : Objects) (d : MacroDraft) : Type 0 where
  pub right : bad_declaration symbols m ≡ None
  pub draft : draft_of m ≡ seen_draft h d
  pub lies : draft_reach d ≤ length h

-- the draft of a macro that is not refused
pub record ReadsUnrefused (w : World) (symbols : List QualifiedName) (m : written.WrittenMacro) (h : Objects) (d : MacroDraft) : Type 0 where
  pub right : written_fault symbols w m ≡ None
  pub draft : draft_of m ≡ seen_draft h d
  pub lies : draft_reach d ≤ length h

-- the draft of what stands behind the head, which is not refused
pub record ReadsMacro (w : World) (symbols : List QualifiedName) (o : Object ℕ) (h : Objects) (d : MacroDraft) : Type 0 where
  pub right : macro_refusal w symbols o ≡ None
  pub draft : option_map draft_of (written_macro o) ≡ Some (seen_draft h d)
  pub lies : draft_reach d ≤ length h
