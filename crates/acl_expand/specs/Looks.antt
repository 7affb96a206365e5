-- What is seen at a place, as the definitions see it.
use Rattle.std.specs.Prelude.{◌≡◌, ℕ, ◌≤◌, length, Option, Some, None}
use Rattle.model_objects.specs.Object.{Object}
use Rattle.model_symbols.specs.Symbols.{Table}
use Rattle.model_expansion.specs.Faults as faults
use Rattle.model_expansion.specs.Expansion as expansion
use Rattle.acl_heap.specs.Objects.{Objects, object_of, Lies}
use Rattle.acl_terms.specs.declared.fault.ExpandFault.{ExpandFault}
use Rattle.acl_terms.specs.declared.fault.ExpandFault.TheVariants as fault
use Rattle.acl_terms.specs.declared.definition.Macro.{Macro}
use Rattle.acl_terms.specs.declared.definition.Definition.{Definition}
use Rattle.acl_terms.specs.declared.definition.Definition.TheVariants as definition
use Rattle.acl_terms.specs.Definitions.{seen_formals, seen_definition}
use Rattle.acl_layers.specs.Rows.{seen_row}
use Rattle.acl_layers.specs.Layers.{seen_found, found_reach, FoundFits, IsWhole}
use Rattle.acl_worlds.specs.Contents.{Content, seen_world}
use Rattle.acl_engine.specs.Outcomes.{seen_stop, seen_body, IsMacroOf}
use Rattle.acl_expand.specs.Refusals.{IsToldFault}
use Rattle.acl_expand.specs.declared.looked.Looked.{Looked}
use Rattle.acl_expand.specs.declared.looked.Looked.TheVariants as looked

-- a fault, with the export that its stop is inside; want of memory is none
abbrev pub seen_fault : Objects → Option ℕ → ExpandFault → faults.ExpandFault
seen_fault h inside (fault.MacroArgs s) = faults.MacroArgs s.0
seen_fault h inside (fault.BadShape s) = faults.BadShape s.0
seen_fault h inside (fault.MacroStopped s) = faults.MacroStopped (seen_stop h s) inside
seen_fault h inside (fault.UnknownFunction s) = faults.UnknownFunction s.0
seen_fault h inside (fault.Arity s) = faults.Arity s.0
seen_fault h inside fault.TooNested = faults.TooNested
seen_fault h inside fault.Memory = faults.TooNested

-- what is seen stands for this; its words lie in the heap, what is left of a row fits it, a row that is used is a whole one, a macro
-- is one of the world, and a fault is no want of memory inside a macro
abbrev pub StandsLook : Objects → Content → Looked → expansion.Look → Type 0
StandsLook h w (looked.Stands f) o = (o ≡ expansion.Stands (seen_found h f)) × (found_reach f ≤ length h) × FoundFits h f
StandsLook h w (looked.Bad e) o = (o ≡ expansion.Bad (seen_fault h None e)) × IsToldFault e
StandsLook h w (looked.Use s row d) o = (o ≡ expansion.Use s.0 (seen_row row) (object_of h d)) × Lies h d × IsWhole row
StandsLook h w (looked.UserUse s m d) o =
    (o ≡ expansion.UserUse s.0 (seen_formals h m.now.formals) (seen_body h m.now) (object_of h d)) × Lies h d × IsMacroOf w m.now

-- what an expansion goes by, as it stands in a heap
abbrev pub setting_at : Objects → Content → Table → ℕ → ℕ → expansion.Setting
setting_at h w t steps depth = record { world = seen_world h w; packages = t.packages; steps = steps; depth = depth }

-- the macro that a definition is; where it is none, it is looked at as a function
abbrev pub SeenMacro : Objects → Option Macro → Definition → ℕ → Object ℕ → Type 0
SeenMacro h (Some m) def s d = def ≡ definition.Macro m
SeenMacro h None def s d = expansion.defined_look s d (Some (seen_definition h def)) ≡ expansion.function_look s d (expansion.arity_of (Some (seen_definition h def)))
