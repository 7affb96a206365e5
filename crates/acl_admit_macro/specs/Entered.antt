-- A world with a macro and its term.
use Rattle.std.specs.Prelude.{◌≡◌, ℕ, ◌≤◌, List, length, max, Some, None}
use Rattle.model_objects.specs.Object.{Object}
use Rattle.model_terms.specs.Faults.{formal_names, macro_fault}
use Rattle.model_expansion.specs.Expansion.{Setting, Progress}
use Rattle.acl_base.specs.declared.TermId.{TermId}
use Rattle.acl_heap.specs.Objects.{Objects}
use Rattle.acl_terms.specs.declared.definition.Macro.{Macro}
use Rattle.acl_terms.specs.declared.definition.Definition.TheVariants as definition
use Rattle.acl_terms.specs.Definitions.{seen_formals, formals_reach, definition_reach}
use Rattle.acl_terms.specs.Forms.{seen_core, core_reach}
use Rattle.acl_worlds.specs.Contents.{Content, seen_world, with_definition}
use Rattle.acl_code.specs.declared.term.Term.{Term}
use Rattle.acl_code.specs.Tables.{IsBuilt}
use Rattle.acl_translate.specs.Functions.{formal_tree}
use Rattle.acl_admit_macro.specs.declared.expanded.ExpandedMacro.{ExpandedMacro}
use Rattle.acl_admit_macro.specs.Admitted.{Expands}

-- the macro with the number of its term
abbrev pub macro_of : ExpandedMacro → TermId → Macro
macro_of e t = record { name = e.name; formals = e.formals; body = e.body; body_term = t }

-- how many cells a heap has at least in which the words of a macro lie
abbrev pub expanded_reach : ExpandedMacro → ℕ
expanded_reach e = max (formals_reach e.formals) (core_reach e.body)

-- a macro that the rules accept stands behind what the world had, and its term stands for the tree of its body under its formals
pub record Enters (h : Objects) (old new : Content) (ts : List Term) (m : Macro) : Type 0 where
  pub world : new ≡ with_definition old (definition.Macro m)
  pub lies : definition_reach (definition.Macro m) ≤ length h
  pub accepted : macro_fault (seen_world h old) (seen_formals h m.formals) (seen_core h m.body) ≡ None
  pub term : IsBuilt h ts (Some m.body_term) (formal_tree (seen_world h old) (formal_names (seen_formals h m.formals)) (seen_core h m.body))

-- such a macro of this name, whose body is expanded from what stands behind the head
pub record HasEntered (h : Objects) (old new : Content) (ts : List Term) (x : Setting) (form : Object ℕ) (p q : Progress) (name : ℕ) : Type 0 where
  pub definition : Macro
  pub named : definition.name.0 ≡ name
  pub expands : Expands x form p q definition.name.0 (seen_formals h definition.formals) (seen_core h definition.body)
  pub enters : Enters h old new ts definition
