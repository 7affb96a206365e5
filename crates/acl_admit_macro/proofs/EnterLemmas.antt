-- A macro whose body is expanded, as its entry asks it, and the world that it enters.
use Rattle.std.specs.Prelude.{◌≡◌, ℕ, ◌≤◌, List, [], ◌∷◌, ◌++◌, length, Bool, true, false, ◌&&◌, Some, None, nat_le, refl}
use Rattle.std.proofs.Common.{arith}
use Rattle.std.proofs.lemmas.Bool.Decides.{nat_tests}
use Rattle.model_terms.specs.Faults.{formal_names, macro_fault}
use Rattle.model_stobjs.specs.Heads.{name_in_use}
use Rattle.acl_base.specs.declared.TermId.{TermId}
use Rattle.acl_heap.specs.Objects.{Objects}
use Rattle.acl_terms.specs.declared.definition.Definition.TheVariants as definition
use Rattle.acl_terms.specs.declared.definition.Macro.{Macro}
use Rattle.acl_terms.specs.declared.definition.MacroFormals.{MacroFormals}
use Rattle.acl_terms.specs.declared.form.Core.{Core}
use Rattle.acl_terms.specs.Definitions.{seen_formals}
use Rattle.acl_terms.specs.Forms.{seen_core, core_reach}
use Rattle.acl_thread.specs.Sizes as thread
use Rattle.acl_code.specs.declared.term.Term.{Term}
use Rattle.acl_code.specs.Sizes as code
use Rattle.acl_code.specs.Tables.{IsBuilt}
use Rattle.acl_translate.specs.Functions.{formal_tree}
use Rattle.acl_worlds.specs.Contents.{Content, IsWorld, seen_world, number_of, with_definition}
use Rattle.acl_narrow.specs.Narrow.{is_narrow}
use Rattle.acl_narrow.proofs.FitLemmas.{narrow_fit}
use Rattle.acl_definitions.proofs.AddLemmas as adding
use Rattle.acl_definitions.proofs.LawLemmas.{are_added}
use Rattle.acl_admit_macro.specs.declared.expanded.ExpandedMacro.{ExpandedMacro}
use Rattle.acl_admit_macro.specs.Ready.{is_ready}
use Rattle.acl_admit_macro.specs.Entered.{macro_of, expanded_reach, Enters}

-- ---- its size

left : (p q : Bool) → (p && q) ≡ true → p ≡ true
left true q e = refl
left false q e = e

right : (p q : Bool) → (p && q) ≡ true → q ≡ true
right true q e = e
right false q e = absurd (cc)

is_le : (n m : ℕ) → nat_le n m ≡ true → n ≤ m
is_le n m e = grind (arith, nat_tests)

module _ (h : Objects) (formals : MacroFormals) (body : Core) (e : is_ready (seen_formals h formals) (seen_core h body) ≡ true) (l : core_reach body ≤ length h) where
  narrow : is_narrow 2048 (seen_core h body) ≡ true
  narrow = right _ _ e

  pub ready_fits : thread.Fits h body
  ready_fits = narrow_fit.checked h body narrow l

  pub ready_room : code.Fits h (length (formal_names (seen_formals h formals))) body
  ready_room = narrow_fit.made h (length (formal_names (seen_formals h formals))) body (is_le _ _ (left _ _ e)) narrow l

-- ---- its name

pub new_name : (h : Objects) (w : Content) (m : Macro) → IsWorld w → name_in_use (seen_world h w) (m.name.0 ∷ []) ≡ None → number_of w m.name.0 ≡ None
new_name h w m i e = adding.new_name w.definitions [] (w.definitions ++ definition.Macro m ∷ []) (definition.Macro m) refl (are_added.fresh h w (definition.Macro m ∷ []) i e)

-- ---- the world

pub enters : (h : Objects) (old new : Content) (ts : List Term) (m : ExpandedMacro) (t : TermId) → new ≡ with_definition old (definition.Macro (macro_of m t)) → expanded_reach m ≤ length h
    → macro_fault (seen_world h old) (seen_formals h m.formals) (seen_core h m.body) ≡ None
    → IsBuilt h ts (Some t) (formal_tree (seen_world h old) (formal_names (seen_formals h m.formals)) (seen_core h m.body)) → Enters h old new ts (macro_of m t)
enters h old new ts m t e l a b = record { world = e; lies = l; accepted = a; term = b }
