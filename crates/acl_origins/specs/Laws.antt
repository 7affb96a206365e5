-- What is said of functions and macros that a machine runs from a table of terms, as definitions enter their world, as laws.
use Rattle.std.specs.Prelude.{◌≡◌, List, [], ◌∷◌, ◌++◌, None, Some}
use Rattle.std.specs.List.{AllByRecursion}
use Rattle.acl_heap.specs.Objects.{Objects}
use Rattle.model_terms.specs.Worlds.{World}
use Rattle.model_terms.specs.Faults.{clique_fault, formal_names, macro_fault}
use Rattle.model_accepted.specs.Threaded.{IsThreaded}
use Rattle.model_macro_bodies.specs.Bodies.{AreRun}
use Rattle.model_expansion_forms.specs.Nodes.{IsWellCalled}
use Rattle.model_events.specs.Functions.{Candidate, members}
use Rattle.model_books.specs.Opening.{opening_world}
use Rattle.model_made.specs.Lawful.{IsLawfulWorld}
use Rattle.model_origins.specs.Plain.{IsOfNoStobj, IsPlain}
use Rattle.model_origins.specs.Admitted.{AreAdmitted, checking_world}
use Rattle.acl_terms.specs.Definitions.{seen_definitions, seen_formals}
use Rattle.acl_terms.specs.Forms.{seen_core}
use Rattle.acl_terms.specs.declared.definition.Macro.{Macro}
use Rattle.acl_terms.specs.declared.definition.Definition.{Definition}
use Rattle.acl_terms.specs.declared.definition.Definition.TheVariants as definition
use Rattle.acl_worlds.specs.Contents.{Content, seen_world}
use Rattle.acl_code.specs.declared.term.Term.{Term}
use Rattle.acl_code.specs.Tables.{forest, Grown, IsBuilt}
use Rattle.acl_translate.specs.Functions.{formal_tree}
use Rattle.acl_machine.specs.Views.{code_with}
use Rattle.acl_cliques.specs.Entered.{Entered}
use Rattle.acl_tables.specs.Plain.{HasNoCode}
use Rattle.acl_tables.specs.Within.{AllWithin}
use Rattle.acl_origins.specs.Bodies.{MacrosWithin, HasNoBody, HaveBodies, HadBodies}
use Rattle.acl_origins.specs.Were.{WereRun}

-- functions to come, constants and macros leave the functions of a world as they are run
pub record PlainDefinitionsKeepRuns : Type 0 where
  pub runs : (h : Objects) (old new : Content) (ds : List Definition) (before after : List Term) → new.definitions ≡ old.definitions ++ ds → AllByRecursion IsPlain (seen_definitions h ds)
      → AllWithin before old.definitions → Grown before after
      → AreRun (seen_world h old) (code_with (forest h before) old.definitions) → AreRun (seen_world h new) (code_with (forest h after) new.definitions)
  pub were : (h : Objects) (old new : Content) (ds : List Definition) (before after : List Term) → new.definitions ≡ old.definitions ++ ds → AllByRecursion IsPlain (seen_definitions h ds)
      → AllWithin before old.definitions → Grown before after → IsLawfulWorld (seen_world h old)
      → WereRun (seen_world h old) (code_with (forest h before) old.definitions) → WereRun (seen_world h new) (code_with (forest h after) new.definitions)

-- so do stobjs with their functions, where the worlds in which functions were checked became the world
pub record StobjsKeepRuns : Type 0 where
  pub were : (h : Objects) (old new : Content) (ds : List Definition) (before after : List Term) → new.definitions ≡ old.definitions ++ ds → AllByRecursion HasNoCode ds
      → AllWithin before old.definitions → Grown before after → IsLawfulWorld (seen_world h old) → IsLawfulWorld (seen_world h new)
      → WereRun (seen_world h old) (code_with (forest h before) old.definitions) → WereRun (seen_world h new) (code_with (forest h after) new.definitions)

-- functions that are admitted together are run, and those that stood are
pub record FunctionsKeepRuns : Type 0 where
  pub accepted : (h : Objects) (old new : Content) (ts : List Term) (cs : List Candidate) → Entered h old new ts cs → clique_fault (checking_world (seen_world h old) cs) 0 (members cs) ≡ None
  pub lawful : (h : Objects) (old new : Content) (ts : List Term) (cs : List Candidate) → IsLawfulWorld (seen_world h old) → AreAdmitted (seen_world h old) cs → Entered h old new ts cs → IsLawfulWorld (seen_world h new)
  pub runs : (h : Objects) (old new : Content) (before after : List Term) (cs : List Candidate) → IsLawfulWorld (seen_world h old) → AreAdmitted (seen_world h old) cs
      → AllWithin before old.definitions → Grown before after → Entered h old new after cs
      → AreRun (seen_world h old) (code_with (forest h before) old.definitions) → AreRun (seen_world h new) (code_with (forest h after) new.definitions)
  pub were : (h : Objects) (old new : Content) (before after : List Term) (cs : List Candidate) → IsLawfulWorld (seen_world h old) → AreAdmitted (seen_world h old) cs
      → AllWithin before old.definitions → Grown before after → Entered h old new after cs
      → WereRun (seen_world h old) (code_with (forest h before) old.definitions) → WereRun (seen_world h new) (code_with (forest h after) new.definitions)

-- the bodies of macros are as they were, and those that enter are their own
pub record BodiesAreKept : Type 0 where
  pub within : (ds others : List Definition) (before after : List Term) → MacrosWithin before ds → Grown before after → MacrosWithin after others → MacrosWithin after (ds ++ others)
  pub plain : (h : Objects) (old new : Content) (ds : List Definition) (before after : List Term) → new.definitions ≡ old.definitions ++ ds → AllByRecursion IsOfNoStobj (seen_definitions h ds)
      → MacrosWithin before old.definitions → Grown before after
      → HaveBodies h (seen_world h old) before old.definitions → HaveBodies h (seen_world h new) after ds → HaveBodies h (seen_world h new) after new.definitions
  pub had : (h : Objects) (old new : Content) (ds : List Definition) (before after : List Term) → new.definitions ≡ old.definitions ++ ds → IsLawfulWorld (seen_world h old)
      → MacrosWithin before old.definitions → Grown before after
      → HadBodies h (seen_world h old) before old.definitions → HadBodies h (seen_world h new) after ds → HadBodies h (seen_world h new) after new.definitions
  -- definitions without macros, as those of functions are
  pub none_within : (ts : List Term) (ds : List Definition) → AllByRecursion HasNoBody ds → MacrosWithin ts ds
  pub none : (h : Objects) (w : World) (ts : List Term) (ds : List Definition) → AllByRecursion HasNoBody ds → HadBodies h w ts ds
  pub functions : (h : Objects) (old new : Content) (ts : List Term) (cs : List Candidate) (e : Entered h old new ts cs) → AllByRecursion HasNoBody e.definitions
  pub no_stobjs : (h : Objects) (old new : Content) (ts : List Term) (cs : List Candidate) (e : Entered h old new ts cs) → AllByRecursion IsOfNoStobj (seen_definitions h e.definitions)
  -- a macro whose term was made
  pub macro : (h : Objects) (old new : Content) (m : Macro) (after : List Term) → new.definitions ≡ old.definitions ++ definition.Macro m ∷ [] → IsLawfulWorld (seen_world h old)
      → IsWellCalled (seen_world h old) (seen_core h m.body) → macro_fault (seen_world h old) (seen_formals h m.formals) (seen_core h m.body) ≡ None
      → IsBuilt h after (Some m.body_term) (formal_tree (seen_world h old) (formal_names (seen_formals h m.formals)) (seen_core h m.body))
      → HadBodies h (seen_world h new) after (definition.Macro m ∷ [])
  pub have : (h : Objects) (w : World) (ts : List Term) (ds : List Definition) → HadBodies h w ts ds → HaveBodies h w ts ds

-- without functions that were written and without macros there is nothing to be run, as in the world that every session begins with
pub record PlainWorldsAreRun : Type 0 where
  pub were : (h : Objects) (w : Content) (ts : List Term) → AllByRecursion IsPlain (seen_world h w) → IsThreaded (seen_world h w) → WereRun (seen_world h w) (code_with (forest h ts) w.definitions)
  pub opening : (h : Objects) (w : Content) (ts : List Term) → seen_world h w ≡ opening_world
      → WereRun (seen_world h w) (code_with (forest h ts) w.definitions) × HadBodies h (seen_world h w) ts w.definitions × AllWithin ts w.definitions × MacrosWithin ts w.definitions
