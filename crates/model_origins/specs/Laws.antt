-- What is said of the worlds in which functions were checked as a world grows, as laws.
use Rattle.std.specs.Prelude.{◌≡◌, List, [], ◌++◌, length, None, Some}
use Rattle.std.specs.List.{AllByRecursion}
use Rattle.model_terms.specs.Cores.{Core}
use Rattle.model_terms.specs.Worlds.{World, MacroFormals}
use Rattle.model_terms.specs.Faults.{clique_fault, formal_names, macro_fault}
use Rattle.model_accepted.specs.Threaded.{Suits, IsThreaded}
use Rattle.model_slots.specs.Trees.{Tree}
use Rattle.model_slots.specs.Environments.{formal_environment}
use Rattle.model_slots.specs.Resolved.{resolved}
use Rattle.model_window.specs.Stands.{Origins}
use Rattle.model_fitting.specs.Steps.{AreOrigins}
use Rattle.model_macro_bodies.specs.Bodies.{HasBody}
use Rattle.model_expansion.specs.Expansion.{Setting, Progress, Makes}
use Rattle.model_expansion_forms.specs.Nodes.{IsWellCalled}
use Rattle.model_events.specs.Functions.{WrittenFunction, Candidate, written_fault, drafts_of, with_names, all_expanded, members}
use Rattle.model_books.specs.Opening.{opening_world}
use Rattle.model_made.specs.Lawful.{IsLawfulWorld}
use Rattle.model_origins.specs.Plain.{IsOfNoStobj, IsPlain, IsBare}
use Rattle.model_origins.specs.Going.{GoOn, HaveElse}
use Rattle.model_origins.specs.Before.{IsBefore, AreBefore, HadBody, HasNoCode}
use Rattle.model_origins.specs.Admitted.{AreAdmitted, checking_world, world_with}

-- definitions of no stobj change nothing that was found in a world; where none of them is a function that was written, the
-- functions of the world are as they were
pub record PlainDefinitionsKeepOrigins : Type 0 where
  pub suits : (w new : World) → AllByRecursion IsOfNoStobj new → (c : World) → Suits c w → Suits c (w ++ new)
  pub body : (w new : World) → AllByRecursion IsOfNoStobj new → (formals : MacroFormals) (body : Core) (tree : Tree) → HasBody w formals body tree → HasBody (w ++ new) formals body tree
  pub threaded : (w new : World) → AllByRecursion IsPlain new → IsThreaded w → IsThreaded (w ++ new)
  pub origins : (w new : World) → AllByRecursion IsPlain new → (origins : Origins) → AreOrigins w origins → AreOrigins (w ++ new) origins

-- functions that enter were checked in the world in which they stand by their signatures, and what stood was checked where it was
pub record FunctionsKeepOrigins : Type 0 where
  pub lawful : (w : World) (cs : List Candidate) → IsLawfulWorld w → AreAdmitted w cs → IsLawfulWorld (world_with w cs)
  pub threaded : (w : World) (cs : List Candidate) → IsLawfulWorld w → AreAdmitted w cs → IsThreaded w → IsThreaded (world_with w cs)
  pub origins : (w : World) (cs : List Candidate) → IsLawfulWorld w → AreAdmitted w cs → (old later : Origins) → GoOn w old later → HaveElse w (checking_world w cs) later
      → AreOrigins w old → AreOrigins (world_with w cs) later
  pub body : (w : World) (cs : List Candidate) (formals : MacroFormals) (body : Core) (tree : Tree) → HasBody w formals body tree → HasBody (world_with w cs) formals body tree

-- an event whose functions have names, formals and declarations that may be, are expanded and fail at no rule, admits them
pub record EventsAdmit : Type 0 where
  pub admitted : (x : Setting) (fs : List WrittenFunction) (p q : Progress) (cs : List Candidate) → IsLawfulWorld x.world → written_fault p.symbols x.world fs ≡ None
      → all_expanded (record x { world = with_names x.world (drafts_of p.symbols fs) }) (drafts_of p.symbols fs) [] p ≡ Makes cs q
      → clique_fault (checking_world x.world cs) 0 (members cs) ≡ None → AreAdmitted x.world cs

-- a macro in whose body no rule fails has that body, as it is run, in the world that it enters
pub record MacrosHaveBodies : Type 0 where
  pub body : (w new : World) → IsLawfulWorld w → AllByRecursion IsOfNoStobj new → (formals : MacroFormals) (body : Core) (tree : Tree) → IsWellCalled w body → macro_fault w formals body ≡ None
      → resolved w (formal_environment (formal_names formals)) (length (formal_names formals)) body ≡ Some tree → HasBody (w ++ new) formals body tree

-- a world without functions that were written has whatever origins; that with which every session begins has primitives and
-- constants alone, and is threaded
pub record PlainWorldsHaveOrigins : Type 0 where
  pub origins : (w : World) → AllByRecursion IsPlain w → (origins : Origins) → AreOrigins w origins
  pub opening : AllByRecursion IsBare opening_world
  pub threaded : IsThreaded opening_world

-- where the worlds in which functions were checked became the world, also stobjs may enter: any definitions without functions that
-- were written and without functions of abstract stobjs
pub record WorldsBeforeStay : Type 0 where
  pub suits : (c w : World) → IsBefore c w → Suits c w
  pub later : (w new : World) → IsLawfulWorld w → (c : World) → IsBefore c w → IsBefore c (w ++ new)
  pub before : (w new : World) → IsLawfulWorld w → AllByRecursion HasNoCode new → (origins : Origins) → AreBefore w origins → AreBefore (w ++ new) origins
  pub origins : (w new : World) → IsLawfulWorld w → AllByRecursion HasNoCode new → (origins : Origins) → AreBefore w origins → AreOrigins w origins → AreOrigins (w ++ new) origins
  pub functions : (w : World) (cs : List Candidate) → IsLawfulWorld w → AreAdmitted w cs → (old later : Origins) → GoOn w old later → HaveElse w (checking_world w cs) later
      → AreBefore w old → AreBefore (world_with w cs) later
  pub body : (w new : World) → IsLawfulWorld w → (formals : MacroFormals) (body : Core) (tree : Tree) → HadBody w formals body tree → HadBody (w ++ new) formals body tree
  pub macro : (w new : World) → IsLawfulWorld w → (formals : MacroFormals) (body : Core) (tree : Tree) → IsWellCalled w body → macro_fault w formals body ≡ None
      → resolved w (formal_environment (formal_names formals)) (length (formal_names formals)) body ≡ Some tree → HadBody (w ++ new) formals body tree
  pub plain : (w : World) → AllByRecursion IsPlain w → (origins : Origins) → AreBefore w origins
