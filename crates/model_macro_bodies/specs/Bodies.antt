-- What the body of a macro needs of a world and of a table of trees, to be run by a machine over trees.
use Rattle.std.specs.Prelude.{◌≡◌, length, Some, None}
use Rattle.model_terms.specs.Cores.{Core}
use Rattle.model_terms.specs.Worlds.{World, MacroFormals}
use Rattle.model_terms.specs.Faults.{formal_names, macro_fault}
use Rattle.model_accepted.specs.Threaded.{IsFormed, Suits, IsThreaded}
use Rattle.model_slots.specs.Trees.{Tree}
use Rattle.model_slots.specs.Environments.{formal_environment}
use Rattle.model_slots.specs.Resolved.{resolved}
use Rattle.model_window.specs.Frames.{Code}
use Rattle.model_window.specs.Stands.{Origins, IsEarlier, HoldsTrees}
use Rattle.model_fitting.specs.Steps.{AreOrigins}

-- the functions of the world were accepted, and these are their trees
pub record AreRun (w : World) (code : Code) : Type 0 where
  pub threaded : IsThreaded w
  pub origins : Origins
  pub are : AreOrigins w origins
  pub holds : HoldsTrees w origins code

-- no rule failed at the macro in a world that became this one, and this is the tree of its body under its formals
pub record HasBody (w : World) (formals : MacroFormals) (body : Core) (tree : Tree) : Type 0 where
  pub world : World
  pub suits : Suits world w
  pub earlier : IsEarlier world w
  pub formed : IsFormed world body
  pub accepted : macro_fault world formals body ≡ None
  pub is : resolved world (formal_environment (formal_names formals)) (length (formal_names formals)) body ≡ Some tree
