-- Worlds whose definitions were checked in worlds that became them: a condition that grows with the world.
use Rattle.std.specs.Prelude.{◌≡◌, ℕ, List, [], ◌∷◌, map, true, false, Some, None}
use Rattle.model_terms.specs.declared.rule.Mode.TheVariants.{Executable}
use Rattle.model_terms.specs.declared.role.AbstractRole.TheVariants as abstract_role
use Rattle.model_terms.specs.Cores.{Core}
use Rattle.model_terms.specs.Worlds.{World, Definition, Function, FunctionOfAbstract, definition, Primitive, Defined, Macro, Constant, Concrete, Generated, Abstract, OfAbstract, Named, Signed, Out, Signature}
use Rattle.model_terms.specs.Classes as classes
use Rattle.model_terms.specs.Classes.{repeats}
use Rattle.model_terms.specs.Accessors.{is_internal}
use Rattle.model_terms.specs.Sites.{one_ordinary}
use Rattle.model_terms.specs.Faults.{first_fault}
use Rattle.model_eval_laws.specs.Agreement.{StandsIn, IsClosedWorld}
use Rattle.model_accepted.specs.Threaded.{IsFormed, layout_of, Runs, Suits, AreFormals, formal_entries, IsMade, abstracted, AreOnly, IsConcrete, IsRecognizer, IsThreaded}
use Rattle.model_lawful.specs.Growth.{Becomes, HasLawfulStobjs}

-- a guard or a body that was accepted in a world that became this one
pub record WasChecked (w : World) (formals : List ℕ) (ins : List Out) (form : Core) (expected : List Out) : Type 0 where
  pub world : World
  pub closed : IsClosedWorld world
  pub lawful : HasLawfulStobjs world
  pub becomes : Becomes world w
  pub accepted : first_fault world Executable (formal_entries formals ins) form expected ≡ None
  pub formed : IsFormed world form

pub record WasAdmitted (w : World) (f : Function) : Type 0 where
  pub formals : AreFormals f.formals f.signature.ins
  pub distinct : repeats f.formals ≡ false
  pub guard : WasChecked w f.formals f.signature.ins f.guard one_ordinary
  pub body : WasChecked w f.formals f.signature.ins f.body f.signature.outs

pub record WasExported (w : World) (f : FunctionOfAbstract) : Type 0 where
  pub formals : AreFormals f.formals f.signature.ins
  pub distinct : repeats f.formals ≡ false
  pub guard : WasChecked w f.formals f.signature.ins f.guard one_ordinary
  pub foundation : ℕ
  pub stobj_there : StandsIn w f.stobj
  pub foundation_there : StandsIn w foundation
  pub alike : layout_of w f.stobj ≡ layout_of w foundation
  pub signature : Signature
  pub runs : Runs w f.exec signature
  pub concrete : IsConcrete runs.there
  pub ins : f.signature.ins ≡ map (abstracted f.stobj) signature.ins
  pub outs : f.signature.outs ≡ map (abstracted f.stobj) signature.outs
  pub only : classes.stobjs signature.ins ≡ foundation ∷ []
  pub only_outs : AreOnly foundation signature.outs

-- what is asked of a definition
abbrev pub IsReady : World → Definition → Type 0
IsReady w (Primitive name row) = Unit {0}
IsReady w (Defined f) = f.executable ≡ true → WasAdmitted w f
IsReady w (Macro name formals body) = Unit {0}
IsReady w (Constant name value) = Unit {0}
IsReady w (Concrete d class) = Unit {0}
IsReady w (Generated g) = is_internal w (Generated g) ≡ false → IsMade w g
IsReady w (Abstract d) = Unit {0}
IsReady w (OfAbstract f) = (f.role ≡ abstract_role.Export → WasExported w f) × (f.role ≡ abstract_role.Recognizer → IsRecognizer f)
IsReady w (Named name formals) = Unit {0}
IsReady w (Signed name formals signature executable) = Unit {0}

pub record IsLawful (w : World) : Type 0 where
  pub closed : IsClosedWorld w
  pub stobjs : HasLawfulStobjs w
  pub each : (x : ℕ) (d : Definition) → definition w x ≡ Some d → IsReady w d

-- between events no function is being admitted
abbrev pub IsSigned : Definition → Type 0
IsSigned (Signed name formals signature executable) = Unit {0}
IsSigned d = ⊥

-- a lawful world is threaded; and where it grows, only new definitions are to be looked at
pub record LawfulWorlds : Type 0 where
  pub threaded : (w : World) → IsLawful w → IsThreaded w
  pub suits : (w : World) → IsLawful w → ((x : ℕ) (d : Definition) → definition w x ≡ Some d → IsSigned d → ⊥) → Suits w w
  pub kept : (w new : World) → IsLawful w → Becomes w new → (x : ℕ) (d : Definition) → definition w x ≡ Some d → (IsSigned d → ⊥) → IsReady new d
