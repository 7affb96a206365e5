-- That what a machine binds next fits the names that it is bound to, as it does in evaluation of accepted forms.
use Rattle.std.specs.Prelude.{true, ◌≡◌, ℕ, List, [], ◌∷◌, ◌++◌, length, Option, Some, None}
use Rattle.model_terms.specs.Cores.{Core, Cores, Var, Const, If, Let, Mv, MvLet, StobjLet, WithLocal, MustBeEqual, Call, none, more}
use Rattle.model_terms.specs.Worlds.{World, Definition, definition, Primitive, Defined, Macro, Constant, Concrete, Generated, Abstract, OfAbstract, Named, Signed}
use Rattle.model_eval.specs.Outcomes.{Shown}
use Rattle.model_eval.specs.Keeping.{Keeping}
use Rattle.model_eval.specs.Variables.{single}
use Rattle.model_eval.specs.Evaluated.{RulesOf}
use Rattle.model_machine.specs.Frames.{Then, ThenBody, ThenValues, ThenCall, Step, Test, Parts, Several, Calling, Guarding, Running, Allowing, Exporting, Borrowing, Producing, Putting, Local, Last, Frame, Control, Begin, Give, Stopped, Machine}
use Rattle.model_slots.specs.Laws.{AreAsNamed}
use Rattle.model_window.specs.Stands.{Worlds}

-- as many actuals as formals, of a function that may be called
abbrev pub FitFormals : {S : Type 0} → Option Definition → List (Shown S) → Type 0
FitFormals None actuals = Unit {0}
FitFormals (Some (Primitive f row)) actuals = Unit {0}
FitFormals (Some (Defined f)) actuals = (length f.formals ≡ length actuals) × (f.executable ≡ true)
FitFormals (Some (Macro f formals body)) actuals = Unit {0}
FitFormals (Some (Constant f value)) actuals = Unit {0}
FitFormals (Some (Concrete d class)) actuals = Unit {0}
FitFormals (Some (Generated g)) actuals = Unit {0}
FitFormals (Some (Abstract d)) actuals = Unit {0}
FitFormals (Some (OfAbstract f)) actuals = length f.formals ≡ length actuals
FitFormals (Some (Named f formals)) actuals = Unit {0}
FitFormals (Some (Signed f formals signature executable)) actuals = Unit {0}

module _ {S O B : Type 0} {keeping : Keeping S O B} (r : RulesOf keeping) (c : World) where
  -- these values of all parts are bound as the names say
  abbrev pub FitGoal : Then → List (Shown S) → Type 0
  FitGoal (ThenBody names body) values = AreAsNamed c names values
  FitGoal ThenValues values = Unit {0}
  FitGoal (ThenCall f) values = Unit {0}

  abbrev pub FitParts : Cores → Then → List (Shown S) → Type 0
  FitParts none goal values = FitGoal goal values
  FitParts (more form forms) goal values = Unit {0}

  -- no name is left that nothing is bound to
  abbrev pub FitChildren : Cores → List ℕ → Type 0
  FitChildren none names = names ≡ []
  FitChildren (more form forms) names = Unit {0}

  abbrev pub FitStep : Step S B → List (Shown S) → Type 0
  FitStep (Test b d) values = Unit {0}
  FitStep (Parts forms before goal) values = FitParts forms goal (before ++ single r.kind values ∷ [])
  FitStep (Several names body) values = AreAsNamed c names values
  FitStep (Calling f actuals) values = FitFormals (definition r.world f) actuals
  FitStep (Guarding export name formals actuals body behind) values = Unit {0}
  FitStep (Running export formals actuals behind) values = Unit {0}
  FitStep (Allowing f actuals begun behind) values = Unit {0}
  FitStep (Exporting f actuals begun) values = FitFormals (definition r.world f.exec) actuals
  FitStep (Borrowing names forms loans vars producer consumer) values = FitChildren forms names
  FitStep (Producing vars loans consumer) values = AreAsNamed c vars values
  FitStep (Putting vars left loans consumer given) values = AreAsNamed c vars given
  FitStep (Local names body) values = AreAsNamed c names values
  FitStep (Last export) values = Unit {0}

  -- a `LET` of no names
  abbrev pub FitForm : Core → Type 0
  FitForm (Var x) = Unit {0}
  FitForm (Const o) = Unit {0}
  FitForm (If a b d) = Unit {0}
  FitForm (Let names forms body) = FitParts forms (ThenBody names body) []
  FitForm (Mv parts) = Unit {0}
  FitForm (MvLet names form body) = Unit {0}
  FitForm (StobjLet names forms vars producer consumer) = Unit {0}
  FitForm (WithLocal stobj names producer body) = Unit {0}
  FitForm (MustBeEqual logic exec) = Unit {0}
  FitForm (Call f actuals) = Unit {0}

module _ {S O B : Type 0} {keeping : Keeping S O B} (r : RulesOf keeping) where
  abbrev pub FitFrames : List World → List (Frame S B) → List (Shown S) → Type 0
  FitFrames cs [] values = Unit {0}
  FitFrames [] (f ∷ fs) values = Unit {0}
  FitFrames (c ∷ cs) (f ∷ fs) values = FitStep r c f.step values

  abbrev pub FitControl : Worlds → List (Frame S B) → Control S → Type 0
  FitControl worlds frames (Begin form variables) = FitForm r worlds.control form
  FitControl worlds frames (Give values) = FitFrames worlds.frames frames values
  FitControl worlds frames (Stopped stop origin) = Unit {0}

-- what the machine binds in its next turn fits the names, which are stobjs' or not in the worlds in which the forms were resolved
pub record Fits {S O B : Type 0} {keeping : Keeping S O B} (r : RulesOf keeping) (worlds : Worlds) (m : Machine S O B) : Type 0 where
  pub fits : FitControl r worlds m.frames m.control
