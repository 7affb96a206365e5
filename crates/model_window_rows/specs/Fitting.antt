-- Whether what is bound fits in each turn of a row, with the proof where it does.
use Rattle.std.specs.Prelude.{◌≡◌, ℕ, zero, suc, List, [], ◌∷◌, ◌++◌, map, length, Bool, true, false, Option, Some, None, refl, is_some, option_map}
use Rattle.model_terms.specs.Cores.{Core, Cores, Var, Const, If, Let, Mv, MvLet, StobjLet, WithLocal, MustBeEqual, Call, none, more}
use Rattle.model_terms.specs.Worlds.{World, Definition, definition, Primitive, Defined, Macro, Constant, Concrete, Generated, Abstract, OfAbstract, Named, Signed}
use Rattle.model_terms.specs.Classes.{is_stobj_name}
use Rattle.model_eval.specs.Outcomes.{Shown, Plain, StobjNamed}
use Rattle.model_eval.specs.Keeping.{Keeping}
use Rattle.model_eval.specs.Variables.{single}
use Rattle.model_eval.specs.Evaluated.{RulesOf}
use Rattle.model_eval.specs.Checked.{live}
use Rattle.model_eval.specs.InPlace.{in_place_rules, begun_in_place}
use Rattle.model_eval_rows.specs.Books.{Row}
use Rattle.model_machine.specs.Frames.{Then, ThenBody, ThenValues, ThenCall, Step, Test, Parts, Several, Calling, Guarding, Running, Allowing, Exporting, Borrowing, Producing, Putting, Local, Last, Frame, Control, Begin, Give, Stopped, Machine, Turned, Going, Over}
use Rattle.model_machine.specs.Turns.{turn_of}
use Rattle.model_machine.specs.Ending.{begun_on}
use Rattle.model_slots.specs.Resolved.{both}
use Rattle.model_slots.specs.Laws.{AreAsNamed}
use Rattle.model_window.specs.Stands.{Origins, Worlds}
use Rattle.model_window.specs.Following.{worlds_after}
use Rattle.model_window.specs.Fitting.{FitFormals, FitGoal, FitParts, FitChildren, FitStep, FitFrames, FitForm, FitControl, Fits}
use Rattle.model_window.specs.Laws.{begun_in, FitsFor}
use Rattle.model_window.specs.Tables.{all_in}

abbrev pub is_true : (b : Bool) → Option (b ≡ true)
is_true true = Some refl
is_true false = None

abbrev pub is_not : (b : Bool) → Option (b ≡ false)
is_not true = None
is_not false = Some refl

abbrev pub as_many : {A B : Type 0} (xs : List A) (ys : List B) → Option (length xs ≡ length ys)
as_many [] [] = Some refl
as_many [] (y ∷ ys) = None
as_many (x ∷ xs) [] = None
as_many (x ∷ xs) (y ∷ ys) = option_map (λ e. λ i. suc (e i)) (as_many xs ys)

abbrev pub as_named : {S : Type 0} (c : World) (names : List ℕ) (values : List (Shown S)) → Option (AreAsNamed c names values)
as_named c [] values = Some tt
as_named c (x ∷ xs) [] = None
as_named c (x ∷ xs) (Plain o ∷ vs) = both (λ a b. (a, b)) (is_not (is_stobj_name c x)) (as_named c xs vs)
as_named c (x ∷ xs) (StobjNamed y ∷ vs) = both (λ a b. (a, b)) (is_true (is_stobj_name c x)) (as_named c xs vs)

abbrev pub fit_formals : {S : Type 0} (d : Option Definition) (actuals : List (Shown S)) → Option (FitFormals d actuals)
fit_formals None actuals = Some tt
fit_formals (Some (Primitive f row)) actuals = Some tt
fit_formals (Some (Defined f)) actuals = both (λ a b. (a, b)) (as_many f.formals actuals) (is_true f.executable)
fit_formals (Some (Macro f formals body)) actuals = Some tt
fit_formals (Some (Constant f value)) actuals = Some tt
fit_formals (Some (Concrete d class)) actuals = Some tt
fit_formals (Some (Generated g)) actuals = Some tt
fit_formals (Some (Abstract d)) actuals = Some tt
fit_formals (Some (OfAbstract f)) actuals = as_many f.formals actuals
fit_formals (Some (Named f formals)) actuals = Some tt
fit_formals (Some (Signed f formals signature executable)) actuals = Some tt

module _ {S O B : Type 0} {keeping : Keeping S O B} (r : RulesOf keeping) where
  abbrev pub fit_goal : (c : World) (goal : Then) (values : List (Shown S)) → Option (FitGoal r c goal values)
  fit_goal c (ThenBody names body) values = as_named c names values
  fit_goal c ThenValues values = Some tt
  fit_goal c (ThenCall f) values = Some tt

  abbrev pub fit_parts : (c : World) (forms : Cores) (goal : Then) (values : List (Shown S)) → Option (FitParts r c forms goal values)
  fit_parts c none goal values = fit_goal c goal values
  fit_parts c (more form forms) goal values = Some tt

  abbrev pub fit_children : (c : World) (forms : Cores) (names : List ℕ) → Option (FitChildren r c forms names)
  fit_children c none [] = Some refl
  fit_children c none (x ∷ xs) = None
  fit_children c (more form forms) names = Some tt

  abbrev pub fit_step : (c : World) (step : Step S B) (values : List (Shown S)) → Option (FitStep r c step values)
  fit_step c (Test b d) values = Some tt
  fit_step c (Parts forms before goal) values = fit_parts c forms goal (before ++ single r.kind values ∷ [])
  fit_step c (Several names body) values = as_named c names values
  fit_step c (Calling f actuals) values = fit_formals (definition r.world f) actuals
  fit_step c (Guarding export name formals actuals body behind) values = Some tt
  fit_step c (Running export formals actuals behind) values = Some tt
  fit_step c (Allowing f actuals begun behind) values = Some tt
  fit_step c (Exporting f actuals begun) values = fit_formals (definition r.world f.exec) actuals
  fit_step c (Borrowing names forms loans vars producer consumer) values = fit_children c forms names
  fit_step c (Producing vars loans consumer) values = as_named c vars values
  fit_step c (Putting vars left loans consumer given) values = as_named c vars given
  fit_step c (Local names body) values = as_named c names values
  fit_step c (Last export) values = Some tt

  abbrev pub fit_frames : (cs : List World) (frames : List (Frame S B)) (values : List (Shown S)) → Option (FitFrames r cs frames values)
  fit_frames cs [] values = Some tt
  fit_frames [] (f ∷ fs) values = Some tt
  fit_frames (c ∷ cs) (f ∷ fs) values = fit_step c f.step values

  abbrev pub fit_form : (c : World) (form : Core) → Option (FitForm r c form)
  fit_form c (Var x) = Some tt
  fit_form c (Const o) = Some tt
  fit_form c (If a b d) = Some tt
  fit_form c (Let names forms body) = fit_parts c forms (ThenBody names body) []
  fit_form c (Mv parts) = Some tt
  fit_form c (MvLet names form body) = Some tt
  fit_form c (StobjLet names forms vars producer consumer) = Some tt
  fit_form c (WithLocal stobj names producer body) = Some tt
  fit_form c (MustBeEqual logic exec) = Some tt
  fit_form c (Call f actuals) = Some tt

  abbrev pub fit_control : (worlds : Worlds) (frames : List (Frame S B)) (control : Control S) → Option (FitControl r worlds frames control)
  fit_control worlds frames (Begin form variables) = fit_form worlds.control form
  fit_control worlds frames (Give values) = fit_frames worlds.frames frames values
  fit_control worlds frames (Stopped stop origin) = Some tt

  abbrev pub fits : (worlds : Worlds) (m : Machine S O B) → Option (Fits r worlds m)
  fits worlds m = option_map (λ f. record { fits = f }) (fit_control worlds m.frames m.control)

  abbrev pub fits_for : (origins : Origins) (n : ℕ) (worlds : Worlds) (t : Turned S O B) → Option (FitsFor r origins n worlds t)
  fits_for origins n worlds (Over outcome) = Some tt
  fits_for origins zero worlds (Going m) = Some tt
  fits_for origins (suc n) worlds (Going m) = both (λ a b. (a, b)) (fits worlds m) (fits_for origins n (worlds_after r origins worlds m) (turn_of r m))

-- the machine over forms of a row, for so many turns
abbrev pub row_fits : Row → Bool
row_fits r =
    is_some (fits_for (in_place_rules r.world [] r.limit) (all_in r.world) 20000 (begun_in r.world) (Going (begun_on r.depth r.form (live r.stobjs) (begun_in_place [] r.stobjs 0))))

pub record TheyFit (rows : List Row) : Type 0 where
  pub all : map row_fits rows ≡ map (λ (r : Row). true) rows
