-- Machines that do what accepted forms do fit in each turn.
use Rattle.std.proofs.Common.{◌≡◌, ℕ, zero, suc, List, [], ◌∷◌, ◌++◌, length, true, false, Option, Some, None, refl, sym, ap, ◌∙◌, subst, arith, inl, inr}
use Rattle.std.specs.Prelude.{◌⊎◌}
use Rattle.model_symbols.specs.Symbols.{Package}
use Rattle.model_prims.specs.Kinds.{by_number}
use Rattle.model_terms.specs.Cores as cores
use Rattle.model_terms.specs.declared.rule.Mode.TheVariants.{Executable}
use Rattle.model_terms.specs.Cores.{Core, Cores, none, more, count}
use Rattle.model_terms.specs.Worlds.{World, Out, Ordinary, Signature, Scope, Definition, definition, Primitive, Defined, Macro, Constant, Concrete, Generated, Abstract, OfAbstract, Named, Signed}
use Rattle.model_terms.specs.Worlds as worlds
use Rattle.model_terms.specs.Classes.{is_stobj_name}
use Rattle.model_terms.specs.Outputs.{signature_in}
use Rattle.model_terms.specs.Accessors.{is_executable}
use Rattle.model_terms.specs.Scopes.{name_kind, name_kinds}
use Rattle.model_eval.specs.Outcomes.{Shown, Plain, StobjNamed, StateOf}
use Rattle.model_eval.specs.Keeping.{Keeping}
use Rattle.model_eval.specs.Variables.{Variables, single}
use Rattle.model_eval.specs.Evaluated.{RulesOf}
use Rattle.model_accepted.specs.Threaded.{IsFormed, AreFormals, IsThreaded}
use Rattle.model_accepted.specs.StobjScopes.{IsOutput, AreOutputs}
use Rattle.model_accepted.proofs.AcceptLemmas.{accepted_first}
use Rattle.model_accepted.proofs.ScopeLemmas.{some_same, name_is_object, name_is_ordinary, kind_or}
use Rattle.model_in_place.specs.Calls.{AreArguments}
use Rattle.model_machine.specs.Frames.{Then, ThenBody, ThenValues, ThenCall, Step, Test, Parts, Several, Calling, Guarding, Running, Allowing, Exporting, Borrowing, Producing, Putting, Local, Last, Frame, Control, Begin, Give, Stopped, Machine, Turned, Going}
use Rattle.model_machine.specs.Frames as machine
use Rattle.model_machine.specs.Ending.{begun_on}
use Rattle.model_machine.specs.Turns.{turn_of, turn_by, give, close}
use Rattle.model_slots.specs.Laws.{AreAsNamed}
use Rattle.model_window.specs.Stands.{Origins, Worlds}
use Rattle.model_window.specs.Following.{after_give, after_control, after_stop, worlds_after}
use Rattle.model_window.specs.Fitting.{FitFormals, FitGoal, FitParts, FitChildren, FitStep, FitForm, FitFrames, FitControl}
use Rattle.model_window.specs.Laws.{begun_in, FitsFor}
use Rattle.model_fitting.specs.Steps.{IsReady, AreReady, IsCall, ThenFits, Bodies, Values, Calls, StepFits, Parted, Severals, Called, Exports, Borrows, Produces, Puts, Locals, FramesFit, Nothing, Inside, ControlFits, TurnFits, AreOrigins}
use Rattle.model_fitting.specs.Laws.{AcceptedFit}
use Rattle.model_fitting.proofs.DefinitionLemmas.{rules, exec_call}
use Rattle.model_fitting.proofs.BeginLemmas.{begin_fits}
use Rattle.model_fitting.proofs.StepLemmas.{outs_more, step_fits}

-- ---- names

-- values as the kinds of names say are stobjs where the names are
named : (c : World) (scope : Scope) (names : List ℕ) (values : List (Shown ℕ)) → AreOutputs scope (name_kinds c names) values → AreAsNamed c names values
named c scope [] values a = tt
named c scope (x ∷ xs) [] a = absurd a
named c scope (x ∷ xs) (v ∷ vs) a = one v (kind_or c x) a.0 (named c scope xs vs a.1)
  where
    one : (v : Shown ℕ) → (is_stobj_name c x ≡ true) ⊎ (is_stobj_name c x ≡ false) → IsOutput scope (name_kind c x) v → AreAsNamed c xs vs → AreAsNamed c (x ∷ xs) (v ∷ vs)
    one (Plain o) (inl e) i r = absurd (subst (λ (k : Out). IsOutput scope k (Plain o)) (name_is_object c x e) i)
    one (Plain o) (inr e) i r = (e, r)
    one (StobjNamed y) (inl e) i r = (e, r)
    one (StobjNamed y) (inr e) i r = absurd (subst (λ (k : Out). IsOutput scope k (StobjNamed y)) (name_is_ordinary c x e) i)

no_names : (names : List ℕ) → 0 ≡ length names → names ≡ []
no_names [] e = refl
no_names (x ∷ xs) e = absurd (omega (arith, e))

-- ---- lengths

formals_length : (xs : List ℕ) (ks : List Out) → AreFormals xs ks → length xs ≡ length ks
formals_length [] [] f = refl
formals_length [] (k ∷ ks) f = absurd f
formals_length (x ∷ xs) [] f = absurd f
formals_length (x ∷ xs) (Ordinary ∷ ks) f = let n : length xs ≡ length ks = formals_length xs ks f in omega (arith, n)
formals_length (x ∷ xs) (worlds.Stobj y ∷ ks) f = let n : length xs ≡ length ks = formals_length xs ks f.1 in omega (arith, n)

arguments_length : (w : World) (scope : Scope) (ks : List Out) (vs : List (Shown ℕ)) → AreArguments w scope ks vs → length ks ≡ length vs
arguments_length w scope [] [] a = refl
arguments_length w scope [] (v ∷ vs) a = absurd a
arguments_length w scope (k ∷ ks) [] a = absurd a
arguments_length w scope (k ∷ ks) (v ∷ vs) a = let n : length ks ≡ length vs = arguments_length w scope ks vs a.1 in omega (arith, n)

module _ {O B : Type 0} (keeping : Keeping ℕ O B) (w : World) (threaded : IsThreaded w) (packages : List Package) (limit : ℕ) (origins : Origins) (checked : AreOrigins w origins) where
  abbrev rs : RulesOf keeping
  rs = rules keeping w threaded packages limit origins checked

  -- ---- what is bound fits

  formals_fit : (scope : Scope) (given : List Out) (f : ℕ) (actuals : List (Shown ℕ)) → IsCall w scope given f actuals → FitFormals (definition w f) actuals
  formals_fit scope given f actuals i =
      subst (λ (d : Option Definition). FitFormals d actuals) (sym i.runs.stands)
      (go i.runs.there i.runs.stands i.runs.signed i.runs.executable)
    where
      go : (d : Definition) → definition w f ≡ Some d → signature_in d ≡ Some i.signature → is_executable d ≡ true → FitFormals (Some d) actuals
      go (Primitive name row) there signed runs = tt
      go (Defined g) there signed runs =
          let same : g.signature ≡ i.signature = some_same signed in
          (formals_length g.formals g.signature.ins (threaded.functions f g there runs).formals ∙ (ap (λ (s : Signature). length s.ins) same ∙ arguments_length w scope i.signature.ins actuals i.arguments), runs)
      go (Macro name formals body) there signed runs = tt
      go (Constant name value) there signed runs = tt
      go (Concrete d class) there signed runs = tt
      go (Generated g) there signed runs = tt
      go (Abstract d) there signed runs = tt
      go (OfAbstract g) there signed runs =
          let same : g.signature ≡ i.signature = some_same signed in
          checked.formals f g there ∙ (ap (λ (s : Signature). length s.ins) same ∙ arguments_length w scope i.signature.ins actuals i.arguments)
      go (Named name formals) there signed runs = tt
      go (Signed name formals signature executable) there signed runs = tt

  goal_named : (c : World) (scope : Scope) (given kinds : List Out) (goal : Then) (values : List (Shown ℕ)) → ThenFits w c scope given kinds goal → AreOutputs scope kinds values → FitGoal rs c goal values
  goal_named c scope given kinds (ThenBody names body) values (Bodies _ _ e ready) a = named c scope names values (subst (λ (ks : List Out). AreOutputs scope ks values) e a)
  goal_named c scope given kinds ThenValues values (Values e) a = tt
  goal_named c scope given kinds (ThenCall f) values (Calls _ k) a = tt

  parts_named : (c : World) (scope : Scope) (given done kinds all : List Out) (forms : Cores) (goal : Then) (values : List (Shown ℕ)) (k : Out) → AreReady c scope kinds forms → done ++ k ∷ kinds ≡ all
      → ThenFits w c scope given all goal → AreOutputs scope (done ++ k ∷ []) values → FitParts rs c forms goal values
  parts_named c scope given done [] all none goal values k ready e t a = goal_named c scope given all goal values t (subst (λ (ks : List Out). AreOutputs scope ks values) e a)
  parts_named c scope given done (i ∷ kinds) all none goal values k ready e t a = absurd ready
  parts_named c scope given done kinds all (more f fs) goal values k ready e t a = tt

  children_named : (forms : Cores) (names : List ℕ) → count forms ≡ length names → FitChildren rs rs.world forms names
  children_named none names e = no_names names e
  children_named (more f fs) names e = tt

  step_named : (c : World) (variables : Variables ℕ) (outer : Scope) (given : List Out) (step : Step ℕ B) (inner : Scope) (awaited : List Out) (values : List (Shown ℕ)) → StepFits w c variables outer given step inner awaited → AreOutputs inner awaited values
      → FitStep rs c step values
  step_named c variables outer given (Test b d) inner awaited values s a = tt
  step_named c variables outer given (Parts forms before goal) inner awaited values (Parted _ _ _ done kind kinds all s o ready e t) a =
      parts_named c outer given done kinds all forms goal (before ++ single by_number values ∷ []) kind ready e t (outs_more outer done before kind values o a)
  step_named c variables outer given (Several names body) inner awaited values (Severals _ _ s ready) a = named c outer names values a
  step_named c variables outer given (Calling f actuals) inner awaited values (Called _ _ _ i) a = formals_fit outer given f actuals i
  step_named c variables outer given (Guarding export name formals actuals body behind) inner awaited values s a = tt
  step_named c variables outer given (Running export formals actuals behind) inner awaited values s a = tt
  step_named c variables outer given (Allowing f actuals begun behind) inner awaited values s a = tt
  step_named c variables outer given (Exporting f actuals begun) inner awaited values (Exports _ _ _ _ i) a =
      formals_fit outer given f.exec actuals (exec_call keeping w threaded packages limit origins checked outer given f actuals i)
  step_named c variables outer given (Borrowing names forms loans vars producer consumer) inner awaited values (Borrows _ _ _ _ _ _ _ parent all s e n stobjs p q) a = children_named forms names n
  step_named c variables outer given (Producing vars loans consumer) inner awaited values (Produces _ _ _ _ s q) a = named c inner vars values a
  step_named c variables outer given (Putting vars left loans consumer us) inner awaited values (Puts _ _ _ _ _ _ inside s o q) a = named c inside vars us o
  step_named c variables outer given (Local names body) inner awaited values (Locals stobj _ _ s ready) a = named c inner names values a
  step_named c variables outer given (Last export) inner awaited values s a = tt

  frames_named : (cs : List World) (frames : List (Frame ℕ B)) (scope : Scope) (outs : List Out) (values : List (Shown ℕ)) → FramesFit w cs frames scope outs → AreOutputs scope outs values → FitFrames rs cs frames values
  frames_named [] [] scope outs values (Nothing _ _) a = tt
  frames_named [] (f ∷ fs) scope outs values x a = elim x [ ]
  frames_named (c ∷ cs) [] scope outs values x a = elim x [ ]
  frames_named (c ∷ cs) (f ∷ fs) inner awaited values (Inside _ _ variables outer given step _ _ _ s around) a = step_named c variables outer given step inner awaited values s a

  form_named : (c : World) (scope : Scope) (outs : List Out) (form : Core) → IsReady c scope outs form → FitForm rs c form
  unfolding IsFormed
  form_named c scope outs (cores.Var x) r = tt
  form_named c scope outs (cores.Const o) r = tt
  form_named c scope outs (cores.If a b d) r = tt
  form_named c scope outs (cores.Let names none body) r = subst (λ (xs : List ℕ). AreAsNamed {S = ℕ} c xs []) (sym (no_names names r.formed.0)) tt
  form_named c scope outs (cores.Let names (more f fs) body) r = tt
  form_named c scope outs (cores.Mv parts) r = tt
  form_named c scope outs (cores.MvLet names form body) r = tt
  form_named c scope outs (cores.StobjLet names forms vars producer consumer) r = tt
  form_named c scope outs (cores.WithLocal stobj names producer body) r = tt
  form_named c scope outs (cores.MustBeEqual logic exec) r = tt
  form_named c scope outs (cores.Call f fs) r = tt

  control_named : (ws : Worlds) (frames : List (Frame ℕ B)) (control : Control ℕ) → ControlFits w ws frames control → FitControl rs ws frames control
  control_named ws frames (Begin form variables) i = form_named ws.control i.scope i.outs form i.ready
  control_named ws frames (Give values) i = frames_named ws.frames frames i.scope i.outs values i.around i.given
  control_named ws frames (Stopped stop origin) i = tt

  -- ---- turns

  give_fits : (ws : Worlds) (cs : List World) (frames : List (Frame ℕ B)) (scope : Scope) (outs : List Out) (room : ℕ) (values : List (Shown ℕ)) (state : StateOf O) → FramesFit w cs frames scope outs → AreOutputs scope outs values
      → TurnFits w (after_give origins frames cs ws) (give rs room frames values state)
  give_fits ws [] [] scope outs room values state (Nothing _ _) a = tt
  give_fits ws [] (f ∷ fs) scope outs room values state x a = elim x [ ]
  give_fits ws (c ∷ cs) [] scope outs room values state x a = elim x [ ]
  give_fits ws (c ∷ cs) (f ∷ fs) inner awaited room values state (Inside _ _ variables outer given step _ _ _ s around) a =
      step_fits keeping w threaded packages limit origins checked c outer given cs fs around room variables step inner awaited values state s a

  close_fits : (ws later : Worlds) (room : ℕ) (frames : List (Frame ℕ B)) (stop : _) (origin : _) (state : StateOf O) → TurnFits w later (close rs room frames stop origin state)
  close_fits ws later room [] stop origin state = tt
  close_fits ws later room (f ∷ fs) stop origin state = tt

  control_fits : (ws : Worlds) (room : ℕ) (frames : List (Frame ℕ B)) (control : Control ℕ) (state : StateOf O) → ControlFits w ws frames control → TurnFits w (after_control rs origins room frames control ws) (turn_by rs room frames control state)
  control_fits ws room frames (Begin form variables) state i = begin_fits keeping w threaded packages limit origins checked ws frames variables room form state i
  control_fits ws room frames (Give values) state i = give_fits ws ws.frames frames i.scope i.outs room values state i.around i.given
  control_fits ws room frames (Stopped stop origin) state i = close_fits ws (after_stop ws.frames ws.control) room frames stop origin state

  turn_fits : (ws : Worlds) (m : Machine ℕ O B) → ControlFits w ws m.frames m.control → TurnFits w (worlds_after rs origins ws m) (turn_of rs m)
  unfolding worlds_after turn_of
  turn_fits ws m i = control_fits ws m.room m.frames m.control m.state i

  pub fits_for : (n : ℕ) (ws : Worlds) (m : Turned ℕ O B) → TurnFits w ws m → FitsFor rs origins n ws m
  fits_for n ws (machine.Over outcome) i = tt
  fits_for zero ws (Going m) i = tt
  fits_for (suc n) ws (Going m) i = (record { fits = control_named ws m.frames m.control i }, fits_for n (worlds_after rs origins ws m) (turn_of rs m) (turn_fits ws m i))

pub accepted_fit : {O B : Type 0} (keeping : Keeping ℕ O B) → AcceptedFit keeping
accepted_fit keeping = record {
  turns = λ w threaded packages limit origins checked n ws m i. fits_for keeping w threaded packages limit origins checked n ws m i;
  begun = λ w threaded packages limit origins checked c suits scope form expected formed none variables are n depth state.
      fits_for keeping w threaded packages limit origins checked n (begun_in c) (Going (begun_on depth form variables state))
      (record {
        scope = scope;
        outs = expected;
        surrounds = record { suits = suits; are = are };
        ready = record { formal = None; accepted = accepted_first c Executable scope form expected none; formed = formed };
        around = Nothing scope expected;
      });
}
